use Rattle.verifier.proofs.path_instructions.lead.Goals as goal

pub returns-in-JumpIfZero : goal.returns-in-JumpIfZero
returns-in-JumpIfZero c = rw c.in-JumpIfZero.is (c.join-in-JumpIfZero.new.meetings, c.join-in-JumpIfZero.ensures, c.join-in-JumpIfZero-2.ensures)
