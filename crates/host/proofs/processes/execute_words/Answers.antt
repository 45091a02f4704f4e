use Rattle.host.proofs.processes.execute_words.Goals as goal

pub returns-in-Ok-clause-undone : goal.returns-in-Ok-clause-undone
returns-in-Ok-clause-undone g c = rw c.in-Ok.is (rw c.as_slice.ensures.value at c.execute.ensures.undone)
