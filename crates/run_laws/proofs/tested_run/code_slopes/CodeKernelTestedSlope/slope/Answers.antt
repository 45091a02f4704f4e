use Rattle.fixed.specs.Fractions.{bits_of}
use Rattle.energy_program.specs.Programs.{program_tree}
use Rattle.kernel_code.specs.Tables.{inputs_of}
use Rattle.run_laws.proofs.OutcomeLaws.{given_fault, given_none, given_value, only_operations}
use Rattle.run_laws.proofs.tested_run.code_slopes.CodeKernelTestedSlope.slope.Goals as goal

pub operation_fault-requires : goal.operation_fault-requires
operation_fault-requires g c =
    let k = c.args.self.now in
    let inputs = inputs_of k.table c.args.a c.args.b c.args.r in
    only_operations (bits_of k.table.frac) (program_tree k.parts.energy) k.parts.code inputs c.in-Err.trap (k.gives c.args.a c.args.b c.args.r c.requires.lower c.requires.higher) c.in-Err.ensures.ends

pub returns-in-Ok-clause-value : goal.returns-in-Ok-clause-value
returns-in-Ok-clause-value g c =
    let k = c.args.self.now in
    let inputs = inputs_of k.table c.args.a c.args.b c.args.r in
    given_value (bits_of k.table.frac) (program_tree k.parts.energy) k.parts.code inputs c.in-Ok.slope (k.gives c.args.a c.args.b c.args.r c.requires.lower c.requires.higher) c.in-Ok.ensures.ends

pub returns-in-Err-clause-none : goal.returns-in-Err-clause-none
returns-in-Err-clause-none g c =
    let k = c.args.self.now in
    let inputs = inputs_of k.table c.args.a c.args.b c.args.r in
    given_none (bits_of k.table.frac) (program_tree k.parts.energy) k.parts.code inputs c.in-Err.trap (k.gives c.args.a c.args.b c.args.r c.requires.lower c.requires.higher) c.in-Err.ensures.ends

pub returns-in-Err-clause-fault : goal.returns-in-Err-clause-fault
returns-in-Err-clause-fault g c =
    let k = c.args.self.now in
    let inputs = inputs_of k.table c.args.a c.args.b c.args.r in
    given_fault (bits_of k.table.frac) (program_tree k.parts.energy) k.parts.code inputs c.in-Err.trap c.operation_fault.result (k.gives c.args.a c.args.b c.args.r c.requires.lower c.requires.higher) c.in-Err.ensures.ends c.operation_fault.ensures
