use Rattle.std.proofs.Common.{◌≡◌, List, Err, sym, ◌∙◌, subst, true}
use Rattle.fixed.specs.Fractions.{bits_of}
use Rattle.kernel_code.specs.declared.instructions.Instr.{Instr}
use Rattle.kernel_code.specs.Code.{ChecksAs}
use Rattle.kernel_code.specs.Paths.{MissesNothing}
use Rattle.kernel_code.proofs.CodeLaws.{code_has_no_fault}
use Rattle.energy_program.specs.Programs.{body_of, definitions_of, input_count_of}
use Rattle.kernel_compiler.specs.Code.{program_code, is_within_limits}
use Rattle.kernel_compiler.specs.Compiled.{Computes}
use Rattle.kernel_compiler.proofs.WholeLaws.{is_code, computes, misses_nothing, too_long}
use Rattle.kernel_compiler.proofs.compiler.compile.Goals as goal

pub returns-then-not-branch-clause-refused : goal.returns-then-not-branch-clause-refused
returns-then-not-branch-clause-refused g c = λ large.
    too_long c.args.program.now (bits_of c.args.frac) (c.in_ok-is_within_limits.ensures (bits_of c.args.frac) ∙ c.if-not-branch.true)

pub unreachable-requires : goal.unreachable-requires
unreachable-requires g c =
    let code = program_code (bits_of c.args.frac) (body_of c.args.program.now) (definitions_of c.args.program.now) in
    let within : is_within_limits code ≡ true = c.in_ok-is_within_limits.ensures (bits_of c.args.frac) ∙ c.if-not-branch.false in
    absurd (code_has_no_fault code c.in-Err.field-0 (is_code c.args.program.now (bits_of c.args.frac) within)
    (subst (λ (l : List Instr). ChecksAs l (Err c.in-Err.field-0)) c.in_ok-instructions.ensures c.in-Err.ensures))

pub returns-clause-value : goal.returns-clause-value
returns-clause-value g c = λ inputs enough.
    let code = program_code (bits_of c.args.frac) (body_of c.args.program.now) (definitions_of c.args.program.now) in
    let within : is_within_limits code ≡ true = c.in_ok-is_within_limits.ensures (bits_of c.args.frac) ∙ c.if-not-branch.false in
    let same : c.in-Ok.code ≡ code = c.in-Ok.ensures.0 ∙ c.in_ok-instructions.ensures in
    subst (λ (l : List Instr). Computes (bits_of c.args.frac) (body_of c.args.program.now) (definitions_of c.args.program.now) l inputs) (sym same)
    (computes c.args.program.now (bits_of c.args.frac) within inputs enough)

pub returns-clause-paths : goal.returns-clause-paths
returns-clause-paths g c =
    let code = program_code (bits_of c.args.frac) (body_of c.args.program.now) (definitions_of c.args.program.now) in
    let within : is_within_limits code ≡ true = c.in_ok-is_within_limits.ensures (bits_of c.args.frac) ∙ c.if-not-branch.false in
    let same : c.in-Ok.code ≡ code = c.in-Ok.ensures.0 ∙ c.in_ok-instructions.ensures in
    subst (λ (l : List Instr). MissesNothing l (input_count_of c.args.program.now)) (sym same) (misses_nothing c.args.program.now (bits_of c.args.frac) within)
