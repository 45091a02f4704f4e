use Rattle.std.proofs.Common.{◌≡◌, ℕ, ◌+◌, ◌<◌, length, false, refl, ap, ◌∙◌, arith}
use Rattle.std.proofs.lemmas.Bool.Decides.{nat_tests}
use Rattle.std.proofs.lemmas.List.{length-map}
use Rattle.energy_program.specs.Tree.{tree_of}
use Rattle.energy_program.specs.Programs.{body_of, definitions_of}
use Rattle.energy_program.specs.Uses.{marks_of}
use Rattle.energy_program.specs.declared.programs.Program.{Program}
use Rattle.kernel_compiler.specs.Code.{is_within_limits, program_code}
use Rattle.kernel_compiler.specs.Sizes.{counted, definitions_size, size}
use Rattle.energy_program.proofs.MarkLaws.{length-marks}
use Rattle.kernel_compiler.proofs.Limits.{limit_of_sizes}
use Rattle.kernel_compiler.proofs.WholeLaws.{body_emittable, definitions_emittable, measured}
use Rattle.kernel_compiler.proofs.code_limits.is_within_limits.Goals as goal

-- a program with more instructions isn't within the limits
exceeded : {A : Type 0} (p : Program A) (bits : ℕ)
    → 16384 < definitions_size 0 (marks_of (body_of p) (definitions_of p)) (definitions_of p) + size (body_of p)
    → is_within_limits (program_code bits (body_of p) (definitions_of p)) ≡ false
exceeded p bits h = limit_of_sizes bits (body_of p) (definitions_of p) ∙ grind (arith, nat_tests, h)

pub are_small-requires : goal.are_small-requires
are_small-requires g c =
    omega (arith, ap length c.deref.ensures.value, ap length c.requires, length-marks (body_of c.args.program.now) (definitions_of c.args.program.now), length-map c.args.program.now.definitions.items tree_of)

pub returns-then-not-branch : goal.returns-then-not-branch
returns-then-not-branch g c = λ bits.
    let large = rw (c.deref.ensures.value, c.requires) at (c.in_ok-are_small.ensures c.if-not-branch.true) in
    exceeded c.args.program.now bits (omega (arith, large))

pub returns-then-not-branch-2 : goal.returns-then-not-branch-2
returns-then-not-branch-2 g c = λ bits.
    let large = c.in_ok-is_small.ensures c.if-not-branch-2.true in
    exceeded c.args.program.now bits (omega (arith, large))

pub definitions_count-definitions-requires-clause-all : goal.definitions_count-definitions-requires-clause-all
definitions_count-definitions-requires-clause-all g c =
    omega (arith, ap length c.deref-2.ensures.value, ap length c.requires, length-marks (body_of c.args.program.now) (definitions_of c.args.program.now), length-map c.args.program.now.definitions.items tree_of)

pub definitions_count-definitions-requires-clause-operands : goal.definitions_count-definitions-requires-clause-operands
definitions_count-definitions-requires-clause-operands g c = rw c.deref-2.ensures.value (definitions_emittable c.args.program.now)

pub count-requires : goal.count-requires
count-requires g c = body_emittable c.args.program.now

pub returns : goal.returns
returns g c = λ bits.
    let program = c.args.program.now in
    let first : c.definitions_count-definitions.result ≡ counted (definitions_size 0 (marks_of (body_of program) (definitions_of program)) (definitions_of program)) = rw (c.deref-2.ensures.value, c.requires) at c.definitions_count-definitions.ensures in
    measured program bits c.definitions_count-definitions.result c.saturating_add.result first (c.saturating_add.ensures ∙ rw c.count.ensures refl)
