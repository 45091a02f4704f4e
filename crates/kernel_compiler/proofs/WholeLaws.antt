-- Laws of whole programs.
use Rattle.std.proofs.Common.{◌≡◌, ◌⊎◌, inl, inr, ℕ, ◌+◌, ◌<◌, ◌≤◌, List, ◌++◌, length, IsTrue, sym, ap, ◌∙◌, subst, arith, ℤ, Bool, true, false, nat_le, leb-false}
use Rattle.std.proofs.lemmas.Bool.{cases_lt}
use Rattle.std.proofs.lemmas.Bool.Decides.{nat_tests}
use Rattle.kernel_code.specs.declared.instructions.Instr.{Instr}
use Rattle.kernel_code.specs.Code.{IsCode}
use Rattle.kernel_code.specs.Paths.{MissesNothing}
use Rattle.std.proofs.lemmas.List.{length-map}
use Rattle.energy_program.specs.declared.programs.Program.{Program}
use Rattle.energy_program.specs.Tree.{Tree, tree_of, is_scoped}
use Rattle.energy_program.specs.Programs.{body_of, definitions_of, input_count_of}
use Rattle.energy_program.specs.Uses.{marks_of}
use Rattle.kernel_compiler.specs.Code.{stack_depth, definitions_code, tree_code, program_code, is_within_limits}
use Rattle.kernel_compiler.specs.Sizes.{size, definitions_size, IsEmittable, AllEmittable, counted}
use Rattle.kernel_compiler.specs.Compiled.{Computes}
use Rattle.kernel_compiler.proofs.Runs.{IsFine}
use Rattle.energy_program.proofs.Scopes.{IsValid, AreValid, valid_of, are_valid}
use Rattle.kernel_compiler.proofs.Scopes.{HaveLocals, all_emittable, emittable}
use Rattle.energy_program.proofs.MarkLaws.{marked_within, length-marks}
use Rattle.kernel_compiler.proofs.Fine.{AreFine, program_fine}
use Rattle.kernel_compiler.proofs.Shallow.{definitions_need, shallow, definitions_shallow}
use Rattle.kernel_compiler.proofs.Limits.{limit_of_sizes, program_is_code, within_has}
use Rattle.kernel_compiler.proofs.ProgramLaws.{program_computes, program_misses_nothing}

is_le : (n m : ℕ) → n ≤ m → nat_le n m ≡ true
is_le n m le = grind (arith, nat_tests)

not_le : (n m : ℕ) → m < n → nat_le n m ≡ false
not_le n m lt = grind (arith, nat_tests)

module _ {A : Type 0} (p : Program A) where
  abbrev inputs : ℕ
  inputs = input_count_of p

  abbrev body : Tree
  body = body_of p

  abbrev ds : List Tree
  ds = definitions_of p

  few : inputs ≤ 33
  few = let a = p.few_parameters in let b = p.few_globals in omega arith

  all : length p.definitions.items ≡ length ds
  all = sym (length-map p.definitions.items tree_of)

  short : length ds ≤ 254
  short = let least = p.few_definitions in omega (arith, all)

  scoped : IsTrue (is_scoped inputs 0 (length ds) body)
  scoped = subst (λ n. IsTrue (is_scoped inputs 0 n body)) all p.body_scoped

  valid : IsValid inputs 0 (length ds) body
  valid = valid_of inputs 0 (length ds) body scoped

  valids : AreValid inputs 0 (length ds) ds
  valids = are_valid inputs 0 (length ds) ds (omega arith) p.definitions_scoped

  fine : IsFine inputs (marks_of body ds) 0 body × AreFine inputs (marks_of body ds) 0 ds
  fine = program_fine inputs body ds scoped p.definitions_scoped

  -- there are enough locals for the definitions
  have : HaveLocals (marks_of body ds)
  have k on =
      let lt = marked_within (marks_of body ds) k on in
      let len = length-marks body ds in
      let least = p.few_definitions in
      omega (arith, all)

  -- the body of a program can be emitted
  pub body_emittable : IsEmittable body
  body_emittable = emittable inputs 0 (length ds) body few short valid

  -- each definition of a program can be emitted, and has a local
  pub definitions_emittable : AllEmittable 0 ds
  definitions_emittable = all_emittable inputs 0 (length ds) ds few short (omega arith) valids

  -- the number of instructions of the program's code
  abbrev whole_size : ℕ
  whole_size = definitions_size 0 (marks_of body ds) ds + size body

  -- code that isn't within the limit has too many instructions
  pub too_long : (bits : ℕ) → is_within_limits (program_code bits body ds) ≡ false → 16384 < length (program_code bits body ds)
  unfolding is_within_limits
  too_long bits h = leb-false (length (program_code bits body ds)) 16384 h

  -- code within the limit is code: it is short enough, and its jumps go forwards
  pub is_code : (bits : ℕ) → is_within_limits (program_code bits body ds) ≡ true → IsCode (program_code bits body ds)
  is_code bits h = program_is_code bits body ds (within_has bits body ds h)

  low : whole_size ≤ 16384 → stack_depth body ≤ 64
  low fits = let b = shallow body (omega arith) in omega arith

  lows : whole_size ≤ 16384 → definitions_need 0 (marks_of body ds) ds ≤ 64
  lows fits = definitions_shallow 0 (marks_of body ds) ds (omega arith)

  -- code within the limit computes its program on each list of at least `inputs` inputs
  pub computes : (bits : ℕ) → is_within_limits (program_code bits body ds) ≡ true → (xs : List ℤ) → inputs ≤ length xs → Computes bits body ds (program_code bits body ds) xs
  computes bits h xs enough = let f = within_has bits body ds h in program_computes bits inputs body ds xs have fine.0 fine.1 (lows f) (low f) enough

  -- no path of code within the limit misses anything
  pub misses_nothing : (bits : ℕ) → is_within_limits (program_code bits body ds) ≡ true → MissesNothing (program_code bits body ds) inputs
  misses_nothing bits h = let f = within_has bits body ds h in program_misses_nothing bits inputs body ds have fine.0 fine.1 (lows f) (low f)

  -- the test of how many instructions are counted
  pub measured : (bits first count : ℕ) → first ≡ counted (definitions_size 0 (marks_of body ds) ds) → count ≡ counted (first + counted (size body)) → is_within_limits (program_code bits body ds) ≡ nat_le count 16384
  measured bits first count e f = limit_of_sizes bits body ds ∙ by (cases_lt 16384 count)
    where
      by : (16384 < count) ⊎ (count ≤ 16384) → nat_le whole_size 16384 ≡ nat_le count 16384
      by (inl long) = not_le whole_size 16384 (omega (arith, e, f, long)) ∙ sym (not_le count 16384 long)
      by (inr short) = is_le whole_size 16384 (omega (arith, e, f, short)) ∙ sym (is_le count 16384 short)

-- the code of the marked definitions, followed by the code of the body, is the program's code
pub whole_code : (bits : ℕ) (body : Tree) (ds : List Tree) (m : List Bool) (first code : List Instr) → m ≡ marks_of body ds → first ≡ definitions_code bits 0 m ds → code ≡ first ++ tree_code bits (length first) body → code ≡ program_code bits body ds
unfolding program_code
whole_code bits body ds m first code e0 e1 e2 =
    e2 ∙ ap (λ l. l ++ tree_code bits (length l) body) (e1 ∙ ap (λ l. definitions_code bits 0 l ds) e0)
