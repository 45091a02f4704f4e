-- The code of the slope of an energy computes this slope, if the energy was read from a text.
use Rattle.std.proofs.Common.{◌≡◌, ℕ, ◌≤◌, ℤ, Bool, true, false, IsTrue, List, ◌++◌, length, length-append, Ok, Err, Some, nat_lt, arith, refl, ap, sym, subst, ◌∙◌, codes, if◌then◌else◌, ltb-false}
use Rattle.std.proofs.lemmas.List.{length-map}
use Rattle.line_text.proofs.StepLaws.{bind_ok, err_is_no_ok, same_ok}
use Rattle.fixed.specs.Arithmetic.{in_range, one}
use Rattle.fixed.specs.Fractions.{bits_of}
use Rattle.fixed.specs.declared.frac.Frac.{Frac}
use Rattle.fixed.specs.declared.frac.Frac.TheVariants.{F24, F32, F40}
use Rattle.energy_program.specs.Faults.{TooLarge}
use Rattle.energy_program.specs.Names.{first_particle, names_from, second_particle, variables_of}
use Rattle.energy_program.specs.Programs.{Trees}
use Rattle.energy_program.specs.Tree.{Tree, are_scoped, is_scoped, substituted, variable_count}
use Rattle.energy_program.specs.Uses.{marks_of}
use Rattle.energy_program.specs.Value.{value_of}
use Rattle.energy_program.proofs.MarkLaws.{length-marks, marked_within}
use Rattle.expr.specs.Energy.{trees_in}
use Rattle.derivative.specs.Derive.{pruned, slope_program, with_all}
use Rattle.derivative.specs.Slope.{fixed_point, slope_of}
use Rattle.derivative.proofs.Left.{left_body_scoped, left_definitions_scoped, same_tree}
use Rattle.derivative.proofs.Readings.{fixed_reads}
use Rattle.derivative.proofs.Shared.{with_all_value}
use Rattle.derivative.proofs.Uses.{body_scoped, definitions_scoped}
use Rattle.kernel_code.specs.Machine.{Ends}
use Rattle.kernel_code.specs.declared.instructions.Instr.{Instr}
use Rattle.kernel_compiler.specs.Code.{compiled, is_within_limits, program_code}
use Rattle.kernel_compiler.specs.Compiled.{Computes}
use Rattle.kernel_compiler.proofs.Fine.{program_fine}
use Rattle.kernel_compiler.proofs.Limits.{within_has}
use Rattle.kernel_compiler.proofs.ProgramLaws.{program_computes}
use Rattle.kernel_compiler.proofs.Shallow.{definitions_shallow, shallow}
use Rattle.job.specs.Values.{GlobalValue, JobValue}
use Rattle.potential.specs.Energies.{Energy, energy_from, energy_of, global_names, job_program}
use Rattle.potential.proofs.InputLaws.{are_variables}
use Rattle.run_laws.proofs.ReadPrograms.{read_scoped}

-- ---- the slope's program

one_fits : (f : Frac) → IsTrue (in_range (one (bits_of f)))
one_fits F24 = refl
one_fits F32 = refl
one_fits F40 = refl

-- a program with the slope as its value, in scope, and with at most 128 definitions
record IsSlope (f : Frac) (count : ℕ) (program slope : Trees) : Type 0 where
  value : (inputs : List ℤ) → value_of (bits_of f) inputs (substituted slope.0 slope.1) ≡ slope_of (bits_of f) inputs (substituted program.0 program.1)
  body : IsTrue (is_scoped count 0 (length slope.1) slope.0)
  definitions : IsTrue (are_scoped count 0 slope.1)
  few : length slope.1 ≤ 128

module _ (f : Frac) (count : ℕ) (program : Trees) (body : IsTrue (is_scoped count 0 (length program.1) program.0)) (definitions : IsTrue (are_scoped count 0 program.1)) where
  abbrev whole : Trees
  whole = with_all (bits_of f) program

  whole_body : IsTrue (is_scoped count 0 (length whole.1) whole.0)
  whole_body = body_scoped count (bits_of f) program.0 program.1 body

  whole_definitions : IsTrue (are_scoped count 0 whole.1)
  whole_definitions = definitions_scoped count (bits_of f) program.0 program.1 definitions

  pruned_is : length (pruned whole).1 ≤ 128 → IsSlope f count program (pruned whole)
  pruned_is few = record {
    value = λ inputs.
        ap (value_of (bits_of f) inputs) (same_tree count whole.0 whole.1 whole_body whole_definitions)
        ∙ with_all_value (bits_of f) (fixed_point (bits_of f)) (value_of (bits_of f) inputs) (fixed_reads (bits_of f) (one_fits f) inputs) count program.0 program.1 body definitions;
    body = left_body_scoped count whole.0 whole.1 whole_body whole_definitions;
    definitions = left_definitions_scoped count whole.0 whole.1 whole_body whole_definitions;
    few = few;
  }

  within : (many : Bool) (slope : Trees) → nat_lt 128 (length (pruned whole).1) ≡ many → (if many then Err TooLarge else Ok (pruned whole)) ≡ Ok slope → IsSlope f count program slope
  within true slope e h = absurd (err_is_no_ok TooLarge slope h)
  within false slope e h = subst (IsSlope f count program) (same_ok (pruned whole) slope h) (pruned_is (ltb-false 128 (length (pruned whole).1) e))

  slope_is : (slope : Trees) → slope_program (bits_of f) program ≡ Ok slope → IsSlope f count program slope
  slope_is slope h = within (nat_lt 128 (length (pruned whole).1)) slope refl h

-- ---- its code

module _ (bits inputs : ℕ) (body : Tree) (ds : List Tree) (scoped : IsTrue (is_scoped inputs 0 (length ds) body)) (scoped' : IsTrue (are_scoped inputs 0 ds)) (few : length ds ≤ 128) where
  code_computes : is_within_limits (program_code bits body ds) ≡ true → (xs : List ℤ) → inputs ≤ length xs → Computes bits body ds (program_code bits body ds) xs
  code_computes h xs enough =
      let fine = program_fine inputs body ds scoped scoped' in
      let short = within_has bits body ds h in
      let low = shallow body (omega (arith, short)) in
      program_computes bits inputs body ds xs
      (λ k on. let l = marked_within (marks_of body ds) k on in let n = length-marks body ds in omega (arith, l, n, few)) fine.0 fine.1
      (definitions_shallow 0 (marks_of body ds) ds (omega (arith, short))) (omega (arith, low)) enough

  at_limit : (fits : Bool) (code : List Instr) → is_within_limits (program_code bits body ds) ≡ fits → (if fits then Ok (program_code bits body ds) else Err TooLarge) ≡ Ok code
      → (xs : List ℤ) → inputs ≤ length xs → Computes bits body ds code xs
  at_limit true code e h xs enough = subst (λ (c : List Instr). Computes bits body ds c xs) (same_ok (program_code bits body ds) code h) (code_computes e xs enough)
  at_limit false code e h xs enough = absurd (err_is_no_ok TooLarge code h)

  compiled_computes : (code : List Instr) → compiled bits body ds ≡ Ok code → (xs : List ℤ) → inputs ≤ length xs → Computes bits body ds code xs
  compiled_computes code h = at_limit (is_within_limits (program_code bits body ds)) code refl h

-- ---- of a job

variables_are : (parameters globals : List (List ℕ)) → length (variables_of parameters globals) ≡ variable_count (length parameters) (length globals)
variables_are parameters globals =
    let a = length-append (first_particle parameters) (second_particle parameters ++ globals) in
    let b = length-append (second_particle parameters) globals in
    let c = length-map parameters (λ p. p ++ codes "1") in
    let d = length-map parameters (λ p. p ++ codes "2") in
    omega (arith, a, b, c, d)

-- if the code of the slope of a job's energy returns a value, the value is the slope
pub gives_slope : (j : JobValue) (energy : Energy) → energy_of j ≡ Ok energy → (inputs : List ℤ) → variable_count (length j.parameters) (length j.globals) ≤ length inputs
    → (n : ℕ) (v : ℤ) → Ends (bits_of j.frac) energy.code inputs n (Ok v) → slope_of (bits_of j.frac) inputs energy.tree ≡ Some v
unfolding energy_of job_program energy_from
gives_slope j energy e inputs enough n v ends =
    let bits = bits_of j.frac in
    let a = bind_ok (job_program j) (energy_from bits) energy e in
    let names = bind_ok (names_from j.parameters (global_names j.globals)) (λ names. trees_in bits names j.energy) a.0 a.1 in
    let slope = bind_ok (slope_program bits a.0) _ energy a.2 in
    let code = bind_ok (compiled bits slope.0.0 slope.0.1) _ energy slope.2 in
    let same = same_ok _ energy code.2 in
    let scope = read_scoped names.0 bits j.energy a.0 names.2 in
    let is = slope_is j.frac (length names.0) a.0 scope.body scope.definitions slope.0 slope.1 in
    let known = (are_variables j.parameters (global_names j.globals) names.0 names.1).1 in
    let count : length names.0 ≡ variable_count (length j.parameters) (length j.globals) =
    ap length (sym known) ∙ variables_are j.parameters (global_names j.globals) ∙ ap (variable_count (length j.parameters)) (length-map j.globals (λ (g : GlobalValue). g.name)) in
    let computes = compiled_computes bits (length names.0) slope.0.0 slope.0.1 is.body is.definitions is.few code.0 code.1 inputs (omega (arith, count, enough)) in
    subst (λ (x : Energy). Ends bits x.code inputs n (Ok v) → slope_of bits inputs x.tree ≡ Some v) same (λ h. sym (is.value inputs) ∙ computes.value n v h) ends
