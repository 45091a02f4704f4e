-- Names of a job's energy, and its kernel's table.
use Rattle.std.proofs.Common.{◌≡◌, ℕ, ◌<◌, ◌≤◌, arith, List, [], ◌∷◌, length, ℤ, Ok, get_or, refl, sym, ap, ◌∙◌, map}
use Rattle.std.specs.List.{All}
use Rattle.std.proofs.lemmas.List.{length-map}
use Rattle.line_text.proofs.Items.{all_alike}
use Rattle.std.proofs.lemmas.List.Elements.{All-map, All-same}
use Rattle.derivative.specs.Derive.{slope_program}
use Rattle.energy_program.specs.Faults.{refusal_of}
use Rattle.energy_program.specs.Names.{names_from}
use Rattle.energy_program.specs.Programs.{Trees}
use Rattle.energy_program.specs.Tree as trees
use Rattle.energy_program.specs.declared.faults.ExprFault.{ExprFault}
use Rattle.expr.specs.Energy.{trees_in}
use Rattle.fallible.specs.Failures.{Fails}
use Rattle.fallible.specs.declared.failure.Failure.{Failure}
use Rattle.fallible.proofs.FailureLaws.{fails_as}
use Rattle.job.specs.Values.{JobValue}
use Rattle.kernel_code.specs.declared.instructions.Instr.{Instr}
use Rattle.kernel_compiler.specs.Code.{compiled}
use Rattle.job.specs.Views.{global_value, job_value, type_value}
use Rattle.job.specs.declared.jobs.AtomType.{AtomType}
use Rattle.job.specs.declared.jobs.Global.{Global}
use Rattle.job.specs.declared.jobs.Job.{Job}
use Rattle.kernel_code.specs.Tables.{Table, inputs_of}
use Rattle.potential.specs.Tables.{global_values, numbers_of, table_of, type_rows}
use Rattle.potential.specs.Energies.{Energy, IsCompiled, energy_code_of, energy_from, energy_of, global_names, job_program}
use Rattle.potential.specs.CodeSlopes.{GivesSlope}
use Rattle.potential.proofs.CodeSlopeLaws.{enough, gives}
use Rattle.fixed.specs.Fractions.{bits_of}
use Rattle.fixed.specs.declared.frac.Frac.{Frac}

-- the names of globals are seen as the names in the code's globals
pub names-views : {A : Type 0} (globals : List (Global A)) → global_names (map global_value globals) ≡ map (λ g. g.name.items) globals
names-views [] = refl
names-views (g ∷ gs) = ap (λ names. g.name.items ∷ names) (names-views gs)

-- ---- tables

-- each of a job's types has a value for each parameter
pub whole_rows : {X Y : Type 0} (row : X → List ℤ) (values : Y → List ℤ) (rows : List X) (types : List Y) (n : ℕ) → map row rows ≡ map values types → All (λ t. length (values t) ≡ n) types
    → All (λ r. length (row r) ≡ n) rows
whole_rows row values rows types n e h = all_alike (λ r. length r ≡ n) row values rows types e h

made : (f f' : Frac) (p p' : ℕ) (r r' : List (List ℤ)) (g g' : List ℤ) → f ≡ f' → p ≡ p' → r ≡ r' → g ≡ g'
    → ◌≡◌ {A = Table} (record { frac = f; parameters = p; rows = r; globals = g }) (record { frac = f'; parameters = p'; rows = r'; globals = g' })
made f f' p p' r r' g g' a b c d = rw (a, b, c, d) refl

-- tables with equal parts are equal
pub table_alike : (t u : Table) → t.frac ≡ u.frac → t.parameters ≡ u.parameters → t.rows ≡ u.rows → t.globals ≡ u.globals → t ≡ u
table_alike t u frac parameters rows globals =
    made t.frac u.frac t.parameters u.parameters t.rows u.rows t.globals u.globals frac parameters rows globals

-- the types that a job has, as rows of its table
pub rows_of_types : {A : Type 0} (types : List (AtomType A)) → map (λ t. numbers_of t.values.items) types ≡ type_rows (map type_value types)
rows_of_types [] = refl
rows_of_types (t ∷ ts) = ap (λ r. numbers_of t.values.items ∷ r) (rows_of_types ts)

-- the number of rows of a job's table is the number of the job's types
pub length-rows : {A : Type 0} (types : List (AtomType A)) → length (type_rows (map type_value types)) ≡ length types
length-rows types = length-map (map type_value types) (λ t. numbers_of t.values) ∙ length-map types type_value

-- the number of globals of a job's table is the number of the job's globals
pub length-globals : {A : Type 0} (globals : List (Global A)) → length (global_values (map global_value globals)) ≡ length globals
length-globals globals = length-map (map global_value globals) (λ g. g.value.value) ∙ length-map globals global_value

-- the inputs of a pair of a job's types are enough for its energy
pub enough_of_job : {A : Type 0} (j : Job A) (a b : ℕ) (r : ℤ) → a < length (table_of (job_value j)).rows → b < length (table_of (job_value j)).rows
    → trees.variable_count (length j.parameters.items) (length j.globals.items) ≤ length (inputs_of (table_of (job_value j)) a b r)
enough_of_job j a b r first second =
    let t = table_of (job_value j) in
    let whole : All (λ row. length row ≡ t.parameters) t.rows =
    All-same (λ row. length row ≡ t.parameters) t.rows (map (λ t. numbers_of t.values.items) j.types.items) (sym (rows_of_types j.types.items))
    (All-map (λ row. length row ≡ t.parameters) (λ t. numbers_of t.values.items) j.types.items
    (λ k d h. length-map (get_or j.types.items k d).values.items (λ c. c.value) ∙ j.whole k d h ∙ sym (length-map j.parameters.items (λ p. p.items)))) in
    omega (arith, enough t a b r whole first second, length-globals j.globals.items, length-map j.parameters.items (λ p. p.items))

-- the kernel of a job gives its energy's slope
pub kernel_gives : {A : Type 0} (j : Job A) (t : Table) (e : Energy) → t ≡ table_of (job_value j) → IsCompiled (bits_of j.frac) (length j.parameters.items) (length j.globals.items) e
    → (a b : ℕ) (r : ℤ) → a < length t.rows → b < length t.rows → GivesSlope (bits_of t.frac) e.tree e.code (inputs_of t a b r)
kernel_gives j t e same h =
    let u = table_of (job_value j) in
    rw same (λ a b r first second. gives (bits_of j.frac) e.tree e.slope e.code (inputs_of u a b r) (h (inputs_of u a b r) (enough_of_job j a b r first second)))

-- code compiled for a job's numbers of parameters and globals is compiled for the numbers in the job's value
pub compiled_for : {A : Type 0} (j : Job A) (e : Energy) → IsCompiled (bits_of j.frac) (length j.parameters.items) (length j.globals.items) e → IsCompiled (bits_of j.frac) (length (job_value j).parameters) (length (job_value j).globals) e
compiled_for j e h = rw (length-map j.parameters.items (λ p. p.items), length-map j.globals.items global_value) h

-- ---- the steps from a job to its energy

-- a job whose names are refused has no program
pub names_refused : {A : Type 0} (j : JobValue) (failure : Failure (ExprFault A)) → Fails refusal_of failure (names_from j.parameters (global_names j.globals)) → Fails refusal_of failure (job_program j)
unfolding job_program
names_refused j failure h = fails_as refusal_of failure (names_from j.parameters (global_names j.globals)) (job_program j) (λ fault e. rw e refl) h

-- a job's text is read by its names
pub program_by : (j : JobValue) (variables : List (List ℕ)) → names_from j.parameters (global_names j.globals) ≡ Ok variables → job_program j ≡ trees_in (bits_of j.frac) variables j.energy
unfolding job_program
program_by j variables e = rw e refl

-- a program whose slope is refused has no energy
pub slope_refused : {A : Type 0} (bits : ℕ) (program : Trees) (failure : Failure (ExprFault A)) → Fails refusal_of failure (slope_program bits program) → Fails refusal_of failure (energy_from bits program)
unfolding energy_from
slope_refused bits program failure h = fails_as refusal_of failure (slope_program bits program) (energy_from bits program) (λ fault e. rw e refl) h

-- nor has one whose slope has no code
pub code_refused : {A : Type 0} (bits : ℕ) (program slope : Trees) (failure : Failure (ExprFault A)) → slope_program bits program ≡ Ok slope → Fails refusal_of failure (compiled bits slope.0 slope.1)
    → Fails refusal_of failure (energy_from bits program)
unfolding energy_from
code_refused bits program slope failure s h = fails_as refusal_of failure (compiled bits slope.0 slope.1) (energy_from bits program) (λ fault e. rw (s, e) refl) h

-- a program with a slope and the code of that
pub energy_made : (bits : ℕ) (program slope : Trees) (code : List Instr) → slope_program bits program ≡ Ok slope → compiled bits slope.0 slope.1 ≡ Ok code
    → energy_from bits program ≡ Ok (record { tree = trees.substituted program.0 program.1; slope = slope; code = code })
unfolding energy_from
energy_made bits program slope code s e = rw (s, e) refl

-- a job without a program has no energy
pub program_refused : {A : Type 0} (j : JobValue) (failure : Failure (ExprFault A)) → Fails refusal_of failure (job_program j) → Fails refusal_of failure (energy_of j)
unfolding energy_of
program_refused j failure h = fails_as refusal_of failure (job_program j) (energy_of j) (λ fault e. rw e refl) h

-- a job's energy is the energy of the job's program
pub energy_by : (j : JobValue) (program : Trees) → job_program j ≡ Ok program → energy_of j ≡ energy_from (bits_of j.frac) program
unfolding energy_of
energy_by j program e = rw e refl

-- a job without a program has no code of its energy
pub energy_code_refused : {A : Type 0} (j : JobValue) (failure : Failure (ExprFault A)) → Fails refusal_of failure (job_program j)
    → Fails refusal_of failure (energy_code_of j)
unfolding energy_code_of
energy_code_refused j failure h = fails_as refusal_of failure (job_program j) (energy_code_of j) (λ fault e. rw e refl) h

-- the code of a job's energy is the code of the job's program
pub energy_code_by : (j : JobValue) (program : Trees) → job_program j ≡ Ok program
    → energy_code_of j ≡ compiled (bits_of j.frac) program.0 program.1
unfolding energy_code_of
energy_code_by j program e = rw e refl
