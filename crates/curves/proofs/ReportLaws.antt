-- The parts that are reported before a failure.
use Rattle.std.proofs.Common.{◌≡◌, ◌∙◌, ℕ, ◌+◌, ◌-◌, ◌*◌, ◌<◌, ◌≤◌, length, Option, None, Some, Result, Ok, Err, refl, sym, subst, ap, arith, inl, inr, IfErr, IsErrAnd, OnOk}
use Rattle.std.proofs.Math.Nat.{add-mul, mul-add}
use Rattle.std.proofs.lemmas.Nat.{mul-le}
use Rattle.fallible.specs.Failures.{IfRefused}
use Rattle.fallible.specs.declared.failure.Failure.{Failure}
use Rattle.fallible.specs.declared.failure.Failure.TheVariants.{Memory, Refused}
use Rattle.fallible.specs.declared.output.OutFault.{OutFault}
use Rattle.job.specs.Values.{JobValue}
use Rattle.potential.specs.Energies.{energy_code_of, slope_code_of}
use Rattle.potential.specs.EnergyKernels.{HasNoEnergyKernel}
use Rattle.potential.specs.Progress.{IsPassedBefore, slices_of}
use Rattle.potential.specs.Verdicts.{HasNoSlopeKernel, IsSlopeKernel}
use Rattle.potential.specs.declared.faults.EnergyFault.{EnergyFault}
use Rattle.verifier.specs.Kernels.{Kernel}
use Rattle.curves.specs.Progress.{IsStoppedAfter}
use Rattle.curves.specs.Tables.{table_count}
use Rattle.curves.specs.Writing.{StopsAt, tables_before}

-- a fact that doesn't depend on the error
pub whatever_error : {X E : Type 0} (r : Result X E) (P : Type 0) → P → IfErr r (λ _. P)
whatever_error (Ok x) P h = tt
whatever_error (Err e) P h = h

-- a fact that doesn't depend on the value
pub whatever_value : {X E : Type 0} (r : Result X E) (P : Type 0) → P → OnOk r P
whatever_value (Ok x) P h = h
whatever_value (Err e) P h = tt

-- a failure of the slope
pub slope_stopped : {A : Type 0} (j : JobValue) (n : ℕ) (failure : Failure (EnergyFault A)) → IfRefused failure (HasNoSlopeKernel j)
    → IsPassedBefore j (slope_code_of j) failure n → IsStoppedAfter j (2 * slices_of j) failure n
slope_stopped j n (Refused f) why h = inl (why, h)
slope_stopped j n Memory why h = omega (arith, h)

-- a failure of the energy itself, after all slices of the slope
pub energy_stopped : {A : Type 0} (j : JobValue) (k : Kernel) (n : ℕ) (failure : Failure (EnergyFault A)) → IsSlopeKernel j k
    → IfRefused failure (HasNoEnergyKernel j) → IsPassedBefore j (energy_code_of j) failure n
    → IsStoppedAfter j (2 * slices_of j) failure (slices_of j + n)
energy_stopped j k n (Refused f) is why h = inr (record { slope = k; is_slope = is; why = why; more = n; after = h; count = refl })
energy_stopped j k n Memory is why h = omega (arith, h)

square : (m : ℕ) → (m + 1) * (m + 1) ≡ m * m + (2 * m + 1)
square m = add-mul m 1 (m + 1) ∙ omega (arith, mul-add m m 1)

-- the tables of a type, after those of the types before it
pub more_before : (types a : ℕ) → a < types → tables_before types a + (2 * (types - a) - 1) ≡ tables_before types (a + 1)
more_before types a within =
    let rest : types - a ≡ types - (a + 1) + 1 = omega (arith, within) in
    let squared : (types - a) * (types - a) ≡ (types - (a + 1)) * (types - (a + 1)) + (2 * (types - (a + 1)) + 1) =
    subst (λ n. n * n ≡ (types - (a + 1)) * (types - (a + 1)) + (2 * (types - (a + 1)) + 1)) (sym rest) (square (types - (a + 1))) in
    let most : (types - a) * (types - a) ≤ types * types = mul-le (types - a) (types - a) types types (omega arith) (omega arith) in
    omega (arith, within, rest, squared, most)

-- never more than all
pub few_before : (types a : ℕ) → a < types → tables_before types a + (2 * (types - a) - 1) ≤ types * types
few_before types a within = let same = more_before types a within in omega (arith, same)

-- the rows of further tables, after those of others
pub rows_more : (tables more all rows : ℕ) → tables + more ≡ all → tables * rows + more * rows ≡ all * rows
rows_more tables more all rows is = sym (add-mul tables more rows) ∙ ap (λ n. n * rows) is

-- numbers of tables, if there are further ones
one_more : (before none one : ℕ) → none ≡ 0 → one ≡ 1 → (before + none) + 1 ≡ before + one
one_more before none one zero single = omega (arith, zero, single)

some_more : (before some more all : ℕ) → some + more ≡ all → (before + some) + more ≡ before + all
some_more before some more all is = omega (arith, is)

no_more : (before none some : ℕ) → none ≡ 0 → (before + none) + some ≡ before + some
no_more before none some zero = omega (arith, zero)

-- the rows of the table of a type with itself, after those of the types before
pub own_rows : (types a rows : ℕ)
    → (tables_before types a + (2 * (a - a) - 1)) * rows + rows ≡ (tables_before types a + (2 * (a + 1 - a) - 1)) * rows
own_rows types a rows =
    let before = tables_before types a in
    let single : rows ≡ 1 * rows = omega arith in
    ap (λ n. (before + (2 * (a - a) - 1)) * rows + n) single
    ∙ rows_more (before + (2 * (a - a) - 1)) 1 (before + (2 * (a + 1 - a) - 1)) rows
    (one_more before (2 * (a - a) - 1) (2 * (a + 1 - a) - 1) (omega arith) (omega arith))

-- the rows of the tables of two types, after those of the pairs before
pub both_rows : (types a b rows : ℕ) → a < b
    → (tables_before types a + (2 * (b - a) - 1)) * rows + 2 * rows ≡ (tables_before types a + (2 * (b + 1 - a) - 1)) * rows
both_rows types a b rows order =
    let before = tables_before types a in
    rows_more (before + (2 * (b - a) - 1)) 2 (before + (2 * (b + 1 - a) - 1)) rows
    (some_more before (2 * (b - a) - 1) 2 (2 * (b + 1 - a) - 1) (omega (arith, order)))

add_on : (least some all n : ℕ) → least + some ≡ all → all + n ≡ least + (some + n)
add_on least some all n is = omega (arith, is)

-- the rows of some tables of a type, and n more, after those of the types before
pub rows_of_type : (types a b rows n : ℕ)
    → (tables_before types a + (2 * (b - a) - 1)) * rows + n ≡ (tables_before types a + (2 * (a - a) - 1)) * rows + ((2 * (b - a) - 1) * rows + n)
rows_of_type types a b rows n =
    let before = tables_before types a in
    add_on ((before + (2 * (a - a) - 1)) * rows) ((2 * (b - a) - 1) * rows) ((before + (2 * (b - a) - 1)) * rows) n
    (rows_more (before + (2 * (a - a) - 1)) (2 * (b - a) - 1) (before + (2 * (b - a) - 1)) rows
    (no_more before (2 * (a - a) - 1) (2 * (b - a) - 1) (omega arith)))

-- the rows before those of a type with itself are those of the types before
pub rows_of_types : (types a rows : ℕ) → tables_before types a * rows ≡ (tables_before types a + (2 * (a - a) - 1)) * rows
rows_of_types types a rows = ap (λ n. n * rows) (none_more (tables_before types a) (2 * (a - a) - 1) (omega arith))
  where
    none_more : (before none : ℕ) → none ≡ 0 → before ≡ before + none
    none_more before none zero = omega (arith, zero)

-- The rows of a failure are at most those of all tables.
pub rows_few : (types a b rows : ℕ) → a ≤ b → b < types
    → (tables_before types a + (2 * (b + 1 - a) - 1)) * rows ≤ types * types * rows
rows_few types a b rows order within =
    let few : tables_before types a + (2 * (types - a) - 1) ≤ types * types = few_before types a (omega (arith, order, within)) in
    let some : 2 * (b + 1 - a) - 1 ≤ 2 * (types - a) - 1 = omega (arith, order, within) in
    mul-le (tables_before types a + (2 * (b + 1 - a) - 1)) rows (types * types) rows (omega (arith, few, some)) (omega arith)

-- the rows of the table of a type with itself are the first of the type
pub first_of_type : (a rows : ℕ) → rows ≡ (2 * (a + 1 - a) - 1) * rows
first_of_type a rows = let one : 2 * (a + 1 - a) - 1 ≡ 1 = omega arith in rw one (omega arith)

-- the rows of the tables of both pairs of two types, after those of earlier types
pub more_of_type : (a b rows : ℕ) → a < b → (2 * (b - a) - 1) * rows + 2 * rows ≡ (2 * (b + 1 - a) - 1) * rows
more_of_type a b rows before =
    let count : 2 * (b + 1 - a) - 1 ≡ (2 * (b - a) - 1) + 2 = omega (arith, before) in
    rw count (sym (add-mul (2 * (b - a) - 1) 2 rows))

-- the rows of a type's tables, after those of the types before it
pub rows_then : (types a rows : ℕ) → a < types
    → (tables_before types a + (2 * (a - a) - 1)) * rows + (2 * (types - a) - 1) * rows
    ≡ (tables_before types (a + 1) + (2 * (a + 1 - (a + 1)) - 1)) * rows
rows_then types a rows within =
    ap (λ n. n + (2 * (types - a) - 1) * rows) (sym (rows_of_types types a rows))
    ∙ rows_more (tables_before types a) (2 * (types - a) - 1) (tables_before types (a + 1)) rows (more_before types a within)
    ∙ rows_of_types types (a + 1) rows

-- at the end all tables are there
pub all_before : (types a : ℕ) → a ≡ types → tables_before types a ≡ types * types
all_before types a is =
    let none : types - a ≡ 0 = omega (arith, is) in
    let zero : (types - a) * (types - a) ≡ 0 = rw none refl in
    omega (arith, zero)

-- the rows of one table
pub one_counted : (j : JobValue) (pair : Option (ℕ × ℕ)) (p : ℕ × ℕ) (rows : ℕ) → pair ≡ Some p → rows ≡ table_count j pair * rows
one_counted j pair p rows is = rw is (omega arith)

-- the rows of the tables of all pairs
pub all_counted : (j : JobValue) (pair : Option (ℕ × ℕ)) (types rows : ℕ) → pair ≡ None → types ≡ length j.types
    → types * types * rows ≡ table_count j pair * rows
all_counted j pair types rows is count = rw (is, count) refl

-- ---- failures

-- if all rows are computed, they are those before the failure
pub all_stopped : {X : Type 0} (r : Result X (Failure OutFault)) (most : ℕ) (Passed : ℕ → Type 0) → Passed most
    → IfErr r (λ f. (n : ℕ) × StopsAt 0 most f n × Passed n)
all_stopped (Ok x) most Passed h = tt
all_stopped (Err Memory) most Passed h = (most, (omega arith, omega arith), h)
all_stopped (Err (Refused f)) most Passed h = (most, refl, h)

-- memory ran out among the rows
pub memory_stopped : {X : Type 0} (r : Result X (Failure OutFault)) (most : ℕ) (Passed : ℕ → Type 0) → IsErrAnd r (λ e. e ≡ Memory)
    → (n : ℕ) × (n ≤ most) × Passed n → IfErr r (λ f. (n : ℕ) × StopsAt 0 most f n × Passed n)
memory_stopped (Ok x) most Passed is h = tt
memory_stopped (Err e) most Passed is (n, few, h) =
    subst (λ f. (n : ℕ) × StopsAt 0 most f n × Passed n) (sym is) (n, (omega arith, few), h)

-- rows of a failure, after others
pub stops_more : (least most next n : ℕ) (e : Failure OutFault) → least + most ≡ next → StopsAt 0 most e n → StopsAt least next e (least + n)
stops_more least most next n Memory count h = (omega arith, omega (arith, count, h.1))
stops_more least most next n (Refused f) count h = omega (arith, count, h)

-- at most this many rows are computed before a failure
pub stops_few : (least most n : ℕ) (e : Failure OutFault) → StopsAt least most e n → n ≤ most
stops_few least most n Memory h = h.1
stops_few least most n (Refused f) h = omega (arith, h)
