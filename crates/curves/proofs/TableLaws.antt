-- Values of a job's potential at a distance, its refusals, the inputs of a pair of types, and the texts of tables.
use Rattle.std.proofs.Common.{◌≡◌, ◌∙◌, ℕ, ◌<◌, ◌≤◌, ◌*◌, ◌/◌, Bool, ◌&&◌, List, [], ◌∷◌, ◌++◌, length, map, subst, sym, refl, arith, ap, inr, ℤ, IfOk, Option, Some, Result, zero, suc, IsTrue, slice_index_or}
use Rattle.std.proofs.lemmas.List.{length-map}
use Rattle.std.proofs.lemmas.Nat.{mul-le}
use Rattle.std.proofs.Math.Nat.{div-le_of_le-mul}
use Rattle.derivative.specs.Slope.{slope_of}
use Rattle.energy_program.specs.Programs.{Trees, input_count_of, trees_of}
use Rattle.energy_program.specs.Tree.{Tree, is_scoped, substituted, tree_of}
use Rattle.energy_program.specs.Value.{value_of}
use Rattle.fallible.specs.Failures.{IfRefused}
use Rattle.fallible.specs.declared.failure.Failure.{Failure}
use Rattle.fallible.specs.declared.failure.Failure.TheVariants.{Refused, Memory}
use Rattle.fixed.specs.Fractions.{bits_of}
use Rattle.fixed.specs.declared.constants.Constant.{Constant}
use Rattle.job.specs.Values.{GlobalValue, JobValue, TypeValue}
use Rattle.job.specs.Views.{type_value}
use Rattle.job.specs.declared.jobs.AtomType.{AtomType}
use Rattle.kernel_code.specs.Tables.{inputs_of}
use Rattle.kernel_lanes.specs.Lanes.{IsServed}
use Rattle.kernel_lanes.specs.declared.queries.Query.{Query}
use Rattle.potential.specs.CodeSlopes.{GivesSlope}
use Rattle.potential.specs.EnergyKernels.{GivesEnergy, HasNoEnergyKernel}
use Rattle.potential.specs.LaneKernels.{IsCodeValue}
use Rattle.potential.specs.Tables.{global_values, name_of_type, no_type, numbers_of, table_of, type_rows}
use Rattle.potential.specs.Verdicts.{IsSlopeKernel, IsUnder}
use Rattle.potential.specs.declared.faults.EnergyFault.{EnergyFault}
use Rattle.verifier.specs.Kernels.{Kernel}
use Rattle.curves.specs.Potentials.{IsPotentialOf}
use Rattle.curve_lines.specs.Bodies.{BodyView, IsBodyText}
use Rattle.curve_lines.specs.Rows.{is_large}
use Rattle.interval_domain.specs.Ranges.{Range}
use Rattle.curves.specs.Slices.{AreBoundsOver, AreWorstOver, BoundsView, in_column, jumps_over}
use Rattle.curves.specs.declared.slices.Column.{Column}
use Rattle.curves.specs.declared.slices.Column.TheVariants.{Energy, Slope}
use Rattle.curves.specs.SoFar.{HasBody}
use Rattle.curves.specs.Tables.{AreBothTables, AreRows, HasNoCurve, IsGridOf, IsRow, IsTable, IsTableBody, OfPotential, all_distances, constants_of, distance_of, distances_of, names_text, others_of, pair_line, table_text}
use Rattle.curves.specs.declared.plans.CurvePlan.{CurvePlan}
use Rattle.curves.specs.declared.potentials.Potential.{Potential}

-- part i of equal parts of a length is at most the length
pub part_most : (span points i : ℕ) → i ≤ points → (span * i) / points ≤ span
part_most span points i h = div-le_of_le-mul points (omega (arith, mul-le span i span points (omega arith) h))

-- the value that the energy's code computes is the energy under the job
pub energy_computed : (j : JobValue) (tree : Tree) (k : Kernel) (query : Query) (v : ℤ) → IsUnder j k → GivesEnergy tree k → IsServed k query
    → IsCodeValue k query v → value_of (bits_of j.frac) (inputs_of (table_of j) query.a query.b query.r) tree ≡ Some v
energy_computed j tree k query v under gives served is =
    subst (λ t. value_of (bits_of t.frac) (inputs_of t query.a query.b query.r) tree ≡ Some v) under.table
    (gives query.a query.b query.r is.n v served.first served.second is.ends)

-- the value that the slope's code computes is the slope under the job
pub slope_computed : (j : JobValue) (tree : Tree) (k : Kernel) (query : Query) (v : ℤ) → IsUnder j k
    → GivesSlope (bits_of k.table.frac) tree k.code (inputs_of k.table query.a query.b query.r)
    → IsCodeValue k query v → slope_of (bits_of j.frac) (inputs_of (table_of j) query.a query.b query.r) tree ≡ Some v
slope_computed j tree k query v under gives is =
    subst (λ t. slope_of (bits_of t.frac) (inputs_of t query.a query.b query.r) tree ≡ Some v) under.table (gives.value is.n v is.ends)

-- a refusal of the energy itself is one of the potential, if the slope is accepted
pub no_curve_of_energy : {A : Type 0} (j : JobValue) (k : Kernel) (failure : Failure (EnergyFault A)) → IsSlopeKernel j k
    → IfRefused failure (HasNoEnergyKernel j) → IfRefused failure (HasNoCurve j)
no_curve_of_energy j k (Refused f) is why = inr (k, is, why)
no_curve_of_energy j k Memory is why = why

-- the parameters of a type with this number
pub values_at : {A : Type 0} (types : List (AtomType A)) (i : ℕ) (t : AtomType A) → i < length types → t ≡ slice_index_or types i t
    → t.values.items ≡ (slice_index_or (map type_value types) i no_type).values
values_at [] i t h is = absurd (omega (arith, h))
values_at (x ∷ xs) zero t h is = ap (λ u. u.values.items) is
values_at (x ∷ xs) (suc i) t h is = values_at xs i t (omega (arith, h)) is

-- the numbers of a type's parameters are its row of the table
numbers_at : (types : List TypeValue) (i : ℕ) → slice_index_or (type_rows types) i [] ≡ numbers_of (slice_index_or types i no_type).values
numbers_at [] i = refl
numbers_at (t ∷ ts) zero = refl
numbers_at (t ∷ ts) (suc i) = numbers_at ts i

-- the numbers of two lists, one after the other
numbers_append : (xs ys : List Constant) → numbers_of (xs ++ ys) ≡ numbers_of xs ++ numbers_of ys
numbers_append [] ys = refl
numbers_append (x ∷ xs) ys = ap (λ (l : List ℤ). x.value ∷ l) (numbers_append xs ys)

-- the numbers of globals
numbers_of_globals : (gs : List GlobalValue) → global_values gs ≡ numbers_of (map (λ g. g.value) gs)
numbers_of_globals [] = refl
numbers_of_globals (g ∷ gs) = ap (λ (l : List ℤ). g.value.value ∷ l) (numbers_of_globals gs)

-- the inputs of a pair of types are the numbers of its constants
pub inputs_are : (j : JobValue) (a b : ℕ) (r : ℤ) → inputs_of (table_of j) a b r ≡ r ∷ numbers_of (others_of j a b)
inputs_are j a b r =
    let globals : List Constant = map (λ g. g.value) j.globals in
    let second : slice_index_or (type_rows j.types) b [] ++ global_values j.globals ≡ numbers_of (constants_of j b ++ globals) =
    ap (λ (l : List ℤ). l ++ global_values j.globals) (numbers_at j.types b)
    ∙ ap (λ (l : List ℤ). numbers_of (constants_of j b) ++ l) (numbers_of_globals j.globals)
    ∙ sym (numbers_append (constants_of j b) globals) in
    ap (λ (l : List ℤ). r ∷ l)
    (ap (λ (l : List ℤ). l ++ (slice_index_or (type_rows j.types) b [] ++ global_values j.globals)) (numbers_at j.types a)
    ∙ ap (λ (l : List ℤ). numbers_of (constants_of j a) ++ l) second ∙ sym (numbers_append (constants_of j a) (constants_of j b ++ globals)))

-- ---- rows

module _ (j : JobValue) (program : Trees) (plan : CurvePlan) (i : ℕ) (bounds : BoundsView) where
  -- whether a column's bound is large and a jump, if the worst part has these distances
  abbrev jump : (others : List Constant) → Column → (value : ℤ) → Range → Bool
  jump others column value r =
      is_large value (in_column column bounds) && jumps_over (bits_of j.frac) program others (all_distances j) column r

  -- bounds over the distances of a row, and whether they are large and jumps
  record AreMarked (energy slope : ℤ) (energy_jumps slope_jumps : Bool) (others : List Constant) : Type 0 where
    over : AreBoundsOver (bits_of j.frac) program others (distances_of j plan.points i) bounds
    energy_is : energy_jumps ≡ jump others Energy energy over.energy.1.range
    slope_is : slope_jumps ≡ jump others Slope slope over.slope.1.range

  -- the parts of a row
  pub is_row : (a b : ℕ) (query : Query) (distance energy slope : ℤ) (energy_jumps slope_jumps : Bool) (slope_grid : Option ℕ)
      (others : List Constant) (of_energy of_slope : Range) → query ≡ record { a = a; b = b; r = distance } → distance ≡ distance_of j plan.points i
      → value_of (bits_of j.frac) (inputs_of (table_of j) query.a query.b query.r) (substituted program.0 program.1) ≡ Some energy
      → slope_of (bits_of j.frac) (inputs_of (table_of j) query.a query.b query.r) (substituted program.0 program.1) ≡ Some slope
      → others ≡ others_of j a b → AreWorstOver (bits_of j.frac) program others (distances_of j plan.points i) bounds of_energy of_slope
      → energy_jumps ≡ jump others Energy energy of_energy → slope_jumps ≡ jump others Slope slope of_slope
      → IsGridOf j program plan.columns others distance slope_grid
      → IsRow j program plan a b i (record {
        distance = distance;
        energy = energy;
        energy_error = bounds.energy;
        energy_jumps = energy_jumps;
        slope = slope;
        slope_error = bounds.slope;
        slope_jumps = slope_jumps;
        slope_grid = slope_grid;
      })
  is_row a b query distance energy slope energy_jumps slope_jumps slope_grid others of_energy of_slope same at e s these worst ej sj grid =
      let marked : AreMarked energy slope energy_jumps slope_jumps others = record {
        over = worst.over;
        energy_is = ej ∙ ap (jump others Energy energy) worst.energy_is;
        slope_is = sj ∙ ap (jump others Slope slope) worst.slope_is;
      } in
      let are : AreMarked energy slope energy_jumps slope_jumps (others_of j a b) = subst (AreMarked energy slope energy_jumps slope_jumps) these marked in
      record {
        distance = at;
        energy = subst (λ (x : Query). value_of (bits_of j.frac) (inputs_of (table_of j) x.a x.b x.r) (substituted program.0 program.1) ≡ Some energy) same e;
        slope = subst (λ (x : Query). slope_of (bits_of j.frac) (inputs_of (table_of j) x.a x.b x.r) (substituted program.0 program.1) ≡ Some slope) same s;
        bounds = are.over;
        energy_jumps = are.energy_is;
        slope_jumps = are.slope_is;
        grid = subst (λ (xs : List Constant). IsGridOf j program plan.columns xs distance slope_grid) these grid;
      }

-- ---- tables

-- the line of the names of the types with two numbers
pub pair_put : {X E : Type 0} (r : Result X E) (j : JobValue) (a b : ℕ) (t0 t1 first second : List ℕ)
    → first ≡ name_of_type j a → second ≡ name_of_type j b → IfOk r (λ _. t1 ≡ t0 ++ names_text first second)
    → IfOk r (λ _. t1 ≡ t0 ++ pair_line j a b)
pair_put r j a b t0 t1 first second one two put =
    subst (λ n. IfOk r (λ _. t1 ≡ t0 ++ names_text (name_of_type j a) n)) two
    (subst (λ n. IfOk r (λ _. t1 ≡ t0 ++ names_text n second)) one put)

module _ (j : JobValue) (program : Trees) (plan : CurvePlan) where
  -- the body of a table, from its rows
  pub is_body : (a b c d : ℕ) (body : BodyView) (text : List ℕ) (is : HasBody j program plan c d body) → c ≡ a → d ≡ b
      → IsBodyText (bits_of body.frac) body.columns is.rows text → IsTableBody j program plan a b text
  is_body a b c d body text is ca db lines =
      record {
        rows = is.rows;
        are_rows = subst (λ x. AreRows j program plan x b is.rows) ca
            (subst (λ x. AreRows j program plan c x is.rows) db is.are_rows);
        is_body = subst (λ f. IsBodyText (bits_of f) plan.columns is.rows text) is.frac
            (subst (λ x. IsBodyText (bits_of body.frac) x is.rows text) is.columns lines);
      }

  -- the table of a pair of types, from its body
  pub table_of_body : (a b : ℕ) (body body' : List ℕ) → IsTableBody j program plan a b body → body' ≡ body
      → IsTable j program plan a b (table_text j plan a b body')
  table_of_body a b body body' is same = record { body = body; is_body = is; is = ap (table_text j plan a b) same }

  -- the table of a pair of types, behind another text, from its body
  pub table_behind : (a b : ℕ) (before body body' : List ℕ) → IsTableBody j program plan a b body → body' ≡ body
      → (table : List ℕ) × IsTable j program plan a b table × (before ++ table_text j plan a b body' ≡ before ++ table)
  table_behind a b before body body' is same =
      (table_text j plan a b body', table_of_body a b body body' is same, refl)

  -- one table of both pairs of two types
  pub both_in_one : (a b : ℕ) (first second : List ℕ) → IsTableBody j program plan a b first → IsTableBody j program plan b a second
      → first ≡ second → AreBothTables j program plan a b (pair_line j a b ++ table_text j plan b a first)
  both_in_one a b first second one two same = AreBothTables.one one (subst (IsTableBody j program plan b a) (sym same) two)

-- a statement about the program of a job's potential
pub of_potential : {A : Type 0} (j : JobValue) (potential : Potential A) (Are : Trees → Type 0) → IsPotentialOf j potential
    → Are (trees_of potential.slope.energy) → OfPotential j Are
of_potential j potential Are is are =
    let energy = potential.slope.energy in
    let inputs = input_count_of energy in
    record {
      slope = potential.slope.verified;
      is_slope = is.slope;
      energy = potential.energy;
      is_energy = is.energy;
      program = trees_of energy;
      its = is.program;
      inputs = inputs;
      scoped = (
        subst (λ n. IsTrue (is_scoped inputs 0 n (tree_of energy.body))) (sym (length-map energy.definitions.items tree_of))
            energy.body_scoped,
        energy.definitions_scoped,
      );
      tables = are;
    }
