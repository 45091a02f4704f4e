-- Tables that are written one after another.
use Rattle.std.proofs.Common.{◌≡◌, ◌∙◌, ℕ, ◌+◌, ◌*◌, ◌<◌, ◌≤◌, List, [], ◌++◌, append_assoc, length, Option, Result, Ok, Err, None, Some, IfErr, IsErrAnd, OnOk, add-one, ap, arith, inl, inr, le_trans, refl, subst, sym}
use Rattle.energy_program.specs.Programs.{Trees, trees_of}
use Rattle.fallible.specs.Out.{Appends, Output}
use Rattle.fallible.specs.declared.failure.Failure.{Failure}
use Rattle.fallible.specs.declared.failure.Failure.TheVariants.{Memory, Refused}
use Rattle.fallible.specs.declared.output.OutFault.{OutFault}
use Rattle.fallible.proofs.Appends.{appends_both, appends_nothing}
use Rattle.job.specs.Values.{JobValue}
use Rattle.potential.proofs.ReportLaws.{few}
use Rattle.potential.specs.Energies.{energy_code_of, slope_code_of}
use Rattle.potential.specs.Progress.{slices_of}
use Rattle.curve_lines.proofs.LineLaws.{joined}
use Rattle.curves.specs.Potentials.{IsPotentialOf}
use Rattle.curves.specs.SoFar.{PutsSome, PutsText, WroteTables}
use Rattle.curves.specs.Tables.{AreBothTables, AreTables, AreTablesOf, IsCurve, IsTable, between_tables, columns_text, curve_parts, pair_line, separator, table_count, table_text}
use Rattle.curves.specs.Writing.{AreCut, AreCutOf, AreNext, CutsSome, IsCurveCut, IsCurveUnwritten, StopsAt, WroteSome, rows_before}
use Rattle.curves.specs.declared.faults.CurveFault.{CurveFault}
use Rattle.curves.specs.declared.faults.CurveFault.TheVariants as fault
use Rattle.curves.specs.declared.plans.CurvePlan.{CurvePlan}
use Rattle.curves.specs.declared.potentials.Potential.{Potential}
use Rattle.curves.proofs.ReportLaws.{rows_few, stops_few, stops_more}
use Rattle.curves.proofs.TableLaws.{of_potential}

-- ---- texts

-- memory ran out before the text was written
pub no_room : {X : Type 0} (r : Result X (Failure OutFault)) (text : List ℕ) (o : Output) → IsErrAnd r (λ e. e ≡ Memory) → PutsText text o o r
no_room {X} (Ok x) text o is = absurd is
no_room {X} (Err e) text o is = subst (λ f. PutsText {X = X} text o o (Err f)) (sym is) refl

-- likewise for a text of some kind
pub no_room_for : {X : Type 0} (r : Result X (Failure OutFault)) (Is : List ℕ → Type 0) (o : Output) → IsErrAnd r (λ e. e ≡ Memory) → PutsSome Is o o r
no_room_for {X} (Ok x) Is o is = absurd is
no_room_for {X} (Err e) Is o is = subst (λ f. PutsSome {X = X} Is o o (Err f)) (sym is) refl

-- an equal text was put
pub put_same : {X : Type 0} (r : Result X (Failure OutFault)) (text text' : List ℕ) (before after : Output) → text ≡ text'
    → PutsText text before after r → PutsText text' before after r
put_same r text text' before after same put = subst (λ t. PutsText t before after r) same put

-- a text of this kind was put
pub put_some : {X : Type 0} (r : Result X (Failure OutFault)) (Is : List ℕ → Type 0) (text : List ℕ) (before after : Output) → Is text
    → PutsText text before after r → PutsSome Is before after r
put_some (Ok x) Is text before after is put = (text, is, put)
put_some (Err Memory) Is text before after is put = put
put_some (Err (Refused f)) Is text before after is put = (text, is, put)

-- a text of this kind was put behind none
pub none_before : {X : Type 0} (r : Result X (Failure OutFault)) (Is : List ℕ → Type 0) (before after : Output)
    → PutsSome (λ text. (t : List ℕ) × Is t × (text ≡ t)) before after r → PutsSome Is before after r
none_before (Ok x) Is before after (text, (t, is, same), put) = (text, subst Is (sym same) is, put)
none_before (Err Memory) Is before after put = put
none_before (Err (Refused f)) Is before after (text, (t, is, same), put) = (text, subst Is (sym same) is, put)

-- ---- heads of tables

-- a head that begins with another text
pub head_is : (t0 t1 t2 t3 before line columns : List ℕ) → t0 ≡ [] → t1 ≡ t0 ++ before → t2 ≡ t1 ++ line → t3 ≡ t2 ++ columns
    → t3 ≡ before ++ (line ++ columns)
head_is t0 t1 t2 t3 before line columns none one two three =
    let first : t1 ≡ before = one ∙ ap (λ (t : List ℕ). t ++ before) none in
    joined t1 t2 t3 line columns two three ∙ ap (λ (t : List ℕ). t ++ (line ++ columns)) first

-- the text of a table, behind another text, from its head and its body
pub table_is : (j : JobValue) (plan : CurvePlan) (a b : ℕ) (before head head' body : List ℕ)
    → head ≡ before ++ (pair_line j a b ++ columns_text plan.columns) → head' ≡ head
    → head' ++ body ≡ before ++ table_text j plan a b body
table_is j plan a b before head head' body is same =
    let columns = columns_text plan.columns in
    ap (λ (t : List ℕ). t ++ body) (same ∙ is) ∙ append_assoc before (pair_line j a b ++ columns) body
    ∙ ap (λ (t : List ℕ). before ++ t) (append_assoc (pair_line j a b) columns body)

-- the text of one table of two types in both orders, of which the names of one pair come first
pub both_in_one_is : (t0 t1 t2 before between line table : List ℕ) → t0 ≡ [] → t1 ≡ t0 ++ between → t2 ≡ t1 ++ line → before ≡ t2
    → before ++ table ≡ between ++ (line ++ table)
both_in_one_is t0 t1 t2 before between line table none one two same =
    ap (λ (t : List ℕ). t ++ table) (same ∙ two ∙ ap (λ (t : List ℕ). t ++ line) (one ∙ ap (λ (t : List ℕ). t ++ between) none))
    ∙ append_assoc between line table

-- the texts of two tables, one after the other
pub both_in_two_is : (one two between first second : List ℕ) → one ≡ between ++ first → two ≡ between ++ second
    → one ++ two ≡ between ++ (first ++ (between ++ second))
both_in_two_is one two between first second is also =
    ap (λ (t : List ℕ). t ++ two) is ∙ append_assoc between first two ∙ ap (λ (t : List ℕ). between ++ (first ++ t)) also

-- ---- tables that follow others

module _ (j : JobValue) (program : Trees) (plan : CurvePlan) where
  -- no tables yet
  pub wrote_none : (o : Output) → WroteTables j program plan 0 0 o o
  wrote_none o = ([], AreTables.none, appends_nothing o)

  -- Tables follow those that were written: a text of this kind makes the tables up to c and d of those up to a and b.
  abbrev pub Follows : (Is : List ℕ → Type 0) → (a b c d : ℕ) → Type 0
  Follows Is a b c d = (text tables : List ℕ) → Is text → AreTables j program plan a b tables → AreTables j program plan c d (tables ++ text)

  -- these tables were written,
  pub wrote_next : (Is : List ℕ → Type 0) (a b c d : ℕ) (origin before after : Output) → Follows Is a b c d
      → WroteTables j program plan a b origin before → WroteSome Is (Appends before after) → WroteTables j program plan c d origin after
  wrote_next Is a b c d origin before after next (tables, are, wrote) (text, is, put) =
      (tables ++ text, next text tables is are, appends_both wrote put)

  -- or they weren't
  pub cut_next : (Is : List ℕ → Type 0) (a b most n : ℕ) (origin before after : Output) (e : Failure OutFault) → a ≤ b → b < length j.types
      → ((text : List ℕ) → Is text → AreNext j program plan a b text) → rows_before j plan a b + most ≡ rows_before j plan a (b + 1)
      → WroteTables j program plan a b origin before → CutsSome Is before after e → StopsAt 0 most e n
      → AreCut j program plan origin after e (rows_before j plan a b + n)
  cut_next Is a b most n origin before after Memory order within next count (tables, are, wrote) same stops =
      record {
        a = a;
        b = b;
        tables = tables;
        between = before;
        order = order;
        within = within;
        are = are;
        wrote = wrote;
        cut = same;
        stops = stops_more (rows_before j plan a b) most (rows_before j plan a (b + 1)) n Memory count stops;
      }
  cut_next Is a b most n origin before after (Refused f) order within next count (tables, are, wrote) (text, is, put) stops =
      record {
        a = a;
        b = b;
        tables = tables;
        between = before;
        order = order;
        within = within;
        are = are;
        wrote = wrote;
        cut = (text, next text is, put);
        stops = stops_more (rows_before j plan a b) most (rows_before j plan a (b + 1)) n (Refused f) count stops;
      }

  -- the table of a type with itself is the next text
  pub own_text : (a : ℕ) (text : List ℕ) → (table : List ℕ) × IsTable j program plan a a table × (text ≡ separator a ++ table)
      → AreNext j program plan a a text
  own_text a text (table, is, same) = subst (AreNext j program plan a a) (sym same) (AreNext.own refl is)

  -- the tables of two types are the next text
  pub both_text : (a b : ℕ) (text : List ℕ) → a < b
      → (both : List ℕ) × AreBothTables j program plan a b both × (text ≡ between_tables ++ both) → AreNext j program plan a b text
  both_text a b text order (both, is, same) = subst (AreNext j program plan a b) (sym same) (AreNext.both order is)

  -- the table of a type with itself comes after those of the types before
  pub own_next : (a : ℕ) → a < length j.types
      → Follows (λ text. (table : List ℕ) × IsTable j program plan a a table × (text ≡ separator a ++ table)) a a a (a + 1)
  own_next a within text tables (table, is, same) are = rw (add-one a) (rw same (AreTables.own are within is))

  -- the tables of two different types are the next ones
  pub both_next : (a b : ℕ) → a < b → b < length j.types
      → Follows (λ text. (both : List ℕ) × AreBothTables j program plan a b both × (text ≡ between_tables ++ both)) a b a (b + 1)
  both_next a b order within text tables (both, is, same) are = rw (add-one b) (rw same (AreTables.both are order within is))

  -- all tables of a type are there
  pub type_done : (a b types : ℕ) (origin now : Output) → b ≡ types → types ≡ length j.types → WroteTables j program plan a b origin now
      → WroteTables j program plan (a + 1) (a + 1) origin now
  type_done a b types origin now last count (tables, are, wrote) =
      (tables, rw (add-one a) (AreTables.next (subst (λ n. AreTables j program plan a n tables) (last ∙ count) are)), wrote)

  -- the table of the pair that the plan names
  pub one_written : {X : Type 0} (r : Result X (Failure OutFault)) (a b : ℕ) (before after : Output) → plan.pair ≡ Some (a, b)
      → PutsSome (IsTable j program plan a b) before after r
      → OnOk r (WroteSome (AreTablesOf j program plan plan.pair) (Appends before after))
  one_written (Ok x) a b before after named (text, is, put) =
      (text, subst (λ pair. AreTablesOf j program plan pair text) (sym named) is, put)
  one_written (Err e) a b before after named put = tt

  pub one_cut : {X : Type 0} (r : Result X (Failure OutFault)) (a b : ℕ) (before after : Output) (Passed : ℕ → Type 0) → plan.pair ≡ Some (a, b)
      → PutsSome (IsTable j program plan a b) before after r → IfErr r (λ f. (n : ℕ) × StopsAt 0 (plan.points + 1) f n × Passed n)
      → IfErr r (λ f. (n : ℕ) × AreCutOf j program plan plan.pair before after f n × Passed n)
  one_cut (Ok x) a b before after Passed named put h = tt
  one_cut (Err e) a b before after Passed named put (n, stops, passed) =
      (n, subst (λ pair. AreCutOf j program plan pair before after e n) (sym named) (put, stops), passed)

  -- the tables of all pairs, if the plan names none
  pub all_written : {X : Type 0} (r : Result X (Failure OutFault)) (types : ℕ) (before after : Output) → plan.pair ≡ None → types ≡ length j.types
      → OnOk r (WroteTables j program plan types types before after)
      → OnOk r (WroteSome (AreTablesOf j program plan plan.pair) (Appends before after))
  all_written (Ok x) types before after none count (text, are, put) = (
    text,
    subst (λ pair. AreTablesOf j program plan pair text) (sym none) (subst (λ n. AreTables j program plan n n text) count are),
    put,
  )
  all_written (Err e) types before after none count h = tt

  pub all_cut : {X : Type 0} (r : Result X (Failure OutFault)) (before after : Output) (Passed : ℕ → Type 0) → plan.pair ≡ None
      → IfErr r (λ f. (n : ℕ) × AreCut j program plan before after f n × Passed n)
      → IfErr r (λ f. (n : ℕ) × AreCutOf j program plan plan.pair before after f n × Passed n)
  all_cut (Ok x) before after Passed none h = tt
  all_cut (Err e) before after Passed none (n, cut, passed) =
      (n, subst (λ pair. AreCutOf j program plan pair before after e n) (sym none) cut, passed)

  -- at most all rows are computed before a failure
  pub cut_few : (pair : Option (ℕ × ℕ)) (before after : Output) (f : Failure OutFault) (n : ℕ) → AreCutOf j program plan pair before after f n
      → n ≤ table_count j pair * (plan.points + 1)
  cut_few None before after f n cut =
      le_trans (stops_few (rows_before j plan cut.a cut.b) (rows_before j plan cut.a (cut.b + 1)) n f cut.stops)
      (rows_few (length j.types) cut.a cut.b (plan.points + 1) cut.order cut.within)
  cut_few (Some (a, b)) before after f n (cut, stops) = let some = stops_few 0 (plan.points + 1) n f stops in omega (arith, some)

-- an error is handed on
pub error_on : {Y E : Type 0} (r : Result Y E) (e : E) (P : E → Type 0) → IsErrAnd r (λ f. f ≡ e) → P e → IfErr r P
error_on (Ok y) e P same h = tt
error_on (Err f) e P same h = subst P (sym same) h

-- ---- the tables of a potential

-- the tables of a job's potential, from those for its program
pub wrote_of : {A : Type 0} (j : JobValue) (plan : CurvePlan) (potential : Potential A) (before after : Output) → IsPotentialOf j potential
    → WroteSome (AreTablesOf j (trees_of potential.slope.energy) plan plan.pair) (Appends before after)
    → WroteSome (IsCurve j plan) (Appends before after)
wrote_of j plan potential before after is (text, are, wrote) =
    (text, of_potential j potential (λ program. AreTablesOf j program plan plan.pair text) is are, wrote)

-- likewise after a failure, which comes after all slices of both codes
pub cut_of : {A : Type 0} (j : JobValue) (plan : CurvePlan) (potential : Potential A) (before after : Output) (f : Failure OutFault) (rows : ℕ)
    → IsPotentialOf j potential → AreCutOf j (trees_of potential.slope.energy) plan plan.pair before after f rows
    → IsCurveCut j plan before after f (2 * slices_of j + rows)
cut_of j plan potential before after f rows is cut =
    of_potential j potential
    (λ program. (n : ℕ) × AreCutOf j program plan plan.pair before after f n × (2 * slices_of j + rows ≡ 2 * slices_of j + n)) is
    (rows, cut, refl)

-- at most all parts are reported before a failure of tables
curve_few : (j : JobValue) (plan : CurvePlan) (before after : Output) (f : Failure OutFault) (n : ℕ) → IsCurveCut j plan before after f n
    → n ≤ curve_parts j plan
curve_few j plan before after f n cut =
    let most = cut_few j cut.program plan plan.pair before after f cut.tables.0 cut.tables.1 in
    let count : n ≡ 2 * slices_of j + cut.tables.0 = cut.tables.2 in
    omega (arith, most, count)

-- at most all parts are reported before a fault
pub stopped_few : {A : Type 0} (j : JobValue) (plan : CurvePlan) (before after : Output) (f : CurveFault A) (n : ℕ)
    → IsCurveUnwritten j plan before after f n → n ≤ curve_parts j plan
stopped_few j plan before after (fault.Rejected f) n (none, same, inl h) = omega (arith, few j (slope_code_of j) n (Refused f) h.1)
stopped_few j plan before after (fault.Rejected f) n (none, same, inr h) =
    let count = h.count in
    omega (arith, few j (energy_code_of j) h.more (Refused f) h.after, count)
stopped_few j plan before after fault.Memory n (inl h) = omega (arith, h.1)
stopped_few j plan before after fault.Memory n (inr h) = curve_few j plan before after Memory n h
stopped_few j plan before after (fault.Out f) n h = curve_few j plan before after (Refused f) n h

-- a write failed
failed_of : (j : JobValue) (program : Trees) (plan : CurvePlan) (pair : Option (ℕ × ℕ)) (before after : Output) (f : OutFault) (n : ℕ)
    → AreCutOf j program plan pair before after (Refused f) n → before.failed < after.failed
failed_of j program plan None before after f n cut =
    let same = cut.wrote.failed in
    let more = cut.cut.2.failed in
    omega (arith, same, more)
failed_of j program plan (Some (a, b)) before after f n (cut, stops) = cut.2.failed

pub curve_failed : (j : JobValue) (plan : CurvePlan) (before after : Output) (f : OutFault) (n : ℕ) → IsCurveCut j plan before after (Refused f) n
    → before.failed < after.failed
curve_failed j plan before after f n cut = failed_of j cut.program plan plan.pair before after f cut.tables.0 cut.tables.1
