use Rattle.std.proofs.Common.{◌≡◌, ◌+◌, ◌-◌, ◌*◌, ◌∙◌, ℕ, arith, length, refl, subst, sym}
use Rattle.std.proofs.lemmas.List.{length-map}
use Rattle.energy_program.specs.Programs.{trees_of}
use Rattle.job.specs.Views.{job_value, type_value}
use Rattle.curves.specs.SoFar.{WroteTables}
use Rattle.curves.specs.Writing.{AreCut, rows_before, tables_before}
use Rattle.curves.proofs.ReportLaws.{all_before, rows_of_types, rows_then}
use Rattle.curves.proofs.WritingLaws.{error_on, wrote_none}
use Rattle.curves.proofs.planned.PlannedTables.put_every_table.Goals as goal

none_before : (types : ℕ) → tables_before types 0 ≡ 0
none_before types =
    let all : types - 0 ≡ types = omega arith in
    let same : (types - 0) * (types - 0) ≡ types * types = subst (λ n. n * n ≡ types * types) (sym all) refl in
    omega (arith, same)

no_rows : (types rows : ℕ) → 0 ≡ tables_before types 0 * rows
no_rows types rows = subst (λ m. 0 ≡ m * rows) (sym (none_before types)) (omega arith)

pub loop-first_type-init : goal.loop-first_type-init
loop-first_type-init g c =
    let j = job_value c.args.self.now.job.now in
    let plan = c.args.self.now.plan.now in
    let none = no_rows (length j.types) (plan.points + 1) ∙ rows_of_types (length j.types) 0 (plan.points + 1) in
    record {
      tables = wrote_none j (trees_of c.args.self.now.potential.now.slope.energy) plan _;
      room = refl;
      passed = subst (g.W.Progress.passed c.args.watch.now c.args.watch.now) none (g.met.W.Progress.passed_none c.args.watch.now);
    }

pub returns-in_err-put_tables_of-clause-stopped : goal.returns-in_err-put_tables_of-clause-stopped
returns-in_err-put_tables_of-clause-stopped g c =
    let j = job_value c.args.self.now.job.now in
    let program = trees_of c.args.self.now.potential.now.slope.energy in
    let plan = c.args.self.now.plan.now in
    let stopped = c.in_err-put_tables_of.ensures.stopped _ c.loop-first_type.invariant.tables in
    error_on c.from_residual.result c.in_err-put_tables_of.field-0.0
    (λ f. (n : ℕ) × AreCut j program plan (g.O.Out.output c.args.out.now) (g.O.Out.output c.put_tables_of.new.out) f n
    × g.W.Progress.passed c.args.watch.now c.put_tables_of.new.watch n)
    c.from_residual.ensures.1 (
      rows_before j plan c.loop-first_type.first_type c.loop-first_type.first_type + stopped.0,
      stopped.1,
      g.met.W.Progress.passed_more _ _ _ _ _ c.loop-first_type.invariant.passed stopped.2,
    )

pub loop-first_type-preserved : goal.loop-first_type-preserved
loop-first_type-preserved g c =
    let j = job_value c.args.self.now.job.now in
    let types = c.args.self.now.job.now.types in
    let a = c.loop-first_type.first_type in
    let rows = c.args.self.now.plan.now.points + 1 in
    let same : length types.items ≡ length j.types = sym (length-map types.items type_value) in
    let count : c.len-first_type-end.result ≡ length types.items = c.len-first_type-end.ensures ∙ types.ok.0 in
    let within = rw count at c.loop-first_type-test.true in
    let more = subst (λ (n : ℕ). (tables_before n a + (2 * (a - a) - 1)) * rows + (2 * (length types.items - a) - 1) * rows
    ≡ (tables_before n (a + 1) + (2 * (a + 1 - (a + 1)) - 1)) * rows) same (rows_then (length types.items) a rows within) in
    record {
      tables = c.in_ok-put_tables_of.ensures.tables _ c.loop-first_type.invariant.tables;
      room = c.in_ok-put_tables_of.ensures.room ∙ c.loop-first_type.invariant.room;
      passed = subst (g.W.Progress.passed c.args.watch.now c.put_tables_of.new.watch) more
          (g.met.W.Progress.passed_more _ _ _ _ _ c.loop-first_type.invariant.passed c.in_ok-put_tables_of.ensures.passed);
    }

pub returns-clause-tables : goal.returns-clause-tables
returns-clause-tables g c =
    let types = c.args.self.now.job.now.types in
    let count : c.len-first_type-end.result ≡ length types.items = c.len-first_type-end.ensures ∙ types.ok.0 in
    let last : c.loop-first_type.first_type ≡ c.len-first_type-end.result = omega (arith, c.loop-first_type.auto.first_type-end, c.loop-first_type-test.false) in
    subst
    (λ (n : ℕ). WroteTables (job_value c.args.self.now.job.now) (trees_of c.args.self.now.potential.now.slope.energy) c.args.self.now.plan.now n n
    (g.O.Out.output c.args.out.now) (g.O.Out.output c.loop-first_type.out))
    (last ∙ count) c.loop-first_type.invariant.tables

pub returns-clause-passed : goal.returns-clause-passed
returns-clause-passed g c =
    let j = job_value c.args.self.now.job.now in
    let types = c.args.self.now.job.now.types in
    let a = c.loop-first_type.first_type in
    let rows = c.args.self.now.plan.now.points + 1 in
    let n = length types.items in
    let same : length j.types ≡ n = length-map types.items type_value in
    let count : c.len-first_type-end.result ≡ n = c.len-first_type-end.ensures ∙ types.ok.0 in
    let last : a ≡ c.len-first_type-end.result = omega (arith, c.loop-first_type.auto.first_type-end, c.loop-first_type-test.false) in
    let reached = subst (λ (m : ℕ). g.W.Progress.passed c.args.watch.now c.loop-first_type.watch ((tables_before m a + (2 * (a - a) - 1)) * rows)) same
    c.loop-first_type.invariant.passed in
    let all = subst (g.W.Progress.passed c.args.watch.now c.loop-first_type.watch) (sym (rows_of_types n a rows)) reached in
    subst (λ (m : ℕ). g.W.Progress.passed c.args.watch.now c.loop-first_type.watch (m * rows)) (all_before n a (last ∙ count)) all
