use Rattle.std.proofs.Common.{◌≡◌, ◌<◌, ◌+◌, ◌-◌, ◌*◌, ◌∙◌, ℕ, arith, length, subst, sym}
use Rattle.std.proofs.lemmas.List.{length-map}
use Rattle.energy_program.specs.Programs.{trees_of}
use Rattle.job.specs.Views.{job_value, type_value}
use Rattle.curves.specs.Writing.{AreCut, rows_before}
use Rattle.curves.proofs.ReportLaws.{both_rows, first_of_type, more_of_type, own_rows, rows_of_type}
use Rattle.curves.proofs.WritingLaws.{both_next, both_text, cut_next, error_on, own_next, own_text, type_done, wrote_next}
use Rattle.curves.proofs.planned.PlannedTables.put_tables_of.Goals as goal

pub returns-in_err-put_one-clause-stopped : goal.returns-in_err-put_one-clause-stopped
returns-in_err-put_one-clause-stopped g c = λ origin so_far.
    let j = job_value c.args.self.now.job.now in
    let program = trees_of c.args.self.now.potential.now.slope.energy in
    let plan = c.args.self.now.plan.now in
    let a = c.args.first_type in
    let within = subst (λ n. a < n) (sym (length-map c.args.self.now.job.now.types.items type_value)) c.requires.within in
    let stopped = c.in_err-put_one.ensures.stopped in
    error_on c.from_residual.result c.in_err-put_one.field-0.0
    (λ f. (n : ℕ) × AreCut j program plan origin (g.O.Out.output c.put_one.new.out) f (rows_before j plan a a + n)
    × g.W.Progress.passed c.args.watch.now c.put_one.new.watch n)
    c.from_residual.ensures.1 (
      stopped.0,
      cut_next j program plan _ a a (plan.points + 1) stopped.0 origin _ _ c.in_err-put_one.field-0.0 (omega arith) within
          (own_text j program plan a) (own_rows (length j.types) a (plan.points + 1)) so_far (rw c.separator_of.ensures at c.in_err-put_one.ensures.table)
          stopped.1,
      stopped.2,
    )

pub loop-second_type-init : goal.loop-second_type-init
loop-second_type-init g c =
    let j = job_value c.args.self.now.job.now in
    let program = trees_of c.args.self.now.potential.now.slope.energy in
    let plan = c.args.self.now.plan.now in
    let within = subst (λ n. c.args.first_type < n) (sym (length-map c.args.self.now.job.now.types.items type_value)) c.requires.within in
    record {
      tables = λ origin so_far.
          wrote_next j program plan _ c.args.first_type c.args.first_type c.args.first_type (c.args.first_type + 1) origin _ _ (own_next j program plan c.args.first_type within) so_far
          (rw c.separator_of.ensures at c.in_ok-put_one.ensures.table);
      room = c.in_ok-put_one.ensures.table.2.failed;
      passed = subst (g.W.Progress.passed c.args.watch.now c.put_one.new.watch) (first_of_type c.args.first_type (c.args.self.now.plan.now.points + 1))
          c.in_ok-put_one.ensures.passed;
      after = omega arith;
    }

pub returns-in_err-put_both-clause-stopped : goal.returns-in_err-put_both-clause-stopped
returns-in_err-put_both-clause-stopped g c = λ origin so_far.
    let j = job_value c.args.self.now.job.now in
    let program = trees_of c.args.self.now.potential.now.slope.energy in
    let plan = c.args.self.now.plan.now in
    let a = c.args.first_type in
    let b = c.loop-second_type.second_type in
    let rows = plan.points + 1 in
    let types = c.args.self.now.job.now.types in
    let count : c.len-second_type-end.result ≡ length types.items = c.len-second_type-end.ensures ∙ types.ok.0 in
    let within = subst (λ n. b < n) (sym (length-map types.items type_value)) (rw count at c.loop-second_type-test.true) in
    let after = c.loop-second_type.invariant.after in
    let stopped = c.in_err-put_both.ensures.stopped in
    let e = c.in_err-put_both.field-0.0 in
    let out = g.O.Out.output c.put_both.new.out in
    let cut = cut_next j program plan _ a b (2 * rows) stopped.0 origin _ out e (omega (arith, after)) within
    (λ text. both_text j program plan a b text after) (both_rows (length j.types) a b rows after)
    (c.loop-second_type.invariant.tables origin so_far) c.in_err-put_both.ensures.tables stopped.1 in
    error_on c.from_residual-in_err-put_both.result e
    (λ f. (n : ℕ) × AreCut j program plan origin out f (rows_before j plan a a + n)
    × g.W.Progress.passed c.args.watch.now c.put_both.new.watch n)
    c.from_residual-in_err-put_both.ensures.1 (
      (2 * (b - a) - 1) * rows + stopped.0,
      subst (AreCut j program plan origin out e) (rows_of_type (length j.types) a b rows stopped.0) cut,
      g.met.W.Progress.passed_more _ _ _ _ _ c.loop-second_type.invariant.passed stopped.2,
    )

pub loop-second_type-preserved : goal.loop-second_type-preserved
loop-second_type-preserved g c =
    let j = job_value c.args.self.now.job.now in
    let program = trees_of c.args.self.now.potential.now.slope.energy in
    let plan = c.args.self.now.plan.now in
    let types = c.args.self.now.job.now.types in
    let count : c.len-second_type-end.result ≡ length types.items = c.len-second_type-end.ensures ∙ types.ok.0 in
    let within = subst (λ n. c.loop-second_type.second_type < n) (sym (length-map types.items type_value)) (rw count at c.loop-second_type-test.true) in
    let after = c.loop-second_type.invariant.after in
    record {
      tables = λ origin so_far.
          wrote_next j program plan _ c.args.first_type c.loop-second_type.second_type c.args.first_type (c.loop-second_type.second_type + 1) origin _ _
          (both_next j program plan c.args.first_type c.loop-second_type.second_type after within) (c.loop-second_type.invariant.tables origin so_far)
          c.in_ok-put_both.ensures.tables;
      room = c.in_ok-put_both.ensures.tables.2.failed ∙ c.loop-second_type.invariant.room;
      passed = subst (g.W.Progress.passed c.args.watch.now c.put_both.new.watch)
          (more_of_type c.args.first_type c.loop-second_type.second_type (c.args.self.now.plan.now.points + 1) after)
          (g.met.W.Progress.passed_more _ _ _ _ _ c.loop-second_type.invariant.passed c.in_ok-put_both.ensures.passed);
      after = omega (arith, after);
    }

pub returns-clause-tables : goal.returns-clause-tables
returns-clause-tables g c =
    let types = c.args.self.now.job.now.types in
    let count : c.len-second_type-end.result ≡ length types.items = c.len-second_type-end.ensures ∙ types.ok.0 in
    let last : c.loop-second_type.second_type ≡ c.len-second_type-end.result = omega (arith, c.loop-second_type.auto.second_type-end, c.loop-second_type-test.false) in
    λ origin so_far.
    type_done (job_value c.args.self.now.job.now) (trees_of c.args.self.now.potential.now.slope.energy) c.args.self.now.plan.now c.args.first_type c.loop-second_type.second_type
    (length types.items) origin _ (last ∙ count) (sym (length-map types.items type_value)) (c.loop-second_type.invariant.tables origin so_far)

pub returns-clause-passed : goal.returns-clause-passed
returns-clause-passed g c =
    let types = c.args.self.now.job.now.types in
    let count : c.len-second_type-end.result ≡ length types.items = c.len-second_type-end.ensures ∙ types.ok.0 in
    let last : c.loop-second_type.second_type ≡ c.len-second_type-end.result = omega (arith, c.loop-second_type.auto.second_type-end, c.loop-second_type-test.false) in
    subst (λ (n : ℕ). g.W.Progress.passed c.args.watch.now c.loop-second_type.watch ((2 * (n - c.args.first_type) - 1) * (c.args.self.now.plan.now.points + 1)))
    (last ∙ count) c.loop-second_type.invariant.passed
