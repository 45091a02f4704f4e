use Rattle.std.proofs.Common.{◌≡◌, ◌+◌, ◌<◌, arith, refl, rules, subst, sym}
use Rattle.runs.specs.Watching.{hundredths_behind}
use Rattle.runs.proofs.HundredthLaws.{hundredths-zero, no_more_hundredth, one_more_hundredth}
use Rattle.cli.specs.Command.{PrintsProgress}
use Rattle.cli.specs.Progress.{prints_more, word_for}
use Rattle.cli.proofs.progress.write_hundredths.Goals as goal

pub loop-made-init : goal.loop-made-init
loop-made-init g c =
    let o = g.E.Out.output c.args.err.now in
    record {
      within = omega arith;
      printed = subst (PrintsProgress (word_for c.args.counted) c.args.all o o) (sym (hundredths-zero c.args.all c.args.done)) refl;
    }

pub loop-made-preserved-then-more-next : goal.loop-made-preserved-then-more-next
loop-made-preserved-then-more-next g c =
    let made = c.loop-made.made in
    let more = c.min-more.result in
    let word = word_for c.args.counted in
    let same : more ≡ c.until_hundredth-next.result = search rules in
    let count : c.args.done + (made + more) ≡ c.args.done + made + more = omega arith in
    record {
      within = omega (arith, c.min-more.ensures);
      printed = subst (PrintsProgress word c.args.all (g.E.Out.output c.args.err.now) (g.E.Out.output c.write_progress.new.err))
          (sym (one_more_hundredth c.args.all c.args.done made more (rw same c.until_hundredth-next.ensures)))
          (prints_more word c.args.all (hundredths_behind c.args.all c.args.done made) _ _ _ _ c.loop-made.invariant.printed
          (rw count at c.write_progress.ensures));
    }

pub loop-made-preserved : goal.loop-made-preserved
loop-made-preserved g c =
    let made = c.loop-made.made in
    let more = c.min-more.result in
    let few : more < c.until_hundredth-next.result = search rules in
    record {
      within = omega (arith, c.min-more.ensures);
      printed = subst (PrintsProgress (word_for c.args.counted) c.args.all (g.E.Out.output c.args.err.now) (g.E.Out.output c.loop-made.err))
          (sym (no_more_hundredth c.args.all c.args.done made c.until_hundredth-next.result more c.until_hundredth-next.ensures few))
          c.loop-made.invariant.printed;
    }
