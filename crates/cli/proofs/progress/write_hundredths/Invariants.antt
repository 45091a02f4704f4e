use Rattle.std.proofs.Common.{◌≤◌, ◌-◌}
use Rattle.runs.specs.Watching.{hundredths_behind}
use Rattle.cli.specs.Command.{PrintsProgress}
use Rattle.cli.specs.Progress.{word_for}
use Rattle.cli.proofs.progress.write_hundredths.Given as goal

-- the hundredths among these parts are printed
abbrev pub invariant-loop-made : goal.invariant-loop-made
invariant-loop-made g l = record {
  within : l.made ≤ l.parts;
  printed : PrintsProgress (word_for l.counted) l.all (g.E.Out.output l.fn.err) (g.E.Out.output l.err)
      (hundredths_behind l.all l.done l.made);
}

abbrev pub decreases-loop-made : goal.decreases-loop-made
decreases-loop-made g l = l.parts - l.made
