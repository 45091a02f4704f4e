use Rattle.std.proofs.Common.{map, arith, add-one}
use Rattle.state.specs.StateViews.{atom_view}
use Rattle.streams.proofs.DifferenceLaws.{all_alike, alike_next, viewed}
use Rattle.streams.proofs.differences.first_atom.Goals as goal

pub returns-in-Some-clause-differ : goal.returns-in-Some-clause-differ
returns-in-Some-clause-differ c =
    let at = c.loop-at.at in
    record {
      before = at;
      number' = add-one at;
      same = c.loop-at.invariant;
      a = atom_view c.index-run-at.result;
      b = atom_view c.index-stored-at.result;
      first = viewed c.args.run.now at c.index-run-at.result (omega arith) c.index-run-at.is;
      second = viewed c.args.stored.now at c.index-stored-at.result (omega arith) c.index-stored-at.is;
      differ = c.in-Some.ensures.differ;
    }

pub loop-at-preserved : goal.loop-at-preserved
loop-at-preserved c =
    let at = c.loop-at.at in
    alike_next (map atom_view c.args.run.now) (map atom_view c.args.stored.now) at _ _
    (viewed c.args.run.now at c.index-run-at.result (omega arith) c.index-run-at.is)
    (viewed c.args.stored.now at c.index-stored-at.result (omega arith) c.index-stored-at.is)
    c.in_default.ensures.same c.loop-at.invariant

pub returns-clause-same : goal.returns-clause-same
returns-clause-same c =
    all_alike c.args.run.now c.args.stored.now c.loop-at.at (omega arith) c.requires.alike c.loop-at.invariant
