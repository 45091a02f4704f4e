use Rattle.std.proofs.Common.{◌≡◌, ◌++◌, ◌∷◌, ◌+◌, ◌<◌, ◌∙◌, [], arith, length, refl, set, take}
use Rattle.std.proofs.lemmas.List.{take_more_set}
use Rattle.std.proofs.lemmas.List.Elements.{All-push}
use Rattle.kernel_lanes.specs.Lanes.{IsServed}
use Rattle.frame_sums.proofs.RowLaws.{asked_by, found_here, mapped_next}
use Rattle.frame_sums.specs.Rows.{query_of}
use Rattle.frame_sums.proofs.safe_systems.SafeSystem.query_all.Goals as goal

pub query-requires-clause-ordered : goal.query-requires-clause-ordered
query-requires-clause-ordered g c = (found_here c.args.self.now.system _ c.args.found.now.pairs c.loop-l.l c.atoms-low.result c.distance.result c.requires.found c.atoms-low.ensures.value c.distance.ensures).1

pub query-requires-clause-inside : goal.query-requires-clause-inside
query-requires-clause-inside g c = (found_here c.args.self.now.system _ c.args.found.now.pairs c.loop-l.l c.atoms-low.result c.distance.result c.requires.found c.atoms-low.ensures.value c.distance.ensures).2

pub query-requires-clause-core : goal.query-requires-clause-core
query-requires-clause-core g c = (found_here c.args.self.now.system _ c.args.found.now.pairs c.loop-l.l c.atoms-low.result c.distance.result c.requires.found c.atoms-low.ensures.value c.distance.ensures).3

pub query-requires-clause-cutoff : goal.query-requires-clause-cutoff
query-requires-clause-cutoff g c = (found_here c.args.self.now.system _ c.args.found.now.pairs c.loop-l.l c.atoms-low.result c.distance.result c.requires.found c.atoms-low.ensures.value c.distance.ensures).4

pub loop-l-preserved : goal.loop-l-preserved
loop-l-preserved g c =
    let s = c.args.self.now.system in
    let found = c.args.found.now.pairs in
    let l = c.loop-l.l in
    let queries = c.loop-l.queries in
    let query = c.query.result in
    let kept = c.loop-l.invariant in
    let room : l < length queries = omega (arith, c.told-queries, c.len-l-end.ensures.few, c.loop-l-test.true) in
    let pushed : take (l + 1) (set queries l query) ≡ take l queries ++ query ∷ [] = take_more_set queries l query room in
    let here = found_here s _ found l c.atoms-low.result c.distance.result c.requires.found c.atoms-low.ensures.value c.distance.ensures in
    let asked : query ≡ query_of s here.0 = c.query.ensures.value ∙ asked_by s found l here.0 c.atoms-low.result c.distance.result here.5 c.atoms-low.ensures.value c.distance.ensures in
    record {
      value = rw (pushed, mapped_next (query_of s) found l here.0 here.5, kept.value, asked) refl;
      served = rw pushed (All-push (IsServed s.kernel.verified) (take l queries) query kept.served c.query.ensures.served);
    }
