use Rattle.std.proofs.Common.{◌≡◌, ◌++◌, arith, ap, sym, subst, take, ◌∙◌, All, take_all}
use Rattle.std.proofs.lemmas.List.Elements.{All-append}
use Rattle.std.proofs.lemmas.Result.{on_ok_weaker}
use Rattle.cell_tiles.specs.Near.{ArePairsIn, IsPairOf, acting_in, pair_acts}
use Rattle.cell_tiles.specs.Tiles.{pairs_in}
use Rattle.pair_lists.specs.Lists.{pairs_of}
use Rattle.pair_lists.proofs.ListingLemmas.{closed_inside, near_listed, pairs_appended, pairs_stay, rest_inside}
use Rattle.pair_lists.proofs.listing.list_tile.Goals as goal

pub loop-k-preserved : goal.loop-k-preserved
loop-k-preserved g c =
    let frame = c.args.frame.now in
    let pairs = pairs_in c.args.cells.now.members (c.args.tile.first, c.args.tile.second) in
    let kept = c.loop-k.invariant in
    let found = c.near_from-k.ensures in
    let old = c.loop-k.lists in
    let new = c.append.new.self in
    let near = c.near_from-k.new.near in
    let more : new.rest ≡ old.rest ++ near = subst (λ ys. new.rest ≡ old.rest ++ ys) c.as_slice.ensures.value c.in_ok-append.ensures.rest in
    record {
      within = found.near.within;
      acting =
          near_listed (pair_acts frame.reach.now frame.ring.now frame.places.now) pairs (pairs_of c.args.lists.now) (pairs_of old) near
          (pairs_of new) c.loop-k.k c.near_from-k.result (pairs_appended old new near c.append.ensures.lists more) kept.acting
          found.near.acting;
      inside = subst (All (ArePairsIn frame)) (sym c.append.ensures.lists) kept.inside;
      rest = subst (ArePairsIn frame) (sym more) (All-append (IsPairOf _) old.rest near kept.rest found.listed);
    }

pub returns-clause-acting : goal.returns-clause-acting
returns-clause-acting g c =
    let frame = c.args.frame.now in
    let pairs = pairs_in c.args.cells.now.members (c.args.tile.first, c.args.tile.second) in
    let all : take c.loop-k.k pairs ≡ pairs = take_all c.loop-k.k pairs (omega arith) in
    on_ok_weaker c.close_from.result
    (λ e.
    ap (acting_in frame) (pairs_stay _ c.loop-k.lists c.close_from.new.self e)
    ∙ subst (λ ps. acting_in frame (pairs_of c.loop-k.lists) ≡ acting_in frame (pairs_of c.args.lists.now) ++ acting_in frame ps) all
    c.loop-k.invariant.acting)
    c.close_from.ensures.ok

pub returns-clause-inside : goal.returns-clause-inside
returns-clause-inside g c =
    let kept = c.loop-k.invariant in
    on_ok_weaker c.close_from.result
    (λ e. closed_inside _ c.loop-k.lists c.close_from.new.self e (IsPairOf _) kept.inside kept.rest) c.close_from.ensures.ok

pub returns-clause-rest : goal.returns-clause-rest
returns-clause-rest g c =
    on_ok_weaker c.close_from.result
    (λ e. rest_inside _ c.loop-k.lists c.close_from.new.self e (IsPairOf _) c.loop-k.invariant.rest) c.close_from.ensures.ok
