use Rattle.std.proofs.Common.{◌*◌, ◌/◌, ◌<◌, subst, Some, arith, [], ◌∷◌, take, length, take_all}
use Rattle.rounds.specs.Tiles.{additions_of}
use Rattle.rounds.proofs.ActingLemmas.{entry_inside}
use Rattle.rounds.specs.Totals.{GoesOn}
use Rattle.rounds.proofs.ActingLemmas.{take_next}
use Rattle.rounds.proofs.WordLemmas.{goes_on_more, goes_on_one}
use Rattle.rounds.proofs.alone.add_pair.Goals as goal

pub loop-part-preserved : goal.loop-part-preserved
loop-part-preserved c =
    let adds = additions_of (Some c.args.add.now) in
    let first = c.args.sums.now in
    let now = c.loop-part.sums in
    let k = c.loop-part.part in
    let a = c.addition-entry.result in
    let inside : a.0 < 3 * (length first / 3) = entry_inside (length first / 3) c.args.add.now k a c.requires c.addition-entry.ensures in
    let lt : a.0 < length now = omega (arith, inside, c.loop-part.invariant.0) in
    goes_on_more first now _ (take k adds) (a ∷ []) _ c.loop-part.invariant
    (goes_on_one now a.0 a.1 c.cast_unsigned.result c.cast_signed.result c.cast_unsigned.ensures c.cast_signed.ensures lt)
    (take_next adds k a c.addition-entry.ensures)

pub returns : goal.returns
returns c = subst (λ xs. GoesOn c.args.sums.now xs c.loop-part.sums) (take_all c.loop-part.part (additions_of (Some c.args.add.now)) (omega arith)) c.loop-part.invariant
