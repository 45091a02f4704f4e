use Rattle.std.proofs.Common.{◌≡◌, ◌<◌, ◌+ℤ◌, ℤ, arith, get_or, length, pos, refl, take, rules, to_z, of_z}
use mir.Syntax.{w128}
use Rattle.std.proofs.lemmas.Int.{ints}
use Rattle.std.proofs.lemmas.List.{get_or_read}
use Rattle.frame_sums.proofs.SumLaws.{over_next}
use Rattle.frame_sums.specs.Sums.{sum_over}
use Rattle.frame_sums.proofs.energies.sum_of_first.Goals as goal

pub loop-l-preserved : goal.loop-l-preserved
loop-l-preserved c =
    let values = c.args.values.now in
    let l = c.loop-l.l in
    let same : ℤ → ℤ = λ v. v in
    let here : l < length values = omega (arith, c.loop-l-test.true, c.requires.there) in
    let at = get_or_read values l c.index-values-l.result here c.index-values-l.is (pos 0) in
    let wide : to_z w128 (of_z w128 c.wide.result) ≡ c.wide.result = search rules in
    let new : to_z w128 (of_z w128 c.plus-sum.result) ≡ c.plus-sum.result = search rules in
    let more = over_next same values l (pos 0) (sum_over same (take l values)) (get_or values l (pos 0)) (sum_over same (take l values) +ℤ get_or values l (pos 0)) here refl refl refl in
    record {
      value = omega (arith, ints, at, wide, new, more, c.wide.ensures.value, c.plus-sum.ensures, c.loop-l.invariant.value);
      bound = omega (arith, ints, wide, new, c.wide.ensures.bound, c.plus-sum.ensures, c.loop-l.invariant.bound);
    }
