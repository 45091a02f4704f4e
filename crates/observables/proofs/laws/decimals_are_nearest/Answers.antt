use Rattle.std.proofs.Common.{◌^◌, pos, ◌*ℤ◌, refl, arith}
use Rattle.std.proofs.lemmas.Int.{ints}
use Rattle.fixed.proofs.FloorLemmas.{nearest_is}
use Rattle.observables.specs.Ratios.{decimal_of}
use Rattle.observables.proofs.laws.decimals_are_nearest.Goals as goal

pub returns : goal.returns
returns c = λ decimals x p. nearest_is (x.numerator *ℤ pos (10 ^ decimals)) (pos x.denominator) (decimal_of decimals x) (omega (arith, ints)) refl
