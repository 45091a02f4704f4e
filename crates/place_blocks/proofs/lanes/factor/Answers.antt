use Rattle.std.proofs.Common.{ℕ, ◌/◌, ◌^◌, replicate, get_or, arith, ap, ◌∙◌}
use Rattle.std.specs.Int.Bits.{bit_or, or_zero_r}
use Rattle.std.specs.Simd.Lanes.{zip2}
use Rattle.place_blocks.proofs.LaneLemmas.{itself, splat, zipped, same}
use Rattle.place_blocks.proofs.lanes.factor.Goals as goal

pub returns : goal.returns
returns c =
    let a = c.args.a in
    let w = c.args.w in
    let f = λ (k : ℕ). get_or a k 0 in
    let upper = zipped (λ (m n : ℕ). m / 2 ^ n) a (replicate 16 15) f (λ (k : ℕ). 15) (itself a c.fits-a.0) (splat 15) in
    let both = zipped bit_or (replicate 16 w) (zip2 (λ (m n : ℕ). m / 2 ^ n) a (replicate 16 15)) (λ (k : ℕ). w) (λ (k : ℕ). f k / 2 ^ 15) (splat w) upper in
    same _ (λ (k : ℕ). bit_or w (f k / 2 ^ 15)) (λ (k : ℕ). w) both (λ k l. ap (bit_or w) (omega (arith, c.requires k l)) ∙ or_zero_r w)
