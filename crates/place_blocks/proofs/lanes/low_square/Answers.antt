use Rattle.std.proofs.Common.{ℕ, ◌*◌, ◌%◌, ◌^◌, replicate, get_or, bit_and}
use Rattle.std.proofs.lemmas.Nat.{and_mask}
use Rattle.place_blocks.proofs.LaneLemmas.{itself, splat, mapped, zipped, same}
use Rattle.place_blocks.proofs.lanes.low_square.Goals as goal

pub returns : goal.returns
returns c =
    let a = c.args.a in
    let f = λ (k : ℕ). get_or a k 0 in
    let mul = λ (m n : ℕ). m * n % 2 ^ 32 in
    let low = zipped bit_and a (replicate 16 32767) f (λ (k : ℕ). 32767) (itself a c.fits-a.0) (splat 32767) in
    let part = mapped (λ (x : ℕ). x) _ (λ (k : ℕ). f k % 2 ^ 15) (same _ (λ (k : ℕ). bit_and (f k) 32767) (λ (k : ℕ). f k % 2 ^ 15) low (λ k l. and_mask (f k) 15)) in
    zipped mul _ _ (λ (k : ℕ). f k % 2 ^ 15) (λ (k : ℕ). f k % 2 ^ 15) part part
