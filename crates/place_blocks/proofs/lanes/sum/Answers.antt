use Rattle.std.proofs.Common.{ℕ, ◌+◌, ◌%◌, ◌^◌, get_or}
use Rattle.std.specs.Simd.Lanes.{zip2}
use Rattle.place_blocks.proofs.LaneLemmas.{itself, zipped}
use Rattle.place_blocks.proofs.lanes.sum.Goals as goal

pub returns : goal.returns
returns c =
    let add = λ (m n : ℕ). (m + n) % 2 ^ 32 in
    let a = c.args.a in
    let b = c.args.b in
    let two = zipped add a b (λ (k : ℕ). get_or a k 0) (λ (k : ℕ). get_or b k 0) (itself a c.fits-a.0) (itself b c.fits-b.0) in
    zipped add (zip2 add a b) c.args.c (λ (k : ℕ). add (get_or a k 0) (get_or b k 0)) (λ (k : ℕ). get_or c.args.c k 0) two (itself c.args.c c.fits-c.0)
