use Rattle.std.proofs.Common.{ℕ, ◌-◌, replicate, ltb, cond, get_or}
use Rattle.place_blocks.specs.Blocks.{behind}
use Rattle.place_blocks.proofs.LaneLemmas.{itself, splat, zipped, chosen, same, rest, fits16}
use Rattle.place_blocks.proofs.lanes.less_or_zero.Goals as goal

pub returns : goal.returns
returns c =
    let a = c.args.a in
    let b = replicate 16 c.args.b in
    let f = λ (k : ℕ). get_or a k 0 in
    let g = λ (k : ℕ). c.args.b in
    let h = itself a c.fits-a.0 in
    let i = splat c.args.b in
    same _ (λ (k : ℕ). behind (cond (ltb (f k) (g k)) (g k) (f k)) (g k)) (λ (k : ℕ). f k - g k)
    (zipped behind _ b (λ (k : ℕ). cond (ltb (f k) (g k)) (g k) (f k)) g (chosen ltb a b b a f g g f h i i h) i)
    (λ k l. rest (f k) (g k) (fits16 a c.fits-a.0 c.fits-a.1 k l) c.ranges.b.fits)
