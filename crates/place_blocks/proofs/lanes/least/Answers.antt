use Rattle.std.proofs.Common.{ℕ, ltb, cond, get_or, min}
use Rattle.place_blocks.proofs.LaneLemmas.{itself, chosen, same, lesser}
use Rattle.place_blocks.proofs.lanes.least.Goals as goal

pub returns : goal.returns
returns c =
    let a = c.args.a in
    let b = c.args.b in
    let f = λ (k : ℕ). get_or a k 0 in
    let g = λ (k : ℕ). get_or b k 0 in
    let h = itself a c.fits-a.0 in
    let i = itself b c.fits-b.0 in
    same _ (λ (k : ℕ). cond (ltb (f k) (g k)) (f k) (g k)) (λ k. min (f k) (g k)) (chosen ltb a b a b f g f g h i h i) (λ k l. lesser (f k) (g k))
