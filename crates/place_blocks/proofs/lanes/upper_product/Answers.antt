use Rattle.std.proofs.Common.{ℕ, ◌*◌, ◌/◌, ◌%◌, ◌^◌, replicate, map, get_or, arith}
use Rattle.place_blocks.proofs.LaneLemmas.{itself, splat, mapped, zipped, narrows}
use Rattle.place_blocks.proofs.lanes.upper_product.Goals as goal

pub overflow_cast-result : goal.overflow_cast-result
overflow_cast-result c =
    let a = c.args.a in
    let f = λ (k : ℕ). get_or a k 0 in
    let mul = λ (m n : ℕ). m * n % 2 ^ 32 in
    let wide = mapped (λ (x : ℕ). x) a f (itself a c.fits-a.0) in
    let factors = mapped (λ (x : ℕ). x) c.factor.result (λ (k : ℕ). c.args.w) c.factor.ensures in
    let product = zipped mul (map (λ (x : ℕ). x) a) (map (λ (x : ℕ). x) c.factor.result) f (λ (k : ℕ). c.args.w) wide factors in
    narrows (λ (k : ℕ). mul (f k) c.args.w) _ product (λ k l. omega arith)

pub returns : goal.returns
returns c =
    let a = c.args.a in
    let f = λ (k : ℕ). get_or a k 0 in
    let mul = λ (m n : ℕ). m * n % 2 ^ 32 in
    let wide = mapped (λ (x : ℕ). x) a f (itself a c.fits-a.0) in
    let factors = mapped (λ (x : ℕ). x) c.factor.result (λ (k : ℕ). c.args.w) c.factor.ensures in
    let product = zipped mul (map (λ (x : ℕ). x) a) (map (λ (x : ℕ). x) c.factor.result) f (λ (k : ℕ). c.args.w) wide factors in
    let upper = zipped (λ (m n : ℕ). m / 2 ^ n) _ (replicate 16 16) (λ (k : ℕ). mul (f k) c.args.w) (λ (k : ℕ). 16) product (splat 16) in
    mapped (λ (x : ℕ). x) _ (λ (k : ℕ). mul (f k) c.args.w / 2 ^ 16) upper
