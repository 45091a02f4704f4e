-- Hundredths of a run: the step that completes the next one; and the hundredths of two consecutive stretches are
-- the hundredths of the first, followed by the hundredths of the second.
use Rattle.std.proofs.Common.{◌≡◌, ℕ, zero, suc, ◌+◌, ◌-◌, ◌*◌, ◌/◌, ◌%◌, ◌<◌, ◌≤◌, true, false, List, [], ◌∷◌, ◌++◌, arith, refl, ap, sym, ◌∙◌, zero-add, cond, filter, le-ltb, lt-ltb, append-nil, div-add-mod'}
use Rattle.std.specs.Int.{div_ceil}
use Rattle.std.specs.List.{All}
use Rattle.std.proofs.lemmas.List.{map-append}
use Rattle.std.proofs.lemmas.List.Elements.{All-cons, All-filter, All-map, All-nil, filter-append}
use Rattle.std.proofs.lemmas.Nat.{div_below, le-div, mod_below}
use Rattle.std.proofs.Math.Nat.{mul-le-mul_right}
use Rattle.integrator.specs.Forces.{numbers_from}
use Rattle.fallible.specs.Out.{Output}
use Rattle.runs.specs.Watching.{IsNextHundredth, Report, complete, completes, counts_of, hundredths_behind, reports_at}

-- a report of this number of n steps
abbrev report : Output → (n done : ℕ) → Report
report o n done = record { done = done; all = n; output = o }

-- ---- numbers in order

-- a numbers from i on, and then b more
numbers-add : (i a b : ℕ) → numbers_from i (a + b) ≡ numbers_from i a ++ numbers_from (i + a) b
unfolding numbers_from
numbers-add i zero b = let e : zero + b ≡ b = omega arith in let f : i + zero ≡ i = omega arith in rw (e, f) refl
numbers-add i (suc a) b =
    let e : suc a + b ≡ suc (a + b) = omega arith in
    let f : suc i + a ≡ i + suc a = omega arith in
    rw e (ap (λ l. i ∷ l) (numbers-add (suc i) a b ∙ ap (λ k. numbers_from (suc i) a ++ numbers_from k b) f))

-- the hundredths of a stretch and of the next
pub hundredths-add : (n first a b : ℕ)
    → hundredths_behind n first (a + b) ≡ hundredths_behind n first a ++ hundredths_behind n (first + a) b
hundredths-add n first a b =
    let f : suc first + a ≡ suc (first + a) = omega arith in
    ap (filter (completes n)) (numbers-add (suc first) a b ∙ ap (λ k. numbers_from (suc first) a ++ numbers_from k b) f)
    ∙ filter-append (completes n) (numbers_from (suc first) a) (numbers_from (suc (first + a)) b)

-- The hundredths of the first a + b steps are the hundredths of the first a, then of the next b steps.
pub hundredths-next : (n a b : ℕ) → hundredths_behind n 0 (a + b) ≡ hundredths_behind n 0 a ++ hundredths_behind n a b
hundredths-next n a b = hundredths-add n 0 a b ∙ ap (λ k. hundredths_behind n 0 a ++ hundredths_behind n k b) (zero-add a)

-- a stretch of no step has none
pub hundredths-zero : (n first : ℕ) → hundredths_behind n first 0 ≡ []
unfolding numbers_from
hundredths-zero n first = refl

one : (n first : ℕ) → hundredths_behind n first 1 ≡ cond (completes n (suc first)) (suc first ∷ []) []
unfolding numbers_from
one n first = refl

-- a stretch before the next one has none
none_before : (n first more k : ℕ) → IsNextHundredth n first more → k < more → hundredths_behind n first k ≡ []
none_before n first more zero h few = hundredths-zero n first
none_before n first more (suc k) h few =
    let e : k + 1 ≡ suc k = omega arith in
    let f : first + suc k ≡ suc (first + k) = omega arith in
    let no : completes n (suc (first + k)) ≡ false = ap (completes n) (sym f) ∙ h.none (suc k) (omega arith) few in
    ap (hundredths_behind n first) (sym e) ∙ hundredths-add n first k 1
    ∙ ap (λ l. l ++ hundredths_behind n (first + k) 1) (none_before n first more k h (omega (arith, few)))
    ∙ one n (first + k) ∙ ap (λ b. cond b (suc (first + k) ∷ []) []) no

-- A stretch up to the next hundredth has only this hundredth.
one_up_to : (n first more : ℕ) → IsNextHundredth n first more → hundredths_behind n first more ≡ (first + more) ∷ []
one_up_to n first zero h = absurd (omega (arith, h.some))
one_up_to n first (suc k) h =
    let e : k + 1 ≡ suc k = omega arith in
    let f : first + suc k ≡ suc (first + k) = omega arith in
    let yes : completes n (suc (first + k)) ≡ true = ap (completes n) (sym f) ∙ h.is in
    ap (hundredths_behind n first) (sym e) ∙ hundredths-add n first k 1
    ∙ ap (λ l. l ++ hundredths_behind n (first + k) 1) (none_before n first (suc k) k h (omega arith))
    ∙ one n (first + k) ∙ ap (λ b. cond b (suc (first + k) ∷ []) []) yes ∙ ap (λ s. s ∷ []) (sym f)

-- Extending a stretch up to the next hundredth adds this hundredth.
pub one_more_hundredth : (n first made more : ℕ) → IsNextHundredth n (first + made) more
    → hundredths_behind n first (made + more) ≡ hundredths_behind n first made ++ (first + made + more) ∷ []
one_more_hundredth n first made more h = hundredths-add n first made more
    ∙ ap (λ l. hundredths_behind n first made ++ l) (one_up_to n (first + made) more h)

-- Extending a stretch by fewer steps than the next hundredth needs adds no hundredth.
pub no_more_hundredth : (n first made more k : ℕ) → IsNextHundredth n (first + made) more → k < more
    → hundredths_behind n first (made + k) ≡ hundredths_behind n first made
no_more_hundredth n first made more k h few =
    hundredths-add n first made k ∙ ap (λ l. hundredths_behind n first made ++ l) (none_before n (first + made) more k h few)
    ∙ append-nil (hundredths_behind n first made)

-- ---- reports

-- Extending a stretch up to the next hundredth adds one report.
pub one_more_report : (o : Output) (n first made more : ℕ) → IsNextHundredth n (first + made) more
    → reports_at o n (hundredths_behind n first (made + more))
    ≡ reports_at o n (hundredths_behind n first made) ++ report o n (first + made + more) ∷ []
one_more_report o n first made more h =
    ap (reports_at o n) (one_more_hundredth n first made more h)
    ∙ map-append (λ (done : ℕ). report o n done) (hundredths_behind n first made) ((first + made + more) ∷ [])

-- reports of numbers of steps are of these numbers
pub counts_at : (o : Output) (n : ℕ) (counts : List ℕ) → counts_of (reports_at o n counts) ≡ counts
counts_at o n [] = refl
counts_at o n (count ∷ counts) = ap (λ l. count ∷ l) (counts_at o n counts)

numbers_all : (P : ℕ → Type 0) (i k : ℕ) → ((c : ℕ) → i ≤ c → c < i + k → P c) → All P (numbers_from i k)
unfolding numbers_from
numbers_all P i zero h = All-nil P
numbers_all P i (suc k) h = All-cons P i (numbers_from (suc i) k) (h i (omega arith) (omega arith))
    (numbers_all P (suc i) k (λ c low high. h c (omega (arith, low)) (omega (arith, high))))

-- A property of the reports at all steps of a stretch is a property of the reports at its hundredths.
pub all_reports : (P : Report → Type 0) (o : Output) (n first k : ℕ) → ((c : ℕ) → first < c → c ≤ first + k → P (report o n c))
    → All P (reports_at o n (hundredths_behind n first k))
all_reports P o n first k h =
    All-map P (λ (done : ℕ). report o n done) (hundredths_behind n first k)
    (All-filter (completes n) (λ (done : ℕ). P (report o n done)) (numbers_from (suc first) k)
    (numbers_all (λ (done : ℕ). P (report o n done)) (suc first) k (λ c low high. h c (omega (arith, low)) (omega (arith, high)))))

-- ---- the next one

ceil_above : (x e : ℕ) → e ≡ div_ceil x 100 → (x ≤ 100 * e) × (100 * e < x + 100)
ceil_above x e h = (omega (arith, h), omega (arith, h))

-- With q whole hundredths complete after the first steps, the least step s with 100 s at least (q + 1) n completes the
-- next one.
pub next_hundredth : (n first e : ℕ) → first < n → e ≡ div_ceil ((100 * first / n + 1) * n) 100 → IsNextHundredth n first (e - first)
next_hundredth n first e few h =
    let more = e - first in
    let q = complete n first in
    let next = (q + 1) * n in
    let positive : 0 < n = omega (arith, few) in
    let whole : q * n + (100 * first) % n ≡ 100 * first = div-add-mod' (100 * first) n in
    let left : (100 * first) % n < n = mod_below (100 * first) n positive in
    let step : next ≡ q * n + n = omega arith in
    let ceil = ceil_above next e h in
    let most : q < 100 = div_below (100 * first) n 100 positive (omega (arith, few)) in
    let all : next ≤ 100 * n = mul-le-mul_right n (omega (arith, most)) in
    let below : (s : ℕ) → s < e → complete n s < q + 1 = λ s l. div_below (100 * s) n (q + 1) positive (omega (arith, ceil.1, l)) in
    let reached : q + 1 ≤ complete n e = le-div (q + 1) (100 * e) n positive ceil.0 in
    let above : first < e = omega (arith, whole, left, step, ceil.0) in
    let is : e ≡ first + more = omega (arith, above) in
    let some : 1 ≤ more = omega (arith, above) in
    let before : complete n (e - 1) < complete n e = omega (arith, below (e - 1) (omega (arith, is, some)), reached) in
    let rises : (s : ℕ) → first ≤ s → q ≤ complete n s = λ s l. le-div q (100 * s) n positive (omega (arith, whole, l)) in
    record {
      some = some;
      within = omega (arith, ceil.1, all, is);
      is = ap (completes n) (sym is) ∙ lt-ltb (complete n (e - 1)) (complete n e) before;
      none = λ k some_k few_k.
          let up : complete n (first + k) < q + 1 = below (first + k) (omega (arith, is, few_k)) in
          let down : q ≤ complete n (first + k - 1) = rises (first + k - 1) (omega (arith, some_k)) in
          le-ltb (complete n (first + k - 1)) (complete n (first + k)) (omega (arith, up, down));
    }
