-- Titles of frames: how a time is written part by part, and that a title with a time is a title.
use Rattle.std.proofs.Common.{◌≡◌, ℕ, zero, suc, ◌+◌, ◌-◌, ◌*◌, ◌/◌, ◌%◌, ◌^◌, ◌<◌, ◌≤◌, true, not, eqb, List, [], ◌∷◌, ◌++◌, length, take, drop, get_or, ℤ, pos, negsuc, ◌*ℤ◌, neg_ℤ, decimal, codes, IsTrue, refl, sym, ap, ◌∙◌, arith, lit<, unsigned_abs, ne_eqb, append_assoc, get_or-append-add, length-append, take-append-drop}
use Rattle.std.specs.Fmt.{signed_decimal}
use Rattle.std.proofs.lemmas.Bool.{and_from, and_parts}
use Rattle.std.proofs.lemmas.Fmt.{decimal_nonempty}
use Rattle.std.proofs.Math.Nat.{mul-le-mul}
use lib.Signed.{mag}
use Rattle.line_text.specs.Parts.{is_title, lacks, right_in}
use Rattle.line_text.specs.Columns.{decimals_text, with_decimals, zeros_in}
use Rattle.line_text.proofs.LineLaws.{copies_lack, decimal_lacks, lacks_append, lacks_at, lacks_front, right_lacks, signed_lacks}
use Rattle.runs.specs.FrameTitles.{mark, time_and_step, time_of}

-- ---- a time

-- the sign of a number
abbrev pub sign : ℤ → List ℕ
sign (pos n) = []
sign (negsuc n) = 45 ∷ []

-- n fs in ps, with five decimals
abbrev pub picoseconds : ℕ → List ℕ
picoseconds n = decimal (n / 1000) ++ 46 ∷ zeros_in 5 (decimal (n % 1000 * 100))

parts_are : (n : ℕ) → with_decimals 5 (n * 100) ≡ picoseconds n
parts_are n =
    let whole : n * 100 / 10 ^ 5 ≡ n / 1000 = omega arith in
    let part : n * 100 % 10 ^ 5 ≡ n % 1000 * 100 = omega arith in
    rw (whole, part) refl

below_zero : (n : ℕ) → 0 < n → decimals_text 5 (neg_ℤ (pos n)) ≡ 45 ∷ with_decimals 5 n
below_zero zero some = absurd (omega arith)
below_zero (suc n) some = refl

some_time : (n time_step : ℕ) → 0 < n → 0 < time_step → 0 < n * time_step * 100
some_time zero k h g = absurd (omega arith)
some_time (suc n) zero h g = absurd (omega arith)
some_time (suc n) (suc k) h g = omega arith

-- a time is written as its sign and its fs in ps
time_parts : (time_step : ℕ) (step : ℤ) → 0 < time_step
    → decimals_text 5 (time_of time_step step) ≡ sign step ++ picoseconds (unsigned_abs step * time_step)
time_parts time_step (pos n) some = parts_are (n * time_step)
time_parts time_step (negsuc n) some = below_zero (suc n * time_step * 100) (some_time (suc n) time_step (omega arith) some)
    ∙ ap (λ (t : List ℕ). 45 ∷ t) (parts_are (suc n * time_step))

-- the time, as the product that the program computes
pub time_is : (time_step : ℕ) (step : ℤ) → step *ℤ pos (time_step * 100) ≡ time_of time_step step
time_is time_step (pos n) = ap (λ (m : ℕ). pos m) (omega arith)
time_is time_step (negsuc n) = ap (λ (m : ℕ). neg_ℤ (pos m)) (omega arith)

-- ---- a title with a time

picoseconds_lack : (c n : ℕ) → c < 45 → n / 1000 < 2 ^ 64 → lacks c (picoseconds n) ≡ true
picoseconds_lack c n low fits =
    let part : List ℕ = decimal (n % 1000 * 100) in
    let back : lacks c (zeros_in 5 part) ≡ true = lacks_append c _ part (copies_lack c 48 (5 - length part) (λ e. omega arith))
    (decimal_lacks c (n % 1000 * 100) (omega arith) (omega arith)) in
    lacks_append c (decimal (n / 1000)) (46 ∷ zeros_in 5 part) (decimal_lacks c (n / 1000) (omega arith) fits)
    (rw (ne_eqb 46 c (λ e. omega arith), back) refl)

sign_lacks : (c : ℕ) (z : ℤ) → c < 45 → lacks c (sign z) ≡ true
sign_lacks c (pos n) low = refl
sign_lacks c (negsuc n) low = rw (ne_eqb 45 c (λ e. omega arith)) refl

abs_fits : (z : ℤ) → mag z < 2 ^ 63 → unsigned_abs z ≤ 2 ^ 63
abs_fits (pos n) fits = omega arith
abs_fits (negsuc n) fits = omega arith

-- the whole picoseconds of a time fit 64 bits, for all step counters and time steps of at most 1000 fs
time_fits : (m time_step : ℕ) → m ≤ 2 ^ 63 → time_step ≤ 1000 → m * time_step / 1000 < 2 ^ 64
time_fits m time_step a b = let l : m * time_step ≤ 2 ^ 63 * 1000 = mul-le-mul a b in omega arith

-- a time has no line feed
pub time_lacks : (time_step : ℕ) (step : ℤ) → 0 < time_step → time_step ≤ 1000 → mag step < 2 ^ 63
    → lacks 10 (decimals_text 5 (time_of time_step step)) ≡ true
time_lacks time_step step some most fits =
    let fs : ℕ = unsigned_abs step * time_step in
    rw (time_parts time_step step some)
    (lacks_append 10 (sign step) (picoseconds fs) (sign_lacks 10 step (lit< tt))
    (picoseconds_lack 10 fs (lit< tt) (time_fits (unsigned_abs step) time_step (abs_fits step fits) most)))

-- nor in the time and the step
pub end_lacks : (time : List ℕ) (step : ℤ) → lacks 10 time ≡ true → mag step < 2 ^ 63
    → lacks 10 (mark ++ right_in 9 time ++ codes " step= " ++ signed_decimal step) ≡ true
end_lacks time step bare fits =
    lacks_append 10 (mark ++ right_in 9 time ++ codes " step= ") (signed_decimal step)
    (lacks_append 10 (mark ++ right_in 9 time) (codes " step= ")
    (lacks_append 10 mark (right_in 9 time) refl (right_lacks 10 9 time (lit< tt) bare)) refl)
    (signed_lacks 10 step (lit< tt) fits)

signed_nonempty : (z : ℤ) → mag z < 2 ^ 63 → 0 < length (signed_decimal z)
signed_nonempty (pos n) fits = decimal_nonempty n (omega arith)
signed_nonempty (negsuc n) fits = omega arith

last_at : (a b : List ℕ) → 0 < length b → get_or (a ++ b) (length (a ++ b) - 1) 0 ≡ get_or b (length b - 1) 0
last_at a b some =
    let same : length (a ++ b) - 1 ≡ length a + (length b - 1) = omega (arith, length-append a b) in
    rw same (get_or-append-add a b (length b - 1) 0)

-- it has no line feed, and no carriage return after it
ends_well : (front : List ℕ) (step : ℤ) → lacks 10 (front ++ signed_decimal step) ≡ true → mag step < 2 ^ 63
    → IsTrue (is_title (front ++ signed_decimal step))
ends_well front step bare fits =
    let number : List ℕ = signed_decimal step in
    let last = last_at front number (signed_nonempty step fits) in
    and_from (lacks 10 (front ++ number)) (not (eqb (get_or (front ++ number) (length (front ++ number) - 1) 0) 13)) bare
    (ap not (ne_eqb _ 13 (λ e. lacks_at 13 number (length number - 1) (lit< tt) (signed_lacks 13 step (lit< tt) fits) (sym last ∙ e))))

-- a beginning of a title, with a time, is a title
pub timed_is_title : (title : List ℕ) (at time_step : ℕ) (step : ℤ) → IsTrue (is_title title)
    → lacks 10 (time_and_step time_step step) ≡ true → mag step < 2 ^ 63
    → IsTrue (is_title (take at title ++ time_and_step time_step step))
timed_is_title title at time_step step is end fits =
    let front : List ℕ = take at title in
    let middle : List ℕ = mark ++ right_in 9 (decimals_text 5 (time_of time_step step)) ++ codes " step= " in
    let own : lacks 10 title ≡ true = (and_parts (lacks 10 title) (not (eqb (get_or title (length title - 1) 0) 13)) is).0 in
    let kept : lacks 10 front ≡ true = lacks_front 10 front (drop at title) (rw (take-append-drop at title) own) in
    let bare : lacks 10 (front ++ (middle ++ signed_decimal step)) ≡ true = lacks_append 10 front (middle ++ signed_decimal step) kept end
    in
    rw (sym (append_assoc front middle (signed_decimal step)))
    (ends_well (front ++ middle) step (rw (append_assoc front middle (signed_decimal step)) bare) fits)
