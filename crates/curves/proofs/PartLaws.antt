-- Parts of a range while the worst is looked for, and while a range is halved.
use Rattle.std.proofs.Common.{◌≡◌, ℕ, zero, suc, ◌<◌, ◌≤◌, ◌+◌, ◌/◌, max, pos, ◌+ℤ◌, ◌-ℤ◌, ◌≤ℤ◌, ◌<ℤ◌, Bool, true, false, ◌||◌, List, [], ◌∷◌, ◌++◌, length, take, drop, get_or, slice_set, Option, Some, None, slice_get, refl, sym, subst, ap, ◌∙◌, ◌⊎◌, inl, inr, arith}
use Rattle.std.proofs.Math.Pow.{shr_mono}
use Rattle.std.proofs.lemmas.Bool.{and_parts, both_ways}
use Rattle.std.proofs.lemmas.Bool.Decides.{nat_tests}
use Rattle.std.proofs.lemmas.Int.{by_lt_z, ints}
use Rattle.std.proofs.lemmas.Option.{none-some, same_Some, slice_get_within}
use Rattle.energy_program.specs.Programs.{Trees}
use Rattle.fixed.specs.declared.constants.Constant.{Constant}
use Rattle.fixed.specs.Arithmetic.{is_zero}
use Rattle.interval_domain.specs.Ranges.{Range, range}
use Rattle.interval_domain.specs.Spans.{AreHalves}
use Rattle.interval_domain.specs.Views.{span_range}
use Rattle.interval_domain.specs.declared.span.Span.{Span}
use Rattle.curves.specs.Slices.{AreHalved, AreOfWorst, AreWorstOver, BoundsView, IsNext, IsToHalve, IsWorst, Part, are_close, at_ends, bounds_at, bounds_view, greater_bound, greater_bounds, halved_at, in_column, is_close, is_worse, middle, part_on, turn_of}
use Rattle.curves.specs.declared.slices.Column.{Column}
use Rattle.curves.specs.declared.slices.Column.TheVariants.{Energy, Slope}

-- ---- the order of bounds

-- no bound is worse than itself
pub not_itself : (x : Option ℕ) → is_worse x x ≡ false
not_itself None = refl
not_itself (Some x) = grind (arith, nat_tests)

-- of two bounds one is worse at most
pub not_both : (x y : Option ℕ) → is_worse x y ≡ true → is_worse y x ≡ false
not_both None None e = refl
not_both None (Some y) e = refl
not_both (Some x) None e = absurd (cc)
not_both (Some x) (Some y) e = grind (arith, nat_tests)

-- a bound that is worse than y is worse than all that aren't worse than y
pub worse_over : (x y z : Option ℕ) → is_worse x y ≡ true → is_worse z y ≡ false → is_worse x z ≡ true
worse_over None y (Some z) e f = refl
worse_over None None None e f = absurd (cc)
worse_over None (Some y) None e f = absurd (cc)
worse_over (Some x) None z e f = absurd (cc)
worse_over (Some x) (Some y) None e f = absurd (cc)
worse_over (Some x) (Some y) (Some z) e f = grind (arith, nat_tests)

-- ---- numbers of parts

-- a number below n + 1 is below n, or n
before_or_last : (n i : ℕ) → i < n + 1 → (i < n) ⊎ (i ≡ n)
before_or_last zero zero l = inr refl
before_or_last zero (suc i) l = absurd (omega (arith, l))
before_or_last (suc n) zero l = inl (omega arith)
before_or_last (suc n) (suc i) l = elim (before_or_last n i (omega (arith, l))) [ inl b ↦ inl (omega (arith, b)) | inr b ↦ inr (ap suc b) ]

-- what the code reads at a number is there
pub read_at : {A : Type 0} (xs : List A) (i : ℕ) (x : A) → x ≡ get_or xs i x → i < length xs → slice_get xs i ≡ Some x
read_at [] i x e l = absurd (omega (arith, l))
read_at (y ∷ ys) zero x e l = ap Some (sym e)
read_at (y ∷ ys) (suc i) x e l = read_at ys i x e (omega (arith, l))

-- some parts have a first one
pub first_there : (parts : List Part) → 0 < length parts → (p : Part) × (slice_get parts 0 ≡ Some p)
first_there [] l = absurd (omega (arith, l))
first_there (p ∷ ps) l = (p, refl)

-- ---- the worst part

-- the worst one of the first parts, up to this many
pub record IsWorstBefore (column : Column) (parts : List Part) (count number : ℕ) (worst : Part) : Type 0 where
  pub its : slice_get parts number ≡ Some worst
  pub within : number < count
  pub most : (i : ℕ) (p : Part) → i < count → slice_get parts i ≡ Some p
      → is_worse (in_column column p.bounds) (in_column column worst.bounds) ≡ false
  pub first : (i : ℕ) (p : Part) → i < number → slice_get parts i ≡ Some p
      → is_worse (in_column column worst.bounds) (in_column column p.bounds) ≡ true

module _ (column : Column) (parts : List Part) where
  abbrev bound : Part → Option ℕ
  bound p = in_column column p.bounds

  same : (p q : Part) (i : ℕ) → slice_get parts i ≡ Some p → slice_get parts i ≡ Some q → p ≡ q
  same p q i e f = cc

  -- the part that is read at the number of the worst one is the worst one
  pub is_read : (number : ℕ) (worst p : Part) → IsWorst column parts number worst → p ≡ get_or parts number p → worst ≡ p
  is_read number worst p w e = same worst p number w.its (read_at parts number p e (slice_get_within parts number worst w.its))

  -- of one part it is the worst
  pub first_alone : (p : Part) → slice_get parts 0 ≡ Some p → IsWorstBefore column parts 1 0 p
  first_alone p e = record {
    its = e;
    within = omega arith;
    most = λ i q l f.
        let z : i ≡ 0 = omega (arith, l) in
        let q' : slice_get parts 0 ≡ Some q = subst (λ n. slice_get parts n ≡ Some q) z f in
        subst (λ s. is_worse (bound s) (bound p) ≡ false) (same p q 0 e q') (not_itself (bound p));
    first = λ i q l f. absurd (omega (arith, l));
  }

  -- one more that is worse is the worst
  pub next_worse : (count number : ℕ) (worst p : Part) → IsWorstBefore column parts count number worst → slice_get parts count ≡ Some p
      → is_worse (bound p) (bound worst) ≡ true → IsWorstBefore column parts (count + 1) count p
  next_worse count number worst p w e test =
      let above : (i : ℕ) (q : Part) → i < count → slice_get parts i ≡ Some q → is_worse (bound p) (bound q) ≡ true =
      λ i q l f. worse_over (bound p) (bound worst) (bound q) test (w.most i q l f) in
      record {
        its = e;
        within = omega arith;
        most = λ i q l f. elim (before_or_last count i l) [
          | inl b ↦ not_both (bound p) (bound q) (above i q b f)
          | inr b ↦ subst (λ s. is_worse (bound s) (bound p) ≡ false) (same p q count e (subst (λ n. slice_get parts n ≡ Some q) b f)) (not_itself (bound p))
        ];
        first = above;
      }

  -- one more that isn't worse leaves it
  pub next_not_worse : (count number : ℕ) (worst p : Part) → IsWorstBefore column parts count number worst → slice_get parts count ≡ Some p
      → is_worse (bound p) (bound worst) ≡ false → IsWorstBefore column parts (count + 1) number worst
  next_not_worse count number worst p w e test = record {
    its = w.its;
    within = omega (arith, w.within);
    most = λ i q l f. elim (before_or_last count i l) [
      | inl b ↦ w.most i q b f
      | inr b ↦ subst (λ s. is_worse (bound s) (bound worst) ≡ false) (same p q count e (subst (λ n. slice_get parts n ≡ Some q) b f)) test
    ];
    first = w.first;
  }

  -- one more part: it is the worst if it is worse, else the one before still is
  pub one_more : (count number : ℕ) (worst p q : Part) (x y : Option ℕ) (test : Bool) → IsWorstBefore column parts count number worst
      → p ≡ get_or parts count p → q ≡ get_or parts number q → count < length parts → x ≡ bound p → y ≡ bound q → test ≡ is_worse x y
      → (test ≡ true → IsWorstBefore column parts (count + 1) count p) × (test ≡ false → IsWorstBefore column parts (count + 1) number worst)
  one_more count number worst p q x y test w ep eq within ex ey et =
      let at : slice_get parts count ≡ Some p = read_at parts count p ep within in
      let same_worst : worst ≡ q =
      same worst q number w.its (read_at parts number q eq (slice_get_within parts number worst w.its)) in
      let is : test ≡ is_worse (bound p) (bound worst) =
      et ∙ ap (λ z. is_worse z y) ex ∙ ap (is_worse (bound p)) ey ∙ ap (λ z. is_worse (bound p) (bound z)) (sym same_worst) in
      (λ e. next_worse count number worst p w at (sym is ∙ e), λ e. next_not_worse count number worst p w at (sym is ∙ e))

  -- the worst of all
  pub of_all : (count number : ℕ) (worst : Part) → IsWorstBefore column parts count number worst → length parts ≤ count → IsWorst column parts number worst
  of_all count number worst w all = record {
    its = w.its;
    most = λ i q f. w.most i q (omega (arith, slice_get_within parts i q f, all)) f;
    first = w.first;
  }

-- ---- turns

module _ (halvings : ℕ) (parts : List Part) (tried : BoundsView) (turns : Column × Column) (number : Option ℕ) (e : turns ≡ turn_of halvings) where
  -- the worst part of the column whose turn it is is halved
  pub next_turn : (n : ℕ) → number ≡ Some n → IsToHalve turns.0 parts tried (Some n) → IsNext halvings parts tried number
  next_turn n f t =
      subst (IsNext halvings parts tried) (sym f) (IsNext.turn (subst (λ (c : Column × Column). IsToHalve c.0 parts tried (Some n)) e t))

  -- or of the other one
  pub next_other : IsToHalve turns.0 parts tried None → IsToHalve turns.1 parts tried number → IsNext halvings parts tried number
  next_other s t =
      IsNext.other (subst (λ (c : Column × Column). IsToHalve c.0 parts tried None) e s)
      (subst (λ (c : Column × Column). IsToHalve c.1 parts tried number) e t)

-- ---- halving

-- a part is replaced by its halves
pub replaced : (parts : List Part) (number : ℕ) (p lower upper : Part) → slice_get parts number ≡ Some p
    → take number (slice_set parts number upper) ++ (lower ∷ drop number (slice_set parts number upper)) ≡ take number parts ++ (lower ∷ upper ∷ drop (suc number) parts)
replaced [] number p lower upper e = absurd (none-some p e)
replaced (q ∷ qs) zero p lower upper e = refl
replaced (q ∷ qs) (suc n) p lower upper e = ap (λ (l : List Part). q ∷ l) (replaced qs n p lower upper e)

-- some parts are left
pub some_left : (front rest new : List Part) (p : Part) → new ≡ front ++ (p ∷ rest) → 0 < length new
some_left front rest new p e = subst (λ (l : List Part). 0 < length l) (sym e) (some_of front)
  where
    some_of : (xs : List Part) → 0 < length (xs ++ (p ∷ rest))
    some_of [] = omega arith
    some_of (x ∷ xs) = omega arith

-- one part that is added to none
pub one_alone : (old new : List Part) (p : Part) → old ≡ [] → new ≡ old ++ (p ∷ []) → new ≡ p ∷ []
one_alone old new p e f = f ∙ ap (λ (l : List Part). l ++ (p ∷ [])) e

-- parts that are read through a reference
pub next_seen : (halvings : ℕ) (parts seen : List Part) (tried : BoundsView) (number : Option ℕ) → seen ≡ parts → IsNext halvings seen tried number
    → IsNext halvings parts tried number
next_seen halvings parts seen tried number e n = subst (λ (l : List Part). IsNext halvings l tried number) e n

-- a range that isn't a single distance can be halved
pub can_be_halved : (parts : List Part) (number : ℕ) (p : Part) (s : Span) → slice_get parts number ≡ Some p → span_range s ≡ p.range
    → s.lo ≤ℤ s.hi → ((q : Part) → slice_get parts number ≡ Some q → is_zero (q.range.high -ℤ q.range.low) ≡ false) → s.lo <ℤ s.hi
can_be_halved parts number p s its e ordered wide =
    by_lt_z s.lo s.hi
    (λ (below : s.lo <ℤ s.hi). below)
    (λ (above : s.hi ≤ℤ s.lo).
    let none : s.hi -ℤ s.lo ≡ pos 0 = omega (arith, ints, ordered, above) in
    absurd (both_ways (is_zero (s.hi -ℤ s.lo)) (ap (λ (r : Range). is_zero (r.high -ℤ r.low)) e ∙ wide p its) (ap is_zero none)))

-- the next part to be halved is there, and isn't a single distance
pub there_of_worst : (column : Column) (parts : List Part) (tried : BoundsView) (number : ℕ) → IsToHalve column parts tried (Some number)
    → (number < length parts) × ((p : Part) → slice_get parts number ≡ Some p → is_zero (p.range.high -ℤ p.range.low) ≡ false)
there_of_worst column parts tried number t = (
  slice_get_within parts number t.0 t.1.its,
  λ p e.
      let same : t.0 ≡ p = same_Some t.0 p (sym t.1.its ∙ e) in
      subst (λ (q : Part). is_zero (q.range.high -ℤ q.range.low) ≡ false) same (or_parts _ _ t.2),
)
  where
    or_parts : (a b : Bool) → (a || b) ≡ false → a ≡ false
    or_parts true b e = absurd (cc)
    or_parts false b e = refl

pub there_of_next : (halvings : ℕ) (parts : List Part) (tried : BoundsView) (number : ℕ) → IsNext halvings parts tried (Some number)
    → (number < length parts) × ((p : Part) → slice_get parts number ≡ Some p → is_zero (p.range.high -ℤ p.range.low) ≡ false)
there_of_next halvings parts tried number n = of_option (Some number) n number refl
  where
    of_option : (o : Option ℕ) → IsNext halvings parts tried o → (i : ℕ) → o ≡ Some i
        → (i < length parts) × ((p : Part) → slice_get parts i ≡ Some p → is_zero (p.range.high -ℤ p.range.low) ≡ false)
    of_option _ (IsNext.turn {number = j} t) i e = subst (λ (m : ℕ). (m < length parts) × ((p : Part) → slice_get parts m ≡ Some p → is_zero (p.range.high -ℤ p.range.low) ≡ false)) (same_Some j i e) (there_of_worst (turn_of halvings).0 parts tried j t)
    of_option o (IsNext.other s t) i e = there_of_worst (turn_of halvings).1 parts tried i (subst (IsToHalve (turn_of halvings).1 parts tried) e t)

module _ (bits : ℕ) (program : Trees) (others : List Constant) where
  -- the halves of a part
  lower_is : (r : Range) (s l u : Span) → span_range s ≡ r → AreHalves s l u → span_range l ≡ range r.low (middle r)
  lower_is r s l u e h =
      ap (λ x. range x l.hi) h.from ∙ ap (range s.lo) h.middle ∙ ap (λ (q : Range). range q.low (middle q)) e

  upper_is : (r : Range) (s l u : Span) → span_range s ≡ r → AreHalves s l u → span_range u ≡ range (middle r +ℤ pos 1) r.high
  upper_is r s l u e h =
      ap (λ x. range x u.hi) (h.next ∙ ap (λ z. z +ℤ pos 1) h.middle) ∙ ap (range (middle (span_range s) +ℤ pos 1)) h.to
      ∙ ap (λ (q : Range). range (middle q +ℤ pos 1) q.high) e

  -- the parts after one is halved
  pub halved_parts : (parts new : List Part) (number : ℕ) (p lower upper : Part) (s l u : Span) → slice_get parts number ≡ Some p
      → span_range s ≡ p.range → AreHalves s l u → lower ≡ part_on bits program others (span_range l)
      → upper ≡ part_on bits program others (span_range u)
      → new ≡ take number (slice_set parts number upper) ++ (lower ∷ drop number (slice_set parts number upper))
      → new ≡ halved_at bits program others parts number p
  halved_parts parts new number p lower upper s l u its e h el eu en =
      en ∙ replaced parts number p lower upper its
      ∙ ap (λ (x : Part). take number parts ++ (x ∷ upper ∷ drop (suc number) parts)) (el ∙ ap (part_on bits program others) (lower_is p.range s l u e h))
      ∙ ap (λ (x : Part). take number parts ++ (part_on bits program others (range p.range.low (middle p.range)) ∷ x ∷ drop (suc number) parts))
      (eu ∙ ap (part_on bits program others) (upper_is p.range s l u e h))

  -- the bounds at the last distance of the lower half
  pub last_is : (p : Part) (s l u : Span) (b : BoundsView) → span_range s ≡ p.range → AreHalves s l u
      → b ≡ bounds_at bits program others l.hi → b ≡ bounds_at bits program others (middle p.range)
  last_is p s l u b e h eb = eb ∙ ap (bounds_at bits program others) (h.middle ∙ ap middle e)

  -- ---- the halvings of a range

  module _ (r : Range) where
    -- at first there is one part
    pub started : (parts : List Part) (p : Part) (tried : BoundsView) → parts ≡ p ∷ [] → p ≡ part_on bits program others r
        → tried ≡ at_ends bits program others r → AreHalved bits program others r 0 parts tried
    started parts p tried e f g =
        subst (λ (l : List Part). AreHalved bits program others r 0 l tried) (sym (e ∙ ap (λ (x : Part). x ∷ []) f))
        (subst (AreHalved bits program others r 0 (part_on bits program others r ∷ [])) (sym g) AreHalved.whole)

    -- one more halving
    pub one_halving : (n number : ℕ) (parts new : List Part) (p : Part) (tried b : BoundsView) → AreHalved bits program others r n parts tried → n < 256
        → IsNext n parts tried (Some number) → slice_get parts number ≡ Some p → new ≡ halved_at bits program others parts number p
        → b ≡ greater_bounds tried (bounds_at bits program others (middle p.range)) → AreHalved bits program others r (n + 1) new b
    one_halving n number parts new p tried b are few next its en eb =
        let e : suc n ≡ n + 1 = omega arith in
        subst (λ (m : ℕ). AreHalved bits program others r m new b) e
        (subst (λ (l : List Part). AreHalved bits program others r (suc n) l b) (sym en)
        (subst (AreHalved bits program others r (suc n) (halved_at bits program others parts number p)) (sym eb) (AreHalved.halved are few next its)))

    -- bounds when halving has ended
    pub worst_over : (n : ℕ) (parts seen : List Part) (tried : BoundsView) (e s : Option ℕ) (of_energy of_slope : Range) → seen ≡ parts
        → AreHalved bits program others r n parts tried → IsNext n parts tried None ⊎ (n ≡ 256) → AreOfWorst Energy seen e of_energy
        → AreOfWorst Slope seen s of_slope → AreWorstOver bits program others r (bounds_view e s) of_energy of_slope
    worst_over n parts seen tried e s of_energy of_slope same are ended ew sw =
        let energy : AreOfWorst Energy parts e of_energy = subst (λ (l : List Part). AreOfWorst Energy l e of_energy) same ew in
        let slope : AreOfWorst Slope parts s of_slope = subst (λ (l : List Part). AreOfWorst Slope l s of_slope) same sw in
        record {
          over = record {
            halvings = n;
            parts = parts;
            tried = tried;
            are_halved = are;
            ended = ended;
            energy = (energy.0, energy.1, energy.2, energy.3);
            slope = (slope.0, slope.1, slope.2, slope.3);
          };
          energy_is = energy.4;
          slope_is = slope.4;
        }

-- ---- ranges that aren't halved

-- a bound that is close to a tried one is close to the greater of that and another
close_to_greater : (bound x y : Option ℕ) → is_close bound x ≡ true → is_close bound (greater_bound x y) ≡ true
close_to_greater (Some b) (Some x) (Some y) e =
    let above : x / 16 ≤ max x y / 16 = shr_mono {a = x} {b = max x y} 4 (omega arith) in
    let close : b / 17 ≤ x / 16 = grind (arith, nat_tests) in
    grind (arith, nat_tests)
close_to_greater (Some b) (Some x) None e = refl
close_to_greater (Some b) None y e = refl
close_to_greater None (Some x) y e = absurd (cc)
close_to_greater None None y e = refl

in_greater : (column : Column) (x y : BoundsView) → in_column column (greater_bounds x y) ≡ greater_bound (in_column column x) (in_column column y)
in_greater Energy x y = refl
in_greater Slope x y = refl

or_second : (a b : Bool) → b ≡ true → (a || b) ≡ true
or_second true b e = refl
or_second false b e = e

in_close : (column : Column) (b tried : BoundsView) → are_close b tried ≡ true → is_close (in_column column b) (in_column column tried) ≡ true
in_close Energy b tried e = (and_parts (is_close b.energy tried.energy) (is_close b.slope tried.slope) e).0
in_close Slope b tried e = (and_parts (is_close b.energy tried.energy) (is_close b.slope tried.slope) e).1

module _ (p : Part) (first last : BoundsView) (close : are_close p.bounds first ≡ true) where
  -- a column whose only part has a bound close to the one at the first distance is done
  done_alone : (column : Column) (parts : List Part) (bound : Option ℕ) (r : Range) → parts ≡ p ∷ [] → AreOfWorst column parts bound r
      → IsToHalve column parts (greater_bounds first last) None
  done_alone column parts bound r e w =
      let only : w.1 ≡ p = alone w.0 w.1 (subst (λ (l : List Part). slice_get l w.0 ≡ Some w.1) e w.2.its) in
      let closer : is_close (in_column column p.bounds) (in_column column (greater_bounds first last)) ≡ true =
      rw (in_greater column first last)
      (close_to_greater (in_column column p.bounds) (in_column column first) (in_column column last) (in_close column p.bounds first close)) in (
        w.0,
        w.1,
        w.2,
        or_second _ _ (subst (λ (q : Part). is_close (in_column column q.bounds) (in_column column (greater_bounds first last)) ≡ true) (sym only) closer),
      )
    where
      alone : (n : ℕ) (q : Part) → slice_get (p ∷ []) n ≡ Some q → q ≡ p
      alone zero q e = sym (same_Some p q e)
      alone (suc n) q e = absurd (none-some q e)

-- bounds over a range whose bounds are close to those at its first distance
pub done_at_first : (bits : ℕ) (program : Trees) (others : List Constant) (r : Range) (parts seen : List Part) (p : Part) (first : BoundsView)
    (e s : Option ℕ) (of_energy of_slope : Range) → parts ≡ p ∷ [] → p ≡ part_on bits program others r → first ≡ bounds_at bits program others r.low
    → are_close p.bounds first ≡ true → seen ≡ parts → AreOfWorst Energy seen e of_energy → AreOfWorst Slope seen s of_slope → AreWorstOver bits program others r (bounds_view e s) of_energy of_slope
done_at_first bits program others r parts seen p first e s of_energy of_slope alone is tried close same ew sw =
    let last = bounds_at bits program others r.high in
    let are = started bits program others r parts p (greater_bounds first last) alone is (ap (λ b. greater_bounds b last) tried) in
    let energy = subst (λ (l : List Part). AreOfWorst Energy l e of_energy) same ew in
    let slope = subst (λ (l : List Part). AreOfWorst Slope l s of_slope) same sw in
    worst_over bits program others r 0 parts seen (greater_bounds first last) e s of_energy of_slope same are
    (inl (IsNext.other (done_alone p first last close Energy parts e of_energy alone energy) (done_alone p first last close Slope parts s of_slope alone slope)))
    ew sw
