-- Outcomes of several walks are right, if some walk has what is computed, and some walk has what is exact.
use Rattle.std.proofs.Common.{◌≡◌, ℕ, ℤ, pos, ◌-ℤ◌, ◌*ℤ◌, List, [], ◌∷◌, Option, Some, None, refl, subst, inl, inr, arith}
use Rattle.std.proofs.lemmas.Int.{ints, clamps}
use Rattle.std.proofs.lemmas.Option.{none-some, same_Some}
use Rattle.derivative.specs.Exact.{Numbers}
use Rattle.interval_domain.specs.Ranges.{IsIn, Range, hull}
use Rattle.interval_domain.proofs.RangeLemmas.{in_first, in_second}
use Rattle.error_bounds.specs.Approximations.{Agrees, Approximation, Outcomes, exact_range, outcomes_of, scale}
use Rattle.error_bounds.specs.Meanings.{ApproximatesIfThere}
use Rattle.error_bounds.specs.Ordered.{AreOrdered, IsBetween}
use Rattle.error_bounds.specs.Rules.{apart, either_outcomes, of_outcomes}
use Rattle.error_bounds.proofs.Between.{wider}
use Rattle.error_bounds.proofs.Bounded.{within_limits_of}
use Rattle.formula_bounds.specs.Walks.{approximation_of_all, either_if_there, of_outcomes_if_there, outcomes_of_all}
use Rattle.formula_bounds.proofs.WalkLaws.{Some_of}

module _ {V : Type 0} (k : Numbers V) (h : AreOrdered k) (bits : ℕ) where
  abbrev There : Option Approximation → Option ℤ → Option V → Type 0
  There = ApproximatesIfThere k bits

  -- the computed value is there and among the outcomes
  abbrev IsComputed : Option ℤ → Outcomes → Type 0
  IsComputed computed s = (z : ℤ) × (computed ≡ Some z) × IsIn z s.computed

  -- the exact value, if it is there, is among the outcomes
  abbrev HasExact : Option V → Outcomes → Type 0
  HasExact exact s = (x : V) → exact ≡ Some x → IsBetween k (scale bits) s.exact.low s.exact.high x

  within_first : (x y : Range) (c : V) → IsBetween k (scale bits) x.low x.high c → IsBetween k (scale bits) (hull x y).low (hull x y).high c
  within_first x y c b = wider k h (scale bits) _ _ _ _ c (omega (arith, ints, clamps)) (omega (arith, ints, clamps)) b

  within_second : (x y : Range) (c : V) → IsBetween k (scale bits) y.low y.high c → IsBetween k (scale bits) (hull x y).low (hull x y).high c
  within_second x y c b = wider k h (scale bits) _ _ _ _ c (omega (arith, ints, clamps)) (omega (arith, ints, clamps)) b

  computed_first : (s t : Outcomes) (computed : Option ℤ) → IsComputed computed s → IsComputed computed (either_outcomes s t)
  computed_first s t computed c = (c.0, c.1, in_first s.computed t.computed c.0 c.2)

  computed_second : (s t : Outcomes) (computed : Option ℤ) → IsComputed computed t → IsComputed computed (either_outcomes s t)
  computed_second s t computed c = (c.0, c.1, in_second s.computed t.computed c.0 c.2)

  -- what is computed is among the outcomes of all
  computed_of_all : (ps : List (Option Approximation)) (s : Outcomes) (computed : Option ℤ) → outcomes_of_all ps ≡ Some s
      → Some_of (λ (p : Option Approximation). There p computed None) ps → IsComputed computed s
  computed_of_all [] s computed e some = absurd some
  computed_of_all (None ∷ []) s computed e some = absurd (none-some s e)
  computed_of_all (Some p ∷ []) s computed e (inl t) = subst (IsComputed computed) (same_Some (outcomes_of p) s e) (t.0, t.1, t.2)
  computed_of_all (Some p ∷ []) s computed e (inr t) = absurd t
  computed_of_all (None ∷ q ∷ qs) s computed e some = absurd (none-some s e)
  computed_of_all (Some p ∷ q ∷ qs) s computed e some =
      by_rest (λ r er t. computed_of_all (q ∷ qs) r computed er t) (outcomes_of_all (q ∷ qs)) refl e some
    where
      by_rest : ((r : Outcomes) → outcomes_of_all (q ∷ qs) ≡ Some r → Some_of (λ (o : Option Approximation). There o computed None) (q ∷ qs)
          → IsComputed computed r)
          → (rest : Option Outcomes) → outcomes_of_all (q ∷ qs) ≡ rest → either_if_there (Some (outcomes_of p)) rest ≡ Some s
          → Some_of (λ (r : Option Approximation). There r computed None) (Some p ∷ q ∷ qs) → IsComputed computed s
      by_rest later None er es some = absurd (none-some s es)
      by_rest later (Some r) er es (inl t) =
          subst (IsComputed computed) (same_Some (either_outcomes (outcomes_of p) r) s es) (computed_first (outcomes_of p) r computed (t.0, t.1, t.2))
      by_rest later (Some r) er es (inr t) =
          subst (IsComputed computed) (same_Some (either_outcomes (outcomes_of p) r) s es)
          (computed_second (outcomes_of p) r computed (later r er t))

  -- an exact number that agrees is in the exact range
  in_exact : (p : Approximation) (z : ℤ) (x : V) → Agrees k bits p z x → IsBetween k (scale bits) (exact_range p).low (exact_range p).high x
  in_exact p z x a =
      let m = a.computed.at_least in let n = a.computed.at_most in
      wider k h (scale bits) _ _ _ _ x (omega (arith, ints)) (omega (arith, ints)) a.near

  -- some computed value goes with the exact one
  abbrev pub SomeComputed : Option V → Option Approximation → Type 0
  SomeComputed exact p = (z : Option ℤ) × There p z exact

  -- what is exact is among the outcomes of all
  exact_of_all : (ps : List (Option Approximation)) (s : Outcomes) (exact : Option V) → outcomes_of_all ps ≡ Some s
      → Some_of (SomeComputed exact) ps → HasExact exact s
  exact_of_all [] s exact e some = absurd some
  exact_of_all (None ∷ []) s exact e some = absurd (none-some s e)
  exact_of_all (Some p ∷ []) s exact e (inl t) = subst (HasExact exact) (same_Some (outcomes_of p) s e) (λ x ex. in_exact p t.1.0 x (t.1.3 x ex))
  exact_of_all (Some p ∷ []) s exact e (inr t) = absurd t
  exact_of_all (None ∷ q ∷ qs) s exact e some = absurd (none-some s e)
  exact_of_all (Some p ∷ q ∷ qs) s exact e some =
      by_rest (λ r er t. exact_of_all (q ∷ qs) r exact er t) (outcomes_of_all (q ∷ qs)) refl e some
    where
      by_rest : ((r : Outcomes) → outcomes_of_all (q ∷ qs) ≡ Some r → Some_of (SomeComputed exact) (q ∷ qs) → HasExact exact r)
          → (rest : Option Outcomes) → outcomes_of_all (q ∷ qs) ≡ rest → either_if_there (Some (outcomes_of p)) rest ≡ Some s
          → Some_of (SomeComputed exact) (Some p ∷ q ∷ qs) → HasExact exact s
      by_rest later None er es some = absurd (none-some s es)
      by_rest later (Some r) er es (inl t) =
          subst (HasExact exact) (same_Some (either_outcomes (outcomes_of p) r) s es)
          (λ x ex. within_first (exact_range p) r.exact x (in_exact p t.1.0 x (t.1.3 x ex)))
      by_rest later (Some r) er es (inr t) =
          subst (HasExact exact) (same_Some (either_outcomes (outcomes_of p) r) s es)
          (λ x ex. within_second (exact_range p) r.exact x (later r er t x ex))

  -- outcomes approximate
  of_outcomes_there : (s : Outcomes) (computed : Option ℤ) (exact : Option V) (found : Option Approximation) → of_outcomes s ≡ found
      → IsComputed computed s → HasExact exact s → There found computed exact
  of_outcomes_there s computed exact None e c x = tt
  of_outcomes_there s computed exact (Some r) e c x =
      let w = within_limits_of s.computed (Some (apart s.computed s.exact)) r e in
      let inside : IsIn c.0 r.computed = subst (IsIn c.0) w.0 c.2 in (
        c.0,
        c.1,
        inside,
        λ y ey.
            let m = c.2.at_least in let n = c.2.at_most in
            record {
              computed = inside;
              near = subst (λ (t : Range). IsBetween k (scale bits) (pos 256 *ℤ c.0 -ℤ t.high) (pos 256 *ℤ c.0 -ℤ t.low) y)
                  (same_Some (apart s.computed s.exact) r.error w.1)
                  (wider k h (scale bits) _ _ _ _ y (omega (arith, ints)) (omega (arith, ints)) (x y ey));
            },
      )

  -- the approximation of all is right
  pub all_there : (ps : List (Option Approximation)) (computed : Option ℤ) (exact : Option V)
      → Some_of (λ (p : Option Approximation). There p computed None) ps → Some_of (SomeComputed exact) ps
      → There (approximation_of_all ps) computed exact
  all_there ps computed exact c x = by_outcomes (outcomes_of_all ps) refl
    where
      by_outcomes : (o : Option Outcomes) → outcomes_of_all ps ≡ o → There (of_outcomes_if_there o) computed exact
      by_outcomes None e = tt
      by_outcomes (Some s) e = of_outcomes_there s computed exact (of_outcomes s) refl (computed_of_all ps s computed e c) (exact_of_all ps s exact e x)
