-- Two states have at most one first difference.
use Rattle.std.proofs.Common.{◌≡◌, ℕ, suc, ◌<◌, List, length, Option, Some, None, ap, refl, sym, subst, ◌∙◌, get_or, inl, inr, ◌⊎◌, slice_get}
use Rattle.std.proofs.lemmas.Bool.{cases_order}
use Rattle.std.proofs.lemmas.List.{get_or-take}
use Rattle.std.proofs.lemmas.Option.{get_or_from_slice_get, same_Some}
use Rattle.engine.specs.RunSpecification.{who}
use Rattle.ring_box.specs.declared.vectors.Axis.{Axis}
use Rattle.ring_box.specs.declared.vectors.Axis.TheVariants.{X, Y, Z}
use Rattle.ring_box.specs.declared.vectors.Place3.{Place3}
use Rattle.state.specs.StateText.{AtomView, StateView}
use Rattle.streams.specs.Replays.{DifferAt, DifferIn, DifferOn, IsDifference, IsVerdict}
use Rattle.streams.specs.declared.differences.AtomPart.{AtomPart}
use Rattle.streams.specs.declared.differences.AtomPart.TheVariants.{Name, Previous, Current}
use Rattle.streams.specs.declared.differences.Difference.{Difference}
use Rattle.streams.specs.declared.differences.Difference.TheVariants.{Title, Atoms, Sides, Atom}

-- ---- places

not_on : (a b : Place3) (axis : Axis) → a ≡ b → DifferOn a b axis → ⊥
not_on a b X same h = h (ap (λ (p : Place3). p.x) same)
not_on a b Y same h = h.1 (ap (λ (p : Place3). p.y) same)
not_on a b Z same h = h.2 (ap (λ (p : Place3). p.z) same)

one_axis : (a b : Place3) (i k : Axis) → DifferOn a b i → DifferOn a b k → i ≡ k
one_axis a b X X g h = refl
one_axis a b X Y g h = absurd (g h.0)
one_axis a b X Z g h = absurd (g h.0)
one_axis a b Y X g h = absurd (h g.0)
one_axis a b Y Y g h = refl
one_axis a b Y Z g h = absurd (g.1 h.1)
one_axis a b Z X g h = absurd (h g.0)
one_axis a b Z Y g h = absurd (h.1 g.1)
one_axis a b Z Z g h = refl

-- ---- atoms

not_in : (a b : AtomView) (part : AtomPart) → a ≡ b → DifferIn a b part → ⊥
not_in a b Name same h = h (ap who same)
not_in a b (Previous axis) same h = not_on a.previous b.previous axis (ap (λ (x : AtomView). x.previous) same) h.1
not_in a b (Current axis) same h = not_on a.current b.current axis (ap (λ (x : AtomView). x.current) same) h.2

one_part : (a b : AtomView) (p q : AtomPart) → DifferIn a b p → DifferIn a b q → p ≡ q
one_part a b Name Name g h = refl
one_part a b Name (Previous k) g h = absurd (g h.0)
one_part a b Name (Current k) g h = absurd (g h.0)
one_part a b (Previous i) Name g h = absurd (h g.0)
one_part a b (Previous i) (Previous k) g h = ap (λ (axis : Axis). Previous axis) (one_axis a.previous b.previous i k g.1 h.1)
one_part a b (Previous i) (Current k) g h = absurd (not_on a.previous b.previous i h.1 g.1)
one_part a b (Current i) Name g h = absurd (h g.0)
one_part a b (Current i) (Previous k) g h = absurd (not_on a.previous b.previous k g.1 h.1)
one_part a b (Current i) (Current k) g h = ap (λ (axis : Axis). Current axis) (one_axis a.current b.current i k g.2 h.2)

module _ (xs ys : List AtomView) where
  -- no atom before a first difference differs
  not_before : (n m : ℕ) (p q : AtomPart) (g : DifferAt xs ys n p) (h : DifferAt xs ys m q) → g.before < h.before → ⊥
  not_before n m p q g h less =
      let same : g.a ≡ g.b =
      sym (get_or_from_slice_get xs g.before g.a g.a g.first) ∙ sym (get_or-take h.before xs g.before g.a less)
      ∙ ap (λ (l : List AtomView). get_or l g.before g.a) h.same ∙ get_or-take h.before ys g.before g.a less
      ∙ get_or_from_slice_get ys g.before g.b g.a g.second in
      not_in g.a g.b p same g.differ

  same_atom : (n m : ℕ) (p q : AtomPart) (g : DifferAt xs ys n p) (h : DifferAt xs ys m q) → g.before ≡ h.before
      → (n ≡ m) × (p ≡ q)
  same_atom n m p q g h here =
      let a : h.a ≡ g.a = same_Some h.a g.a (sym h.first ∙ ap (slice_get xs) (sym here) ∙ g.first) in
      let b : h.b ≡ g.b = same_Some h.b g.b (sym h.second ∙ ap (slice_get ys) (sym here) ∙ g.second) in
      let differ : DifferIn g.a g.b q =
      subst (λ (x : AtomView). DifferIn x g.b q) a (subst (λ (y : AtomView). DifferIn h.a y q) b h.differ) in
      (g.number' ∙ ap suc here ∙ sym h.number', one_part g.a g.b p q g.differ differ)

  by_order : (n m : ℕ) (p q : AtomPart) (g : DifferAt xs ys n p) (h : DifferAt xs ys m q)
      → (g.before ≡ h.before) ⊎ ((g.before < h.before) ⊎ (h.before < g.before)) → (n ≡ m) × (p ≡ q)
  by_order n m p q g h (inl here) = same_atom n m p q g h here
  by_order n m p q g h (inr (inl less)) = absurd (not_before n m p q g h less)
  by_order n m p q g h (inr (inr more)) = absurd (not_before m n q p h g more)

  -- two lists have at most one first atom that differs
  one_place : (n m : ℕ) (p q : AtomPart) → DifferAt xs ys n p → DifferAt xs ys m q → Atom n p ≡ Atom m q
  one_place n m p q g h =
      let same = by_order n m p q g h (cases_order g.before h.before) in
      ap (λ (k : ℕ). Atom k p) same.0 ∙ ap (λ (part : AtomPart). Atom m part) same.1

-- ---- states

module _ (s t : StateView) where
  not_different : (d : Difference) → s ≡ t → IsDifference s t d → ⊥
  not_different Title same h = h (ap (λ (x : StateView). x.title) same)
  not_different Atoms same h = h.1 (ap (λ (x : StateView). length x.atoms) same)
  not_different Sides same h = h.2 (ap (λ (x : StateView). x.sides) same)
  not_different (Atom number part) same h =
      let at = h.3 in
      let atoms = ap (λ (x : StateView). x.atoms) same in
      not_in at.a at.b part
      (same_Some at.a at.b (sym at.first ∙ ap (λ (l : List AtomView). slice_get l at.before) atoms ∙ at.second)) at.differ

  one_difference : (d e : Difference) → IsDifference s t d → IsDifference s t e → d ≡ e
  one_difference Title Title g h = refl
  one_difference Title Atoms g h = absurd (g h.0)
  one_difference Title Sides g h = absurd (g h.0)
  one_difference Title (Atom m q) g h = absurd (g h.0)
  one_difference Atoms Title g h = absurd (h g.0)
  one_difference Atoms Atoms g h = refl
  one_difference Atoms Sides g h = absurd (g.1 h.1)
  one_difference Atoms (Atom m q) g h = absurd (g.1 h.1)
  one_difference Sides Title g h = absurd (h g.0)
  one_difference Sides Atoms g h = absurd (h.1 g.1)
  one_difference Sides Sides g h = refl
  one_difference Sides (Atom m q) g h = absurd (g.2 h.2)
  one_difference (Atom n p) Title g h = absurd (h g.0)
  one_difference (Atom n p) Atoms g h = absurd (h.1 g.1)
  one_difference (Atom n p) Sides g h = absurd (h.2 g.2)
  one_difference (Atom n p) (Atom m q) g h = one_place s.atoms t.atoms n m p q g.3 h.3

  -- a state has at most one verdict on another
  pub one_verdict : (d e : Option Difference) → IsVerdict s t d → IsVerdict s t e → d ≡ e
  one_verdict None None g h = refl
  one_verdict None (Some e) g h = absurd (not_different e g h)
  one_verdict (Some d) None g h = absurd (not_different d h g)
  one_verdict (Some d) (Some e) g h = ap (λ (x : Difference). Some x) (one_difference d e g h)
