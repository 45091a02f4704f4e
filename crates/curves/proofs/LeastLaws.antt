-- The bounds of several walks, as loops compute them.
use Rattle.std.proofs.Common.{◌≡◌, ℕ, zero, suc, ◌-◌, ◌<◌, false, List, [], ◌∷◌, drop, length, map, get_or, Option, refl, sym, ap, subst, ◌∙◌, arith}
use Rattle.energy_program.specs.Programs.{Trees}
use Rattle.error_bounds.specs.Approximations.{Approximation, Outcomes}
use Rattle.formula_bounds.specs.Entries.{Entry, entry_of_program}
use Rattle.curves.specs.Slices.{BoundsView, bound_of_all, bounds_of, bounds_view, in_entry, least_bounds, lesser_bound, plain_bounds}
use Rattle.formula_bounds.specs.Walks.{divided_entries, either_if_there, entries_of_program, outcomes_if_there, outcomes_of_all, several}
use Rattle.curves.specs.declared.slices.Column.{Column}
use Rattle.curves.specs.declared.slices.Column.TheVariants.{Energy, Slope}
use Rattle.formula_bounds.specs.Nodes.{formula_of, has_choice}
use Rattle.formula_bounds.proofs.ChoiceLaws.{single_program}

-- the outcomes of the entries from an index on
abbrev pub outcomes_from : Column → List Entry → ℕ → Option Outcomes
outcomes_from column es i = outcomes_of_all (map (in_entry column) (drop i es))

-- of the last entry
pub last_outcomes : (column : Column) (es : List Entry) (i : ℕ) (x : Entry) (p : Option Approximation) (o : Option Outcomes) → 0 < length es
    → i ≡ length es - 1 → x ≡ get_or es i x → p ≡ in_entry column x → o ≡ outcomes_if_there p → o ≡ outcomes_from column es i
last_outcomes column es i x p o some at ex ep eo = eo ∙ ap outcomes_if_there (ep ∙ ap (in_entry column) ex) ∙ of_last es i at some ex
  where
    of_last : (es : List Entry) (i : ℕ) → i ≡ length es - 1 → 0 < length es → x ≡ get_or es i x
        → outcomes_if_there (in_entry column (get_or es i x)) ≡ outcomes_from column es i
    of_last [] i at some ex = absurd (omega arith)
    of_last (y ∷ []) zero at some ex = refl
    of_last (y ∷ []) (suc i) at some ex = absurd (omega arith)
    of_last (y ∷ z ∷ zs) zero at some ex = absurd (omega arith)
    of_last (y ∷ z ∷ zs) (suc i) at some ex = of_last (z ∷ zs) i (omega arith) (omega arith) ex

-- and of one more entry
more_outcomes : (column : Column) (es : List Entry) (i : ℕ) (x : Entry) → suc i < length es → x ≡ get_or es i x
    → either_if_there (outcomes_if_there (in_entry column x)) (outcomes_from column es (suc i)) ≡ outcomes_from column es i
more_outcomes column [] i x below ex = absurd (omega arith)
more_outcomes column (y ∷ []) i x below ex = absurd (omega arith)
more_outcomes column (y ∷ z ∷ zs) zero x below ex =
    ap (λ (t : Entry). either_if_there (outcomes_if_there (in_entry column t)) (outcomes_of_all (map (in_entry column) (z ∷ zs)))) ex
more_outcomes column (y ∷ z ∷ zs) (suc i) x below ex = more_outcomes column (z ∷ zs) i x (omega arith) ex

pub one_more_outcomes : (column : Column) (es : List Entry) (i : ℕ) (x : Entry) (p : Option Approximation) (s o new : Option Outcomes) → 0 < i
    → i < length es → x ≡ get_or es (i - 1) x → p ≡ in_entry column x → s ≡ outcomes_if_there p → o ≡ outcomes_from column es i
    → new ≡ either_if_there s o → new ≡ outcomes_from column es (i - 1)
one_more_outcomes column es zero x p s o new some below ex ep es' eo en = absurd (omega arith)
one_more_outcomes column es (suc i) x p s o new some below ex ep es' eo en =
    let e : suc i - 1 ≡ i = omega arith in
    let here : x ≡ get_or es i x = subst (λ n. x ≡ get_or es n x) e ex in
    subst (λ n. new ≡ outcomes_from column es n) (sym e)
    (en ∙ ap (λ t. either_if_there t o) (es' ∙ ap outcomes_if_there ep)
    ∙ ap (either_if_there (outcomes_if_there (in_entry column x))) eo ∙ more_outcomes column es i x below here)

module _ (bits : ℕ) (inputs : List Approximation) (program : Trees) (left : ℕ) where
  abbrev plain : BoundsView
  plain = plain_bounds bits program inputs

  abbrev least : List Entry → BoundsView
  least es = least_bounds plain es

  abbrev all : List Entry
  all = entries_of_program bits inputs program left

  -- the lesser of bounds, and those of the walks with these entries
  abbrev lesser : BoundsView → List Entry → BoundsView
  lesser b es =
      bounds_view (lesser_bound b.energy (bound_of_all (map (in_entry Energy) es))) (lesser_bound b.slope (bound_of_all (map (in_entry Slope) es)))

  -- if no walk divided, the bounds are those of the entry of the walk that doesn't divide
  pub plain_walk : (x : Entry) (es : List Entry) (b : BoundsView) → x ≡ entry_of_program bits inputs program
      → es ≡ divided_entries bits inputs program left → length es ≡ 0 → b ≡ bounds_of x → b ≡ least all
  plain_walk x es b ex e none eb = eb ∙ ap bounds_of ex ∙ of_single all (sym (ap length e) ∙ none)
    where
      of_single : (es : List Entry) → length (several es) ≡ 0 → plain ≡ least es
      of_single [] none = refl
      of_single (y ∷ []) none = refl
      of_single (y ∷ z ∷ zs) none = absurd (omega (arith, none))

  -- several walks have the lesser bounds
  pub several_walks : (x : Entry) (es : List Entry) (p b : BoundsView) → x ≡ entry_of_program bits inputs program
      → es ≡ divided_entries bits inputs program left → (length es ≡ 0 → ⊥) → p ≡ bounds_of x → b ≡ lesser p es → b ≡ least all
  several_walks x es p b ex e some ep eb =
      eb ∙ ap (λ (q : BoundsView). lesser q es) (ep ∙ ap bounds_of ex) ∙ ap (lesser plain) e
      ∙ of_several all (λ none. some (ap length e ∙ none))
    where
      of_several : (es : List Entry) → (length (several es) ≡ 0 → ⊥) → lesser plain (several es) ≡ least es
      of_several [] some = absurd (some refl)
      of_several (y ∷ []) some = absurd (some refl)
      of_several (y ∷ z ∷ zs) some = refl

  -- a formula without choices has the plain bounds
  pub without_choice : (b : BoundsView) → has_choice (formula_of program) ≡ false → b ≡ plain
      → b ≡ least (entries_of_program bits inputs program left)
  without_choice b none eb = eb ∙ ap least (sym (single_program bits inputs program left none))
