-- Lines without a fault have each key that one line may have at most once.
use Rattle.std.proofs.Common.{◌≡◌, ℕ, ◌≤◌, List, [], ◌∷◌, ◌++◌, length, Option, Some, None, filter_map, option_and_then, refl, sym, ap, subst, ◌∙◌, arith}
use Rattle.fixed.specs.declared.frac.Frac.{Frac}
use Rattle.job.specs.declared.faults.Key.{Key}
use Rattle.job.specs.declared.faults.Key.TheVariants as keys
use Rattle.job.specs.Values.{Counts}
use Rattle.job.specs.JobLines.{LineValue, says_energy, says_core, says_cutoff, says_time_step, says_slices, says_bits, said_energy, said_core, said_cutoff, said_time_step, said_slices, said_bits}
use Rattle.job.specs.Statements.{value_of}
use Rattle.job.specs.Faults.{AreFaultless, Said, first, once, statement_fault, line_fault, summary}
use Rattle.job.specs.Drafts.{and_one}
use Rattle.job.proofs.EntryLemmas.{stated}
use Rattle.job.proofs.FaultLemmas.{good_line, kept_below, said_more}

abbrev pub said : {X : Type 0} → Frac → (LineValue → Option X) → List (List ℕ) → List X
said frac part lines = filter_map part (filter_map (value_of frac) lines)

one_more : {X : Type 0} (xs : List X) (o : Option X) → ((x : X) → o ≡ Some x → xs ≡ []) → length xs ≤ 1 → length (and_one xs o) ≤ 1
one_more xs None h le = le
one_more xs (Some x) h le = let none : xs ≡ [] = h x refl in rw none (omega arith)

first_none : {X : Type 0} (xs : List X) → first xs ≡ None → xs ≡ []
first_none [] e = refl
first_none (x ∷ xs) e = absurd cc

once_none : {X : Type 0} (key : Key) (old v : Option X) → once key old v ≡ None → old ≡ None
once_none key None v e = refl
once_none key (Some x) v e = absurd cc

-- a value with this part, without a fault, is the first value with this part
abbrev pub IsNew : {X : Type 0} → Counts → (LineValue → Option X) → (Said → Option X) → Type 0
IsNew {X} most part old = (s : Said) (v : LineValue) (x : X) → statement_fault most s (stated v) ≡ None → part v ≡ Some x → old s ≡ None

pub energy_new : (most : Counts) → IsNew most said_energy (λ s. s.energy)
energy_new most s (says_energy text) x g e = once_none keys.Energy s.energy (Some text) g
energy_new most s _ x g e = absurd cc

pub core_new : (most : Counts) → IsNew most said_core (λ s. s.core)
core_new most s (says_core v) x g e = once_none keys.Core s.core (Some v) g
core_new most s _ x g e = absurd cc

pub cutoff_new : (most : Counts) → IsNew most said_cutoff (λ s. s.cutoff)
cutoff_new most s (says_cutoff v) x g e = once_none keys.Cutoff s.cutoff (Some v) g
cutoff_new most s _ x g e = absurd cc

pub time_step_new : (most : Counts) → IsNew most said_time_step (λ s. s.time_step)
time_step_new most s (says_time_step v) x g e = once_none keys.TimeStep s.time_step (Some v) g
time_step_new most s _ x g e = absurd cc

pub slices_new : (most : Counts) → IsNew most said_slices (λ s. s.slices)
slices_new most s (says_slices v) x g e = once_none keys.Slices s.slices (Some v) g
slices_new most s _ x g e = absurd cc

pub bits_new : (most : Counts) → IsNew most said_bits (λ s. s.bits)
bits_new most s (says_bits v) x g e = once_none keys.Bits s.bits (Some v) g
bits_new most s _ x g e = absurd cc

-- lines without a fault have at most one value of a key that may have only one line
pub at_most_once : {X : Type 0} (most : Counts) (frac : Frac) (part : LineValue → Option X) (old : Said → Option X) → IsNew most part old → ((lines : List (List ℕ)) → old (summary frac lines) ≡ first (said frac part lines))
    → (lines : List (List ℕ)) → AreFaultless most frac [] lines → length (said frac part lines) ≤ 1
at_most_once {X = X} most frac part old new is lines h = kept_below most frac (λ z. length (said frac part z) ≤ 1) keeps [] lines h (omega arith)
  where
    keeps : (above : List (List ℕ)) (line : List ℕ) → line_fault most frac above line ≡ None → length (said frac part above) ≤ 1 → length (said frac part (above ++ line ∷ [])) ≤ 1
    keeps above line good le =
        let g = good_line most frac above line good in
        subst (λ (xs : List X). length xs ≤ 1) (sym (said_more frac part above line))
        (one_more (said frac part above) _ (λ x e. first_none (said frac part above) (sym (is above) ∙ new (summary frac above) g.0 x g.2 (ap (option_and_then part) (sym g.1) ∙ e))) le)
