-- A text is read as one job, or has one fault.
use Rattle.std.proofs.Common.{◌≡◌, ℕ, ℤ, int_lt, List, [], ◌∷◌, ◌++◌, length, map, Option, Some, None, Ok, Err, All, inl, inr, refl, sym, ap, subst, ◌∙◌, append_assoc, append-nil}
use Rattle.std.specs.Option.{unwrap_or}
use Rattle.std.proofs.lemmas.List.Elements.{All-head, All-tail}
use Rattle.fixed.specs.declared.frac.Frac.{Frac}
use Rattle.line_text.proofs.ResidueNumbers.{T_true}
use Rattle.job.specs.Bits.{frac_in}
use Rattle.job.specs.Drafts.{GivesJob}
use Rattle.job.specs.Faults.{AreFaultless, Refusal, Said, TypeLine, line_fault, summary}
use Rattle.job.specs.JobFaults.{HasBadLine, HaveFault, IsJobFault, JobReadsOnce, LacksPart, keys_lack}
use Rattle.job.specs.JobLines.{header}
use Rattle.job.specs.JobText.{IsJobText}
use Rattle.job.specs.Values.{Counts, JobValue}
use Rattle.job.specs.Words.{lines_of}
use Rattle.job.proofs.SayLemmas.{Told, told_by_text}

-- ---- the first item that isn't good, given the items above it

module _ {X : Type 0} (Good : List X → X → Type 0) (Goods : List X → List X → Type 0) (head : (above xs : List X) (x : X) → Goods above (x ∷ xs) → Good above x) (tail : (above xs : List X) (x : X) → Goods above (x ∷ xs) → Goods (above ++ x ∷ []) xs) where
  -- an item below no items
  bare : (above : List X) (x y : X) → x ≡ y → Good above y → Good (above ++ []) x
  bare above x y e g = subst (λ (z : X). Good (above ++ []) z) (sym e) (subst (λ (zs : List X). Good zs y) (sym (append-nil above)) g)

  first_once : (above front before : List X) (x y : X) (back after : List X) → front ++ x ∷ back ≡ before ++ y ∷ after → Goods above front → Goods above before
      → (Good (above ++ front) x → ⊥) → (Good (above ++ before) y → ⊥) → (front ≡ before) × (x ≡ y)
  first_once above [] [] x y back after e g h bad wrong = (refl, cc)
  first_once above [] (z ∷ zs) x y back after e g h bad wrong = let same : x ≡ z = cc in absurd (bad (bare above x z same (head above zs z h)))
  first_once above (z ∷ zs) [] x y back after e g h bad wrong = let same : y ≡ z = cc in absurd (wrong (bare above y z same (head above zs z g)))
  first_once above (z ∷ zs) (v ∷ vs) x y back after e g h bad wrong =
      let same : z ≡ v = cc in
      let rest : zs ++ x ∷ back ≡ vs ++ y ∷ after = cc in
      let other = subst (λ (u : X). Goods (above ++ u ∷ []) vs) (sym same) (tail above vs v h) in
      let later = first_once (above ++ z ∷ []) zs vs x y back after rest (tail above zs z g) other
      (λ k. bad (subst (λ (us : List X). Good us x) (append_assoc above (z ∷ []) zs) k))
      (λ k. wrong (subst (λ (u : X). Good (above ++ u ∷ vs) y) same (subst (λ (us : List X). Good us y) (append_assoc above (z ∷ []) vs) k))) in
      (cc, later.1)

-- ---- lines

module _ (most : Counts) (frac : Frac) where
  bad_line_once : (lines : List (List ℕ)) (f g : Refusal) → HasBadLine most frac lines f → HasBadLine most frac lines g → f ≡ g
  bad_line_once lines f g a b =
      let wrong = a.fault in
      let bad = b.fault in
      let same = first_once (λ above line. line_fault most frac above line ≡ None) (AreFaultless most frac) (λ above xs x h. h.0) (λ above xs x h. h.1) [] a.above b.above a.line b.line a.below b.below
      (sym a.parts ∙ b.parts) a.faultless b.faultless (λ good. absurd cc) (λ good. absurd cc) in
      let front = same.0 in
      let line = same.1 in
      cc

  faultless_at : (above front below : List (List ℕ)) (line : List ℕ) → AreFaultless most frac above (front ++ line ∷ below) → line_fault most frac (above ++ front) line ≡ None
  faultless_at above [] below line h = ap (λ (z : List (List ℕ)). line_fault most frac z line) (append-nil above) ∙ h.0
  faultless_at above (x ∷ front) below line h =
      sym (ap (λ (z : List (List ℕ)). line_fault most frac z line) (append_assoc above (x ∷ []) front)) ∙ faultless_at (above ++ x ∷ []) front below line h.1

  no_bad_line : (lines : List (List ℕ)) (f : Refusal) → AreFaultless most frac [] lines → HasBadLine most frac lines f → ⊥
  no_bad_line lines f h b =
      let none = faultless_at [] b.above b.below b.line (subst (AreFaultless most frac []) b.parts h) in
      let some = b.fault in
      absurd cc

-- ---- parts

lack_once : (s : Said) (f g : Refusal) → LacksPart s f → LacksPart s g → f ≡ g
lack_once s f g (inl a) (inl b) = cc
lack_once s f g (inl a) (inr b) = let none = b.0 in absurd cc
lack_once s f g (inr a) (inl b) = let none = a.0 in absurd cc
lack_once s f g (inr a) (inr b) =
    let k = length s.parameters in
    let same = first_once (λ above t. length t.value.values ≡ k) (λ above ts. All (λ (t : TypeLine). length t.value.values ≡ k) ts)
    (λ above ts t h. All-head (λ (t : TypeLine). length t.value.values ≡ k) t ts h) (λ above ts t h. All-tail (λ (t : TypeLine). length t.value.values ≡ k) t ts h)
    [] a.1.before b.1.before a.1.other b.1.other a.1.after b.1.after (sym a.1.parts ∙ b.1.parts) a.1.whole b.1.whole a.1.differs b.1.differs in
    let other = same.1 in
    let first = a.1.fault in
    let second = b.1.fault in
    cc

keys_told : (s : Said) (job : JobValue) → GivesJob s job → keys_lack s ≡ None
keys_told s job t = rw (t.energy, t.core, t.cutoff, t.time_step, T_true (int_lt job.core job.cutoff) t.below_cutoff.lt) refl

count_told : (k : ℕ) (before after : List TypeLine) (t : TypeLine) → All (λ u. length u.values ≡ k) (map (λ u. u.value) (before ++ t ∷ after)) → length t.value.values ≡ k
count_told k [] after t h = All-head (λ u. length u.values ≡ k) t.value (map (λ u. u.value) after) h
count_told k (b ∷ before) after t h = count_told k before after t (All-tail (λ u. length u.values ≡ k) b.value (map (λ u. u.value) (before ++ t ∷ after)) h)

-- a draft with the values of a job lacks no part
no_lack : (s : Said) (job : JobValue) (f : Refusal) → GivesJob s job → LacksPart s f → ⊥
no_lack s job f t (inl a) = let none = keys_told s job t in absurd cc
no_lack s job f t (inr a) =
    let all = rw (← t.types, ← t.parameters, a.1.parts) at t.whole in
    a.1.differs (count_told (length s.parameters) a.1.before a.1.after a.1.other all)

-- the job of a draft with these values of the required keys
abbrev pub job_with : Said → List ℕ → (core cutoff : ℤ) → ℕ → JobValue
job_with s energy core cutoff time_step = record {
  frac = s.frac;
  energy = energy;
  core = core;
  cutoff = cutoff;
  time_step = time_step;
  slices = unwrap_or s.slices 64;
  parameters = s.parameters;
  globals = s.globals;
  types = map (λ t. t.value) s.types;
}

-- the job of a draft, if each required key has a value
abbrev job_of : Said → Option (List ℕ) → Option ℤ → Option ℤ → Option ℕ → Option JobValue
job_of s (Some energy) (Some core) (Some cutoff) (Some time_step) = Some (job_with s energy core cutoff time_step)
job_of s _ _ _ _ = None

job_told : (s : Said) (job : JobValue) → GivesJob s job → job_of s s.energy s.core s.cutoff s.time_step ≡ Some job
job_told s job t = rw (t.frac, t.energy, t.core, t.cutoff, t.time_step, t.slices, t.parameters, t.globals, t.types) refl

tells_once : (s : Said) (j k : JobValue) → GivesJob s j → GivesJob s k → j ≡ k
tells_once s j k a b = let x = job_told s j a in let y = job_told s k b in cc

-- ---- texts

told_by : (most : Counts) (text : List ℕ) (job : JobValue) (lines : List (List ℕ)) (r : IsJobText most text job) → lines_of text ≡ header ∷ lines → Told most job lines
told_by most text job lines r e =
    let first = r.first_line in
    let same : r.lines ≡ lines = cc in
    subst (Told most job) same (told_by_text most text job r)

have_once : (most : Counts) (frac : Frac) (lines : List (List ℕ)) (f g : Refusal) → HaveFault most frac lines f → HaveFault most frac lines g → f ≡ g
have_once most frac lines f g (inl a) (inl b) = bad_line_once most frac lines f g a b
have_once most frac lines f g (inl a) (inr b) = absurd (no_bad_line most frac lines f b.0 a)
have_once most frac lines f g (inr a) (inl b) = absurd (no_bad_line most frac lines g a.0 b)
have_once most frac lines f g (inr a) (inr b) = lack_once (summary frac lines) f g a.1 b.1

job_apart : (most : Counts) (text : List ℕ) (job : JobValue) (f : Refusal) → IsJobText most text job → IsJobFault most text f → ⊥
job_apart most text job f a (inl b) = b.0 a.lines a.first_line
job_apart most text job f a (inr (lines, first, h)) = at h
  where
    told : Told most job lines
    told = told_by most text job lines a first

    at : HaveFault most (frac_in lines) lines f → ⊥
    at (inl b) = no_bad_line most (frac_in lines) lines f told.0 b
    at (inr b) = no_lack (summary (frac_in lines) lines) job f told.1 b.1

-- a text is read as one job, or has one fault
pub job_reads_once : JobReadsOnce
job_reads_once most text (Ok j) (Ok k) a b =
    let x = told_by most text j a.lines a a.first_line in
    let y = told_by most text k a.lines b a.first_line in
    ap (λ (job : JobValue). Ok job) (tells_once (summary (frac_in a.lines) a.lines) j k x.1 y.1)
job_reads_once most text (Ok j) (Err g) a b = absurd (job_apart most text j g a b)
job_reads_once most text (Err f) (Ok k) a b = absurd (job_apart most text k f b a)
job_reads_once most text (Err f) (Err g) (inl a) (inl b) = ap (λ (x : Refusal). Err x) (a.1 ∙ sym b.1)
job_reads_once most text (Err f) (Err g) (inl a) (inr b) = absurd (a.0 b.0 b.1)
job_reads_once most text (Err f) (Err g) (inr a) (inl b) = absurd (b.0 a.0 a.1)
job_reads_once most text (Err f) (Err g) (inr (lines, first, a)) (inr (others, other, b)) =
    let same : others ≡ lines = cc in
    ap (λ (x : Refusal). Err x) (have_once most (frac_in lines) lines f g a (subst (λ (l : List (List ℕ)). HaveFault most (frac_in l) l g) same b))
