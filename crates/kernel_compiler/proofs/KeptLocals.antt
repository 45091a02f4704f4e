-- Locals that keep the marked definitions.
use Rattle.std.proofs.Common.{◌≡◌, ◌≢◌, ℕ, ◌+◌, ◌<◌, ◌≤◌, List, length, sym, subst, ⊎_elim, arith, Bool, true, false, get_or-set_other, get_or-set_same, slice_set, slice_index_or, length-set}
use Rattle.std.proofs.lemmas.Bool.{cases_eq}
use Rattle.energy_program.specs.Uses.{is_marked}
use Rattle.kernel_compiler.specs.Code.{local_of}

-- each definition from j on that is marked has a right entry in its local
pub record Kept (X : Type 0) (none : X) (right : ℕ → X → Type 0) (ms : List Bool) (j : ℕ) (ls : List X) : Type 0 where
  pub size : length ls ≡ 256
  pub each : (k : ℕ) → j ≤ k → is_marked ms k ≡ true → right k (slice_index_or ls (local_of k) none)

-- the compiler's own locals keep no definition
pub kept_scratch : (X : Type 0) (none : X) (right : ℕ → X → Type 0) (ms : List Bool) (j i : ℕ) (ls : List X) (x : X) → i < 2 → Kept X none right ms j ls → Kept X none right ms j (slice_set ls i x)
kept_scratch X none right ms j i ls x low h = record {
  size = simp length-set h.size;
  each = λ k le e.
      subst (right k) (sym (get_or-set_other ls i (local_of k) x none (omega arith))) (h.each k le e);
}

-- if the definition j isn't marked, the locals keep the definitions from j on
pub kept_before : (X : Type 0) (none : X) (right right' : ℕ → X → Type 0) (ms : List Bool) (j : ℕ) (ls : List X) → ((k : ℕ) → j + 1 ≤ k → (x : X) → right k x → right' k x) → is_marked ms j ≡ false
    → Kept X none right ms (j + 1) ls → Kept X none right' ms j ls
kept_before X none right right' ms j ls later off h = record {
  size = h.size;
  each = λ k le e.
      ⊎_elim
      (λ (same : k ≡ j). absurd (let e' : is_marked ms j ≡ true = subst (λ q. is_marked ms q ≡ true) same e in cc))
      (λ (ne : k ≢ j). let above : j + 1 ≤ k = omega arith in later k above (slice_index_or ls (local_of k) none) (h.each k above e))
      (cases_eq k j);
}

-- with a right entry in the local of the definition j, the locals keep the definitions from j on
pub kept_more : (X : Type 0) (none : X) (right right' : ℕ → X → Type 0) (ms : List Bool) (j : ℕ) (ls : List X) (x : X) → ((k : ℕ) → j + 1 ≤ k → (y : X) → right k y → right' k y) → right' j x → j < 254
    → Kept X none right ms (j + 1) ls → Kept X none right' ms j (slice_set ls (local_of j) x)
kept_more X none right right' ms j ls x later is lt h = record {
  size = simp length-set h.size;
  each = λ k le e.
      ⊎_elim
      (λ (same : k ≡ j).
      let size = h.size in
      subst (λ q. right' q (slice_index_or (slice_set ls (local_of j) x) (local_of q) none)) (sym same) (subst (right' j) (sym (get_or-set_same ls (local_of j) x none (omega arith))) is))
      (λ (ne : k ≢ j).
      let above : j + 1 ≤ k = omega arith in
      subst (right' k) (sym (get_or-set_other ls (local_of j) (local_of k) x none (omega arith))) (later k above (slice_index_or ls (local_of k) none) (h.each k above e)))
      (cases_eq k j);
}
