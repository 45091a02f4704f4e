-- Forces added up pair by pair are the exact sums over all pairs.
use Rattle.std.proofs.Common.{◌≡◌, ◌≢◌, ℕ, ◌<◌, true, false, List, [], ◌∷◌, length, replicate, get_or, ℤ, Option, Some, None, Ok, Err, arith, refl, ap, sym, ◌∙◌, inl, inr, is_some, is_none, unwrap_or, get_or-set_same, get_or-set_other, length-set}
use Rattle.std.specs.List.{find, list_all}
use Rattle.std.proofs.lemmas.Bool.{cases_eq}
use Rattle.std.proofs.lemmas.List.{length-replicate, get_or-replicate}
use Rattle.line_text.proofs.StepLaws.{err_is_no_ok, same_err, none_is_no_some, same_ok}
use Rattle.ring_box.specs.Forces.{no_force}
use Rattle.ring_box.specs.declared.vectors.Vector.{Vector}
use Rattle.integrator.specs.Forces.{plus, negative, share_of, sum_of_shares, pairs_of, force_or_none, forces_of}
use Rattle.integrator.proofs.NumberLaws.{made_of_numbers}
use Rattle.integrator.proofs.ForceLaws.{ArePairsOf, frame_pairs, higher_share, no_share, none-plus, pairs_parts, plus-assoc, plus-none, same_share}
use Rattle.run_laws.specs.Stops.{first_without_force}
use Rattle.run_laws.specs.Adding.{on_force, with_force, with_pair, with_pairs}

-- ---- one pair

length-with_force : (sums : List (Vector ℤ)) (a : ℕ) (v : Vector ℤ) → length (with_force sums a v) ≡ length sums
length-with_force sums a v = length-set sums a (plus (get_or sums a no_force) v)

-- adding the force of a pair keeps the number of sums
pub length-with_pair : (sums : List (Vector ℤ)) (p : ℕ × ℕ) (v : Vector ℤ) → length (with_pair sums p v) ≡ length sums
length-with_pair sums p v = length-with_force (with_force sums p.0 v) p.1 (negative v) ∙ length-with_force sums p.0 v

force_here : (sums : List (Vector ℤ)) (a : ℕ) (v : Vector ℤ) → a < length sums → get_or (with_force sums a v) a no_force ≡ plus (get_or sums a no_force) v
force_here sums a v h = get_or-set_same sums a (plus (get_or sums a no_force) v) no_force h

force_elsewhere : (sums : List (Vector ℤ)) (a : ℕ) (v : Vector ℤ) (b : ℕ) → b ≢ a → get_or (with_force sums a v) b no_force ≡ get_or sums b no_force
force_elsewhere sums a v b n = get_or-set_other sums a b (plus (get_or sums a no_force) v) no_force n

entry_low : (sums : List (Vector ℤ)) (i j : ℕ) (v : Vector ℤ) → i < j → j < length sums
    → get_or (with_pair sums (i, j) v) i no_force ≡ plus (get_or sums i no_force) (share_of (i, j) v i)
entry_low sums i j v h k =
    let n : i ≢ j = omega arith in
    force_elsewhere (with_force sums i v) j (negative v) i n ∙ force_here sums i v (omega arith) ∙ ap (plus (get_or sums i no_force)) (sym (same_share i j v))

entry_high : (sums : List (Vector ℤ)) (i j : ℕ) (v : Vector ℤ) → i < j → j < length sums
    → get_or (with_pair sums (i, j) v) j no_force ≡ plus (get_or sums j no_force) (share_of (i, j) v j)
entry_high sums i j v h k =
    let n : i ≢ j = omega arith in
    let m : j ≢ i = omega arith in
    force_here (with_force sums i v) j (negative v) (rw (length-with_force sums i v) k)
    ∙ ap (λ w. plus w (negative v)) (force_elsewhere sums i v j m)
    ∙ ap (plus (get_or sums j no_force)) (sym (higher_share i j v n))

entry_other : (sums : List (Vector ℤ)) (i j : ℕ) (v : Vector ℤ) (a : ℕ) → a ≢ i → a ≢ j
    → get_or (with_pair sums (i, j) v) a no_force ≡ plus (get_or sums a no_force) (share_of (i, j) v a)
entry_other sums i j v a m n =
    let p : i ≢ a = omega arith in
    let q : j ≢ a = omega arith in
    force_elsewhere (with_force sums i v) j (negative v) a n ∙ force_elsewhere sums i v a m
    ∙ sym (plus-none (get_or sums a no_force)) ∙ ap (plus (get_or sums a no_force)) (sym (no_share i j a v p q))

entry_after : (sums : List (Vector ℤ)) (i j : ℕ) (v : Vector ℤ) (a : ℕ) → i < j → j < length sums
    → get_or (with_pair sums (i, j) v) a no_force ≡ plus (get_or sums a no_force) (share_of (i, j) v a)
entry_after sums i j v a h k =
    elim (cases_eq a i) [
      | inl e ↦ rw e (entry_low sums i j v h k)
      | inr m ↦ elim (cases_eq a j) [
        | inl e ↦ rw e (entry_high sums i j v h k)
        | inr n ↦ entry_other sums i j v a m n
      ]
    ]

-- ---- all pairs

-- the forces of the pairs p ∷ ps, once the sums are known
pub record Added (force : ℕ × ℕ → Option (Vector ℤ)) (sums out : List (Vector ℤ)) (p : ℕ × ℕ) (ps : List (ℕ × ℕ)) : Type 0 where
  pub v : Vector ℤ
  pub has : force p ≡ Some v
  pub rest : with_pairs force (with_pair sums p v) ps ≡ Ok out

added_at : (force : ℕ × ℕ → Option (Vector ℤ)) (sums out : List (Vector ℤ)) (p : ℕ × ℕ) (ps : List (ℕ × ℕ)) (o : Option (Vector ℤ)) → force p ≡ o
    → on_force p o (λ v. with_pairs force (with_pair sums p v) ps) ≡ Ok out → Added force sums out p ps
added_at force sums out p ps None h e = absurd (err_is_no_ok p out e)
added_at force sums out p ps (Some v) h e = record { v = v; has = h; rest = e }

added : (force : ℕ × ℕ → Option (Vector ℤ)) (sums out : List (Vector ℤ)) (p : ℕ × ℕ) (ps : List (ℕ × ℕ)) → with_pairs force sums (p ∷ ps) ≡ Ok out → Added force sums out p ps
unfolding with_pairs
added force sums out p ps e = added_at force sums out p ps (force p) refl e

-- adding the forces of all pairs keeps the number of sums
pub length-with_pairs : (force : ℕ × ℕ → Option (Vector ℤ)) (sums out : List (Vector ℤ)) (ps : List (ℕ × ℕ)) → with_pairs force sums ps ≡ Ok out → length out ≡ length sums
unfolding with_pairs
length-with_pairs force sums out [] e = ap length (sym (same_ok sums out e))
length-with_pairs force sums out (p ∷ ps) e =
    let a = added force sums out p ps e in
    length-with_pairs force (with_pair sums p a.v) out ps a.rest ∙ length-with_pair sums p a.v

all_forced : (force : ℕ × ℕ → Option (Vector ℤ)) (sums out : List (Vector ℤ)) (ps : List (ℕ × ℕ)) → with_pairs force sums ps ≡ Ok out → list_all (λ p. is_some (force p)) ps ≡ true
unfolding with_pairs
all_forced force sums out [] e = refl
all_forced force sums out (p ∷ ps) e =
    let a = added force sums out p ps e in
    rw a.has (all_forced force (with_pair sums p a.v) out ps a.rest)

entries : (force : ℕ × ℕ → Option (Vector ℤ)) (sums out : List (Vector ℤ)) (ps : List (ℕ × ℕ)) (a : ℕ) → ArePairsOf (length sums) ps
    → with_pairs force sums ps ≡ Ok out → get_or out a no_force ≡ plus (get_or sums a no_force) (sum_of_shares (force_or_none force) ps a)
unfolding with_pairs sum_of_shares
entries force sums out [] a h e = ap (λ s. get_or s a no_force) (sym (same_ok sums out e)) ∙ sym (plus-none (get_or sums a no_force))
entries force sums out (p ∷ ps) a h e =
    let d = added force sums out p ps e in
    let each = pairs_parts (length sums) p ps h in
    let next = with_pair sums p d.v in
    let rest = sum_of_shares (force_or_none force) ps a in
    let first : get_or next a no_force ≡ plus (get_or sums a no_force) (share_of p d.v a) = entry_after sums p.0 p.1 d.v a each.0.apart each.0.below in
    let within : ArePairsOf (length next) ps = rw (length-with_pair sums p d.v) each.1 in
    entries force next out ps a within d.rest
    ∙ ap (λ w. plus w rest) first
    ∙ plus-assoc (get_or sums a no_force) (share_of p d.v a) rest
    ∙ ap (λ o. plus (get_or sums a no_force) (plus (share_of p (unwrap_or o no_force) a) rest)) (sym d.has)

-- the sums over all pairs, from zero, are the forces
pub forces_found : (force : ℕ × ℕ → Option (Vector ℤ)) (n : ℕ) (out : List (Vector ℤ)) → with_pairs force (replicate n no_force) (pairs_of n) ≡ Ok out → forces_of force n ≡ Some out
forces_found force n out e =
    let zeros = replicate n no_force in
    let g = sum_of_shares (force_or_none force) (pairs_of n) in
    let size : length zeros ≡ n = length-replicate n no_force in
    let pairs : ArePairsOf (length zeros) (pairs_of n) = rw size (frame_pairs n 0 n (omega arith)) in
    let all : list_all (λ p. is_some (force p)) (pairs_of n) ≡ true = all_forced force zeros out (pairs_of n) e in
    rw all (ap Some (sym (made_of_numbers g no_force n out (length-with_pairs force zeros out (pairs_of n) e ∙ size) (λ a l.
    entries force zeros out (pairs_of n) a pairs e ∙ ap (λ w. plus w (g a)) (get_or-replicate n a no_force no_force l) ∙ none-plus (g a)))))

-- the pair at which the sums stop is the first without a force
stops_at : (force : ℕ × ℕ → Option (Vector ℤ)) (sums : List (Vector ℤ)) (p q : ℕ × ℕ) (ps : List (ℕ × ℕ)) (o : Option (Vector ℤ)) → force p ≡ o
    → on_force p o (λ v. with_pairs force (with_pair sums p v) ps) ≡ Err q
    → ((v : Vector ℤ) → with_pairs force (with_pair sums p v) ps ≡ Err q → find (λ p. is_none (force p)) ps ≡ Some q)
    → find (λ p. is_none (force p)) (p ∷ ps) ≡ Some q
stops_at force sums p q ps None h e rest = rw h (ap Some (same_err p q e))
stops_at force sums p q ps (Some v) h e rest = rw h (rest v e)

first_found : (force : ℕ × ℕ → Option (Vector ℤ)) (sums : List (Vector ℤ)) (q : ℕ × ℕ) (ps : List (ℕ × ℕ)) → with_pairs force sums ps ≡ Err q → find (λ p. is_none (force p)) ps ≡ Some q
unfolding with_pairs
first_found force sums q [] e = absurd (err_is_no_ok q sums (sym e))
first_found force sums q (p ∷ ps) e = stops_at force sums p q ps (force p) refl e (λ v h. first_found force (with_pair sums p v) q ps h)

-- if adding up all pairs of a frame stops, it stops at the first pair without a force
pub fault_found : (force : ℕ × ℕ → Option (Vector ℤ)) (n : ℕ) (sums : List (Vector ℤ)) (q : ℕ × ℕ) → with_pairs force sums (pairs_of n) ≡ Err q → first_without_force force n ≡ Some q
fault_found force n sums q e = first_found force sums q (pairs_of n) e

not_all_at : (force : ℕ × ℕ → Option (Vector ℤ)) (q p : ℕ × ℕ) (ps : List (ℕ × ℕ)) (o : Option (Vector ℤ)) → force p ≡ o
    → find (λ p. is_none (force p)) (p ∷ ps) ≡ Some q
    → (find (λ p. is_none (force p)) ps ≡ Some q → list_all (λ p. is_some (force p)) ps ≡ false)
    → list_all (λ p. is_some (force p)) (p ∷ ps) ≡ false
not_all_at force q p ps None h e rest = rw h refl
not_all_at force q p ps (Some v) h e rest = rw h (rest (rw h at e))

not_all : (force : ℕ × ℕ → Option (Vector ℤ)) (q : ℕ × ℕ) (ps : List (ℕ × ℕ)) → find (λ p. is_none (force p)) ps ≡ Some q → list_all (λ p. is_some (force p)) ps ≡ false
not_all force q [] e = absurd (none_is_no_some q e)
not_all force q (p ∷ ps) e = not_all_at force q p ps (force p) refl e (λ h. not_all force q ps h)

-- a frame with a pair without a force has no forces
pub no_forces : (force : ℕ × ℕ → Option (Vector ℤ)) (n : ℕ) (q : ℕ × ℕ) → first_without_force force n ≡ Some q → forces_of force n ≡ None
no_forces force n q e = rw (not_all force q (pairs_of n) e) refl
