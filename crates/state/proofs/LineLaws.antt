-- The lines of a state: a line is read as a value exactly if it is the spelling of the value.
use Rattle.std.proofs.Common.{◌≡◌, ℕ, ◌-◌, ◌^◌, ◌<◌, ◌≤◌, Bool, true, false, ◌&&◌, cond, eqb, ltb, not, List, [], ◌∷◌, ◌++◌, length, get_or, Option, Some, None, Ok, codes, decimal, bytes_eq, IsTrue, refl, sym, ap, subst, ◌∙◌, arith, lit<}
use Rattle.std.specs.Fmt.{signed_decimal}
use Rattle.std.specs.List.{flat_map, list_all}
use Rattle.std.proofs.lemmas.Bool.{and_parts, and_from, not-true, eqb-true, ltb-true, lt-ltb}
use Rattle.std.proofs.lemmas.List.{append-nil, nil_from_length}
use lib.Signed.{mag}
use Rattle.line_text.specs.Parts.{◌>>=◌ as ◌|>◌, word, AreThree, lacks, is_title, after, natural_of, integer_of, three_at}
use Rattle.line_text.proofs.PartLaws.{some_of, none_of, same_bytes, natural_found, natural_again, integer_found, integer_again}
use Rattle.line_text.proofs.LineLaws.{bind_some, lacks_append, lacks_rest, decimal_lacks, signed_lacks, after_found, after_again, three_found, three_again, words_lack}
use Rattle.fixed.specs.Fractions.{bits_of}
use Rattle.fixed.specs.declared.frac.Frac.{Frac}
use Rattle.fixed.specs.declared.frac.Frac.TheVariants.{F24, F32, F40}
use Rattle.state.specs.declared.versions.Version.{Version}
use Rattle.state.specs.declared.versions.Version.TheVariants.{First, Second}
use Rattle.state.specs.StateText.{version_of, head_line, title_line, step_line, bits_line, bits_in, count_line, box_line, IsSide}
use Rattle.state.specs.StateReading.{head_of, title_of, step_of, named_frac, frac_of, count_of, sides_of, frac_at}
use Rattle.state.proofs.FormatLaws.{IsReader, Spells, field_found}

-- ---- the first line

head_found : Spells head_of head_line (λ _. Unit {0})
head_found line v l e = at (bytes_eq line (head_line First)) (bytes_eq line (head_line Second)) refl refl e
  where
    at : (s t : Bool) → bytes_eq line (head_line First) ≡ s → bytes_eq line (head_line Second) ≡ t → cond s (Some First) (cond t (Some Second) None) ≡ Some v → (line ≡ head_line v) × Unit {0}
    at true t f g h = let same : First ≡ v = cc in (same_bytes line (head_line First) f ∙ ap head_line same, tt)
    at false true f g h = let same : Second ≡ v = cc in (same_bytes line (head_line Second) g ∙ ap head_line same, tt)
    at false false f g h = absurd cc

head_again : (v : Version) → head_of (head_line v) ≡ Some v
head_again First = refl
head_again Second = refl

head_lacks : (v : Version) → lacks 10 (head_line v) ≡ true
head_lacks First = refl
head_lacks Second = refl

-- the first line of a version
pub head_reader : IsReader head_of head_line (λ _. Unit {0})
head_reader = record { found = head_found; again = λ v _. head_again v; whole = λ v _. head_lacks v }

-- ---- lines with a front

-- the value that the bytes after a front represent
prefixed : {X : Type 0} {read : List ℕ → Option X} {spell : X → List ℕ} {Fits : X → Type 0} (front : List ℕ) → lacks 10 front ≡ true → IsReader read spell Fits
    → IsReader (λ line. after front line |> read) (λ x. front ++ spell x) Fits
prefixed {read} {spell} front bare is = record {
  found = λ line x l e.
      let a = bind_some (after front line) read x e in
      let split = after_found front line a.0 a.1 in
      let f = is.found a.0 x (lacks_rest 10 front a.0 (rw split at l)) a.2 in
      (split ∙ ap (λ (u : List ℕ). front ++ u) f.0, f.1);
  again = λ x fits. rw (after_again front (spell x)) (is.again x fits);
  whole = λ x fits. lacks_append 10 front (spell x) bare (is.whole x fits);
}

-- ---- the title and the step

title_bytes : IsReader (λ t. cond (eqb (get_or t (length t - 1) 0) 13) None (Some t)) (λ t. t) (λ t. IsTrue (is_title t))
title_bytes = record {
  found = λ t u l e.
      let s = none_of (eqb (get_or t (length t - 1) 0) 13) t u e in
      subst (λ (v : List ℕ). (t ≡ v) × IsTrue (is_title v)) s.1 (refl, and_from (lacks 10 t) (not (eqb (get_or t (length t - 1) 0) 13)) l (ap not s.0));
  again = λ t h. rw (not-true (eqb (get_or t (length t - 1) 0) 13) (and_parts (lacks 10 t) (not (eqb (get_or t (length t - 1) 0) 13)) h).1) refl;
  whole = λ t h. (and_parts (lacks 10 t) (not (eqb (get_or t (length t - 1) 0) 13)) h).0;
}

-- the line of a title
pub title_reader : IsReader title_of title_line (λ t. IsTrue (is_title t))
unfolding title_of
title_reader = prefixed (codes "title ") refl title_bytes

integer_reader : IsReader integer_of signed_decimal (λ z. mag z < 2 ^ 63)
integer_reader = record { found = λ t z l e. integer_found t z e; again = integer_again; whole = λ z h. signed_lacks 10 z (lit< tt) h }

-- the line of a step
pub step_reader : IsReader step_of step_line (λ z. mag z < 2 ^ 63)
unfolding step_of
step_reader = prefixed (codes "step ") refl integer_reader

-- ---- the bits

named_found : (n : ℕ) (f : Frac) → named_frac n ≡ Some f → (n ≡ bits_of f) × (version_of f ≡ Second)
named_found n f e = at (eqb n 24) (eqb n 40) refl refl e
  where
    at : (s t : Bool) → eqb n 24 ≡ s → eqb n 40 ≡ t → cond s (Some F24) (cond t (Some F40) None) ≡ Some f → (n ≡ bits_of f) × (version_of f ≡ Second)
    at true t p q h = let same : F24 ≡ f = cc in (eqb-true n 24 p ∙ ap bits_of same, sym (ap version_of same))
    at false true p q h = let same : F40 ≡ f = cc in (eqb-true n 40 q ∙ ap bits_of same, sym (ap version_of same))
    at false false p q h = absurd cc

frac_found : Spells frac_of bits_line (λ f. version_of f ≡ Second)
unfolding frac_of
frac_found line f l e =
    let n = bind_some (after (codes "bits ") line |> natural_of 41) named_frac f e in
    let a = bind_some (after (codes "bits ") line) (natural_of 41) n.0 n.1 in
    let m = named_found n.0 f n.2 in
    let whole : line ≡ codes "bits " ++ decimal n.0 = after_found (codes "bits ") line a.0 a.1 ∙ ap (λ (u : List ℕ). codes "bits " ++ u) (natural_found 41 a.0 n.0 a.2).0 in
    (whole ∙ ap (λ (k : ℕ). codes "bits " ++ decimal k) m.0, m.1)

frac_again : (f : Frac) → version_of f ≡ Second → frac_of (bits_line f) ≡ Some f
unfolding frac_of
frac_again F24 is = rw (after_again (codes "bits ") (decimal 24), natural_again 41 24 (lit< tt) (omega arith)) refl
frac_again F32 is = let wrong : First ≡ Second = is in absurd cc
frac_again F40 is = rw (after_again (codes "bits ") (decimal 40), natural_again 41 40 (lit< tt) (omega arith)) refl

bits_small : (f : Frac) → bits_of f < 41
bits_small F24 = lit< tt
bits_small F32 = lit< tt
bits_small F40 = lit< tt

frac_lacks : (f : Frac) → lacks 10 (bits_line f) ≡ true
frac_lacks f = lacks_append 10 (codes "bits ") (decimal (bits_of f)) refl (decimal_lacks 10 (bits_of f) (lit< tt) (omega (arith, bits_small f)))

-- the line of the fraction bits, which only the second version has
pub frac_reader : IsReader frac_of bits_line (λ f. version_of f ≡ Second)
frac_reader = record { found = frac_found; again = frac_again; whole = λ f _. frac_lacks f }

-- the bits that a version reads are written there, if it has a line for them, and they are of that version
pub bits_found : (v : Version) (bytes : List ℕ) (p : Frac × List ℕ) → frac_at v bytes ≡ Ok p → (bytes ≡ bits_in v p.0 ++ p.1) × (version_of p.0 ≡ v)
bits_found First bytes p e =
    let same : (F32, bytes) ≡ p = cc in
    subst (λ (q : Frac × List ℕ). (bytes ≡ bits_in First q.0 ++ q.1) × (version_of q.0 ≡ First)) same (refl, refl)
bits_found Second bytes p e = field_found frac_reader 4 bytes p e

-- ---- the number of atoms

count_digits : IsReader (natural_of 65537) decimal (λ n. n ≤ 65536)
count_digits = record {
  found = λ t n l e. let f = natural_found 65537 t n e in (f.0, omega (arith, f.1));
  again = λ n h. natural_again 65537 n (omega arith) (omega arith);
  whole = λ n h. decimal_lacks 10 n (lit< tt) (omega arith);
}

-- the line of the number of atoms
pub count_reader : IsReader count_of count_line (λ n. n ≤ 65536)
unfolding count_of
count_reader = prefixed (codes "atoms ") refl count_digits

-- ---- the sides

are_sides : (ns : List ℕ) → AreThree (λ x. x < 16000001) ns → list_all (λ x. ltb 0 x) ns ≡ true → AreThree IsSide ns
are_sides (x ∷ y ∷ z ∷ []) h e =
    let p = and_parts (ltb 0 x) (ltb 0 y && (ltb 0 z && true)) e in
    let q = and_parts (ltb 0 y) (ltb 0 z && true) p.1 in
    let r = and_parts (ltb 0 z) true q.1 in
    ((ltb-true 0 x p.0, omega (arith, h.0)), (ltb-true 0 y q.0, omega (arith, h.1)), (ltb-true 0 z r.0, omega (arith, h.2)))
are_sides _ h e = absurd h

sides_small : (ns : List ℕ) → AreThree IsSide ns → (list_all (λ x. ltb 0 x) ns ≡ true) × AreThree (λ x. x < 16000001) ns
sides_small (x ∷ y ∷ z ∷ []) h =
    (rw (lt-ltb 0 x h.0.0, lt-ltb 0 y h.1.0, lt-ltb 0 z h.2.0) refl, (omega (arith, h.0), omega (arith, h.1), omega (arith, h.2)))
sides_small _ h = absurd h

sides_words : IsReader (λ t. three_at 16000001 t |> λ w. cond (eqb (length w.1) 0 && list_all (λ x. ltb 0 x) w.0) (Some w.0) None) (flat_map word) (AreThree IsSide)
sides_words = record {
  found = λ t ns l e.
      let b = bind_some (three_at 16000001 t) (λ w. cond (eqb (length w.1) 0 && list_all (λ x. ltb 0 x) w.0) (Some w.0) None) ns e in
      let s = some_of (eqb (length b.0.1) 0 && list_all (λ x. ltb 0 x) b.0.0) b.0.0 ns b.2 in
      let p = and_parts (eqb (length b.0.1) 0) (list_all (λ x. ltb 0 x) b.0.0) s.0 in
      let three = three_found 16000001 t b.0 b.1 in
      let nothing : b.0.1 ≡ [] = nil_from_length b.0.1 (eqb-true (length b.0.1) 0 p.0) in
      let whole : t ≡ flat_map word b.0.0 = three.0 ∙ ap (λ (u : List ℕ). flat_map word b.0.0 ++ u) nothing ∙ append-nil (flat_map word b.0.0) in
      subst (λ (u : List ℕ). (t ≡ flat_map word u) × AreThree IsSide u) s.1 (whole, are_sides b.0.0 three.1 p.1);
  again = λ ns h.
      let p = sides_small ns h in
      let t : three_at 16000001 (flat_map word ns) ≡ Some (ns, []) = ap (three_at 16000001) (sym (append-nil (flat_map word ns))) ∙ three_again 16000001 ns [] (omega arith) p.1 tt in
      rw (t, p.0) refl;
  whole = λ ns h. words_lack 10 16000001 ns (omega arith) (omega arith) (sides_small ns h).1;
}

-- the line of the sides of a box
pub sides_reader : IsReader sides_of box_line (AreThree IsSide)
unfolding sides_of
sides_reader = prefixed (codes "box") refl sides_words
