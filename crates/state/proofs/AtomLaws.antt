-- The line of an atom: a line is read as an atom exactly if it is the spelling of the atom.
use Rattle.std.proofs.Common.{◌≡◌, ℕ, ◌^◌, ◌≤◌, ◌<◌, true, ◌&&◌, cond, ltb, List, [], ◌∷◌, ◌++◌, length, take, drop, Option, Some, None, ℤ, bytes_eq, refl, sym, ap, subst, ◌∙◌, append_assoc, arith, lit<, le-ltb, take_at, drop_at, append-nil, length-append}
use Rattle.std.specs.Fmt.{signed_decimal}
use Rattle.std.specs.List.{flat_map}
use Rattle.std.proofs.lemmas.Bool.{and_parts, and_from}
use Rattle.line_text.specs.Parts.{◌>>=◌ as ◌|>◌, word, AreThree, lacks, integer_of, three_at, name_of, without_spaces, without_end_spaces, right_in, left_in}
use Rattle.line_text.proofs.PartLaws.{some_of, none_or, same_bytes, bytes_same, integer_again}
use Rattle.line_text.proofs.LineLaws.{bind_some, lacks_append, lacks_first, signed_lacks, right_lacks, left_lacks, words_lack, EndsWord, three_found, three_again, length-right_in, length-left_in, right_again}
use Rattle.line_text.proofs.NameLaws.{name_found, is_clean, name_lacks, right_name_again, left_name_again}
use Rattle.ring_box.specs.Places.{ArePlaces}
use Rattle.ring_box.specs.declared.vectors.Place3.{Place3}
use Rattle.state.specs.StateText.{AtomView, atom_line, numbers_of, IsAtom}
use Rattle.state.specs.StateReading.{place_of, place_in, atom_of}
use Rattle.line_text.specs.Columns.{is_residue_number}
use Rattle.line_text.proofs.ResidueNumbers.{number_short, number_small, number_in_range, number_is}
use Rattle.state.proofs.FormatLaws.{IsReader, Spells}

-- ---- a place

places_of_three : (ns : List ℕ) → AreThree (λ x. x < 2 ^ 32) ns → ArePlaces (place_of ns)
places_of_three (x ∷ y ∷ z ∷ []) h = record { x = h.0; y = h.1; z = h.2 }
places_of_three _ h = absurd h

place_found : (text : List ℕ) (p : Place3 × List ℕ) → place_in text ≡ Some p → ArePlaces p.0
unfolding place_in
place_found text p e =
    let w = bind_some (three_at (2 ^ 32) text) (λ w. Some (place_of w.0, w.1)) p e in
    let same : (place_of w.0.0, w.0.1) ≡ p = cc in
    subst (λ (q : Place3 × List ℕ). ArePlaces q.0) same (places_of_three w.0.0 (three_found (2 ^ 32) text w.0 w.1).1)

place_again : (p : Place3) (rest : List ℕ) → ArePlaces p → EndsWord rest → place_in (flat_map word (numbers_of p) ++ rest) ≡ Some (p, rest)
unfolding place_in
place_again p rest h ends = rw (three_again (2 ^ 32) (numbers_of p) rest (omega arith) (h.x, h.y, h.z) ends) refl

place_lacks : (p : Place3) → ArePlaces p → lacks 10 (flat_map word (numbers_of p)) ≡ true
place_lacks p h = words_lack 10 (2 ^ 32) (numbers_of p) (lit< tt) (omega arith) (h.x, h.y, h.z)

-- ---- an atom

-- the steps of reading an atom, the last first
abbrev made : ℤ → List ℕ → List ℕ → Place3 → Place3 → AtomView
made number residue name previous current = record { residue_number = number; residue = residue; name = name; previous = previous; current = current }

abbrev finish : List ℕ → ℤ → List ℕ → List ℕ → Place3 → Place3 → Option AtomView
finish line number residue name previous current = cond (is_residue_number number && bytes_eq line (atom_line (made number residue name previous current))) (Some (made number residue name previous current)) None

abbrev from_previous : List ℕ → ℤ → List ℕ → List ℕ → Place3 × List ℕ → Option AtomView
from_previous line number residue name previous = place_in previous.1 |> λ current. finish line number residue name previous.0 current.0

abbrev from_name : List ℕ → ℤ → List ℕ → List ℕ → Option AtomView
from_name line number residue name = place_in (drop 5 (drop 5 (drop 5 line))) |> λ previous. from_previous line number residue name previous

abbrev from_residue : List ℕ → ℤ → List ℕ → Option AtomView
from_residue line number residue = name_of (without_spaces (take 5 (drop 5 (drop 5 line)))) |> λ name. from_name line number residue name

abbrev from_number : List ℕ → ℤ → Option AtomView
from_number line number = name_of (without_end_spaces (take 5 (drop 5 line))) |> λ residue. from_residue line number residue

-- a line that is read as an atom is the line of this atom
atom_found : Spells atom_of atom_line IsAtom
unfolding atom_of
atom_found line a l e =
    let long = none_or (ltb (length line) 15) (integer_of (without_spaces (take 5 line)) |> λ number. from_number line number) a e in
    let n = bind_some (integer_of (without_spaces (take 5 line))) (λ number. from_number line number) a long.1 in
    let r = bind_some (name_of (without_end_spaces (take 5 (drop 5 line)))) (λ residue. from_residue line n.0 residue) a n.2 in
    let m = bind_some (name_of (without_spaces (take 5 (drop 5 (drop 5 line))))) (λ name. from_name line n.0 r.0 name) a r.2 in
    let p = bind_some (place_in (drop 5 (drop 5 (drop 5 line)))) (λ previous. from_previous line n.0 r.0 m.0 previous) a m.2 in
    let c = bind_some (place_in p.0.1) (λ current. finish line n.0 r.0 m.0 p.0.0 current.0) a p.2 in
    let it : AtomView = made n.0 r.0 m.0 p.0.0 c.0.0 in
    let s = some_of (is_residue_number n.0 && bytes_eq line (atom_line it)) it a c.2 in
    let t = and_parts (is_residue_number n.0) (bytes_eq line (atom_line it)) s.0 in
    let range = number_in_range n.0 t.0 in
    let fits : IsAtom it = record {
      low = range.0;
      high = range.1;
      residue = (name_found _ r.0 r.1).1;
      name = (name_found _ m.0 m.1).1;
      previous = place_found _ p.0 p.1;
      current = place_found _ c.0 c.1;
    } in
    subst (λ (u : AtomView). (line ≡ atom_line u) × IsAtom u) s.1 (same_bytes line (atom_line it) t.1, fits)

-- the five parts, read from a line that they make
parts_read : (r l n p c : List ℕ) → length r ≡ 5 → length l ≡ 5 → length n ≡ 5
    → (take 5 (r ++ l ++ n ++ p ++ c) ≡ r) × (take 5 (drop 5 (r ++ l ++ n ++ p ++ c)) ≡ l) × (take 5 (drop 5 (drop 5 (r ++ l ++ n ++ p ++ c))) ≡ n)
    × (drop 5 (drop 5 (drop 5 (r ++ l ++ n ++ p ++ c))) ≡ p ++ c) × (15 ≤ length (r ++ l ++ n ++ p ++ c))
parts_read r l n p c hr hl hn =
    let whole : r ++ l ++ n ++ p ++ c ≡ r ++ (l ++ (n ++ (p ++ c))) = simp append_assoc in
    let d1 : drop 5 (r ++ l ++ n ++ p ++ c) ≡ l ++ (n ++ (p ++ c)) = ap (drop 5) whole ∙ drop_at r (l ++ (n ++ (p ++ c))) 5 hr in
    let d2 : drop 5 (drop 5 (r ++ l ++ n ++ p ++ c)) ≡ n ++ (p ++ c) = ap (drop 5) d1 ∙ drop_at l (n ++ (p ++ c)) 5 hl in (
      ap (take 5) whole ∙ take_at r (l ++ (n ++ (p ++ c))) 5 hr,
      ap (take 5) d1 ∙ take_at l (n ++ (p ++ c)) 5 hl,
      ap (take 5) d2 ∙ take_at n (p ++ c) 5 hn,
      ap (drop 5) d2 ∙ drop_at n (p ++ c) 5 hn,
      omega (arith, ap length whole, length-append r (l ++ (n ++ (p ++ c))), length-append l (n ++ (p ++ c)), length-append n (p ++ c)),
    )

atom_is : (line : List ℕ) (number : ℤ) (residue name : List ℕ) (previous current : Place3) (rest after_all : List ℕ) → 15 ≤ length line
    → integer_of (without_spaces (take 5 line)) ≡ Some number
    → name_of (without_end_spaces (take 5 (drop 5 line))) ≡ Some residue
    → name_of (without_spaces (take 5 (drop 5 (drop 5 line)))) ≡ Some name
    → place_in (drop 5 (drop 5 (drop 5 line))) ≡ Some (previous, rest)
    → place_in rest ≡ Some (current, after_all)
    → (is_residue_number number && bytes_eq line (atom_line (made number residue name previous current))) ≡ true
    → atom_of line ≡ Some (made number residue name previous current)
unfolding atom_of
atom_is line number residue name previous current rest after_all long en er em ep ec et = rw (le-ltb (length line) 15 long, en, er, em, ep, ec, et) refl

-- an atom's line is read as that atom
atom_again : (a : AtomView) → IsAtom a → atom_of (atom_line a) ≡ Some a
atom_again a h =
    let small = number_small a.residue_number h.low h.high in
    let previous : List ℕ = flat_map word (numbers_of a.previous) in
    let current : List ℕ = flat_map word (numbers_of a.current) in
    let q = parts_read (right_in 5 (signed_decimal a.residue_number)) (left_in 5 a.residue) (right_in 5 a.name) previous current
    (length-right_in 5 (signed_decimal a.residue_number) (number_short a.residue_number h.low h.high))
    (length-left_in 5 a.residue (is_clean a.residue h.residue).short) (length-right_in 5 a.name (is_clean a.name h.name).short) in
    atom_is (atom_line a) a.residue_number a.residue a.name a.previous a.current current [] q.4
    (ap (λ (t : List ℕ). integer_of (without_spaces t)) q.0
    ∙ ap integer_of (right_again 5 (signed_decimal a.residue_number) (lacks_first 32 (signed_decimal a.residue_number) (lit< tt) (signed_lacks 32 a.residue_number (lit< tt) small))) ∙ integer_again a.residue_number small)
    (ap (λ (t : List ℕ). name_of (without_end_spaces t)) q.1 ∙ left_name_again 5 a.residue h.residue)
    (ap (λ (t : List ℕ). name_of (without_spaces t)) q.2 ∙ right_name_again 5 a.name h.name)
    (ap place_in q.3 ∙ place_again a.previous current h.previous refl)
    (ap place_in (sym (append-nil current)) ∙ place_again a.current [] h.current tt)
    (and_from (is_residue_number a.residue_number) (bytes_eq (atom_line a) (atom_line a)) (number_is a.residue_number h.low h.high) (bytes_same (atom_line a) (atom_line a) refl))

-- an atom's line has no line feed
atom_lacks : (a : AtomView) → IsAtom a → lacks 10 (atom_line a) ≡ true
atom_lacks a h =
    let number : List ℕ = right_in 5 (signed_decimal a.residue_number) in
    let residue : List ℕ = left_in 5 a.residue in
    let name : List ℕ = right_in 5 a.name in
    let ln = right_lacks 10 5 (signed_decimal a.residue_number) (lit< tt) (signed_lacks 10 a.residue_number (lit< tt) (number_small a.residue_number h.low h.high)) in
    let lr = left_lacks 10 5 a.residue (lit< tt) (name_lacks 10 a.residue (lit< tt) h.residue) in
    let lm = right_lacks 10 5 a.name (lit< tt) (name_lacks 10 a.name (lit< tt) h.name) in
    let previous : List ℕ = flat_map word (numbers_of a.previous) in
    lacks_append 10 (number ++ residue ++ name ++ previous) (flat_map word (numbers_of a.current))
    (lacks_append 10 (number ++ residue ++ name) previous
    (lacks_append 10 (number ++ residue) name (lacks_append 10 number residue ln lr) lm) (place_lacks a.previous h.previous))
    (place_lacks a.current h.current)

-- the line of an atom
pub atom_reader : IsReader atom_of atom_line IsAtom
atom_reader = record { found = atom_found; again = atom_again; whole = atom_lacks }
