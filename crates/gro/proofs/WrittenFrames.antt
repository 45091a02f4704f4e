-- Written frames: the text of a frame represents the list of this one frame.
use Rattle.std.proofs.Common.{◌≡◌, ℕ, zero, suc, ◌+◌, ◌-◌, ◌*◌, ◌/◌, ◌%◌, ◌^◌, ◌<◌, ◌≤◌, true, ◌&&◌, eqb, leb, not, List, [], ◌∷◌, ◌++◌, length, take, drop, get_or, replicate, ℤ, pos, negsuc, ◌≤ℤ◌, decimal, IsTrue, refl, sym, ap, subst, ◌∙◌, append_assoc, arith, inl, lit<, ne_eqb, le-leb, append-nil, take_at, drop_at, length-append, div-add-mod'}
use Rattle.std.specs.List.{list_all, slice_range, flat_map, AllByRecursion}
use Rattle.std.specs.Fmt.{signed_decimal}
use Rattle.std.specs.Str.{all_ascii_digits}
use Rattle.std.specs.Int.{IsInRange}
use Rattle.std.proofs.lemmas.Bool.{and_parts, and_from}
use Rattle.std.proofs.lemmas.Int.{ints}
use Rattle.std.proofs.lemmas.List.Folds.{list_all-append}
use Rattle.std.proofs.lemmas.Fmt.{digits_decimal, digits_value-decimal, decimal_nonempty, length-decimal-le}
use Rattle.std.proofs.lemmas.Nat.{mod_below}
use Rattle.std.proofs.Math.Nat.{div-le_self}
use lib.Signed.{mag}
use Rattle.line_text.specs.Parts.{lacks, ended, is_title, is_name, is_printable, has_clean_ends, right_in, left_in, AreThree}
use Rattle.line_text.specs.Columns.{decimals_text, with_decimals, zeros_in}
use Rattle.line_text.specs.Words.{words}
use Rattle.line_text.specs.Written.{IsPadded, WritesName, WritesWhole, WritesSigned, plain, minus, WritesColumn}
use Rattle.line_text.proofs.LineLaws.{ended_then, lacks_at, length-right_in, length-left_in}
use Rattle.line_text.proofs.NameLaws.{is_clean, printable_lacks}
use Rattle.line_text.proofs.ColumnLaws.{decimal_column_again, length-with_decimals-le, length-zeros_in, zeros_value, decimals_text_lacks}
use Rattle.line_text.proofs.DigitLaws.{own}
use Rattle.line_text.proofs.ResidueNumbers.{number_short, number_small}
use Rattle.line_text.proofs.WrittenLaws.{digit_in, column_written}
use Rattle.line_text.proofs.WordLaws.{no_words, words_right, right_ends}
use Rattle.gro.specs.Frames.{AtomView, FrameView}
use Rattle.gro.specs.GroText.{IsLine, IsResidueNumber, AreColumns, absent, IsAtomLine, WritesLength, pointed, AreValues, IsBox, AreAtoms, IsFrame, IsGroText}
use Rattle.gro.specs.GroWriting.{count_line, atom_line, box_line, atom_lines, frame_text, FitsPosition, FitsSide, FitsAtom, FitsColumns, HasForm}

-- ---- printable bytes

printable_append : (a b : List ℕ) → is_printable a ≡ true → is_printable b ≡ true → is_printable (a ++ b) ≡ true
printable_append a b p q = list_all-append (λ x. leb 32 x && leb x 126) a b ∙ and_from (is_printable a) (is_printable b) p q

printable_copies : (b k : ℕ) → 32 ≤ b → b ≤ 126 → is_printable (replicate k b) ≡ true
printable_copies b zero low high = refl
printable_copies b (suc k) low high = rw (le-leb 32 b low, le-leb b 126 high, printable_copies b k low high) refl

printable_digits : (text : List ℕ) → all_ascii_digits text ≡ true → is_printable text ≡ true
printable_digits text h = at text (λ i lt. digit_in text i lt h)
  where
    at : (t : List ℕ) → ((i : ℕ) → i < length t → IsInRange 48 57 (get_or t i 0)) → is_printable t ≡ true
    at [] d = refl
    at (x ∷ xs) d =
        let r = d 0 (omega arith) in
        rw (le-leb 32 x (omega (arith, r)), le-leb x 126 (omega (arith, r)), at xs (λ i lt. d (suc i) (omega arith))) refl

printable_decimal : (n : ℕ) → n < 2 ^ 64 → is_printable (decimal n) ≡ true
printable_decimal n fits = printable_digits (decimal n) (digits_decimal own n fits)

printable_signed : (z : ℤ) → mag z < 2 ^ 63 → is_printable (signed_decimal z) ≡ true
printable_signed (pos n) fits = printable_decimal n (omega arith)
printable_signed (negsuc n) fits = printable_decimal (suc n) (omega arith)

printable_with_decimals : (decimals n : ℕ) → n < 2 ^ 64 → is_printable (with_decimals decimals n) ≡ true
printable_with_decimals decimals n fits =
    let whole : n / 10 ^ decimals < 2 ^ 64 = omega (arith, div-le_self n (10 ^ decimals)) in
    let part : n % 10 ^ decimals < 2 ^ 64 = omega (arith, div-add-mod' n (10 ^ decimals)) in
    let zeros : List ℕ = replicate (decimals - length (decimal (n % 10 ^ decimals))) 48 in
    printable_append (decimal (n / 10 ^ decimals)) (46 ∷ zeros_in decimals (decimal (n % 10 ^ decimals))) (printable_decimal (n / 10 ^ decimals) whole)
    (printable_append zeros (decimal (n % 10 ^ decimals)) (printable_copies 48 (decimals - length (decimal (n % 10 ^ decimals))) (omega arith) (omega arith)) (printable_decimal (n % 10 ^ decimals) part))

printable_decimals : (decimals : ℕ) (z : ℤ) → mag z < 2 ^ 63 → is_printable (decimals_text decimals z) ≡ true
printable_decimals decimals (pos n) fits = printable_with_decimals decimals n (omega arith)
printable_decimals decimals (negsuc n) fits = printable_with_decimals decimals (suc n) (omega arith)

printable_right : (width : ℕ) (text : List ℕ) → is_printable text ≡ true → is_printable (right_in width text) ≡ true
printable_right width text h = printable_append (replicate (width - length text) 32) text (printable_copies 32 (width - length text) (omega arith) (omega arith)) h

printable_left : (width : ℕ) (text : List ℕ) → is_printable text ≡ true → is_printable (left_in width text) ≡ true
printable_left width text h = printable_append text (replicate (width - length text) 32) h (printable_copies 32 (width - length text) (omega arith) (omega arith))

printable_name : (name : List ℕ) → IsTrue (is_name name) → is_printable name ≡ true
printable_name name h = (and_parts (leb (length name) 5) (is_printable name) (and_parts (leb (length name) 5 && is_printable name) (has_clean_ends name) h).0).1

-- ---- lines

printable_bare : (text : List ℕ) → is_printable text ≡ true → IsTrue (is_title text)
printable_bare text h =
    and_from (lacks 10 text) (not (eqb (get_or text (length text - 1) 0) 13)) (printable_lacks 10 text (lit< tt) h)
    (ap not (ne_eqb (get_or text (length text - 1) 0) 13 (lacks_at 13 text (length text - 1) (lit< tt) (printable_lacks 13 text (lit< tt) h))))

line_stands : (text rest : List ℕ) → IsTrue (is_title text) → IsLine (ended text ++ rest) text rest
line_stands text rest h = record { returns = 0; bare = h; whole = inl (ended_then text rest) }

-- ---- numbers and names in columns

writes_whole : (n : ℕ) → n < 2 ^ 64 → WritesWhole (decimal n) n
writes_whole n fits = record { form = record { some = decimal_nonempty n fits; digits = digits_decimal own n fits }; value = digits_value-decimal own n fits }

padded_right : (width : ℕ) (text : List ℕ) → IsPadded (right_in width text) text
padded_right width text = record { before = width - length text; behind = 0; whole = ap (λ (t : List ℕ). replicate (width - length text) 32 ++ t) (sym (append-nil text)) }

padded_left : (width : ℕ) (text : List ℕ) → IsPadded (left_in width text) text
padded_left width text = record { before = 0; behind = width - length text; whole = refl }

writes_signed : (z : ℤ) → mag z < 2 ^ 63 → WritesSigned WritesWhole (signed_decimal z) z
writes_signed (pos n) fits = plain n (writes_whole n (omega arith)) refl
writes_signed (negsuc n) fits = minus (decimal (suc n)) (suc n) refl (writes_whole (suc n) (omega arith)) refl

writes_number : (z : ℤ) → negsuc 9998 ≤ℤ z → z ≤ℤ pos 99999 → IsResidueNumber (right_in 5 (signed_decimal z)) z
writes_number z low high = record { text = signed_decimal z; padded = padded_right 5 (signed_decimal z); number = writes_signed z (number_small z low high); low = low; high = high }

fits_mag : (z : ℤ) → FitsPosition z → mag z < 2 ^ 63
fits_mag (pos n) h = omega (arith, ints, h.1)
fits_mag (negsuc n) h = omega (arith, ints, h.0)

position_short : (z : ℤ) → FitsPosition z → length (decimals_text 3 z) ≤ 8
position_short (pos n) h =
    let le : n ≤ 9999999 = omega (arith, ints, h.1) in
    length-with_decimals-le 3 4 n (lit< tt) (lit< tt) (omega arith) (omega (arith, div-add-mod' n (10 ^ 3)))
position_short (negsuc n) h =
    let le : n ≤ 999998 = omega (arith, ints, h.0) in
    let short : length (with_decimals 3 (suc n)) ≤ 7 = length-with_decimals-le 3 3 (suc n) (lit< tt) (lit< tt) (omega arith) (omega (arith, div-add-mod' (suc n) (10 ^ 3))) in
    omega (arith, short)

writes_position : (z : ℤ) → FitsPosition z → WritesColumn 3 (right_in 8 (decimals_text 3 z)) z
writes_position z h = column_written 3 (right_in 8 (decimals_text 3 z)) z (decimal_column_again 3 8 z (lit< tt) (fits_mag z h))

-- ---- an atom

-- the middle of three parts
range_at : (a b c : List ℕ) (i j : ℕ) → length a ≡ i → i + length b ≡ j → slice_range (a ++ (b ++ c)) i j ≡ b
range_at a b c i j la lb =
    let width : length b ≡ j - i = omega arith in
    ap (take (j - i)) (drop_at a (b ++ c) i la) ∙ take_at b c (j - i) width

-- the parts of an atom's line, at their columns
pub record HasParts (line number residue name index x y z : List ℕ) : Type 0 where
  pub number_at : slice_range line 0 5 ≡ number
  pub residue_at : slice_range line 5 10 ≡ residue
  pub name_at : slice_range line 10 15 ≡ name
  pub position_at : slice_range line 20 44 ≡ x ++ (y ++ z)
  pub tail : drop 44 line ≡ []
  pub long : length line ≡ 44

parts_are : (number residue name index x y z : List ℕ) → length number ≡ 5 → length residue ≡ 5 → length name ≡ 5 → length index ≡ 5 → length x ≡ 8 → length y ≡ 8 → length z ≡ 8
    → HasParts (number ++ residue ++ name ++ index ++ (x ++ (y ++ (z ++ [])))) number residue name index x y z
parts_are number residue name index x y z ln lr lm li lx ly lz =
    let line : List ℕ = number ++ residue ++ name ++ index ++ (x ++ (y ++ (z ++ []))) in
    let xyz : List ℕ = x ++ (y ++ z) in
    let bare : line ≡ number ++ residue ++ name ++ index ++ xyz = ap (λ (t : List ℕ). number ++ residue ++ name ++ index ++ (x ++ (y ++ t))) (append-nil z) in
    let a : line ≡ [] ++ (number ++ (residue ++ (name ++ (index ++ xyz)))) = bare ∙ simp append_assoc in
    let b : line ≡ number ++ (residue ++ (name ++ (index ++ xyz))) = a in
    let c : line ≡ (number ++ residue) ++ (name ++ (index ++ xyz)) = bare ∙ simp append_assoc in
    let d : line ≡ (number ++ residue ++ name ++ index) ++ (xyz ++ []) = bare ∙ ap (λ (t : List ℕ). (number ++ residue ++ name ++ index) ++ t) (sym (append-nil xyz)) in
    let e : line ≡ (number ++ residue ++ name ++ index ++ xyz) ++ [] = bare ∙ sym (append-nil (number ++ residue ++ name ++ index ++ xyz)) in
    let l2 : length (number ++ residue) ≡ 10 = omega (arith, length-append number residue) in
    let l3 : length (number ++ residue ++ name) ≡ 15 = omega (arith, length-append (number ++ residue) name) in
    let l4 : length (number ++ residue ++ name ++ index) ≡ 20 = omega (arith, length-append (number ++ residue ++ name) index) in
    let lp : length xyz ≡ 24 = omega (arith, length-append x (y ++ z), length-append y z) in
    let l5 : length (number ++ residue ++ name ++ index ++ xyz) ≡ 44 = omega (arith, length-append (number ++ residue ++ name ++ index) xyz) in
    record {
      number_at = ap (λ (t : List ℕ). slice_range t 0 5) a ∙ range_at [] number (residue ++ (name ++ (index ++ xyz))) 0 5 refl (omega arith);
      residue_at = ap (λ (t : List ℕ). slice_range t 5 10) b ∙ range_at number residue (name ++ (index ++ xyz)) 5 10 ln (omega arith);
      name_at = ap (λ (t : List ℕ). slice_range t 10 15) c ∙ range_at (number ++ residue) name (index ++ xyz) 10 15 l2 (omega arith);
      position_at = ap (λ (t : List ℕ). slice_range t 20 44) d ∙ range_at (number ++ residue ++ name ++ index) xyz [] 20 44 l4 (omega arith);
      tail = ap (drop 44) e ∙ drop_at (number ++ residue ++ name ++ index ++ xyz) [] 44 l5;
      long = ap length bare ∙ l5;
    }

three_columns : (x y z : List ℕ) (p q r : ℤ) → length x ≡ 8 → length y ≡ 8 → length z ≡ 8 → WritesColumn 3 x p → WritesColumn 3 y q → WritesColumn 3 z r → AreColumns 3 (x ++ (y ++ z)) (p ∷ q ∷ r ∷ [])
three_columns x y z p q r lx ly lz hx hy hz =
    let all : List ℕ = x ++ (y ++ z) in
    let last : all ≡ (x ++ y) ++ (z ++ []) = sym (append_assoc x y z) ∙ ap (λ (t : List ℕ). (x ++ y) ++ t) (sym (append-nil z)) in
    let lxy : length (x ++ y) ≡ 16 = omega (arith, length-append x y) in
    let ex : slice_range all 0 8 ≡ x = range_at [] x (y ++ z) 0 8 refl (omega arith) in
    let ey : slice_range all 8 16 ≡ y = range_at x y z 8 16 lx (omega arith) in
    let ez : slice_range all 16 24 ≡ z = ap (λ (t : List ℕ). slice_range t 16 24) last ∙ range_at (x ++ y) z [] 16 24 lxy (omega arith) in (
      subst (λ (t : List ℕ). WritesColumn 3 t p) (sym ex) hx,
      subst (λ (t : List ℕ). WritesColumn 3 t q) (sym ey) hy,
      subst (λ (t : List ℕ). WritesColumn 3 t r) (sym ez) hz,
    )

atom_stands : (index : ℕ) (a : AtomView) (at : List ℤ) → a.at ≡ at → HasForm a → AreThree FitsPosition at → a.velocity ≡ pos 0 ∷ pos 0 ∷ pos 0 ∷ []
    → (is_printable (atom_line index a) ≡ true) × IsAtomLine (atom_line index a) a
atom_stands index a (p ∷ q ∷ r ∷ []) same form fits rest =
    let column = λ (z : ℤ). right_in 8 (decimals_text 3 z) in
    let number : List ℕ = right_in 5 (signed_decimal a.number) in
    let residue : List ℕ = left_in 5 a.residue in
    let name : List ℕ = right_in 5 a.name in
    let below : index % 100000 < 10 ^ 5 = mod_below index 100000 (lit< tt) in
    let count : List ℕ = right_in 5 (decimal (index % 100000)) in
    let lp = length-right_in 8 (decimals_text 3 p) (position_short p fits.0) in
    let lq = length-right_in 8 (decimals_text 3 q) (position_short q fits.1) in
    let lr = length-right_in 8 (decimals_text 3 r) (position_short r fits.2) in
    let line : atom_line index a ≡ number ++ residue ++ name ++ count ++ (column p ++ (column q ++ (column r ++ []))) = ap (λ (zs : List ℤ). number ++ residue ++ name ++ count ++ flat_map column zs) same in
    let parts = parts_are number residue name count (column p) (column q) (column r)
    (length-right_in 5 (signed_decimal a.number) (number_short a.number form.low form.high)) (length-left_in 5 a.residue (is_clean a.residue form.residue).short)
    (length-right_in 5 a.name (is_clean a.name form.name).short) (length-right_in 5 (decimal (index % 100000)) (length-decimal-le 5 (index % 100000) (lit< tt) below (omega arith))) lp lq lr in
    let pr = λ (z : ℤ) (h : FitsPosition z). printable_right 8 (decimals_text 3 z) (printable_decimals 3 z (fits_mag z h)) in
    let bytes : is_printable (atom_line index a) ≡ true = ap is_printable line ∙
    printable_append (number ++ residue ++ name ++ count) (column p ++ (column q ++ (column r ++ [])))
    (printable_append (number ++ residue ++ name) count
    (printable_append (number ++ residue) name
    (printable_append number residue (printable_right 5 (signed_decimal a.number) (printable_signed a.number (number_small a.number form.low form.high))) (printable_left 5 a.residue (printable_name a.residue form.residue)))
    (printable_right 5 a.name (printable_name a.name form.name)))
    (printable_right 5 (decimal (index % 100000)) (printable_decimal (index % 100000) (omega arith))))
    (printable_append (column p) (column q ++ (column r ++ [])) (pr p fits.0) (printable_append (column q) (column r ++ []) (pr q fits.1) (printable_append (column r) [] (pr r fits.2) refl))) in (
      bytes,
      record {
        printable = bytes;
        long = omega (arith, ap length line, parts.long);
        number = subst (λ (t : List ℕ). IsResidueNumber t a.number) (sym (ap (λ (t : List ℕ). slice_range t 0 5) line ∙ parts.number_at)) (writes_number a.number form.low form.high);
        residue = subst (λ (t : List ℕ). WritesName t a.residue) (sym (ap (λ (t : List ℕ). slice_range t 5 10) line ∙ parts.residue_at)) (record { padded = padded_left 5 a.residue; named = form.residue });
        name = subst (λ (t : List ℕ). WritesName t a.name) (sym (ap (λ (t : List ℕ). slice_range t 10 15) line ∙ parts.name_at)) (record { padded = padded_right 5 a.name; named = form.name });
        at = subst (λ (t : List ℕ). AreColumns 3 t a.at) (sym (ap (λ (t : List ℕ). slice_range t 20 44) line ∙ parts.position_at))
            (subst (λ (zs : List ℤ). AreColumns 3 (column p ++ (column q ++ column r)) zs) (sym same)
            (three_columns (column p) (column q) (column r) p q r lp lq lr (writes_position p fits.0) (writes_position q fits.1) (writes_position r fits.2)));
        velocity = absent (ap (λ (t : List ℕ). list_all (λ b. eqb b 32) t) (ap (drop 44) line ∙ parts.tail)) rest;
      },
    )
atom_stands index a _ same form fits rest = absurd fits

atoms_stand : (n : ℕ) (atoms : List AtomView) (rest : List ℕ) → AllByRecursion HasForm atoms → AllByRecursion FitsAtom atoms → AreAtoms (atom_lines n atoms ++ rest) atoms rest
atoms_stand n [] rest forms fits = refl
atoms_stand n (a ∷ atoms) rest forms fits =
    let h = atom_stands n a a.at refl forms.0 fits.0.at fits.0.velocity in
    let line : List ℕ = atom_line n a in
    let after : List ℕ = atom_lines (n + 1) atoms ++ rest in (
      line,
      after,
      subst (λ (t : List ℕ). IsLine t line after) (sym (append_assoc (ended line) (atom_lines (n + 1) atoms) rest)) (line_stands line after (printable_bare line h.0)),
      h.1,
      atoms_stand (n + 1) atoms rest forms.1 fits.1,
    )

-- ---- the box

side_mag : (z : ℤ) → FitsSide z → mag z < 2 ^ 63
side_mag (pos n) h = omega (arith, ints, h.1)
side_mag (negsuc n) h = absurd (omega (arith, ints, h.0))

-- digits, a point and five digits, in nine columns at most
side_written : (z : ℤ) → FitsSide z → WritesSigned WritesLength (decimals_text 5 z) z × (length (decimals_text 5 z) ≤ 9) × (0 < length (decimals_text 5 z))
side_written (negsuc n) h = absurd (omega (arith, ints, h.0))
side_written (pos n) h =
    let le : n ≤ 99999999 = omega (arith, ints, h.1) in
    let parts = div-add-mod' n (10 ^ 5) in
    let below : n % 10 ^ 5 < 10 ^ 5 = mod_below n (10 ^ 5) (lit< tt) in
    let front : n / 10 ^ 5 < 10 ^ 3 = omega (arith, parts) in
    let part : List ℕ = zeros_in 5 (decimal (n % 10 ^ 5)) in
    let short : length (decimal (n % 10 ^ 5)) ≤ 5 = length-decimal-le 5 (n % 10 ^ 5) (lit< tt) below (omega arith) in
    let whole = writes_whole (n / 10 ^ 5) (omega arith) in
    let five : length part ≡ 5 = length-zeros_in 5 (decimal (n % 10 ^ 5)) short in
    let three : length (decimal (n / 10 ^ 5)) ≤ 3 = length-decimal-le 3 (n / 10 ^ 5) (lit< tt) front (omega arith) in
    let value = zeros_value 5 (n % 10 ^ 5) (omega arith) in
    let unit : 10 ^ (5 - length part) ≡ 1 = ap (λ (k : ℕ). 10 ^ (5 - k)) five in
    let total : n / 10 ^ 5 * 10 ^ 5 + n % 10 ^ 5 * 10 ^ (5 - length part) ≡ n = ap (λ (u : ℕ). n / 10 ^ 5 * 10 ^ 5 + n % 10 ^ 5 * u) unit ∙ omega (arith, parts) in (
      plain n (pointed (decimal (n / 10 ^ 5)) part (n / 10 ^ 5) (n % 10 ^ 5) refl (record { number = whole; few = omega (arith, three) })
          (record { number = record { form = record { some = omega (arith, five); digits = value.0 }; value = value.1 }; few = omega (arith, five) }) total) refl,
      omega (arith, length-append (decimal (n / 10 ^ 5)) (46 ∷ part), three, five),
      omega (arith, length-append (decimal (n / 10 ^ 5)) (46 ∷ part)),
    )

box_stands : (sides : List ℤ) → AreThree FitsSide sides → (is_printable (box_line sides) ≡ true) × IsBox (box_line sides) sides
box_stands (p ∷ q ∷ r ∷ []) fits =
    let a = side_written p fits.0 in
    let b = side_written q fits.1 in
    let c = side_written r fits.2 in
    let text = λ (z : ℤ). decimals_text 5 z in
    let column = λ (z : ℤ). right_in 10 (text z) in
    let pr = λ (z : ℤ) (h : FitsSide z). printable_right 10 (text z) (printable_decimals 5 z (side_mag z h)) in
    let space = λ (z : ℤ) (h : FitsSide z). decimals_text_lacks 32 5 z (lit< tt) (side_mag z h) in
    let tab = λ (z : ℤ) (h : FitsSide z). decimals_text_lacks 9 5 z (lit< tt) (side_mag z h) in
    let w3 : words (column r ++ []) ≡ text r ∷ [] = words_right 10 (text r) [] c.2 (space r fits.2) (tab r fits.2) tt ∙ ap (λ (ws : List (List ℕ)). text r ∷ ws) no_words in
    let w2 : words (column q ++ (column r ++ [])) ≡ text q ∷ text r ∷ [] =
    words_right 10 (text q) (column r ++ []) b.2 (space q fits.1) (tab q fits.1) (right_ends 10 (text r) [] (omega (arith, c.1))) ∙ ap (λ (ws : List (List ℕ)). text q ∷ ws) w3 in
    let w1 : words (column p ++ (column q ++ (column r ++ []))) ≡ text p ∷ text q ∷ text r ∷ [] =
    words_right 10 (text p) (column q ++ (column r ++ [])) a.2 (space p fits.0) (tab p fits.0) (right_ends 10 (text q) (column r ++ []) (omega (arith, b.1))) ∙ ap (λ (ws : List (List ℕ)). text p ∷ ws) w2 in (
      printable_append (column p) (column q ++ (column r ++ [])) (pr p fits.0) (printable_append (column q) (column r ++ []) (pr q fits.1) (printable_append (column r) [] (pr r fits.2) refl)),
      record {
        zeros = 0;
        few = omega arith;
        three = refl;
        values = subst (λ (ws : List (List ℕ)). AreValues ws (p ∷ q ∷ r ∷ [])) (sym w1) (a.0, (b.0, (c.0, tt)));
      },
    )
box_stands _ fits = absurd fits

-- ---- the frame

frame_stands : (f : FrameView) → IsTrue (is_title f.title) → length f.atoms ≤ 65536 → AllByRecursion HasForm f.atoms → FitsColumns f → IsFrame (frame_text f) f []
unfolding frame_text
frame_stands f title few forms fits =
    let title_part : List ℕ = ended f.title in
    let count : List ℕ = count_line (length f.atoms) in
    let atoms : List ℕ = atom_lines 1 f.atoms in
    let box : List ℕ = box_line f.sides in
    let whole : title_part ++ ended count ++ atoms ++ ended box ≡ title_part ++ (ended count ++ (atoms ++ (ended box ++ []))) =
    in_turn title_part (ended count) atoms (ended box) in
    let b = box_stands f.sides fits.sides in
    record {
      count = count;
      box_text = box;
      after_title = ended count ++ (atoms ++ (ended box ++ []));
      after_count = atoms ++ (ended box ++ []);
      after_atoms = ended box ++ [];
      title_line = subst (λ (t : List ℕ). IsLine t f.title (ended count ++ (atoms ++ (ended box ++ [])))) (sym whole) (line_stands f.title (ended count ++ (atoms ++ (ended box ++ []))) title);
      count_line = line_stands count (atoms ++ (ended box ++ [])) (printable_bare count (printable_right 5 (decimal (length f.atoms)) (printable_decimal (length f.atoms) (omega arith))));
      counted = record { digits = decimal (length f.atoms); padded = padded_right 5 (decimal (length f.atoms)); number = writes_whole (length f.atoms) (omega arith); few = few };
      atoms = atoms_stand 1 f.atoms (ended box ++ []) forms fits.atoms;
      box_line = line_stands box [] (printable_bare box b.0);
      sides = b.1;
    }
  where
    in_turn : (t c a b : List ℕ) → t ++ c ++ a ++ b ≡ t ++ (c ++ (a ++ (b ++ [])))
    in_turn t c a b = ap (λ (x : List ℕ). t ++ c ++ a ++ x) (sym (append-nil b)) ∙ simp append_assoc

-- the text that is written of a frame that fits its columns represents that one frame
pub written_again : (f : FrameView) → IsTrue (is_title f.title) → length f.atoms ≤ 65536 → AllByRecursion HasForm f.atoms → FitsColumns f → IsGroText (frame_text f) (f ∷ [])
written_again f title few forms fits = ([], frame_stands f title few forms fits, refl)
