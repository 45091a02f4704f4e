-- A line is read as an atom exactly if it is a line of this atom.
use Rattle.std.proofs.Common.{◌≡◌, ℕ, suc, ◌+◌, ◌-◌, ◌<◌, ◌≤◌, Bool, true, false, cond, eqb, ltb, List, [], ◌∷◌, ◌++◌, length, take, drop, get_or, replicate, Option, Some, None, ℤ, pos, IsTrue, refl, sym, ap, subst, ◌∙◌, append_assoc, arith, lit<}
use Rattle.std.specs.List.{slice_range}
use Rattle.std.proofs.lemmas.Bool.{and_parts, ltb-false, le-ltb, false_from_ne_true}
use Rattle.std.proofs.lemmas.List.{take-append-drop, length-append}
use Rattle.std.proofs.lemmas.List.Folds.{list_all-append}
use Rattle.std.proofs.Common.{length-take, length-drop}
use Rattle.line_text.specs.Parts.{◌>>=◌, lacks, split_once, name_of, trimmed, is_printable}
use Rattle.line_text.specs.Columns.{signed_by, decimal_column_of, is_residue_number}
use Rattle.line_text.specs.Written.{WritesWhole, WritesSigned, plain, minus, WritesDecimal, WritesColumn}
use Rattle.line_text.proofs.PartLaws.{some_of, none_or}
use Rattle.line_text.proofs.LineLaws.{bind_some, copies_lack, lacks_append, cut_again}
use Rattle.line_text.proofs.ResidueNumbers.{number_in_range, number_is}
use Rattle.line_text.proofs.WrittenLaws.{padded_found, padded_read, name_written, name_read, digits_lack_byte, signed_written, signed_read, signed_first, column_written, column_read}
use Rattle.gro.specs.Frames.{AtomView}
use Rattle.gro.specs.GroText.{IsResidueNumber, AreColumns, are_spaces, IsVelocity, absent, given, IsAtomLine}
use Rattle.gro.specs.GroReading.{whole_of, points_of, residue_number_of, three_columns_of, velocity_of, fields_of}
use Rattle.gro.proofs.CountLaws.{whole_written, whole_read, first_digit, last_digit}

-- ---- the residue's number

last_of : (b : ℕ) (text : List ℕ) → 0 < length text → get_or (b ∷ text) (length (b ∷ text) - 1) 0 ≡ get_or text (length text - 1) 0
last_of b text some = let k : length (b ∷ text) - 1 ≡ suc (length text - 1) = omega arith in ap (λ i. get_or (b ∷ text) i 0) k

signed_last : (text : List ℕ) (z : ℤ) → WritesSigned WritesWhole text z → get_or text (length text - 1) 0 ≡ 32 → ⊥
signed_last text z (plain n p e) s = let d = last_digit text n p in omega (arith, d)
signed_last text z (minus magnitude n whole p e) s =
    let d = last_digit magnitude n p in
    let byte : get_or text (length text - 1) 0 ≡ get_or magnitude (length magnitude - 1) 0 = ap (λ (t : List ℕ). get_or t (length t - 1) 0) whole ∙ last_of 45 magnitude p.form.some in
    omega (arith, d, byte)

number_written : (column : List ℕ) (z : ℤ) → residue_number_of column ≡ Some z → IsResidueNumber column z
unfolding residue_number_of
number_written column z e =
    let a = bind_some (signed_by whole_of (trimmed column)) (λ y. cond (is_residue_number y) (Some y) None) z e in
    let s = some_of (is_residue_number a.0) a.0 z a.2 in
    let range = number_in_range a.0 s.0 in
    subst (λ (y : ℤ). IsResidueNumber column y) s.1
    (record { text = trimmed column; padded = padded_found column; number = signed_written WritesWhole whole_of whole_written (trimmed column) a.0 a.1; low = range.0; high = range.1 })

number_read : (column : List ℕ) (z : ℤ) → IsResidueNumber column z → residue_number_of column ≡ Some z
unfolding residue_number_of
number_read column z h =
    let bare : trimmed column ≡ h.text = padded_read column h.text h.padded (signed_first WritesWhole first_digit h.text z h.number) (signed_last h.text z h.number) in
    ap (λ (t : List ℕ). signed_by whole_of t >>= λ y. cond (is_residue_number y) (Some y) None) bare
    ∙ ap (λ (o : Option ℤ). o >>= λ y. cond (is_residue_number y) (Some y) None) (signed_read WritesWhole whole_of whole_read first_digit h.text z h.number)
    ∙ rw (number_is z h.low h.high) refl

-- ---- three columns

three_is : (x y z : ℤ) (v : List ℤ) → ◌≡◌ {A = Option (List ℤ)} (Some (x ∷ y ∷ z ∷ [])) (Some v) → x ∷ y ∷ z ∷ [] ≡ v
three_is x y z v e = cc

-- three columns that are read write their numbers
pub three_written : (decimals : ℕ) (text : List ℕ) (v : List ℤ) → three_columns_of decimals text ≡ Some v → AreColumns decimals text v
unfolding three_columns_of
three_written decimals text v e =
    let x = bind_some (decimal_column_of decimals (slice_range text 0 8)) (λ x. decimal_column_of decimals (slice_range text 8 16) >>= λ y. decimal_column_of decimals (slice_range text 16 24) >>= λ z. Some (x ∷ y ∷ z ∷ [])) v e in
    let y = bind_some (decimal_column_of decimals (slice_range text 8 16)) (λ y. decimal_column_of decimals (slice_range text 16 24) >>= λ z. Some (x.0 ∷ y ∷ z ∷ [])) v x.2 in
    let z = bind_some (decimal_column_of decimals (slice_range text 16 24)) (λ z. Some (x.0 ∷ y.0 ∷ z ∷ [])) v y.2 in
    subst (λ (w : List ℤ). AreColumns decimals text w) (three_is x.0 y.0 z.0 v z.2)
    (column_written decimals (slice_range text 0 8) x.0 x.1, column_written decimals (slice_range text 8 16) y.0 y.1, column_written decimals (slice_range text 16 24) z.0 z.1)

-- three columns that write numbers are read as them
pub three_read : (decimals : ℕ) (text : List ℕ) (v : List ℤ) → AreColumns decimals text v → three_columns_of decimals text ≡ Some v
unfolding three_columns_of
three_read decimals text (x ∷ y ∷ z ∷ []) h =
    ap (λ (o : Option ℤ). o >>= λ a. decimal_column_of decimals (slice_range text 8 16) >>= λ b. decimal_column_of decimals (slice_range text 16 24) >>= λ c. Some (a ∷ b ∷ c ∷ [])) (column_read decimals (slice_range text 0 8) x h.0)
    ∙ ap (λ (o : Option ℤ). o >>= λ b. decimal_column_of decimals (slice_range text 16 24) >>= λ c. Some (x ∷ b ∷ c ∷ [])) (column_read decimals (slice_range text 8 16) y h.1)
    ∙ ap (λ (o : Option ℤ). o >>= λ c. Some (x ∷ y ∷ c ∷ [])) (column_read decimals (slice_range text 16 24) z h.2)
three_read decimals text _ h = absurd h

-- ---- points

-- a column has one point, `decimals` digits before its end
pub record HasPoint (decimals : ℕ) (column : List ℕ) : Type 0 where
  pub front : List ℕ
  pub part : List ℕ
  pub whole : column ≡ front ++ 46 ∷ part
  pub front_lacks : lacks 46 front ≡ true
  pub part_lacks : lacks 46 part ≡ true
  pub part_length : length part ≡ decimals

-- a column that writes a number with n decimals has one point, n digits before its end
pub has_point : (decimals : ℕ) (column : List ℕ) (z : ℤ) → WritesColumn decimals column z → HasPoint decimals column
has_point decimals column z h = at h.number
  where
    at : WritesSigned (WritesDecimal decimals) h.text z → HasPoint decimals column
    at (plain n d e) = record {
      front = replicate h.padded.before 32 ++ d.whole;
      part = d.part;
      whole = h.padded.whole ∙ ap (λ (t : List ℕ). replicate h.padded.before 32 ++ t) d.parts ∙ sym (append_assoc (replicate h.padded.before 32) d.whole (46 ∷ d.part));
      front_lacks = lacks_append 46 (replicate h.padded.before 32) d.whole (copies_lack 46 32 h.padded.before (λ s. omega arith)) (digits_lack_byte 46 d.whole (lit< tt) d.whole_form.digits);
      part_lacks = digits_lack_byte 46 d.part (lit< tt) d.part_digits;
      part_length = d.part_length;
    }
    at (minus magnitude n whole d e) = record {
      front = replicate h.padded.before 32 ++ (45 ∷ d.whole);
      part = d.part;
      whole = h.padded.whole ∙ ap (λ (t : List ℕ). replicate h.padded.before 32 ++ t) (whole ∙ ap (λ (t : List ℕ). 45 ∷ t) d.parts) ∙ sym (append_assoc (replicate h.padded.before 32) (45 ∷ d.whole) (46 ∷ d.part));
      front_lacks = lacks_append 46 (replicate h.padded.before 32) (45 ∷ d.whole) (copies_lack 46 32 h.padded.before (λ s. omega arith)) (digits_lack_byte 46 d.whole (lit< tt) d.whole_form.digits);
      part_lacks = digits_lack_byte 46 d.part (lit< tt) d.part_digits;
      part_length = d.part_length;
    }

points_apart : (a b r : List ℕ) → HasPoint 3 a → HasPoint 3 b → length b ≡ 8 → (split_once 46 (a ++ (b ++ r)) >>= λ first. split_once 46 first.1 >>= λ second. Some (length second.0 + 1)) ≡ Some 8
points_apart a b r p q len =
    let one : a ++ (b ++ r) ≡ p.front ++ 46 ∷ (p.part ++ (b ++ r)) = ap (λ (t : List ℕ). t ++ (b ++ r)) p.whole ∙ append_assoc p.front (46 ∷ p.part) (b ++ r) in
    let two : p.part ++ (b ++ r) ≡ (p.part ++ q.front) ++ 46 ∷ (q.part ++ r) =
    ap (λ (t : List ℕ). p.part ++ (t ++ r)) q.whole ∙ ap (λ (t : List ℕ). p.part ++ t) (append_assoc q.front (46 ∷ q.part) r) ∙ sym (append_assoc p.part q.front (46 ∷ (q.part ++ r))) in
    let cut_one : split_once 46 (a ++ (b ++ r)) ≡ Some (p.front, p.part ++ (b ++ r)) = ap (split_once 46) one ∙ cut_again 46 p.front (p.part ++ (b ++ r)) p.front_lacks in
    let cut_two : split_once 46 (p.part ++ (b ++ r)) ≡ Some (p.part ++ q.front, q.part ++ r) = ap (split_once 46) two ∙ cut_again 46 (p.part ++ q.front) (q.part ++ r) (lacks_append 46 p.part q.front p.part_lacks q.front_lacks) in
    let apart : length (p.part ++ q.front) + 1 ≡ 8 = omega (arith, length-append p.part q.front, p.part_length, q.part_length, len, ap length q.whole, length-append q.front (46 ∷ q.part)) in
    ap (λ (o : Option (List ℕ × List ℕ)). o >>= λ first. split_once 46 first.1 >>= λ second. Some (length second.0 + 1)) cut_one
    ∙ ap (λ (o : Option (List ℕ × List ℕ)). o >>= λ second. Some (length second.0 + 1)) cut_two ∙ ap (λ (n : ℕ). Some n) apart

-- the first two points of positions with three decimals are eight columns apart
pub points_read : (text : List ℕ) (v : List ℤ) → 44 ≤ length text → AreColumns 3 (slice_range text 20 44) v → points_of text ≡ Some 8
unfolding points_of
points_read text (x ∷ y ∷ z ∷ []) long h =
    let tail : List ℕ = drop 20 text in
    let all : List ℕ = take 24 tail in
    let a : List ℕ = take 8 all in
    let b : List ℕ = take 8 (drop 8 all) in
    let r : List ℕ = drop 8 (drop 8 all) in
    let len : length b ≡ 8 = omega (arith, length-take 8 (drop 8 all), length-drop 8 all, length-take 24 tail, length-drop 20 text) in
    let split : all ≡ a ++ (b ++ r) = sym (take-append-drop 8 all) ∙ ap (λ (t : List ℕ). a ++ t) (sym (take-append-drop 8 (drop 8 all))) in
    let whole : tail ≡ a ++ (b ++ (r ++ drop 24 tail)) =
    sym (take-append-drop 24 tail) ∙ ap (λ (t : List ℕ). t ++ drop 24 tail) split ∙ append_assoc a (b ++ r) (drop 24 tail) ∙ ap (λ (t : List ℕ). a ++ t) (append_assoc b r (drop 24 tail)) in
    rw (le-ltb (length text) 20 (omega arith))
    (ap (λ (t : List ℕ). split_once 46 t >>= λ first. split_once 46 first.1 >>= λ second. Some (length second.0 + 1)) whole
    ∙ points_apart a b (r ++ drop 24 tail) (has_point 3 a x h.0) (has_point 3 b y h.1) len)
points_read text _ long h = absurd h

-- ---- the velocity

-- a column is not blank
column_not_blank : (decimals : ℕ) (column : List ℕ) (z : ℤ) → WritesColumn decimals column z → are_spaces column ≡ true → ⊥
column_not_blank decimals column z h e =
    let p = has_point decimals column z h in
    let parts = and_parts (are_spaces p.front) (are_spaces (46 ∷ p.part)) (sym (list_all-append (λ b. eqb b 32) p.front (46 ∷ p.part)) ∙ ap are_spaces (sym p.whole) ∙ e) in
    absurd (let f : false ≡ true = parts.1 in cc)

columns_not_blank : (decimals : ℕ) (tail : List ℕ) (v : List ℤ) → AreColumns decimals tail v → are_spaces tail ≡ true → ⊥
columns_not_blank decimals tail (x ∷ y ∷ z ∷ []) h e =
    let parts = and_parts (are_spaces (take 8 tail)) (are_spaces (drop 8 tail)) (sym (list_all-append (λ b. eqb b 32) (take 8 tail) (drop 8 tail)) ∙ ap are_spaces (take-append-drop 8 tail) ∙ e) in
    column_not_blank decimals (take 8 tail) x h.0 parts.0
columns_not_blank decimals tail _ h e = h

velocity_written : (tail : List ℕ) (v : List ℤ) → velocity_of tail ≡ Some v → IsVelocity tail v
unfolding velocity_of
velocity_written tail v e = at (are_spaces tail) refl (ltb (length tail) 24) refl (are_spaces (drop 24 tail)) refl e
  where
    at : (a : Bool) → are_spaces tail ≡ a → (b : Bool) → ltb (length tail) 24 ≡ b → (d : Bool) → are_spaces (drop 24 tail) ≡ d
        → cond a (Some (pos 0 ∷ pos 0 ∷ pos 0 ∷ [])) (cond b None (cond d (three_columns_of 4 tail) None)) ≡ Some v → IsVelocity tail v
    at true s b t d u f = let same : v ≡ pos 0 ∷ pos 0 ∷ pos 0 ∷ [] = cc in absent s same
    at false s true t d u f = absurd cc
    at false s false t true u f = given (ltb-false (length tail) 24 t) (three_written 4 tail v f) u
    at false s false t false u f = absurd cc

velocity_read : (tail : List ℕ) (v : List ℤ) → IsVelocity tail v → velocity_of tail ≡ Some v
unfolding velocity_of
velocity_read tail v (absent s e) = rw s (ap (λ (w : List ℤ). Some w) (sym e))
velocity_read tail v (given long columns rest) =
    rw (false_from_ne_true (are_spaces tail) (columns_not_blank 4 tail v columns), le-ltb (length tail) 24 long, rest) (three_read 4 tail v columns)

-- ---- the line

atom_is : (x a : AtomView) → ◌≡◌ {A = Option AtomView} (Some x) (Some a) → x ≡ a
atom_is x a e = cc

abbrev made : ℤ → List ℕ → List ℕ → List ℤ → List ℤ → AtomView
made number residue name at velocity = record { number = number; residue = residue; name = name; at = at; velocity = velocity }

abbrev from_at : List ℕ → ℤ → List ℕ → List ℕ → List ℤ → Option AtomView
from_at text number residue name at = velocity_of (drop 44 text) >>= λ velocity. Some (made number residue name at velocity)

abbrev from_name : List ℕ → ℤ → List ℕ → List ℕ → Option AtomView
from_name text number residue name = three_columns_of 3 (slice_range text 20 44) >>= λ at. from_at text number residue name at

abbrev from_residue : List ℕ → ℤ → List ℕ → Option AtomView
from_residue text number residue = name_of (trimmed (slice_range text 10 15)) >>= λ name. from_name text number residue name

abbrev from_number : List ℕ → ℤ → Option AtomView
from_number text number = name_of (trimmed (slice_range text 5 10)) >>= λ residue. from_residue text number residue

-- a printable line with these fields is a line of this atom
pub fields_written : (text : List ℕ) (a : AtomView) → IsTrue (is_printable text) → fields_of text ≡ Some a → IsAtomLine text a
unfolding fields_of
fields_written text a printable e =
    let long = none_or (ltb (length text) 44) (residue_number_of (slice_range text 0 5) >>= λ number. from_number text number) a e in
    let n = bind_some (residue_number_of (slice_range text 0 5)) (λ number. from_number text number) a long.1 in
    let r = bind_some (name_of (trimmed (slice_range text 5 10))) (λ residue. from_residue text n.0 residue) a n.2 in
    let m = bind_some (name_of (trimmed (slice_range text 10 15))) (λ name. from_name text n.0 r.0 name) a r.2 in
    let p = bind_some (three_columns_of 3 (slice_range text 20 44)) (λ at. from_at text n.0 r.0 m.0 at) a m.2 in
    let v = bind_some (velocity_of (drop 44 text)) (λ velocity. Some (made n.0 r.0 m.0 p.0 velocity)) a p.2 in
    subst (λ (x : AtomView). IsAtomLine text x) (atom_is (made n.0 r.0 m.0 p.0 v.0) a v.2)
    (record {
      printable = printable;
      long = ltb-false (length text) 44 long.0;
      number = number_written (slice_range text 0 5) n.0 n.1;
      residue = name_written (slice_range text 5 10) r.0 r.1;
      name = name_written (slice_range text 10 15) m.0 m.1;
      at = three_written 3 (slice_range text 20 44) p.0 p.1;
      velocity = velocity_written (drop 44 text) v.0 v.1;
    })

-- a line of an atom has this atom's fields
pub fields_read : (text : List ℕ) (a : AtomView) → IsAtomLine text a → fields_of text ≡ Some a
unfolding fields_of
fields_read text a h =
    rw (le-ltb (length text) 44 h.long)
    (ap (λ (o : Option ℤ). o >>= λ number. from_number text number) (number_read (slice_range text 0 5) a.number h.number)
    ∙ ap (λ (o : Option (List ℕ)). o >>= λ residue. from_residue text a.number residue) (name_read (slice_range text 5 10) a.residue h.residue)
    ∙ ap (λ (o : Option (List ℕ)). o >>= λ name. from_name text a.number a.residue name) (name_read (slice_range text 10 15) a.name h.name)
    ∙ ap (λ (o : Option (List ℤ)). o >>= λ at. from_at text a.number a.residue a.name at) (three_read 3 (slice_range text 20 44) a.at h.at)
    ∙ ap (λ (o : Option (List ℤ)). o >>= λ velocity. Some (made a.number a.residue a.name a.at velocity)) (velocity_read (drop 44 text) a.velocity h.velocity))
