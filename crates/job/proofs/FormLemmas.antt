-- Laws of the forms of names.
use Rattle.std.proofs.Common.{◌≡◌, ℕ, nat_le, ◌<◌, ◌≤◌, Bool, true, ◌&&◌, ◌||◌, List, Some, None, not, get_or, ◌==◌, ◌-◌, [], ◌∷◌, length, map, IsAscii, bytes_eq, refl, ap, sym, ◌∙◌, arith}
use Rattle.std.proofs.lemmas.Bool.{and_parts, and_from, or_right, cond-true, leb-true, le-leb, ne_eqb}
use Rattle.std.proofs.lemmas.List.Sums.{AllPass-from_list_all, list_all-from_AllPass}
use Rattle.std.specs.List.{list_all, list_any}
use Rattle.line_text.specs.Parts.{name_of, is_name, is_printable, has_clean_ends}
use Rattle.line_text.proofs.IdentifierLaws.{ascii_all}
use Rattle.job.specs.Forms.{is_graphic, is_type_name}
use Rattle.job.specs.Faults.{knows}

graphic_small : (b : ℕ) → is_graphic b ≡ true → b < 128
graphic_small b e = grind arith

-- a type's name is ASCII
pub ascii_type_name : (name : List ℕ) → is_type_name name ≡ true → IsAscii name
unfolding is_type_name
ascii_type_name name e = ascii_all is_graphic graphic_small name (and_parts (nat_le 1 (length name) && nat_le (length name) 5) (list_all is_graphic name) e).1

knows_map : {X : Type 0} (f : X → List ℕ) (xs : List X) (name : List ℕ) → list_any (λ x. bytes_eq (f x) name) xs ≡ knows (map f xs) name
knows_map f [] name = refl
knows_map f (x ∷ xs) name = ap (λ (b : Bool). bytes_eq (f x) name || b) (knows_map f xs name)

knows_through : {X Y : Type 0} (h : X → Y) (f : Y → List ℕ) (xs : List X) (name : List ℕ) → list_any (λ x. bytes_eq (f (h x)) name) xs ≡ knows (map f (map h xs)) name
knows_through h f [] name = refl
knows_through h f (x ∷ xs) name = ap (λ (b : Bool). bytes_eq (f (h x)) name || b) (knows_through h f xs name)

-- the result of a search of a list of the code's values
pub known_is : {X : Type 0} (f : X → List ℕ) (xs ys : List X) (name : List ℕ) (r b : Bool) → ys ≡ xs → r ≡ list_any (λ x. bytes_eq (f x) name) ys → r ≡ b → knows (map f xs) name ≡ b
known_is f xs ys name r b e h v = sym (knows_map f xs name) ∙ ap (list_any (λ x. bytes_eq (f x) name)) (sym e) ∙ sym h ∙ v

-- a search by name in a list of the code's values returns whether the name is known
pub known_through : {X Y : Type 0} (view : X → Y) (f : Y → List ℕ) (xs ys : List X) (name : List ℕ) (r b : Bool) → ys ≡ xs → r ≡ list_any (λ x. bytes_eq (f (view x)) name) ys → r ≡ b
    → knows (map f (map view xs)) name ≡ b
known_through view f xs ys name r b e h v = sym (knows_through view f xs name) ∙ ap (list_any (λ x. bytes_eq (f (view x)) name)) (sym e) ∙ sym h ∙ v

graphic_no_blank : (b : ℕ) → is_graphic b ≡ true → not (b == 32) ≡ true
graphic_no_blank b e = rw (ne_eqb b 32 (λ (h : b ≡ 32). absurd (omega (arith, h, leb-true 33 b (and_parts (nat_le 33 b) (nat_le b 126) e).0)))) refl

graphic_printable : (b : ℕ) → is_graphic b ≡ true → (nat_le 32 b && nat_le b 126) ≡ true
graphic_printable b e =
    let p = and_parts (nat_le 33 b) (nat_le b 126) e in
    and_from (nat_le 32 b) (nat_le b 126) (le-leb 32 b (omega (arith, leb-true 33 b p.0))) p.1

-- a type's name is a name without blanks
pub type_name_is : (name : List ℕ) → is_type_name name ≡ true → name_of name ≡ Some name
unfolding is_type_name name_of
type_name_is name e =
    let p = and_parts (nat_le 1 (length name) && nat_le (length name) 5) (list_all is_graphic name) e in
    let q = and_parts (nat_le 1 (length name)) (nat_le (length name) 5) p.0 in
    let some : 1 ≤ length name = leb-true 1 (length name) q.0 in
    let each = AllPass-from_list_all is_graphic name p.1 in
    let printable : is_printable name ≡ true = list_all-from_AllPass (λ b. nat_le 32 b && nat_le b 126) name (λ k d lt. graphic_printable (get_or name k d) (each k d lt)) in
    let first : not (get_or name 0 0 == 32) ≡ true = graphic_no_blank (get_or name 0 0) (each 0 0 (omega arith)) in
    let last : not (get_or name (length name - 1) 0 == 32) ≡ true = graphic_no_blank (get_or name (length name - 1) 0) (each (length name - 1) 0 (omega arith)) in
    let clean : has_clean_ends name ≡ true = or_right (length name == 0) _ (and_from _ _ first last) in
    cond-true (is_name name) (Some name) None (and_from (nat_le (length name) 5 && is_printable name) (has_clean_ends name) (and_from (nat_le (length name) 5) (is_printable name) q.1 printable) clean)
