-- The input at a variable's number is the variable's value.
use Rattle.std.proofs.Common.{◌≡◌, ℕ, zero, suc, ◌+◌, ℤ, Bool, true, false, ◌||◌, if◌then◌else◌, List, [], ◌∷◌, ◌++◌, length, slice_get, position, Option, Some, None, Result, Ok, Err, codes, option_map, refl, sym, ap, ◌∙◌, subst, arith}
use Rattle.std.specs.List.{list_any, position_or_len}
use Rattle.std.specs.Str.{bytes_eq}
use Rattle.std.proofs.lemmas.Slice.Eq.{bytes_eq-Decides}
use Rattle.std.proofs.lemmas.Bool.{lt-ltb, or_parts}
use Rattle.std.proofs.lemmas.List.{length-map}
use Rattle.std.proofs.lemmas.Option.{slice_get-map, slice_get_within}
use Rattle.energy_program.specs.Faults.{Refusal, RepeatedDefinition, ReservedName, TooLarge}
use Rattle.energy_program.specs.Names.{are_few, first_clash, first_particle, first_repeated, is_among, is_reserved, names_from, parameters_and_globals, refused_for, second_particle, variables_of}
use Rattle.kernel_code.specs.Tables.{row_of}
use Rattle.potential.specs.InputNames.{HaveNames, InputsHaveNames, StandsFor}

-- ---- lists one after the other

get_left : {X : Type 0} (xs ys : List X) (k : ℕ) (x : X) → slice_get xs k ≡ Some x → slice_get (xs ++ ys) k ≡ Some x
get_left [] ys k x e = absurd (cc)
get_left (w ∷ ws) ys zero x e = e
get_left (w ∷ ws) ys (suc k) x e = get_left ws ys k x e

get_right : {X : Type 0} (xs ys : List X) (n k : ℕ) → n ≡ length xs → slice_get (xs ++ ys) (n + k) ≡ slice_get ys k
get_right [] ys n k e =
    let same : n + k ≡ k = omega arith in
    ap (slice_get ys) same
get_right (w ∷ ws) ys n k e =
    let same : n + k ≡ suc (length ws + k) = omega arith in
    ap (slice_get (w ∷ (ws ++ ys))) same ∙ get_right ws ys (length ws) k refl

-- ---- the number of a variable

-- if no variable clashes, the first variable doesn't clash and neither do the others
pub no_more : (b : Bool) (w : List ℕ) (rest : Option (List ℕ)) → (if b then Some w else rest) ≡ None → (b ≡ false) × (rest ≡ None)
no_more true w rest e = absurd (cc)
no_more false w rest e = (refl, e)

any_parts : (p : List ℕ → Bool) (xs : List (List ℕ)) (w : List ℕ) → list_any p (xs ++ w ∷ []) ≡ false → (list_any p xs ≡ false) × (p w ≡ false)
any_parts p [] w e = (refl, (or_parts (p w) false e).0)
any_parts p (x ∷ xs) w e =
    let parts = or_parts (p x) (list_any p (xs ++ w ∷ [])) e in
    let rest = any_parts p xs w parts.1 in
    (rw (parts.0, rest.0) refl, rest.1)

-- if no variable clashes, a variable's name isn't taken before, and its first position is its index
index_of_name : (taken vs : List (List ℕ)) (k : ℕ) (v : List ℕ) → first_clash taken vs ≡ None → slice_get vs k ≡ Some v
    → (list_any (bytes_eq v) taken ≡ false) × (position_or_len (bytes_eq v) vs ≡ k)
index_of_name taken [] k v free e = absurd (cc)
index_of_name taken (w ∷ ws) zero v free e =
    let same : w ≡ v = cc in
    let parts = no_more (is_reserved w || is_among taken w) w (first_clash (taken ++ w ∷ []) ws) free in
    let other : list_any (bytes_eq w) taken ≡ false = (or_parts (is_reserved w) (is_among taken w) parts.0).1 in
    (subst (λ u. list_any (bytes_eq u) taken ≡ false) same other, rw ((bytes_eq-Decides v w).1 (sym same)) refl)
index_of_name taken (w ∷ ws) (suc k) v free e =
    let parts = no_more (is_reserved w || is_among taken w) w (first_clash (taken ++ w ∷ []) ws) free in
    let rest = index_of_name (taken ++ w ∷ []) ws k v parts.1 e in
    let apart = any_parts (bytes_eq v) taken w rest.0 in
    let next : 1 + k ≡ suc k = omega arith in
    (apart.0, rw (apart.1, rest.1) next)

number : (p : List ℕ → Bool) (vs : List (List ℕ)) (k : ℕ) (v : List ℕ) → position_or_len p vs ≡ k → slice_get vs k ≡ Some v → position p vs ≡ Some k
number p vs k v is e = rw (is, lt-ltb k (length vs) (slice_get_within vs k v e)) refl

-- the names of variables, and values in the same order
module _ (vs : List (List ℕ)) (xs : List ℤ) (r : ℤ) (free : first_clash (codes "r" ∷ []) vs ≡ None) where
  distance_stands : StandsFor (codes "r" ∷ vs) (r ∷ xs) (codes "r") r
  distance_stands = (0, number (bytes_eq (codes "r")) (codes "r" ∷ vs) 0 (codes "r") refl refl, refl)

  stands : (k : ℕ) (v : List ℕ) (z : ℤ) → slice_get vs k ≡ Some v → slice_get xs k ≡ Some z → StandsFor (codes "r" ∷ vs) (r ∷ xs) v z
  stands k v z named valued =
      let at = index_of_name (codes "r" ∷ []) vs k v free named in
      let other : bytes_eq v (codes "r") ≡ false = (or_parts (bytes_eq v (codes "r")) false at.0).0 in
      let next : 1 + k ≡ suc k = omega arith in
      let is : position_or_len (bytes_eq v) (codes "r" ∷ vs) ≡ suc k = rw (other, at.1) next in
      (suc k, number (bytes_eq v) (codes "r" ∷ vs) (suc k) v is named, valued)

-- ---- which names are variables'

allowed : {A : Type 0} (why : List ℕ → Refusal) (o : Option (List ℕ)) (otherwise : Result A Refusal) (x : A) → refused_for why o otherwise ≡ Ok x
    → (o ≡ None) × (otherwise ≡ Ok x)
allowed why None otherwise x e = (refl, e)
allowed why (Some n) otherwise x e = absurd (cc)

few : {A : Type 0} (b : Bool) (r : Result A Refusal) (x : A) → (if b then r else Err TooLarge) ≡ Ok x → r ≡ Ok x
few true r x e = e
few false r x e = absurd (cc)

-- if names are accepted as a program's variables, each name differs from the distance's and from earlier names
pub are_variables : (parameters globals variables : List (List ℕ)) → names_from parameters globals ≡ Ok variables
    → (first_clash (codes "r" ∷ []) (parameters_and_globals parameters globals) ≡ None) × (variables_of parameters globals ≡ variables)
unfolding names_from
are_variables parameters globals variables e =
    let one = allowed RepeatedDefinition (first_repeated parameters) _ variables (few (are_few parameters globals) _ variables e) in
    let two = allowed RepeatedDefinition (first_repeated globals) _ variables one.1 in
    let three = allowed ReservedName (first_clash (codes "r" ∷ []) (parameters_and_globals parameters globals)) (Ok (variables_of parameters globals)) variables two.1 in
    (three.0, same (variables_of parameters globals) variables three.1)
  where
    same : (x y : List (List ℕ)) → ◌≡◌ {A = Result (List (List ℕ)) Refusal} (Ok x) (Ok y) → x ≡ y
    same x y h = cc

-- ---- both orders

module _ (parameters globals : List (List ℕ)) (row_a row_b values : List ℤ) (r : ℤ) (free : first_clash (codes "r" ∷ []) (parameters_and_globals parameters globals) ≡ None)
    (long_a : length row_a ≡ length parameters) (long_b : length row_b ≡ length parameters) where
  abbrev names : List (List ℕ)
  names = parameters_and_globals parameters globals

  abbrev inputs : List ℤ
  inputs = row_a ++ (row_b ++ values)

  first_named : (k : ℕ) (p : List ℕ) (z : ℤ) → slice_get parameters k ≡ Some p → slice_get row_a k ≡ Some z → StandsFor (codes "r" ∷ names) (r ∷ inputs) (p ++ codes "1") z
  first_named k p z named valued =
      stands names inputs r free k (p ++ codes "1") z
      (get_left (first_particle parameters) (second_particle parameters ++ globals) k (p ++ codes "1")
      (slice_get-map (λ n. n ++ codes "1") parameters k ∙ ap (option_map (λ n. n ++ codes "1")) named))
      (get_left row_a (row_b ++ values) k z valued)

  second_named : (k : ℕ) (p : List ℕ) (z : ℤ) → slice_get parameters k ≡ Some p → slice_get row_b k ≡ Some z → StandsFor (codes "r" ∷ names) (r ∷ inputs) (p ++ codes "2") z
  second_named k p z named valued =
      let count : length parameters ≡ length (first_particle parameters) = sym (length-map parameters (λ n. n ++ codes "1")) in
      stands names inputs r free (length parameters + k) (p ++ codes "2") z
      (get_right (first_particle parameters) (second_particle parameters ++ globals) (length parameters) k count
      ∙ get_left (second_particle parameters) globals k (p ++ codes "2")
      (slice_get-map (λ n. n ++ codes "2") parameters k ∙ ap (option_map (λ n. n ++ codes "2")) named))
      (get_right row_a (row_b ++ values) (length parameters) k (sym long_a) ∙ get_left row_b values k z valued)

  global_named : (k : ℕ) (g : List ℕ) (z : ℤ) → slice_get globals k ≡ Some g → slice_get values k ≡ Some z → StandsFor (codes "r" ∷ names) (r ∷ inputs) g z
  global_named k g z named valued =
      let count : length parameters ≡ length (first_particle parameters) = sym (length-map parameters (λ n. n ++ codes "1")) in
      let count2 : length parameters ≡ length (second_particle parameters) = sym (length-map parameters (λ n. n ++ codes "2")) in
      stands names inputs r free (length parameters + (length parameters + k)) g z
      (get_right (first_particle parameters) (second_particle parameters ++ globals) (length parameters) (length parameters + k) count
      ∙ get_right (second_particle parameters) globals (length parameters) k count2 ∙ named)
      (get_right row_a (row_b ++ values) (length parameters) (length parameters + k) (sym long_a)
      ∙ get_right row_b values (length parameters) k (sym long_b) ∙ valued)

-- the input at each variable's number is the variable's value
pub inputs_have_names : InputsHaveNames
inputs_have_names parameters globals variables e t h long long_globals a b within_a within_b r =
    let known = are_variables parameters globals variables e in
    let long_a : length (row_of t a) ≡ length parameters = h.rows_whole a [] within_a ∙ sym long in
    let long_b : length (row_of t b) ≡ length parameters = h.rows_whole b [] within_b ∙ sym long in
    subst (λ vs. HaveNames parameters globals vs t a b r) known.1
    (record {
      distance = distance_stands (parameters_and_globals parameters globals) (row_of t a ++ (row_of t b ++ t.globals)) r known.0;
      first = first_named parameters globals (row_of t a) (row_of t b) t.globals r known.0 long_a long_b;
      second = second_named parameters globals (row_of t a) (row_of t b) t.globals r known.0 long_a long_b;
      global = global_named parameters globals (row_of t a) (row_of t b) t.globals r known.0 long_a long_b;
    })
