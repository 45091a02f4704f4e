-- Lists whose elements are taken in turn: they have the same elements, and views of them.
use Rattle.std.proofs.Common.{◌≡◌, ℕ, zero, suc, ◌+◌, ◌/◌, ◌≤◌, List, [], ◌∷◌, ◌++◌, length, map, take, drop, refl, subst, sym, ap, ◌∙◌, add-one, append-nil, IsPermutation, take-add}
use Rattle.std.proofs.lemmas.List.{drop-map, length-map, take-append-drop, take-map, take_all}
use Rattle.std.proofs.lemmas.List.Sorted.{IsPermutation-append, IsPermutation-cons, IsPermutation-middle, IsPermutation-refl, IsPermutation-trans}
use Rattle.cell_tiles.specs.Tiles.{by_halves, by_quarters, in_turn}

module _ {T : Type 0} where
  nil-turn : (ys : List T) → in_turn [] ys ≡ ys
  unfolding in_turn
  nil-turn ys = refl

  cons-turn-nil : (x : T) (xs : List T) → in_turn (x ∷ xs) [] ≡ x ∷ xs
  unfolding in_turn
  cons-turn-nil x xs = refl

  cons-turn-cons : (x y : T) (xs ys : List T) → in_turn (x ∷ xs) (y ∷ ys) ≡ x ∷ y ∷ in_turn xs ys
  unfolding in_turn
  cons-turn-cons x y xs ys = refl

  -- ---- one step more

  -- before the first step there is no element
  pub turn_none : (xs ys us : List T) → us ≡ [] → us ≡ in_turn (take 0 xs) (take 0 ys)
  turn_none xs ys us e = e ∙ sym (nil-turn [])

  take_suc : (k : ℕ) (xs : List T) → take (suc k) xs ≡ take k xs ++ take 1 (drop k xs)
  take_suc k xs = ap (λ n. take n xs) (sym (add-one k)) ∙ take-add k 1 xs

  turn_suc : (k : ℕ) (xs ys : List T) → in_turn (take (suc k) xs) (take (suc k) ys) ≡ (in_turn (take k xs) (take k ys) ++ take 1 (drop k xs)) ++ take 1 (drop k ys)
  unfolding in_turn
  turn_suc zero [] [] = refl
  turn_suc zero [] (y ∷ ys) = refl
  turn_suc zero (x ∷ xs) [] = refl
  turn_suc zero (x ∷ xs) (y ∷ ys) = refl
  turn_suc (suc k) [] [] = refl
  turn_suc (suc k) [] (y ∷ ys) = ap (λ us. y ∷ us) (take_suc k ys ∙ ap (λ us. us ++ take 1 (drop k ys)) (sym (append-nil (take k ys))))
  turn_suc (suc k) (x ∷ xs) [] = ap (λ us. x ∷ us) (take_suc k xs ∙ sym (append-nil (take k xs ++ take 1 (drop k xs))))
  turn_suc (suc k) (x ∷ xs) (y ∷ ys) = ap (λ us. x ∷ y ∷ us) (turn_suc k xs ys)

  -- a step takes one element of each list, if there is one
  pub turn_more : (k : ℕ) (xs ys old one two : List T) → old ≡ in_turn (take k xs) (take k ys) → one ≡ old ++ take 1 (drop k xs) → two ≡ one ++ take 1 (drop k ys) → two ≡ in_turn (take (k + 1) xs) (take (k + 1) ys)
  turn_more k xs ys old one two before x y =
      y ∙ (ap (λ us. us ++ take 1 (drop k ys)) (x ∙ ap (λ us. us ++ take 1 (drop k xs)) before) ∙ (sym (turn_suc k xs ys) ∙ ap (λ n. in_turn (take n xs) (take n ys)) (sym (add-one k))))

  -- after as many steps as the longer list has elements, all are taken
  pub turn_all : (k : ℕ) (xs ys us : List T) → length xs ≤ k → length ys ≤ k → us ≡ in_turn (take k xs) (take k ys) → us ≡ in_turn xs ys
  turn_all k xs ys us p q e = e ∙ rw (take_all k xs p, take_all k ys q) refl

  -- ---- the elements

  turn_moves : (xs ys : List T) → IsPermutation (xs ++ ys) (in_turn xs ys)
  turn_moves [] ys = rw (nil-turn ys) (IsPermutation-refl ys)
  turn_moves (x ∷ xs) [] = rw (append-nil (x ∷ xs), cons-turn-nil x xs) (IsPermutation-refl (x ∷ xs))
  turn_moves (x ∷ xs) (y ∷ ys) =
      rw (cons-turn-cons x y xs ys)
      (IsPermutation-cons x (xs ++ y ∷ ys) (y ∷ in_turn xs ys)
      (IsPermutation-trans (xs ++ y ∷ ys) (y ∷ (xs ++ ys)) (y ∷ in_turn xs ys) (IsPermutation-middle xs y ys) (IsPermutation-cons y (xs ++ ys) (in_turn xs ys) (turn_moves xs ys))))

  halves_move : (xs : List T) → IsPermutation xs (by_halves xs)
  halves_move xs =
      let h = length xs / 2 in
      subst (λ us. IsPermutation us (by_halves xs)) (take-append-drop h xs) (turn_moves (take h xs) (drop h xs))

  -- the quarters in turn have the elements of the list
  pub quarters_move : (xs : List T) → IsPermutation xs (by_quarters xs)
  quarters_move xs =
      let h = length xs / 2 in
      let one = by_halves (take h xs) in
      let two = by_halves (drop h xs) in
      subst (λ us. IsPermutation us (by_quarters xs)) (take-append-drop h xs)
      (IsPermutation-trans (take h xs ++ drop h xs) (one ++ two) (by_quarters xs)
      (IsPermutation-append (take h xs) one (drop h xs) two (halves_move (take h xs)) (halves_move (drop h xs))) (turn_moves one two))

module _ {S T : Type 0} (f : S → T) where
  map_turn : (xs ys : List S) → map f (in_turn xs ys) ≡ in_turn (map f xs) (map f ys)
  map_turn [] ys = ap (map f) (nil-turn ys) ∙ sym (nil-turn (map f ys))
  map_turn (x ∷ xs) [] = ap (map f) (cons-turn-nil x xs) ∙ sym (cons-turn-nil (f x) (map f xs))
  map_turn (x ∷ xs) (y ∷ ys) =
      ap (map f) (cons-turn-cons x y xs ys) ∙ ap (λ us. f x ∷ f y ∷ us) (map_turn xs ys) ∙ sym (cons-turn-cons (f x) (f y) (map f xs) (map f ys))

  map_halves : (xs : List S) → map f (by_halves xs) ≡ by_halves (map f xs)
  map_halves xs =
      let long : length (map f xs) ≡ length xs = length-map xs f in
      map_turn (take (length xs / 2) xs) (drop (length xs / 2) xs)
      ∙ rw (long, take-map f (length xs / 2) xs, drop-map f (length xs / 2) xs) refl

  -- the view of the quarters in turn is the quarters of the view in turn
  pub map_quarters : (xs : List S) → map f (by_quarters xs) ≡ by_quarters (map f xs)
  map_quarters xs =
      let h = length xs / 2 in
      let first : map f (by_halves (take h xs)) ≡ by_halves (take h (map f xs)) = map_halves (take h xs) ∙ ap by_halves (sym (take-map f h xs)) in
      let second : map f (by_halves (drop h xs)) ≡ by_halves (drop h (map f xs)) = map_halves (drop h xs) ∙ ap by_halves (sym (drop-map f h xs)) in
      let there : map f (by_quarters xs) ≡ in_turn (map f (by_halves (take h xs))) (map f (by_halves (drop h xs))) = map_turn (by_halves (take h xs)) (by_halves (drop h xs)) in
      there ∙ (λ i. in_turn (first i) (second i)) ∙ ap (λ n. in_turn (by_halves (take (n / 2) (map f xs))) (by_halves (drop (n / 2) (map f xs)))) (sym (length-map xs f))
