-- A list of lists, known by the view of each element.
use Rattle.std.proofs.Common.{◌≡◌, ℕ, ◌+◌, ◌<◌, ◌≤◌, List, [], ◌∷◌, ◌++◌, length, map, get_or, set, take, replicate, Result, Ok, Err, sym, ap, subst, ◌∙◌, arith, OnErr, All}
use Rattle.std.proofs.lemmas.List.{get_or-map, length-map, length-replicate, map-set, replicate_more, set-get_or, take_more_set}
use Rattle.std.proofs.lemmas.List.Elements.{All-get_or, All-replicate, All-same}

module _ {T E : Type 0} (view : T → List E) where
  -- one list more is cleared
  pub cleared_more : (xs : List T) (i : ℕ) (y : T) → view y ≡ [] → i < length xs → take i (map view xs) ≡ replicate i [] → take (i + 1) (map view (set xs i y)) ≡ replicate (i + 1) []
  cleared_more xs i y e lt h =
      let l : length (map view xs) ≡ length xs = length-map xs view in
      ap (take (i + 1)) (map-set view xs i y)
      ∙ (take_more_set (map view xs) i (view y) (omega arith)
      ∙ (ap (λ z. take i (map view xs) ++ z ∷ []) e
      ∙ (ap (λ zs. zs ++ [] ∷ []) h ∙ replicate_more i [])))

  -- a list extended by one element is extended in the views, too
  pub put_one : (xs : List T) (i : ℕ) (a : E) (x y : T) → i < length xs → x ≡ get_or xs i x → view y ≡ view x ++ a ∷ [] → map view (set xs i y) ≡ set (map view xs) i (get_or (map view xs) i [] ++ a ∷ [])
  put_one xs i a x y lt r e =
      let here : get_or (map view xs) i [] ≡ view x = get_or-map view xs i x [] lt ∙ ap view (sym r) in
      map-set view xs i y ∙ ap (set (map view xs) i) (e ∙ ap (λ zs. zs ++ a ∷ []) (sym here))

  -- a list that stays
  pub put_none : (xs : List T) (i : ℕ) (x y : T) → i < length xs → x ≡ get_or xs i x → view y ≡ view x → map view (set xs i y) ≡ map view xs
  put_none xs i x y lt r e =
      let here : view y ≡ get_or (map view xs) i [] = e ∙ sym (get_or-map view xs i x [] lt ∙ ap view (sym r)) in
      map-set view xs i y ∙ (ap (set (map view xs) i) here ∙ set-get_or (map view xs) i [])

  -- there are n lists if there are n views
  pub length_seen : (xs : List T) (ms : List (List E)) (n : ℕ) → map view xs ≡ ms → length ms ≡ n → length xs ≡ n
  length_seen xs ms n e l = sym (length-map xs view) ∙ (ap length e ∙ l)

  -- if a property holds for each view, it holds for the view of each list
  pub all_seen : (P : List E → Type 0) (xs : List T) (ms : List (List E)) → map view xs ≡ ms → All P ms → All (λ x. P (view x)) xs
  all_seen P xs ms e all k d lt =
      let l : length (map view xs) ≡ length xs = length-map xs view in
      subst P (get_or-map view xs k d [] lt) (All-get_or P (map view xs) k [] (omega arith) (All-same P (map view xs) ms e all))

  -- if the views are n empty lists, there are n lists, and none is longer than any bound
  pub length_empty : (xs : List T) (n : ℕ) → map view xs ≡ replicate n [] → length xs ≡ n
  length_empty xs n e = length_seen xs (replicate n []) n e (length-replicate n [])

  pub few_empty : (xs : List T) (n m : ℕ) → map view xs ≡ replicate n [] → All (λ x. length (view x) ≤ m) xs
  few_empty xs n m e = all_seen (λ z. length z ≤ m) xs (replicate n []) e (All-replicate (λ z. length z ≤ m) n [] (omega arith))

-- a fact that holds in any case also holds if the result is a failure
pub on_err : {A E P : Type 0} (r : Result A E) → P → OnErr r P
on_err (Ok x) p = tt
on_err (Err e) p = p
