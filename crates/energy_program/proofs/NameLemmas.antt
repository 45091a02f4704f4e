-- Tests and indices of names, seen through the lists that hold them; and how a program's variables come together.
use Rattle.std.proofs.Common.{◌≡◌, ℕ, Bool, true, false, cond, not, ◌||◌, if◌then◌else◌, List, [], ◌∷◌, ◌++◌, ◌+◌, length, map, position, Option, Some, None, IsSomeAnd, Result, Ok, Err, refl, ap, sym, ◌∙◌, append_assoc, true≢false, codes, get_or, drop, ◌<◌, ◌≤◌, ◌-◌, ◌*◌, take, take_all, arith}
use Rattle.std.proofs.Common.{Vec}
use Rattle.std.specs.List.{list_any, position_or_len}
use Rattle.std.specs.Str.{bytes_eq}
use Rattle.std.proofs.lemmas.List.{append-nil, length-append, length-map, map-append}
use Rattle.std.proofs.lemmas.Simd.{map-map}
use Rattle.std.proofs.lemmas.Bool.{le-leb, lt-leb}
use Rattle.std.proofs.Math.Bool.{and-false}
use native.Mathlib.Numerals.{unary_clauses}
use Rattle.indexmap.specs.IndexSet.{insert_key}
use Rattle.fallible.specs.declared.failure.Failure.{Failure}
use Rattle.energy_program.specs.declared.faults.ExprFault.{ExprFault}
use Rattle.line_text.specs.Steps.{◌>>=◌}
use Rattle.energy_program.specs.Faults.{Refusal, RepeatedDefinition, ReservedName, TooLarge, IsFaultOrMemory, Fails}
use Rattle.energy_program.specs.Names.{are_few, first_clash, first_repeated, is_among, first_particle, second_particle, is_reserved, names_from, parameters_and_globals, refused_for, variables_of}
use Rattle.energy_program.specs.Variables.{added, filled}
use Rattle.energy_program.proofs.FaultLaws.{fails_says, fails_then}

module _ {X Y : Type 0} (p : Y → Bool) (h : X → Y) where
  -- a test passes some element of the images if and only if it passes the image of some element
  pub list_any-map : (xs : List X) → list_any p (map h xs) ≡ list_any (λ x. p (h x)) xs
  list_any-map [] = refl
  list_any-map (x ∷ xs) = ap (λ b. p (h x) || b) (list_any-map xs)

  position_or_len-map : (xs : List X) → position_or_len p (map h xs) ≡ position_or_len (λ x. p (h x)) xs
  position_or_len-map [] = refl
  position_or_len-map (x ∷ xs) = ap (λ n. cond (not (p (h x))) (1 + n) 0) (position_or_len-map xs)

  -- the index of the first image that passes is the index of the first element whose image passes
  pub position-map : (xs : List X) → position p (map h xs) ≡ position (λ x. p (h x)) xs
  position-map xs = simp (position_or_len-map xs, length-map xs h)

-- the first repeated name, by whether the first name of the list is repeated
module _ {X : Type 0} (h : X → List ℕ) where
  abbrev behind : List X → List X
  behind names = take (length names - 1) (drop 1 names)

  all_behind : (x : X) (xs : List X) → behind (x ∷ xs) ≡ xs
  all_behind x xs = simp unary_clauses (take_all (length xs) xs (omega arith))

  -- the first repeated name is the first name if it occurs again, else the first repeated name of the rest
  pub repeated_next : (names : List X) (d : X) (b : Bool) → 1 ≤ length names → b ≡ list_any (λ m. bytes_eq (h (get_or names 0 d)) (h m)) (behind names)
      → first_repeated (map h names) ≡ (if b then Some (h (get_or names 0 d)) else first_repeated (map h (behind names)))
  repeated_next [] d b within e = absurd (omega arith)
  repeated_next (x ∷ xs) d b within e =
      ap (λ t. if t then Some (h x) else first_repeated (map h xs)) (list_any-map (bytes_eq (h x)) h xs ∙ ap (list_any (λ m. bytes_eq (h x) (h m))) (sym (all_behind x xs)) ∙ sym e)
      ∙ ap (λ l. if b then Some (h x) else first_repeated (map h l)) (sym (all_behind x xs))

module _ {A : Type 0} (keys : List (Vec ℕ A)) (v : Vec ℕ A) (name : List ℕ) (named : v.items ≡ name) (free : is_reserved name ≡ false) where
  -- a name that isn't reserved is taken if and only if a key has its bytes
  tested : (b : Bool) → list_any (λ k. bytes_eq v.items k.items) keys ≡ b → (is_reserved name || is_among (map (λ k. k.items) keys) name) ≡ b
  tested b e = ap (λ o. o || is_among (map (λ k. k.items) keys) name) free ∙ list_any-map (bytes_eq name) (λ k. k.items) keys ∙ ap (λ n. list_any (λ k. bytes_eq n k.items) keys) (sym named) ∙ e

  -- a name that is inserted as a new key is appended to the variables
  pub added_new : (new : List (Vec ℕ A)) → not (list_any (λ k. bytes_eq v.items k.items) keys) ≡ true → new ≡ insert_key (λ x y. bytes_eq x.items y.items) keys v
      → added (map (λ k. k.items) keys) name ≡ Ok (map (λ k. k.items) new)
  added_new new fresh is = by (list_any (λ k. bytes_eq v.items k.items) keys) refl
    where
      by : (b : Bool) → list_any (λ k. bytes_eq v.items k.items) keys ≡ b → added (map (λ k. k.items) keys) name ≡ Ok (map (λ k. k.items) new)
      by true e = absurd (true≢false (sym fresh ∙ ap not e))
      by false e =
          ap (λ b. if b then Err (ReservedName name) else Ok (map (λ k. k.items) keys ++ name ∷ [])) (tested false e)
          ∙ ap (λ n. Ok (map (λ k. k.items) keys ++ n ∷ [])) (sym named)
          ∙ ap Ok (sym (map-append (λ k. k.items) keys (v ∷ [])))
          ∙ ap (λ l. Ok (map (λ k. k.items) l)) (sym (is ∙ ap (λ b. if b then keys else keys ++ v ∷ []) e))

  -- a name that isn't a new key is refused as reserved
  pub added_taken : not (list_any (λ k. bytes_eq v.items k.items) keys) ≡ false → added (map (λ k. k.items) keys) name ≡ Err (ReservedName name)
  added_taken known = by (list_any (λ k. bytes_eq v.items k.items) keys) refl
    where
      by : (b : Bool) → list_any (λ k. bytes_eq v.items k.items) keys ≡ b → added (map (λ k. k.items) keys) name ≡ Err (ReservedName name)
      by true e = ap (λ b. if b then Err (ReservedName name) else Ok (map (λ k. k.items) keys ++ name ∷ [])) (tested true e)
      by false e = absurd (true≢false (sym (ap not e) ∙ known))

-- a name that is inserted into a set without names is its only name
pub first_in : {A : Type 0} (keys new : List (Vec ℕ A)) (v : Vec ℕ A) (name : List ℕ) → map (λ k. k.items) keys ≡ [] → v.items ≡ name → new ≡ insert_key (λ x y. bytes_eq x.items y.items) keys v
    → map (λ k. k.items) new ≡ name ∷ []
first_in [] new v name none named is = ap (map (λ k. k.items)) is ∙ ap (λ n. n ∷ []) named
first_in (k ∷ keys) new v name none named is = absurd cc

-- Variables added one by one: all of them, unless one's name is reserved or taken.
module _ (v : List ℕ) (names vs : List (List ℕ)) where
  joined : (b : Bool) → filled (names ++ v ∷ []) vs ≡ refused_for ReservedName (first_clash (names ++ v ∷ []) vs) (Ok ((names ++ v ∷ []) ++ vs))
      → ((if b then Err (ReservedName v) else Ok (names ++ v ∷ [])) >>= λ more. filled more vs)
      ≡ refused_for ReservedName (if b then Some v else first_clash (names ++ v ∷ []) vs) (Ok (names ++ v ∷ vs))
  joined true rest = refl
  joined false rest = rest ∙ ap (λ l. refused_for ReservedName (first_clash (names ++ v ∷ []) vs) (Ok l)) (append_assoc names (v ∷ []) vs)

-- further variables are appended to these unless one of them clashes
pub filled_whole : (names more : List (List ℕ)) → filled names more ≡ refused_for ReservedName (first_clash names more) (Ok (names ++ more))
filled_whole names [] = ap Ok (sym (append-nil names))
filled_whole names (v ∷ vs) = joined v names vs (is_reserved v || is_among names v) (filled_whole (names ++ v ∷ []) vs)

allowed : (o : Option (List ℕ)) (xs ys : List (List ℕ)) → refused_for ReservedName o (Ok xs) ≡ Ok ys → ys ≡ xs
allowed None xs ys e = cc
allowed (Some n) xs ys e = absurd cc

-- if filling succeeds, the variables are these followed by the others
pub filled_ok : (names more all : List (List ℕ)) → filled names more ≡ Ok all → all ≡ names ++ more
filled_ok names more all e = allowed (first_clash names more) (names ++ more) all (sym (filled_whole names more) ∙ e)

-- variables added in two parts
module _ (vs second : List (List ℕ)) where
  parted : (r : Result (List (List ℕ)) Refusal) → ((names : List (List ℕ)) → filled names (vs ++ second) ≡ (filled names vs >>= λ more. filled more second))
      → (r >>= λ more. filled more (vs ++ second)) ≡ ((r >>= λ more. filled more vs) >>= λ more. filled more second)
  parted (Ok more) rest = rest more
  parted (Err e) rest = refl

-- filling in two lists in a row is filling in the first and then the second
pub filled_append : (names first second : List (List ℕ)) → filled names (first ++ second) ≡ (filled names first >>= λ more. filled more second)
filled_append names [] second = refl
filled_append names (v ∷ vs) second = parted vs second (added names v) (λ more. filled_append more vs second)

-- All variables except the distance are added in three steps.
module _ {X Y : Type 0} (h : X → List ℕ) (k : Y → List ℕ) (ps : List X) (gs : List Y) (names : List (List ℕ)) where
  abbrev all : Result (List (List ℕ)) Refusal
  all = filled names (parameters_and_globals (map h ps) (map k gs))

  plain : (gs : List Y) → map k gs ≡ map (λ g. k g ++ []) gs
  plain [] = refl
  plain (g ∷ gs) = simp append-nil (ap (λ l. k g ∷ l) (plain gs))

  steps : all ≡ (filled names (map (λ p. h p ++ 49 ∷ []) ps) >>= λ a. filled a (map (λ p. h p ++ 50 ∷ []) ps) >>= λ b. filled b (map (λ g. k g ++ []) gs))
  steps =
      filled_append names (first_particle (map h ps)) (second_particle (map h ps) ++ map k gs)
      ∙ ap (λ l. filled names l >>= λ a. filled a (second_particle (map h ps) ++ map k gs)) (map-map (λ p. p ++ codes "1") h ps)
      ∙ ap (λ next. filled names (map (λ p. h p ++ 49 ∷ []) ps) >>= next) (λ i a. (filled_append a (second_particle (map h ps)) (map k gs) ∙ ap (λ l. filled a l >>= λ b. filled b (map k gs)) (map-map (λ p. p ++ codes "2") h ps) ∙ ap (λ l. filled a (map (λ p. h p ++ 50 ∷ []) ps) >>= λ b. filled b l) (plain gs)) i)

  module _ {A : Type 0} (e : Failure (ExprFault A)) where
    -- a failure at the first particle's parameters is the failure of the whole
    pub first_fails : Fails e (filled names (map (λ p. h p ++ 49 ∷ []) ps)) → Fails e all
    first_fails f = rw steps (fails_then e _ _ f)

    -- a failure at the second particle's parameters is the failure of the whole
    pub second_fails : (a : List (List ℕ)) → filled names (map (λ p. h p ++ 49 ∷ []) ps) ≡ Ok a → Fails e (filled a (map (λ p. h p ++ 50 ∷ []) ps)) → Fails e all
    second_fails a first f = rw (steps, first) (fails_then e _ (λ b. filled b (map (λ g. k g ++ []) gs)) f)

  -- after the parameters of both particles, filling in the globals gives the whole
  pub globals_left : (a b : List (List ℕ)) → filled names (map (λ p. h p ++ 49 ∷ []) ps) ≡ Ok a → filled a (map (λ p. h p ++ 50 ∷ []) ps) ≡ Ok b → filled b (map (λ g. k g ++ []) gs) ≡ all
  globals_left a b first second = sym (rw (steps, first, second) refl)

-- the names of a program, case by case
module _ (ps gs : List (List ℕ)) where
  abbrev checked : Bool → Option (List ℕ) → Option (List ℕ) → Result (List (List ℕ)) Refusal
  checked few first second =
      if few
      then refused_for RepeatedDefinition first
      (refused_for RepeatedDefinition second
      (refused_for ReservedName (first_clash (codes "r" ∷ []) (parameters_and_globals ps gs)) (Ok (variables_of ps gs))))
      else Err TooLarge

  is_checked : names_from ps gs ≡ checked (are_few ps gs) (first_repeated ps) (first_repeated gs)
  unfolding names_from
  is_checked = refl

  -- how many variables there are
  pub variables_counted : (all : List (List ℕ)) → filled (codes "r" ∷ []) (parameters_and_globals ps gs) ≡ Ok all → length all ≡ 1 + (2 * length ps + length gs)
  variables_counted all e =
      ap length (filled_ok (codes "r" ∷ []) (parameters_and_globals ps gs) all e)
      ∙ simp (length-append, length-map) (omega arith)

  -- too many names are refused as too large
  pub names_many : are_few ps gs ≡ false → names_from ps gs ≡ Err TooLarge
  names_many few = is_checked ∙ ap (λ b. checked b (first_repeated ps) (first_repeated gs)) few

  module _ (few : are_few ps gs ≡ true) where
    by_lists : (first second : Option (List ℕ)) → first_repeated ps ≡ first → first_repeated gs ≡ second → names_from ps gs ≡ checked true first second
    by_lists first second e f = is_checked ∙ ap (λ b. checked b (first_repeated ps) (first_repeated gs)) few ∙ ap (λ o. checked true o (first_repeated gs)) e ∙ ap (checked true first) f

    module _ {A : Type 0} (e : Failure (ExprFault A)) where
      refused : (o : Option (List ℕ)) → IsSomeAnd o (λ n. IsFaultOrMemory e (RepeatedDefinition n)) → (n : List ℕ) × (o ≡ Some n) × IsFaultOrMemory e (RepeatedDefinition n)
      refused None h = absurd h
      refused (Some n) h = (n, refl, h)

      -- if a parameter's name is repeated, the failure is that repeated name
      pub parameter_repeated : IsSomeAnd (first_repeated ps) (λ n. IsFaultOrMemory e (RepeatedDefinition n)) → Fails e (names_from ps gs)
      parameter_repeated h = let p = refused (first_repeated ps) h in fails_says e (RepeatedDefinition p.0) _ (by_lists (Some p.0) _ p.1 refl) p.2

      -- if no parameter's name is repeated but a global's is, the failure is that repeated name
      pub global_repeated : first_repeated ps ≡ None → IsSomeAnd (first_repeated gs) (λ n. IsFaultOrMemory e (RepeatedDefinition n)) → Fails e (names_from ps gs)
      global_repeated once h = let p = refused (first_repeated gs) h in fails_says e (RepeatedDefinition p.0) _ (by_lists None (Some p.0) once p.1) p.2

    -- if no name is repeated in its list, the variables are filled in after the distance
    pub names_filled : first_repeated ps ≡ None → first_repeated gs ≡ None → names_from ps gs ≡ filled (codes "r" ∷ []) (parameters_and_globals ps gs)
    names_filled once and = by_lists None None once and ∙ sym (filled_whole (codes "r" ∷ []) (parameters_and_globals ps gs))

-- how many names there are
module _ {X Y : Type 0} (h : X → List ℕ) (k : Y → List ℕ) (ps : List X) (gs : List Y) where
  -- at most 8 parameters and 16 globals are few
  pub few_names : length ps ≤ 8 → length gs ≤ 16 → are_few (map h ps) (map k gs) ≡ true
  few_names p g = simp (length-map, le-leb (length ps) 8 p, le-leb (length gs) 16 g)

  -- more than 8 parameters are not
  pub many_parameters : 8 < length ps → are_few (map h ps) (map k gs) ≡ false
  many_parameters p = simp (length-map, lt-leb (length ps) 8 p)

  -- more than 16 globals are not
  pub many_globals : 16 < length gs → are_few (map h ps) (map k gs) ≡ false
  many_globals g = simp (length-map, lt-leb (length gs) 16 g, and-false)
