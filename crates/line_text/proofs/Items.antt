-- Items one after another, as a loop over them sees them.
use Rattle.std.proofs.Common.{◌≡◌, ℕ, ◌+◌, ◌<◌, refl, List, [], ◌∷◌, ◌++◌, length, map, take, get_or, sym, ap, subst, ◌∙◌, arith}
use Rattle.std.specs.List.{All, AllByRecursion}
use Rattle.std.proofs.lemmas.List.Elements.{All-cons, All-head, All-map, All-nil, All-same, All-tail}
use Rattle.std.proofs.lemmas.List.{take_more, get_or-map, length-map}

-- the value of the item at an index is the value at that index
pub item_is : {X Y : Type 0} (f : X → Y) (xs : List X) (i : ℕ) (x : X) → i < length xs → x ≡ get_or xs i x → f x ≡ get_or (map f xs) i (f x)
item_is f xs i x lt is = ap f is ∙ sym (get_or-map f xs i x (f x) lt)

-- a property of each item, and of one more
pub all_push : {X : Type 0} (P : X → Type 0) (xs : List X) (x : X) → AllByRecursion P xs → P x → AllByRecursion P (xs ++ x ∷ [])
all_push P [] x h p = (p, tt)
all_push P (y ∷ ys) x h p = (h.0, all_push P ys x h.1 p)

-- a property of the items so far, and of the next
pub all_more : {X : Type 0} (P : X → Type 0) (xs : List X) (i : ℕ) (x : X) → i < length xs → x ≡ get_or xs i x → AllByRecursion P (take i xs) → P x → AllByRecursion P (take (i + 1) xs)
all_more P xs i x lt is h p = rw (take_more xs i x lt) (all_push P (take i xs) (get_or xs i x) h (subst P is p))

-- a list of three
pub three_items : {X : Type 0} (d : X) (xs : List X) → length xs ≡ 3 → xs ≡ get_or xs 0 d ∷ get_or xs 1 d ∷ get_or xs 2 d ∷ []
three_items d [] e = absurd (omega arith)
three_items d (x ∷ []) e = absurd (omega arith)
three_items d (x ∷ y ∷ []) e = absurd (omega arith)
three_items d (x ∷ y ∷ z ∷ []) e = refl
three_items d (x ∷ y ∷ z ∷ w ∷ more) e = absurd (omega arith)

-- equal non-empty lists have equal first elements and equal rests
pub parts_same : {X : Type 0} (x y : X) (xs ys : List X) → x ∷ xs ≡ y ∷ ys → (x ≡ y) × (xs ≡ ys)
parts_same x y xs ys e = (cc, cc)

-- ---- lists with equal images

-- if every image of a list's elements has a property, the property holds for each element's image
pub all_of_map : {X Y : Type 0} (P : X → Type 0) (f : Y → X) (ys : List Y) → All P (map f ys) → All (λ y. P (f y)) ys
all_of_map P f [] h = All-nil (λ y. P (f y))
all_of_map P f (y ∷ ys) h = All-cons (λ y. P (f y)) y ys (All-head P (f y) (map f ys) h) (all_of_map P f ys (All-tail P (f y) (map f ys) h))

-- if two lists have equal images, a property of all images of the second holds for all images of the first
pub all_alike : {X Y Z : Type 0} (P : Z → Type 0) (f : X → Z) (h : Y → Z) (xs : List X) (ys : List Y) → map f xs ≡ map h ys → All (λ y. P (h y)) ys → All (λ x. P (f x)) xs
all_alike P f h xs ys e a = all_of_map P f xs (All-same P (map f xs) (map h ys) e (All-map P h ys a))

-- lists with equal images are equally long
pub length-alike : {X Y Z : Type 0} (f : X → Z) (h : Y → Z) (xs : List X) (ys : List Y) → map f xs ≡ map h ys → length xs ≡ length ys
length-alike f h xs ys e = sym (length-map xs f) ∙ ap length e ∙ length-map ys h
