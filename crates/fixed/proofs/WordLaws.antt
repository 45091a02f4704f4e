-- The words of operations: each names one operation, and holds only letters.
use Rattle.std.proofs.Common.{◌≡◌, ℕ, Bool, true, false, ◌&&◌, List, [], ◌∷◌, Option, Some, None, option_map, bytes_eq, if◌then◌else◌, refl, ap, ◌∙◌}
use Rattle.std.specs.Prelude.{nat_le}
use Rattle.std.specs.List.{list_all}
use Rattle.std.proofs.lemmas.Slice.Eq.{bytes_eq-Decides}
use Rattle.fixed.specs.declared.operations.Operator.{Operator}
use Rattle.fixed.specs.declared.operations.Operator.TheVariants as op
use Rattle.fixed.specs.declared.operations.FlatFunction.{FlatFunction}
use Rattle.fixed.specs.declared.operations.FlatFunction.TheVariants as flat
use Rattle.fixed.specs.declared.operations.Function.{Function}
use Rattle.fixed.specs.declared.operations.Function.TheVariants as f
use Rattle.fixed.specs.declared.operations.UnaryOperator.{UnaryOperator}
use Rattle.fixed.specs.declared.operations.UnaryOperator.TheVariants as unary
use Rattle.fixed.specs.Operations.{flat_functions, flat_of_word, flat_word, function_of_word, function_word, operator_of_word, operator_word, operators, unary_of_word, unary_word, with_word}

-- ---- what is found has the word

-- what a test of the word finds has the word, if what is found otherwise has it
tested : {A : Type 0} (word_of : A → List ℕ) (a y : A) (rest : Option A) (word : List ℕ) (b : Bool) → bytes_eq word (word_of a) ≡ b
    → (rest ≡ Some y → word ≡ word_of y) → (if b then Some a else rest) ≡ Some y → word ≡ word_of y
tested word_of a y rest word true t h e = let same : a ≡ y = cc in (bytes_eq-Decides word (word_of a)).0 t ∙ ap word_of same
tested word_of a y rest word false t h e = h e

found : {A : Type 0} (word_of : A → List ℕ) (all : List A) (otherwise : Option A) (word : List ℕ) (y : A)
    → (otherwise ≡ Some y → word ≡ word_of y) → with_word word_of all otherwise word ≡ Some y → word ≡ word_of y
found word_of [] otherwise word y h e = h e
found word_of (a ∷ others) otherwise word y h e =
    tested word_of a y (with_word word_of others otherwise word) word (bytes_eq word (word_of a)) refl
    (found word_of others otherwise word y h) e

-- a result of a constructor is the constructor's
mapped : {A B : Type 0} (make : A → B) (o : Option A) (y : B) → option_map make o ≡ Some y → (x : A) × (o ≡ Some x) × (make x ≡ y)
mapped make None y e = absurd cc
mapped make (Some x) y e = (x, refl, cc)

-- an operator that is found has the word
pub operator_found : (word : List ℕ) (o : Operator) → operator_of_word word ≡ Some o → word ≡ operator_word o
unfolding operator_of_word
operator_found word o e = found operator_word operators None word o (λ d. absurd cc) e

flat_found : (word : List ℕ) (g : FlatFunction) → flat_of_word word ≡ Some g → word ≡ flat_word g
unfolding flat_of_word
flat_found word g e = found flat_word flat_functions None word g (λ d. absurd cc) e

function_found : (word : List ℕ) (g : Function) → function_of_word word ≡ Some g → word ≡ function_word g
unfolding function_of_word
function_found word g e =
    found function_word (f.SquareRoot ∷ f.Absolute ∷ []) (option_map f.Flat (flat_of_word word)) word g
    (λ d. let m = mapped f.Flat (flat_of_word word) g d in flat_found word m.0 m.1 ∙ ap function_word m.2) e

-- a unary operator that is found has the word
pub unary_found : (word : List ℕ) (u : UnaryOperator) → unary_of_word word ≡ Some u → word ≡ unary_word u
unfolding unary_of_word
unary_found word u e =
    found unary_word (unary.Negate ∷ unary.Square ∷ []) (option_map unary.Apply (function_of_word word)) word u
    (λ d. let m = mapped unary.Apply (function_of_word word) u d in function_found word m.0 m.1 ∙ ap unary_word m.2) e

-- ---- a word finds its operation

-- the word of an operator finds it
pub operator_again : (o : Operator) → operator_of_word (operator_word o) ≡ Some o
unfolding operator_of_word
operator_again op.Add = refl
operator_again _ = refl

flat_again : (g : FlatFunction) → (operator_of_word (flat_word g) ≡ None) × (unary_of_word (flat_word g) ≡ Some (unary.Apply (f.Flat g)))
unfolding operator_of_word unary_of_word function_of_word flat_of_word
flat_again flat.Step = (refl, refl)
flat_again _ = (refl, refl)

-- the word of a unary operator finds it, and no operator
pub unary_again : (u : UnaryOperator) → (operator_of_word (unary_word u) ≡ None) × (unary_of_word (unary_word u) ≡ Some u)
unfolding operator_of_word unary_of_word function_of_word
unary_again unary.Negate = (refl, refl)
unary_again unary.Square = (refl, refl)
unary_again (unary.Apply f.SquareRoot) = (refl, refl)
unary_again (unary.Apply f.Absolute) = (refl, refl)
unary_again (unary.Apply (f.Flat g)) = flat_again g

-- ---- words hold only letters

-- a lower-case letter
abbrev pub is_lower_case : ℕ → Bool
is_lower_case b = nat_le 97 b && nat_le b 122

-- the word of an operator holds only letters
pub operator_letters : (o : Operator) → list_all is_lower_case (operator_word o) ≡ true
operator_letters op.Add = refl
operator_letters _ = refl

flat_letters : (g : FlatFunction) → list_all is_lower_case (flat_word g) ≡ true
flat_letters flat.Step = refl
flat_letters _ = refl

-- the word of a unary operator holds only letters
pub unary_letters : (u : UnaryOperator) → list_all is_lower_case (unary_word u) ≡ true
unary_letters unary.Negate = refl
unary_letters unary.Square = refl
unary_letters (unary.Apply f.SquareRoot) = refl
unary_letters (unary.Apply f.Absolute) = refl
unary_letters (unary.Apply (f.Flat g)) = flat_letters g
