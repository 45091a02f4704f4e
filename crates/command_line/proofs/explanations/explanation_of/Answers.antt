use Rattle.std.proofs.Common.{◌≡◌, ℕ, List, Bor, Option, Some, None, option_map, refl}
use Rattle.std.specs.Option.{option_or}
use Rattle.command_line.specs.Explanations.{explanation_of}
use Rattle.command_line.proofs.explanations.explanation_of.Goals as goal

-- the first of two texts, by their values
or_value : {T U : Type 0} (f : T → U) (a b o : Option T) (x y : Option U) → o ≡ option_or a b → option_map f a ≡ x → option_map f b ≡ y → option_map f o ≡ option_or x y
or_value f None b o x y e p q = rw (e, ← p) q
or_value f (Some t) b o x y e p q = rw (e, ← p) refl

pub returns : goal.returns
unfolding explanation_of
returns c =
    let now = λ (text : Bor (List ℕ)). text.now in
    let two = or_value now _ _ _ _ _ c.or.ensures c.text_in.ensures c.text_in-2.ensures in
    let three = or_value now _ _ _ _ _ c.or-2.ensures two c.text_in-3.ensures in
    let four = or_value now _ _ _ _ _ c.or-3.ensures three c.text_in-4.ensures in
    let five = or_value now _ _ _ _ _ c.or-4.ensures four c.text_in-5.ensures in
    let six = or_value now _ _ _ _ _ c.or-5.ensures five c.text_in-6.ensures in
    or_value now _ _ _ _ _ c.or-6.ensures six c.text_in-7.ensures
