-- The parts of the job of a draft.
use Rattle.std.proofs.Common.{◌≡◌, IfSome, ℕ, ◌<◌, List, [], ◌∷◌, length, Option, Some, None, refl, sym, subst, arith}
use Rattle.std.specs.Option.{unwrap_or}
use Rattle.job.specs.Views.{text_said}

-- an empty text gives no energy
pub text_none : (text : List ℕ) → length text ≡ 0 → text_said text ≡ None
text_none [] e = refl
text_none (b ∷ bs) e = absurd (omega arith)

-- a text that isn't empty is the energy's text
pub text_some : (text : List ℕ) → 0 < length text → text_said text ≡ Some text
text_some [] lt = absurd (omega arith)
text_some (b ∷ bs) lt = refl

-- if P holds for an optional value and for the default, P holds for the value or the default
pub or_default : {X : Type 0} (P : X → Type 0) (o : Option X) (default x : X) → x ≡ unwrap_or o default → IfSome o P → P default → P x
or_default P None default x e h d = subst P (sym e) d
or_default P (Some y) default x e h d = subst P (sym e) h
