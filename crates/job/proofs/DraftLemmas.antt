-- Drafts after one more line.
use Rattle.std.proofs.Common.{◌≡◌, ℕ, ◌<◌, ◌≤◌, Bool, true, false, if◌then◌else◌, option_map, List, [], ◌∷◌, ◌++◌, length, map, Option, Some, None, Result, Ok, Err, IfOk, IfSome, inl, inr, refl, sym, subst, ap, ◌∙◌, length-append, arith}
use Rattle.std.proofs.lemmas.List.{map-append}
use Rattle.std.proofs.lemmas.List.Elements.{All-same, All-push}
use Rattle.std.specs.List.{All}
use Rattle.fallible.specs.Failures.{Fails, Gives, IfRefused}
use Rattle.fallible.specs.declared.failure.Failure.{Failure}
use Rattle.fallible.specs.declared.failure.Failure.TheVariants.{Refused, Memory}
use Rattle.job.specs.declared.faults.Key.{Key}
use Rattle.job.specs.Values.{Counts}
use Rattle.job.specs.Faults.{Refusal, out_of_range, Said, listed, once, statement_fault}
use Rattle.line_text.specs.Steps.{◌>>=◌}
use Rattle.job.specs.Numbers.{Reading}
use Rattle.job.specs.Drafts.{IsPut, joined, or_first, outcome, said_after, slot_after}
use Rattle.job.specs.Statements.{Statement, value_said}

-- a refusal of this fault
pub refused : {X R S : Type 0} (seen : R → S) (failure : Failure R) (fault : S) (r : Result X S) → IfRefused failure (λ f. seen f ≡ fault) → r ≡ Err fault → Fails seen failure r
refused {S = S} seen (Refused f) fault r h e = e ∙ ap (λ (x : S). Err x) (sym h)
refused seen Memory fault r h e = tt

-- ---- keys of one line

-- a draft with the number put into its slot, or why it isn't
module _ {X : Type 0} (most : Counts) (n : ℕ) (s : Said) (key : Key) (old : Option X) (set : Option X → Said) (make : Option X → Statement) (fault : (v : Option X) → statement_fault most s (make v) ≡ once key old v) (more : (x : X) → joined n s (value_said (make (Some x))) ≡ set (or_first old (Some x))) where
  put_is : (o : Option (Option X)) → said_after most n s (option_map make o) ≡ (slot_after n key old o >>= λ v. Ok (set v))
  put_is None = refl
  put_is (Some None) = rw (fault None) (out old _)
    where
      out : (o : Option X) (t : Said) → outcome (once key o None) t ≡ (outcome (once key o None) o >>= λ v. Ok (set v))
      out None t = refl
      out (Some y) t = refl
  put_is (Some (Some x)) = rw (fault (Some x), more x) (at (once key old (Some x)))
    where
      at : (f : Option Refusal) → outcome f (set (or_first old (Some x))) ≡ (outcome f (or_first old (Some x)) >>= λ v. Ok (set v))
      at None = refl
      at (Some f) = refl

  pub put_gives : {R : Type 0} (seen : R → Refusal) (new : Option X) (result : Result (Unit {0}) (Failure R)) (o : Option (Option X)) → Gives (λ _. new) seen result (slot_after n key old o)
      → Gives (λ _. set new) seen result (said_after most n s (option_map make o))
  put_gives seen new (Ok u) o h = put_is o ∙ ap (λ (r : Result (Option X) Refusal). r >>= λ v. Ok (set v)) h
  put_gives seen new (Err (Refused f)) o h = put_is o ∙ ap (λ (r : Result (Option X) Refusal). r >>= λ v. Ok (set v)) h
  put_gives seen new (Err Memory) o h = tt

-- if the number in the slot is right, and so is the number that was read, the number in the slot afterwards is right
pub put_holds : {X : Type 0} (P Q : X → Type 0) (old new : Option X) (reading : Reading X) → ((v : X) → Q v → P v) → IsPut old new reading → IfSome old P → IfOk reading Q → IfSome new P
put_holds P Q old new reading f (inl e) held read = subst (λ o. IfSome o P) (sym e) held
put_holds {X = X} P Q old new reading f (inr (v, e, r)) held read = subst (λ o. IfSome o P) (sym e) (f v (subst (λ (x : Reading X). IfOk x Q) r read))

-- ---- keys of many lines

-- appending an element to a list appends its view to the list of views
pub pushed : {X Y : Type 0} (view : X → Y) (xs ys : List X) (x : X) (y : Y) → ys ≡ xs ++ x ∷ [] → view x ≡ y → map view ys ≡ map view xs ++ y ∷ []
pushed view xs ys x y e v = ap (map view) e ∙ map-append view xs (x ∷ []) ∙ ap (λ z. map view xs ++ z ∷ []) v

-- a list of fewer than `most` elements has at most `most` after appending one, whether or not there was memory
pub pushed_few : {X : Type 0} (b : Bool) (xs ys : List X) (x : X) (most : ℕ) → ys ≡ (if b then xs ++ x ∷ [] else xs) → length xs < most → length ys ≤ most
pushed_few true xs ys x most e lt = omega (arith, ap length e, length-append xs (x ∷ []), lt)
pushed_few false xs ys x most e lt = omega (arith, ap length e, lt)

-- if P holds for all elements and for one more, P holds for all after appending it, whether or not there was memory
pub pushed_all : {X : Type 0} (P : X → Type 0) (b : Bool) (xs ys : List X) (x : X) → ys ≡ (if b then xs ++ x ∷ [] else xs) → All P xs → P x → All P ys
pushed_all P true xs ys x e all one = All-same P ys _ e (All-push P xs x all one)
pushed_all P false xs ys x e all one = All-same P ys xs e all

-- a name that was said before is repeated
pub known_listed : (known fits : Bool) (repetition : Refusal) (key : Key) (t : Said) → known ≡ true → outcome (listed known repetition fits key) t ≡ Err repetition
known_listed known fits repetition key t k = rw k refl

-- a new name, with its number or the count out of range
pub out_listed : (known fits : Bool) (repetition : Refusal) (key : Key) (t : Said) → known ≡ false → fits ≡ false → outcome (listed known repetition fits key) t ≡ Err (out_of_range key)
out_listed known fits repetition key t k f = rw (k, f) refl

-- a new name that finds room
pub new_listed : (known fits : Bool) (repetition : Refusal) (key : Key) (t : Said) → known ≡ false → fits ≡ true → outcome (listed known repetition fits key) t ≡ Ok t
new_listed known fits repetition key t k f = rw (k, f) refl
