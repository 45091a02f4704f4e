-- Reading in steps.
use Rattle.std.proofs.Common.{◌≡◌, ◌⊎◌, inl, inr, Option, Some, None, Result, Ok, Err, refl, ap}
use Rattle.line_text.specs.Steps.{◌>>=◌, said}

-- the value of a step that did not fail
pub bind_ok : {A B E : Type 0} (r : Result A E) (f : A → Result B E) (y : B) → (r >>= f) ≡ Ok y → (x : A) × (r ≡ Ok x) × (f x ≡ Ok y)
bind_ok (Ok x) f y e = (x, refl, e)
bind_ok (Err d) f y e = absurd cc

-- if the first of two steps fails, the two steps fail with the same error
pub bind_err : {A B E : Type 0} (r : Result A E) (f : A → Result B E) (d : E) → r ≡ Err d → (r >>= f) ≡ Err d
bind_err r f d e = rw e refl

-- which step failed
abbrev pub Split : {A B E : Type 0} → E → Result A E → (A → Result B E) → Type 0
Split {A} d r next = (r ≡ Err d) ⊎ ((x : A) × (r ≡ Ok x) × (next x ≡ Err d))

-- if two steps in a row fail with d, the first failed with d, or it succeeded and the second failed with d
pub split : {A B E : Type 0} (d : E) (r : Result A E) (next : A → Result B E) → (r >>= next) ≡ Err d → Split d r next
split d (Ok x) next e = inr (x, refl, e)
split {A} {B} {E} d (Err w) next e = let same : w ≡ d = cc in inl (rw same refl)

-- if `said` of an option succeeds with x, the option is `Some x`
pub said_found : {X E : Type 0} (fault : E) (o : Option X) (x : X) → said fault o ≡ Ok x → o ≡ Some x
said_found fault None x e = absurd cc
said_found fault (Some y) x e = cc

-- equal results that have values have equal values
pub same_ok : {A E : Type 0} (x y : A) → ◌≡◌ {A = Result A E} (Ok x) (Ok y) → x ≡ y
same_ok x y e = cc

-- equal results that have faults have equal faults
pub same_err : {A E : Type 0} (f k : E) → ◌≡◌ {A = Result A E} (Err f) (Err k) → f ≡ k
same_err f k e = cc

-- equal faults are equal for a result of any other type
pub err_as : {A B E : Type 0} (f k : E) → ◌≡◌ {A = Result A E} (Err f) (Err k) → ◌≡◌ {A = Result B E} (Err f) (Err k)
err_as {A} {B} {E} f k e = ap failed (same_err f k e)
  where
    failed : E → Result B E
    failed z = Err z

-- a result with a fault is none with a value
pub err_is_no_ok : {A E : Type 0} (f : E) (x : A) → ◌≡◌ {A = Result A E} (Err f) (Ok x) → ⊥
err_is_no_ok f x e = cc

-- an option without a value is none with one
pub none_is_no_some : {A : Type 0} (x : A) → ◌≡◌ {A = Option A} None (Some x) → ⊥
none_is_no_some x e = cc
