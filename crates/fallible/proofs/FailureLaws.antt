-- Laws of calls that can run out of memory.
use Rattle.std.proofs.Common.{◌≡◌, Result, Ok, Err, IfErr, IfOk}
use Rattle.fallible.specs.Failures.{Fails, Gives, IfRefused}
use Rattle.fallible.specs.declared.failure.Failure.{Failure}
use Rattle.fallible.specs.declared.failure.Failure.TheVariants.{Refused, Memory}

-- If the whole is refused with each fault that the part is refused with, a failure of the part is one of the whole.
pub fails_as : {X Y R S : Type 0} (seen : R → S) (failure : Failure R) (part : Result X S) (whole : Result Y S) → ((fault : S) → part ≡ Err fault → whole ≡ Err fault) → Fails seen failure part → Fails seen failure whole
fails_as seen (Refused fault) part whole hands_on h = hands_on (seen fault) h
fails_as seen Memory part whole hands_on h = tt

-- If a property holds for each fault that the definition gives, it holds for the call's refusal.
pub refused_for : {X Y R S : Type 0} (view : X → Y) (seen : R → S) (holds : R → Type 0) (result : Result X (Failure R)) (said : Result Y S) → ((fault : R) → said ≡ Err (seen fault) → holds fault) → Gives view seen result said → IfErr result (λ failure. IfRefused failure holds)
refused_for view seen holds (Ok x) said causes h = tt
refused_for view seen holds (Err (Refused fault)) said causes h = causes fault h
refused_for view seen holds (Err Memory) said causes h = tt

-- A fact that holds in any case also holds for a value.
pub IfOk_of : {X E P : Type 0} (r : Result X E) → P → IfOk r (λ _. P)
IfOk_of (Ok x) p = p
IfOk_of (Err e) p = tt

-- If P implies Q for each fault and P holds for the refusal, so does Q.
pub refused_weaker : {R : Type 0} (P Q : R → Type 0) (failure : Failure R) → ((fault : R) → P fault → Q fault) → IfRefused failure P → IfRefused failure Q
refused_weaker P Q (Refused fault) g h = g fault h
refused_weaker P Q Memory g h = tt

-- If memory ran out, each property holds for the refusal, since there is none.
pub refused_memory : {R : Type 0} (P : R → Type 0) (failure : Failure R) → failure ≡ Memory → IfRefused failure P
refused_memory P failure e = rw e tt
