-- The definitions after the body, read one by one.
use Rattle.std.proofs.Common.{◌≡◌, ℕ, suc, ◌+◌, ◌-◌, ◌<◌, ◌≤◌, Bool, true, false, eqb, List, [], ◌∷◌, ◌++◌, Some, None, Result, Ok, Err, refl, sym, ap, ◌∙◌, append_assoc, arith, eqb-true, append-nil}
use Rattle.std.proofs.lemmas.Bool.{eqb-false}
use Rattle.fallible.specs.declared.failure.Failure.{Failure}
use Rattle.energy_program.specs.declared.faults.ExprFault.{ExprFault}
use Rattle.line_text.specs.Steps.{◌>>=◌}
use Rattle.energy_program.specs.Faults.{Refusal, Fails}
use Rattle.expr.specs.Parsing.{expr_at}
use Rattle.expr.specs.Sources.{heading_at, Definitions, before, defined, definitions_at, source_at}
use Rattle.expr.specs.Syntax.{Syntax, Definition, Source}
use Rattle.expr.specs.Tokens.{Lexed}
use Rattle.energy_program.proofs.FaultLaws.{fails_then, fails_same}
use Rattle.expr.proofs.Programs.{full_none}

-- the source with this body and these definitions followed by the others, or the error of the others
abbrev pub behind : Syntax → List Definition → Definitions → Result Source Refusal
behind body front others = others >>= λ ds. Ok (body, front ++ ds)

-- ---- one more definition

turn : (end n : ℕ) (ts : List Lexed) (w : List ℕ) (after : List Lexed) (x : Syntax) (beyond : List Lexed) → heading_at end false ts ≡ Ok (Some (w, after)) → expr_at end 65 after ≡ Ok (x, beyond)
    → definitions_at end (suc n) ts ≡ before ((w, x) ∷ []) (definitions_at end n beyond)
unfolding definitions_at
turn end n ts w after x beyond h e = rw (h, e) refl

one_less : (count : ℕ) → count ≤ 64 → eqb count 64 ≡ false → 64 - count ≡ suc (64 - (count + 1))
one_less count few c = let d = eqb-false count 64 c in omega (arith, d)

none_left : (count : ℕ) → eqb count 64 ≡ true → 64 - count ≡ 0
none_left count c = let d = eqb-true count 64 c in omega arith

turn_by : (end count : ℕ) (ts : List Lexed) (full : Bool) (w : List ℕ) (after : List Lexed) (x : Syntax) (beyond : List Lexed) → count ≤ 64 → eqb count 64 ≡ full → heading_at end full ts ≡ Ok (Some (w, after)) → expr_at end 65 after ≡ Ok (x, beyond)
    → definitions_at end (64 - count) ts ≡ before ((w, x) ∷ []) (definitions_at end (64 - (count + 1)) beyond)
turn_by end count ts true w after x beyond few c h e = absurd (full_none end ts (w, after) h)
turn_by end count ts false w after x beyond few c h e = ap (λ (z : ℕ). definitions_at end z ts) (one_less count few c) ∙ turn end (64 - (count + 1)) ts w after x beyond h e

-- if a heading is read, there are fewer than 64 definitions so far
pub not_full : (end count : ℕ) (ts : List Lexed) (h : List ℕ × List Lexed) → count ≤ 64 → heading_at end (eqb count 64) ts ≡ Ok (Some h) → count < 64
not_full end count ts h few e = by_test (eqb count 64) refl e
  where
    by_test : (full : Bool) → eqb count 64 ≡ full → heading_at end full ts ≡ Ok (Some h) → count < 64
    by_test true c e = absurd (full_none end ts h e)
    by_test false c e = let d = eqb-false count 64 c in omega (arith, d)

regroup : (body : Syntax) (front : List Definition) (d : Definition) (r : Definitions) → behind body front (before (d ∷ []) r) ≡ behind body (front ++ (d ∷ [])) r
regroup body front d (Ok ds) = ap (λ (z : List Definition). source_ok z) (sym (append_assoc front (d ∷ []) ds))
  where
    source_ok : List Definition → Result Source Refusal
    source_ok z = Ok (body, z)
regroup body front d (Err e) = refl

-- if a definition is read, it is appended to the definitions so far, and the remaining tokens are read next
pub more : (end count later : ℕ) (body : Syntax) (front longer : List Definition) (ts : List Lexed) (w : List ℕ) (after : List Lexed) (x : Syntax) (beyond : List Lexed) → count ≤ 64 → later ≡ count + 1 → longer ≡ front ++ ((w, x) ∷ [])
    → heading_at end (eqb count 64) ts ≡ Ok (Some (w, after)) → expr_at end 65 after ≡ Ok (x, beyond)
    → behind body front (definitions_at end (64 - count) ts) ≡ behind body longer (definitions_at end (64 - later) beyond)
more end count later body front longer ts w after x beyond few c f h e =
    ap (behind body front) (turn_by end count ts (eqb count 64) w after x beyond few refl h e)
    ∙ regroup body front (w, x) (definitions_at end (64 - (count + 1)) beyond)
    ∙ ap (λ (z : List Definition). behind body z (definitions_at end (64 - (count + 1)) beyond)) (sym f)
    ∙ ap (λ (z : ℕ). behind body longer (definitions_at end (64 - z) beyond)) (sym c)

-- after the body, reading the source is reading all its definitions
pub starts : (end : ℕ) (ts : List Lexed) (body : Syntax) (rest : List Lexed) (front : List Definition) (count : ℕ) → front ≡ [] → count ≡ 0 → expr_at end 65 ts ≡ Ok (body, rest)
    → source_at end ts ≡ behind body front (definitions_at end (64 - count) rest)
unfolding source_at
starts end ts body rest front count f c e = rw (f, c, e) refl

-- ---- errors and the end

heading_fails_by : {C : Type 0} (end count : ℕ) (ts : List Lexed) (full : Bool) (e : Failure (ExprFault C)) → count ≤ 64 → eqb count 64 ≡ full → Fails e (heading_at end full ts) → Fails e (definitions_at end (64 - count) ts)
unfolding definitions_at
heading_fails_by end count ts true e few c h =
    fails_same e (definitions_at end 0 ts) (definitions_at end (64 - count) ts) (ap (λ (z : ℕ). definitions_at end z ts) (none_left count c)) (fails_then e (heading_at end true ts) (λ h. Ok []) h)
heading_fails_by end count ts false e few c h =
    fails_same e (definitions_at end (suc (64 - (count + 1))) ts) (definitions_at end (64 - count) ts) (ap (λ (z : ℕ). definitions_at end z ts) (one_less count few c))
    (fails_then e (heading_at end false ts) (λ h. defined (expr_at end 65) (definitions_at end (64 - (count + 1))) h) h)

-- if reading a heading fails, reading the source fails with the same error
pub heading_fails : {C : Type 0} (end count : ℕ) (body : Syntax) (front : List Definition) (ts : List Lexed) (e : Failure (ExprFault C)) → count ≤ 64 → Fails e (heading_at end (eqb count 64) ts)
    → Fails e (behind body front (definitions_at end (64 - count) ts))
heading_fails end count body front ts e few h = fails_then e (definitions_at end (64 - count) ts) (λ ds. Ok (body, front ++ ds)) (heading_fails_by end count ts (eqb count 64) e few refl h)

value_turn : (end n : ℕ) (ts : List Lexed) (w : List ℕ) (after : List Lexed) → heading_at end false ts ≡ Ok (Some (w, after))
    → definitions_at end (suc n) ts ≡ (expr_at end 65 after >>= λ x. before ((w, x.0) ∷ []) (definitions_at end n x.1))
unfolding definitions_at
value_turn end n ts w after h = rw h refl

value_fails_by : {C : Type 0} (end count : ℕ) (ts : List Lexed) (full : Bool) (w : List ℕ) (after : List Lexed) (e : Failure (ExprFault C)) → count ≤ 64 → eqb count 64 ≡ full → heading_at end full ts ≡ Ok (Some (w, after)) → Fails e (expr_at end 65 after)
    → Fails e (definitions_at end (64 - count) ts)
value_fails_by end count ts true w after e few c h f = absurd (full_none end ts (w, after) h)
value_fails_by end count ts false w after e few c h f =
    fails_same e _ (definitions_at end (64 - count) ts) (ap (λ (z : ℕ). definitions_at end z ts) (one_less count few c) ∙ value_turn end (64 - (count + 1)) ts w after h)
    (fails_then e (expr_at end 65 after) (λ x. before ((w, x.0) ∷ []) (definitions_at end (64 - (count + 1)) x.1)) f)

-- if reading a definition's expression fails, reading the source fails with the same error
pub value_fails : {C : Type 0} (end count : ℕ) (body : Syntax) (front : List Definition) (ts : List Lexed) (w : List ℕ) (after : List Lexed) (e : Failure (ExprFault C)) → count ≤ 64 → heading_at end (eqb count 64) ts ≡ Ok (Some (w, after))
    → Fails e (expr_at end 65 after) → Fails e (behind body front (definitions_at end (64 - count) ts))
value_fails end count body front ts w after e few h f =
    fails_then e (definitions_at end (64 - count) ts) (λ ds. Ok (body, front ++ ds)) (value_fails_by end count ts (eqb count 64) w after e few refl h f)

ends_by : (end count : ℕ) (ts : List Lexed) (full : Bool) → count ≤ 64 → eqb count 64 ≡ full → heading_at end full ts ≡ Ok None → definitions_at end (64 - count) ts ≡ Ok []
unfolding definitions_at
ends_by end count ts true few c h = ap (λ (z : ℕ). definitions_at end z ts) (none_left count c) ∙ rw h refl
ends_by end count ts false few c h = ap (λ (z : ℕ). definitions_at end z ts) (one_less count few c) ∙ rw h refl

-- if no heading follows, the source is the body with the definitions so far
pub ends : (end count : ℕ) (body : Syntax) (front : List Definition) (ts : List Lexed) → count ≤ 64 → heading_at end (eqb count 64) ts ≡ Ok None
    → behind body front (definitions_at end (64 - count) ts) ≡ Ok (body, front)
ends end count body front ts few h = ap (behind body front) (ends_by end count ts (eqb count 64) few refl h) ∙ simp append-nil refl

-- if reading the body fails, reading the source fails with the same error
pub body_fails : {C : Type 0} (end : ℕ) (ts : List Lexed) (e : Failure (ExprFault C)) → Fails e (expr_at end 65 ts) → Fails e (source_at end ts)
unfolding source_at
body_fails end ts e h = fails_then e (expr_at end 65 ts) (λ x. definitions_at end 64 x.1 >>= λ ds. Ok (x.0, ds)) h
