use Rattle.std.proofs.Common.{◌≡◌, ℕ, ℤ, List, [], ◌∷◌, ◌++◌, length, Some, None, sym, ap, ◌∙◌, w64, to_z, of_z, rules, arith, length-append}
use Rattle.line_text.specs.Words.{words}
use Rattle.gro.specs.GroReading.{value_of, values_of}
use Rattle.gro.proofs.BoxLaws.{with_front, values_more, values_stop, values_done}
use Rattle.gro.proofs.boxes.values.Goals as goal

pub returns-in_err-value-clause-exact : goal.returns-in_err-value-clause-exact
returns-in_err-value-clause-exact c =
    let none : value_of c.in-Some.word.now ≡ None = sym c.in_err-value.ensures in
    rw c.from_residual.ensures
    (values_stop c.loop-word.values.items c.in-Some.word.now (words c.in-Some.after.now) (values_of (words c.args.text.now)) none
    (ap (λ (ws : List (List ℕ)). with_front c.loop-word.values.items (values_of ws)) (sym c.in-Some.ensures.word) ∙ c.loop-word.invariant.read))

pub loop-word-preserved : goal.loop-word-preserved
loop-word-preserved c =
    let v : ℤ = c.in_ok-value.field-0 in
    let same : to_z w64 (of_z w64 v) ≡ v = search rules in
    let read : value_of c.in-Some.word.now ≡ Some v = sym c.in_ok-value.ensures in
    let pushed : c.push.new.self.items ≡ c.loop-word.values.items ++ v ∷ [] = c.push.ensures.items ∙ ap (λ (z : ℤ). c.loop-word.values.items ++ z ∷ []) same in
    let some : length (words c.loop-word.rest.now) ≡ length (c.in-Some.word.now ∷ words c.in-Some.after.now) = ap length c.in-Some.ensures.word in
    record {
      read = rw pushed
          (values_more c.loop-word.values.items c.in-Some.word.now (words c.in-Some.after.now) v (values_of (words c.args.text.now)) read
          (ap (λ (ws : List (List ℕ)). with_front c.loop-word.values.items (values_of ws)) (sym c.in-Some.ensures.word) ∙ c.loop-word.invariant.read));
      count = omega (arith, c.push.ensures.len, some, c.loop-word.invariant.count);
      len = omega (arith, ap length pushed, length-append c.loop-word.values.items (v ∷ []), some, c.loop-word.invariant.len);
    }

pub returns-clause-exact : goal.returns-clause-exact
returns-clause-exact c =
    let none : words c.loop-word.rest.now ≡ [] = c.in_default.ensures.word in
    values_done c.loop-word.values.items (values_of (words c.args.text.now))
    (ap (λ (ws : List (List ℕ)). with_front c.loop-word.values.items (values_of ws)) (sym none) ∙ c.loop-word.invariant.read)
