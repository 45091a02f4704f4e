use Rattle.std.proofs.Common.{◌≡◌, ◌∙◌, ◌+◌, ◌<◌, ◌++◌, ◌∷◌, [], ℕ, List, ap, get_or, length, map, sym, take}
use Rattle.std.proofs.lemmas.List.{map_push, take_all, take_more}
use Rattle.error_bounds.specs.Approximations.{Approximation}
use Rattle.error_bounds.specs.Rules.{as_read, distances}
use Rattle.fixed.specs.declared.constants.Constant.{Constant}
use Rattle.interval_domain.specs.Views.{span_range}
use Rattle.curves.proofs.slices.PairFormula.inputs_on.Goals as goal

-- one more input, of the constant at the index
one_more : (first : Approximation) (now after : List Approximation) (others : List Constant) (i : ℕ) (other : Constant) (input : Approximation)
    → i < length others → other ≡ get_or others i other → input ≡ as_read other → now ≡ first ∷ map as_read (take i others)
    → after ≡ now ++ (input ∷ []) → after ≡ first ∷ map as_read (take (i + 1) others)
one_more first now after others i other input within is read so_far pushed =
    let before : List Approximation = map as_read (take i others) in
    let taken : take (i + 1) others ≡ take i others ++ (other ∷ []) =
    take_more others i other within ∙ ap (λ (x : Constant). take i others ++ (x ∷ [])) (sym is) in
    let more : map as_read (take (i + 1) others) ≡ before ++ (input ∷ []) =
    ap (map as_read) taken ∙ map_push as_read (take i others) other ∙ ap (λ (x : Approximation). before ++ (x ∷ [])) (sym read) in
    pushed ∙ ap (λ (l : List Approximation). l ++ (input ∷ [])) so_far ∙ ap (λ (l : List Approximation). first ∷ l) (sym more)

pub loop-other-preserved : goal.loop-other-preserved
loop-other-preserved g c =
    one_more (distances (span_range c.args.range)) _ _ c.args.self.now.others.now c.loop-other.other-index c.other-item.result c.as_read.result
    c.loop-other-test.true c.other-item.is c.as_read.ensures c.loop-other.invariant c.in_ok-push-2.ensures.items

pub returns : goal.returns
returns g c =
    c.loop-other.invariant
    ∙ ap (λ (l : List Constant). distances (span_range c.args.range) ∷ map as_read l)
    (take_all c.loop-other.other-index c.args.self.now.others.now c.loop-other-test.false)
