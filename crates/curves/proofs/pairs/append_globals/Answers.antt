use Rattle.std.proofs.Common.{◌≡◌, ◌∙◌, ◌+◌, ◌<◌, ◌≤◌, ◌++◌, ◌∷◌, [], ℕ, List, ap, append_assoc, get_or, length, map, sym, take}
use Rattle.std.proofs.lemmas.List.{map_push, take_all, take_more}
use Rattle.fixed.specs.declared.constants.Constant.{Constant}
use Rattle.job.specs.Values.{GlobalValue}
use Rattle.job.specs.Views.{global_value}
use Rattle.job.specs.declared.jobs.Global.{Global}
use Rattle.curves.proofs.pairs.append_globals.Goals as goal

abbrev values : List GlobalValue → List Constant
values = map (λ (g : GlobalValue). g.value)

-- one more global is appended
one_more : {A : Type 0} (before now after : List Constant) (globals : List (Global A)) (i : ℕ) (g : Global A) → i < length globals
    → g ≡ get_or globals i g → now ≡ before ++ values (map global_value (take i globals)) → after ≡ now ++ (g.value ∷ [])
    → after ≡ before ++ values (map global_value (take (i + 1) globals))
one_more {A} before now after globals i g within is so_far pushed =
    let first : List GlobalValue = map global_value (take i globals) in
    let taken : take (i + 1) globals ≡ take i globals ++ (g ∷ []) =
    take_more globals i g within ∙ ap (λ (x : Global A). take i globals ++ (x ∷ [])) (sym is) in
    let more : values (map global_value (take (i + 1) globals)) ≡ values first ++ (g.value ∷ []) =
    ap (λ (l : List (Global A)). values (map global_value l)) taken ∙ ap values (map_push global_value (take i globals) g)
    ∙ map_push (λ (x : GlobalValue). x.value) first (global_value g) in
    pushed ∙ ap (λ (l : List Constant). l ++ (g.value ∷ [])) so_far ∙ append_assoc before (values first) (g.value ∷ [])
    ∙ ap (λ (l : List Constant). before ++ l) (sym more)

-- all globals are appended
all_of : {A : Type 0} (before now : List Constant) (globals : List (Global A)) (i : ℕ) → length globals ≤ i
    → now ≡ before ++ values (map global_value (take i globals)) → now ≡ before ++ values (map global_value globals)
all_of {A} before now globals i above so_far =
    so_far ∙ ap (λ (l : List (Global A)). before ++ values (map global_value l)) (take_all i globals above)

pub loop-global-preserved : goal.loop-global-preserved
loop-global-preserved g c =
    one_more _ _ _ c.args.globals.now c.loop-global.global-index c.global-item.result c.loop-global-test.true c.global-item.is
    c.loop-global.invariant c.in_ok-push.ensures.items

pub returns : goal.returns
returns g c = all_of _ _ c.args.globals.now c.loop-global.global-index c.loop-global-test.false c.loop-global.invariant
