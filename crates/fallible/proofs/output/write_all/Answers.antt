use Rattle.std.proofs.Common.{◌≡◌, ◌+◌, ◌++◌, take, drop, sym, rules}
use Rattle.std.proofs.lemmas.List.{drop-drop, take_rest, take-append-drop}
use Rattle.fallible.proofs.Appends.{and_then}
use Rattle.fallible.proofs.output.write_all.Goals as goal

pub loop-at-preserved : goal.loop-at-preserved
loop-at-preserved g c =
    let at = c.loop-at.at in
    let n = c.in_ok-at.field-0 in
    let text = c.args.text.now in
    let parts : drop at text ≡ take n (drop at text) ++ drop (at + n) text = rw (← drop-drop n at text) (sym (take-append-drop n (drop at text))) in
    (and_then (take n (drop at text)) (drop (at + n) text) (rw parts at c.loop-at.invariant.0) (rw take_rest at c.in_ok-at.ensures.taken), search rules)
