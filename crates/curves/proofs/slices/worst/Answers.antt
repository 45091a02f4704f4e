use Rattle.std.proofs.Common.{◌+◌, arith, subst, sym}
use Rattle.curves.proofs.PartLaws.{IsWorstBefore, first_alone, first_there, of_all, one_more}
use Rattle.curves.proofs.slices.worst.Goals as goal
use Rattle.curves.proofs.slices.worst.Goals.{then-is_worse, else-is_worse}

pub loop-i-init : goal.loop-i-init
loop-i-init c =
    let f = first_there c.args.parts.now c.requires in
    (f.0, first_alone c.args.column c.args.parts.now f.0 f.1)

pub loop-i-preserved : goal.loop-i-preserved
loop-i-preserved c =
    let before = c.loop-i.invariant in
    let more = one_more c.args.column c.args.parts.now c.loop-i.i c.loop-i.worst before.0 c.index-parts-i.result c.index-parts-worst.result
    c.bound.result c.bound-in-loop-i.result c.is_worse.result before.1 c.index-parts-i.is c.index-parts-worst.is
    (omega (arith, c.loop-i-test.true, c.loop-i.auto.i-end)) c.bound.ensures c.bound-in-loop-i.ensures c.is_worse.ensures in
    elim c.if-is_worse.branch [
      | then-is_worse w ↦
          (c.index-parts-i.result, subst (λ n. IsWorstBefore c.args.column c.args.parts.now (c.loop-i.i + 1) n c.index-parts-i.result) (sym w.worst-is) (more.0 w.if-is_worse.true))
      | else-is_worse w ↦
          (before.0, subst (λ n. IsWorstBefore c.args.column c.args.parts.now (c.loop-i.i + 1) n before.0) (sym w.worst-is) (more.1 w.if-is_worse.false))
    ]

pub returns : goal.returns
returns c =
    let all = c.loop-i.invariant in
    (all.0, of_all c.args.column c.args.parts.now c.loop-i.i c.loop-i.worst all.0 all.1 (omega (arith, c.loop-i.auto.i-end, c.loop-i-test.false)))
