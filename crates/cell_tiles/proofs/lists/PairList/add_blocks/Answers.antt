use Rattle.std.proofs.Common.{◌+◌, ◌∙◌, ap, arith, inl, inr, length, sym}
use Rattle.std.proofs.lemmas.Bool.{cases_Bool}
use Rattle.cell_tiles.specs.Near.{IsPairOf, pair_acts}
use Rattle.cell_tiles.proofs.ListLemmas.{marked_act, marked_few, marked_listed, out_idle}
use Rattle.cell_tiles.proofs.lists.PairList.add_blocks.Goals as goal

pub returns-clause-acting : goal.returns-clause-acting
returns-clause-acting c fits =
    let f = c.args.frame.now in
    let others = c.args.others.now in
    marked_act c.args.atom others (pair_acts f.reach.now f.ring.now f.places.now) c.bits_of.result _ _ c.bits_of.ensures.bound (omega (arith, c.requires.lanes, c.requires.few))
    (λ j lt unset.
    out_idle f.reach.now f.ring.now f.places.now f.coarse c.args.atom _ f.on_ring f.is_coarse
    (λ r. c.near_lanes-near.ensures.left_out _ _ r (c.args.first + j) _ _ (omega (arith, c.requires.lanes, lt)) c.requires.halves (c.requires.beside j lt) (sym (c.bits_of.ensures.each j lt) ∙ unset)))
    (c.add_marked.ensures.added fits)

pub returns-clause-listed : goal.returns-clause-listed
returns-clause-listed c all =
    elim (cases_Bool c.add_marked.result) [
      | inl e ↦ marked_listed c.args.atom c.args.others.now (IsPairOf (length c.args.frame.now.places.now)) c.bits_of.result _ _ c.bits_of.ensures.bound (omega (arith, c.requires.lanes, c.requires.few)) c.requires.pairs all (c.add_marked.ensures.added e)
      | inr e ↦ rw (c.add_marked.ensures.same e) all
    ]

pub returns-clause-few : goal.returns-clause-few
returns-clause-few c =
    elim (cases_Bool c.add_marked.result) [
      | inl e ↦ marked_few c.args.atom c.args.others.now c.bits_of.result _ _ c.bits_of.ensures.bound (omega (arith, c.requires.lanes, c.requires.few)) (c.add_marked.ensures.added e)
      | inr e ↦ omega (arith, ap length (c.add_marked.ensures.same e))
    ]
