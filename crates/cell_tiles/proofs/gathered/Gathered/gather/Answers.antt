use Rattle.std.proofs.Common.{◌≡◌, ℕ, ◌+◌, ◌-◌, ◌^◌, ◌<◌, ◌≤◌, [], ap, arith, drop, get_or, length, length-append, length-drop, map, subst, sym, take, true, ◌∙◌}
use Rattle.std.proofs.lemmas.List.{length-map, length-take-le}
use Rattle.std.proofs.lemmas.List.Elements.{All-drop, All-take}
use Rattle.cell_tiles.specs.Near.{IsPairOf, lanes_of, pair_acts}
use Rattle.cell_tiles.specs.Tiles.{pairs_with}
use Rattle.cell_tiles.proofs.LaneLemmas.{length_lanes}
use Rattle.cell_tiles.proofs.ListLemmas.{first_lanes, gathered_all, gathered_more, marked_act, marked_listed, out_idle, part_all, part_passed}
use Rattle.cell_tiles.proofs.gathered.Gathered.gather.Goals as goal

pub loop-seen-preserved : goal.loop-seen-preserved
loop-seen-preserved c =
    let f = c.args.frame.now in
    let frame = f.places.now in
    let acts = pair_acts f.reach.now f.ring.now frame in
    let atoms = c.args.atoms.now in
    let seen = c.loop-seen.seen in
    let end = c.min-end.result in
    let n = end - seen in
    let is = c.min-end.ensures in
    let kept = c.loop-seen.invariant in
    let part = take n (drop seen atoms) in
    let bits = c.bits_of.result in
    let old = c.loop-seen.self.atoms in
    let new = c.add_marked.new.self.atoms in
    let whole : seen + n ≡ end = omega (arith, is, c.loop-seen-test.true) in
    let within : seen + n ≤ length atoms = omega (arith, is, c.loop-seen-test.true) in
    let long : length part ≡ n = length-take-le n (drop seen atoms) (omega (arith, length-drop seen atoms, is)) in
    let one : length part ≤ 16 = omega (arith, long, is) in
    let few : length part ≤ 64 = omega (arith, one) in
    let small : bits < 2 ^ length part = subst (λ m. bits < 2 ^ m) (sym long) c.bits_of.ensures.bound in
    let lanes = first_lanes frame c.args.blocks.now seen n atoms (kept.aligned c.loop-seen-test.true) (omega (arith, is)) within c.requires.beside.lanes in
    record {
      lanes = c.add_marked.ensures.lanes frame kept.lanes lanes;
      those = λ p all. gathered_all (λ a. p a ≡ true) part old new bits small few (All-take (λ a. p a ≡ true) n (drop seen atoms) (All-drop (λ a. p a ≡ true) seen atoms all)) (kept.those p all) c.add_marked.ensures.atoms;
      pairs = λ m a all. marked_listed a part (IsPairOf m) bits (pairs_with a old) (pairs_with a new) small few (part_all (IsPairOf m) a seen n atoms all) (kept.pairs m a all) (gathered_more a part old new bits c.add_marked.ensures.atoms);
      acting = λ a near.
          part_passed acts a seen n end atoms [] (pairs_with a old) (pairs_with a new) (sym whole)
          (marked_act a part acts bits (pairs_with a old) (pairs_with a new) small few
          (λ j lt unset.
          out_idle f.reach.now f.ring.now frame f.coarse a _ f.on_ring f.is_coarse
          (λ r. c.near_cell-near.ensures.left_out _ _ r (0 + j) _ _ (omega (arith, one, lt)) near (lanes j lt) (sym (c.bits_of.ensures.each j (omega (arith, lt, long))) ∙ unset)))
          (gathered_more a part old new bits c.add_marked.ensures.atoms))
          (kept.acting a near);
      few = omega (arith, ap length c.add_marked.ensures.atoms, length-append old (map (λ j. get_or part j 0) (lanes_of bits)), length-map (lanes_of bits) (λ (j : ℕ). get_or part j 0), length_lanes bits (length part) small few, long, kept.few, whole);
      within = omega (arith, is);
      aligned = λ more. omega (arith, is, more, kept.aligned c.loop-seen-test.true);
    }
