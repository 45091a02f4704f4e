use Rattle.std.proofs.Common.{◌≡◌, ℕ, ◌+◌, ◌-◌, ◌^◌, ◌<◌, ◌≤◌, ap, arith, drop, length, length-drop, map, subst, sym, take, ◌∙◌}
use Rattle.std.proofs.lemmas.List.{length-append, length-map, length-take-le, take-append-le}
use Rattle.cell_tiles.specs.Near.{IsPairOf, lanes_of, mark, named, pair_acts}
use Rattle.cell_tiles.proofs.LaneLemmas.{each_lane_below, length_lanes}
use Rattle.cell_tiles.proofs.ListLemmas.{first_lanes, marked_act, marked_listed, out_idle, part_all, part_passed}
use Rattle.cell_tiles.proofs.MarkLemmas.{marks_below, named_more}
use Rattle.cell_tiles.proofs.marks.Marks.mark_row.Goals as goal

pub loop-seen-preserved : goal.loop-seen-preserved
loop-seen-preserved c =
    let f = c.args.frame.now in
    let frame = f.places.now in
    let acts = pair_acts f.reach.now f.ring.now frame in
    let a = c.args.atom in
    let ys = c.args.gathered.now.atoms in
    let seen = c.loop-seen.seen in
    let end = c.min-end.result in
    let n = end - seen in
    let is = c.min-end.ensures in
    let kept = c.loop-seen.invariant in
    let wide = ap length c.atoms-count.ensures.value in
    let bits = c.bits_of.result in
    let part = take n (drop seen ys) in
    let old = c.loop-seen.self in
    let new = c.mark_block.new.self in
    let whole : seen + n ≡ end = omega (arith, is, c.loop-seen-test.true) in
    let within : seen + n ≤ length ys = omega (arith, is, wide, c.loop-seen-test.true) in
    let long : length part ≡ n = length-take-le n (drop seen ys) (omega (arith, length-drop seen ys, is, wide)) in
    let one : length part ≤ 16 = omega (arith, long, is) in
    let few : length part ≤ 64 = omega (arith, one) in
    let small : bits < 2 ^ length part = subst (λ m. bits < 2 ^ m) (sym long) c.bits_of.ensures.bound in
    let each = each_lane_below bits n c.bits_of.ensures.bound (omega (arith, is)) in
    let lanes = first_lanes frame c.args.gathered.now.blocks seen n ys (kept.aligned (omega (arith, wide, c.loop-seen-test.true))) (omega (arith, is)) within c.requires.gathered in
    let more = named_more a seen n ys (lanes_of bits) old new each c.mark_block.ensures in
    record {
      acting =
          part_passed acts a seen n end ys (named ys c.args.self.now) (named ys old) (named ys new) (sym whole)
          (marked_act a part acts bits (named ys old) (named ys new) small few
          (λ j lt unset.
          out_idle f.reach.now f.ring.now frame f.coarse a _ f.on_ring f.is_coarse
          (λ r. (rw c.blocks-blocks.ensures.value at c.near-near.ensures.left_out) _ _ r (0 + j) _ _ (omega (arith, one, lt)) c.requires.halves (lanes j lt) (sym (c.bits_of.ensures.each j (omega (arith, lt, long))) ∙ unset)))
          more)
          kept.acting;
      listed = λ all. marked_listed a part (IsPairOf (length frame)) bits (named ys old) (named ys new) small few (part_all (IsPairOf (length frame)) a seen n ys c.requires.pairs) (kept.listed all) more;
      below = λ all. marks_below a seen n (length ys) (lanes_of bits) old new within each (kept.below all) c.mark_block.ensures;
      few =
          omega (arith, ap length c.mark_block.ensures, length-append old (map (λ j. mark a (seen + j)) (lanes_of bits)), length-map (lanes_of bits) (λ (j : ℕ). mark a (seen + j)), length_lanes bits (length part) small few, long, kept.few, whole);
      long = omega (arith, kept.long, ap length c.mark_block.ensures, length-append old (map (λ j. mark a (seen + j)) (lanes_of bits)));
      kept = ap (take (length c.args.self.now)) c.mark_block.ensures ∙ take-append-le (length c.args.self.now) old (map (λ j. mark a (seen + j)) (lanes_of bits)) kept.long ∙ kept.kept;
      within = omega (arith, is, wide);
      aligned = λ lt. omega (arith, is, wide, lt, kept.aligned (omega (arith, wide, c.loop-seen-test.true)));
    }
