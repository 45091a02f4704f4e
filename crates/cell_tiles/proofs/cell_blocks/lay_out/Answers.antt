use Rattle.std.proofs.Common.{ℕ, ◌≡◌, ◌*◌, ◌-◌, ◌<◌, ap, arith, drop, get_or, length, length-drop, subst, take}
use Rattle.std.proofs.lemmas.List.{length_push, take_all}
use Rattle.place_blocks.specs.Blocks.{IsLane}
use Rattle.ring_box.specs.Places.{places_of}
use Rattle.cell_tiles.proofs.BlockLemmas.{block_more}
use Rattle.cell_tiles.proofs.cell_blocks.lay_out.Goals as goal

pub loop-block-preserved : goal.loop-block-preserved
loop-block-preserved g c =
    let kept = c.loop-block.invariant in
    let blocks = c.loop-block.blocks.items in
    let items = c.in_ok-push.ensures.items in
    let atoms = c.args.atoms.now in
    let from = 16 * c.loop-block.block in
    let rest : take (length atoms - from) (drop from atoms) ≡ drop from atoms = take_all (length atoms - from) (drop from atoms) (omega (arith, length-drop from atoms)) in
    record {
      long = omega (arith, ap length items, length_push blocks c.block_of.result, kept.long);
      lanes = rw items (block_more c.args.frame.now c.args.atoms.now blocks c.loop-block.block c.block_of.result kept.long kept.lanes
          (subst (λ xs. (j : ℕ) → j < 16 → j < length xs → IsLane c.block_of.result j (places_of c.args.frame.now (get_or xs j 0))) rest c.block_of.ensures));
    }
