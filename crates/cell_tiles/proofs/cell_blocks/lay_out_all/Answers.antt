use Rattle.std.proofs.Common.{◌≡◌, ◌∙◌, [], ap, arith, get_or, inl, inr, length, length-set, map, sym}
use Rattle.std.proofs.lemmas.Bool.{cases_lt}
use Rattle.std.proofs.lemmas.List.{get_or-map, length-map}
use Rattle.cell_tiles.proofs.BlockLemmas.{cell_more, no_cell}
use Rattle.cell_tiles.proofs.cell_blocks.lay_out_all.Goals as goal

pub loop-cell-preserved : goal.loop-cell-preserved
loop-cell-preserved g c =
    let members = map (λ m. m.items) c.args.members.now in
    let cell = c.loop-cell.cell in
    let kept = c.loop-cell.invariant in
    let there : get_or members cell [] ≡ c.as_slice.result.now =
    get_or-map (λ m. m.items) c.args.members.now cell c.index-members-cell.result [] (omega (arith, c.loop-cell-test.true))
    ∙ sym (c.as_slice.ensures.value ∙ ap (λ m. m.items) c.index-members-cell.is) in
    record {
      blocks = cell_more c.args.frame.now (λ b. b.items) members c.loop-cell.blocks.items cell c.lay_out.new.blocks (omega (arith, kept.whole, c.requires.cells, c.loop-cell-test.true)) (rw there c.in_ok-lay_out.ensures) kept.blocks;
      whole = length-set c.loop-cell.blocks.items cell c.lay_out.new.blocks ∙ kept.whole;
    }

pub returns-clause-blocks : goal.returns-clause-blocks
returns-clause-blocks g c n =
    let members = map (λ m. m.items) c.args.members.now in
    let blocks = map (λ b. b.items) c.loop-cell.blocks.items in
    let many : length members ≡ length c.args.members.now = length-map c.args.members.now (λ m. m.items) in
    let same : length blocks ≡ length c.loop-cell.blocks.items = length-map c.loop-cell.blocks.items (λ b. b.items) in
    elim (cases_lt n c.loop-cell.cell) [
      | inl lt ↦ c.loop-cell.invariant.blocks n lt
      | inr le ↦ no_cell c.args.frame.now members blocks n (omega (arith, many, c.loop-cell-test.false, le)) (omega (arith, same, c.loop-cell.invariant.whole, c.requires.cells, c.loop-cell-test.false, le))
    ]
