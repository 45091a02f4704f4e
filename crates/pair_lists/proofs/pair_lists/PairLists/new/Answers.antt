use Rattle.std.proofs.Common.{◌≡◌, ap, subst, sym, ◌∙◌, IfSome, true≢false}
use Rattle.cell_tiles.specs.declared.grids.Grid.{Grid}
use Rattle.ring_box.specs.Acting.{IsReach, Reach}
use Rattle.ring_box.specs.Cells.{NearAreNeighbours}
use Rattle.pair_lists.specs.Margins.{IsMargin}
use Rattle.pair_lists.proofs.pair_lists.PairLists.new.Goals as goal

pub invariant_of-result : goal.invariant_of-result
invariant_of-result g c =
    let b = c.args.ring in
    let reach : Reach = record { frac = c.args.frac; core = c.args.core; cutoff = c.args.cutoff } in
    let same : c.new-3.result ≡ reach = c.new-3.ensures in
    let grid = c.new-grid.result in
    let cells = c.in_ok-cells.cells in
    let alike : cells.bits ≡ grid.bits = c.in_ok-cells.ensures.bits in
    record {
      range = subst IsReach (sym same) (record { core = c.requires.core; order = c.requires.order; cutoff = c.requires.most });
      alike = ap (λ (g : Grid). g.bits) c.in_ok-tiles.ensures ∙ sym alike;
      neighbours = subst (λ (d : Reach). NearAreNeighbours d.frac b d.cutoff cells.bits) (sym same)
          (subst (NearAreNeighbours reach.frac b reach.cutoff) (sym (alike ∙ c.new-grid.ensures)) c.cell_bits.ensures.neighbours);
      is_margin = subst (λ d. IfSome c.in_ok-new.field-0 (IsMargin b d)) (sym same) c.in_ok-new.ensures;
      kept = λ no. absurd (true≢false (sym no));
    }
