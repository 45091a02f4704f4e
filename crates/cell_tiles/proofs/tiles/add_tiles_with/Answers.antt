use Rattle.std.proofs.Common.{◌∙◌, sym, arith}
use Rattle.std.proofs.lemmas.List.{map_push}
use Rattle.cell_tiles.proofs.TileLemmas.{with_near, with_none, with_run}
use Rattle.cell_tiles.proofs.tiles.add_tiles_with.Goals as goal

pub loop-c-init : goal.loop-c-init
loop-c-init g c = record { within = omega arith; added = with_none c.args.grid.now.bits c.args.d _ }

pub loop-c-preserved-then-are_near : goal.loop-c-preserved-then-are_near
loop-c-preserved-then-are_near g c =
    record {
      within = omega arith;
      added = rw (c.in_ok-push.ensures.items, map_push, c.loop-c.invariant.added) (with_near c.args.grid.now.bits c.args.d c.loop-c.c _ (sym c.are_near.ensures ∙ c.if-are_near.true));
    }

pub loop-c-preserved : goal.loop-c-preserved
loop-c-preserved g c =
    record {
      within = omega arith;
      added = c.loop-c.invariant.added ∙ with_run c.args.grid.now.bits c.args.d c.loop-c.c _ _ c.past_far-c.ensures.after c.past_far-c.ensures.far;
    }
