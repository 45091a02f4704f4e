use Rattle.std.proofs.Common.{◌<◌, length, All}
use Rattle.cell_tiles.specs.Cells.{members_of}
use Rattle.cell_tiles.proofs.MemberLemmas.{members_inside}
use Rattle.cell_tiles.proofs.VectorLemmas.{all_seen}
use Rattle.cell_tiles.proofs.cells.Cells.fill.Goals as goal

pub lay_out_all-requires-clause-inside : goal.lay_out_all-requires-clause-inside
lay_out_all-requires-clause-inside g c =
    let frame = c.args.frame.now in
    all_seen (λ m. m.items) (All (λ a. a < length frame)) c.deref.result.now (members_of c.self.inside.grid.bits frame) (rw c.deref.ensures.value c.in_ok-put_all.ensures.ok) (members_inside c.self.inside.grid.bits frame)

pub returns-clause-beside : goal.returns-clause-beside
returns-clause-beside g c = rw (← c.deref.ensures.value) c.lay_out_all.ensures.blocks
