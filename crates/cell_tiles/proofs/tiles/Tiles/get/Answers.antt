use Rattle.cell_tiles.proofs.TileLemmas.{tile_at, tile_read}
use Rattle.cell_tiles.specs.Tiles.{tiles_of}
use Rattle.cell_tiles.proofs.tiles.Tiles.get.Goals as goal

pub returns : goal.returns
returns g c =
    let s = c.args.self.now in
    let value = tile_read (λ t. (t.first, t.second)) s.tiles.items (tiles_of s.grid.bits) c.args.tile _ s.are_all c.requires c.index.ensures in
    let cells = tile_at s.grid.bits c.args.tile _ _ value in
    record { value = value; order = cells.0; bound = cells.1 }
