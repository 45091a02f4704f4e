use Rattle.std.proofs.Common.{ap, arith}
use Rattle.std.specs.Simd.Lanes.{put_chunk}
use Rattle.std.proofs.lemmas.Simd.{zip2_splat}
use Rattle.cell_tiles.proofs.marks.put_indices.Goals as goal

pub returns : goal.returns
returns c = ap (put_chunk c.args.at c.args.indices.now) (zip2_splat _ c.args.lanes 8 c.args.first (omega arith))
