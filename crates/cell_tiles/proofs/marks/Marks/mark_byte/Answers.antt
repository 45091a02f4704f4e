use Rattle.std.proofs.Common.{◌≡◌, ◌+◌, ◌++◌, get_or, length, map, replicate, take, ap, sym, ◌∙◌, arith, length-take-le}
use Rattle.std.specs.Simd.Lanes.{put_chunk, zip2}
use Rattle.cell_tiles.specs.Near.{lanes_of, mark, no_byte}
use Rattle.cell_tiles.proofs.LaneLemmas.{each_lane_below}
use Rattle.cell_tiles.proofs.MarkLemmas.{length_marks, marks_more}
use Rattle.cell_tiles.proofs.marks.Marks.mark_byte.Goals as goal

pub invariant_of-self : goal.invariant_of-self
invariant_of-self c =
    let wide : length c.self.inside.atoms ≡ 264 = omega (arith, c.self.ranges) in
    let broad : length c.self.inside.indices ≡ 264 = omega (arith, c.self.ranges) in
    let inv = c.self.invariant in
    let many : length c.args.self.now ≡ c.self.inside.count = ap length (sym c.self.view_is) ∙ length_marks c.self.inside.count c.self.inside.atoms c.self.inside.indices (omega (arith, wide, inv)) (omega (arith, broad, inv)) in
    let here = get_or c.self.inside.table.bytes c.args.byte no_byte in
    let lanes = c.self.inside.table.each c.args.byte c.requires.byte in
    let some : length (lanes_of c.args.byte) ≡ here.count = ap length (sym lanes.lanes) ∙ length-take-le here.count here.lanes (omega (arith, lanes.long, lanes.few)) in
    omega (arith, c.requires.room, many, some)

pub returns : goal.returns
returns c =
    let wide : length c.self.inside.atoms ≡ 264 = omega (arith, c.self.ranges) in
    let broad : length c.self.inside.indices ≡ 264 = omega (arith, c.self.ranges) in
    let here = get_or c.self.inside.table.bytes c.args.byte no_byte in
    let lanes = c.self.inside.table.each c.args.byte c.requires.byte in
    let count = c.self.inside.count in
    let n = count + here.count in
    ap (λ zs. zip2 mark (take n zs) (take n c.put_indices.new.indices)) c.put_atom.ensures
    ∙ ap (λ zs. zip2 mark (take n (put_chunk count c.self.inside.atoms (replicate 8 c.args.atom))) (take n zs)) c.put_indices.ensures
    ∙ marks_more c.args.atom c.args.first count here.count c.self.inside.atoms c.self.inside.indices here.lanes (lanes_of c.args.byte) wide broad c.self.invariant lanes.long lanes.few c.requires.first lanes.lanes
    (each_lane_below c.args.byte 8 c.requires.byte (omega arith))
    ∙ ap (λ ms. ms ++ map (λ j. mark c.args.atom (c.args.first + j)) (lanes_of c.args.byte)) c.self.view_is
