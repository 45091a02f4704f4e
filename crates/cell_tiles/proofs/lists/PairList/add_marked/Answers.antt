use Rattle.std.proofs.Common.{◌≡◌, ℕ, ◌++◌, [], length, map, get_or, take, ap, sym, ◌∙◌, arith, append-nil}
use Rattle.std.proofs.lemmas.List.{length-map, length-take-le}
use Rattle.ring_box.specs.declared.pairs.AtomPair.{AtomPair}
use Rattle.cell_tiles.specs.Near.{lanes_of}
use Rattle.cell_tiles.specs.Tiles.{pair_of}
use Rattle.cell_tiles.proofs.LaneLemmas.{length_lanes, no_lanes}
use Rattle.cell_tiles.proofs.lists.PairList.add_marked.Goals as goal

-- at the loop's start the stored pairs are the old list
pub loop-left-init : goal.loop-left-init
loop-left-init c =
    let at = λ (j : ℕ). pair_of c.args.atom (get_or c.args.others.now j 0) in
    let pair : AtomPair → ℕ × ℕ = λ p. (p.low, p.high) in
    let wide : length c.self.inside.pairs ≡ 192 = omega (arith, c.self.ranges) in
    let many : length c.args.self.now ≡ c.self.inside.count = ap length (sym c.self.view_is) ∙ length-map (take c.self.inside.count c.self.inside.pairs) pair ∙ length-take-le c.self.inside.count c.self.inside.pairs (omega (arith, wide, c.self.invariant)) in
    record {
      listed = ap (λ ps. ps ++ map at (lanes_of c.args.marked)) (sym c.self.view_is);
      kept = ap (λ n. map pair (take n c.self.inside.pairs)) many ∙ c.self.view_is;
      same = sym many;
      on = omega (arith, many);
      most = omega (arith, many, length_lanes c.args.marked (length c.args.others.now) c.requires.marked c.requires.few);
      few = omega (arith, many, c.self.invariant);
      small = c.requires.marked;
      wide = wide;
    }

pub returns-clause-added : goal.returns-clause-added
returns-clause-added c _ =
    let at = λ (j : ℕ). pair_of c.args.atom (get_or c.args.others.now j 0) in
    let done : c.loop-left.left ≡ 0 = c.loop-left-test.false in
    let listed = map (λ (p : AtomPair). (p.low, p.high)) (take c.loop-left.count c.loop-left.self-inside.pairs) in
    let none : map at (lanes_of c.loop-left.left) ≡ [] = ap (λ b. map at (lanes_of b)) done ∙ ap (map at) no_lanes in
    sym (c.loop-left.invariant.listed ∙ (ap (λ ys. listed ++ ys) none ∙ append-nil listed))
