use Rattle.std.proofs.Common.{◌≡◌, ◌∙◌, ap, arith, length, map, take, All}
use Rattle.kernel_lanes.specs.Lanes.{IsServed}
use Rattle.frame_sums.proofs.RowLaws.{forces_found, slopes_asked, slopes_small}
use Rattle.frame_sums.specs.Rows.{query_of}
use Rattle.frame_sums.proofs.safe_systems.SafeSystem.forces.Goals as goal

pub forces-requires-clause-slopes : goal.forces-requires-clause-slopes
forces-requires-clause-slopes g c =
    let s = c.args.self.now.system in
    let found = c.args.scratch.now.found.pairs in
    let queries = take c.len-2.result c.query_all.new.queries in
    let count : c.len-2.result ≡ length found = omega (arith, c.len-2.ensures.value) in
    let served : All (IsServed s.kernel.verified) queries = rw count c.query_all.ensures.served in
    let asked : queries ≡ map (query_of s) found = ap (λ n. take n c.query_all.new.queries) count ∙ c.query_all.ensures.value in
    slopes_small s found c.values.new.values (slopes_asked s found queries c.values.new.values asked served c.requires.bound c.values.ensures.each)

pub returns-clause-forces : goal.returns-clause-forces
returns-clause-forces g c =
    let s = c.args.self.now.system in
    let found = c.args.scratch.now.found.pairs in
    let queries = take c.len-2.result c.query_all.new.queries in
    let count : c.len-2.result ≡ length found = omega (arith, c.len-2.ensures.value) in
    let served : All (IsServed s.kernel.verified) queries = rw count c.query_all.ensures.served in
    let asked : queries ≡ map (query_of s) found = ap (λ n. take n c.query_all.new.queries) count ∙ c.query_all.ensures.value in
    forces_found s found c.values.new.values c.forces.new.forces (slopes_asked s found queries c.values.new.values asked served c.requires.bound c.values.ensures.each) c.forces.ensures
