use Rattle.std.proofs.Common.{◌≡◌, ◌∙◌, None, Some, ap, arith, rules, option_map, refl}
use Rattle.ring_box.specs.declared.found_pairs.FoundPair.{FoundPair}
use Rattle.frame_sums.proofs.RowLaws.{found_adds, slope_adds, slope_is}
use Rattle.frame_sums.proofs.SafeLaws.{bound_fits}
use Rattle.frame_sums.specs.Rows.{add_found, found_of, query_of}
use Rattle.frame_sums.proofs.safe_systems.SafeSystem.pair_add.Goals as goal

pub opposite-requires : goal.opposite-requires
opposite-requires g c =
    let s = c.args.self.now.system in
    let bound = bound_fits s c.args.self.now.accepted c.args.low c.args.high c.requires.apart (omega (arith, c.requires.high, c.requires.atoms)) in
    (slope_is s c.query-query.result c.value-slope.result c.query-query.ensures.served bound c.value-slope.ensures).fits

pub returns-in-Some : goal.returns-in-Some
returns-in-Some g c =
    let s = c.args.self.now.system in
    let pair : FoundPair = record { low = c.args.low; high = c.args.high; acting = c.in-Some.acting } in
    let bound = bound_fits s c.args.self.now.accepted c.args.low c.args.high c.requires.apart (omega (arith, c.requires.high, c.requires.atoms)) in
    let slope = slope_is s c.query-query.result c.value-slope.result c.query-query.ensures.served bound c.value-slope.ensures in
    let found : Some pair ≡ found_of s c.args.frame.now (c.args.low, c.args.high) = search rules in
    let asked : c.query-query.result ≡ query_of s pair = c.query-query.ensures.value ∙ rw c.distance.ensures refl in
    ap Some (slope_adds s pair c.query-query.result c.value-slope.result c.opposite.result c.force.result c.added.result slope asked c.opposite.ensures.value c.force.ensures.value c.added.ensures)
    ∙ (ap (option_map (add_found s)) found ∙ found_adds s c.args.frame.now (c.args.low, c.args.high))

pub returns-in-None : goal.returns-in-None
returns-in-None g c =
    let s = c.args.self.now.system in
    let found : None ≡ found_of s c.args.frame.now (c.args.low, c.args.high) = search rules in
    ap (option_map (add_found s)) found ∙ found_adds s c.args.frame.now (c.args.low, c.args.high)
