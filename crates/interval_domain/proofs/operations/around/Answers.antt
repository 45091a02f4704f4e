use Rattle.interval_domain.proofs.RangeLemmas.{around_ordered}
use Rattle.interval_domain.proofs.operations.around.Goals as goal

pub invariant_of-result : goal.invariant_of-result
invariant_of-result c =
    let o = around_ordered c.args.p c.args.q c.args.r c.args.s in
    record { ordered = rw (c.min-3.ensures, c.min.ensures, c.min-2.ensures, c.max-3.ensures, c.max.ensures, c.max-2.ensures) o }
