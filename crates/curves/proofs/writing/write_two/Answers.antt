use Rattle.std.proofs.Common.{◌++◌, refl}
use Rattle.fallible.proofs.Appends.{and_then, at_last, hands_on, has_all}
use Rattle.curves.proofs.writing.write_two.Goals as goal

pub returns-in_err-write_both : goal.returns-in_err-write_both
returns-in_err-write_both g c =
    let one = c.args.head.now ++ c.args.body.now in
    let next = c.args.next_head.now ++ c.args.next_body.now in
    hands_on _ one next c.from_residual.result c.from_residual.ensures.1 (has_all (one ++ next) refl) c.in_err-write_both.ensures

pub returns : goal.returns
returns g c =
    let one = c.args.head.now ++ c.args.body.now in
    let next = c.args.next_head.now ++ c.args.next_body.now in
    at_last _ next c.write_both-2.result (and_then one next (has_all (one ++ next) refl) c.in_ok-write_both.ensures) c.write_both-2.ensures
