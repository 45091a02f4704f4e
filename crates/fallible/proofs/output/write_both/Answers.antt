use Rattle.std.proofs.Common.{◌++◌, refl}
use Rattle.fallible.proofs.Appends.{and_then, at_last, hands_on, has_all}
use Rattle.fallible.proofs.output.write_both.Goals as goal

-- a beginning of the first part
pub returns-in_err-write_all : goal.returns-in_err-write_all
returns-in_err-write_all g c =
    let first = c.args.first.now in
    let second = c.args.second.now in
    hands_on _ first second c.from_residual.result c.from_residual.ensures.1 (has_all (first ++ second) refl) c.in_err-write_all.ensures

-- the first part, and the second or a beginning of it
pub returns : goal.returns
returns g c =
    let first = c.args.first.now in
    let second = c.args.second.now in
    at_last (g.O.Out.output c.write_all-2.new.out) second c.write_all-2.result
    (and_then first second (has_all (first ++ second) refl) c.in_ok-write_all.ensures) c.write_all-2.ensures
