use Rattle.std.proofs.Common.{length, ◌≤◌, ap, ◌∙◌, arith}
use Rattle.std.proofs.lemmas.Fmt.{length-decimal-le}
use Rattle.gro.proofs.writing.count_between.Goals as goal

pub put_right-requires-clause-fits : goal.put_right-requires-clause-fits
put_right-requires-clause-fits g c =
    let few : length c.as_slice.result.now ≤ 65536 = omega (arith, c.args.frame.now.count_fits, ap length c.as_slice.ensures.value) in
    omega (arith, ap length (c.as_bytes.ensures.value ∙ c.format.ensures.text), length-decimal-le 5 (length c.as_slice.result.now) (omega arith) (omega arith) (omega arith))
