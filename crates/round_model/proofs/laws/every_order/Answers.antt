use Rattle.std.proofs.Common.{ℕ, ◌+◌, ◌*◌, ◌<◌, length, replicate, ◌∙◌, ap, zero-add, arith}
use Rattle.std.specs.Int.{w64, cast_signed}
use Rattle.std.proofs.Math.ListN.{length-replicate}
use Rattle.rounds.specs.Tiles.{tiles_of}
use Rattle.rounds.proofs.ExactLemmas.{comes_out}
use Rattle.rounds.specs.Interleaving.{opening}
use Rattle.round_model.proofs.RunLemmas.{drawn_after, few_after, summed, whole}
use Rattle.round_model.proofs.laws.every_order.Goals as goal

pub returns-clause-tickets : goal.returns-clause-tickets
returns-clause-tickets c tiles workers entries events = drawn_after tiles (opening workers entries) events ∙ zero-add _

pub returns-clause-few : goal.returns-clause-few
returns-clause-few c tiles workers entries events = few_after tiles workers entries events

pub returns-clause-deposits : goal.returns-clause-deposits
returns-clause-deposits c tiles workers entries events = summed tiles workers entries events

pub returns-clause-whole : goal.returns-clause-whole
returns-clause-whole c tiles workers entries events = whole tiles workers entries events

pub returns-clause-exact : goal.returns-clause-exact
returns-clause-exact c plan workers atoms events words over atom axis within axes fits =
    let inside : 3 * atom + axis < length (replicate (3 * atoms) 0) = omega (arith, length-replicate {A = ℕ} (3 * atoms) 0) in
    ap (cast_signed w64) ((whole (tiles_of plan) workers (3 * atoms) events over).totals (3 * atom + axis) inside) ∙ comes_out atom axis axes plan words fits
