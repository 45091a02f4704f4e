use Rattle.std.proofs.Common.{◌≡◌, ◌+◌, ◌*◌, ◌/◌, ◌^◌, ◌≤◌, ℕ}
use Rattle.std.proofs.Math.Nat.{div-mul-le_self}
use Rattle.ring_box.specs.Acting.{limit_of}
use Rattle.place_blocks.proofs.BlockLemmas.{next_limit}
use Rattle.place_blocks.proofs.coarse_reaches.CoarseReach.new.Goals as goal

kept : (side x cut c : ℕ) → x ≡ side → c ≡ x / 2 ^ cut → c * 2 ^ cut ≤ side
kept side x cut c e f = rw (f, e) (div-mul-le_self side (2 ^ cut))

pub returns-clause-reach : goal.returns-clause-reach
returns-clause-reach c =
    let b = c.args.ring.now in
    let d = c.args.reach.now in
    let cut = c.bits_to_cut-cut.result in
    record {
      reach = c.limit.ensures.reach;
      cut = cut;
      x = kept b.x _ cut _ c.get-4.ensures.value c.upper_bits.ensures;
      y = kept b.y _ cut _ c.get-5.ensures.value c.upper_bits-2.ensures;
      z = kept b.z _ cut _ c.get-6.ensures.value c.upper_bits-3.ensures;
      limit = λ small. next_limit (limit_of d.frac d.cutoff) (64 + 2 * cut) _ (rw c.limit.ensures.value at c.upper_limit.ensures) small;
    }
