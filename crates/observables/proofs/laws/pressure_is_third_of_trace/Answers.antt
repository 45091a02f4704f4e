use Rattle.std.proofs.Common.{◌≡◌, ◌*◌, ◌^◌, ℤ, pos, ◌+ℤ◌, ◌*ℤ◌, refl, ap, arith}
use Rattle.observables.specs.Observables.{diagonal, kinetic_unit, lengths, square_lengths, virial_unit, volume}
use Rattle.observables.proofs.TensorLaws.{denominators, diagonal_sum, numerator_of, trace_of}
use Rattle.observables.proofs.laws.pressure_is_third_of_trace.Goals as goal

pub returns : goal.returns
returns c = λ s o.
    let r = s.ring in
    let u = kinetic_unit s.time_step in
    let w = virial_unit s in
    let c = 10 ^ 15 * 10 ^ 10 in
    let kx : ℤ = pos o.squares.x *ℤ pos r.x *ℤ pos r.x in
    let ky : ℤ = pos o.squares.y *ℤ pos r.y *ℤ pos r.y in
    let kz : ℤ = pos o.squares.z *ℤ pos r.z *ℤ pos r.z in
    let vx : ℤ = o.pairs.sums.virial.x.x *ℤ pos r.x in
    let vy : ℤ = o.pairs.sums.virial.y.y *ℤ pos r.y in
    let vz : ℤ = o.pairs.sums.virial.z.z *ℤ pos r.z in
    let k : ℤ = pos (square_lengths r o.squares) in
    let v = lengths r (diagonal o.pairs.sums.virial) in
    let sum : k ≡ kx +ℤ ky +ℤ kz = ap pos (omega arith) in
    trace_of (numerator_of u w c k v) (numerator_of u (w * 2) c kx (vx +ℤ vx)) (numerator_of u (w * 2) c ky (vy +ℤ vy)) (numerator_of u (w * 2) c kz (vz +ℤ vz))
    (u * (w * 2) * (volume r * 602214076)) (u * w * (3 * volume r * 602214076)) (diagonal_sum u w c k kx ky kz v vx vy vz sum refl) (denominators u w (volume r) 602214076)
