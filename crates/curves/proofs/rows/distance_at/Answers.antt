use Rattle.std.proofs.Common.{◌≡◌, ◌∙◌, ◌+ℤ◌, ◌*◌, ◌/◌, ℕ, pos, FitsSigned, ap, arith, rules, w64}
use Rattle.std.proofs.lemmas.Int.{ints}
use Rattle.curves.proofs.rows.distance_at.Goals as goal

pub overflow_cast-part : goal.overflow_cast-part
overflow_cast-part g c =
    let fits : FitsSigned w64 c.args.job.now.cutoff = search rules in
    omega (arith, ints, c.part_of-part.ensures.most, c.length_of.ensures.room)

pub overflow_add-raw : goal.overflow_add-raw
overflow_add-raw g c =
    let fits : FitsSigned w64 c.args.job.now.cutoff = search rules in
    omega (arith, ints, c.part_of-part.ensures.most, c.length_of.ensures.room, c.raw.ensures)

pub returns-clause-value : goal.returns-clause-value
returns-clause-value g c =
    let fits : FitsSigned w64 c.args.job.now.cutoff = search rules in
    let sum : c.from_raw.result ≡ c.args.job.now.core +ℤ pos c.part_of-part.result =
    omega (arith, ints, c.from_raw.ensures, c.raw.ensures, c.part_of-part.ensures.most, c.length_of.ensures.room) in
    sum
    ∙ ap (λ (n : ℕ). c.args.job.now.core +ℤ pos n)
    (c.part_of-part.ensures.value ∙ ap (λ (n : ℕ). n * c.args.i / c.args.points) c.length_of.ensures.value)

pub returns-clause-low : goal.returns-clause-low
returns-clause-low g c =
    let fits : FitsSigned w64 c.args.job.now.cutoff = search rules in
    omega (arith, ints, c.from_raw.ensures, c.raw.ensures, c.part_of-part.ensures.most, c.length_of.ensures.room)

pub returns-clause-sign : goal.returns-clause-sign
returns-clause-sign g c =
    let fits : FitsSigned w64 c.args.job.now.cutoff = search rules in
    omega (arith, ints, c.from_raw.ensures, c.raw.ensures, c.part_of-part.ensures.most, c.length_of.ensures.room, c.args.job.now.least_core)

pub returns-clause-high : goal.returns-clause-high
returns-clause-high g c =
    let fits : FitsSigned w64 c.args.job.now.cutoff = search rules in
    omega (arith, ints, c.from_raw.ensures, c.raw.ensures, c.part_of-part.ensures.most, c.length_of.ensures.room)
