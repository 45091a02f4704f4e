use Rattle.std.proofs.Common.{◌<◌, ◌^◌, ℕ, MatchOption, arith, inl, inr, subst}
use Rattle.clap.specs.Words.{found_of, rows_of}
use Rattle.command_line.specs.CommandLine.{SaysNumber}
use Rattle.command_line.proofs.CommandLineLaws.{said_read, said_once}
use Rattle.command_line.proofs.values.number_of.Goals as goal

pub returns-in_err-number : goal.returns-in_err-number
returns-in_err-number c =
    let f = found_of c.args.matches.now in
    let name = c.args.name.now in
    let read = said_read name f c.get_one.result c.get_one.ensures.none c.get_one.ensures.value in
    let none = subst (λ r. MatchOption r ((n : ℕ) → n < 2 ^ 64 → SaysNumber name (rows_of f) n → ⊥) (SaysNumber name (rows_of f))) c.in_err-number.was read in
    rw c.from_residual.ensures (λ n is. let within = is.1 in none n (omega arith) is.2)

pub returns-then-number-most : goal.returns-then-number-most
returns-then-number-most c =
    let f = found_of c.args.matches.now in
    let name = c.args.name.now in
    let read = said_read name f c.get_one.result c.get_one.ensures.none c.get_one.ensures.value in
    (omega arith, omega arith, subst (λ r. MatchOption r ((n : ℕ) → n < 2 ^ 64 → SaysNumber name (rows_of f) n → ⊥) (SaysNumber name (rows_of f))) c.in_ok-number.was read)

pub returns-else-least-number : goal.returns-else-least-number
returns-else-least-number c =
    let f = found_of c.args.matches.now in
    let name = c.args.name.now in
    let read = said_read name f c.get_one.result c.get_one.ensures.none c.get_one.ensures.value in
    let said = subst (λ r. MatchOption r ((n : ℕ) → n < 2 ^ 64 → SaysNumber name (rows_of f) n → ⊥) (SaysNumber name (rows_of f))) c.in_ok-number.was read in
    λ n is. let some = is.0 in let within = is.1 in
    let same = said_once name (rows_of f) n c.in_ok-number.number is.2 said in
    elim c.else-least-number.either [
      | inl past ↦ omega (arith, same, within, past.1)
      | inr below ↦ omega (arith, same, some, below)
    ]
