use Rattle.fixed.specs.Fractions.{bits_of}
use Rattle.curves.specs.Tables.{bounds_in, distances_of, others_of}
use Rattle.formula_bounds.proofs.EntryLaws.{program_is_right}
use Rattle.formula_bounds.proofs.WrittenLaws.{program_written}
use Rattle.curves.proofs.HalvingLaws.{bounds_once}
use Rattle.curves.proofs.SliceLaws.{bounds_are_right, derivatives_are_right}
use Rattle.curves.proofs.TableLaws.{inputs_are}
use Rattle.curves.proofs.laws.errors_are_bounded.Goals as goal

pub returns-clause-entry : goal.returns-clause-entry
returns-clause-entry g c = λ k h bits inputs exacts approximations are count program scoped.
    program_is_right k h bits inputs exacts approximations are count program scoped

pub returns-clause-bounds : goal.returns-clause-bounds
returns-clause-bounds g c = λ k h bits count program scoped others r b over. bounds_are_right k h bits count program scoped others r b over

pub returns-clause-written : goal.returns-clause-written
returns-clause-written g c = λ k bits exacts n program have. program_written k bits exacts n program have

pub returns-clause-exact : goal.returns-clause-exact
returns-clause-exact g c = λ bits program others r b d s t. bounds_once bits program others r b d s t

pub returns-clause-derivative : goal.returns-clause-derivative
returns-clause-derivative g c = λ k h bits program others r b right. derivatives_are_right k h bits program others r b right

pub returns-clause-inputs : goal.returns-clause-inputs
returns-clause-inputs g c = λ j a b r. inputs_are j a b r

pub returns-clause-rows : goal.returns-clause-rows
returns-clause-rows g c = λ k h j program plan inputs a b i row scoped is.
    bounds_are_right k h (bits_of j.frac) inputs program scoped (others_of j a b) (distances_of j plan.points i) (bounds_in row) is.bounds
