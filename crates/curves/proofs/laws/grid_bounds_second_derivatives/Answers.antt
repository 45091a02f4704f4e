use Rattle.curves.specs.Tables.{others_of}
use Rattle.curves.proofs.SecondLaws.{bounds_second, column_bounds, derivative_everywhere}
use Rattle.curves.proofs.laws.grid_bounds_second_derivatives.Goals as goal

pub returns-clause-derivative : goal.returns-clause-derivative
returns-clause-derivative g c = λ k h bits stands inputs count formula scoped. derivative_everywhere k bits stands h inputs count formula scoped

pub returns-clause-second : goal.returns-clause-second
returns-clause-second g c = λ k h bits stands count program slope scoped is others z. bounds_second k h bits stands count program slope scoped is others z

pub returns-clause-rows : goal.returns-clause-rows
returns-clause-rows g c = λ k h j stands program plan inputs a b i row scoped is.
    column_bounds k h j stands inputs program scoped plan.columns (others_of j a b) row.distance row.slope_grid is.grid
