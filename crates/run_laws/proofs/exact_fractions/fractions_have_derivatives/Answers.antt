use Rattle.derivative.proofs.DualPrograms.{derivative_program}
use Rattle.run_laws.proofs.FractionClasses.{same_below_nothing, same_floor_of, same_negative, same_nothing, same_product_left, same_product_right, same_reciprocal, same_root, same_square, same_sum_left, same_sum_right}
use Rattle.run_laws.proofs.FractionLaws.{are_exact, stands}
use Rattle.run_laws.specs.Fractions.{fractions}
use Rattle.run_laws.proofs.exact_fractions.fractions_have_derivatives.Goals as goal

pub returns-clause-kept : goal.returns-clause-kept
returns-clause-kept c = record {
  sum_left = same_sum_left;
  sum_right = same_sum_right;
  negative = same_negative;
  product_left = same_product_left;
  product_right = same_product_right;
  reciprocal = same_reciprocal;
  square = same_square;
  root = same_root;
  floor = same_floor_of;
  nothing = same_nothing;
  below_nothing = same_below_nothing;
}

pub returns-clause-derivatives : goal.returns-clause-derivatives
returns-clause-derivatives c kept bits = record {
  exact = are_exact kept bits;
  stands = stands kept bits;
  program = λ inputs count energy slope scoped e. derivative_program (fractions kept bits) (are_exact kept bits) bits (stands kept bits) inputs count energy slope scoped e;
}
