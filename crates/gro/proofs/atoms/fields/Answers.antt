-- Without answers the check closes the goals too, after a search of seconds.
use Rattle.std.proofs.Common.{arith}
use Rattle.std.proofs.lemmas.Grind.{common_steps}
use Rattle.gro.proofs.atoms.fields.Goals as goal

pub residue_number-requires : goal.residue_number-requires
residue_number-requires c = grind (arith, common_steps)

pub slice_bounds-residue_number-end : goal.slice_bounds-residue_number-end
slice_bounds-residue_number-end c = grind (arith, common_steps)

pub slice_bounds-three_columns-end : goal.slice_bounds-three_columns-end
slice_bounds-three_columns-end c = grind (arith, common_steps)

pub slice_bounds-three_columns-count : goal.slice_bounds-three_columns-count
slice_bounds-three_columns-count c = grind (arith, common_steps)

pub slice_bounds-trim-end : goal.slice_bounds-trim-end
slice_bounds-trim-end c = grind (arith, common_steps)

pub slice_bounds-trim-end-2 : goal.slice_bounds-trim-end-2
slice_bounds-trim-end-2 c = grind (arith, common_steps)

pub three_columns-requires-clause-long : goal.three_columns-requires-clause-long
three_columns-requires-clause-long c = grind (arith, common_steps)
