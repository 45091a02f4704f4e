use Rattle.std.proofs.Common.{inl, inr, arith, rules}
use Rattle.std.proofs.lemmas.Bool.{cases_eq}
use Rattle.std.proofs.lemmas.List.{get_or-set_other, get_or-set_same}
use Rattle.std.specs.Float.Ieee.{nan}
use Rattle.float_filters.proofs.lengths.near_lengths.Goals as goal

pub loop-l-preserved : goal.loop-l-preserved
loop-l-preserved c =
    record {
      size = search rules;
      near = λ k s lt bound near. elim (cases_eq k c.loop-l.l) [
        | inl e ↦
            rw (e, get_or-set_same c.loop-l.lengths c.loop-l.l c.near_length.result nan (omega (arith, c.loop-l.invariant.size)))
            (c.near_length.ensures s bound (rw e at near))
        | inr n ↦ rw (get_or-set_other c.loop-l.lengths c.loop-l.l k c.near_length.result nan n) (c.loop-l.invariant.near k s (omega arith) bound near)
      ];
    }
