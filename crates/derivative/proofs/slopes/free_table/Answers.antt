use Rattle.std.proofs.Common.{◌≡◌, arith, sym, subst, ◌∙◌, map, length, length-set, zero}
use Rattle.std.specs.Bool.{IsTrue}
use Rattle.std.proofs.lemmas.List.{length-map}
use Rattle.energy_program.specs.Tree.{are_scoped, variable_count, tree_of}
use Rattle.derivative.specs.Written.{IsFreeTable}
use Rattle.derivative.proofs.Table.{IsTableFrom, table_step, table_all}
use Rattle.derivative.proofs.slopes.free_table.Goals as goal

pub loop-i-preserved : goal.loop-i-preserved
loop-i-preserved g c =
    let inputs = variable_count c.args.program.now.parameters c.args.program.now.globals in
    let scoped = subst (λ x. IsTrue (are_scoped inputs 0 (map tree_of x))) (sym c.as_slice-definitions.ensures.value) c.args.program.now.definitions_scoped in
    record {
      below = omega arith;
      counted = c.loop-i.invariant.counted;
      long = length-set c.loop-i.free.items _ _ ∙ c.loop-i.invariant.long;
      made_so_far = table_step inputs c.as_slice-definitions.result.now c.loop-i.i c.loop-i.free.items c.is_free-is_free.result c.index-definitions-i.result
          c.loop-i.invariant.long (omega arith) (omega arith) scoped c.loop-i.invariant.made_so_far
          c.index-definitions-i.is c.deref.ensures.value c.is_free-is_free.ensures;
    }

pub returns : goal.returns
returns g c =
    let ended : c.loop-i.i ≡ zero = omega arith in
    let long : length c.loop-i.free.items ≡ length (map tree_of c.as_slice-definitions.result.now) = c.loop-i.invariant.long ∙ sym (simp length-map) in
    let table : IsTableFrom c.loop-i.free.items zero (map tree_of c.as_slice-definitions.result.now) = subst (λ k. IsTableFrom c.loop-i.free.items k (map tree_of c.as_slice-definitions.result.now)) ended c.loop-i.invariant.made_so_far in
    let whole : IsFreeTable c.loop-i.free.items (map tree_of c.as_slice-definitions.result.now) = table_all c.loop-i.free.items (map tree_of c.as_slice-definitions.result.now) long table in
    subst (λ x. IsFreeTable c.loop-i.free.items (map tree_of x)) c.as_slice-definitions.ensures.value whole
