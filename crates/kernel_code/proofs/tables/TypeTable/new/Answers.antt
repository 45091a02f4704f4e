use Rattle.std.proofs.Common.{◌≡◌, ◌≤◌, ℤ, List, length, Vec, subst, sym}
use Rattle.std.proofs.lemmas.List.{length-map}
use Rattle.std.proofs.lemmas.List.Elements.{All-map}
use Rattle.fixed.specs.declared.number.Fx.{Fx}
use Rattle.kernel_code.proofs.tables.TypeTable.new.Goals as goal

pub invariant_of-result : goal.invariant_of-result
invariant_of-result g c = record {
  rows_whole = All-map (λ (row : List ℤ). length row ≡ c.args.parameters) (λ (row : Vec Fx g.row.A.Denot). row.items) c.args.rows.items c.requires.whole;
  few_parameters = c.requires.few_parameters;
  few_globals = c.requires.few_globals;
  few_types = subst (λ n. n ≤ 64) (sym (length-map c.args.rows.items (λ (row : Vec Fx g.row.A.Denot). row.items))) c.requires.few_types;
}
