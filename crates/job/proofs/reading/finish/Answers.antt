use Rattle.std.proofs.Common.{◌≡◌, ◌≤◌, ℕ, subst, arith, length, map, refl, sym, ap, ◌∙◌}
use Rattle.std.proofs.lemmas.List.{length-map}
use Rattle.std.proofs.lemmas.List.Elements.{All-map, All-same}
use Rattle.job.specs.declared.drafts.TypeLine.{TypeLine}
use Rattle.job.specs.declared.jobs.AtomType.{AtomType}
use Rattle.std.specs.List.{All}
use Rattle.job.specs.Faults as plain
use Rattle.job.specs.Values.{TypeValue}
use Rattle.job.specs.Views.{type_line, type_value}
use Rattle.job.proofs.PartLemmas.{or_default, text_some}
use Rattle.job.proofs.ViewLemmas.{same_views}
use Rattle.job.proofs.reading.finish.Goals as goal

pub invariant_of-result : goal.invariant_of-result
invariant_of-result g c =
    let d = c.args.draft in
    let whole = λ (t : AtomType g.row.A.Denot). length t.values.items ≡ length d.parameters.items in
    record {
      least_core = rw c.in_ok-numbers.ensures.found.0 at d.least_core;
      below_cutoff = c.in_ok-numbers.ensures.above;
      most_cutoff = rw c.in_ok-numbers.ensures.found.1 at d.most_cutoff;
      some_slices = or_default (λ n. 1 ≤ n) d.slices 64 _ c.unwrap_or.ensures d.some_slices (omega arith);
      most_slices = or_default (λ n. n ≤ 65536) d.slices 64 _ c.unwrap_or.ensures d.most_slices (omega arith);
      named = d.named;
      few_parameters = d.few_parameters;
      few_globals = d.few_globals;
      few_types = omega (arith, ap length c.in_ok-types.ensures, length-map d.types.items (λ (l : TypeLine g.row.A.Denot). l.value), d.few_types);
      whole = All-same whole c.in_ok-types.types.items _ c.in_ok-types.ensures (All-map whole (λ (l : TypeLine g.row.A.Denot). l.value) d.types.items c.in_ok-numbers.ensures.whole);
    }

pub returns-clause-job : goal.returns-clause-job
returns-clause-job g c =
    let d = c.args.draft in
    let numbers = c.in_ok-numbers.ensures in
    let count = length (map (λ p. p.items) d.parameters.items) in
    let types = same_views type_line (λ (t : plain.TypeLine). t.value) (λ (l : TypeLine g.row.A.Denot). l.value) type_value d.types.items (λ x. refl) ∙ ap (map type_value) (sym c.in_ok-types.ensures) in
    record {
      frac = refl;
      energy = text_some d.energy.items numbers.energy;
      core = numbers.found.0;
      cutoff = numbers.found.1;
      below_cutoff = numbers.above;
      time_step = numbers.found.2;
      slices = sym c.unwrap_or.ensures;
      parameters = refl;
      globals = refl;
      types = types;
      whole = All-map (λ (u : TypeValue). length u.values ≡ count) type_value c.in_ok-types.types.items
          (All-same (λ (t : AtomType g.row.A.Denot). length t.values.items ≡ count) c.in_ok-types.types.items _ c.in_ok-types.ensures
          (All-map (λ (t : AtomType g.row.A.Denot). length t.values.items ≡ count) (λ (l : TypeLine g.row.A.Denot). l.value) d.types.items
          (subst (λ (n : ℕ). All (λ (l : TypeLine g.row.A.Denot). length l.value.values.items ≡ n) d.types.items) (sym (length-map d.parameters.items (λ p. p.items))) numbers.whole)));
    }
