use Rattle.std.proofs.Common.{◌≡◌, ◌+◌, ◌<◌, length, drop, map}
use Rattle.std.specs.List.{All}
use Rattle.job.specs.Views.{type_value}
use Rattle.state.specs.StateViews.{atom_view}
use Rattle.integrator.specs.Starts.{atom_types}
use Rattle.integrator.proofs.StartLaws.{with_front}
use Rattle.integrator.proofs.starts.atom_types.Given as goal

-- the types found so far, followed by the types of the rest, are the types of all atoms
abbrev pub invariant-loop-k : goal.invariant-loop-k
invariant-loop-k g l =
    let types = map type_value l.job.types.items in
    record {
      left : with_front l.types.items (atom_types types (l.k + 1) (map atom_view (drop l.k l.atoms))) ≡ atom_types types 1 (map atom_view l.atoms);
      known : All (λ t. t < length l.job.types.items) l.types.items;
      count : length l.types.items ≡ l.k;
    }
