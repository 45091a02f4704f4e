use Rattle.std.proofs.Common.{◌≡◌, ◌<◌, ◌≤◌, take, map}
use Rattle.std.specs.List.{All}
use Rattle.job.specs.Views.{type_value}
use Rattle.integrator.specs.Starts.{mass_of}
use Rattle.integrator.proofs.starts.atom_masses.Given as goal

abbrev pub invariant-loop-number : goal.invariant-loop-number
invariant-loop-number g l =
    record {
      value : l.masses.items ≡ map (mass_of (map type_value l.kinds)) (take l.number-index l.types);
      some : All (λ m. 0 < m) l.masses.items;
      most : All (λ m. m ≤ 100000000) l.masses.items;
    }
