use Rattle.std.proofs.Common.{◌∙◌, sym}
use Rattle.std.specs.Str.{bytes_eq}
use Rattle.energy_program.proofs.NameLemmas.{position-map}
use Rattle.energy_program.proofs.variables.Names.input_of.Goals as goal

pub returns-in-Some-clause-value : goal.returns-in-Some-clause-value
returns-in-Some-clause-value g c =
    sym c.in-Some.is ∙ c.get_index_of.ensures.index ∙ sym (position-map (bytes_eq c.args.name.now) (λ v. v.items) c.args.self.now.variables.keys)

pub returns-in-None-clause-value : goal.returns-in-None-clause-value
returns-in-None-clause-value g c =
    sym c.in-None.is ∙ c.get_index_of.ensures.index ∙ sym (position-map (bytes_eq c.args.name.now) (λ v. v.items) c.args.self.now.variables.keys)
