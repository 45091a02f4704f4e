-- Values of the code's types.
use Rattle.std.specs.Prelude.{ℕ, List, [], ◌∷◌, Option, Some, None, map, string_bytes}
use Rattle.fixed.specs.declared.constants.Constant.{Constant}
use Rattle.line_text.specs.Names.{name_text}
use Rattle.job.specs.declared.faults.JobFault.{JobFault}
use Rattle.job.specs.declared.faults.JobFault.TheVariants as faults
use Rattle.job.specs.declared.jobs.Global.{Global}
use Rattle.job.specs.declared.jobs.AtomType.{AtomType}
use Rattle.job.specs.declared.jobs.Job.{Job}
use Rattle.job.specs.declared.drafts.Draft.{Draft}
use Rattle.job.specs.declared.drafts.TypeLine.{TypeLine}
use Rattle.job.specs.declared.drafts.TypeNumbers.{TypeNumbers}
use Rattle.job.specs.Values.{GlobalValue, TypeValue, JobValue}
use Rattle.job.specs.Faults as plain

-- the value of a global
abbrev pub global_value : {A : Type 0} → Global A → GlobalValue
global_value g = record { name = g.name.items; value = g.value }

-- the value of a type
abbrev pub type_value : {A : Type 0} → AtomType A → TypeValue
type_value t = record { name = name_text t.name; mass = t.mass; values = t.values.items }

-- the value of a job
abbrev pub job_value : {A : Type 0} → Job A → JobValue
job_value j = record {
  frac = j.frac;
  energy = j.energy.items;
  core = j.core;
  cutoff = j.cutoff;
  time_step = j.time_step;
  slices = j.slices;
  parameters = map (λ p. p.items) j.parameters.items;
  globals = map global_value j.globals.items;
  types = map type_value j.types.items;
}

-- the value of a type with its line
abbrev pub type_line : {A : Type 0} → TypeLine A → plain.TypeLine
type_line t = record { line = t.line; value = type_value t.value }

-- the mass and the values of a type
abbrev pub type_numbers_of : {A : Type 0} → TypeNumbers A → ℕ × List Constant
type_numbers_of t = (t.mass, t.values.items)

-- the energy's text, None if it is empty, which means that no line had an energy
abbrev pub text_said : List ℕ → Option (List ℕ)
text_said [] = None
text_said (b ∷ bs) = Some (b ∷ bs)

-- the value of a draft
abbrev pub said_of : {A : Type 0} → Draft A → plain.Said
said_of d = record {
  frac = d.frac;
  energy = text_said d.energy.items;
  core = d.core;
  cutoff = d.cutoff;
  time_step = d.time_step;
  slices = d.slices;
  parameters = map (λ p. p.items) d.parameters.items;
  globals = map global_value d.globals.items;
  types = map type_line d.types.items;
  bits = d.bits;
}

-- the fault of the specification for a fault of the code
abbrev pub refusal_of : {A : Type 0} → JobFault A → plain.Refusal
refusal_of (faults.BadLine n) = plain.bad_line n
refusal_of (faults.Missing key) = plain.missing key
refusal_of (faults.Repeated key) = plain.repeated key
refusal_of (faults.RepeatedName name) = plain.repeated_name (string_bytes name)
refusal_of (faults.Range key) = plain.out_of_range key
refusal_of (faults.RepeatedType name) = plain.repeated_type (string_bytes name)
