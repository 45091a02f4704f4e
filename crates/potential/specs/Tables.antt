-- The values of the variables of a job's energy, and the names of the job's types.
use Rattle.std.specs.Prelude.{ℕ, ℤ, List, [], length, map, slice_index_or}
use Rattle.fixed.specs.declared.constants.Constant.{Constant}
use Rattle.job.specs.Values.{GlobalValue, JobValue, TypeValue}
use Rattle.kernel_code.specs.Tables.{Table}

-- the numbers that were read, without their errors
abbrev pub numbers_of : List Constant → List ℤ
numbers_of constants = map (λ c. c.value) constants

-- the parameter values of each type
abbrev pub type_rows : List TypeValue → List (List ℤ)
type_rows types = map (λ t. numbers_of t.values) types

abbrev pub global_values : List GlobalValue → List ℤ
global_values globals = map (λ g. g.value.value) globals

-- the table of a job: the values of its types' parameters and of its globals, as they were read
abbrev pub table_of : JobValue → Table
table_of j = record { frac = j.frac; parameters = length j.parameters; rows = type_rows j.types; globals = global_values j.globals }

abbrev pub no_type : TypeValue
no_type = record { name = []; mass = 0; values = [] }

-- the name of the type with the index t
abbrev pub name_of_type : JobValue → ℕ → List ℕ
name_of_type j t = (slice_index_or j.types t no_type).name
