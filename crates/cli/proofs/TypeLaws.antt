-- Types of a job, found by their names.
use Rattle.std.proofs.Common.{◌≡◌, ◌≤◌, ◌*◌, ◌∙◌, ℕ, List, Some, None, true, false, arith, get_or, length, sym}
use Rattle.std.proofs.lemmas.Grind.{common_steps}
use Rattle.std.proofs.lemmas.List.Quantifiers.{position-Some}
use Rattle.std.proofs.lemmas.List.Sums.{fails_before_first}
use Rattle.std.proofs.lemmas.Nat.{mul-le}
use Rattle.std.proofs.lemmas.Slice.Eq.{bytes_eq-Decides}
use Rattle.std.specs.List.{position_or_len}
use Rattle.std.specs.Str.{bytes_eq}
use Rattle.integrator.specs.Starts.{type_with}
use Rattle.job.specs.Values.{JobValue, TypeValue}
use Rattle.potential.specs.Tables.{no_type}
use Rattle.cli.specs.CurveTexts.{IsTypeNamed, LacksType}

-- the type that is found by a name has the name
pub type_found : (j : JobValue) (name : List ℕ) (number : ℕ) → type_with j.types name ≡ Some number → IsTypeNamed j name number
type_found j name number e =
    let at = position-Some (λ (t : TypeValue). bytes_eq t.name name) j.types number no_type e in
    record { within = at.0; is = (bytes_eq-Decides (get_or j.types number no_type).name name).0 at.1 }

-- if no type is found by a name, no type has the name
pub none_found : (j : JobValue) (name : List ℕ) → type_with j.types name ≡ None → LacksType j name
none_found j name e number is =
    let past : length j.types ≤ position_or_len (λ (t : TypeValue). bytes_eq t.name name) j.types = grind (arith, common_steps) in
    let within = is.within in
    let fails = fails_before_first (λ (t : TypeValue). bytes_eq t.name name) j.types number no_type (omega (arith, within, past)) in
    let bad : true ≡ false = sym ((bytes_eq-Decides (get_or j.types number no_type).name name).1 is.is) ∙ fails in
    cc

-- A job has at most 64 types, so at most 4096 ordered pairs of types.
pub few_pairs : (types : ℕ) → types ≤ 64 → types * types ≤ 4096
few_pairs types few = mul-le types types 64 64 few few
