-- The meaning of texts according to the run specification is the one that the readers find.
use Rattle.std.proofs.Common.{◌≡◌, ℕ, zero, suc, ◌<◌, ◌*◌, true, false, List, [], ◌∷◌, ◌++◌, length, get_or, Option, Some, None, Ok, ℤ, arith, refl, ap, sym, subst, ◌∙◌, append_assoc, map, bytes_eq, codes, ◌&&◌, ◌||◌, eqb-true, leb-true, append-nil, ext_get_or}
use Rattle.std.specs.List.{All}
use Rattle.std.proofs.lemmas.Bool.{and_parts, or_parts}
use Rattle.std.proofs.lemmas.List.{get_or-map, length-map}
use Rattle.std.proofs.lemmas.List.Elements.{All-cons, All-head, All-nil, All-tail}
use Rattle.std.proofs.lemmas.List.Quantifiers.{all_pairs_push, position-Some}
use Rattle.std.proofs.lemmas.Slice.Eq.{bytes_eq-Decides}
use Rattle.fixed.specs.Fractions.{bits_of}
use Rattle.fixed.specs.declared.frac.Frac.{Frac}
use Rattle.fixed.specs.declared.frac.Frac.TheVariants.{F24, F32, F40}
use Rattle.line_text.proofs.StepLaws.{bind_ok, err_is_no_ok, same_ok}
use Rattle.derivative.specs.Derive.{slope_program}
use Rattle.kernel_compiler.specs.Code.{compiled}
use Rattle.energy_program.specs.Names.{first_clash, is_among, is_reserved, names_from, parameters_and_globals, variables_of}
use Rattle.expr.specs.Energy.{program_of, trees_in}
use Rattle.expr.specs.Uses.{substituted_tree}
use Rattle.expr.proofs.Parsing.{reads_texts}
use Rattle.job.specs.JobText.{AreApart, IsJobText, limits}
use Rattle.job.specs.Values.{JobValue, TypeValue}
use Rattle.job.proofs.OneResult.{job_reads_once}
use Rattle.state.specs.StateText.{AtomView, StateView}
use Rattle.state.proofs.StateLaws.{reads_once}
use Rattle.potential.specs.Energies.{Energy, energy_from, energy_of, job_program}
use Rattle.ring_box.specs.Cells.{has_room, holds_two, need_of, room_of}
use Rattle.ring_box.specs.Places.{no_place, places_of}
use Rattle.integrator.specs.Frames.{Frames, frames}
use Rattle.integrator.specs.Starts.{are_alike, atom_types, known, ring_of, type_with, unknown_type}
use Rattle.potential.specs.Tables.{no_type}
use Rattle.integrator.specs.States.{frames_of, moved_state, nobody, moved_atom, moved_atoms, previous_frame, current_frame}
use Rattle.line_text.proofs.Items.{parts_same}
use Rattle.potential.proofs.InputLaws.{are_variables, no_more}
use Rattle.integrator.proofs.StateLaws.{get_or-moved, length-moved, part_moved}
use Rattle.engine.specs.Engines.{SaysOnly}
use Rattle.engine.specs.RunSpecification.{AreTypes, HasRoom, IsTextOf, box_of, global_names, who}

-- ---- one job, and one state

-- A text is the text of at most one job.
pub one_job : (job : List ℕ) (j k : JobValue) → IsJobText limits job j → IsJobText limits job k → j ≡ k
one_job job j k a b = same_ok j k (job_reads_once limits job (Ok j) (Ok k) a b)

-- and of one state
pub one_state : (state : List ℕ) (s t : StateView) → IsTextOf state s → IsTextOf state t → s ≡ t
one_state state s t a b = same_ok s t (reads_once state (Ok s) (Ok t) (a.fits, a.is) (b.fits, b.is))

-- ---- the names of an energy's variables

differs : (a b : List ℕ) → bytes_eq a b ≡ false → b ≡ a → ⊥
differs a b e h = let t = (bytes_eq-Decides a b).1 (sym h) in absurd cc

all_differ : (names : List (List ℕ)) (name : List ℕ) → is_among names name ≡ false → (k : ℕ) (d : List ℕ) → k < length names → get_or names k d ≡ name → ⊥
all_differ [] name e k d l = absurd (omega arith)
all_differ (n ∷ ns) name e zero d l = differs name n (or_parts (bytes_eq name n) (is_among ns name) e).0
all_differ (n ∷ ns) name e (suc k) d l = all_differ ns name (or_parts (bytes_eq name n) (is_among ns name) e).1 k d (omega arith)

clear : (names vs : List (List ℕ)) → first_clash names vs ≡ None → AreApart names → AreApart (names ++ vs) × All (λ v. is_reserved v ≡ false) vs
clear names [] e apart = (subst AreApart (sym (append-nil names)) apart, All-nil (λ v. is_reserved v ≡ false))
clear names (v ∷ vs) e apart =
    let c = no_more (is_reserved v || is_among names v) v (first_clash (names ++ v ∷ []) vs) e in
    let b = or_parts (is_reserved v) (is_among names v) c.0 in
    let rest = clear (names ++ v ∷ []) vs c.1 (all_pairs_push (λ a b. a ≡ b → ⊥) names v apart (all_differ names v b.1)) in
    (subst AreApart (append_assoc names (v ∷ []) vs) rest.0, All-cons (λ v. is_reserved v ≡ false) v vs b.0 rest.1)

one_name : (name : List ℕ) → AreApart (name ∷ [])
one_name name i j d l below = absurd (omega arith)

-- ---- the energy

-- the parts that the energy of a job was made of
record Made (j : JobValue) (energy : Energy) : Type 0 where
  names : List (List ℕ)
  named : names_from j.parameters (global_names j) ≡ Ok names
  tree : program_of (bits_of j.frac) names j.energy ≡ Ok energy.tree

made : (j : JobValue) (energy : Energy) → energy_of j ≡ Ok energy → Made j energy
unfolding energy_of job_program energy_from program_of
made j energy e =
    let bits = bits_of j.frac in
    let a = bind_ok (job_program j) (energy_from bits) energy e in
    let v = bind_ok (names_from j.parameters (global_names j)) (λ names. trees_in bits names j.energy) a.0 a.1 in
    let s = bind_ok (slope_program bits a.0) _ energy a.2 in
    let c = bind_ok (compiled bits s.0.0 s.0.1) _ energy s.2 in
    record { names = v.0; named = v.1; tree = ap substituted_tree v.2 ∙ ap Ok (ap (λ (e : Energy). e.tree) (same_ok _ energy c.2)) }

-- the energy's text says the energy's tree, and no other
pub says_energy : (j : JobValue) (energy : Energy) → energy_of j ≡ Ok energy → SaysOnly j energy.tree
says_energy j energy e =
    let bits = bits_of j.frac in
    let m = made j energy e in
    let n = are_variables j.parameters (global_names j) m.names m.named in
    let c = clear (codes "r" ∷ []) (parameters_and_globals j.parameters (global_names j)) n.0 (one_name (codes "r")) in
    let vs = variables_of j.parameters (global_names j) in
    let read : program_of bits vs j.energy ≡ Ok energy.tree = ap (λ vs. program_of bits vs j.energy) n.1 ∙ m.tree in
    record {
      says = record { apart = c.0; free = c.1; says = (reads_texts bits vs j.energy energy.tree).0 read };
      only = λ tree says. same_ok tree energy.tree (sym ((reads_texts bits vs j.energy tree).1 says.says) ∙ read);
    }

-- ---- the types of atoms

known_is : (k : ℕ) (o : Option ℕ) (t : ℕ) → known k o ≡ Ok t → o ≡ Some t
known_is k None t e = absurd (err_is_no_ok (unknown_type k) t e)
known_is k (Some u) t e = ap Some (same_ok u t e)

module _ (j : JobValue) where
  abbrev type_name : ℕ → List ℕ
  type_name t = (get_or j.types t no_type).name

  -- the types that are found by the atoms' names are those that have them
  pub types_are : (k : ℕ) (atoms : List AtomView) (types : List ℕ) → atom_types j.types k atoms ≡ Ok types → AreTypes j atoms types
  unfolding atom_types
  types_are k [] types e =
      let same : [] ≡ types = same_ok [] types e in
      subst (AreTypes j []) same (record { known = All-nil (λ t. t < length j.types); named = refl })
  types_are k (a ∷ atoms) types e =
      let t = bind_ok (known k (type_with j.types a.name)) _ types e in
      let r = bind_ok (atom_types j.types (suc k) atoms) _ types t.2 in
      let at = position-Some (λ (u : TypeValue). bytes_eq u.name a.name) j.types t.0 no_type (known_is k (type_with j.types a.name) t.0 t.1) in
      let name : type_name t.0 ≡ a.name = (bytes_eq-Decides (type_name t.0) a.name).0 at.1 in
      let rest = types_are (suc k) atoms r.0 r.1 in
      subst (AreTypes j (a ∷ atoms)) (same_ok (t.0 ∷ r.0) types r.2)
      (record {
        known = All-cons (λ t. t < length j.types) t.0 r.0 at.0 rest.known;
        named = ap (λ n. n ∷ map type_name r.0) name ∙ ap (λ ns. a.name ∷ ns) rest.named;
      })

  -- no two types have one name
  pub one_type : AreApart (map (λ t. t.name) j.types) → (a b : ℕ) → a < length j.types → b < length j.types → type_name a ≡ type_name b → a ≡ b
  one_type apart a b la lb e =
      let at = λ (t : ℕ) (l : t < length j.types). get_or-map (λ (t : TypeValue). t.name) j.types t no_type [] l in
      let size = length-map j.types (λ (t : TypeValue). t.name) in
      let below : a < b → ⊥ = λ l. apart a b [] l (omega (arith, size, lb)) (at a la ∙ e ∙ sym (at b lb)) in
      let above : b < a → ⊥ = λ l. apart b a [] l (omega (arith, size, la)) (at b lb ∙ sym e ∙ sym (at a la)) in
      omega arith

  types_same : AreApart (map (λ t. t.name) j.types) → (us ts : List ℕ) → All (λ t. t < length j.types) us → All (λ t. t < length j.types) ts → map type_name us ≡ map type_name ts → us ≡ ts
  types_same apart [] [] h k e = refl
  types_same apart [] (t ∷ ts) h k e = absurd cc
  types_same apart (u ∷ us) [] h k e = absurd cc
  types_same apart (u ∷ us) (t ∷ ts) h k e =
      let e' = parts_same (type_name u) (type_name t) (map type_name us) (map type_name ts) e in
      let P = λ (t : ℕ). t < length j.types in
      let one : u ≡ t = one_type apart u t (All-head P u us h) (All-head P t ts k) e'.0 in
      ap (λ x. x ∷ us) one ∙ ap (λ xs. t ∷ xs) (types_same apart us ts (All-tail P u us h) (All-tail P t ts k) e'.1)

-- atoms have these types and no others
pub only_types : (j : JobValue) (k : ℕ) (atoms : List AtomView) (types others : List ℕ) → AreApart (map (λ t. t.name) j.types) → atom_types j.types k atoms ≡ Ok types → AreTypes j atoms others → others ≡ types
only_types j k atoms types others apart e h =
    let t = types_are j k atoms types e in
    types_same j apart others types h.known t.known (h.named ∙ sym t.named)

-- ---- bits and room

same_bits : (f g : Frac) → bits_of f ≡ bits_of g → g ≡ f
same_bits F24 F24 e = refl
same_bits F24 F32 e = absurd (omega arith)
same_bits F24 F40 e = absurd (omega arith)
same_bits F32 F24 e = absurd (omega arith)
same_bits F32 F32 e = refl
same_bits F32 F40 e = absurd (omega arith)
same_bits F40 F24 e = absurd (omega arith)
same_bits F40 F32 e = absurd (omega arith)
same_bits F40 F40 e = refl

-- Numbers of fraction bits that are alike are equal.
pub alike_is : (f g : Frac) → are_alike f g ≡ true → g ≡ f
alike_is f g e = same_bits f g (eqb-true (bits_of f) (bits_of g) e)

-- a box that has room for two cutoffs has it on each side
pub room_is : (j : JobValue) (sides : List ℕ) → has_room j.frac (ring_of sides) j.cutoff ≡ true → HasRoom j (box_of sides).x × HasRoom j (box_of sides).y × HasRoom j (box_of sides).z
room_is j sides h =
    let ring = ring_of sides in
    let p = and_parts (holds_two j.frac ring.x j.cutoff) (holds_two j.frac ring.y j.cutoff && holds_two j.frac ring.z j.cutoff) h in
    let q = and_parts (holds_two j.frac ring.y j.cutoff) (holds_two j.frac ring.z j.cutoff) p.1 in
    let two = need_of j.cutoff * 2 in
    let x = leb-true two (room_of j.frac ring.x) p.0 in
    let y = leb-true two (room_of j.frac ring.y) q.0 in
    let z = leb-true two (room_of j.frac ring.z) q.1 in
    (omega arith, omega arith, omega arith)

-- ---- atoms with other coordinates

-- they stay who they are
pub who_moved : (atoms : List AtomView) (f : Frames) → map who (moved_atoms atoms f) ≡ map who atoms
who_moved atoms f = part_moved atoms f who (who nobody) (map who atoms) (length-map atoms who) (λ k l. get_or-map who atoms k nobody (who nobody) l)

-- An atom is any atom of the same residue and name, moved to its positions.
atom_is : (a b : AtomView) → who a ≡ who b → a ≡ moved_atom b a.previous a.current
atom_is a b e = ap (λ (w : ℤ × List ℕ × List ℕ). record a { residue_number = w.0; residue = w.1; name = w.2 }) e

-- the same atoms with other coordinates are these atoms, moved there
atoms_again : (atoms others : List AtomView) → map who others ≡ map who atoms → others ≡ moved_atoms atoms (frames (previous_frame others) (current_frame others))
atoms_again atoms others e =
    let f = frames (previous_frame others) (current_frame others) in
    let size : length others ≡ length atoms = sym (length-map others who) ∙ ap length e ∙ length-map atoms who in
    ext_get_or nobody others (moved_atoms atoms f) (size ∙ sym (length-moved atoms f)) (λ k h.
    let l : k < length atoms = omega (arith, size) in
    let same : who (get_or others k nobody) ≡ who (get_or atoms k nobody) =
    sym (get_or-map who others k nobody (who nobody) h) ∙ ap (λ (ws : List (ℤ × List ℕ × List ℕ)). get_or ws k (who nobody)) e ∙ get_or-map who atoms k nobody (who nobody) l in
    atom_is (get_or others k nobody) (get_or atoms k nobody) same
    ∙ ap (λ p. moved_atom (get_or atoms k nobody) p (get_or others k nobody).current) (sym (get_or-map (λ (a : AtomView). a.previous) others k nobody no_place h))
    ∙ ap (λ c. moved_atom (get_or atoms k nobody) (places_of f.previous k) c) (sym (get_or-map (λ (a : AtomView). a.current) others k nobody no_place h))
    ∙ sym (get_or-moved atoms f k l))

-- A state that differs only in its counter and in its atoms' positions is the moved state.
pub moved_again : (s t : StateView) → t ≡ record s { step = t.step; atoms = t.atoms } → map who t.atoms ≡ map who s.atoms → t ≡ moved_state s (frames_of t) t.step
moved_again s t same kept = same ∙ ap (λ (atoms : List AtomView). record s { step = t.step; atoms = atoms }) (atoms_again s.atoms t.atoms kept)
