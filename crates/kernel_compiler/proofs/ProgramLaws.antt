-- The code of a program computes it, and no path of it misses anything.
use Rattle.std.proofs.Common.{◌≡◌, ℕ, ◌+◌, ◌<◌, ◌≤◌, List, [], ◌∷◌, ◌++◌, length, replicate, Option, Some, None, IsSome, Ok, Err, refl, ap, ◌∙◌, subst, ⊎_elim, inl, inr, ◌⊎◌, arith, length-append, ℤ, Bool, true, false, slice_get, slice_set}
use Rattle.kernel_code.specs.declared.instructions.Instr.{Instr}
use Rattle.kernel_code.specs.declared.instructions.Instr.TheVariants.{Keep}
use Rattle.kernel_code.specs.declared.traps.Trap.{Trap}
use Rattle.kernel_code.specs.declared.traps.TrapKind.TheVariants.{Operation}
use Rattle.kernel_code.specs.Machine.{Ends, IsOperation}
use Rattle.kernel_code.specs.Paths.{MissesNothing}
use Rattle.energy_program.specs.Tree.{Tree, put, meaning, substituted}
use Rattle.energy_program.specs.Value.{value_of}
use Rattle.energy_program.specs.Uses.{is_marked, marks_of}
use Rattle.kernel_compiler.specs.Code.{local_of, stack_depth, tree_code, kept_code, definitions_code, program_code}
use Rattle.kernel_compiler.specs.Compiled.{Computes, LacksDefinition}
use Rattle.kernel_compiler.proofs.CodeParts.{HasAt, has_front, has_back, has_all}
use Rattle.kernel_compiler.proofs.KeptLocals.{kept_before, kept_more}
use Rattle.kernel_code.proofs.Runs.{ends_there, one_end}
use Rattle.kernel_compiler.proofs.Runs.{IsFine, Holds, Comes, Faults, Gives, comes_on, comes_to, tree_runs}
use Rattle.kernel_code.proofs.EveryPath.{Well, well_end, well_at, keep_well, misses_nothing}
use Rattle.kernel_compiler.proofs.Well.{Keeps, tree_well}
use Rattle.kernel_compiler.proofs.Scopes.{HaveLocals}
use Rattle.energy_program.proofs.Meaning.{here as first_here, skip}
use Rattle.energy_program.proofs.MarkLaws.{marked_within, marked_needed, length-marks}
use Rattle.kernel_compiler.proofs.Fine.{AreFine}
use Rattle.kernel_compiler.proofs.Shallow.{need_if, definitions_need}

-- ---- the code of definitions

module _ (bits : ℕ) (code : List Instr) (xs : List ℤ) (ms : List Bool) where
  -- the run comes to the index with these definitions computed
  record Ready (j : ℕ) (ds : List Tree) (pc : ℕ) : Type 0 where
    locals : List (Option ℤ)
    held : Holds bits code xs (meaning j ds) ms j locals
    comes : Comes bits code xs pc [] locals

  -- the run ends by a fault, as a marked definition has no value
  record Lacks (j : ℕ) (ds : List Tree) : Type 0 where
    number : ℕ
    above : j ≤ number
    marked : is_marked ms number ≡ true
    empty : value_of bits xs (meaning j ds number) ≡ None
    faults : Faults bits code xs

  -- the value of a later definition, seen from the definition j
  later : (j : ℕ) (d : Tree) (ds : List Tree) (k : ℕ) → j + 1 ≤ k → (o : Option ℤ) → (v : ℤ) × (value_of bits xs (meaning (j + 1) ds k) ≡ Some v) × (o ≡ Some v) → (v : ℤ) × (value_of bits xs (meaning j (d ∷ ds) k) ≡ Some v) × (o ≡ Some v)
  later j d ds k above o a = (a.0, ap (value_of bits xs) (skip j k d ds above) ∙ a.1, a.2)

  lacks_before : (j : ℕ) (d : Tree) (ds : List Tree) → Lacks (j + 1) ds → Lacks j (d ∷ ds)
  lacks_before j d ds l =
      let above = l.above in
      record { number = l.number; above = omega arith; marked = l.marked; empty = ap (value_of bits xs) (skip j l.number d ds l.above) ∙ l.empty; faults = l.faults }

  -- one definition
  kept_runs : (j : ℕ) (d : Tree) (ds : List Tree) (pc : ℕ) (o : Option ℤ) → j < 254 → is_marked ms j ≡ true → value_of bits xs (put (meaning (j + 1) ds) d) ≡ o → slice_get code pc ≡ Some (Keep (local_of j)) → Gives bits code xs (meaning (j + 1) ds) ms (j + 1) pc [] o → Ready j (d ∷ ds) (pc + 1) ⊎ Lacks j (d ∷ ds)
  kept_runs j d ds pc None lt on is here g =
      inr (record { number = j; above = omega arith; marked = on; empty = ap (value_of bits xs) (first_here j j d ds refl) ∙ is; faults = g })
  kept_runs j d ds pc (Some v) lt on is here g =
      inl (record {
        locals = slice_set g.locals (local_of j) (Some v);
        held = kept_more (Option ℤ) None _ _ ms j g.locals (Some v) (later j d ds) (v, ap (value_of bits xs) (first_here j j d ds refl) ∙ is, refl) lt g.held;
        comes = comes_on bits code xs pc (pc + 1) (v ∷ []) [] g.locals _ (Keep (local_of j)) here refl g.comes;
      })

  one_runs : (kept : Bool) (inputs j : ℕ) (d : Tree) (ds : List Tree) (pc : ℕ) → is_marked ms j ≡ kept → inputs ≤ length xs → HaveLocals ms → HasAt code pc (kept_code kept bits pc j d) → (is_marked ms j ≡ true → IsFine inputs ms (j + 1) d) → need_if kept d ≤ 64 → Ready (j + 1) ds pc → Ready j (d ∷ ds) (pc + length (kept_code kept bits pc j d)) ⊎ Lacks j (d ∷ ds)
  one_runs false inputs j d ds pc is enough have has fine room r =
      let e : pc ≡ pc + 0 = omega arith in
      inl (record { locals = r.locals; held = kept_before (Option ℤ) None _ _ ms j r.locals (later j d ds) is r.held; comes = comes_to bits code xs pc (pc + 0) [] r.locals e r.comes })
  one_runs true inputs j d ds pc is enough have has fine room r =
      let c = tree_code bits pc d in
      let tail = Keep (local_of j) ∷ [] in
      let h : 0 + stack_depth d ≤ 64 = omega arith in
      let g = tree_runs bits code xs (meaning (j + 1) ds) ms (j + 1) inputs enough d pc [] r.locals (has_front code pc c tail has) (fine is) h r.held r.comes in
      let at = (has_back code pc c tail has).0 in
      let len : pc + length c + 1 ≡ pc + length (c ++ tail) = omega (arith, length-append c tail) in
      subst (λ p. Ready j (d ∷ ds) p ⊎ Lacks j (d ∷ ds)) len
      (kept_runs j d ds (pc + length c) (value_of bits xs (put (meaning (j + 1) ds) d)) (have j is) is refl at g)

  definitions_run : (inputs : ℕ) (ds : List Tree) (j : ℕ) → inputs ≤ length xs → HaveLocals ms → length ms ≡ j + length ds → HasAt code 0 (definitions_code bits j ms ds) → AreFine inputs ms j ds → definitions_need j ms ds ≤ 64 → Ready j ds (length (definitions_code bits j ms ds)) ⊎ Lacks j ds
  definitions_run inputs [] j enough have all has fine room =
      inl (record {
        locals = replicate 256 None;
        held = record { size = refl; each = λ k le e. let lt = marked_within ms k e in absurd (omega arith) };
        comes = record { turns = 0; there = refl };
      })
  definitions_run inputs (d ∷ ds) j enough have all has fine room =
      let later = definitions_code bits (j + 1) ms ds in
      let kept = is_marked ms j in
      let own = kept_code kept bits (length later) j d in
      let all' : length ms ≡ j + 1 + length ds = omega arith in
      let r1 : definitions_need (j + 1) ms ds ≤ 64 = omega arith in
      let r2 : need_if kept d ≤ 64 = omega arith in
      let len : length later + length own ≡ length (later ++ own) = omega (arith, length-append later own) in
      let back = has_back code 0 later own has in
      let e : 0 + length later ≡ length later = omega arith in
      ⊎_elim
      (λ (r : Ready (j + 1) ds (length later)). subst (λ p. Ready j (d ∷ ds) p ⊎ Lacks j (d ∷ ds)) len
      (one_runs kept inputs j d ds (length later) refl enough have (subst (λ p. HasAt code p own) e back) fine.0 r2 r))
      (λ (l : Lacks (j + 1) ds). inr (lacks_before j d ds l))
      (definitions_run inputs ds (j + 1) enough have all' (has_front code 0 later own has) fine.1 r1)

-- ---- the whole

-- how a run of the whole ends
record Valued (bits : ℕ) (body : Tree) (ds : List Tree) (code : List Instr) (xs : List ℤ) : Type 0 where
  number : ℤ
  turns : ℕ
  is : value_of bits xs (substituted body ds) ≡ Some number
  ends : Ends bits code xs turns (Ok number)

record Faulted (bits : ℕ) (body : Tree) (ds : List Tree) (code : List Instr) (xs : List ℤ) : Type 0 where
  faults : Faults bits code xs
  empty : (value_of bits xs (substituted body ds) ≡ None) ⊎ LacksDefinition bits body ds xs

body_ends : (bits : ℕ) (body : Tree) (ds : List Tree) (code : List Instr) (xs : List ℤ) (ms : List Bool) (pc : ℕ) (o : Option ℤ) → length code ≤ pc → value_of bits xs (substituted body ds) ≡ o → Gives bits code xs (meaning 0 ds) ms 0 pc [] o → Valued bits body ds code xs ⊎ Faulted bits body ds code xs
body_ends bits body ds code xs ms pc None past is g = inr (record { faults = g; empty = inl is })
body_ends bits body ds code xs ms pc (Some v) past is g =
    let c = g.comes in
    inl (record { number = v; turns = c.turns; is = is; ends = ends_there bits code xs c.turns _ c.there past })

program_ends : (bits inputs : ℕ) (body : Tree) (ds : List Tree) (xs : List ℤ) → HaveLocals (marks_of body ds) → IsFine inputs (marks_of body ds) 0 body → AreFine inputs (marks_of body ds) 0 ds → definitions_need 0 (marks_of body ds) ds ≤ 64 → stack_depth body ≤ 64 → inputs ≤ length xs → Valued bits body ds (program_code bits body ds) xs ⊎ Faulted bits body ds (program_code bits body ds) xs
unfolding program_code
program_ends bits inputs body ds xs have whole each r1 r enough =
    let m = marks_of body ds in
    let first = definitions_code bits 0 m ds in
    let last = tree_code bits (length first) body in
    let code = first ++ last in
    let has = has_all code [] in
    let size : length m ≡ 0 + length ds = omega (arith, length-marks body ds) in
    let r2 : 0 + stack_depth body ≤ 64 = omega arith in
    let e : 0 + length first ≡ length first = omega arith in
    let back = subst (λ p. HasAt code p last) e (has_back code 0 first last has) in
    let past : length code ≤ length first + length last = omega (arith, length-append first last) in
    ⊎_elim
    (λ (r : Ready bits code xs m 0 ds (length first)).
    body_ends bits body ds code xs m (length first + length last) (value_of bits xs (substituted body ds)) past refl
    (tree_runs bits code xs (meaning 0 ds) m 0 inputs enough body (length first) [] r.locals back whole r2 r.held r.comes))
    (λ (l : Lacks bits code xs m 0 ds). inr (record { faults = l.faults; empty = inr (record { number = l.number; needed = marked_needed body ds l.number l.marked; lacking = l.empty }) }))
    (definitions_run bits code xs m inputs ds 0 enough have size (has_front code 0 first last has) each r1)

-- a value isn't missing
not_empty : (o : Option ℤ) → IsSome o → o ≡ None → ⊥
not_empty None h e = cc
not_empty (Some v) h e = cc

computes_by : (bits : ℕ) (body : Tree) (ds : List Tree) (code : List Instr) (xs : List ℤ) → Valued bits body ds code xs ⊎ Faulted bits body ds code xs → Computes bits body ds code xs
computes_by bits body ds code xs (inl g) = record {
  value = λ n v e. let b = one_end bits code xs g.turns n _ _ g.ends e in let is = g.is in let o : Ok g.number ≡ Ok v = b.1 in cc;
  comes = λ v is have. let is' = g.is in let same : g.number ≡ v = cc in (g.turns, subst (λ w. Ends bits code xs g.turns (Ok w)) same g.ends);
  fault = λ n trap e. let b = one_end bits code xs g.turns n _ _ g.ends e in let o : Ok g.number ≡ Err trap = b.1 in absurd (cc);
  ends = (g.turns, Ok g.number, g.ends);
}
computes_by bits body ds code xs (inr g) = record {
  value = λ n v e. let b = one_end bits code xs g.faults.turns n _ _ g.faults.ends e in let o : Err (record { pc = g.faults.index; kind = Operation g.faults.fault }) ≡ Ok v = b.1 in absurd (cc);
  comes = λ v is have. absurd (⊎_elim
      (λ (e : value_of bits xs (substituted body ds) ≡ None). let no : ⊥ = cc in no)
      (λ (a : LacksDefinition bits body ds xs). not_empty _ (have a.number a.needed) a.lacking)
      g.empty);
  fault = λ n trap e.
      let b = one_end bits code xs g.faults.turns n _ _ g.faults.ends e in
      let o : Err (record { pc = g.faults.index; kind = Operation g.faults.fault }) ≡ Err trap = b.1 in
      let same : record { pc = g.faults.index; kind = Operation g.faults.fault } ≡ trap = cc in
      (subst (λ (x : Trap). IsOperation x.kind) same tt, g.empty);
  ends = (g.faults.turns, Err (record { pc = g.faults.index; kind = Operation g.faults.fault }), g.faults.ends);
}

-- a program's code computes the program if each input exists, each used definition is marked, the marked definitions
-- have locals, and the stack has room
pub program_computes : (bits inputs : ℕ) (body : Tree) (ds : List Tree) (xs : List ℤ) → HaveLocals (marks_of body ds) → IsFine inputs (marks_of body ds) 0 body → AreFine inputs (marks_of body ds) 0 ds → definitions_need 0 (marks_of body ds) ds ≤ 64 → stack_depth body ≤ 64 → inputs ≤ length xs → Computes bits body ds (program_code bits body ds) xs
program_computes bits inputs body ds xs have whole each r1 r enough = computes_by bits body ds (program_code bits body ds) xs (program_ends bits inputs body ds xs have whole each r1 r enough)

-- ---- paths

one_well : (kept : Bool) (code : List Instr) (bits inputs : ℕ) (ms : List Bool) (j : ℕ) (d : Tree) (pc : ℕ) (set : List Bool) → is_marked ms j ≡ kept → HaveLocals ms → HasAt code pc (kept_code kept bits pc j d) → (is_marked ms j ≡ true → IsFine inputs ms (j + 1) d) → need_if kept d ≤ 64 → Keeps ms (j + 1) set → ((set' : List Bool) → Keeps ms j set' → Well code inputs (pc + length (kept_code kept bits pc j d)) 0 set') → Well code inputs pc 0 set
one_well false code bits inputs ms j d pc set is have has fine room held next =
    well_at code inputs (pc + 0) pc 0 0 set (omega arith) refl (next set (kept_before Bool false _ _ ms j set (λ k above b h. h) is held))
one_well true code bits inputs ms j d pc set is have has fine room held next =
    let c = tree_code bits pc d in
    let tail = Keep (local_of j) ∷ [] in
    let at = (has_back code pc c tail has).0 in
    let len : pc + length (c ++ tail) ≡ pc + length c + 1 = omega (arith, length-append c tail) in
    let h : 0 + stack_depth d ≤ 64 = omega arith in
    tree_well code inputs ms (j + 1) bits d pc 0 set (has_front code pc c tail has) (fine is) h held (λ k1 held1.
    keep_well code inputs (local_of j) (pc + length c) 0 k1 at (well_at code inputs _ _ 0 0 (slice_set k1 (local_of j) true) len refl (next (slice_set k1 (local_of j) true) (kept_more Bool false _ _ ms j k1 true (λ k above b h. h) refl (have j is) held1))))

definitions_well : (code : List Instr) (bits inputs : ℕ) (ms : List Bool) (ds : List Tree) (j : ℕ) → HaveLocals ms → length ms ≡ j + length ds → HasAt code 0 (definitions_code bits j ms ds) → AreFine inputs ms j ds → definitions_need j ms ds ≤ 64 → ((set : List Bool) → Keeps ms j set → Well code inputs (length (definitions_code bits j ms ds)) 0 set) → Well code inputs 0 0 (replicate 256 false)
definitions_well code bits inputs ms [] j have all has fine room next =
    next (replicate 256 false) (record { size = refl; each = λ k le e. let lt = marked_within ms k e in absurd (omega arith) })
definitions_well code bits inputs ms (d ∷ ds) j have all has fine room next =
    let later = definitions_code bits (j + 1) ms ds in
    let kept = is_marked ms j in
    let own = kept_code kept bits (length later) j d in
    let all' : length ms ≡ j + 1 + length ds = omega arith in
    let r1 : definitions_need (j + 1) ms ds ≤ 64 = omega arith in
    let r2 : need_if kept d ≤ 64 = omega arith in
    let len : length (later ++ own) ≡ length later + length own = length-append later own in
    let e : 0 + length later ≡ length later = omega arith in
    let back = subst (λ p. HasAt code p own) e (has_back code 0 later own has) in
    definitions_well code bits inputs ms ds (j + 1) have all' (has_front code 0 later own has) fine.1 r1 (λ set held.
    one_well kept code bits inputs ms j d (length later) set refl have back fine.0 r2 held (λ set' held'. well_at code inputs _ _ 0 0 set' len refl (next set' held')))

-- no path of such a program's code misses anything
pub program_misses_nothing : (bits inputs : ℕ) (body : Tree) (ds : List Tree) → HaveLocals (marks_of body ds) → IsFine inputs (marks_of body ds) 0 body → AreFine inputs (marks_of body ds) 0 ds → definitions_need 0 (marks_of body ds) ds ≤ 64 → stack_depth body ≤ 64 → MissesNothing (program_code bits body ds) inputs
unfolding program_code
program_misses_nothing bits inputs body ds have whole each r1 r =
    let m = marks_of body ds in
    let first = definitions_code bits 0 m ds in
    let last = tree_code bits (length first) body in
    let code = first ++ last in
    let has = has_all code [] in
    let size : length m ≡ 0 + length ds = omega (arith, length-marks body ds) in
    let r2 : 0 + stack_depth body ≤ 64 = omega arith in
    let e : 0 + length first ≡ length first = omega arith in
    let back = subst (λ p. HasAt code p last) e (has_back code 0 first last has) in
    let past : length code ≤ length first + length last = omega (arith, length-append first last) in
    misses_nothing code inputs
    (definitions_well code bits inputs m ds 0 have size (has_front code 0 first last has) each r1 (λ set held.
    tree_well code inputs m 0 bits body (length first) 0 set back whole r2 held (λ set' held'.
    well_end code inputs _ (0 + 1) set' past (omega arith))))
