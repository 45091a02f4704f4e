-- How to prove that no path of code misses anything: by a property of all paths from each index.
use Rattle.std.proofs.Common.{◌≡◌, ℕ, zero, suc, ◌+◌, ◌-◌, ◌≤◌, List, length, replicate, Option, Some, None, refl, sym, subst, arith, ℤ, Bool, true, false, slice_get, slice_set, slice_index_or}
use Rattle.std.proofs.lemmas.Option.{slice_get_past}
use Rattle.fixed.specs.declared.operations.Operator.{Operator}
use Rattle.fixed.specs.declared.operations.UnaryOperator.{UnaryOperator}
use Rattle.kernel_code.specs.declared.instructions.Instr.{Instr}
use Rattle.kernel_code.specs.declared.instructions.Instr.TheVariants.{Push, Keep, Get, Binary, Unary}
use Rattle.kernel_code.specs.Paths.{IsSupplied, HasRoom, CanAct, height_after, set_after, MayGo, IsPath, begins, goes, MissesNothing}

-- an instruction that is supplied, and has room for the values that it pushes, can act
can : (i : Instr) (inputs height : ℕ) (set : List Bool) → IsSupplied i inputs height set → HasRoom i height → CanAct i inputs height set
can i inputs height set h g = record { supplied = h; room = g }

-- at the end the stack has one value; else the instruction can act, and `next` holds for each successor
abbrev pub FineAt : Option Instr → (inputs len pc height : ℕ) → List Bool → (ℕ → ℕ → List Bool → Type 0) → Type 0
FineAt None inputs len pc height set next = height ≡ 1
FineAt (Some i) inputs len pc height set next = CanAct i inputs height set × ((to : ℕ) → MayGo i pc to → next to (height_after i height) (set_after i set))

-- no path from this abstract state misses anything within `fuel` instructions
abbrev pub Fine : List Instr → (inputs fuel pc height : ℕ) → List Bool → Type 0
Fine code inputs zero pc height set = Unit {0}
Fine code inputs (suc n) pc height set = FineAt (slice_get code pc) inputs (length code) pc height set (Fine code inputs n)

module _ (code : List Instr) (inputs : ℕ) where
  -- no path from this abstract state misses anything
  pub record Well (pc height : ℕ) (set : List Bool) : Type 0 where
    pub by : (n : ℕ) → Fine code inputs n pc height set

  -- if an instruction is supplied and has room, and `Well` holds for each of its successors, `Well` holds at the
  -- instruction
  pub well_on : (i : Instr) (pc height : ℕ) (set : List Bool) → slice_get code pc ≡ Some i → IsSupplied i inputs height set → HasRoom i height → ((to : ℕ) → MayGo i pc to → Well to (height_after i height) (set_after i set)) → Well pc height set
  well_on i pc height set here supplied room next = record { by = by }
    where
      by : (n : ℕ) → Fine code inputs n pc height set
      by zero = tt
      by (suc n) = subst (λ o. FineAt o inputs (length code) pc height set (Fine code inputs n)) (sym here) (can i inputs height set supplied room, λ to may. (next to may).by n)

  -- `Well` holds at the end if the stack has one value
  pub well_end : (pc height : ℕ) (set : List Bool) → length code ≤ pc → height ≡ 1 → Well pc height set
  well_end pc height set past one = record { by = by }
    where
      by : (n : ℕ) → Fine code inputs n pc height set
      by zero = tt
      by (suc n) = subst (λ o. FineAt o inputs (length code) pc height set (Fine code inputs n)) (sym (slice_get_past code pc past)) one

  -- if `Well` holds for an index and a height, it holds for an equal index and an equal height
  pub well_at : (pc pc' height height' : ℕ) (set : List Bool) → pc ≡ pc' → height ≡ height' → Well pc height set → Well pc' height' set
  well_at pc pc' height height' set e f w = subst (λ p. Well p height' set) e (subst (λ h. Well pc h set) f w)

  along : Well 0 0 (replicate 256 false) → (n pc height : ℕ) (set : List Bool) → IsPath code n pc height set → Well pc height set
  along w n pc height set begins = w
  along w n pc height set (goes {n = before} {pc = from} {height = h} {set = k} {i = i} path here may) =
      let earlier = along w before from h k path in
      record { by = λ m. (subst (λ o. FineAt o inputs (length code) from h k (Fine code inputs m)) here (earlier.by (suc m))).1 pc may }

  -- if `Well` holds for the initial abstract state, no path of the code misses anything
  pub misses_nothing : Well 0 0 (replicate 256 false) → MissesNothing code inputs
  misses_nothing w = record {
    acts = λ n pc height set i path here. (subst (λ o. FineAt o inputs (length code) pc height set (Fine code inputs 0)) here ((along w n pc height set path).by 1)).0;
    ends = λ n height set path. subst (λ o. FineAt o inputs (length code) (length code) height set (Fine code inputs 0)) (slice_get_past code (length code) (omega arith)) ((along w n (length code) height set path).by 1);
  }

  -- instructions whose only successor is the next index

  -- `Well` holds at a read of a set local, if the stack has room and `Well` holds at the next index
  pub get_well : (k pc height : ℕ) (set : List Bool) → slice_get code pc ≡ Some (Get k) → height + 1 ≤ 64 → slice_index_or set k false ≡ true → Well (pc + 1) (height + 1) set → Well pc height set
  get_well k pc height set here h e w = well_on (Get k) pc height set here e (omega arith) (λ to may. well_at (pc + 1) to _ _ set (sym may) refl w)

  -- `Well` holds at a push, if the stack has room and `Well` holds at the next index
  pub push_well : (v : ℤ) (pc height : ℕ) (set : List Bool) → slice_get code pc ≡ Some (Push v) → height + 1 ≤ 64 → Well (pc + 1) (height + 1) set → Well pc height set
  push_well v pc height set here h w = well_on (Push v) pc height set here tt (omega arith) (λ to may. well_at (pc + 1) to _ _ set (sym may) refl w)

  -- `Well` holds at a write of a local, if the stack has a value and `Well` holds at the next index with the local set
  pub keep_well : (k pc height : ℕ) (set : List Bool) → slice_get code pc ≡ Some (Keep k) → Well (pc + 1) height (slice_set set k true) → Well pc (height + 1) set
  keep_well k pc height set here w =
      let one : 1 ≤ height + 1 = omega arith in
      let q : height ≡ height + 1 - 1 = omega arith in
      well_on (Keep k) pc (height + 1) set here one tt (λ to may. well_at (pc + 1) to height (height + 1 - 1) (slice_set set k true) (sym may) q w)

  -- `Well` holds at an operation on one value, if the stack has a value and `Well` holds at the next index
  pub unary_well : (o : UnaryOperator) (pc height : ℕ) (set : List Bool) → slice_get code pc ≡ Some (Unary o) → Well (pc + 1) (height + 1) set → Well pc (height + 1) set
  unary_well o pc height set here w =
      let one : 1 ≤ height + 1 = omega arith in
      well_on (Unary o) pc (height + 1) set here one tt (λ to may. well_at (pc + 1) to _ _ set (sym may) refl w)

  -- `Well` holds at an operation on two values, if the stack has two values and `Well` holds at the next index
  pub binary_well : (o : Operator) (pc height : ℕ) (set : List Bool) → slice_get code pc ≡ Some (Binary o) → Well (pc + 1) (height + 1) set → Well pc (height + 1 + 1) set
  binary_well o pc height set here w =
      let two : 2 ≤ height + 1 + 1 = omega arith in
      let q : height + 1 ≡ height + 1 + 1 - 1 = omega arith in
      well_on (Binary o) pc (height + 1 + 1) set here two tt (λ to may. well_at (pc + 1) to (height + 1) (height + 1 + 1 - 1) set (sym may) q w)
