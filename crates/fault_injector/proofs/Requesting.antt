-- The preconditions and postconditions of calls of `refuses_next` and `count_return`. Assumes `Logic`.
use Rattle.std.proofs.Common.{Bool, ap}
use mir.Val.{vbool, vunit}
use base.Logic.{sep, ex, guard}
use base.Fml.{fsep}
use types.Logic.{sem}
use types.Kit.{some, pick, feq_i, feq_l, check, show, updating, now as at_once}
use denote.Memory.{hidden_shr}
use denote.Builtin.{bool, unit}
use denote.Steps.{only}
use denote.Triple.Statement.{Contract}
use Rattle.fault_injector.proofs.Walks.{◌≡◌, ℕ, List, [], ◌∷◌, refl, Ura, Val, vptr, SProp, ent, id⊢, Lft, Share, ftrue, flft, Memory, Routine, Logic, Fun, ‵, ◌⊛◌, later, ◌$◌, ◌∵◌, !, qed, move, keep, use1, split, join, fjoin, await, done, RattleType, nothing, triple_of}
use Rattle.fault_injector.specs.contracts.refusing_memory.Requests as counted
use Rattle.fault_injector.specs.contracts.refusing_memory.Requests.refuses_next as asked
use Rattle.fault_injector.specs.contracts.refusing_memory.Requests.count_return as counting

-- the type of the counter of requests
abbrev pub Requests : RattleType
Requests = counted.the_row

module _ {M : Type 1} {𝓤 : Ura M} (𝓛 : Logic 𝓤) (at_mem : Memory → SProp 𝓤) (run : Routine → Fun 𝓤) where
  -- the contract of the call that counts a request and returns whether the request is the failing one
  abbrev pub Asks : Contract 𝓤
  Asks = triple_of 𝓛 asked.signature (asked.spec 𝓛 at_mem run)

  -- the contract of the call that counts a freed block
  abbrev pub Counts : Contract 𝓤
  Counts = triple_of 𝓛 counting.signature (counting.spec 𝓛 at_mem run)

  -- this call with a shared reference to the counter, at this place and with this value, under a lifetime and a share
  -- of it
  abbrev pub at_asks : Lft → Share → ℕ × ℕ → Requests.Denot → Asks.Ghost
  at_asks κ q c m = (((κ, tt), (q, tt), tt, (record { ref_ptr = c; now = m }, tt), (vptr c.0 c.1 ∷ [], tt)), tt)

  abbrev pub at_counts : Lft → Share → ℕ × ℕ → Requests.Denot → Counts.Ghost
  at_counts κ q c m = (((κ, tt), (q, tt), tt, (record { ref_ptr = c; now = m }, tt), (vptr c.0 c.1 ∷ [], tt)), tt)

module _ {M : Type 1} {𝓤 : Ura M} (𝓛 : Logic 𝓤) (at_mem : Memory → SProp 𝓤) (run : Routine → Fun 𝓤) (κ : Lft) (q : Share) (c : ℕ × ℕ) (m : Requests.Denot) where
  open 𝓛 use {H, A}

  -- whoever holds the shared counter, and a share of its lifetime, may make the call
  pub Asks-goes : ent 𝓤 (sep 𝓤 (sem 𝓛 (hidden_shr Requests κ m c.0 c.1)) (A.lft κ q)) ((Asks 𝓛 at_mem run).pre (at_asks 𝓛 at_mem run κ q c m))
  Asks-goes =
      qed 𝓛 (‵ (hidden_shr Requests κ m c.0 c.1) ∷ ‵ (flft κ q) ∷ []) ∵ feq_i ! (List Val) (vptr c.0 c.1 ∷ []) (vptr c.0 c.1 ∷ []) refl $ fjoin ! $
      nothing ! $ move ! (1 ∷ []) $ fjoin ! $ nothing ! $ move ! (2 ∷ []) $ join ! $ join ! $ nothing ! $ move ! (1 ∷ []) $ done !

  -- the call returns the share of the lifetime and an unspecified Boolean
  pub Asks-gives : (v : Val) → ent 𝓤 ((Asks 𝓛 at_mem run).post (at_asks 𝓛 at_mem run κ q c m) v) (H.⇛ (ex 𝓤 (λ (y : Bool). guard 𝓤 (v ≡ vbool y) (A.lft κ q))))
  Asks-gives v =
      qed 𝓛 (types.Kit.raw ((Asks 𝓛 at_mem run).post (at_asks 𝓛 at_mem run κ q c m) v) ∷ []) ∵ updating ! $
      use1 𝓛 (later (some (λ (y : Bool). ((‵ (flft κ q) ⊛ ‵ ftrue) ⊛ ‵ (bool.own_val y (v ∷ []))) ⊛ some (λ (ws : Unit {0} × Unit {0}). ‵ (fsep ftrue ftrue) ⊛ ‵ ftrue)))) (id⊢ 𝓤 _) $ await ! tt $ pick ! (λ y.
      split ! $ split ! $ move ! (1 ∷ []) $ feq_l ! (λ e. split ! $ at_once ! $ show ! (λ (y : Bool). guard 𝓤 (v ≡ vbool y) (A.lft κ q)) y $ check ! (ap only e) $ keep ! (0 ∷ []) $ done !))

  pub Counts-goes : ent 𝓤 (sep 𝓤 (sem 𝓛 (hidden_shr Requests κ m c.0 c.1)) (A.lft κ q)) ((Counts 𝓛 at_mem run).pre (at_counts 𝓛 at_mem run κ q c m))
  Counts-goes =
      qed 𝓛 (‵ (hidden_shr Requests κ m c.0 c.1) ∷ ‵ (flft κ q) ∷ []) ∵ feq_i ! (List Val) (vptr c.0 c.1 ∷ []) (vptr c.0 c.1 ∷ []) refl $ fjoin ! $
      nothing ! $ move ! (1 ∷ []) $ fjoin ! $ nothing ! $ move ! (2 ∷ []) $ join ! $ join ! $ nothing ! $ move ! (1 ∷ []) $ done !

  pub Counts-gives : (v : Val) → ent 𝓤 ((Counts 𝓛 at_mem run).post (at_counts 𝓛 at_mem run κ q c m) v) (H.⇛ (guard 𝓤 (v ≡ vunit) (A.lft κ q)))
  Counts-gives v =
      qed 𝓛 (types.Kit.raw ((Counts 𝓛 at_mem run).post (at_counts 𝓛 at_mem run κ q c m) v) ∷ []) ∵ updating ! $
      use1 𝓛 (later (some (λ (y : Unit {0}). ((‵ (flft κ q) ⊛ ‵ ftrue) ⊛ ‵ (unit.own_val y (v ∷ []))) ⊛ some (λ (ws : Unit {0} × Unit {0}). ‵ (fsep ftrue ftrue) ⊛ ‵ ftrue)))) (id⊢ 𝓤 _) $ await ! tt $ pick ! (λ y.
      split ! $ split ! $ move ! (1 ∷ []) $ feq_l ! (λ e. split ! $ at_once ! $ check ! (ap only e) $ keep ! (0 ∷ []) $ done !))
