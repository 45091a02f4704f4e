-- What the walks of `allocate` and `deallocate` share: names, the allocator that they take, and where its fields lie. Assumes
-- `Logic`.
pub use Rattle.std.proofs.Common.{◌≡◌, ℕ, ◌+◌, ◌^◌, ◌<◌, List, [], ◌∷◌, refl, w64, Bor}
pub use seplogic.Ra.Ura.{Ura}
pub use mir.Syntax.{Ty, Args, Fn, a_type, dnil, dcons}
pub use mir.Val.{Val, vint, vptr}
pub use mir.MapTy.{inst_fn}
pub use base.Logic.{SProp, ent, id⊢}
pub use base.Fml.{Lft, Share, ftrue, flft}
pub use prog.Memory.{Memory, size, align, capped, up}
pub use prog.Routine.{Routine}
pub use prog.Wp.{WpFn, Tables}
pub use types.Logic.{Logic}
pub use contract.BorrowLft.{◌⊑◌, ⊑_trans}
pub use contract.Monad.{Fun, fact}
pub use contract.Running.{tables}
unfoldable pub use contract.Running.{tables_of}
pub use sound.WpLaws.{fm_of, WpFn-mono}
pub use types.Run.{stop, fld, addr, no_more, and_then, returns, enter}
pub use denote.Exit.{yes}
pub use denote.RattleType.{RattleType, owns}
pub use denote.Ref.{shr_vals}
pub use denote.Opens.{unhide}
pub use denote.Param.{bounded, param}
pub use denote.Plain.{uint_vals, uint_Tells}
pub use denote.Signature.{Slot, plain, types_at}
pub use denote.Steps.{heard, nothing}
pub use denote.Triple.Clauses.{Ended, Clauses}
pub use denote.Triple.Spec.{triple_of}
pub use denote.Triple.Statement.{Triple}
pub use denote.Triple.Table.{entered, cited}
pub use denote.Triple.Walked.{Stays, stay_dropped, walk_of, ends_at, walked, Goes-dropped, walk_Meets}
pub use types.Kit.{‵, raw, ◌⊛◌, later, given, learn, ◌$◌, ◌∵◌, !, qed, move, keep, use1, use2, split, join, fsplit, fjoin, suffices, await, done}
pub use types.ByLocal.{alloc_all, pass_all, free_all, look_at, get, through, sets, lands_as}
pub use denote.RawPtr.{block_ptr}
pub use denote.Builtin.{usize, RefOf}
pub use denote.Triple.Call.{calls_at}
pub use Rattle.std.proofs.alloc.Calls.{Al, α, seen}
use Rattle.fault_injector.specs.contracts.refusing_memory.RefusingAllocator as wrapper

module _ (Z : Al) where
  -- the inner allocator, the type argument of both functions
  abbrev pub args : Args
  args = bounded (a_type ∷ []) (Z.row, tt) (dcons Z.d (dcons Z.drops dnil))

  -- the type of the allocator, and its parameter of both functions
  abbrev pub Refusing : RattleType
  Refusing = wrapper.the_row Z.row

  abbrev pub self : Slot 2
  self = RefOf (0 ∷ []) tt (plain (λ _. wrapper.the_row (param 0 Z.row))) (λ _. tt)

  -- where the inner allocator lies, and where the counters do
  abbrev pub inner_at : ℕ × ℕ → ℕ × ℕ
  inner_at at = (at.0, at.1 + up (align (α Z)) 0)

  abbrev pub counters_at : ℕ × ℕ → ℕ × ℕ
  counters_at at = (at.0, at.1 + up 8 (up (align (α Z)) 0 + size (α Z)))
