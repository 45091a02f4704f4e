use denote.Exit.{no}
use denote.RattleType.{RattleType}
use denote.Ref.{NamedLft}
use denote.Param.{copied}
use denote.Param.Send.{IsSync, sendable, param_sync, arg_sync, shr_sync, shr_slice_sync}
use denote.Param.SendFields.{declared_sync, as_row_sync}
use denote.Struct.Field.{shr_ref_field, shr_slice_field}
use Rattle.std.specs.declared.alloc.Allocator.{Ghosts}
use Rattle.std.specs.contracts.vec.Vec as vec
use Rattle.std.proofs.CrossingOver as over
use Rattle.fixed.proofs.number.Fx.TheSendSync as fx
use Rattle.fixed.proofs.operations.Operator.TheSendSync as operator
use Rattle.fixed.proofs.operations.Function.TheSendSync as function
use Rattle.energy_program.specs.contracts.programs.Program as program
use Rattle.energy_program.specs.contracts.trees.Expr as expr
use Rattle.energy_program.proofs.trees.Expr.TheLaws.TheKnot as knot
use Rattle.frame_sums.specs.contracts.frame_pairs.FramePairs as pairs
use Rattle.frame_sums.specs.contracts.safe_systems.SafeSystem as safe
use Rattle.potential.specs.contracts.slope_kernels.SlopeKernel as kernel
use Rattle.potential.proofs.lane_kernels.LaneKernel.TheSendSync as lanes
use Rattle.pair_lists.proofs.pair_lists.PairLists.TheSendSync as lists
use Rattle.integrator.proofs.systems.System.TheSendSync as system
use Rattle.ring_box.specs.contracts.vectors.Place3 as place
use Rattle.ring_box.proofs.vectors.Place3.TheSendSync as place_sync
use Rattle.frame_sums.proofs.pools.Pool.sums.Goals as goal

-- ---- threads may share the pairs of a frame; `search` exceeds its number of steps for the whole type

expr_sync : (T : RattleType) (g : Ghosts T.Denot) → IsSync T → IsSync (expr.the_row T g)
expr_sync T g is =
    as_row_sync (expr.the_field T g)
    (knot.sync-Expr T g fx.the_sync (search sendable) (search sendable) (λ h s. search (over.crosses, s, is)) operator.the_field_sync function.the_field_sync (search sendable))

program_sync : (T : RattleType) (g : Ghosts T.Denot) → IsSync T → IsSync (program.the_row T g)
program_sync T g is =
    let body = expr_sync T g is in
    let definitions : IsSync (vec.the_row (expr.the_row T g) T g) = search (over.crosses, body, is) in
    declared_sync (program.the_type T g) (body, (as_row_sync (vec.the_field (expr.the_row T g) T g) definitions, (search sendable, (search sendable, tt))))

kernel_sync : (T : RattleType) (g : Ghosts T.Denot) → IsSync T → IsSync (kernel.the_row T g)
kernel_sync T g is = declared_sync (kernel.the_type T g) (program_sync T g is, (lanes.the_sync T g is, tt))

safe_sync : (T : RattleType) (g : Ghosts T.Denot) → IsSync T → IsSync (safe.the_row T g)
safe_sync T g is = declared_sync (safe.the_type T g) (system.the_sync (kernel.the_row T g) T g (kernel_sync T g is) is, (lists.the_sync T g is, tt))

pairs_sync : (a : NamedLft) (T : RattleType) (g : Ghosts T.Denot) → IsSync T → IsSync (pairs.the_row a T g)
pairs_sync a T g is =
    declared_sync (pairs.the_type a T g)
    (as_row_sync (shr_ref_field a (safe.the_row T g) tt) (shr_sync _ _ _ (safe_sync T g is)), (as_row_sync (shr_slice_field a place.the_row tt) (shr_slice_sync _ _ _ place_sync.the_sync), tt))

pub forces-requires-sync-W : goal.forces-requires-sync-W
forces-requires-sync-W g c κs within = param_sync 3 _ (arg_sync _ no _ (pairs_sync _ (copied 2 g.row.A) g.A.Allocator c.type_bounds.sync-A))
