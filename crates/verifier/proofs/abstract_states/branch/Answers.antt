use Rattle.std.proofs.Common.{refl}
use Rattle.verifier.specs.Slices.{frame_at, goes_on, jumps}
use Rattle.verifier.proofs.Joining.{same_ends, other_ends, not_member, is_member, may_jump_copied, met_popped, met_still}
use Rattle.verifier.proofs.abstract_states.branch.Goals as goal

pub returns-then-not-contains-clause-branches : goal.returns-then-not-contains-clause-branches
returns-then-not-contains-clause-branches g c = goes_on c.pop-span.ensures.pops (not_member _ _ _ c.contains.ensures c.from_raw.ensures c.if-not-contains.true) c.join.ensures

pub returns-then-eq-clause-branches : goal.returns-then-eq-clause-branches
returns-then-eq-clause-branches g c = jumps c.pop-span.ensures.pops (is_member _ _ _ c.contains.ensures c.from_raw.ensures c.if-not-contains.false) (same_ends _ _ c.if-eq.ensures) c.join-then-eq.ensures

pub returns-in_ok-copy-clause-branches : goal.returns-in_ok-copy-clause-branches
returns-in_ok-copy-clause-branches g c =
    may_jump_copied c.args.next c.args.target c.pop-span.result c.args.frame c.pop-span.new.self c.in_ok-copy.field-0 c.args.states.now c.join-else-eq.new.self c.join-else-eq-2.new.self c.pop-span.ensures.pops c.in_ok-copy.ensures
    (is_member _ _ _ c.contains.ensures c.from_raw.ensures c.if-not-contains.false) (other_ends _ _ c.if-eq.ensures) c.join-else-eq.ensures c.join-else-eq-2.ensures

pub join-requires-clause-meet : goal.join-requires-clause-meet
join-requires-clause-meet g c = met_popped (frame_at c.args.states.now c.args.next) c.pop-span.result c.args.frame c.pop-span.new.self c.pop-span.new.self c.pop-span.ensures.pops refl c.requires.meet_next

pub join-requires-then-eq-clause-meet : goal.join-requires-then-eq-clause-meet
join-requires-then-eq-clause-meet g c = met_popped (frame_at c.args.states.now c.args.target) c.pop-span.result c.args.frame c.pop-span.new.self c.pop-span.new.self c.pop-span.ensures.pops refl c.requires.meet_target

pub join-requires-else-eq-clause-meet : goal.join-requires-else-eq-clause-meet
join-requires-else-eq-clause-meet g c = met_popped (frame_at c.args.states.now c.args.next) c.pop-span.result c.args.frame c.pop-span.new.self c.in_ok-copy.field-0 c.pop-span.ensures.pops c.in_ok-copy.ensures c.requires.meet_next

pub join-requires-else-eq-2-clause-meet : goal.join-requires-else-eq-2-clause-meet
join-requires-else-eq-2-clause-meet g c = met_still c.args.next c.args.target c.pop-span.new.self c.in_ok-copy.field-0 c.args.states.now c.join-else-eq.new.self c.in_ok-copy.ensures c.join-else-eq.ensures (met_popped (frame_at c.args.states.now c.args.target) c.pop-span.result c.args.frame c.pop-span.new.self c.pop-span.new.self c.pop-span.ensures.pops refl c.requires.meet_target)
