use Rattle.std.proofs.Common.{◌++◌}
use Rattle.state.specs.StateText.{columns_of}
use Rattle.state.specs.StateViews.{atom_view, sides_view}
use Rattle.state.specs.VelocityLines.{moved_text, velocities_text}
use Rattle.state.proofs.Pieces.{line_in_two}
use Rattle.state.proofs.velocity_text.put_line.Goals as goal

pub returns : goal.returns
returns g c =
    let a = atom_view c.args.atom.now in
    line_in_two c.args.text.now.items c.extend_from_slice.new.self.items _ c.as_slice.result.now c.as_slice-2.result.now c.front.result.items c.end.result.items
    (columns_of a ++ moved_text a) (velocities_text c.args.time_step (sides_view c.args.ring.now) a)
    c.in_ok-extend_from_slice.ensures.items c.as_slice.ensures.value c.front.ensures
    c.in_ok-extend_from_slice-2.ensures.items c.as_slice-2.ensures.value c.end.ensures
