use Rattle.std.proofs.Common.{refl}
use Rattle.run_laws.proofs.tested_run.checked_runs.run_frames.Goals as goal

pub returns-in-Err-Refused-clause-stop : goal.returns-in-Err-Refused-clause-stop
returns-in-Err-Refused-clause-stop g c =
    let stop = c.in-Err-Refused.stop in
    rw c.kernel_fault.ensures (
    record {
      done = stop.done;
      pair = (stop.pair.low, stop.pair.high);
      stops = rw c.in-Err-Refused.field-0-is at c.in-Err-Refused.ensures.stops;
      counter = refl;
      lower = refl;
      higher = refl;
    }
    )
