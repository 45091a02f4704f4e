use Rattle.fixed.specs.Fractions.{bits_of}
use Rattle.verifier.specs.declared.slices.Stopped.{Stopped}
use Rattle.verifier.specs.AbstractStates.{StopsAt}
use Rattle.verifier.specs.Verdicts.{IsStopped}
use Rattle.fallible.proofs.FailureLaws.{refused_weaker}
use Rattle.verifier.proofs.searches.Search.try_slice.Goals as goal

pub returns-in-Ok-follow_slice-clause-bounded : goal.returns-in-Ok-follow_slice-clause-bounded
returns-in-Ok-follow_slice-clause-bounded g c =
    let given = rw (c.frac-frac.ensures, c.as_slice-code.ensures.items, c.as_slice-inputs.ensures.value) at c.in-Ok-follow_slice.ensures.gives in
    record { spans = c.in-Ok.inputs.items; inputs = c.in-Ok.ensures; result = c.in-Ok-follow_slice.span; gives = given; bound' = cc (c.max.ensures, c.magnitude.ensures, c.magnitude-in-Ok-follow_slice.ensures) }

pub returns-clause-stopped : goal.returns-clause-stopped
returns-clause-stopped g c =
    let stops = rw (c.frac-frac.ensures, c.as_slice-code.ensures.items, c.as_slice-inputs.ensures.value) at c.in-Err.ensures.stops in
    refused_weaker (λ (x : Stopped). StopsAt (bits_of c.args.self.now.table.now.frac) c.args.self.now.code.now c.in-Ok.inputs.items x.pc x.fault) (λ (x : Stopped). IsStopped c.args.self.now.code.now c.args.self.now.table.now c.args.pair.first c.args.pair.second c.args.distances.now x.pc x.fault) c.in-Err.failure
    (λ x s. record { spans = c.in-Ok.inputs.items; inputs = c.in-Ok.ensures; stops = s }) stops
