-- Tables of a job's potential that `curve` printed, and why not all of them.
use Rattle.std.proofs.Common.{List, ℕ, inl, inr, refl, Result, Ok, Err}
use Rattle.command_line.specs.Commands.{CurveView}
use Rattle.curves.specs.Writing.{IsCurveUnwritten}
use Rattle.curves.specs.declared.faults.CurveFault.{CurveFault}
use Rattle.curves.specs.declared.faults.CurveFault.TheVariants as curve
use Rattle.curves.specs.declared.plans.CurvePlan.{CurvePlan}
use Rattle.fallible.specs.Out.{Output}
use Rattle.job.specs.JobText.{IsJobText, limits}
use Rattle.job.specs.Values.{JobValue}
use Rattle.cli.specs.CurveTexts.{HasPair, IsPlanOf, OfPlan, OfTables}
use Rattle.cli.specs.Failures.{fault_of_curve}
use Rattle.cli.specs.Performed.{WritesTables}
use Rattle.cli.specs.Refusals.{AreTablesUnwritten, RefusesCurve, RefusesUnder}
use Rattle.cli.specs.declared.faults.CommandFault.{CommandFault}

-- the names of a plan's types are those of types
has_pair : (j : JobValue) (c : CurveView) (plan : CurvePlan) → IsPlanOf j c plan → HasPair j c.types
has_pair j c plan is = (plan.pair, is.pair)

-- the fault of writing the tables of a plan is one of writing those that the arguments request
pub unwritten_of : {A : Type 0} (j : JobValue) (c : CurveView) (plan : CurvePlan) (before after : Output) (f : CurveFault A) (n : ℕ)
    → IsPlanOf j c plan → IsCurveUnwritten j plan before after f n
    → AreTablesUnwritten (RefusesCurve c j) (λ Holds. OfPlan j c (Holds j)) before after (fault_of_curve f)
unwritten_of j c plan before after (curve.Rejected f) n is (why, same, passed) = inl ((has_pair j c plan is, why), same)
unwritten_of j c plan before after curve.Memory n is (inl (same, few)) = inl (tt, same)
unwritten_of j c plan before after curve.Memory n is (inr cut) = inr (inl (refl, (plan, is, (n, cut))))
unwritten_of j c plan before after (curve.Out o) n is cut = inr (inr (o, refl, (plan, is, (n, cut))))

unwritten_also : {A : Type 0} (job : List ℕ) (j : JobValue) (c : CurveView) (before after : Output) (f : CommandFault A)
    → IsJobText limits job j → AreTablesUnwritten (RefusesCurve c j) (λ Holds. OfPlan j c (Holds j)) before after f
    → AreTablesUnwritten (RefusesUnder job (RefusesCurve c)) (OfTables job c) before after f
unwritten_also job j c before after f read (inl (why, same)) = inl (inr (j, read, why), same)
unwritten_also job j c before after f read (inr (inl (is, cut))) = inr (inl (is, (j, read, cut)))
unwritten_also job j c before after f read (inr (inr (o, is, cut))) = inr (inr (o, is, (j, read, cut)))

-- the tables of a job are those of the job of a text
pub written_also : {T A : Type 0} (r : Result T (CommandFault A)) (job : List ℕ) (j : JobValue) (c : CurveView) (before after : Output)
    → IsJobText limits job j → WritesTables (RefusesCurve c j) (λ Holds. OfPlan j c (Holds j)) before after r
    → WritesTables (RefusesUnder job (RefusesCurve c)) (OfTables job c) before after r
written_also (Ok x) job j c before after read wrote = (j, read, wrote)
written_also (Err f) job j c before after read h = unwritten_also job j c before after f read h
