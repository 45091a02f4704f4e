use Rattle.std.proofs.Common.{◌≡◌, ◌*◌, ◌^◌, Err, Ok, subst}
use Rattle.kernel_code.specs.Code.{IsCode}
use Rattle.verifier.specs.Safety.{IsRefusal}
use Rattle.verifier.specs.Verdicts.{IsVerdict, range}
use Rattle.verifier.specs.declared.faults.VerifyFault.{VerifyFault}
use Rattle.fallible.proofs.FailureLaws.{refused_weaker}
use Rattle.verifier.proofs.OneVerdict.{verdict_same}
use Rattle.verifier.proofs.Soundness.{accepted_is_safe, refused_is_wrong}
use Rattle.verifier.proofs.verified.verify.Goals as goal

pub invariant_of-result : goal.invariant_of-result
invariant_of-result g c =
    accepted_is_safe c.args.code c.args.table (range c.args.core c.args.cutoff c.args.slices 24) c.in-Ok.certificate.steps c.in-Ok.certificate.bound c.requires.slices c.in-Ok.ensures.longest c.in-Ok.ensures.bound

pub returns-in-Ok-clause-certified : goal.returns-in-Ok-clause-certified
returns-in-Ok-clause-certified g c =
    accepted_is_safe c.args.code c.args.table (range c.args.core c.args.cutoff c.args.slices 24) c.in-Ok.certificate.steps c.in-Ok.certificate.bound c.requires.slices c.in-Ok.ensures.longest c.in-Ok.ensures.bound

pub returns-clause-refused : goal.returns-clause-refused
returns-clause-refused g c =
    let within = range c.args.core c.args.cutoff c.args.slices 24 in
    refused_weaker (λ (f : VerifyFault). IsVerdict c.args.code c.args.table within (Err f)) (IsRefusal c.args.code c.args.table c.args.core c.args.cutoff (c.args.slices * 2 ^ 24)) c.in-Err.failure
    (λ f v. refused_is_wrong c.args.code c.args.table within f (subst IsCode c.code.view_is c.code.invariant) c.requires.slices v)
    c.in-Err.ensures.verdict

pub returns-in-Ok-clause-only_bound : goal.returns-in-Ok-clause-only_bound
returns-in-Ok-clause-only_bound g c = λ answer v.
    verdict_same c.args.code c.args.table (range c.args.core c.args.cutoff c.args.slices 24) answer (Ok c.in-Ok.certificate.bound) (subst IsCode c.code.view_is c.code.invariant).forward v c.in-Ok.ensures.bound

pub returns-clause-only_refusal : goal.returns-clause-only_refusal
returns-clause-only_refusal g c = λ answer v.
    let within = range c.args.core c.args.cutoff c.args.slices 24 in
    refused_weaker (λ (f : VerifyFault). IsVerdict c.args.code c.args.table within (Err f)) (λ (f : VerifyFault). answer ≡ Err f) c.in-Err.failure
    (λ f w. verdict_same c.args.code c.args.table within answer (Err f) (subst IsCode c.code.view_is c.code.invariant).forward v w)
    c.in-Err.ensures.verdict
