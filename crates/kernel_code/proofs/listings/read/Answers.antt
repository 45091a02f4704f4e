use Rattle.std.proofs.Common.{refl, sym}
use Rattle.std.proofs.lemmas.Result.{IfOk-weaker, IfErr-weaker}
use Rattle.fallible.proofs.FailureLaws.{refused_weaker}
use Rattle.line_text.specs.Parts.{ended}
use Rattle.line_text.proofs.LineLaws.{after_found}
use Rattle.kernel_code.specs.Listing.{head_line, bad_head, lines}
use Rattle.kernel_code.proofs.ListingLaws.{no_head, parses_once, one_listing}
use Rattle.kernel_code.proofs.listings.read.Goals as goal

pub returns-in_default-clause-fault : goal.returns-in_default-clause-fault
returns-in_default-clause-fault g c = bad_head (no_head c.args.bytes.now (sym c.in_default.ensures)) refl

pub returns-in_default-clause-once : goal.returns-in_default-clause-once
returns-in_default-clause-once g c = parses_once

pub returns-in_default-clause-one_listing : goal.returns-in_default-clause-one_listing
returns-in_default-clause-one_listing g c = one_listing

pub returns-clause-code : goal.returns-clause-code
returns-clause-code g c =
    IfOk-weaker c.below_head.result _ _ (λ code h. lines c.in-Some.rest.now (after_found (ended head_line) c.args.bytes.now c.in-Some.rest.now (sym c.in-Some.ensures)) h) c.below_head.ensures.code

pub returns-clause-fault : goal.returns-clause-fault
returns-clause-fault g c =
    let split = after_found (ended head_line) c.args.bytes.now c.in-Some.rest.now (sym c.in-Some.ensures) in
    IfErr-weaker c.below_head.result _ _ (λ failure h. refused_weaker _ _ failure (λ fault k. lines c.in-Some.rest.now split k) h) c.below_head.ensures.fault

pub returns-clause-once : goal.returns-clause-once
returns-clause-once g c = parses_once

pub returns-clause-one_listing : goal.returns-clause-one_listing
returns-clause-one_listing g c = one_listing
