use Rattle.std.proofs.Common.{Some, Ok, ap, le-ltb, lt-ltb, refl, sym, is_ok, arith, ◌∙◌, List, ℕ}
use Rattle.std.proofs.lemmas.List.{length-map}
use Rattle.job.specs.Values.{GlobalValue}
use Rattle.job.specs.Drafts.{said_after}
use Rattle.job.specs.Statements.{global_is}
use Rattle.job.specs.JobText.{limits}
use Rattle.job.specs.Views.{said_of, refusal_of, global_value}
use Rattle.job.proofs.FormLemmas.{known_through}
use Rattle.job.proofs.DraftLemmas.{refused, pushed, pushed_few, known_listed, out_listed, new_listed}
use Rattle.job.proofs.lines.add_global.Goals as goal

pub returns-then-knows_global : goal.returns-then-knows_global
returns-then-knows_global g c =
    refused (refusal_of {A = g.row.A.Denot}) c.repeated_name.result _ _ c.repeated_name.ensures
    (known_listed _ _ _ _ _
    (known_through (global_value {A = g.row.A.Denot}) (λ (v : GlobalValue). v.name) c.args.draft.now.globals.items _ _ _ _ c.as_slice.ensures.value c.knows_global.ensures c.if-knows_global.true))

pub returns-in_default : goal.returns-in_default
returns-in_default g c =
    ap (λ o. said_after limits 0 (said_of c.args.draft.now) (Some (global_is c.args.name.now o))) c.in_default.is
    ∙ out_listed _ _ _ _ _
    (known_through (global_value {A = g.row.A.Denot}) (λ (v : GlobalValue). v.name) c.args.draft.now.globals.items _ _ _ _ c.as_slice.ensures.value c.knows_global.ensures c.if-knows_global.false) refl

pub returns-then-len-ge-MAX_GLOBALS : goal.returns-then-len-ge-MAX_GLOBALS
returns-then-len-ge-MAX_GLOBALS g c =
    ap (λ o. said_after limits 0 (said_of c.args.draft.now) (Some (global_is c.args.name.now o))) c.in-Some.is
    ∙ out_listed _ _ _ _ _
    (known_through (global_value {A = g.row.A.Denot}) (λ (v : GlobalValue). v.name) c.args.draft.now.globals.items _ _ _ _ c.as_slice.ensures.value c.knows_global.ensures c.if-knows_global.false)
    (le-ltb _ 16 (omega (arith, length-map c.args.draft.now.globals.items (global_value {A = g.row.A.Denot}), c.len.ensures, c.args.draft.now.globals.ok.0, c.if-len-ge-MAX_GLOBALS.true)))

pub invariant_of-draft-clause-few_globals : goal.invariant_of-draft-clause-few_globals
invariant_of-draft-clause-few_globals g c =
    pushed_few (is_ok c.push.result) c.args.draft.now.globals.items c.push.new.self.items _ 16 c.push.ensures.items
    (omega (arith, c.len.ensures, c.args.draft.now.globals.ok.0, c.if-len-ge-MAX_GLOBALS.false))

pub returns : goal.returns
returns g c =
    ap (λ o. said_after limits 0 (said_of c.args.draft.now) (Some (global_is c.args.name.now o))) c.in-Some.is
    ∙ new_listed _ _ _ _ _
    (known_through (global_value {A = g.row.A.Denot}) (λ (v : GlobalValue). v.name) c.args.draft.now.globals.items _ _ _ _ c.as_slice.ensures.value c.knows_global.ensures c.if-knows_global.false)
    (lt-ltb _ 16 (omega (arith, length-map c.args.draft.now.globals.items (global_value {A = g.row.A.Denot}), c.len.ensures, c.args.draft.now.globals.ok.0, c.if-len-ge-MAX_GLOBALS.false)))
    ∙ ap (λ (gs : List GlobalValue). Ok (record (said_of c.args.draft.now) { globals = gs }))
    (sym (pushed (global_value {A = g.row.A.Denot}) c.args.draft.now.globals.items _ _ _ c.in_ok-push.ensures.items (ap (λ (n : List ℕ). record { name = n; value = c.in-Some.value }) c.in_ok-name.ensures.items)))
