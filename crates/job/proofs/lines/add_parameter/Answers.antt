use Rattle.std.proofs.Common.{Ok, ◌∙◌, ap, is_ok, le-ltb, lt-ltb, arith, subst, sym, IsTrue, Vec, List, ℕ}
use Rattle.std.proofs.lemmas.List.{length-map}
use Rattle.line_text.specs.Identifiers.{is_identifier}
use Rattle.job.specs.Views.{said_of, refusal_of}
use Rattle.job.proofs.FormLemmas.{known_is}
use Rattle.job.proofs.DraftLemmas.{refused, pushed, pushed_few, pushed_all, known_listed, out_listed, new_listed}
use Rattle.job.proofs.lines.add_parameter.Goals as goal

pub returns-then-knows_parameter : goal.returns-then-knows_parameter
returns-then-knows_parameter g c =
    refused (refusal_of {A = g.row.A.Denot}) c.repeated_name.result _ _ c.repeated_name.ensures
    (known_listed _ _ _ _ _
    (known_is (λ (p : Vec ℕ g.row.A.Denot). p.items) c.args.draft.now.parameters.items _ _ _ _ c.as_slice.ensures.value c.knows_parameter.ensures c.if-knows_parameter.true))

pub returns-then-len-ge-MAX_PARAMETERS : goal.returns-then-len-ge-MAX_PARAMETERS
returns-then-len-ge-MAX_PARAMETERS g c =
    out_listed _ _ _ _ _
    (known_is (λ (p : Vec ℕ g.row.A.Denot). p.items) c.args.draft.now.parameters.items _ _ _ _ c.as_slice.ensures.value c.knows_parameter.ensures c.if-knows_parameter.false)
    (le-ltb _ 8 (omega (arith, length-map c.args.draft.now.parameters.items (λ (p : Vec ℕ g.row.A.Denot). p.items), c.len.ensures, c.args.draft.now.parameters.ok.0, c.if-len-ge-MAX_PARAMETERS.true)))

pub invariant_of-draft-clause-named : goal.invariant_of-draft-clause-named
invariant_of-draft-clause-named g c =
    pushed_all (λ (p : Vec ℕ g.row.A.Denot). IsTrue (is_identifier p.items)) (is_ok c.push.result) c.args.draft.now.parameters.items c.push.new.self.items
    c.in_ok-name.name c.push.ensures.items c.args.draft.now.named (subst (λ (t : List ℕ). IsTrue (is_identifier t)) (sym c.in_ok-name.ensures.items) c.requires)

pub invariant_of-draft-clause-few_parameters : goal.invariant_of-draft-clause-few_parameters
invariant_of-draft-clause-few_parameters g c =
    pushed_few (is_ok c.push.result) c.args.draft.now.parameters.items c.push.new.self.items _ 8 c.push.ensures.items
    (omega (arith, c.len.ensures, c.args.draft.now.parameters.ok.0, c.if-len-ge-MAX_PARAMETERS.false))

pub returns : goal.returns
returns g c =
    new_listed _ _ _ _ _
    (known_is (λ (p : Vec ℕ g.row.A.Denot). p.items) c.args.draft.now.parameters.items _ _ _ _ c.as_slice.ensures.value c.knows_parameter.ensures c.if-knows_parameter.false)
    (lt-ltb _ 8 (omega (arith, length-map c.args.draft.now.parameters.items (λ (p : Vec ℕ g.row.A.Denot). p.items), c.len.ensures, c.args.draft.now.parameters.ok.0, c.if-len-ge-MAX_PARAMETERS.false)))
    ∙ ap (λ (ps : List (List ℕ)). Ok (record (said_of c.args.draft.now) { parameters = ps }))
    (sym (pushed (λ (p : Vec ℕ g.row.A.Denot). p.items) c.args.draft.now.parameters.items _ _ _ c.in_ok-push.ensures.items c.in_ok-name.ensures.items))
