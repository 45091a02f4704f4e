use Rattle.std.proofs.Common.{◌≡◌, Some, Ok, ap, le-ltb, lt-ltb, refl, is_ok, arith, ◌∙◌, subst, sym, IsTrue, List, ℕ, option_map}
use Rattle.std.proofs.lemmas.List.{length-map}
use Rattle.line_text.specs.Names.{name_text}
use Rattle.job.specs.Forms.{is_type_name}
use Rattle.job.specs.Faults.{TypeLine}
use Rattle.job.specs.Drafts.{said_after}
use Rattle.job.specs.Statements.{type_is}
use Rattle.job.specs.JobText.{limits}
use Rattle.job.specs.Views.{said_of, type_line, type_numbers_of}
use Rattle.job.proofs.FormLemmas.{ascii_type_name, known_through, type_name_is}
use Rattle.job.proofs.DraftLemmas.{pushed, pushed_few, known_listed, out_listed, new_listed}
use Rattle.job.proofs.lines.add_type.Goals as goal

pub returns-then-knows_type : goal.returns-then-knows_type
returns-then-knows_type g c =
    rw c.in_ok-name.ensures (known_listed _ _ _ _ _
    (known_through (type_line {A = g.row.A.Denot}) (λ (t : TypeLine). t.value.name) c.args.draft.now.types.items _ _ _ _ c.as_slice.ensures.value c.knows_type.ensures c.if-knows_type.true))

pub returns-in_default : goal.returns-in_default
returns-in_default g c =
    ap (λ o. said_after limits c.args.number (said_of c.args.draft.now) (Some (type_is c.args.word.now (option_map (type_numbers_of {A = g.row.A.Denot}) o)))) c.in_default.is
    ∙ out_listed _ _ _ _ _
    (known_through (type_line {A = g.row.A.Denot}) (λ (t : TypeLine). t.value.name) c.args.draft.now.types.items _ _ _ _ c.as_slice.ensures.value c.knows_type.ensures c.if-knows_type.false) refl

pub returns-then-len-ge-MAX_TYPES : goal.returns-then-len-ge-MAX_TYPES
returns-then-len-ge-MAX_TYPES g c =
    ap (λ o. said_after limits c.args.number (said_of c.args.draft.now) (Some (type_is c.args.word.now (option_map (type_numbers_of {A = g.row.A.Denot}) o)))) c.in-Some.is
    ∙ out_listed _ _ _ _ _
    (known_through (type_line {A = g.row.A.Denot}) (λ (t : TypeLine). t.value.name) c.args.draft.now.types.items _ _ _ _ c.as_slice.ensures.value c.knows_type.ensures c.if-knows_type.false)
    (le-ltb _ 64 (omega (arith, length-map c.args.draft.now.types.items (type_line {A = g.row.A.Denot}), c.len.ensures, c.args.draft.now.types.ok.0, c.if-len-ge-MAX_TYPES.true)))

pub text_of-requires : goal.text_of-requires
text_of-requires g c = ascii_type_name c.args.word.now c.requires

pub unreachable-requires : goal.unreachable-requires
unreachable-requires g c =
    let is = type_name_is c.args.word.now c.requires in
    let seen = c.new.ensures in
    let none = ap (option_map name_text) c.in_default-new.is in
    cc

pub invariant_of-push : goal.invariant_of-push
invariant_of-push g c = record {
  named =
      subst (λ (n : List ℕ). IsTrue (is_type_name n))
      (sym (let is = type_name_is c.args.word.now c.requires in let seen = c.in-Some-new.ensures in cc)) c.requires;
  some_mass = c.in-Some.numbers.some_mass;
  most_mass = c.in-Some.numbers.most_mass;
}

pub invariant_of-draft-clause-few_types : goal.invariant_of-draft-clause-few_types
invariant_of-draft-clause-few_types g c =
    pushed_few (is_ok c.push.result) c.args.draft.now.types.items c.push.new.self.items _ 64 c.push.ensures.items
    (omega (arith, c.len.ensures, c.args.draft.now.types.ok.0, c.if-len-ge-MAX_TYPES.false))

pub returns : goal.returns
returns g c =
    let name : name_text c.in-Some-new.name ≡ c.args.word.now = let is = type_name_is c.args.word.now c.requires in let seen = c.in-Some-new.ensures in cc in
    ap (λ o. said_after limits c.args.number (said_of c.args.draft.now) (Some (type_is c.args.word.now (option_map (type_numbers_of {A = g.row.A.Denot}) o)))) c.in-Some.is
    ∙ new_listed _ _ _ _ _
    (known_through (type_line {A = g.row.A.Denot}) (λ (t : TypeLine). t.value.name) c.args.draft.now.types.items _ _ _ _ c.as_slice.ensures.value c.knows_type.ensures c.if-knows_type.false)
    (lt-ltb _ 64 (omega (arith, length-map c.args.draft.now.types.items (type_line {A = g.row.A.Denot}), c.len.ensures, c.args.draft.now.types.ok.0, c.if-len-ge-MAX_TYPES.false)))
    ∙ ap (λ (ts : List TypeLine). Ok (record (said_of c.args.draft.now) { types = ts }))
    (sym (pushed (type_line {A = g.row.A.Denot}) c.args.draft.now.types.items _ _ _ c.in_ok-push.ensures.items
    (ap (λ (n : List ℕ). record { line = c.args.number; value = record { name = n; mass = c.in-Some.numbers.mass; values = c.in-Some.numbers.values.items } }) name)))
