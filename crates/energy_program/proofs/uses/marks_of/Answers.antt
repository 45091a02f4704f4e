use Rattle.std.proofs.Common.{refl, length, map, sym, ap, ◌∙◌, subst, IsTrue}
use Rattle.std.proofs.lemmas.List.{length-map}
use Rattle.energy_program.specs.Tree.{tree_of, is_scoped}
use Rattle.energy_program.specs.Uses.{is_marked}
use Rattle.energy_program.proofs.MarkLaws.{marks_are, marked_needed, needed_marked}
use Rattle.energy_program.proofs.uses.marks_of.Goals as goal

pub returns-clause-are : goal.returns-clause-are
returns-clause-are g c =
    marks_are (tree_of c.args.body.now) (map tree_of c.args.definitions.now) (length c.args.definitions.now) c.in_ok-marks.marks.len c.in_ok-marks.marks.items c.mark_all.new.marks _
    (c.in_ok-marks.ensures.items_if_clones_equal (λ y e. e)) (sym (length-map c.args.definitions.now tree_of)) c.in_ok-marks.ensures.len
    (c.mark_all.ensures ∙ rw c.deref_mut.ensures.value refl)

pub returns-clause-needed : goal.returns-clause-needed
returns-clause-needed g c k marked =
    marked_needed (tree_of c.args.body.now) (map tree_of c.args.definitions.now) k (sym (ap (λ m. is_marked m k) (returns-clause-are g c)) ∙ marked)

pub returns-clause-every : goal.returns-clause-every
returns-clause-every g c inputs whole each k needs =
    let counted = sym (length-map c.args.definitions.now tree_of) in
    ap (λ m. is_marked m k) (returns-clause-are g c)
    ∙ needed_marked inputs (tree_of c.args.body.now) (map tree_of c.args.definitions.now)
    (subst (λ n. IsTrue (is_scoped inputs 0 n (tree_of c.args.body.now))) counted whole) each k needs
