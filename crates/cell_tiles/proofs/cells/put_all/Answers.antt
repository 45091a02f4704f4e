use Rattle.std.proofs.Common.{◌∙◌, ◌++◌, ◌≤◌, [], ◌∷◌, ap, arith, length, set, subst, inl, inr}
use Rattle.std.proofs.lemmas.Bool.{cases_eq}
use Rattle.std.proofs.lemmas.List.{get_or_default}
use Rattle.ring_box.specs.Places.{ArePlaces, no_place}
use Rattle.cell_tiles.specs.Cells.{cell_number, first_members}
use Rattle.cell_tiles.specs.Tiles.{members_at}
use Rattle.cell_tiles.proofs.MemberLemmas.{few_members, length_members, next_member, no_members}
use Rattle.cell_tiles.proofs.VectorLemmas.{all_seen, length_seen}
use Rattle.cell_tiles.proofs.cells.put_all.Goals as goal

pub loop-atom-init : goal.loop-atom-init
loop-atom-init g c = record {
  put = c.requires.empty ∙ no_members c.args.grid.now.bits c.args.frame.now;
  on_ring = λ k d h. absurd (omega arith);
}

pub put-requires : goal.put-requires
put-requires g c =
    let bits = c.args.grid.now.bits in
    let frame = c.args.frame.now in
    let l = length_seen (λ m. m.items) c.loop-atom.members.items (first_members bits frame c.loop-atom.atom) _ c.loop-atom.invariant.put (length_members bits frame c.loop-atom.atom) in
    omega (arith, l, c.cell_of.ensures.bound)

pub returns-in_err-put-clause-few : goal.returns-in_err-put-clause-few
returns-in_err-put-clause-few g c =
    all_seen (λ m. m.items) (λ m. length m ≤ 65536) c.put.new.members.items _ (c.in_err-put.ensures.err ∙ c.loop-atom.invariant.put) (few_members _ _ _ 65536 (omega arith))

pub returns-in_err-put-clause-cells : goal.returns-in_err-put-clause-cells
returns-in_err-put-clause-cells g c =
    length_seen (λ m. m.items) c.put.new.members.items _ _ (c.in_err-put.ensures.err ∙ c.loop-atom.invariant.put) (length_members _ _ _)

pub loop-atom-preserved : goal.loop-atom-preserved
loop-atom-preserved g c =
    let bits = c.args.grid.now.bits in
    let frame = c.args.frame.now in
    record {
      put =
          c.in_ok-put.ensures.ok
          ∙ (ap (λ ms. set ms c.cell_of.result (members_at ms c.cell_of.result ++ c.loop-atom.atom ∷ [])) c.loop-atom.invariant.put
          ∙ next_member bits frame c.loop-atom.atom c.cell_of.result (c.cell_of.ensures.value ∙ ap (cell_number bits) (get_or_default frame c.loop-atom.atom _ no_place (omega arith))) c.cell_of.ensures.bound);
      on_ring = λ k d h. elim (cases_eq k c.loop-atom.atom) [
        | inl e ↦ rw e (subst ArePlaces (get_or_default frame c.loop-atom.atom _ d (omega arith)) c.cell_of.ensures.on_ring)
        | inr o ↦ c.loop-atom.invariant.on_ring k d (omega arith)
      ];
    }

pub returns-clause-few : goal.returns-clause-few
returns-clause-few g c =
    all_seen (λ m. m.items) (λ m. length m ≤ 65536) c.loop-atom.members.items _ c.loop-atom.invariant.put (few_members _ _ _ 65536 (omega arith))

pub returns-clause-cells : goal.returns-clause-cells
returns-clause-cells g c =
    length_seen (λ m. m.items) c.loop-atom.members.items _ _ c.loop-atom.invariant.put (length_members _ _ _)
