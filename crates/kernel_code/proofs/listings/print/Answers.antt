use Rattle.std.proofs.Common.{refl, sym, ap, subst, ◌∙◌}
use Rattle.kernel_code.specs.Code.{IsCode}
use Rattle.kernel_code.specs.Listing.{IsListed, listing_of}
use Rattle.kernel_code.proofs.ListingLaws.{printed, is_listed, one_listing}
use Rattle.kernel_code.proofs.listings.print.Goals as goal

pub returns-clause-text : goal.returns-clause-text
returns-clause-text g c =
    printed c.as_slice-instr-items.result.now c.loop-instr.instr-index c.loop-instr.text.items c.loop-instr-test.false c.loop-instr.invariant.text ∙ ap listing_of c.as_slice-instr-items.ensures.items

listed : (g : _) (c : goal.After-loop-instr g) → IsListed c.args.code.now
listed g c =
    let is = c.as_slice-instr-items.result.now in
    let same = c.as_slice-instr-items.ensures.items in
    subst IsListed same
    (is_listed is c.loop-instr.instr-index c.loop-instr-test.false (subst IsCode (sym same) c.as_slice-instr-items.ensures.code) c.loop-instr.invariant.operands)

pub returns-clause-listed : goal.returns-clause-listed
returns-clause-listed g c = listed g c

pub returns-clause-again : goal.returns-clause-again
returns-clause-again g c = (one_listing (listing_of c.args.code.now) c.args.code.now).1 (listed g c, refl)
