use Rattle.std.proofs.Common.{refl, subst, sym}
use Rattle.fixed.specs.Fractions.{bits_of}
use Rattle.curve_lines.specs.Bodies.{HasRows, IsBodyText}
use Rattle.curve_lines.proofs.BodyLaws.{body_text}
use Rattle.curve_lines.proofs.bodies.Body.into_text.Goals as goal

pub returns : goal.returns
returns g c = λ rows has.
    subst (λ b. IsBodyText (bits_of b.frac) b.columns rows c.put_last.new.text.items) c.self.view_is
    (body_text _ _ _ _ _ refl c.in_ok-extend_from_slice.ensures.items c.deref.ensures.value c.in_ok-put_last.ensures rows
    (subst (λ b. HasRows b rows) (sym c.self.view_is) has))
