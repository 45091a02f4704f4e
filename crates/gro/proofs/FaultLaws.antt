-- The fault that is read of a line has its cause in the line.
use Rattle.std.proofs.Common.{◌≡◌, ◌≤◌, ℕ, ◌+◌, Bool, true, false, cond, ltb, List, ◌∷◌, ◌++◌, length, drop, Option, Some, None, refl, sym, ap, ◌∙◌, le-ltb, ltb-false}
use Rattle.line_text.specs.Parts.{◌>>=◌ as ◌|>◌, split_once}
use Rattle.line_text.proofs.LineLaws.{cut_again, cut_found}
use Rattle.line_text.proofs.StepLaws.{none_is_no_some}
use Rattle.gro.specs.Frames.{AtomView}
use Rattle.gro.specs.GroFaults.{HasOtherPrecision, HasPoints}
use Rattle.gro.specs.GroReading.{fields_of, points_of}
use Rattle.gro.specs.GroText.{IsAtomLine}
use Rattle.gro.proofs.AtomLaws.{fields_read, points_read}

-- ---- an atom

-- the distance of a line's first two points is read
pub points_again : (text : List ℕ) (distance : ℕ) → HasPoints text distance → points_of text ≡ Some distance
unfolding points_of
points_again text distance h =
    rw (le-ltb (length text) 20 h.long, h.points, cut_again 46 h.before (h.between ++ 46 ∷ h.behind) h.first, cut_again 46 h.between h.behind h.second) (ap (λ (d : ℕ). Some d) (sym h.apart))

-- the distance that is read is that of the first two points
pub points_found : (text : List ℕ) (distance : ℕ) → points_of text ≡ Some distance → HasPoints text distance
unfolding points_of
points_found text distance e = at_length (ltb (length text) 20) refl e
  where
    second : (p : List ℕ × List ℕ) → split_once 46 (drop 20 text) ≡ Some p → 20 ≤ length text → (o : Option (List ℕ × List ℕ)) → split_once 46 p.1 ≡ o → (o |> λ q. Some (length q.0 + 1)) ≡ Some distance → HasPoints text distance
    second p c long None d e = absurd cc
    second p c long (Some q) d e =
        let a = cut_found 46 (drop 20 text) p.0 p.1 c in
        let b = cut_found 46 p.1 q.0 q.1 d in
        let same : length q.0 + 1 ≡ distance = cc in
        record { before = p.0; between = q.0; behind = q.1; long = long; points = a.0 ∙ ap (λ (t : List ℕ). p.0 ++ 46 ∷ t) b.0; first = a.1; second = b.1; apart = sym same }

    first : (o : Option (List ℕ × List ℕ)) → split_once 46 (drop 20 text) ≡ o → 20 ≤ length text → (o |> λ p. split_once 46 p.1 |> λ q. Some (length q.0 + 1)) ≡ Some distance → HasPoints text distance
    first None c long e = absurd cc
    first (Some p) c long e = second p c long (split_once 46 p.1) refl e

    at_length : (b : Bool) → ltb (length text) 20 ≡ b
        → cond b None (split_once 46 (drop 20 text) |> λ p. split_once 46 p.1 |> λ q. Some (length q.0 + 1)) ≡ Some distance → HasPoints text distance
    at_length true b e = absurd cc
    at_length false b e = first (split_once 46 (drop 20 text)) refl (ltb-false (length text) 20 b) e

-- a line that is no atom's line, but not for its positions' decimals
abbrev pub IsOtherwiseBad : List ℕ → Type 0
IsOtherwiseBad text = (HasOtherPrecision text → ⊥) × ((a : AtomView) → IsAtomLine text a → ⊥)

-- a line without two points
pub no_points : (text : List ℕ) → points_of text ≡ None → IsOtherwiseBad text
no_points text e = (
  λ other. none_is_no_some other.1.0 (sym e ∙ points_again text other.1.0 other.1.1),
  λ a h. none_is_no_some 8 (sym e ∙ points_read text a.at h.long h.at),
)

-- a line with a field of another form
pub no_fields : (text : List ℕ) → points_of text ≡ Some 8 → fields_of text ≡ None → IsOtherwiseBad text
no_fields text e f = (
  λ other. let same : ◌≡◌ {A = Option ℕ} (Some other.1.0) (Some 8) = sym (points_again text other.1.0 other.1.1) ∙ e in other.1.2 cc,
  λ a h. none_is_no_some a (sym f ∙ fields_read text a h),
)
