-- Lines that were taken from a source by one call after another.
use Rattle.std.proofs.Common.{◌≡◌, ◌<◌, ◌-◌, ◌+◌, ℕ, Bool, true, false, is_some, List, [], ◌∷◌, ◌++◌, length, drop, Option, Some, None, inl, inr, refl, sym, ap, subst, ◌∙◌, append_assoc, arith, append-nil, length-append}
use Rattle.std.specs.List.{AllByRecursion, flat_map}
use Rattle.std.proofs.lemmas.Grind.{flat_map-append}
use Rattle.std.proofs.lemmas.List.{drop_at}
use Rattle.line_text.specs.Parts.{◌>>=◌ as ◌|>◌, split_once, ended, lacks}
use Rattle.line_text.proofs.LineLaws.{uncut}
use Rattle.state.specs.Sources.{IsAtEnd, IsLine, KeepsFaultBefore, Left, Takes, TakesLine, TakesText, with_text}
use Rattle.state.specs.StateReading.{count_number, head_of}
use Rattle.state.specs.TakenLines.{AreFewer, AreLines, AreTaken, Taken, TakesCount, TakesCountLine, TakesFront, TakesHead, TakesLines, version_in}
use Rattle.state.specs.declared.sources.ReadFault.{ReadFault}
use Rattle.state.specs.declared.sources.ReadFault.TheVariants.{CannotRead}
use Rattle.state.specs.declared.versions.Version.{Version}
use Rattle.state.proofs.SourceLaws.{line_is_cut, taken_keeps}

-- ---- bytes that are left

pub takes_nothing : (left : Left) → Takes left left []
takes_nothing None = refl
takes_nothing (Some rest) = refl

pub takes_both : (a b c : Left) (s t : List ℕ) → Takes a b s → Takes b c t → Takes a c (s ++ t)
takes_both a b None s t first second = first ∙ ap (with_text s) second
takes_both a b (Some rest) s t first second =
    first ∙ ap (with_text s) second ∙ ap (λ (l : List ℕ). Some l) (sym (append_assoc s t rest))

-- bytes that are unknown were unknown
pub unknown_before : (a b : Left) (t : List ℕ) → Takes a b t → b ≡ None → a ≡ None
unknown_before a b t taken none = taken ∙ ap (with_text t) none

-- a source that can't be read on had unknown bytes before its last lines were taken
pub untold_before : (fault : ReadFault) (a b : Left) (t : List ℕ) → Takes a b t → (fault ≡ CannotRead → b ≡ None) → fault ≡ CannotRead → a ≡ None
untold_before fault a b t taken unknown = λ e. unknown_before a b t taken (unknown e)

end_before : (before after : Left) → Takes before after [] → IsAtEnd after → IsAtEnd before
end_before before None taken end = subst IsAtEnd (sym taken) tt
end_before before (Some rest) taken end = subst IsAtEnd (sym taken) end

-- ---- lines

all_both : {X : Type 0} (P : X → Type 0) (xs ys : List X) → AllByRecursion P xs → AllByRecursion P ys → AllByRecursion P (xs ++ ys)
all_both P [] ys all more = more
all_both P (x ∷ xs) ys all more = (all.0, all_both P xs ys all.1 more)

no_lines : AreLines 0 []
no_lines = record { lines = []; many = refl; whole = tt; joined = refl }

lines_both : (m n : ℕ) (a b : List ℕ) → AreLines m a → AreLines n b → AreLines (m + n) (a ++ b)
lines_both m n a b first second = record {
  lines = first.lines ++ second.lines;
  many = omega (arith, length-append first.lines second.lines, first.many, second.many);
  whole = all_both (λ line. lacks 10 line ≡ true) first.lines second.lines first.whole second.whole;
  joined = ap (λ (t : List ℕ). t ++ b) first.joined ∙ ap (λ (t : List ℕ). flat_map ended first.lines ++ t) second.joined ∙ sym (flat_map-append ended first.lines second.lines);
}

-- no line was taken yet
pub takes_no_lines : (left : Left) (text : List ℕ) → TakesLines true 0 left left text text
takes_no_lines left text = record { bytes = []; appended = sym (append-nil text); taken = takes_nothing left; are = no_lines }

-- bytes were taken, and then more bytes
taken_then : {P Q R : List ℕ → Type 0} (a b c : Left) (r s t : List ℕ) → ((x y : List ℕ) → P x → Q y → R (x ++ y)) → Taken a b r s P → Taken b c s t Q → Taken a c r t R
taken_then a b c r s t both first second = record {
  bytes = first.bytes ++ second.bytes;
  appended = second.appended ∙ ap (λ (u : List ℕ). u ++ second.bytes) first.appended ∙ append_assoc r first.bytes second.bytes;
  taken = takes_both a b c first.bytes second.bytes first.taken second.taken;
  are = both first.bytes second.bytes first.are second.are;
}

-- lines and then one more line
pub takes_more : (i : ℕ) (a b c : Left) (r s t : List ℕ) → TakesLines true i a b r s → TakesLines true 1 b c s t → TakesLines true (i + 1) a c r t
takes_more i a b c r s t first second = taken_then a b c r s t (lines_both i 1) first second

-- lines and then no more line
pub takes_fewer : (i k : ℕ) (a b c : Left) (r s t : List ℕ) → i < k → TakesLines true i a b r s → TakesLines false 1 b c s t → TakesLines false k a c r t
takes_fewer i k a b c r s t below first second = taken_then a b c r s t then_fewer first second
  where
    then_fewer : (x y : List ℕ) → AreLines i x → AreFewer 1 y c → AreFewer k (x ++ y) c
    then_fewer x y lines are = record {
      whole = i + are.whole;
      front = x ++ are.front;
      last = are.last;
      fewer = omega (arith, below, are.fewer);
      joined = ap (λ (u : List ℕ). x ++ u) are.joined ∙ sym (append_assoc x are.front are.last);
      lines = lines_both i are.whole x are.front lines are.lines;
      part = are.part;
      end = are.end;
    }

-- the text from an index on, for equal texts
pub from_at : (a b c d line : List ℕ) → line ≡ drop (length a) b → a ≡ c → b ≡ d → line ≡ drop (length c) d
from_at a b c d line e first second = e ∙ ap (λ (t : List ℕ). drop (length t) b) first ∙ ap (drop (length c)) second

-- the text from an index on is the line that was taken there
pub line_from : (text text' line : List ℕ) → text' ≡ text ++ line → drop (length text) text' ≡ line
line_from text text' line appended = ap (drop (length text)) appended ∙ drop_at text line (length text) refl

is_taken : (whole : Bool) (line : List ℕ) (after : Left) → IsLine line after → whole ≡ is_some (split_once 10 line) → AreTaken whole 1 line after
is_taken whole line after (inl (bare, no_lf, is)) e =
    let yes : whole ≡ true = e ∙ ap is_some (line_is_cut line bare no_lf is) in
    subst (λ (b : Bool). AreTaken b 1 line after) (sym yes) (record { lines = bare ∷ []; many = refl; whole = (no_lf, tt); joined = is ∙ sym (append-nil (ended bare)) })
is_taken whole line after (inr (part, end)) e =
    let no : whole ≡ false = e ∙ ap is_some (uncut 10 line part) in
    subst (λ (b : Bool). AreTaken b 1 line after) (sym no) (record {
      whole = 0;
      front = [];
      last = line;
      fewer = omega arith;
      joined = refl;
      lines = no_lines;
      part = part;
      end = end;
    })

-- a line that was taken is one line if it has its LF
pub takes_one : (whole : Bool) (before after : Left) (text text' : List ℕ) → TakesLine before after text text' → whole ≡ is_some (split_once 10 (drop (length text) text'))
    → TakesLines whole 1 before after text text'
takes_one whole before after text text' one e = record {
  bytes = one.line;
  appended = one.appended;
  taken = one.taken;
  are = is_taken whole one.line after one.is (e ∙ ap (λ (t : List ℕ). is_some (split_once 10 t)) (line_from text text' one.line one.appended));
}

-- ---- the parts of a text

pub takes_count : (version : Version) (more : ℕ) (a b c : Left) (r s t : List ℕ) → TakesLines true (count_number version - 2) a b r s → TakesCountLine more b c s t → TakesCount version more a c r t
takes_count version more a b c r s t first second =
    taken_then a b c r s t (λ x y lines line. inl (record { front = x; line = y; joined = refl; lines = lines; is = line.0; more' = line.1 })) first second

ended_is_some : (bare rest : List ℕ) → ended bare ++ rest ≡ [] → ⊥
ended_is_some [] rest e = cc
ended_is_some (x ∷ bare) rest e = cc

-- a text that is empty after its first line is taken at the end of the source
empty_at_end : (a b : Left) (head more : List ℕ) → Takes a b head → IsLine head b → head ++ more ≡ [] → IsAtEnd a
empty_at_end a b head more taken (inl (bare, whole, is)) empty = absurd (ended_is_some bare more (ap (λ (t : List ℕ). t ++ more) (sym is) ∙ empty))
empty_at_end a b [] more taken (inr (part, end)) empty = end_before a b taken end
empty_at_end a b (x ∷ head) more taken (inr (part, end)) empty = absurd cc

version_found : (version : Version) (head : List ℕ) (left : Left) → IsLine head left → Some version ≡ version_in head → (bare : List ℕ) × (lacks 10 bare ≡ true) × (head ≡ ended bare) × (head_of bare ≡ Some version)
version_found version head left (inl (bare, whole, is)) e = (bare, whole, is, sym (e ∙ ap (λ (o : Option (List ℕ × List ℕ)). o |> λ parts. head_of parts.0) (line_is_cut head bare whole is)))
version_found version head left (inr (part, end)) e = let bad : Some version ≡ None = e ∙ ap (λ (o : Option (List ℕ × List ℕ)). o |> λ parts. head_of parts.0) (uncut 10 head part) in absurd cc

pub takes_front : (version : Version) (more : ℕ) (a b c : Left) (s t : List ℕ) → TakesHead (Some version) a b s → TakesCount version more b c s t → TakesFront more a c t
takes_front version more a b c s t head second =
    let found = version_found version s b head.line head.version' in record {
      taken = subst (Takes a c) (sym second.appended) (takes_both a b c s second.bytes head.taken second.taken);
      front = inl (record {
        bare = found.0;
        rest = second.bytes;
        version = version;
        joined = second.appended ∙ ap (λ (u : List ℕ). u ++ second.bytes) found.2;
        whole = found.1;
        head = found.3;
        are = second.are;
      });
      last = λ empty. empty_at_end a b s second.bytes head.taken head.line (sym second.appended ∙ empty);
    }

no_front : (s t : List ℕ) → s ++ t ≡ [] → s ≡ []
no_front [] t e = refl
no_front (x ∷ s) t e = absurd cc

pub takes_text : (all : Bool) (more : ℕ) (a b c : Left) (s t : List ℕ) → TakesFront more a b s → TakesLines all more b c s t → TakesText a c t
takes_text all more a b c s t front second = record {
  taken = subst (Takes a c) (sym second.appended) (takes_both a b c s second.bytes front.taken second.taken);
  keeps = subst (λ (u : List ℕ). KeepsFaultBefore u c) (sym second.appended) (taken_keeps all more s second.bytes b c front.front second.are second.taken);
  last = λ empty. front.last (no_front s second.bytes (sym second.appended ∙ empty));
}
