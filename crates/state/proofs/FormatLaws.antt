-- Texts in a format: each has one value or one fault.
use Rattle.std.proofs.Common.{◌≡◌, ◌≢◌, ◌+◌, ℕ, true, List, [], ◌++◌, Option, Some, None, Result, Ok, Err, inl, inr, refl, sym, ap, subst, ◌∙◌, Bor, IfOk, IsTrue}
use Rattle.fallible.specs.Failures.{Answers}
use Rattle.line_text.specs.Parts.{split_once, ended, lacks}
use Rattle.line_text.specs.Steps.{◌>>=◌, said}
use Rattle.line_text.proofs.LineLaws.{cut_found, cut_none, ended_then, line_cut, pair_is, uncut}
use Rattle.line_text.proofs.StepLaws.{bind_ok, none_is_no_some, said_found, same_err}
use Rattle.state.specs.StateFaults.{Format, HasFault, IsLineFault, at_end, at_line, no_end, no_value}
use Rattle.state.specs.StateReading.{field_at, line_at}
use Rattle.state.specs.StateText.{StateView}
use Rattle.state.specs.declared.faults.StateFault.{StateFault}
use Rattle.state.specs.declared.faults.StateFault.TheVariants.{BadLine, Trailing, Truncated}

-- ---- any line

-- if a line is read, the text starts with the line and a line feed, and the line has no line feed
pub line_found : (bytes : List ℕ) (p : List ℕ × List ℕ) → line_at bytes ≡ Ok p → (bytes ≡ ended p.0 ++ p.1) × (lacks 10 p.0 ≡ true)
line_found bytes p e = at (split_once 10 bytes) refl e
  where
    at : (o : Option (List ℕ × List ℕ)) → split_once 10 bytes ≡ o → said Truncated o ≡ Ok p → (bytes ≡ ended p.0 ++ p.1) × (lacks 10 p.0 ≡ true)
    at None c d = absurd cc
    at (Some q) c d =
        let same : q ≡ p = cc in
        let f = cut_found 10 bytes p.0 p.1 (c ∙ ap (λ (x : List ℕ × List ℕ). Some x) same) in
        (f.0 ∙ sym (ended_then p.0 p.1), f.1)

-- a line that a call returned has no line feed
pub line_lacks : (bytes : List ℕ) (r : Result (Bor (List ℕ) × Bor (List ℕ)) StateFault) → Answers (λ (x : Bor (List ℕ) × Bor (List ℕ)). (x.0.now, x.1.now)) (λ (f : StateFault). f) r (line_at bytes)
    → IfOk r (λ x. IsTrue (lacks 10 x.0.now))
line_lacks bytes (Ok x) h = (line_found bytes (x.0.now, x.1.now) h).1
line_lacks bytes (Err e) h = tt

-- a line that a reader accepts is the spelling of a value, and P holds for the value
abbrev pub Spells : {X : Type 0} → (List ℕ → Option X) → (X → List ℕ) → (X → Type 0) → Type 0
Spells {X = X} read spell P = (line : List ℕ) (x : X) → lacks 10 line ≡ true → read line ≡ Some x → (line ≡ spell x) × P x

-- the function reads exactly the lines of the values that fit, and no such line has a line feed
pub record IsReader {X : Type 0} (read : List ℕ → Option X) (line_of : X → List ℕ) (Fits : X → Type 0) : Type 0 where
  pub found : Spells read line_of Fits
  pub again : (x : X) → Fits x → read (line_of x) ≡ Some x
  pub whole : (x : X) → Fits x → lacks 10 (line_of x) ≡ true

-- a line that is read as a value is the line of the value
pub field_found : {X : Type 0} {read : List ℕ → Option X} {line_of : X → List ℕ} {Fits : X → Type 0} → IsReader read line_of Fits
    → (n : ℕ) (bytes : List ℕ) (p : X × List ℕ) → field_at n read bytes ≡ Ok p → (bytes ≡ ended (line_of p.0) ++ p.1) × Fits p.0
field_found {X} {read} {line_of} {Fits} is n bytes p e =
    let a = bind_ok (line_at bytes) (λ l. said (BadLine n) (read l.0) >>= λ x. Ok (x, l.1)) p e in
    let b = bind_ok (said (BadLine n) (read a.0.0)) (λ x. Ok (x, a.0.1)) p a.2 in
    let g = line_found bytes a.0 a.1 in
    let s = is.found a.0.0 b.0 g.1 (said_found (BadLine n) (read a.0.0) b.0 b.1) in
    let same : (b.0, a.0.1) ≡ p = cc in
    subst (λ (q : X × List ℕ). (bytes ≡ ended (line_of q.0) ++ q.1) × Fits q.0) same (g.0 ∙ ap (λ (l : List ℕ). ended l ++ a.0.1) s.0, s.1)

-- a line without a value is faulty
pub line_fault : {X : Type 0} {read : List ℕ → Option X} {line_of : X → List ℕ} {Fits : X → Type 0} → IsReader read line_of Fits
    → (n : ℕ) (bytes : List ℕ) (f : StateFault) → field_at n read bytes ≡ Err f → IsLineFault line_of Fits n bytes f
line_fault {X} {read} {line_of} {Fits} is n bytes f failed = at_cut (split_once 10 bytes) refl failed
  where
    kept : List ℕ → X → Result (X × List ℕ) StateFault
    kept rest x = Ok (x, rest)

    by_value : (text rest : List ℕ) (o : Option X) → bytes ≡ ended text ++ rest → lacks 10 text ≡ true → read text ≡ o → (said (BadLine n) o >>= kept rest) ≡ Err f → IsLineFault line_of Fits n bytes f
    by_value text rest None split whole none e =
        no_value text rest split whole (λ x fits same. none_is_no_some x (sym none ∙ ap read same ∙ is.again x fits)) (sym (same_err (BadLine n) f e))
    by_value text rest (Some x) split whole some e = absurd cc

    at_cut : (o : Option (List ℕ × List ℕ)) → split_once 10 bytes ≡ o → (said Truncated o >>= λ l. said (BadLine n) (read l.0) >>= kept l.1) ≡ Err f → IsLineFault line_of Fits n bytes f
    at_cut None c e = no_end (cut_none 10 bytes c) (sym (same_err Truncated f e))
    at_cut (Some q) c e =
        let found = cut_found 10 bytes q.0 q.1 c in
        by_value q.0 q.1 (read q.0) (found.0 ∙ sym (ended_then q.0 q.1)) found.1 refl e

module _ {X : Type 0} {read : List ℕ → Option X} {line_of : X → List ℕ} {Fits : X → Type 0} (is : IsReader read line_of Fits) where
  -- the fault of the next line is the fault of the bytes
  pub fault_here : (next : X → Format) (n : ℕ) (bytes : List ℕ) (f : StateFault) → field_at n read bytes ≡ Err f → HasFault (at_line X line_of Fits next) n bytes f
  unfolding HasFault
  fault_here next n bytes f e = inl (line_fault is n bytes f e)

  -- a fault after a line that was read is the fault of the bytes
  pub fault_past : (next : X → Format) (n : ℕ) (bytes : List ℕ) (f : StateFault) (x : X) (rest : List ℕ) → field_at n read bytes ≡ Ok (x, rest) → HasFault (next x) (n + 1) rest f
      → HasFault (at_line X line_of Fits next) n bytes f
  unfolding HasFault
  fault_past next n bytes f x rest e h = let found = field_found is n bytes (x, rest) e in inr (x, rest, found.1, found.0, h)

-- ---- one result

-- a text starts with one line
pub line_parts : (a b r s : List ℕ) → lacks 10 a ≡ true → lacks 10 b ≡ true → ended a ++ r ≡ ended b ++ s → (a ≡ b) × (r ≡ s)
line_parts a b r s la lb e = pair_is a b r s (sym (line_cut a r la) ∙ ap (split_once 10) e ∙ line_cut b s lb)

-- bytes without an LF start with no line
pub not_whole : {C : Type 0} (bytes a r : List ℕ) → lacks 10 bytes ≡ true → lacks 10 a ≡ true → bytes ≡ ended a ++ r → C
not_whole bytes a r none la e = absurd (none_is_no_some (a, r) (sym (uncut 10 bytes none) ∙ ap (split_once 10) e ∙ line_cut a r la))

-- each line of the format has a function that reads it
abbrev pub IsReadable : Format → Type 0
IsReadable (at_end s) = Unit {0}
IsReadable (at_line X line_of Fits next) = ((read : List ℕ → Option X) × IsReader read line_of Fits) × ((x : X) → Fits x → IsReadable (next x))

-- the bytes start with the text of this state in this format, and this rest follows
abbrev pub StartsWith : Format → List ℕ → StateView → List ℕ → Type 0
StartsWith (at_end t) bytes s rest = (t ≡ s) × (bytes ≡ rest)
StartsWith (at_line X line_of Fits next) bytes s rest = (x : X) × (more : List ℕ) × Fits x × (bytes ≡ ended (line_of x) ++ more) × StartsWith (next x) more s rest

module _ {X : Type 0} (read : List ℕ → Option X) (line_of : X → List ℕ) (Fits : X → Type 0) (is : IsReader read line_of Fits) where
  same_line : (x y : X) (r s : List ℕ) → Fits x → Fits y → ended (line_of x) ++ r ≡ ended (line_of y) ++ s → (x ≡ y) × (r ≡ s)
  same_line x y r s fx fy e =
      let parts = line_parts (line_of x) (line_of y) r s (is.whole x fx) (is.whole y fy) e in
      let same : ◌≡◌ {A = Option X} (Some x) (Some y) = sym (is.again x fx) ∙ ap read parts.0 ∙ is.again y fy in
      (cc, parts.1)

  no_fault : (n : ℕ) (bytes : List ℕ) (f : StateFault) (x : X) (rest : List ℕ) → Fits x → bytes ≡ ended (line_of x) ++ rest → IsLineFault line_of Fits n bytes f → ⊥
  no_fault n bytes f x rest fits e (no_end none w) = not_whole bytes (line_of x) rest none (is.whole x fits) e
  no_fault n bytes f x rest fits e (no_value text more split whole never w) = never x fits (line_parts text (line_of x) more rest whole (is.whole x fits) (sym split ∙ e)).0

one_fault : {X : Type 0} (line_of : X → List ℕ) (Fits : X → Type 0) (n : ℕ) (bytes : List ℕ) (f g : StateFault) → IsLineFault line_of Fits n bytes f → IsLineFault line_of Fits n bytes g → f ≡ g
one_fault line_of Fits n bytes f g (no_end l e) (no_end m d) = e ∙ sym d
one_fault line_of Fits n bytes f g (no_end l e) (no_value text rest split whole never d) = not_whole bytes text rest l whole split
one_fault line_of Fits n bytes f g (no_value text rest split whole never e) (no_end l d) = not_whole bytes text rest l whole split
one_fault line_of Fits n bytes f g (no_value text rest split whole never e) (no_value text' rest' split' whole' never' d) = e ∙ sym d

-- bytes have one fault
pub fault_once : (φ : Format) → IsReadable φ → (n : ℕ) (bytes : List ℕ) (f g : StateFault) → HasFault φ n bytes f → HasFault φ n bytes g → f ≡ g
unfolding HasFault
fault_once (at_end s) h n bytes f g a b = a.1 ∙ sym b.1
fault_once (at_line X t F next) h n bytes f g (inl a) (inl b) = one_fault t F n bytes f g a b
fault_once (at_line X t F next) h n bytes f g (inl a) (inr (y, s, fy, e, b)) = absurd (no_fault h.0.0 t F h.0.1 n bytes f y s fy e a)
fault_once (at_line X t F next) h n bytes f g (inr (x, r, fx, e, a)) (inl b) = absurd (no_fault h.0.0 t F h.0.1 n bytes g x r fx e b)
fault_once (at_line X t F next) h n bytes f g (inr (x, r, fx, e, a)) (inr (y, s, fy, d, b)) =
    let same = same_line h.0.0 t F h.0.1 x y r s fx fy (sym e ∙ d) in
    fault_once (next x) (h.1 x fx) (n + 1) r f g a (rw (same.0, same.1) b)

-- bytes start with one text
pub start_once : (φ : Format) → IsReadable φ → (bytes : List ℕ) (s t : StateView) (rest more : List ℕ) → StartsWith φ bytes s rest → StartsWith φ bytes t more → (s ≡ t) × (rest ≡ more)
start_once (at_end u) h bytes s t rest more a b = (sym a.0 ∙ b.0, sym a.1 ∙ b.1)
start_once (at_line X l F next) h bytes s t rest more (x, r, fx, e, a) (y, q, fy, d, b) =
    let same = same_line h.0.0 l F h.0.1 x y r q fx fy (sym e ∙ d) in
    start_once (next x) (h.1 x fx) r s t rest more a (rw (same.0, same.1) b)

-- the fault of bytes that start with a text is that more bytes follow
pub start_fault : (φ : Format) → IsReadable φ → (n : ℕ) (bytes : List ℕ) (s : StateView) (rest : List ℕ) (f : StateFault) → StartsWith φ bytes s rest → HasFault φ n bytes f → (rest ≢ []) × (f ≡ Trailing)
unfolding HasFault
start_fault (at_end u) h n bytes s rest f a b = (λ none. b.0 (a.1 ∙ none), b.1)
start_fault (at_line X l F next) h n bytes s rest f (x, r, fx, e, a) (inl b) = absurd (no_fault h.0.0 l F h.0.1 n bytes f x r fx e b)
start_fault (at_line X l F next) h n bytes s rest f (x, r, fx, e, a) (inr (y, q, fy, d, b)) =
    let same = same_line h.0.0 l F h.0.1 x y r q fx fy (sym e ∙ d) in
    start_fault (next x) (h.1 x fx) (n + 1) r s rest f a (rw (same.0, same.1) b)
