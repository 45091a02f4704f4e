-- The shape that paths have in common when others join them, and when they follow an instruction.
use Rattle.std.proofs.Common.{◌≡◌, ◌≢◌, ℕ, suc, ◌+◌, ◌⊎◌, inl, inr, Bool, true, false, List, length, refl, sym, ap, subst, ◌∙◌, arith, slice_index_or, ⊎_elim, ◌<◌, ◌≤◌}
use Rattle.std.proofs.lemmas.Bool.{and_cases, and_parts, cases_eq, cases_lt}
use Rattle.kernel_code.specs.declared.instructions.Instr.{Instr}
use Rattle.kernel_code.specs.declared.instructions.Instr.TheVariants.{JumpIfZero, Jump}
use Rattle.kernel_code.specs.Code.{JumpsForward}
use Rattle.kernel_code.specs.Paths.{MayGo, IsPath, height_after, set_after}
use Rattle.verifier.specs.declared.meetings.Shape.{Shape}
use Rattle.verifier.specs.declared.meetings.Meeting.{Meeting}
use Rattle.verifier.specs.declared.meetings.Meeting.TheVariants.{Nothing, Level, Uneven}
use Rattle.verifier.specs.Meetings.{IsBoth, IsJoin, IsJoinAt, IsLedOn, meeting_at, arrivals, IsSummary, Describes}
use Rattle.verifier.specs.Misfits.{AreUneven, Paths}
use Rattle.verifier.proofs.Arrivals.{arrives_here, is_path, kept_or_set, long_after, path_long}

-- ---- the same paths

-- if c holds each of the paths a, and two of a have different stack heights, so have two of c
pub uneven_too : (a c : Paths) → ((n height : ℕ) (set : List Bool) → a n height set → c n height set) → AreUneven a → AreUneven c
uneven_too a c to x = record {
  n = x.n;
  height = x.height;
  set = x.set;
  one = to x.n x.height x.set x.one;
  n' = x.n';
  height' = x.height';
  set' = x.set';
  other = to x.n' x.height' x.set' x.other;
  different = x.different;
}

-- if two sets of paths are equal, a state that describes one describes the other
pub describes_same : (a c : Paths) → ((n height : ℕ) (set : List Bool) → a n height set → c n height set)
    → ((n height : ℕ) (set : List Bool) → c n height set → a n height set) → (m : Meeting) → Describes a m → Describes c m
describes_same a c to from Nothing x = λ n height set p. x n height set (from n height set p)
describes_same a c to from (Level s) x = record {
  long = x.long;
  level = λ n height set p. x.level n height set (from n height set p);
  most = λ n height set p. x.most n height set (from n height set p);
  taken = (x.taken.0, x.taken.1, to s.steps x.taken.0 x.taken.1 x.taken.2);
  all_set = λ k e n height set p. x.all_set k e n height set (from n height set p);
  some_unset = λ k e. let p = x.some_unset k e in (p.0, p.1, p.2, to p.0 p.1 p.2 p.3, p.4);
}
describes_same a c to from Uneven x = uneven_too a c to x

-- ---- a join

-- the paths of both sets
abbrev pub Both : Paths → Paths → Paths
Both a b n height set = a n height set ⊎ b n height set

both_summary : (a b : Paths) (s t r : Shape) → IsSummary a s → IsSummary b t → IsBoth s t r → IsSummary (Both a b) r
both_summary a b s t r x y j = record {
  long = j.set.long ∙ y.long;
  level = λ n height set p. ⊎_elim
      (λ (q : a n height set). x.level n height set q ∙ j.height ∙ sym j.height')
      (λ (q : b n height set). y.level n height set q ∙ sym j.height')
      p;
  most = λ n height set p. ⊎_elim
      (λ (q : a n height set). let le = x.most n height set q in let e = j.steps in omega arith)
      (λ (q : b n height set). let le = y.most n height set q in let e = j.steps in omega arith)
      p;
  taken = ⊎_elim
      (λ (lt : s.steps < t.steps).
      let p = y.taken in
      let same : t.steps ≡ r.steps = omega (arith, j.steps) in
      (p.0, p.1, subst (λ (n : ℕ). Both a b n p.0 p.1) same (inr p.2)))
      (λ (le : t.steps ≤ s.steps).
      let p = x.taken in
      let same : s.steps ≡ r.steps = omega (arith, j.steps) in
      (p.0, p.1, subst (λ (n : ℕ). Both a b n p.0 p.1) same (inl p.2)))
      (cases_lt s.steps t.steps);
  all_set = λ k e n height set p.
      let parts = and_parts (slice_index_or s.set k false) (slice_index_or t.set k false) (sym (j.set.members k) ∙ e) in
      ⊎_elim
      (λ (q : a n height set). x.all_set k parts.0 n height set q)
      (λ (q : b n height set). y.all_set k parts.1 n height set q)
      p;
  some_unset = λ k e.
      ⊎_elim
      (λ (f : slice_index_or s.set k false ≡ false). let p = x.some_unset k f in (p.0, p.1, p.2, inl p.3, p.4))
      (λ (f : slice_index_or t.set k false ≡ false). let p = y.some_unset k f in (p.0, p.1, p.2, inr p.3, p.4))
      (and_cases (slice_index_or s.set k false) (slice_index_or t.set k false) (sym (j.set.members k) ∙ e));
}

-- if a state describes paths a and a summary describes paths b, their join describes all of these paths
describes_join : (a b : Paths) (m m' : Meeting) (s : Shape) → Describes a m → IsSummary b s → IsJoin m s m' → Describes (Both a b) m'
describes_join a b Nothing (Level r) s x y j =
    describes_same (Both b b) (Both a b) (λ n height set p. inr (⊎_elim (λ (q : b n height set). q) (λ (q : b n height set). q) p))
    (λ n height set p. ⊎_elim (λ (q : a n height set). absurd (x n height set q)) (λ (q : b n height set). inl q) p)
    (Level r) (both_summary b b s s r y y j)
describes_join a b (Level t) (Level r) s x y j = both_summary a b t s r x y j
describes_join a b (Level t) Uneven s x y j =
    let p = x.taken in
    let q = y.taken in
    record {
      n = t.steps;
      height = p.0;
      set = p.1;
      one = inl p.2;
      n' = s.steps;
      height' = q.0;
      set' = q.1;
      other = inr q.2;
      different = λ e. j (sym (x.level t.steps p.0 p.1 p.2) ∙ e ∙ y.level s.steps q.0 q.1 q.2);
    }
describes_join a b Uneven m' s x y j =
    subst (λ (k : Meeting). Describes (Both a b) k) (sym j) (uneven_too a (Both a b) (λ n height set p. inl p) x)
describes_join a b _ _ s x y j = absurd j

-- the paths of b, if the index is this one
abbrev If : (at to : ℕ) → Paths → Paths
If at to b n height set = (at ≡ to) × b n height set

-- if the states at one index are joined, each index has all of its paths
joined_at : (a b : Paths) (at to : ℕ) (s : Shape) (old new : List Meeting) → Describes a (meeting_at old at)
    → (at ≡ to → IsSummary b s) → IsJoinAt old to s new → Describes (Both a (If at to b)) (meeting_at new at)
joined_at a b at to s old new x y j =
    ⊎_elim
    (λ (e : at ≡ to).
    let there = subst (λ (k : ℕ). IsJoin (meeting_at old k) s (meeting_at new k)) (sym e) j.there in
    let led = describes_same b (If at to b) (λ n height set p. (e, p)) (λ n height set p. p.1) (Level s) (y e) in
    describes_join a (If at to b) (meeting_at old at) (meeting_at new at) s x led there)
    (λ (ne : at ≢ to).
    subst (λ (m : Meeting). Describes (Both a (If at to b)) m) (sym (j.others at ne))
    (describes_same a (Both a (If at to b)) (λ n height set p. inl p)
    (λ n height set p. ⊎_elim (λ (q : a n height set). q) (λ (q : If at to b n height set). absurd (ne q.0)) p) (meeting_at old at) x))
    (cases_eq at to)

-- ---- one instruction

-- a path to index `at` that extends a path to `here` by the instruction there
pub record Leads (code : List Instr) (here : ℕ) (i : Instr) (at n height : ℕ) (set : List Bool) : Type 0 where
  pub before : ℕ
  pub height' : ℕ
  pub set' : List Bool
  pub path : IsPath code before here height' set'
  pub go : MayGo i here at
  pub is_n : n ≡ suc before
  pub is_height : height ≡ height_after i height'
  pub is_set : set ≡ set_after i set'

-- the summary of the extended paths has the stack height and the set locals after the instruction, and one step more
pub leads_summary : (code : List Instr) (here : ℕ) (i : Instr) (at : ℕ) (s t : Shape) → JumpsForward code → MayGo i here at → IsSummary (arrivals code here here) s
    → t.height ≡ height_after i s.height → t.set ≡ set_after i s.set → t.steps ≡ s.steps + 1 → IsSummary (Leads code here i at) t
leads_summary code here i at s t forward go x height' set' steps' = record {
  long = ap (λ (set : List Bool). length set) set' ∙ long_after i s.set x.long;
  level = λ n height set p.
      p.is_height ∙ ap (λ (h : ℕ). height_after i h) (x.level p.before p.height' p.set' (arrives_here code forward p.path)) ∙ sym height';
  most = λ n height set p.
      let le = x.most p.before p.height' p.set' (arrives_here code forward p.path) in
      let e = p.is_n in
      omega arith;
  taken =
      let p = x.taken in
      let steps : t.steps ≡ suc s.steps = omega arith in
      (height_after i p.0, set_after i p.1, record { before = s.steps; height' = p.0; set' = p.1; path = is_path code p.2; go = go; is_n = steps; is_height = refl; is_set = refl });
  all_set = λ k e n height set p.
      let e' = sym (ap (λ (set : List Bool). slice_index_or set k false) set') ∙ e in
      ap (λ (set : List Bool). slice_index_or set k false) p.is_set
      ∙ ⊎_elim
      (λ (kept : (set : List Bool) → length set ≡ 256 → slice_index_or (set_after i set) k false ≡ slice_index_or set k false).
      kept p.set' (path_long code p.path)
      ∙ x.all_set k (sym (kept s.set x.long) ∙ e') p.before p.height' p.set' (arrives_here code forward p.path))
      (λ (on : (set : List Bool) → length set ≡ 256 → slice_index_or (set_after i set) k false ≡ true). on p.set' (path_long code p.path))
      (kept_or_set i k);
  some_unset = λ k e.
      let e' = sym (ap (λ (set : List Bool). slice_index_or set k false) set') ∙ e in
      ⊎_elim
      (λ (kept : (set : List Bool) → length set ≡ 256 → slice_index_or (set_after i set) k false ≡ slice_index_or set k false).
      let p = x.some_unset k (sym (kept s.set x.long) ∙ e') in
      let path = is_path code p.3 in
      (suc p.0, height_after i p.1, set_after i p.2, record { before = p.0; height' = p.1; set' = p.2; path = path; go = go; is_n = refl; is_height = refl; is_set = refl }, kept p.2 (path_long code path) ∙ p.4))
      (λ (on : (set : List Bool) → length set ≡ 256 → slice_index_or (set_after i set) k false ≡ true).
      let set = on s.set x.long in absurd cc)
      (kept_or_set i k);
}

led_once : (code : List Instr) (here : ℕ) (i : Instr) (a : Paths) (at to : ℕ) (s : Shape) (old new : List Meeting)
    → Describes a (meeting_at old at) → (MayGo i here at → IsSummary (Leads code here i at) s)
    → (MayGo i here at → at ≡ to) → (at ≡ to → MayGo i here at) → IsJoinAt old to s new
    → Describes (Both a (Leads code here i at)) (meeting_at new at)
led_once code here i a at to s old new x y there go led =
    let b : Paths = Leads code here i at in
    describes_same (Both a (If at to b)) (Both a b)
    (λ n height set p. ⊎_elim (λ (q : a n height set). inl q) (λ (q : If at to b n height set). inr q.1) p)
    (λ n height set p. ⊎_elim (λ (q : a n height set). inl q) (λ (q : b n height set). inr (there q.go, q)) p)
    (meeting_at new at) (joined_at a b at to s old new x (λ e. y (go e)) led)

-- if the state after an instruction is joined at each of its successors, each index also has the paths that the
-- instruction leads there
pub led_on : (code : List Instr) (here : ℕ) (i : Instr) (a : Paths) (at : ℕ) (s : Shape) (old new : List Meeting)
    → Describes a (meeting_at old at) → (MayGo i here at → IsSummary (Leads code here i at) s) → IsLedOn i here s old new
    → Describes (Both a (Leads code here i at)) (meeting_at new at)
led_on code here (JumpIfZero target) a at s old new x y led =
    let b : Paths = Leads code here (JumpIfZero target) at in
    let next : Paths = Both a (If at (here + 1) b) in
    let first = joined_at a b at (here + 1) s old led.0 x (λ e. y (inl e)) led.1 in
    let second = joined_at next b at target s led.0 new first (λ e. y (inr e)) led.2 in
    describes_same (Both next (If at target b)) (Both a b)
    (λ n height set p. ⊎_elim
    (λ (q : next n height set). ⊎_elim (λ (r : a n height set). inl r) (λ (r : If at (here + 1) b n height set). inr r.1) q)
    (λ (q : If at target b n height set). inr q.1)
    p)
    (λ n height set p. ⊎_elim
    (λ (q : a n height set). inl (inl q))
    (λ (q : b n height set). ⊎_elim (λ e. inl (inr (e, q))) (λ e. inr (e, q)) q.go)
    p)
    (meeting_at new at) second
led_on code here (Jump target) a at s old new x y led =
    led_once code here (Jump target) a at target s old new x y (λ go. go) (λ e. e) led
led_on code here i a at s old new x y led = led_once code here i a at (here + 1) s old new x y (λ go. go) (λ e. e) led
