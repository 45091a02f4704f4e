-- A program read from a text uses only its variables, allowed exponents, and definitions later in the list than their
-- uses.
use Rattle.std.proofs.Common.{◌≡◌, ℕ, zero, suc, ◌+◌, ◌<◌, ◌≤◌, ℤ, pos, Bool, true, false, List, [], ◌∷◌, length, Option, Some, None, Ok, arith, refl, ap, subst, nat_le, nat_lt, neg_ℤ, bytes_eq, if◌then◌else◌, le-leb, leb-true, lt-ltb}
use Rattle.std.proofs.lemmas.Bool.{and_from, and_parts}
use Rattle.std.proofs.lemmas.List.{length-map}
use Rattle.std.proofs.lemmas.List.Quantifiers.{position-Some}
use Rattle.line_text.specs.Steps.{◌>>=◌}
use Rattle.line_text.proofs.StepLaws.{bind_ok, err_is_no_ok, same_ok}
use Rattle.energy_program.specs.declared.callees.Callee.{Callee}
use Rattle.energy_program.specs.declared.callees.Callee.TheVariants as takes
use Rattle.energy_program.specs.Faults.{UnknownName}
use Rattle.energy_program.specs.Names.{input_of}
use Rattle.energy_program.specs.Programs.{Trees}
use Rattle.energy_program.specs.Tree.{Tree, are_scoped, is_exponent, is_scoped, is_whole}
use Rattle.energy_program.specs.Tree as t
use Rattle.expr.specs.Calls.{called}
use Rattle.expr.specs.Definitions.{checked, number_from}
use Rattle.expr.specs.Energy.{limited, trees_in, trees_of_source, trees_of_tokens}
use Rattle.expr.specs.Grammar.{IsArguments, IsAtom, IsExponent, IsExpr, IsList, IsPower, IsTerm, IsUnary, IsWhole}
use Rattle.expr.specs.Grammar as g
use Rattle.expr.specs.Lexing.{tokens_of}
use Rattle.expr.specs.Parsing.{expr_at}
use Rattle.expr.specs.Sources.{Heading, defined, definitions_at, heading_at, source_at}
use Rattle.expr.specs.Syntax.{Arguments, Definition, Empty, More, One, Source, Syntax, Three, Two, defined_names, with_argument}
use Rattle.expr.specs.Syntax as s
use Rattle.expr.specs.Tokens.{Lexed}
use Rattle.expr.specs.Uses.{all_resolved, resolved, trees, used, used_later}
use Rattle.expr.proofs.Sound.{expr_sound}

-- ---- powers

-- each power in a syntax tree has an allowed exponent
abbrev HasExponents : Syntax → Type 0
HasExponents (s.Number z) = Unit {0}
HasExponents (s.Name name) = Unit {0}
HasExponents (s.Negated a) = HasExponents a
HasExponents (s.Binary o a b) = HasExponents a × HasExponents b
HasExponents (s.Applied f a) = HasExponents a
HasExponents (s.Power a n) = HasExponents a × (is_exponent n ≡ true)
HasExponents (s.Select c a b) = HasExponents c × HasExponents a × HasExponents b

abbrev HaveExponents : Arguments → Type 0
HaveExponents Empty = Unit {0}
HaveExponents (One x) = HasExponents x
HaveExponents (Two x y) = HasExponents x × HasExponents y
HaveExponents (Three x y z) = HasExponents x × HasExponents y × HasExponents z
HaveExponents More = Unit {0}

abbrev DefinitionsHave : List Definition → Type 0
DefinitionsHave [] = Unit {0}
DefinitionsHave (d ∷ ds) = HasExponents d.1 × DefinitionsHave ds

with_one_more : (xs : Arguments) (y : Syntax) → HaveExponents xs → HasExponents y → HaveExponents (with_argument xs y)
with_one_more Empty y h k = k
with_one_more (One x) y h k = (h, k)
with_one_more (Two x x') y h k = (h.0, h.1, k)
with_one_more (Three a b c) y h k = tt
with_one_more More y h k = tt

of_call : (w : List ℕ) (f : Callee) (xs : Arguments) (x : Syntax) → HaveExponents xs → called w f xs ≡ Ok x → HasExponents x
of_call w (takes.One f) (One a) x h e = subst HasExponents (same_ok (s.Applied f a) x e) h
of_call w (takes.Two o) (Two a b) x h e = subst HasExponents (same_ok (s.Binary o a b) x e) h
of_call w takes.Three (Three c a b) x h e = subst HasExponents (same_ok (s.Select c a b) x e) h
of_call w _ _ x h e = absurd cc

of_positive : (n : ℕ) → is_whole n ≡ true → is_exponent (pos n) ≡ true
of_positive n h =
    let p = and_parts (nat_lt 0 n) (nat_le n 32) h in
    let most = leb-true n 32 p.1 in
    and_from (nat_lt 0 n) (nat_le n 33) p.0 (le-leb n 33 (omega (arith, most)))

of_negative : (n : ℕ) → is_whole n ≡ true → is_exponent (neg_ℤ (pos n)) ≡ true
of_negative zero h = absurd cc
of_negative (suc m) h =
    let p = and_parts (nat_lt 0 (suc m)) (nat_le (suc m) 32) h in
    let most = leb-true (suc m) 32 p.1 in
    lt-ltb m 32 (omega (arith, most))

of_whole : {a : List Lexed} {k : ℤ} → IsWhole a k → is_exponent k ≡ true
of_whole (g.positive {c} {n} at h) = of_positive n h
of_whole (g.negative {c} {n} from at h) = of_negative n h

of_exponent : {n : ℕ} {a : List Lexed} {k : ℤ} → IsExponent n a k → is_exponent k ≡ true
of_exponent (g.bare h) = of_whole h
of_exponent (g.group at to h) = of_whole h

mutual
  of_expr : {n : ℕ} {a : List Lexed} {x : Syntax} → IsExpr n a x → HasExponents x
  of_expr (g.term p) = of_term p
  of_expr (g.sum at p q) = (of_expr p, of_term q)
  of_expr (g.difference at p q) = (of_expr p, of_term q)

  of_term : {n : ℕ} {a : List Lexed} {x : Syntax} → IsTerm n a x → HasExponents x
  of_term (g.unary p) = of_unary p
  of_term (g.product at p q) = (of_term p, of_unary q)
  of_term (g.quotient at p q) = (of_term p, of_unary q)

  of_unary : {n : ℕ} {a : List Lexed} {x : Syntax} → IsUnary n a x → HasExponents x
  of_unary (g.negative at p) = of_unary p
  of_unary (g.power p) = of_power p

  of_power : {n : ℕ} {a : List Lexed} {x : Syntax} → IsPower n a x → HasExponents x
  of_power (g.atom p) = of_atom p
  of_power (g.raised at p e) = (of_atom p, of_exponent e)

  of_atom : {n : ℕ} {a : List Lexed} {x : Syntax} → IsAtom n a x → HasExponents x
  of_atom (g.number at) = tt
  of_atom (g.name at) = tt
  of_atom (g.call {n} {w} {f} {a} {xs} {x} at from to known p c) = of_call w f xs x (of_arguments p) c
  of_atom (g.group at to p) = of_expr p

  of_arguments : {n : ℕ} {a : List Lexed} {xs : Arguments} → IsArguments n a xs → HaveExponents xs
  of_arguments g.none = tt
  of_arguments (g.some p) = of_list p

  of_list : {n : ℕ} {a : List Lexed} {xs : Arguments} → IsList n a xs → HaveExponents xs
  of_list (g.first p) = of_expr p
  of_list (g.next {n} {a} {b} {xs} {y} at p q) = with_one_more xs y (of_list p) (of_expr q)

-- if an expression is read, its powers have allowed exponents
of_reading : (end : ℕ) (ts : List Lexed) (x : Syntax) (rest : List Lexed) → expr_at end 65 ts ≡ Ok (x, rest) → HasExponents x
of_reading end ts x rest e = of_expr (expr_sound end 65 ts x rest e).holds

of_defined : (end n : ℕ) (ds : List Definition) (h : Heading) → ((ts : List Lexed) (ds : List Definition) → definitions_at end n ts ≡ Ok ds → DefinitionsHave ds)
    → defined (expr_at end 65) (definitions_at end n) h ≡ Ok ds → DefinitionsHave ds
of_defined end n ds None others e = subst DefinitionsHave (same_ok [] ds e) tt
of_defined end n ds (Some h) others e =
    let x = bind_ok (expr_at end 65 h.1) _ ds e in
    let y = bind_ok (definitions_at end n x.0.1) _ ds x.2 in
    subst DefinitionsHave (same_ok ((h.0, x.0.0) ∷ y.0) ds y.2) (of_reading end h.1 x.0.0 x.0.1 x.1, others x.0.1 y.0 y.1)

-- if definitions are read, their powers have allowed exponents
of_definitions : (end n : ℕ) (ts : List Lexed) (ds : List Definition) → definitions_at end n ts ≡ Ok ds → DefinitionsHave ds
unfolding definitions_at
of_definitions end zero ts ds e = let h = bind_ok (heading_at end true ts) _ ds e in subst DefinitionsHave (same_ok [] ds h.2) tt
of_definitions end (suc n) ts ds e = let h = bind_ok (heading_at end false ts) _ ds e in of_defined end n ds h.0 (of_definitions end n) h.2

of_source : (end : ℕ) (ts : List Lexed) (source : Source) → source_at end ts ≡ Ok source → HasExponents source.0 × DefinitionsHave source.1
unfolding source_at
of_source end ts source e =
    let x = bind_ok (expr_at end 65 ts) _ source e in
    let y = bind_ok (definitions_at end 64 x.0.1) _ source x.2 in
    subst (λ (z : Source). HasExponents z.0 × DefinitionsHave z.1) (same_ok (x.0.0, y.0) source y.2) (of_reading end ts x.0.0 x.0.1 x.1, of_definitions end 64 x.0.1 y.0 y.1)

-- ---- names

found_more : (name : List ℕ) (i : ℕ) (w : List ℕ) (ws : List (List ℕ)) (j : ℕ) (here : Bool) → ((k : ℕ) → number_from (i + 1) ws name ≡ Some k → (i + 1 ≤ k) × (k < i + 1 + length ws))
    → (if here then Some i else number_from (i + 1) ws name) ≡ Some j → (i ≤ j) × (j < i + suc (length ws))
found_more name i w ws j true later e = let same : i ≡ j = cc in (omega (arith, same), omega (arith, same))
found_more name i w ws j false later e = let l = later j e in let a = l.0 in let b = l.1 in (omega (arith, a), omega (arith, b))

-- the number of a name is at least i and below i plus the number of names
number_between : (name : List ℕ) (i : ℕ) (ws : List (List ℕ)) (j : ℕ) → number_from i ws name ≡ Some j → (i ≤ j) × (j < i + length ws)
number_between name i [] j e = absurd cc
number_between name i (w ∷ ws) j e = found_more name i w ws j (bytes_eq w name) (λ k h. number_between name (i + 1) ws k h) e

module _ (vs : List (List ℕ)) where
  abbrev Scoped : (first last : ℕ) → Tree → Type 0
  Scoped first last e = is_scoped (length vs) first last e ≡ true

  later_scoped : (i : ℕ) (ws : List (List ℕ)) (name : List ℕ) (o : Option ℕ) (e : Tree) → number_from i ws name ≡ o → used_later name o ≡ Ok e → Scoped i (i + length ws) e
  later_scoped i ws name None e is h = absurd (err_is_no_ok (UnknownName name) e h)
  later_scoped i ws name (Some j) e is h =
      let l = number_between name i ws j is in
      subst (Scoped i (i + length ws)) (same_ok (t.Definition j) e h) (and_from _ _ (le-leb i j l.0) (lt-ltb j (i + length ws) l.1))

  used_scoped : (i : ℕ) (ws : List (List ℕ)) (name : List ℕ) (o : Option ℕ) (e : Tree) → input_of vs name ≡ o → used i ws name o ≡ Ok e → Scoped i (i + length ws) e
  used_scoped i ws name None e is h = later_scoped i ws name (number_from i ws name) e refl h
  used_scoped i ws name (Some k) e is h =
      let at = position-Some (bytes_eq name) vs k [] is in
      subst (Scoped i (i + length ws)) (same_ok (t.Input k) e h) (lt-ltb k (length vs) at.0)

  -- a tree that is resolved is in scope
  resolved_scoped : (i : ℕ) (ws : List (List ℕ)) (x : Syntax) (e : Tree) → HasExponents x → resolved vs i ws x ≡ Ok e → Scoped i (i + length ws) e
  unfolding resolved
  resolved_scoped i ws (s.Number z) e h r = subst (Scoped i (i + length ws)) (same_ok (t.Number z) e r) refl
  resolved_scoped i ws (s.Name name) e h r = used_scoped i ws name (input_of vs name) e refl r
  resolved_scoped i ws (s.Negated a) e h r =
      let x = bind_ok (resolved vs i ws a) _ e r in
      subst (Scoped i (i + length ws)) (same_ok (t.Negated x.0) e x.2) (resolved_scoped i ws a x.0 h x.1)
  resolved_scoped i ws (s.Binary o a b) e h r =
      let x = bind_ok (resolved vs i ws a) _ e r in
      let y = bind_ok (resolved vs i ws b) _ e x.2 in
      subst (Scoped i (i + length ws)) (same_ok (t.Binary o x.0 y.0) e y.2) (and_from _ _ (resolved_scoped i ws a x.0 h.0 x.1) (resolved_scoped i ws b y.0 h.1 y.1))
  resolved_scoped i ws (s.Applied f a) e h r =
      let x = bind_ok (resolved vs i ws a) _ e r in
      subst (Scoped i (i + length ws)) (same_ok (t.Applied f x.0) e x.2) (resolved_scoped i ws a x.0 h x.1)
  resolved_scoped i ws (s.Power a n) e h r =
      let x = bind_ok (resolved vs i ws a) _ e r in
      subst (Scoped i (i + length ws)) (same_ok (t.Power x.0 n) e x.2) (and_from _ _ h.1 (resolved_scoped i ws a x.0 h.0 x.1))
  resolved_scoped i ws (s.Select c a b) e h r =
      let x = bind_ok (resolved vs i ws c) _ e r in
      let y = bind_ok (resolved vs i ws a) _ e x.2 in
      let z = bind_ok (resolved vs i ws b) _ e y.2 in
      subst (Scoped i (i + length ws)) (same_ok (t.Select x.0 y.0 z.0) e z.2)
      (and_from _ _ (resolved_scoped i ws c x.0 h.0 x.1) (and_from _ _ (resolved_scoped i ws a y.0 h.1 y.1) (resolved_scoped i ws b z.0 h.2 z.1)))

  -- the resolved definitions are in scope, one for each definition of the source
  record AreInScope (i : ℕ) (ds : List Definition) (es : List Tree) : Type 0 where
    count : length es ≡ length ds
    scoped : are_scoped (length vs) i es ≡ true

  all_scoped : (i : ℕ) (ds : List Definition) (es : List Tree) → DefinitionsHave ds → all_resolved vs i ds ≡ Ok es → AreInScope i ds es
  unfolding all_resolved
  all_scoped i [] es h r = subst (AreInScope i []) (same_ok [] es r) (record { count = refl; scoped = refl })
  all_scoped i (d ∷ ds) es h r =
      let x = bind_ok (resolved vs (i + 1) (defined_names ds) d.1) _ es r in
      let y = bind_ok (all_resolved vs (i + 1) ds) _ es x.2 in
      let rest = all_scoped (i + 1) ds y.0 h.1 y.1 in
      let n = length-map ds (λ (d : Definition). d.0) in
      let count = rest.count in
      let end : i + 1 + length (defined_names ds) ≡ i + (1 + length y.0) = omega (arith, n, count) in
      subst (AreInScope i (d ∷ ds)) (same_ok (x.0 ∷ y.0) es y.2)
      (record {
        count = ap suc rest.count;
        scoped = and_from _ _ (subst (λ (m : ℕ). Scoped (i + 1) m x.0) end (resolved_scoped (i + 1) (defined_names ds) d.1 x.0 h.0 x.1)) rest.scoped;
      })

  -- a program's body and definitions are in scope
  pub record IsInScope (program : Trees) : Type 0 where
    pub body : is_scoped (length vs) 0 (length program.1) program.0 ≡ true
    pub definitions : are_scoped (length vs) 0 program.1 ≡ true

  trees_scoped : (source : Source) (program : Trees) → HasExponents source.0 × DefinitionsHave source.1 → trees vs source ≡ Ok program → IsInScope program
  unfolding trees
  trees_scoped source program h r =
      let x = bind_ok (resolved vs 0 (defined_names source.1) source.0) _ program r in
      let y = bind_ok (all_resolved vs 0 source.1) _ program x.2 in
      let all = all_scoped 0 source.1 y.0 h.1 y.1 in
      let n = length-map source.1 (λ (d : Definition). d.0) in
      let count = all.count in
      let end : 0 + length (defined_names source.1) ≡ length y.0 = omega (arith, n, count) in
      subst IsInScope (same_ok (x.0, y.0) program y.2)
      (record { body = subst (λ (m : ℕ). Scoped 0 m x.0) end (resolved_scoped 0 (defined_names source.1) source.0 x.0 h.0 x.1); definitions = all.scoped })

  -- a program read from a text is in scope
  pub read_scoped : (bits : ℕ) (text : List ℕ) (program : Trees) → trees_in bits vs text ≡ Ok program → IsInScope program
  unfolding trees_in
  read_scoped bits text program r =
      let a = bind_ok (tokens_of bits text) (λ ts. limited (nat_lt 4096 (length ts)) ts >>= trees_of_tokens vs (length text)) program r in
      let b = bind_ok (limited (nat_lt 4096 (length a.0)) a.0) (trees_of_tokens vs (length text)) program a.2 in
      let c = bind_ok (source_at (length text) b.0) (trees_of_source vs) program b.2 in
      let d = bind_ok (checked vs [] (defined_names c.0.1)) (λ names. trees vs c.0) program c.2 in
      trees_scoped c.0 program (of_source (length text) b.0 c.0 c.1) d.2
