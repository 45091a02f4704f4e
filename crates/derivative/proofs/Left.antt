-- The program that is left.
use Rattle.std.proofs.Common.{◌≡◌, ℕ, ◌+◌, List, length, sym, subst, arith}
use Rattle.std.specs.Bool.{IsTrue}
use Rattle.energy_program.specs.Tree.{Tree, is_scoped, are_scoped, meaning, substituted}
use Rattle.energy_program.specs.Uses.{marks_of}
use Rattle.energy_program.proofs.MarkLaws.{body_marked, definitions_marked}
use Rattle.energy_program.proofs.Scopes.{scoped_below, to_below, from_below}
use Rattle.derivative.specs.Used.{rank, renumbered, kept_from}
use Rattle.derivative.specs.Derive.{pruned}
use Rattle.derivative.proofs.Pruned.{all_marked, Closed, all_marked_where, closed_where, kept_means, kept_long, kept_scoped, renumbered_put, renumbered_scoped}

module _ (count : ℕ) (body : Tree) (ds : List Tree) (hb : IsTrue (is_scoped count 0 (length ds) body)) (hd : IsTrue (are_scoped count 0 ds)) where
  below : IsTrue (scoped_below count (length ds) 0 ds)
  below = to_below count (length ds) 0 ds (omega arith) hd

  -- each definition that a marked one uses is marked
  pub closed : Closed (marks_of body ds) 0 ds
  closed = closed_where (marks_of body ds) 0 ds (definitions_marked count body ds hb hd)

  -- each definition that the body uses is marked
  pub marked : IsTrue (all_marked (marks_of body ds) body)
  marked = all_marked_where (marks_of body ds) body (body_marked count body ds hb hd)

  -- it has the same tree
  pub same_tree : substituted (pruned (body, ds)).0 (pruned (body, ds)).1 ≡ substituted body ds
  same_tree =
      renumbered_put count (length ds) (marks_of body ds) 0 (meaning 0 (kept_from (marks_of body ds) 0 ds)) (meaning 0 ds)
      (kept_means count (length ds) (marks_of body ds) 0 ds below closed) body hb marked

  -- The number of definitions left is the number of marked definitions.
  pub left_long : length (kept_from (marks_of body ds) 0 ds) ≡ rank (marks_of body ds) (length ds)
  left_long =
      let h : 0 + length (kept_from (marks_of body ds) 0 ds) ≡ rank (marks_of body ds) (length ds) = kept_long count (length ds) (marks_of body ds) 0 ds (omega arith) in
      omega (arith, h)

  -- the body that is left uses only definitions that are left
  pub left_body_scoped : IsTrue (is_scoped count 0 (length (pruned (body, ds)).1) (pruned (body, ds)).0)
  left_body_scoped =
      subst (λ k. IsTrue (is_scoped count 0 k (renumbered (rank (marks_of body ds)) body))) (sym left_long)
      (renumbered_scoped count (length ds) (marks_of body ds) 0 body hb marked)

  -- each definition that is left uses only later ones that are left
  pub left_definitions_scoped : IsTrue (are_scoped count 0 (pruned (body, ds)).1)
  left_definitions_scoped =
      from_below count (rank (marks_of body ds) (length ds)) 0 (pruned (body, ds)).1 (omega (arith, left_long)) (kept_scoped count (length ds) (marks_of body ds) 0 ds below closed)
