use Rattle.std.proofs.Common.{◌≡◌, ◌+◌, ℕ, List, Option, Bor, option_map, length, ap, ◌∙◌, arith}
use Rattle.std.proofs.lemmas.Result.{err_from_is_err_and}
use Rattle.job.specs.Words.{more_lines}
use Rattle.job.specs.JobText.{limits}
use Rattle.job.specs.Views.{said_of, refusal_of}
use Rattle.job.proofs.FaultLemmas.{read_all, read_fails, read_more, read_none}
use Rattle.job.proofs.LineLemmas.{size, size_left}
use Rattle.job.proofs.reading.draft_of.Goals as goal

pub loop-rest-init : goal.loop-rest-init
loop-rest-init g c = record {
  read = rw c.new-draft.ensures (read_none limits c.args.frac (more_lines (option_map (λ (x : Bor (List ℕ)). x.now) c.args.text)));
  count = omega arith;
}

pub returns-in_err-take_line-clause-fault : goal.returns-in_err-take_line-clause-fault
returns-in_err-take_line-clause-fault g c =
    let p = err_from_is_err_and c.from_residual.result c.from_residual.ensures.1 in
    rw (p.1, p.2) (read_fails limits c.args.frac _ _ _ _ c.loop-rest.number (said_of c.loop-rest.draft) c.loop-rest.invariant.read
    (ap (λ (r : Option (Bor (List ℕ))). more_lines (option_map (λ x. x.now) r)) c.in-Some.is ∙ c.next_line.ensures.lines) (refusal_of {A = g.row.A.Denot}) c.in_err-take_line.field-0.0 c.in_err-take_line.ensures)

pub loop-rest-preserved : goal.loop-rest-preserved
loop-rest-preserved g c =
    let left : size (option_map (λ (x : Bor (List ℕ)). x.now) c.loop-rest.rest) ≡ 1 + length c.in-Some.lines.now = ap (λ (r : Option (Bor (List ℕ))). size (option_map (λ x. x.now) r)) c.in-Some.is in
    record {
      read = read_more limits c.args.frac _ _ _ _ c.loop-rest.number (said_of c.loop-rest.draft) c.loop-rest.invariant.read
          (ap (λ (r : Option (Bor (List ℕ))). more_lines (option_map (λ x. x.now) r)) c.in-Some.is ∙ c.next_line.ensures.lines) (said_of c.take_line.new.draft) c.in_ok-take_line.ensures;
      count = omega (arith, left, size_left (λ (x : Bor (List ℕ)). x.now) c.next_line.result.1 c.next_line.result.0.now c.in-Some.lines.now c.next_line.ensures.shorter, c.loop-rest.invariant.count);
    }

pub returns-clause-good : goal.returns-clause-good
returns-clause-good g c =
    (read_all limits c.args.frac _ c.loop-rest.number (said_of c.loop-rest.draft) (rw c.in_default.is at c.loop-rest.invariant.read)).0

pub returns-clause-draft : goal.returns-clause-draft
returns-clause-draft g c =
    (read_all limits c.args.frac _ c.loop-rest.number (said_of c.loop-rest.draft) (rw c.in_default.is at c.loop-rest.invariant.read)).1
