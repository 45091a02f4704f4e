use Rattle.std.proofs.Common.{ap, ◌∙◌, length, map, length-append, arith}
use Rattle.std.proofs.lemmas.List.{map_push}
use Rattle.std.proofs.lemmas.Result.{err_from_is_err_and}
use Rattle.expr.specs.Syntax.{definition_of}
use Rattle.expr.specs.Tokens.{lexed}
use Rattle.expr.proofs.Behind.{body_fails, starts, heading_fails, value_fails, not_full, more, ends}
use Rattle.expr.proofs.parser.Parser.source.Goals as goal

pub returns-in_err-body : goal.returns-in_err-body
returns-in_err-body g c =
    let p = err_from_is_err_and c.from_residual.result c.from_residual.ensures.1 in
    rw (p.1, p.2) (body_fails c.args.self.now.end (lexed c.args.tokens.now) _ c.in_err-body.ensures)

pub loop-definitions-init : goal.loop-definitions-init
loop-definitions-init g c =
    let none = c.new-definitions.ensures.items in
    record {
      few = rw none (omega arith);
      left = starts c.args.self.now.end (lexed c.args.tokens.now) _ _ _ _ (ap (map definition_of) none) (ap length none) c.in_ok-body.ensures;
    }

pub returns-in_err-name : goal.returns-in_err-name
returns-in_err-name g c =
    let p = err_from_is_err_and c.from_residual-in_err-name.result c.from_residual-in_err-name.ensures.1 in
    rw (p.1, c.loop-definitions.invariant.left)
    (heading_fails c.args.self.now.end (length c.loop-definitions.definitions.items) _ _ (lexed c.loop-definitions.rest.now) p.0 c.loop-definitions.invariant.few
    (rw p.2 (rw (c.len.ensures, c.loop-definitions.definitions.ok.0) at c.in_err-name.ensures)))

pub returns-in_err-value : goal.returns-in_err-value
returns-in_err-value g c =
    let p = err_from_is_err_and c.from_residual-in_err-value.result c.from_residual-in_err-value.ensures.1 in
    let h = rw (c.len.ensures, c.loop-definitions.definitions.ok.0, c.in-Some.is) at c.in_ok-name.ensures in
    rw (p.1, p.2, c.loop-definitions.invariant.left)
    (value_fails c.args.self.now.end (length c.loop-definitions.definitions.items) _ _ (lexed c.loop-definitions.rest.now) _ _ _ c.loop-definitions.invariant.few h c.in_err-value.ensures)

pub loop-definitions-smaller : goal.loop-definitions-smaller
loop-definitions-smaller g c =
    let h = rw (c.len.ensures, c.loop-definitions.definitions.ok.0, c.in-Some.is) at c.in_ok-name.ensures in
    let below = not_full c.args.self.now.end (length c.loop-definitions.definitions.items) (lexed c.loop-definitions.rest.now) _ c.loop-definitions.invariant.few h in
    let pushed = ap length c.in_ok-push.ensures.items ∙ length-append c.loop-definitions.definitions.items _ in
    omega (arith, below, pushed)

pub loop-definitions-preserved : goal.loop-definitions-preserved
loop-definitions-preserved g c =
    let h = rw (c.len.ensures, c.loop-definitions.definitions.ok.0, c.in-Some.is) at c.in_ok-name.ensures in
    let below = not_full c.args.self.now.end (length c.loop-definitions.definitions.items) (lexed c.loop-definitions.rest.now) _ c.loop-definitions.invariant.few h in
    let pushed = ap length c.in_ok-push.ensures.items ∙ length-append c.loop-definitions.definitions.items _ in
    record {
      few = omega (arith, below, pushed);
      left =
          c.loop-definitions.invariant.left
          ∙ more c.args.self.now.end (length c.loop-definitions.definitions.items) _ _ _ _ (lexed c.loop-definitions.rest.now) _ _ _ _ c.loop-definitions.invariant.few pushed
          (ap (map definition_of) c.in_ok-push.ensures.items ∙ map_push _ c.loop-definitions.definitions.items _) h c.in_ok-value.ensures;
    }

pub returns : goal.returns
returns g c =
    let h = rw (c.len.ensures, c.loop-definitions.definitions.ok.0, c.in_default.is) at c.in_ok-name.ensures in
    c.loop-definitions.invariant.left
    ∙ ends c.args.self.now.end (length c.loop-definitions.definitions.items) _ _ (lexed c.loop-definitions.rest.now) c.loop-definitions.invariant.few h
