use Rattle.std.proofs.Common.{sym, ap, ◌∙◌, arith}
use Rattle.std.proofs.lemmas.List.{map_push}
use Rattle.fixed.specs.Fractions.{bits_of}
use Rattle.expr.specs.Tokens.{lexed}
use Rattle.expr.proofs.Lexing.{token_less}
use Rattle.expr.proofs.TextLemmas.{starts, tail_less, skips, takes, fails, ends}
use Rattle.expr.proofs.lexer.tokens.Goals as goal

pub loop-rest-init : goal.loop-rest-init
loop-rest-init g c = record { within = omega arith; left = starts (bits_of c.args.frac) c.args.text.now (lexed c.new-tokens.result.items) (ap lexed c.new-tokens.ensures.items) }

pub loop-rest-preserved-then-is_space : goal.loop-rest-preserved-then-is_space
loop-rest-preserved-then-is_space g c =
    let l = tail_less c.loop-rest.rest.now c.in-len1-up.len_at_least in
    let w = c.loop-rest.invariant.within in
    record { within = omega (arith, l, w); left = skips _ _ _ _ c.loop-rest.rest.now c.loop-rest.invariant.left c.in-len1-up.len_at_least (sym c.if-is_space.ensures) }

pub loop-rest-smaller : goal.loop-rest-smaller
loop-rest-smaller g c = token_less (bits_of c.args.frac) c.loop-rest.rest.now _ c.in-Ok.ensures

pub loop-rest-preserved : goal.loop-rest-preserved
loop-rest-preserved g c =
    let l = token_less (bits_of c.args.frac) c.loop-rest.rest.now _ c.in-Ok.ensures in
    let w = c.loop-rest.invariant.within in
    record {
      within = omega (arith, l, w);
      left = takes _ _ _ _ _ c.loop-rest.rest.now _ _ c.loop-rest.invariant.left c.in-len1-up.len_at_least (sym c.if-is_space.ensures) c.in-Ok.ensures (ap lexed c.in_ok-push-in-Ok.ensures.items ∙ map_push _ c.loop-rest.tokens.items _);
    }

pub returns-in-Err : goal.returns-in-Err
returns-in-Err g c = rw c.wrong_at.ensures (fails _ _ _ _ c.loop-rest.rest.now _ c.loop-rest.invariant.left c.in-len1-up.len_at_least (sym c.if-is_space.ensures) c.in-Err.ensures)

pub returns : goal.returns
returns g c = ends _ _ _ _ c.loop-rest.rest.now c.loop-rest.invariant.left c.in_default.len_below
