use Rattle.std.proofs.Common.{rules, sym}
use Rattle.fixed.specs.Fractions.{bits_of}
use Rattle.expr.proofs.Lexing.{number_shorter}
use Rattle.expr.proofs.lexer.number_token.Goals as goal

pub slice_bounds-whole-count : goal.slice_bounds-whole-count
slice_bounds-whole-count c = let k = number_shorter (bits_of c.args.frac) c.args.text.now _ _ (sym c.in-Ok.ensures.exact) in search (rules, k)
