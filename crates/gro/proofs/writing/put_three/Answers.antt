use Rattle.std.proofs.Common.{◌≡◌, ◌++◌, ◌∙◌, ap, sym, length, get_or, pos, ℤ, List, w64, to_z, of_z, rules}
use Rattle.std.specs.List.{flat_map}
use Rattle.line_text.specs.Parts.{right_in}
use Rattle.line_text.specs.Columns.{decimals_text}
use Rattle.line_text.proofs.Items.{three_items}
use Rattle.gro.proofs.Pieces.{three_pieces}
use Rattle.gro.proofs.writing.put_three.Goals as goal

pub returns-clause-items : goal.returns-clause-items
returns-clause-items c =
    let ns : List ℤ = c.args.numbers.now in
    let f = λ (z : ℤ). right_in c.args.width (decimals_text c.args.decimals z) in
    let three : length ns ≡ 3 = search rules in
    let x : to_z w64 (of_z w64 (get_or ns 0 (pos 0))) ≡ get_or ns 0 (pos 0) = search rules in
    let y : to_z w64 (of_z w64 (get_or ns 1 (pos 0))) ≡ get_or ns 1 (pos 0) = search rules in
    let z : to_z w64 (of_z w64 (get_or ns 2 (pos 0))) ≡ get_or ns 2 (pos 0) = search rules in
    three_pieces c.args.line.now.items c.put_decimals_right.new.line.items c.put_decimals_right-2.new.line.items c.put_decimals_right-3.new.line.items
    (f (get_or ns 0 (pos 0))) (f (get_or ns 1 (pos 0))) (f (get_or ns 2 (pos 0)))
    (c.put_decimals_right.ensures.items ∙ ap (λ (n : ℤ). c.args.line.now.items ++ f n) x)
    (c.put_decimals_right-2.ensures.items ∙ ap (λ (n : ℤ). c.put_decimals_right.new.line.items ++ f n) y)
    (c.put_decimals_right-3.ensures.items ∙ ap (λ (n : ℤ). c.put_decimals_right-2.new.line.items ++ f n) z)
    ∙ ap (λ (l : List ℤ). c.args.line.now.items ++ flat_map f l) (sym (three_items (pos 0) ns three))
