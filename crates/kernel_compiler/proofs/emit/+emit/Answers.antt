use Rattle.std.proofs.Common.{◌∙◌}
use Rattle.fixed.specs.Fractions.{bits_of}
use Rattle.energy_program.specs.Tree.{tree_of}
use Rattle.kernel_compiler.proofs.Patch.{patch_choice}
use Rattle.kernel_compiler.proofs.emit.+emit.Goals as goal

pub emit_choice-returns-clause-items : goal.emit_choice-returns-clause-items
emit_choice-returns-clause-items g t c =
    patch_choice (bits_of c.args.frac) (tree_of c.args.condition.now) (tree_of c.args.a.now) (tree_of c.args.b.now) c.args.code.now.items _ _ _ _ _ _ _ _ _ _ _
    c.in_ok-emit.ensures.items (c.len-condition_end.ensures ∙ c.emit.new.code.ok.0) c.in_ok-put.ensures.items
    c.in_ok-emit-2.ensures.items (c.len-first_end.ensures ∙ c.emit-2.new.code.ok.0) c.in_ok-put-2.ensures.items
    (c.len-second.ensures ∙ c.put-2.new.code.ok.0) c.in_ok-emit-3.ensures.items (c.len.ensures ∙ c.emit-3.new.code.ok.0)
