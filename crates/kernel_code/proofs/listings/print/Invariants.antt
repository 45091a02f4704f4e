use Rattle.std.proofs.Common.{◌≡◌, ◌++◌, take}
use Rattle.std.specs.List.{AllByRecursion}
use Rattle.line_text.specs.Parts.{ended}
use Rattle.kernel_code.specs.Listing.{head_line, instruction_lines, HasOperands}
use Rattle.kernel_code.proofs.listings.print.Given as goal

abbrev pub invariant-loop-instr : goal.invariant-loop-instr
invariant-loop-instr g l = record {
  text : l.text.items ≡ ended head_line ++ instruction_lines (take l.instr-index l.instr-items);
  operands : AllByRecursion HasOperands (take l.instr-index l.instr-items);
}
