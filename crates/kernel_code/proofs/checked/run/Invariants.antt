use Rattle.std.proofs.Common.{◌≡◌, ℕ, ◌-◌, ◌≤◌, length, Some}
use Rattle.fixed.specs.Fractions.{bits_of}
use Rattle.kernel_code.specs.Machine.{after}
use Rattle.kernel_code.proofs.checked.run.Given as goal

abbrev pub invariant-loop-pc : goal.invariant-loop-pc
invariant-loop-pc g l = record {
  within : l.pc ≤ length l.code;
  locals : length l.locals ≡ 256;
  reached : (n : ℕ) × (after (bits_of l.frac) l.code l.inputs n ≡ Some (record { pc = l.pc; stack = l.stack; locals = l.locals }));
}

abbrev pub decreases-loop-pc : goal.decreases-loop-pc
decreases-loop-pc g l = length l.code - l.pc
