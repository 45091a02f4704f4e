use Rattle.kernel_compiler.proofs.emit.+put_power.Given as goal

abbrev pub decreases-put_power : goal.decreases-put_power
decreases-put_power g l = l.exponent
