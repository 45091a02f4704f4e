use Rattle.kernel_compiler.proofs.sizes.+power_size.Given as goal

abbrev pub decreases-power_size : goal.decreases-power_size
decreases-power_size l = l.exponent
