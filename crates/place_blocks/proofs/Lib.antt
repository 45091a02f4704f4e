mod LaneLemmas
mod BlockLemmas
