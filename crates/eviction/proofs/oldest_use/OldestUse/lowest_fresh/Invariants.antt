use Rattle.std.proofs.Common.{ℕ, ◌<◌}
use Rattle.eviction.specs.Order.{Fresh}
use Rattle.eviction.proofs.oldest_use.OldestUse.lowest_fresh.Given as goal

abbrev pub invariant-loop-place : goal.invariant-loop-place
invariant-loop-place l = (j : ℕ) → j < l.place → Fresh l.order l.among j → ⊥
