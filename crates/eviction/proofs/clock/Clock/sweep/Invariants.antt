use Rattle.eviction.proofs.Turning.{Turned}
use Rattle.eviction.proofs.clock.Clock.sweep.Given as goal

abbrev pub invariant-loop-step : goal.invariant-loop-step
invariant-loop-step l = Turned l.among l.initial.self.hand l.initial.self.marks l._step l.self.hand l.self.marks
