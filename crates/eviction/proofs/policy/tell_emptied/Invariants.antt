use Rattle.eviction.specs.Places.{Member}
use Rattle.eviction.specs.Policy.{ToldEmptied}
use Rattle.eviction.proofs.Telling.{Below}
use Rattle.eviction.proofs.policy.tell_emptied.Given as goal

abbrev pub invariant-loop-place : goal.invariant-loop-place
invariant-loop-place g l = ToldEmptied g.P.Policy.told l.initial.policy (Below (Member l.places) l.place) l.policy
