use Rattle.eviction.specs.Places.{Member}
use Rattle.eviction.proofs.Telling.{emptied_step, member_or_not}
use Rattle.eviction.proofs.policy.tell_emptied.Goals as goal

pub loop-place-preserved : goal.loop-place-preserved
loop-place-preserved g c =
    emptied_step g.P.Policy.told (Member c.args.places) c.args.policy.now c.loop-place.place _ _ (member_or_not c.args.places c.loop-place.place)
    c.tell_if_member.ensures.member c.tell_if_member.ensures.other c.loop-place.invariant
