use Rattle.std.proofs.Common.{arith}
use Rattle.eviction.proofs.OrderLaws.{IsOrder-push, room}
use Rattle.eviction.proofs.oldest_use.OldestUse.append.Goals as goal

pub push-requires : goal.push-requires
push-requires c = (omega arith, room c.args.place _ c.requires.known c.requires.absent c.args.self.now.sound)

pub invariant_of-self : goal.invariant_of-self
invariant_of-self c = record { sound = rw c.push.ensures.items (IsOrder-push c.args.place _ c.requires.known c.requires.absent c.args.self.now.sound) }
