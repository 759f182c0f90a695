use Rattle.std.proofs.Common.{refl, sym, subst}
use Rattle.std.specs.List.{Contains}
use Rattle.eviction.proofs.OrderLaws.{IsOrder-without, without_found, without_sought, without_lacks, without_unknown}
use Rattle.eviction.proofs.oldest_use.OldestUse.forget.Goals as goal

pub invariant_of-self : goal.invariant_of-self
invariant_of-self c =
    let (_, left) = without_found c.args.place _ _ c.args.self.now.sound.apart (sym c.in-Some.ensures) in
    record { sound = rw (c.remove.ensures.items, left) (IsOrder-without c.args.place _ c.args.self.now.sound) }

pub returns-in-Some : goal.returns-in-Some
returns-in-Some c =
    let (_, left) = without_found c.args.place _ _ c.args.self.now.sound.apart (sym c.in-Some.ensures) in
    rw (c.remove.ensures.items, left) (record {
      order = refl;
      absent = without_lacks c.args.place _;
      ignored = λ far. without_unknown c.args.place _ far c.args.self.now.sound.known;
    })

pub returns-in_default : goal.returns-in_default
returns-in_default c =
    let left = without_sought c.args.place _ (sym c.in_default.ensures) in
    record { order = sym left; absent = subst (λ xs. Contains xs c.args.place → ⊥) left (without_lacks c.args.place _); ignored = λ far. refl }
