use Rattle.std.proofs.Common.{ℕ, ◌<◌, ◌≤◌, None, Some, Option, arith, rules, tests}
use Rattle.std.specs.Option.{MatchOption}
use Rattle.std.proofs.lemmas.Iterator.{first_from_Range}
use Rattle.eviction.specs.Places.{Member}
use Rattle.eviction.specs.Policy.{Chooses}
use Rattle.eviction_tests.proofs.recorder.RecorderPolicy.choose.Goals as goal

chooses : (among : ℕ) (r : Option ℕ)
    → MatchOption r ((k : ℕ) → 0 ≤ k → k < 16 → Member among k → ⊥) (λ i. (0 ≤ i) × (i < 16) × Member among i × ((k : ℕ) → 0 ≤ k → k < i → Member among k → ⊥))
    → Chooses among r
chooses among None none = λ k m. none k (omega arith) m.0 m
chooses among (Some i) (_, _, member, _) = member

pub returns-clause-member : goal.returns-clause-member
returns-clause-member c =
    chooses c.args.among _
    (first_from_Range _ _ _ _ (Member c.args.among) (λ k. Member c.args.among k → ⊥) c.find.ensures.ran (λ x q k. search (rules, tests)) (λ x q k. search (rules, tests)))
