-- What a cache does to its policy when it gives up a place for another page.
use Rattle.std.specs.Prelude.{ℕ, [], ◌∷◌, Some, None, Option}
use Rattle.eviction.specs.declared.notice.Notice.{Notice}
use Rattle.eviction.specs.declared.notice.Notice.TheVariants.{Used, Emptied}
use Rattle.eviction.specs.Places.{Member, Empty}
use Rattle.eviction.specs.Policy.{ToldAll}

-- The policy chooses a member, and is then told that it was emptied and used; among no places it chooses none, and is told nothing.
abbrev pub Replaces : {P : Type 0} → (P → Notice → P → Type 0) → (P → ℕ → Option ℕ → P → Type 0) → P → ℕ → Option ℕ → P → Type 0
Replaces told chosen p among None q = Empty among × chosen p among None q
Replaces {P} told chosen p among (Some k) q =
    Member among k × ((m : P) × chosen p among (Some k) m × ToldAll told m (Emptied k ∷ (Used k ∷ [])) q)
