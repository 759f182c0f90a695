-- An order of places, as a list of their numbers.
use Rattle.std.specs.Prelude.{◌≡◌, ℕ, ◌<◌, not, ◌⊎◌, List, length, Some, None, filter, Option, ◌==◌, ◌≢◌, All, Contains, slice_index}
use Rattle.std.specs.List.{AllPairs}
use Rattle.eviction.specs.Places.{Member, Empty}

-- Each number is a place, and none stands twice.
pub record IsOrder (order : List ℕ) : Type 0 where
  pub known : All (λ k. k < 16) order
  pub apart : AllPairs (λ j k. j ≢ k) order

-- the order with place k taken out
abbrev pub without : ℕ → List ℕ → List ℕ
without k order = filter (λ j. not (j == k)) order

-- Place k is a member that is not in the order.
abbrev pub Fresh : List ℕ → ℕ → ℕ → Type 0
Fresh order among k = Member among k × (Contains order k → ⊥)

-- A member stands at i in the order.
abbrev pub MemberAt : List ℕ → ℕ → ℕ → Type 0
MemberAt order among i = (i < length order) × Member among (slice_index order i)

-- the lowest number of which P holds, or none where it holds of no number
abbrev pub Lowest : (ℕ → Type 0) → Option ℕ → Type 0
Lowest P None = (j : ℕ) → P j → ⊥
Lowest P (Some k) = P k × ((j : ℕ) → j < k → P j → ⊥)

-- The member that stands in the order before the others, or none where no member is in it.
abbrev pub FirstIn : List ℕ → ℕ → Option ℕ → Type 0
FirstIn order among None = Lowest (MemberAt order among) None
FirstIn order among (Some k) = (i : ℕ) × Lowest (MemberAt order among) (Some i) × (slice_index order i ≡ k)

-- The member that goes first, or none where there is no member: the lowest that is not in the order or, where every member
-- is in it, the one that stands before the others.
abbrev pub FirstToGo : List ℕ → ℕ → Option ℕ → Type 0
FirstToGo order among None = Empty among
FirstToGo order among (Some k) =
    Lowest (Fresh order among) (Some k) ⊎ (Lowest (Fresh order among) None × FirstIn order among (Some k))
