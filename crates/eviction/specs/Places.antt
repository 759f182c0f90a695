-- Sets of places, as numbers of 16 bits: the bit of value 2 ^ k says whether place k is in the set.
use Rattle.std.specs.Prelude.{◌≡◌, ℕ, ◌/◌, ◌%◌, ◌^◌, ◌<◌}

-- Place k is in the set.
abbrev pub Member : ℕ → ℕ → Type 0
Member places k = (k < 16) × (places / 2 ^ k % 2 ≡ 1)

-- No place is in the set.
abbrev pub Empty : ℕ → Type 0
Empty places = (k : ℕ) → Member places k → ⊥
