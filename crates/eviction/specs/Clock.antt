-- The clock's rule: what the hand and the marks are after a notice, and how the hand comes to a choice.
use Rattle.std.specs.Prelude.{◌≡◌, ℕ, ◌+◌, ◌-◌, ◌%◌, ◌<◌, ◌≤◌, Bool, true, false, ◌⊎◌, List, Some, None, Option, IfSome, slice_index_or, slice_set}
use Rattle.eviction.specs.declared.clock.Clock.{Clock}
use Rattle.eviction.specs.declared.notice.Notice.{Notice}
use Rattle.eviction.specs.declared.notice.Notice.TheVariants.{Used, Emptied}
use Rattle.eviction.specs.Places.{Member, Empty}
use Rattle.eviction.specs.Policy.{place_of}

-- What a clock shows: the place that its hand looks at next, and of each place whether it has a mark.
pub record Face : Type 0 where
  pub hand : ℕ
  pub marks : List Bool

abbrev pub face_of : Clock → Face
face_of clock = record { hand = clock.hand; marks = clock.marks }

-- the place after k; after 15 comes 0
abbrev pub next : ℕ → ℕ
next k = (k + 1) % 16

-- a use sets the mark and an emptying clears it; past place 15 there is no mark to change
abbrev pub marks_after : Notice → List Bool → List Bool
marks_after (Used k) marks = slice_set marks k true
marks_after (Emptied k) marks = slice_set marks k false

-- A notice changes one mark and leaves the hand.
pub record Told (clock : Face) (notice : Notice) (clock' : Face) : Type 0 where
  pub hand : clock'.hand ≡ clock.hand
  pub marks : clock'.marks ≡ marks_after notice clock.marks
  pub ignored : 16 ≤ place_of notice → clock'.marks ≡ clock.marks

-- How the hand gets from here to its choice k, and which marks are left by then. It looks at one place after the other:
-- a member that has no mark ends the search, a member that has one loses it, and what is no member is skipped.
pub data Sweeps (among : ℕ) : ℕ → List Bool → ℕ → List Bool → Type 0 where
  takes : {k : ℕ} {marks : List Bool} → Member among k → slice_index_or marks k false ≡ false → Sweeps among k marks k marks
  clears : {k : ℕ} {marks marks' : List Bool} (hand : ℕ) → Member among hand → slice_index_or marks hand false ≡ true
      → Sweeps among (next hand) (slice_set marks hand false) k marks' → Sweeps among hand marks k marks'
  passes : {k : ℕ} {marks marks' : List Bool} (hand : ℕ) → (Member among hand → ⊥)
      → Sweeps among (next hand) marks k marks' → Sweeps among hand marks k marks'

-- A choice ends such a search, with the hand left at the place after it. Among no members nothing moves.
abbrev pub Chosen : Face → ℕ → Option ℕ → Face → Type 0
Chosen clock among None clock' = Empty among × (clock'.hand ≡ clock.hand) × (clock'.marks ≡ clock.marks)
Chosen clock among (Some k) clock' = Sweeps among clock.hand clock.marks k clock'.marks × (clock'.hand ≡ next k)

-- how many places the hand moves on to reach place k
abbrev pub way : ℕ → ℕ → ℕ
way hand k = (k + 16 - hand) % 16

-- Of the places of which P holds, the hand comes to k first.
pub record First (hand : ℕ) (P : ℕ → Type 0) (k : ℕ) : Type 0 where
  pub one : P k
  pub soonest : (j : ℕ) → P j → way hand k ≤ way hand j

-- The marks of the places of which P holds are cleared, and the others stay.
pub record Cleared (P : ℕ → Type 0) (marks marks' : List Bool) : Type 0 where
  pub gone : (k : ℕ) → P k → slice_index_or marks' k false ≡ false
  pub others : (k : ℕ) → (P k → ⊥) → slice_index_or marks' k false ≡ slice_index_or marks k false

-- Place k is a member that has no mark.
abbrev pub Unmarked : ℕ → List Bool → ℕ → Type 0
Unmarked among marks k = Member among k × (slice_index_or marks k false ≡ false)

-- Member j lies before k on the hand's way.
abbrev pub Before : ℕ → ℕ → ℕ → ℕ → Type 0
Before among hand k j = Member among j × (way hand j < way hand k)

-- What a sweep comes to. Where some member has no mark, the first of these is taken, and the members before it lose
-- their marks. Where each member has one, all of them lose it, and the first member is taken.
abbrev pub SecondChance : ℕ → ℕ → List Bool → ℕ → List Bool → Type 0
SecondChance among hand marks k marks' =
    (First hand (Unmarked among marks) k × Cleared (Before among hand k) marks marks')
    ⊎ (((j : ℕ) → Unmarked among marks j → ⊥) × First hand (Member among) k × Cleared (Member among) marks marks')

-- the same of the faces before and after a choice
abbrev pub GivesSecondChance : Face → ℕ → Option ℕ → Face → Type 0
GivesSecondChance clock among r clock' = IfSome r (λ k. SecondChance among clock.hand clock.marks k clock'.marks)
