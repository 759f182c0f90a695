-- The rule of oldest use: the order that a notice leaves, which member a choice takes, and that it was used longest ago.
use Rattle.std.specs.Prelude.{◌≡◌, ℕ, ◌<◌, ◌≤◌, ◌⊎◌, List, [], ◌∷◌, ◌++◌, length, Option, IfSome, ◌≢◌, if◌then◌else◌, nat_lt, slice_index_or}
use Rattle.eviction.specs.declared.notice.Notice.{Notice}
use Rattle.eviction.specs.declared.notice.Notice.TheVariants.{Used, Emptied}
use Rattle.eviction.specs.declared.oldest_use.OldestUse.{OldestUse}
use Rattle.eviction.specs.Order.{without, FirstToGo}
use Rattle.eviction.specs.Places.{Member}
use Rattle.eviction.specs.Policy.{place_of, Heard}

-- the places whose latest notice was a use, by that use, the oldest first
abbrev pub order_of : OldestUse → List ℕ
order_of policy = policy.order.items

-- the order after a notice: a use moves the place to the end, an emptying takes it out
abbrev pub order_after : Notice → List ℕ → List ℕ
order_after (Used k) order = if nat_lt k 16 then without k order ++ k ∷ [] else order
order_after (Emptied k) order = without k order

-- A notice changes the order; one that names no place changes nothing.
pub record Told (policy : OldestUse) (notice : Notice) (policy' : OldestUse) : Type 0 where
  pub order : order_of policy' ≡ order_after notice (order_of policy)
  pub ignored : 16 ≤ place_of notice → order_of policy' ≡ order_of policy

-- A choice takes the member that goes first by the order of last use, and leaves the order.
pub record Chosen (policy : OldestUse) (among : ℕ) (r : Option ℕ) (policy' : OldestUse) : Type 0 where
  pub member : FirstToGo (order_of policy) among r
  pub order : order_of policy' ≡ order_of policy

-- These notices, the newest first, are what the policy has heard since it was new.
abbrev pub Since : List Notice → OldestUse → Type 0
Since = Heard (λ policy. order_of policy ≡ []) Told Chosen

-- The last use of place k came i notices before the newest, and no newer notice names k.
pub record LastUse (notices : List Notice) (k i : ℕ) : Type 0 where
  pub there : i < length notices
  pub used : slice_index_or notices i (Emptied k) ≡ Used k
  pub last : (h : ℕ) → h < i → place_of (slice_index_or notices h (Emptied k)) ≢ k

-- Place k had no use, or an emptying came after it.
abbrev pub NotUsed : List Notice → ℕ → Type 0
NotUsed notices k = (i : ℕ) → LastUse notices k i → ⊥

-- Place k goes sooner than place j: the lower of two that were not used, one that was not used before one that was,
-- and of two that were used the one whose last use came earlier.
abbrev pub Sooner : List Notice → ℕ → ℕ → Type 0
Sooner notices k j =
    (NotUsed notices k × NotUsed notices j × (k < j))
    ⊎ (NotUsed notices k × ((b : ℕ) × LastUse notices j b))
    ⊎ ((a b : ℕ) × LastUse notices k a × LastUse notices j b × (b < a))

-- Of the members, k was used longest ago: it goes sooner than every other one.
pub record LongestAgo (notices : List Notice) (among k : ℕ) : Type 0 where
  pub member : Member among k
  pub sooner : (j : ℕ) → Member among j → (j ≢ k) → Sooner notices k j

-- Some notices have led to this policy, and whichever did, the choice was used longest ago.
abbrev pub TakesLongestAgo : OldestUse → ℕ → Option ℕ → Type 0
TakesLongestAgo policy among r =
    IfSome r (λ k.
    ((notices : List Notice) × Since notices policy)
    × ((notices : List Notice) → Since notices policy → LongestAgo notices among k))
