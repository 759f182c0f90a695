-- What every policy promises, and what a caller promises to tell it.
use Rattle.std.specs.Prelude.{◌≡◌, ℕ, List, [], ◌∷◌, map, Some, None, Option, All, Contains}
use Rattle.std.specs.List.Sorted.{IsStrictlyIncreasing}
use Rattle.eviction.specs.declared.notice.Notice.{Notice}
use Rattle.eviction.specs.declared.notice.Notice.TheVariants.{Used, Emptied}
use Rattle.eviction.specs.Places.{Member, Empty}

-- the number that a notice names; from 16 on it is no place
abbrev pub place_of : Notice → ℕ
place_of (Used k) = k
place_of (Emptied k) = k

-- What may be answered to a choice: a member, and no place only where there is no member.
abbrev pub Chooses : ℕ → Option ℕ → Type 0
Chooses among None = Empty among
Chooses among (Some k) = Member among k

-- These notices, given one after the other, lead from the policy p to q.
abbrev pub ToldAll : {P : Type 0} → (P → Notice → P → Type 0) → P → List Notice → P → Type 0
ToldAll told p [] q = q ≡ p
ToldAll {P} told p (n ∷ ns) q = (m : P) × told p n m × ToldAll told m ns q

-- The policy was new, and has heard these notices since, the newest first; it may have been asked to choose in between.
pub data Heard {P : Type 0} (New : P → Type 0) (told : P → Notice → P → Type 0) (chosen : P → ℕ → Option ℕ → P → Type 0) : List Notice → P → Type 0 where
  nothing : {p : P} → New p → Heard New told chosen [] p
  one_more : {p q : P} {ns : List Notice} (n : Notice) → Heard New told chosen ns p → told p n q → Heard New told chosen (n ∷ ns) q
  asked : {p q : P} {ns : List Notice} {among : ℕ} {r : Option ℕ} → Heard New told chosen ns p → chosen p among r q → Heard New told chosen ns q

-- These are the numbers of which P holds, each once, from lower to higher.
pub record InTurn (P : ℕ → Type 0) (ks : List ℕ) : Type 0 where
  pub rising : IsStrictlyIncreasing ks
  pub each : All P ks
  pub whole : (k : ℕ) → P k → Contains ks k

-- The policy is told that the places of which `Gone` holds were emptied, once each, in ascending order.
abbrev pub ToldEmptied : {P : Type 0} → (P → Notice → P → Type 0) → P → (ℕ → Type 0) → P → Type 0
ToldEmptied told p Gone q = (ks : List ℕ) × InTurn Gone ks × ToldAll told p (map Emptied ks) q
