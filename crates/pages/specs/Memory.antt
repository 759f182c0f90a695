-- Lent memory: which memory a reference lends, and what a store leaves of it.
use Rattle.std.specs.Prelude.{◌≡◌, ℕ, List, length}
use Rattle.std.specs.Borrow.{MutBor}
use Rattle.pages.specs.Pieces.{past_last}

-- Both references lend the same memory.
abbrev pub SameLoan : MutBor (List ℕ) → MutBor (List ℕ) → Type 0
SameLoan old new = new.ghost_name ≡ old.ghost_name

-- The memory is the one that was lent and as long as it was, and the bytes past its last piece are as they were.
pub record KeepsMemory (width most : ℕ) (old new : MutBor (List ℕ)) : Type 0 where
  pub lent : SameLoan old new
  pub size : length new.now ≡ length old.now
  pub past : past_last width most new.now ≡ past_last width most old.now
