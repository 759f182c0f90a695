-- The refusals of the page stores: the number of each, and what a call answers that has both checks.
use Rattle.std.specs.Prelude.{◌≡◌, ℕ, ◌⊎◌, List, Ok, Err, codes, Result}
use Rattle.pages.specs.declared.fault.StoreFault.{StoreFault}
use Rattle.pages.specs.declared.fault.StoreFault.TheVariants.{WrongLength, NoSuchPage}

-- the number by which a refusal is known
abbrev pub number_of : StoreFault → ℕ
number_of WrongLength = 2
number_of NoSuchPage = 3

-- what a refusal reads like where it is printed
abbrev pub text_of : StoreFault → List ℕ
text_of WrongLength = codes "wrong buffer length"
text_of NoSuchPage = codes "no such page"

-- Two checks, tried in turn: 2 where the buffer does not fit, then 3 where the pages asked for are not there.
abbrev pub Refuses : (Fits There : Type 0) → ℕ → Type 0
Refuses Fits There n = ((n ≡ 2) × (Fits → ⊥)) ⊎ ((n ≡ 3) × Fits × (There → ⊥))

-- Accepted exactly if the buffer fits and the pages are there, and then `Done` holds;
-- refused otherwise, with the number of the first check that fails, and then `Unaltered` holds.
abbrev pub Answers : (Fits There Done Unaltered : Type 0) → Result Unit StoreFault → Type 0
Answers Fits There Done Unaltered (Ok _) = Fits × There × Done
Answers Fits There Done Unaltered (Err fault) = Refuses Fits There (number_of fault) × Unaltered
