use Rattle.std.proofs.Common.{◌≡◌, ℕ, zero, suc, get_or, replicate, None, Option, refl}
use Rattle.pages.proofs.log.no_records.Goals as goal

everywhere : (n p : ℕ) (o : Option ℕ) → get_or (replicate n o) p o ≡ o
everywhere zero p o = refl
everywhere (suc n) zero o = refl
everywhere (suc n) (suc p) o = everywhere n p o

pub returns-clause-indexed : goal.returns-clause-indexed
returns-clause-indexed c = λ p. everywhere 4096 p None
