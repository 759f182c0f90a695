-- A compacted log names no page twice, so it has at most one record for each page.
use Rattle.std.proofs.Common.{◌≡◌, ℕ, ◌<◌, ◌≤◌, ◌||◌, Bool, true, false, eqb, List, [], ◌∷◌, length, map, Some, None, Option, sym, refl, subst, arith}
use Rattle.std.specs.List.{AllByRecursion, IsDistinct, list_any}
use Rattle.std.proofs.lemmas.Bool.{false≢true, eqb-true, eqb-false, ne_eqb}
use Rattle.std.proofs.lemmas.List.{length-map}
use Rattle.std.proofs.lemmas.Map.Steps.{length-le_from_distinct_below}
use Rattle.pages.specs.declared.record.Record.{Record}
use Rattle.pages.specs.Records.{last_place, unless_later, compacted}
use Rattle.pages.proofs.RecordLaws.{after_none, compacted_none, All-compacted}

abbrev named : List Record → List ℕ
named = map (λ (r : Record). r.page)

unnamed : (rs : List Record) (p : ℕ) → last_place rs p ≡ None → AllByRecursion (λ q. eqb p q ≡ false) (named rs)
unnamed [] p none = tt
unnamed (r ∷ rs) p none =
    let (later, here) = after_none (eqb r.page p) (last_place rs p) none in
    (ne_eqb p r.page (λ e. eqb-false r.page p here (sym e)), unnamed rs p later)

apart : (rs : List Record) → IsDistinct eqb (named (compacted rs))
unfolding IsDistinct
apart [] = tt
apart (r ∷ rs) = keep (last_place rs r.page) refl (apart rs)
  where
    keep : (o : Option ℕ) → last_place rs r.page ≡ o → IsDistinct eqb (named (compacted rs)) → IsDistinct eqb (named (unless_later o r (compacted rs)))
    keep (Some k) e rest = rest
    keep None e rest = (unnamed (compacted rs) r.page (compacted_none rs r.page e), rest)

below : (n : ℕ) (rs : List Record) → AllByRecursion (λ r. r.page < n) rs → (q : ℕ) → list_any (eqb q) (named rs) ≡ true → q < n
below n [] a q any = absurd (false≢true any)
below n (r ∷ rs) (lt, a) q any = pick (eqb q r.page) refl any (below n rs a q)
  where
    pick : (here : Bool) → eqb q r.page ≡ here → (here || list_any (eqb q) (named rs)) ≡ true → (list_any (eqb q) (named rs) ≡ true → q < n) → q < n
    pick true e any later = subst (λ p. p < n) (sym (eqb-true q r.page e)) lt
    pick false e any later = later any

pub compacted_few : (n : ℕ) (rs : List Record) → AllByRecursion (λ r. r.page < n) rs → length (compacted rs) ≤ n
compacted_few n rs a =
    let few = length-le_from_distinct_below (named (compacted rs)) n (apart rs) (below n (compacted rs) (All-compacted (λ (r : Record). r.page < n) rs a)) in
    omega (arith, few, length-map (compacted rs) (λ (r : Record). r.page))
