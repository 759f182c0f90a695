-- A compacted log has the last record of each page, in their order, and no other.
use Rattle.std.proofs.Common.{◌≡◌, ℕ, zero, suc, ◌<◌, eqb, List, [], ◌∷◌, map, length, Some, None, Option, sym, refl, ap, ◌∙◌, arith}
use Rattle.std.specs.List.{ContainsAt, AllByRecursion}
use Rattle.std.specs.List.Sorted.{IsStrictlyIncreasing}
use Rattle.std.proofs.lemmas.List.Elements.{All-from_recursion}
use native.Mathlib.Numerals.{unary_clauses}
use Rattle.std.proofs.lemmas.Bool.{eq-eqb}
use Rattle.pages.specs.declared.record.Record.{Record}
use Rattle.pages.specs.Records.{record_at, after, last_place, unless_later, compacted, IsLast, LastOfEach}
use Rattle.pages.proofs.RecordLaws.{last_place_is, is_last_later}

-- from lower to higher numbers, by recursion
Rising : List ℕ → Type 0
Rising [] = Unit {0}
Rising (k ∷ ks) = AllByRecursion (λ j. k < j) ks × Rising ks

-- `LastOfEach`, by recursion on the places
Kept : List Record → List Record → Type 0
Kept rs kept =
    (places : List ℕ) × Rising places
    × AllByRecursion (λ k. IsLast rs (record_at rs k).page k) places
    × ((k : ℕ) → IsLast rs (record_at rs k).page k → ContainsAt places k)
    × (kept ≡ map (record_at rs) places)

-- places one further on
above_later : (k : ℕ) (ps : List ℕ) → AllByRecursion (λ j. k < j) ps → AllByRecursion (λ j. suc k < j) (map suc ps)
above_later k [] all = tt
above_later k (p ∷ ps) (lt, all) = (omega arith, above_later k ps all)

rising_later : (ps : List ℕ) → Rising ps → Rising (map suc ps)
unfolding Rising
rising_later [] rising = tt
rising_later (p ∷ ps) (all, rising) = (above_later p ps all, rising_later ps rising)

above_zero : (ps : List ℕ) → AllByRecursion (λ j. 0 < j) (map suc ps)
above_zero [] = tt
above_zero (p ∷ ps) = (omega arith, above_zero ps)

last_later : (r : Record) (rs : List Record) (ps : List ℕ) → AllByRecursion (λ k. IsLast rs (record_at rs k).page k) ps
    → AllByRecursion (λ k. IsLast (r ∷ rs) (record_at (r ∷ rs) k).page k) (map suc ps)
last_later r rs [] all = tt
last_later r rs (p ∷ ps) (last, all) = (is_last_later r rs (record_at rs p).page p last, last_later r rs ps all)

same_records : (r : Record) (rs : List Record) (ps : List ℕ) → map (record_at (r ∷ rs)) (map suc ps) ≡ map (record_at rs) ps
same_records r rs [] = refl
same_records r rs (p ∷ ps) = ap (λ l. record_at rs p ∷ l) (same_records r rs ps)

has_here : (k : ℕ) (ps : List ℕ) → ContainsAt (k ∷ ps) k
has_here k ps = (0, omega arith, λ d. refl)

has_next : (j k : ℕ) (ps : List ℕ) → ContainsAt ps k → ContainsAt (j ∷ ps) k
has_next j k ps (i, lt, at) = (suc i, omega arith, at)

has_later : (k : ℕ) (ps : List ℕ) → ContainsAt ps k → ContainsAt (map suc ps) (suc k)
has_later k [] (i, lt, at) = absurd (let z : ⊥ = omega arith in z)
has_later k (p ∷ ps) (zero, lt, at) = (0, omega arith, λ d. ap suc (at d))
has_later k (p ∷ ps) (suc i, lt, at) = has_next (suc p) (suc k) (map suc ps) (has_later k ps (i, omega arith, at))

-- the last of a longer log, seen from the shorter
last_earlier : (r : Record) (rs : List Record) (p k : ℕ) → IsLast (r ∷ rs) p (suc k) → IsLast rs p k
last_earlier r rs p k (lt, named, none) = (omega arith, named, λ j a b. none (suc j) (omega arith) (omega arith))

compacted_kept : (rs : List Record) → Kept rs (compacted rs)
unfolding Kept Rising
compacted_kept [] = ([], tt, tt, (λ k last. absurd (let lt : k < 0 = last.0 in let z : ⊥ = omega arith in z)), refl)
compacted_kept (r ∷ rs) = keep (last_place rs r.page) refl (compacted_kept rs)
  where
    keep : (o : Option ℕ) → last_place rs r.page ≡ o → Kept rs (compacted rs) → Kept (r ∷ rs) (unless_later o r (compacted rs))
    keep (Some m) e (ps, rising, last, all, is) = (map suc ps, rising_later ps rising, last_later r rs ps last, whole, is ∙ sym (same_records r rs ps))
      where
        whole : (k : ℕ) → IsLast (r ∷ rs) (record_at (r ∷ rs) k).page k → ContainsAt (map suc ps) k
        whole zero here =
            let later = last_place_is rs r.page m e in
            absurd (here.2 (suc m) (omega arith) (let lt : m < length rs = later.0 in let z : suc m < length (r ∷ rs) = omega arith in z) later.1)
        whole (suc k) here = has_later k ps (all k (last_earlier r rs (record_at rs k).page k here))
    keep None e (ps, rising, last, all, is) = (
      0 ∷ map suc ps,
      (above_zero ps, rising_later ps rising),
      (last_place_is (r ∷ rs) r.page 0 first, last_later r rs ps last),
      whole,
      ap (λ l. r ∷ l) (is ∙ sym (same_records r rs ps)),
    )
      where
        first : last_place (r ∷ rs) r.page ≡ Some 0
        first = ap (after (eqb r.page r.page)) e ∙ ap (λ b. after b None) (eq-eqb r.page r.page refl)

        whole : (k : ℕ) → IsLast (r ∷ rs) (record_at (r ∷ rs) k).page k → ContainsAt (0 ∷ map suc ps) k
        whole zero here = has_here 0 (map suc ps)
        whole (suc k) here = has_next 0 (suc k) (map suc ps) (has_later k ps (all k (last_earlier r rs (record_at rs k).page k here)))

increasing : (ps : List ℕ) → Rising ps → IsStrictlyIncreasing ps
unfolding Rising
increasing [] rising k lt = omega arith
increasing (p ∷ []) rising k lt = omega arith
increasing (p ∷ (q ∷ ps)) (all, rising) zero lt = all.0
increasing (p ∷ (q ∷ ps)) (all, rising) (suc k) lt = simp unary_clauses (simp unary_clauses at (increasing (q ∷ ps) rising k (omega arith)))

pub compacted_last : (rs : List Record) → LastOfEach rs (compacted rs)
unfolding Kept
compacted_last rs =
    let (ps, rising, last, all, is) = compacted_kept rs in
    (ps, increasing ps rising, All-from_recursion (λ k. IsLast rs (record_at rs k).page k) ps last, (λ k here. let (i, lt, at) = all k here in (i, lt, at k)), is)
