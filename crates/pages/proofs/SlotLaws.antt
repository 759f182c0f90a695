-- Records by their slots: what the filled slots hold, and what a write to the next slot adds.
use Rattle.std.proofs.Common.{◌≡◌, ℕ, zero, suc, cond, eqb, set, Some, None, Option, ◌+◌, ◌*◌, ◌<◌, ◌≤◌, List, [], ◌∷◌, ◌++◌, map, length, get_or, take, sym, refl, ap, ◌∙◌, subst, ⊎_elim, zero-add, arith, take-add}
use Rattle.std.specs.List.{flat_map, AllByRecursion}
use Rattle.std.proofs.lemmas.List.FromFn.{map-range_with_len_more}
use Rattle.std.proofs.ByRecursion.{All-from_get_or, All-get_or}
use Rattle.std.proofs.lemmas.List.{length-map, map_push, get_or-map, flat_map_more, get_or-set_same, get_or-set_other}
use Rattle.std.proofs.lemmas.Bool.{cases_eq, eq-eqb, ne_eqb}
use Rattle.pages.specs.Pieces.{piece, pieces, overwritten}
use Rattle.pages.specs.declared.record.Record.{Record}
use Rattle.pages.specs.Records.{blank, last_place}
use Rattle.pages.specs.Log.{encoded, decoded, records_in, Exact, Known}
use Rattle.pages.proofs.RecordLaws.{last_place_push}
use Rattle.pages.proofs.Pieces.{length-pieces, get_or-pieces, pieces_same, piece-overwritten_same, piece-overwritten_other}

pub length-records_in : (n : ℕ) (memory : List ℕ) → length (records_in n memory) ≡ n
length-records_in n memory = length-map (pieces 66 n memory) decoded ∙ length-pieces 66 n memory

pub get_or-records_in : (n k : ℕ) (memory : List ℕ) (d : Record) → k < n → get_or (records_in n memory) k d ≡ decoded (piece 66 memory k)
get_or-records_in n k memory d lt =
    get_or-map decoded (pieces 66 n memory) k [] d (omega (arith, length-pieces 66 n memory))
    ∙ ap decoded (get_or-pieces 66 n k memory lt)

pub records_in_more : (n : ℕ) (memory : List ℕ) → records_in (n + 1) memory ≡ records_in n memory ++ decoded (piece 66 memory n) ∷ []
records_in_more n memory =
    ap (map decoded) (map-range_with_len_more (piece 66 memory) 0 n n (zero-add n))
    ∙ map_push decoded (pieces 66 n memory) (piece 66 memory n)

-- slot j takes 66 bytes
module _ (j : ℕ) (memory bytes : List ℕ) (wide : length bytes ≡ 66) (fits : 66 * j + 66 ≤ length memory) where
  pub records_put : records_in (j + 1) (overwritten memory (66 * j) bytes) ≡ records_in j memory ++ decoded bytes ∷ []
  records_put =
      records_in_more j (overwritten memory (66 * j) bytes)
      ∙ ap (λ (s : List ℕ). records_in j (overwritten memory (66 * j) bytes) ++ decoded s ∷ []) (piece-overwritten_same 66 j memory bytes wide fits)
      ∙ ap (λ (ps : List (List ℕ)). map decoded ps ++ decoded bytes ∷ [])
      (pieces_same 66 j memory (overwritten memory (66 * j) bytes) (λ k lt. piece-overwritten_other 66 j memory bytes wide fits k (λ e. omega arith)))

  -- what holds of the first j slots and of the new bytes holds of the first j + 1
  pub slots_put : (P : List ℕ → Type 0) → ((k : ℕ) → k < j → P (piece 66 memory k)) → P bytes
      → (k : ℕ) → k < j + 1 → P (piece 66 (overwritten memory (66 * j) bytes) k)
  slots_put P all new k lt = ⊎_elim here below (cases_eq k j)
    where
      here : k ≡ j → P (piece 66 (overwritten memory (66 * j) bytes) k)
      here e = subst P (sym (ap (piece 66 (overwritten memory (66 * j) bytes)) e ∙ piece-overwritten_same 66 j memory bytes wide fits)) new

      below : (k ≡ j → ⊥) → P (piece 66 (overwritten memory (66 * j) bytes) k)
      below apart = subst P (sym (piece-overwritten_other 66 j memory bytes wide fits k apart)) (all k (omega (arith, apart)))

-- The index of the first j slots, with slot j noted for the page of its record: the last record of each page among j + 1.
module _ (j : ℕ) (memory bytes : List ℕ) (wide : length bytes ≡ 66) (fits : 66 * j + 66 ≤ length memory) (last : List (Option ℕ)) (inside : (decoded bytes).page < length last) where
  pub noted : (p : ℕ) → get_or (set last (decoded bytes).page (Some j)) p None ≡ cond (eqb (decoded bytes).page p) (Some j) (get_or last p None)
  noted p =
      ⊎_elim
      (λ e.
      ap (λ q. get_or (set last (decoded bytes).page (Some j)) q None) e ∙ get_or-set_same last (decoded bytes).page (Some j) None inside
      ∙ ap (λ b. cond b (Some j) (get_or last p None)) (sym (eq-eqb (decoded bytes).page p (sym e))))
      (λ apart.
      get_or-set_other last (decoded bytes).page p (Some j) None apart
      ∙ ap (λ b. cond b (Some j) (get_or last p None)) (sym (ne_eqb (decoded bytes).page p (λ e. apart (sym e)))))
      (cases_eq p (decoded bytes).page)

  pub last_place-put : (p : ℕ) → last_place (records_in (j + 1) (overwritten memory (66 * j) bytes)) p ≡ cond (eqb (decoded bytes).page p) (Some j) (last_place (records_in j memory) p)
  last_place-put p =
      ap (λ rs. last_place rs p) (records_put j memory bytes wide fits)
      ∙ last_place_push (records_in j memory) (decoded bytes) p
      ∙ ap (λ k. cond (eqb (decoded bytes).page p) (Some k) (last_place (records_in j memory) p)) (length-records_in j memory)

-- slots that are exact, side by side, are the records in the layout
take-piece : (n : ℕ) (memory : List ℕ) → take (66 * (n + 1)) memory ≡ take (66 * n) memory ++ piece 66 memory n
take-piece n memory = ap (λ k. take k memory) e ∙ take-add (66 * n) 66 memory
  where
    e : 66 * (n + 1) ≡ 66 * n + 66
    e = omega arith

pub exact_laid : (n : ℕ) (memory : List ℕ) → Exact n memory → take (66 * n) memory ≡ flat_map encoded (records_in n memory)
exact_laid zero memory exact = refl
exact_laid (suc n) memory exact =
    ap (λ k. take (66 * k) memory) (sym e)
    ∙ take-piece n memory
    ∙ ap (λ (s : List ℕ). take (66 * n) memory ++ s) (exact n (omega arith))
    ∙ ap (λ (s : List ℕ). s ++ encoded (decoded (piece 66 memory n))) (exact_laid n memory (λ k lt. exact k (omega arith)))
    ∙ flat_map_more encoded [] (records_in n memory) (decoded (piece 66 memory n))
    ∙ ap (flat_map encoded) (sym (records_in_more n memory))
    ∙ ap (λ k. flat_map encoded (records_in k memory)) e
  where
    e : n + 1 ≡ suc n
    e = omega arith

pub All-from_Known : (count n : ℕ) (memory : List ℕ) → Known count n memory → AllByRecursion (λ (r : Record). r.page < count) (records_in n memory)
All-from_Known count n memory known =
    All-from_get_or (λ (r : Record). r.page < count) (records_in n memory) (record { page = 0; bytes = blank })
    (λ k lt.
    let l : k < n = omega (arith, length-records_in n memory) in
    subst (λ (r : Record). r.page < count) (sym (get_or-records_in n k memory (record { page = 0; bytes = blank }) l)) (known k l))

pub Known-from_All : (count n : ℕ) (memory : List ℕ) → AllByRecursion (λ (r : Record). r.page < count) (records_in n memory) → Known count n memory
Known-from_All count n memory all k lt =
    subst (λ (r : Record). r.page < count) (get_or-records_in n k memory (record { page = 0; bytes = blank }) lt)
    (All-get_or (λ (r : Record). r.page < count) (records_in n memory) k (record { page = 0; bytes = blank }) (omega (arith, length-records_in n memory)) all)

pub ruleset slot_laws = (length-records_in)
