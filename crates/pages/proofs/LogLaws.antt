-- The log store's pages by its filled slots: what they are, and what an append and a compaction leave.
use Rattle.std.proofs.Common.{◌≡◌, ℕ, ◌+◌, ◌-◌, ◌*◌, ◌<◌, ◌≤◌, cond, eqb, List, [], ◌∷◌, ◌++◌, length, get_or, take, drop, set, Some, None, Option, sym, ap, ◌∙◌, subst, ⊎_elim, zero-add, arith}
use Rattle.std.specs.List.{AllByRecursion}
use Rattle.std.proofs.lemmas.List.FromFn.{length-map-range_with_len, get_or-map-range_with_len}
use Rattle.std.proofs.lemmas.List.Elements.{All-from_get_or}
use Rattle.std.proofs.lemmas.List.{ext_get_or, length-drop, length-set, get_or-set_same, get_or-set_other}
use Rattle.std.proofs.lemmas.Bool.{cases_eq, eq-eqb, ne_eqb}
use Rattle.pages.specs.Store.{Shaped}
use Rattle.pages.specs.Pieces.{piece, overwritten}
use Rattle.pages.specs.declared.record.Record.{Record}
use Rattle.pages.specs.declared.log.LogStore.{LogStore}
use Rattle.pages.specs.LogView.{memory_of, pages_of}
use Rattle.pages.specs.Records.{blank, record_at, bytes_at, last_place, content, compacted, Content, Located}
use Rattle.pages.specs.Log.{slots_in, log_count, encoded, decoded, records_in, log_pages, Exact, Known, Indexes, LaidOut}
use Rattle.pages.proofs.Pieces.{length-piece, length-overwritten_piece, whole_piece_fits}
use Rattle.pages.proofs.OneEach.{compacted_few}
use Rattle.pages.proofs.RecordBytes.{decoded-encoded, length-encoded}
use Rattle.pages.proofs.RecordLaws.{either, last_place_is, last_place_located, content_is, content_push, content-compacted, All-compacted}
use Rattle.pages.proofs.SlotLaws.{length-records_in, get_or-records_in, records_put, slots_put, noted, last_place-put, exact_laid, All-from_Known, Known-from_All}

pub length-log_pages : (filled : ℕ) (memory : List ℕ) → length (log_pages filled memory) ≡ log_count (length memory)
length-log_pages filled memory = length-map-range_with_len (content (records_in filled memory)) 0 (log_count (length memory))

pub ruleset log_laws = (length-map-range_with_len)

pub log_at : (filled : ℕ) (memory : List ℕ) (p : ℕ) → p < log_count (length memory) → get_or (log_pages filled memory) p [] ≡ content (records_in filled memory) p
log_at filled memory p lt = get_or-map-range_with_len (content (records_in filled memory)) 0 (log_count (length memory)) p p [] lt (zero-add p)

-- the bytes of the record in a filled slot
pub slot_bytes : (filled k : ℕ) (memory : List ℕ) → k < filled → (record_at (records_in filled memory) k).bytes ≡ drop 2 (piece 66 memory k)
slot_bytes filled k memory lt = ap (λ (r : Record). r.bytes) (get_or-records_in filled k memory (record { page = 0; bytes = blank }) lt)

module _ (filled : ℕ) (memory : List ℕ) (few : filled ≤ slots_in (length memory)) where
  content_wide : (p : ℕ) → length (content (records_in filled memory) p) ≡ 64
  content_wide p =
      ⊎_elim
      (λ none. ap (λ o. length (bytes_at (records_in filled memory) o)) none)
      (λ some.
      let lt : some.0 < filled = omega (arith, (last_place_is (records_in filled memory) p some.0 some.1).0, length-records_in filled memory) in
      ap (λ o. length (bytes_at (records_in filled memory) o)) some.1
      ∙ ap length (slot_bytes filled some.0 memory lt)
      ∙ length-drop 2 (piece 66 memory some.0)
      ∙ ap (λ n. n - 2) (length-piece 66 some.0 memory (omega arith)))
      (either (last_place (records_in filled memory) p))

  pub log_shaped : Shaped (log_pages filled memory)
  log_shaped = record {
    few = omega (arith, length-log_pages filled memory);
    wide =
        All-from_get_or (λ (page : List ℕ). length page ≡ 64) (log_pages filled memory) [] (λ p lt. ap length (log_at filled memory p (omega (arith, length-log_pages filled memory))) ∙ content_wide p);
  }

pub store_shaped : (store : LogStore) → Shaped (pages_of store)
store_shaped store = log_shaped store.filled (memory_of store) store.few

-- exact slots are the records in the layout
pub log_laid : (filled : ℕ) (memory : List ℕ) → Exact filled memory → LaidOut memory (records_in filled memory)
log_laid filled memory exact = ap (λ n. take (66 * n) memory) (length-records_in filled memory) ∙ exact_laid filled memory exact

-- one more record sets its page, and no other
pub log_pages-push : (filled filled' : ℕ) (memory memory' : List ℕ) (r : Record) → length memory' ≡ length memory → r.page < log_count (length memory)
    → records_in filled' memory' ≡ records_in filled memory ++ r ∷ []
    → log_pages filled' memory' ≡ set (log_pages filled memory) r.page r.bytes
log_pages-push filled filled' memory memory' r same inside appended =
    ext_get_or [] (log_pages filled' memory') (set (log_pages filled memory) r.page r.bytes)
    (size ∙ sym (length-log_pages filled memory) ∙ sym (length-set (log_pages filled memory) r.page r.bytes))
    (λ q l0.
    let l : q < log_count (length memory) = omega (arith, size) in
    let l' : q < log_count (length memory') = omega (arith, length-log_pages filled' memory') in
    log_at filled' memory' q l' ∙ ap (λ rs. content rs q) appended
    ∙ content_push (records_in filled memory) r q
    ∙ ⊎_elim
    (λ e.
    ap (λ b. cond b r.bytes (content (records_in filled memory) q)) (eq-eqb r.page q (sym e))
    ∙ sym (ap (λ i. get_or (set (log_pages filled memory) r.page r.bytes) i []) e
    ∙ get_or-set_same (log_pages filled memory) r.page r.bytes [] (omega (arith, length-log_pages filled memory))))
    (λ apart.
    ap (λ b. cond b r.bytes (content (records_in filled memory) q)) (ne_eqb r.page q (λ e. apart (sym e)))
    ∙ sym (get_or-set_other (log_pages filled memory) r.page q r.bytes [] apart ∙ log_at filled memory q l))
    (cases_eq q r.page))
  where
    size : length (log_pages filled' memory') ≡ log_count (length memory)
    size = length-log_pages filled' memory' ∙ ap log_count same

-- the last record of each page leaves every page
pub log_pages-compacted : (filled filled' : ℕ) (memory memory' : List ℕ) → length memory' ≡ length memory
    → records_in filled' memory' ≡ compacted (records_in filled memory) → log_pages filled' memory' ≡ log_pages filled memory
log_pages-compacted filled filled' memory memory' same moved =
    ext_get_or [] (log_pages filled' memory') (log_pages filled memory)
    (length-log_pages filled' memory' ∙ ap log_count same ∙ sym (length-log_pages filled memory))
    (λ q l0.
    let l' : q < log_count (length memory') = omega (arith, length-log_pages filled' memory') in
    let l : q < log_count (length memory) = subst (λ n. q < log_count n) same l' in
    log_at filled' memory' q l' ∙ ap (λ rs. content rs q) moved ∙ content-compacted (records_in filled memory) q ∙ sym (log_at filled memory q l))

-- a record put into the next slot
module _ (memory : List ℕ) (filled : ℕ) (last : List (Option ℕ)) (r : Record) (wide : length r.bytes ≡ 64)
    (room : filled < slots_in (length memory)) where
  fits : 66 * filled + 66 ≤ length memory
  fits = whole_piece_fits 66 8192 filled (length memory) room

  pub put_length : length (overwritten memory (66 * filled) (encoded r)) ≡ length memory
  put_length = length-overwritten_piece 66 8192 filled memory (encoded r) (length-encoded r wide) room

  pub put_records : records_in (filled + 1) (overwritten memory (66 * filled) (encoded r)) ≡ records_in filled memory ++ r ∷ []
  put_records =
      records_put filled memory (encoded r) (length-encoded r wide) fits
      ∙ ap (λ (x : Record). records_in filled memory ++ x ∷ []) (decoded-encoded r)

  pub put_exact : Exact filled memory → Exact (filled + 1) (overwritten memory (66 * filled) (encoded r))
  put_exact exact =
      slots_put filled memory (encoded r) (length-encoded r wide) fits (λ (s : List ℕ). s ≡ encoded (decoded s)) exact
      (ap encoded (sym (decoded-encoded r)))

  pub put_known : r.page < log_count (length memory) → Known (log_count (length memory)) filled memory
      → Known (log_count (length memory)) (filled + 1) (overwritten memory (66 * filled) (encoded r))
  put_known inside known =
      slots_put filled memory (encoded r) (length-encoded r wide) fits (λ (s : List ℕ). (decoded s).page < log_count (length memory)) known
      (subst (λ (x : Record). x.page < log_count (length memory)) (sym (decoded-encoded r)) inside)

  pub put_indexed : r.page < length last → Indexes last (records_in filled memory)
      → Indexes (set last r.page (Some filled)) (records_in (filled + 1) (overwritten memory (66 * filled) (encoded r)))
  put_indexed inside indexed p =
      let same : decoded (encoded r) ≡ r = decoded-encoded r in
      ap (λ (x : Record). get_or (set last x.page (Some filled)) p None) (sym same)
      ∙ noted filled memory (encoded r) (length-encoded r wide) fits last (subst (λ (x : Record). x.page < length last) (sym same) inside) p
      ∙ ap (cond (eqb (decoded (encoded r)).page p) (Some filled)) (indexed p)
      ∙ sym (last_place-put filled memory (encoded r) (length-encoded r wide) fits last (subst (λ (x : Record). x.page < length last) (sym same) inside) p)

  -- what the store keeps, over the values that a write leaves
  pub put_kept : (memory' : List ℕ) (p : ℕ) → memory' ≡ overwritten memory (66 * filled) (encoded r) → p ≡ r.page → r.page < log_count (length memory)
      → length last ≡ 4096 → Exact filled memory → Known (log_count (length memory)) filled memory → Indexes last (records_in filled memory)
      → (filled + 1 ≤ slots_in (length memory')) × (length (set last p (Some filled)) ≡ 4096) × Exact (filled + 1) memory'
      × Known (log_count (length memory')) (filled + 1) memory' × Indexes (set last p (Some filled)) (records_in (filled + 1) memory')
  put_kept memory' p put named inside wide-index exact known indexed =
      let size : length memory' ≡ length memory = ap length put ∙ put_length in (
        omega (arith, room),
        length-set last p (Some filled) ∙ wide-index,
        subst (Exact (filled + 1)) (sym put) (put_exact exact),
        subst (λ n. Known (log_count n) (filled + 1) memory') (sym size)
            (subst (Known (log_count (length memory)) (filled + 1)) (sym put) (put_known inside known)),
        subst (λ m. Indexes (set last p (Some filled)) (records_in (filled + 1) m)) (sym put)
            (subst (λ q. Indexes (set last q (Some filled)) (records_in (filled + 1) (overwritten memory (66 * filled) (encoded r)))) (sym named)
            (put_indexed (omega (arith, wide-index)) indexed)),
      )

-- a compacted log
module _ (count filled kept : ℕ) (memory memory' : List ℕ) (known : Known count filled memory)
    (moved : records_in kept memory' ≡ compacted (records_in filled memory)) where
  pub compact_few : kept ≤ count
  compact_few = omega (arith, compacted_few count (records_in filled memory) (All-from_Known count filled memory known), length-records_in kept memory', ap length moved)

  pub compact_known : Known count kept memory'
  compact_known =
      Known-from_All count kept memory'
      (subst (AllByRecursion (λ (r : Record). r.page < count)) (sym moved)
      (All-compacted (λ (r : Record). r.page < count) (records_in filled memory) (All-from_Known count filled memory known)))

-- where the index leads is the page's content
module _ (filled : ℕ) (memory : List ℕ) (last : List (Option ℕ)) (indexed : Indexes last (records_in filled memory)) (p : ℕ) where
  pub index_below : (k : ℕ) → get_or last p None ≡ Some k → k < filled
  index_below k e = omega (arith, (last_place_is (records_in filled memory) p k (sym (indexed p) ∙ e)).0, length-records_in filled memory)

  pub index_some : (k : ℕ) → get_or last p None ≡ Some k → drop 2 (piece 66 memory k) ≡ content (records_in filled memory) p
  index_some k e =
      sym (ap (bytes_at (records_in filled memory)) (sym (indexed p) ∙ e) ∙ slot_bytes filled k memory (index_below k e))

  pub index_none : get_or last p None ≡ None → blank ≡ content (records_in filled memory) p
  index_none e = sym (ap (bytes_at (records_in filled memory)) (sym (indexed p) ∙ e))

-- an answer that is the page's content, as the contract of a read has it
pub log_reads : (filled : ℕ) (memory : List ℕ) (p : ℕ) (bytes : List ℕ) → p < length (log_pages filled memory) → bytes ≡ content (records_in filled memory) p
    → (bytes ≡ get_or (log_pages filled memory) p []) × Content (records_in filled memory) p bytes
log_reads filled memory p bytes lt e = (
  e ∙ sym (log_at filled memory p (omega (arith, length-log_pages filled memory))),
  subst (Content (records_in filled memory) p) (sym e) (content_is (records_in filled memory) p),
)

-- the index, in the words of the relation
pub index_right : (filled : ℕ) (memory : List ℕ) (last : List (Option ℕ)) → Indexes last (records_in filled memory)
    → (p : ℕ) → Located (records_in filled memory) p (get_or last p None)
index_right filled memory last indexed p = subst (Located (records_in filled memory) p) (sym (indexed p)) (last_place_located (records_in filled memory) p)
