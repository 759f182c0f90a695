-- Records of page writes, in the order in which they came: a page's last record is its content.
use Rattle.std.specs.Prelude.{◌≡◌, ℕ, suc, ◌<◌, Bool, if◌then◌else◌, ◌⊎◌, List, [], ◌∷◌, All, Contains, map, length, replicate, Some, None, Option, ◌==◌, ◌≢◌, slice_index_or}
use Rattle.std.specs.List.{range_with_len}
use Rattle.std.specs.List.Sorted.{IsStrictlyIncreasing}
use Rattle.pages.specs.declared.record.Record.{Record}
use Rattle.pages.specs.Store.{Page}

-- a page that was never written: 64 zero bytes
abbrev pub blank : Page
blank = replicate 64 0

-- the record at place k, and a blank one past the end
abbrev pub record_at : List Record → ℕ → Record
record_at records k = slice_index_or records k (record { page = 0; bytes = blank })

-- a place in the rest of the records, seen from the record before it, which may name the page itself
abbrev pub after : Bool → Option ℕ → Option ℕ
after here (Some k) = Some (suc k)
after here None = if here then Some 0 else None

-- the place of a page's last record, if it has one (`Located`, below, says what that is)
abbrev pub last_place : List Record → ℕ → Option ℕ
last_place [] p = None
last_place (r ∷ rs) p = after (r.page == p) (last_place rs p)

-- the bytes of the record at a place, and of a page without one
abbrev pub bytes_at : List Record → Option ℕ → Page
bytes_at records (Some k) = (record_at records k).bytes
bytes_at records None = blank

-- a page's content (`Content`, below, says what that is)
abbrev pub content : List Record → ℕ → Page
content records p = bytes_at records (last_place records p)

-- the first n pages
abbrev pub contents : ℕ → List Record → List Page
contents n records = map (content records) (range_with_len 0 n)

-- a record is kept unless a later one names its page
abbrev pub unless_later : Option ℕ → Record → List Record → List Record
unless_later (Some k) r kept = kept
unless_later None r kept = r ∷ kept

-- the last record of each page, in their order (`LastOfEach`, below, says what that is)
abbrev pub compacted : List Record → List Record
compacted [] = []
compacted (r ∷ rs) = unless_later (last_place rs r.page) r (compacted rs)

-- Place k holds a record of page p, and no later place does.
abbrev pub IsLast : List Record → ℕ → ℕ → Type 0
IsLast records p k =
    (k < length records) × ((record_at records k).page ≡ p)
    × ((j : ℕ) → k < j → j < length records → (record_at records j).page ≢ p)

-- No record is of page p.
abbrev pub Unwritten : List Record → ℕ → Type 0
Unwritten records p = (j : ℕ) → j < length records → (record_at records j).page ≢ p

-- These are the last records of their pages, one for each page that has a record, in their order.
abbrev pub LastOfEach : List Record → List Record → Type 0
LastOfEach records kept =
    (places : List ℕ) × IsStrictlyIncreasing places
    × All (λ k. IsLast records (record_at records k).page k) places
    × ((k : ℕ) → IsLast records (record_at records k).page k → Contains places k)
    × (kept ≡ map (record_at records) places)

-- Page p holds these bytes: those of its last record or, where it has none, zeros.
abbrev pub Content : List Record → ℕ → Page → Type 0
Content records p bytes =
    ((k : ℕ) × IsLast records p k × (bytes ≡ (record_at records k).bytes))
    ⊎ (Unwritten records p × (bytes ≡ blank))

-- This is the place of page p's last record, or none where it has no record.
abbrev pub Located : List Record → ℕ → Option ℕ → Type 0
Located records p (Some k) = IsLast records p k
Located records p None = Unwritten records p
