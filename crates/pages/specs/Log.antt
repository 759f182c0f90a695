-- The log store's layout: slots of 66 bytes, each a page number in two bytes, low byte first, and then the page.
use Rattle.std.specs.Prelude.{◌≡◌, ℕ, ◌+◌, ◌*◌, ◌/◌, ◌%◌, ◌<◌, ◌⊎◌, List, ◌∷◌, map, length, take, drop, None, Option, slice_index, slice_index_or}
use Rattle.std.specs.List.{flat_map}
use Rattle.pages.specs.Pieces.{piece, pieces, whole_pieces}
use Rattle.pages.specs.declared.record.Record.{Record}
use Rattle.pages.specs.Records.{contents, last_place, LastOfEach}
use Rattle.pages.specs.Store.{Page}

-- how many slots n bytes of memory hold
abbrev pub slots_in : ℕ → ℕ
slots_in n = whole_pieces 66 8192 n

-- how many pages: half as many as slots, so that a compacted log has room for one more record
abbrev pub log_count : ℕ → ℕ
log_count n = slots_in n / 2

-- a record's 66 bytes: the page number, low byte first, and then the page
abbrev pub encoded : Record → List ℕ
encoded r = r.page % 256 ∷ (r.page / 256 ∷ r.bytes)

-- the record that 66 bytes stand for
abbrev pub decoded : List ℕ → Record
decoded slot = record { page = slice_index slot 0 + slice_index slot 1 * 256; bytes = drop 2 slot }

-- the records in the first n slots
abbrev pub records_in : ℕ → List ℕ → List Record
records_in n memory = map decoded (pieces 66 n memory)

-- the pages of a log whose first n slots are filled
abbrev pub log_pages : ℕ → List ℕ → List Page
log_pages n memory = contents (log_count (length memory)) (records_in n memory)

-- Each of the first n slots holds the bytes of the record that it stands for.
abbrev pub Exact : ℕ → List ℕ → Type 0
Exact n memory = (k : ℕ) → k < n → piece 66 memory k ≡ encoded (decoded (piece 66 memory k))

-- Each of the first n slots holds a record of a page below `count`.
abbrev pub Known : ℕ → ℕ → List ℕ → Type 0
Known count n memory = (k : ℕ) → k < n → (decoded (piece 66 memory k)).page < count

-- The index has for each page the place of its last record.
abbrev pub Indexes : List (Option ℕ) → List Record → Type 0
Indexes last records = (p : ℕ) → slice_index_or last p None ≡ last_place records p

-- The memory begins with these records in the layout, one after the other.
abbrev pub LaidOut : List ℕ → List Record → Type 0
LaidOut memory records = take (66 * length records) memory ≡ flat_map encoded records

-- `kept` is what a write appends to: while a slot is left all records are kept,
-- and where every slot is filled the last record of each page is.
abbrev pub RoomMade : ℕ → List Record → List Record → Type 0
RoomMade slots records kept =
    ((length records < slots) × (kept ≡ records)) ⊎ ((length records ≡ slots) × LastOfEach records kept)
