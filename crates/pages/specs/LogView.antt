-- A log store as its reader sees it: memory, records and pages, and what a write does to them.
use Rattle.std.specs.Prelude.{◌≡◌, ℕ, ◌<◌, List, [], ◌∷◌, ◌++◌, length, None, Result, slice_index_or}
use Rattle.std.specs.Borrow.{MutBor}
use Rattle.pages.specs.declared.fault.StoreFault.{StoreFault}
use Rattle.pages.specs.declared.log.LogStore.{LogStore}
use Rattle.pages.specs.Fault.{Answers}
use Rattle.pages.specs.declared.record.Record.{Record}
use Rattle.pages.specs.Log.{slots_in, records_in, log_pages, LaidOut, RoomMade}
use Rattle.pages.specs.Memory.{KeepsMemory}
use Rattle.pages.specs.Records.{Located}
use Rattle.pages.specs.Store.{Page}

-- the store's loan of its memory, and the memory's bytes
abbrev pub loan_of : LogStore → MutBor (List ℕ)
loan_of store = store.memory

abbrev pub memory_of : LogStore → List ℕ
memory_of store = (loan_of store).now

-- the records in the filled slots
abbrev pub records_of : LogStore → List Record
records_of store = records_in store.filled (memory_of store)

-- the pages: the content of each
abbrev pub pages_of : LogStore → List Page
pages_of store = log_pages store.filled (memory_of store)

-- The index has for each page the place of its last record.
abbrev pub IndexRight : LogStore → Type 0
IndexRight store = (p : ℕ) → Located (records_of store) p (slice_index_or store.last p None)

-- One more record, appended to what a full log keeps or to all records, and the filled slots are the records in the layout.
abbrev pub Appended : LogStore → ℕ → Page → LogStore → Type 0
Appended store p bytes store' =
    ((kept : List Record) × RoomMade (slots_in (length (memory_of store))) (records_of store) kept
    × (records_of store' ≡ kept ++ record { page = p; bytes = bytes } ∷ [])
    )
    × LaidOut (memory_of store') (records_of store')

-- A write appends its record to the log; a refused one alters nothing.
abbrev pub LogWrites : LogStore → ℕ → List ℕ → LogStore → Result Unit StoreFault → Type 0
LogWrites store p bytes store' =
    Answers (length bytes ≡ 64) (p < length (pages_of store)) (Appended store p bytes store')
    ((memory_of store' ≡ memory_of store) × (records_of store' ≡ records_of store))

-- The memory is the one that was lent and as long as it was, and its bytes past the last slot are as they were.
abbrev pub SameMemory : LogStore → LogStore → Type 0
SameMemory store store' = KeepsMemory 66 8192 (loan_of store) (loan_of store')
