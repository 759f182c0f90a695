-- The flat store's layout: page p lies at byte 64 × p of the memory.
use Rattle.std.specs.Prelude.{◌≡◌, ℕ, ◌*◌, ◌<◌, List, length, Result}
use Rattle.std.specs.Borrow.{MutBor}
use Rattle.pages.specs.declared.fault.StoreFault.{StoreFault}
use Rattle.pages.specs.declared.flat.FlatStore.{FlatStore}
use Rattle.pages.specs.Fault.{Answers}
use Rattle.pages.specs.Memory.{KeepsMemory}
use Rattle.pages.specs.Pieces.{pieces, overwritten, whole_pieces}
use Rattle.pages.specs.Store.{Page}

-- how many pages n bytes of memory hold
abbrev pub flat_count : ℕ → ℕ
flat_count n = whole_pieces 64 4096 n

-- the pages that the memory holds
abbrev pub flat_pages : List ℕ → List Page
flat_pages memory = pieces 64 (flat_count (length memory)) memory

-- the store's loan of its memory, the memory's bytes, and the pages
abbrev pub loan_of : FlatStore → MutBor (List ℕ)
loan_of store = store.memory

abbrev pub memory_of : FlatStore → List ℕ
memory_of store = (loan_of store).now

abbrev pub pages_of : FlatStore → List Page
pages_of store = flat_pages (memory_of store)

-- A write of page p replaces the 64 bytes of the memory from 64 × p on, and no other byte; a refused one alters nothing.
abbrev pub FlatWrites : FlatStore → ℕ → List ℕ → FlatStore → Result Unit StoreFault → Type 0
FlatWrites store p bytes store' =
    Answers (length bytes ≡ 64) (p < length (pages_of store))
    (memory_of store' ≡ overwritten (memory_of store) (64 * p) bytes)
    (memory_of store' ≡ memory_of store)

-- The memory is the one that was lent and as long as it was, and its bytes past the last page are as they were.
abbrev pub SameMemory : FlatStore → FlatStore → Type 0
SameMemory store store' = KeepsMemory 64 4096 (loan_of store) (loan_of store')
