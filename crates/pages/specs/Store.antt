-- What a page store means: a list of pages of 64 bytes, of which each is read and written whole.
use Rattle.std.specs.Prelude.{◌≡◌, ℕ, ◌*◌, ◌<◌, ◌≤◌, List, [], All, length, take, Result, slice_index_or, slice_set}
use Rattle.std.specs.List.{flat_map}
use Rattle.pages.specs.declared.fault.StoreFault.{StoreFault}
use Rattle.pages.specs.Fault.{Answers}

-- the bytes of one page
abbrev pub Page : Type 0
Page = List ℕ

-- at most 4,096 pages, each of 64 bytes
pub record Shaped (pages : List Page) : Type 0 where
  pub few : length pages ≤ 4096
  pub wide : All (λ page. length page ≡ 64) pages

-- Reading page p fills the buffer with its bytes.
abbrev pub Reads : List Page → ℕ → List ℕ → List ℕ → Result Unit StoreFault → Type 0
Reads pages p before after = Answers (length before ≡ 64) (p < length pages) (after ≡ slice_index_or pages p []) (after ≡ before)

-- Writing page p makes it the buffer's bytes, and every other page stays.
abbrev pub Writes : List Page → ℕ → List ℕ → List Page → Result Unit StoreFault → Type 0
Writes pages p bytes pages' = Answers (length bytes ≡ 64) (p < length pages) (pages' ≡ slice_set pages p bytes) (pages' ≡ pages)

-- An export of k pages fills the buffer with the first k pages, one after the other.
abbrev pub Exports : List Page → ℕ → List ℕ → List ℕ → Result Unit StoreFault → Type 0
Exports pages k before after =
    Answers (length before ≡ 64 * k) (k ≤ length pages) (after ≡ flat_map (λ page. page) (take k pages)) (after ≡ before)
