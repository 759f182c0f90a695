-- What the program does to a book, as a list of pages.
use Rattle.std.specs.Prelude.{ℕ, ◌+◌, ◌*◌, ◌/◌, ◌%◌, Bool, List, [], ◌++◌, length, drop, ◌==◌, slice_index_or, slice_set}
use Rattle.std.specs.List.{starts_with}
use Rattle.std.specs.Simd.{first_chunks}
use Rattle.pages.specs.Pieces.{overwritten}
use Rattle.pages.specs.Store.{Page}

-- a book copied over the front of another
abbrev pub copied : List Page → List Page → List Page
copied book onto = book ++ drop (length book) onto

-- A row has 16 bytes, four to a page: its page with another price in the last 8 of them.
abbrev pub repriced : List Page → ℕ → List ℕ → List Page
repriced book row price = slice_set book (row / 4) (overwritten (slice_index_or book (row / 4) []) (row % 4 * 16 + 8) price)

-- the whole rows of a book's bytes
abbrev pub rows_of : List ℕ → List (List ℕ)
rows_of book = first_chunks 16 (length book / 16) book

-- whether a row begins with an article's cell
abbrev pub begins : List ℕ → List ℕ → Bool
begins article row = starts_with (λ a b. a == b) row article
