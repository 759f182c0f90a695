-- Memory as pieces of one width, one after the other: piece k begins at byte width × k.
use Rattle.std.specs.Prelude.{ℕ, ◌+◌, ◌*◌, ◌/◌, min, List, ◌++◌, map, length, take, drop}
use Rattle.std.specs.List.{range_with_len}

-- piece k of the memory
abbrev pub piece : ℕ → List ℕ → ℕ → List ℕ
piece width memory k = take width (drop (width * k) memory)

-- the first n pieces
abbrev pub pieces : ℕ → ℕ → List ℕ → List (List ℕ)
pieces width n memory = map (piece width memory) (range_with_len 0 n)

-- the memory with `bytes` in place of as many bytes from `at` on, for which it has room; every other byte stays
abbrev pub overwritten : List ℕ → ℕ → List ℕ → List ℕ
overwritten memory at bytes = take at memory ++ (bytes ++ drop (at + length bytes) memory)

-- how many whole pieces n bytes hold, at most `most`
abbrev pub whole_pieces : ℕ → ℕ → ℕ → ℕ
whole_pieces width most n = min (n / width) most

-- the bytes past the last piece
abbrev pub past_last : ℕ → ℕ → List ℕ → List ℕ
past_last width most memory = drop (width * whole_pieces width most (length memory)) memory
