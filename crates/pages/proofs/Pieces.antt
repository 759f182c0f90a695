-- Laws of memory in pieces, at every width: where a piece lies, and what a write to one leaves.
use Rattle.std.proofs.Common.{◌≡◌, ℕ, zero, suc, ◌+◌, ◌*◌, ◌/◌, ◌<◌, ◌≤◌, List, [], ◌++◌, length, get_or, take, drop, set, sym, ap, ◌∙◌, subst, ⊎_elim, mul-le-mul_left, zero-add, mul-suc, mul-zero, mul_comm, div-mul-le_self, le-div_iff_mul-le, arith}
use borrow.Rule.Slice.PartMut.{put_mid}
use Rattle.std.proofs.lemmas.List.FromFn.{length-map-range_with_len, get_or-map-range_with_len}
use Rattle.std.proofs.lemmas.List.{length-take, length-drop, length-append, length-set, drop-drop, drop-take, drop_at, take_at, length-take-le, ext_get_or, get_or-set_same, get_or-set_other}
use Rattle.std.proofs.lemmas.Slice.{take-put_mid_below, drop-put_mid}
use Rattle.std.proofs.lemmas.Bool.{cases_eq, cases_order}
use Rattle.std.specs.Simd.{first_chunks}
use Rattle.pages.specs.Pieces.{piece, pieces, overwritten, whole_pieces, past_last}

-- a piece ends where the next begins
pub piece_ends : (width k j : ℕ) → k < j → width * k + width ≤ width * j
piece_ends width k j lt =
    let e : width * suc k ≡ width * k + width = mul-suc width k in
    subst (λ n. n ≤ width * j) e (mul-le-mul_left width lt)

pub length-pieces : (width n : ℕ) (memory : List ℕ) → length (pieces width n memory) ≡ n
length-pieces width n memory = length-map-range_with_len (piece width memory) 0 n

pub get_or-pieces : (width n k : ℕ) (memory : List ℕ) → k < n → get_or (pieces width n memory) k [] ≡ piece width memory k
get_or-pieces width n k memory lt = get_or-map-range_with_len (piece width memory) 0 n k k [] lt (zero-add k)

pub length-piece : (width k : ℕ) (memory : List ℕ) → width * k + width ≤ length memory → length (piece width memory k) ≡ width
length-piece width k memory fits = simp (length-take, length-drop) (omega arith)

-- the chunks that a slice falls into are its pieces
pub get_or-first_chunks : (width n k : ℕ) (memory d : List ℕ) → k < n → get_or (first_chunks width n memory) k d ≡ piece width memory k
get_or-first_chunks width zero k memory d lt = absurd (omega arith)
get_or-first_chunks width (suc n) zero memory d lt = ap (λ j. take width (drop j memory)) (sym (mul-zero width))
get_or-first_chunks width (suc n) (suc k) memory d lt =
    get_or-first_chunks width n k (drop width memory) d (omega arith)
    ∙ ap (take width) (drop-drop (width * k) width memory ∙ ap (λ j. drop j memory) (let e : width + width * k ≡ width * suc k = omega (arith, mul-suc width k) in e))

-- what a slice's write to `at..at + k` leaves, in the words of the definitions
pub put_mid-overwritten : (at k : ℕ) (memory bytes : List ℕ) → length bytes ≡ k → put_mid at k memory bytes ≡ overwritten memory at bytes
put_mid-overwritten at k memory bytes e =
    ap (λ rest. take at memory ++ (bytes ++ rest)) (drop-drop k at memory ∙ ap (λ n. drop (at + n) memory) (sym e))

pub length-overwritten : (at : ℕ) (memory bytes : List ℕ) → at + length bytes ≤ length memory → length (overwritten memory at bytes) ≡ length memory
length-overwritten at memory bytes fits = simp (length-append, length-take, length-drop) (omega arith)

module _ (width j : ℕ) (memory bytes : List ℕ) (wide : length bytes ≡ width) (fits : width * j + width ≤ length memory) where
  pub piece-overwritten_same : piece width (overwritten memory (width * j) bytes) j ≡ bytes
  piece-overwritten_same =
      ap (take width) (drop_at (take (width * j) memory) (bytes ++ drop (width * j + length bytes) memory) (width * j) (length-take-le (width * j) memory (omega arith)))
      ∙ take_at bytes (drop (width * j + length bytes) memory) width wide

  piece-overwritten_below : (k : ℕ) → k < j → piece width (overwritten memory (width * j) bytes) k ≡ piece width memory k
  piece-overwritten_below k lt =
      let e = piece_ends width k j lt in
      let put = put_mid-overwritten (width * j) width memory bytes wide in
      ap (λ m. piece width m k) (sym put)
      ∙ sym (drop-take (width * k) width (put_mid (width * j) width memory bytes))
      ∙ ap (drop (width * k)) (take-put_mid_below (width * j) width memory bytes (width * k + width) e (omega arith))
      ∙ drop-take (width * k) width memory

  piece-overwritten_above : (k : ℕ) → j < k → piece width (overwritten memory (width * j) bytes) k ≡ piece width memory k
  piece-overwritten_above k lt =
      let e = piece_ends width j k lt in
      let put = put_mid-overwritten (width * j) width memory bytes wide in
      ap (λ m. piece width m k) (sym put)
      ∙ ap (take width) (drop-put_mid (width * j) width memory bytes (width * k) e (omega arith) wide)

  pub piece-overwritten_other : (k : ℕ) → (k ≡ j → ⊥) → piece width (overwritten memory (width * j) bytes) k ≡ piece width memory k
  piece-overwritten_other k apart =
      ⊎_elim (λ e. absurd (apart e)) (⊎_elim (piece-overwritten_below k) (piece-overwritten_above k)) (cases_order k j)

  -- a write of piece j sets it, and no other
  pub pieces-overwritten : (n : ℕ) → j < n → pieces width n (overwritten memory (width * j) bytes) ≡ set (pieces width n memory) j bytes
  pieces-overwritten n lt =
      let after : List ℕ = overwritten memory (width * j) bytes in
      ext_get_or [] (pieces width n after) (set (pieces width n memory) j bytes)
      (length-pieces width n after ∙ sym (length-pieces width n memory) ∙ sym (length-set (pieces width n memory) j bytes))
      (λ k l0.
      let l : k < n = omega (arith, length-pieces width n after) in
      get_or-pieces width n k after l
      ∙ ⊎_elim
      (λ e.
      ap (piece width after) e ∙ piece-overwritten_same
      ∙ sym (get_or-set_same (pieces width n memory) j bytes [] (omega (arith, length-pieces width n memory)))
      ∙ ap (λ i. get_or (set (pieces width n memory) j bytes) i []) (sym e))
      (λ apart.
      piece-overwritten_other k apart ∙ sym (get_or-pieces width n k memory l)
      ∙ sym (get_or-set_other (pieces width n memory) j k bytes [] apart))
      (cases_eq k j))

-- memories that agree piece by piece
pub pieces_same : (width n : ℕ) (memory memory' : List ℕ) → ((k : ℕ) → k < n → piece width memory' k ≡ piece width memory k) → pieces width n memory' ≡ pieces width n memory
pieces_same width n memory memory' same =
    ext_get_or [] (pieces width n memory') (pieces width n memory)
    (length-pieces width n memory' ∙ sym (length-pieces width n memory))
    (λ k l0.
    let l : k < n = omega (arith, length-pieces width n memory') in
    get_or-pieces width n k memory' l ∙ same k l ∙ sym (get_or-pieces width n k memory l))

-- a piece that lies within the memory is one of its whole pieces
pub piece_within : (width k n : ℕ) → 0 < width → width * k + width ≤ n → k < n / width
piece_within width k n wide fits =
    let e : suc k * width ≤ n = omega (arith, fits, mul-suc width k, mul_comm (suc k) width) in
    (le-div_iff_mul-le wide).1 e

-- a whole piece ends within the memory
pub whole_piece_fits : (width most k n : ℕ) → k < whole_pieces width most n → width * k + width ≤ n
whole_piece_fits width most k n lt =
    let some : suc k ≤ n / width = omega arith in
    let ends : width * suc k ≤ width * (n / width) = mul-le-mul_left width some in
    omega (arith, ends, mul-suc width k, mul_comm width (n / width), div-mul-le_self n width)

pub length-overwritten_piece : (width most k : ℕ) (memory bytes : List ℕ) → length bytes ≡ width → k < whole_pieces width most (length memory)
    → length (overwritten memory (width * k) bytes) ≡ length memory
length-overwritten_piece width most k memory bytes wide lt =
    length-overwritten (width * k) memory bytes (omega (arith, wide, whole_piece_fits width most k (length memory) lt))

-- a write of a whole piece leaves the bytes past the last one
pub past_last-overwritten : (width most k : ℕ) (memory bytes : List ℕ) → length bytes ≡ width → k < whole_pieces width most (length memory)
    → past_last width most (overwritten memory (width * k) bytes) ≡ past_last width most memory
past_last-overwritten width most k memory bytes wide lt =
    let count = whole_pieces width most (length memory) in
    ap (λ n. drop (width * whole_pieces width most n) (overwritten memory (width * k) bytes)) (length-overwritten_piece width most k memory bytes wide lt)
    ∙ ap (drop (width * count)) (sym (put_mid-overwritten (width * k) width memory bytes wide))
    ∙ drop-put_mid (width * k) width memory bytes (width * count) (piece_ends width k count lt) (omega (arith, whole_piece_fits width most k (length memory) lt)) wide
