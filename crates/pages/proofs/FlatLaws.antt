-- The flat store's pages by its memory: where they lie, and what a write of one leaves.
use Rattle.std.proofs.Common.{◌≡◌, ℕ, ◌*◌, ◌<◌, List, [], length, get_or, set, ap, ◌∙◌, arith}
use Rattle.std.proofs.lemmas.List.Elements.{All-from_get_or}
use Rattle.pages.specs.Store.{Shaped}
use Rattle.pages.specs.Pieces.{piece, pieces, overwritten}
use Rattle.pages.specs.Flat.{flat_count, flat_pages}
use Rattle.pages.proofs.Pieces.{length-pieces, get_or-pieces, length-piece, pieces-overwritten, whole_piece_fits, length-overwritten_piece, past_last-overwritten}

pub length-flat_pages : (memory : List ℕ) → length (flat_pages memory) ≡ flat_count (length memory)
length-flat_pages memory = length-pieces 64 (flat_count (length memory)) memory

pub get_or-flat_pages : (memory : List ℕ) (p : ℕ) → p < flat_count (length memory) → get_or (flat_pages memory) p [] ≡ piece 64 memory p
get_or-flat_pages memory p lt = get_or-pieces 64 (flat_count (length memory)) p memory lt

pub flat_shaped : (memory : List ℕ) → Shaped (flat_pages memory)
flat_shaped memory = record {
  few = omega (arith, length-flat_pages memory);
  wide =
      All-from_get_or (λ (page : List ℕ). length page ≡ 64) (flat_pages memory) []
      (λ p l.
      let lt : p < flat_count (length memory) = omega (arith, length-flat_pages memory) in
      ap length (get_or-flat_pages memory p lt) ∙ length-piece 64 p memory (whole_piece_fits 64 4096 p (length memory) lt));
}

pub flat_pages-overwritten : (memory : List ℕ) (p : ℕ) (bytes : List ℕ) → length bytes ≡ 64 → p < flat_count (length memory)
    → flat_pages (overwritten memory (64 * p) bytes) ≡ set (flat_pages memory) p bytes
flat_pages-overwritten memory p bytes wide lt =
    ap (λ n. pieces 64 (flat_count n) (overwritten memory (64 * p) bytes)) (length-overwritten_piece 64 4096 p memory bytes wide lt)
    ∙ pieces-overwritten 64 p memory bytes wide (whole_piece_fits 64 4096 p (length memory) lt) (flat_count (length memory)) lt

pub ruleset flat_laws = (length-flat_pages, get_or-flat_pages, flat_pages-overwritten, past_last-overwritten)
