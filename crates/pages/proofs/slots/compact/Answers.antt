use Rattle.std.proofs.Common.{◌≡◌, ℕ, ◌*◌, ◌<◌, true, false, eqb, get_or, Some, None, Option, sym, ap, ◌∙◌, arith}
use Rattle.std.specs.Option.{option_eq}
use Rattle.std.proofs.lemmas.Bool.{false≢true, eq-eqb, eqb-true}
use Rattle.pages.specs.Pieces.{piece, overwritten}
use Rattle.pages.specs.Log.{decoded}
use Rattle.std.proofs.lemmas.Option.{none-some}
use Rattle.pages.proofs.Compacting.{ends, turn_moved, turn_passed}
use Rattle.pages.proofs.slots.compact.Goals as goal
use Rattle.pages.proofs.slots.compact.Goals.{then-eq, else-eq}

same_place : (o : Option ℕ) (k : ℕ) → true ≡ option_eq eqb o (Some k) → o ≡ Some k
same_place None k h = absurd (false≢true (sym h))
same_place (Some x) k h = ap Some (eqb-true x k (sym h))

other_place : (o : Option ℕ) (k : ℕ) → false ≡ option_eq eqb o (Some k) → o ≡ Some k → ⊥
other_place None k h e = none-some k e
other_place (Some x) k h e = let same : x ≡ k = cc in false≢true (h ∙ eq-eqb x k same)

pub loop-slot-preserved : goal.loop-slot-preserved
loop-slot-preserved c =
    let lt : c.loop-slot.slot < c.args.filled = omega arith in
    let was = c.loop-slot.invariant.compacting in
    let page : c.from-page.result ≡ (decoded (piece 66 c.loop-slot.memory c.loop-slot.slot)).page = cc in
    elim c.if-eq.branch [
      | then-eq w ↦ record {
        compacting =
            turn_moved c.args.memory.now c.args.filled c.loop-slot.slot c.loop-slot.kept c.loop-slot.memory c.loop-slot.last lt was
            c.from-page.result page
            (same_place (get_or c.loop-slot.last c.from-page.result None) c.loop-slot.slot (sym w.if-eq.true ∙ c.eq.ensures))
            (omega arith) c.requires.exact
            (λ k l. omega (arith, c.requires.known k l, c.loop-slot.invariant.wide))
            c.if-eq.kept c.if-eq.memory c.if-eq.last w.kept-is
            (w.memory-is ∙ w.put_piece.ensures ∙ ap (overwritten c.loop-slot.memory (66 * c.loop-slot.kept)) c.piece-filled_slot.ensures) w.last-is;
        wide = c.if-eq.array_long;
      }
      | else-eq w ↦ record {
        compacting =
            turn_passed c.args.memory.now c.args.filled c.loop-slot.slot c.loop-slot.kept c.loop-slot.memory c.loop-slot.last lt was
            c.from-page.result page
            (other_place (get_or c.loop-slot.last c.from-page.result None) c.loop-slot.slot (sym w.if-eq.false ∙ c.eq.ensures))
            c.if-eq.kept c.if-eq.memory c.if-eq.last w.kept-is w.memory-is w.last-is;
        wide = c.if-eq.array_long;
      }
    ]

pub returns-clause-records : goal.returns-clause-records
returns-clause-records c =
    (ends c.args.memory.now c.args.filled c.loop-slot.slot c.loop-slot.kept c.loop-slot.memory c.loop-slot.last (omega arith) c.loop-slot.invariant.compacting).0

pub returns-clause-indexed : goal.returns-clause-indexed
returns-clause-indexed c =
    (ends c.args.memory.now c.args.filled c.loop-slot.slot c.loop-slot.kept c.loop-slot.memory c.loop-slot.last (omega arith) c.loop-slot.invariant.compacting).1
