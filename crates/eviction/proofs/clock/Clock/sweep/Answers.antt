use Rattle.std.proofs.Common.{sym, ap, ◌∙◌, arith}
use Rattle.std.proofs.lemmas.Bool.{iff_false}
use Rattle.eviction.specs.Clock.{next}
use Rattle.eviction.proofs.Sweeping.{second_chance}
use Rattle.eviction.proofs.Turning.{turned_pass, turned_clear, turned_take, turned_all}
use Rattle.eviction.proofs.clock.Clock.sweep.Goals as goal
use Rattle.eviction.proofs.clock.Clock.sweep.Goals.{else-contains-via-then-contains+else-not-unmark, else-contains-via-else-contains}

pub returns-then-not-unmark : goal.returns-then-not-unmark
returns-then-not-unmark c =
    let member = c.contains.ensures.0 c.if-contains.true in
    let sweep =
    turned_take c.loop-step.invariant c.advance-place.ensures.place c.advance-place.ensures.marks c.unmark.ensures.marks
    member (sym c.unmark.ensures.was ∙ c.if-not-unmark.true) in
    record {
      member = member;
      after = (sweep, c.unmark.ensures.hand ∙ c.advance-place.ensures.hand ∙ ap next (sym c.advance-place.ensures.place));
      second_chance = second_chance c.args.self.now.round c.args.self.now.wide sweep;
    }

pub loop-step-preserved : goal.loop-step-preserved
loop-step-preserved c =
    elim c.else-contains.branch [
      | else-contains-via-then-contains+else-not-unmark w ↦
          rw w.self-is
          (turned_clear c.loop-step.invariant c.advance-place.ensures.place c.advance-place.ensures.marks w.unmark.ensures.marks
          (w.unmark.ensures.hand ∙ c.advance-place.ensures.hand) c.loop-step.self.wide
          (c.contains.ensures.0 w.if-contains.true) (sym w.unmark.ensures.was ∙ w.if-not-unmark.false))
      | else-contains-via-else-contains w ↦
          rw w.self-is
          (turned_pass c.loop-step.invariant c.advance-place.ensures.place c.advance-place.ensures.marks c.advance-place.ensures.hand
          (iff_false c.contains.ensures w.if-contains.false))
    ]

pub returns : goal.returns
returns c =
    let all = turned_all (omega arith) c.args.self.now.round c.loop-step.invariant in
    record { member = all.0; after = all; second_chance = tt }
