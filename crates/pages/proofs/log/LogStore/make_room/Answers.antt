use Rattle.std.proofs.Common.{◌≤◌, length, sym, refl, subst, inl, inr, arith}
use Rattle.pages.specs.Log.{log_count, Known}
use Rattle.pages.specs.LogView.{memory_of, records_of}
use Rattle.pages.specs.Records.{LastOfEach}
use Rattle.pages.proofs.LastOfEach.{compacted_last}
use Rattle.pages.proofs.LogLaws.{length-log_pages, log_pages-compacted, compact_few, compact_known}
use Rattle.pages.proofs.SlotLaws.{length-records_in}
use Rattle.pages.proofs.log.LogStore.make_room.Goals as goal

pub invariant_of-self : goal.invariant_of-self
invariant_of-self c =
    let old = c.args.self.now in
    let count = log_count (length (memory_of old)) in
    let memory = c.compact-self.new.memory in
    let few : c.compact-self.result ≤ count =
    compact_few count old.filled c.compact-self.result (memory_of old) memory old.known c.compact-self.ensures.records in
    record {
      few = omega (arith, few, c.compact-self.auto.memory);
      wide = c.compact-self.ensures.wide;
      exact = c.compact-self.ensures.exact;
      known =
          subst (λ n. Known (log_count n) c.compact-self.result memory) (sym c.compact-self.auto.memory)
          (compact_known count old.filled c.compact-self.result (memory_of old) memory old.known c.compact-self.ensures.records);
      indexed = c.compact-self.ensures.indexed;
    }

pub returns-then-self-slot_count-clause-pages : goal.returns-then-self-slot_count-clause-pages
returns-then-self-slot_count-clause-pages c =
    let old = c.args.self.now in
    log_pages-compacted old.filled c.compact-self.result (memory_of old) c.compact-self.new.memory c.compact-self.auto.memory c.compact-self.ensures.records

pub returns-then-self-slot_count-clause-records : goal.returns-then-self-slot_count-clause-records
returns-then-self-slot_count-clause-records c =
    let old = c.args.self.now in
    inr (omega (arith, length-records_in old.filled (memory_of old)), subst (LastOfEach (records_of old)) (sym c.compact-self.ensures.records) (compacted_last (records_of old)))

pub returns-then-self-slot_count-clause-room : goal.returns-then-self-slot_count-clause-room
returns-then-self-slot_count-clause-room c some =
    let old = c.args.self.now in
    let few = compact_few (log_count (length (memory_of old))) old.filled c.compact-self.result (memory_of old) c.compact-self.new.memory old.known c.compact-self.ensures.records in
    omega (arith, few, length-log_pages old.filled (memory_of old), c.compact-self.auto.memory)

pub returns-else-self-slot_count-clause-records : goal.returns-else-self-slot_count-clause-records
returns-else-self-slot_count-clause-records c =
    let old = c.args.self.now in
    inl (omega (arith, old.few, length-records_in old.filled (memory_of old)), refl)
