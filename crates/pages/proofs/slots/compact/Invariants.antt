use Rattle.std.proofs.Common.{◌≡◌, length}
use Rattle.pages.proofs.Compacting.{Compacting}
use Rattle.pages.proofs.slots.compact.Given as goal

abbrev pub invariant-loop-slot : goal.invariant-loop-slot
invariant-loop-slot l = record {
  compacting : Compacting l.initial.memory l.filled l.slot l.kept l.memory l.last;
  wide : length l.last ≡ 4096;
}
