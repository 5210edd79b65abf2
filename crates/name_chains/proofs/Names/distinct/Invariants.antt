-- The loop's invariant: the first i names hang in their chains, and the whole is decided by those that are left.
use Rattle.std.proofs.Common.{◌≡◌, take, drop}
use Rattle.tables.specs.Distinct.{name_in, fresh_after, distinct}
use Rattle.tables.specs.Answer.{names_at}
use Rattle.name_chains.specs.Hung.{Hung}
use Rattle.name_chains.specs.Slot.{slot_of}
use Rattle.name_chains.proofs.Names.distinct.Given as goal

abbrev pub invariant-loop-i : goal.invariant-loop-i
invariant-loop-i l = record {
  hung : Hung (slot_of l.slots.mult l.slots.count) l.self.bytes.now l.self.places.now l.slots.count l.i l.chains;
  same : distinct name_in (names_at l.self.bytes.now l.self.places.now) ≡ fresh_after name_in (names_at l.self.bytes.now (take l.i l.self.places.now)) (names_at l.self.bytes.now (drop l.i l.self.places.now));
}
