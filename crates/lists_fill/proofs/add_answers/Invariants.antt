-- The loop's invariant: the list has the answers of the events passed, and room for those to come.
use Rattle.std.specs.Prelude.{◌-◌}
use Rattle.semantics.specs.Log.{answers_in}
use Rattle.semantics.specs.Lists.{notes}
use Rattle.entries.specs.Filled.{recorded_words}
use Rattle.entries.specs.Chains.{Room, Still}
use Rattle.lists_fill.specs.Said.{id_in, events_in}
use Rattle.lists_fill.proofs.Adding.{Loop}
use Rattle.lists_fill.proofs.add_answers.Given as goal

abbrev pub invariant-loop-i : goal.invariant-loop-i
invariant-loop-i l =
    record {
      still : Still l.initial.recorded l.recorded;
      room : Room (l.n - l.i) l.recorded;
      noted : Loop recorded_words (λ id k. notes (answers_in (events_in (id_in l.uses) k l.found))) l.n l.initial.recorded.made l.initial.recorded.list.now l.recorded.list.now l.i l.recorded.made;
    }
