-- The loop's invariant: the list has the answers of the events passed, and room for those to come.
use Rattle.std.proofs.Common.{◌∙◌, refl, arith}
use mathlib.Core.List.{flat_map}
use Rattle.semantics.specs.Log.{answers_in}
use Rattle.semantics.specs.Lists.{notes}
use Rattle.steps.specs.Said.{events}
use Rattle.lists_fill.specs.Said.{id_in, events_in}
use Rattle.entries.proofs.Chains.{room-less, room-left}
use Rattle.lists_fill.proofs.Adding.{begin, turn, finish, next-answer}
use Rattle.lists_fill.proofs.add_answers.Goals as goal

pub loop-i-init : goal.loop-i-init
unfolding events_in events flat_map answers_in notes
loop-i-init c =
    record {
      still = record { list = refl; chains = refl; slots = refl; hung = refl };
      room = room-less (omega arith) c.requires.1;
      noted = begin (λ id es. refl);
    }

pub add_answer-requires : goal.add_answer-requires
add_answer-requires c = room-less (omega arith) c.loop-i.invariant.room

pub loop-i-preserved : goal.loop-i-preserved
unfolding answers_in
loop-i-preserved c =
    let l = c.loop-i.invariant in
    let s = c.add_answer.ensures.still in
    let id = id_in c.args.uses.now in
    record {
      still = record { list = s.list ∙ l.still.list; chains = s.chains ∙ l.still.chains; slots = s.slots ∙ l.still.slots; hung = s.hung ∙ l.still.hung };
      room = room-left {k = 1} (omega arith) l.room c.add_answer.ensures;
      noted = turn l.noted c.loop-i-test.true (λ x. rw (c.logged_at.ensures id) at c.add_answer.ensures.becomes) (λ x. next-answer c.args.found.now _ id);
    }

pub returns : goal.returns
returns c =
    let l = c.loop-i.invariant in
    record { still = l.still; sound = l.room.sound; becomes = finish l.noted c.loop-i-test.false (λ x. x) }
