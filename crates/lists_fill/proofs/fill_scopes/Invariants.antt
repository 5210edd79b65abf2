-- The loop's invariant: the list has the scopes of the events passed.
use Rattle.semantics.specs.Log.{scopes_in}
use Rattle.entries.specs.Filled.{scope_words}
use Rattle.entries.specs.Adding.{after}
use Rattle.lists_fill.specs.Said.{events_in}
use Rattle.lists_fill.proofs.Adding.{Loop}
use Rattle.lists_fill.proofs.fill_scopes.Given as goal

abbrev pub invariant-loop-i : goal.invariant-loop-i
invariant-loop-i l = Loop scope_words (λ id k. after (scopes_in (events_in id k l.log.words.now))) l.log.said 0 l.initial.out l.out l.i l.m
