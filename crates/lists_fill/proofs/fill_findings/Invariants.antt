-- The loop's invariant: the list has the findings of the events passed.
use Rattle.semantics.specs.Log.{finds_in}
use Rattle.finding.specs.Flat.{finding_words}
use Rattle.entries.specs.Adding.{after}
use Rattle.lists_fill.specs.Said.{events_in}
use Rattle.lists_fill.proofs.Adding.{Loop}
use Rattle.lists_fill.proofs.fill_findings.Given as goal

abbrev pub invariant-loop-i : goal.invariant-loop-i
invariant-loop-i l = Loop finding_words (λ id k. after (finds_in (events_in id k l.found))) l.n 0 l.initial.out l.out l.i l.m
