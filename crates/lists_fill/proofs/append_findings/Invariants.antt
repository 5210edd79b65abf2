-- The loop's invariant: the first i findings stand after those that there were.
use Rattle.std.specs.Prelude.{◌+◌}
use Rattle.finding.specs.Flat.{finding_words}
use Rattle.entries.specs.Adding.{after}
use Rattle.lists_fill.specs.Said.{told_in}
use Rattle.lists_fill.proofs.Adding.{Loop}
use Rattle.lists_fill.proofs.append_findings.Given as goal

abbrev pub invariant-loop-i : goal.invariant-loop-i
invariant-loop-i l = Loop finding_words (λ id j. after (told_in j l.found)) l.k l.m l.initial.out l.out l.i (l.m + l.i)
