-- Each alias is held and its expression walked, and the sort keys are walked at the end (`Sorting`).
use Rattle.std.specs.Prelude.{◌≡◌}
use Rattle.steps.specs.Modes.{mode_of}
use Rattle.return_walk.proofs.Sorted.{Sorting}
use Rattle.return_walk.proofs.walk_sorted.Given as goal

abbrev pub invariant-loop : goal.invariant-loop
invariant-loop l = record {
  lent : l.aliases.words.ghost_name ≡ l.initial.aliases.words.ghost_name;
  sorting : Sorting l.context l.initial.walk l.initial.aliases.words.now (mode_of l.mode) l.n l.walk l.aliases.words.now l.aliases.count l.counter;
}
