-- The list had no entry, so it has what is noted of no answers.
use Rattle.std.proofs.Common.{refl, sym, arith}
use Rattle.entries.proofs.Adding.{from-none}
use Rattle.entries.proofs.Chains.{none-recorded}
use Rattle.lists_fill.proofs.fill_recorded.Goals as goal

pub add_answers-requires : goal.add_answers-requires
add_answers-requires c =
    (c.requires.told, none-recorded _ _ refl c.empty-slots.ensures.empty c.requires.room (omega arith))

pub returns : goal.returns
returns c =
    rw (c.out-1.given.1.1 (sym c.add_answers.ensures.still.list)) (from-none c.add_answers.ensures.becomes)
