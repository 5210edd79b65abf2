-- What the walk over clauses, one after the other, and over arms does.
use Rattle.std.specs.Prelude.{ℕ, true}
use Rattle.fused.specs.Fused.{Mode, rounds}
use Rattle.fused.specs.Clauses.{arm_go}
use Rattle.steps.specs.Memory.{names_in, world_at}
use Rattle.walk.specs.Goes.{Goer}
use Rattle.clause_walk.specs.Clauses.{clause_at}
use Rattle.steps.specs.declared.context.Context.{Context}

-- both walks look
abbrev pub both_walks : Mode
both_walks = record { resolves = true; checks = true }

-- What is walked, in a mode.
module _ (c : Context) (mode : Mode) where
  abbrev pub clauses_at : ℕ → Goer
  clauses_at n id = rounds n (clause_at c mode id)

  abbrev pub arm_at : Goer
  arm_at id = arm_go (world_at c id) (names_in c) mode

  abbrev pub arms_at : ℕ → Goer
  arms_at n id = rounds n (arm_at id)
