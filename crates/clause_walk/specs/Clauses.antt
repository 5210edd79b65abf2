-- What the walk over a clause does.
use Rattle.std.specs.Prelude.{ℕ, true, false, []}
use Rattle.scope.specs.Graph.{unwind_scope}
use Rattle.heads.specs.Got.{bind, flag}
use Rattle.tables.specs.Row.{value_kind}
use Rattle.semantics.specs.World.{name_of}
use Rattle.semantics.specs.Resolve.{enter, bind_name}
use Rattle.fused.specs.Fused.{Both, Mode, rounds, step, pattern_go}
use Rattle.fused.specs.Clauses.{within, yield_go, unwind_go, call_go, marked_go, body_go, clause_go}
use Rattle.steps.specs.Memory.{names_in, world_at}
use Rattle.steps.specs.Hold.{on_names}
use Rattle.walk.specs.Goes.{Goer}
use Rattle.steps.specs.declared.context.Context.{Context}

-- What is walked, in a mode; a clause has its span from a to b.
module _ (c : Context) (mode : Mode) where
  abbrev pub marked_at : (a b kind : ℕ) → Goer
  marked_at a b kind id = marked_go (world_at c id) (names_in c) mode a b kind

  abbrev pub scope_at : (a b kind : ℕ) → Goer
  scope_at a b kind id s r = pattern_go (world_at c id) (within (world_at c id) (names_in c)) mode (step mode (enter kind a b) [] s) r

  abbrev pub match_at : (a b : ℕ) → Goer
  match_at a b id s r = bind (flag r) (λ o r1. scope_at a b 2 id s r1)

  abbrev pub unwind_at : (a b : ℕ) → Goer
  unwind_at a b id = unwind_go (world_at c id) (names_in c) mode a b

  abbrev pub call_at : (a b : ℕ) → Goer
  call_at a b id = call_go (world_at c id) (names_in c) mode a b

  abbrev pub body_at : (a b kind : ℕ) → Goer
  body_at a b kind id = body_go (world_at c id) (names_in c) mode a b kind

  abbrev pub clause_at : Goer
  clause_at id = clause_go (world_at c id) (names_in c) mode

-- names alone are looked at
abbrev pub names_alone : Mode
names_alone = record { resolves = true; checks = false }

-- A yield is bound, and an Unwind's variable, whether or not kinds are checked.
module _ (c : Context) (a b : ℕ) where
  abbrev pub yield_at : Goer
  yield_at id = yield_go (world_at c id) (names_in c) names_alone a b

  abbrev pub yields_at : ℕ → Goer
  yields_at n id = rounds n (yield_at id)

  abbrev pub unwound_at : ℕ → (ℕ → ℕ) → Both → Both
  unwound_at v id = on_names (λ y. bind_name (name_of (world_at c id) v) v value_kind (enter unwind_scope a b y))
