-- What a walk over words asks and leaves: reading and both walks in one (`fused`).
use Rattle.std.specs.Prelude.{ℕ, ◌≤◌, ◌≡◌, List, drop, Option, None, Some, Result, Ok, Err}
use Rattle.refusal.specs.Number.{number_of}
use Rattle.refusal.specs.declared.Refusal.{Refusal}
use Rattle.heads.specs.Got.{Got, ok, no}
use Rattle.heads.specs.declared.Form.{Form}
use Rattle.semantics.specs.Kinds.{Setting, Pair}
use Rattle.fused.specs.Fused.{Both, Mode, Go, rounds, row_go, mark_go, elem_go, part_go, pattern_go, inner_go, rest_go, expr_go}
use Rattle.steps.specs.Memory.{words_in, names_in, world_at}
use Rattle.steps.specs.Hold.{Fit, Holds, Frame, Still}
use Rattle.steps.specs.declared.Walk.{Walk}
use Rattle.steps.specs.declared.context.Context.{Context}

-- The use ids of names are whatever `id` gives.
abbrev pub Goer : Type 0
Goer = (ℕ → ℕ) → Go

-- the words that are left
abbrev pub rest_in : Context → Walk → List ℕ
rest_in c w = drop w.at (words_in c)

-- g gives a state, which the walk holds now, and the words from the next one on
pub record Comes (id : ℕ → ℕ) (c : Context) (w : Walk) (g : Got Both) : Type 0 where
  pub state : Both
  pub holds : Holds id c w state
  pub same : g ≡ ok state (rest_in c w)

-- The walk went on, and the words that it read pay for what it said.
pub record Came (room : ℕ) (c : Context) (w w' : Walk) (G : Goer) : Type 0 where
  pub from : w.at ≤ w'.at
  pub fit : (k : ℕ) → Fit k c w → Fit k c w'
  pub frame : Frame room w w'
  pub goes : (id : ℕ → ℕ) (s : Both) → Holds id c w s → Comes id c w' (G id s (rest_in c w))

-- G is refused
pub record Refuses (c : Context) (w : Walk) (G : Goer) (e : Refusal) : Type 0 where
  pub same : (id : ℕ → ℕ) (s : Both) → Holds id c w s → G id s (rest_in c w) ≡ no (number_of e)

-- it went on, or is refused
abbrev pub Goes : ℕ → Context → (w w' : Walk) → Goer → Result (Unit {0}) Refusal → Type 0
Goes room c w w' G (Ok u) = Came room c w w' G
Goes room c w w' G (Err e) = Refuses c w G e

pub record Walked (room : ℕ) (c : Context) (w w' : Walk) (G : Goer) (r : Result (Unit {0}) Refusal) : Type 0 where
  pub still : Still w w'
  pub goes : Goes room c w w' G r

-- the words that pay for a part's path
abbrev pub path_cost : Option ℕ → ℕ
path_cost (Some v) = 3
path_cost None = 0

-- What is walked, with room for so many levels, in a mode.
module _ (c : Context) (room : ℕ) (mode : Mode) where
  abbrev pub expr_at : Setting → Goer
  expr_at set id = expr_go (world_at c id) (names_in c) room mode set

  abbrev pub row_at : ℕ → Pair → Goer
  row_at n pair id = row_go (expr_go (world_at c id) (names_in c) room mode) n pair

  abbrev pub rest_at : Form → Setting → Goer
  rest_at f set id = rest_go (world_at c id) (expr_go (world_at c id) (names_in c) room) mode f set

  abbrev pub inner_at : Form → Goer
  inner_at f id = inner_go (world_at c id) (expr_go (world_at c id) (names_in c) room) mode f

  abbrev pub mark_at : ℕ → Goer
  mark_at kind id = mark_go (world_at c id) (expr_go (world_at c id) (names_in c) room) mode kind

  abbrev pub marks_at : ℕ → ℕ → Goer
  marks_at kind n id = rounds n (mark_at kind id)

  abbrev pub elem_at : Goer
  elem_at id = elem_go (world_at c id) (expr_go (world_at c id) (names_in c) room) mode

  abbrev pub part_at : Goer
  part_at id = part_go (world_at c id) (expr_go (world_at c id) (names_in c) room) mode

  abbrev pub pattern_at : Goer
  pattern_at id = pattern_go (world_at c id) (expr_go (world_at c id) (names_in c) room) mode

  abbrev pub elems_at : ℕ → Goer
  elems_at n id = rounds n (elem_at id)

  abbrev pub parts_at : ℕ → Goer
  parts_at n id = rounds n (part_at id)
