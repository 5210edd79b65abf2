-- One WITH of a statement, and the part after it (document 01, "Before and after a WITH": "the part after the WITH .. that is the later
-- clauses of its head or arm and all later arms").
use Prim.Native.Nat.{ℕ, suc}
use Rattle.std.specs.Prelude.{◌≡◌, Bool, true, false, List, [], ◌∷◌, ◌++◌, reverse}
use Rattle.expr.specs.Tree.{Exprs}
use Rattle.clauses.specs.Tree.{Projection, Keys, Clause, with', Arm, arm, exprs, keys_of}
use Rattle.sheet.specs.Statement.{Statement}
use Rattle.semantics.specs.Log.{Event, opened}
use Rattle.semantics.specs.World.{World, world_of}
use Rattle.semantics.specs.Resolve.{Pair, State, standing, resolves, carried_by, barrier, fresh, sort_by, clauses, arms, start}

-- A head's or an arm's clauses, cut at one WITH.
pub record Cut : Type 0 where
  pub before : List Clause
  pub start : ℕ
  pub stop : ℕ
  pub projections : List Projection
  pub filter : Exprs
  pub keys : Keys
  pub after : List Clause

unfoldable pub whole : Cut → List Clause
whole c = c.before ++ with' c.start c.stop c.projections c.filter c.keys ∷ c.after

pub data Site : Type 0 where
  in_head : Cut → Site
  in_arm : (earlier : List Arm) (start stop : ℕ) → Cut → (later : List Arm) → Site

abbrev pub is_head : Site → Bool
is_head (in_head c) = true
is_head (in_arm e a b c l) = false

abbrev pub cut_of : Site → Cut
cut_of (in_head c) = c
cut_of (in_arm e a b c l) = c

-- The statement has this WITH there.
abbrev pub Stands : Statement → Site → Type 0
Stands s (in_head c) = s.head ≡ whole c
Stands s (in_arm e a b c l) = s.arms ≡ e ++ arm a b (whole c) ∷ l

-- All arms after the WITH's head or arm.
abbrev pub later_arms : Statement → Site → List Arm
later_arms s (in_head c) = s.arms
later_arms s (in_arm e a b c l) = l

-- The clauses and arms after a WITH, from the state that it leaves.
unfoldable pub part : World → List Clause → List Arm → State → State
part w after later s = arms w later (clauses w after s)

-- in the same place, nothing having been said
abbrev pub silent : State → State
silent s = record { visible = s.visible; cur = s.cur; last = s.last; log = [] }

module _ (warns : Bool) (s : Statement) where
  abbrev pub world : World
  world = world_of warns s

  -- The state before the WITH's head or arm; before the WITH; its expressions being resolved; at its barrier.
  unfoldable pub entry : Site → State
  entry (in_head c) = start s
  entry (in_arm e a b c l) = standing [] 0 (arms world e (clauses world s.head (start s)))

  unfoldable pub before : Site → State
  before p = clauses world (cut_of p).before (entry p)

  -- The pairs that the barrier carries.
  unfoldable pub pairs : Site → List Pair
  pairs p = carried_by world (cut_of p).projections (before p).visible

  unfoldable pub resolved : Site → State
  resolved p = resolves world (exprs (cut_of p).projections (cut_of p).filter) (before p)

  unfoldable pub at_barrier : Site → State
  at_barrier p = barrier world (cut_of p).start (cut_of p).stop (pairs p) (resolved p)

  -- The numbers of the barrier and of the new Root.
  unfoldable pub barrier_of : Site → ℕ
  barrier_of p = suc (resolved p).last

  unfoldable pub new_root : Site → ℕ
  unfolding barrier_of
  new_root p = suc (barrier_of p)

  -- At its new Root, with the carried names; its sort keys being resolved.
  unfoldable pub rooted : Site → State
  rooted p = fresh world (cut_of p).stop (pairs p) (at_barrier p)

  unfoldable pub ordered : Site → State
  ordered p = sort_by world (keys_of (cut_of p).keys) (before p).visible (rooted p)

  -- What the new Root says, what the sort keys say, and what follows them.
  unfoldable pub root_log : Site → List Event
  root_log p = reverse (fresh world (cut_of p).stop (pairs p) (silent (at_barrier p))).log

  unfoldable pub keys_log : Site → List Event
  keys_log p = reverse (sort_by world (keys_of (cut_of p).keys) (before p).visible (silent (rooted p))).log

  unfoldable pub rest_log : Site → List Event
  rest_log p = reverse (part world (cut_of p).after (later_arms s p) (silent (ordered p))).log

  -- What the part after the WITH says, with its new Root: "the editor's guarantee leaves out" the sort keys (document 02, CR 1).
  unfoldable pub part_log : Site → List Event
  part_log p = root_log p ++ rest_log p

  -- How many scopes the sort keys open: the numbers after the new Root's.
  unfoldable pub key_scopes : Site → ℕ
  key_scopes p = opened (keys_log p)

-- `unfolding sites` opens the above.
unfoldable pub sites : Unit {0}
unfolding whole part entry before pairs resolved at_barrier barrier_of new_root rooted ordered root_log keys_log rest_log part_log key_scopes
sites = tt
