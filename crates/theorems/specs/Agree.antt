-- Lookup gives what the walk saw: the variable of a name's newest binding, and the scope that binds it; on the finished lists between clauses,
-- from barriers and comprehensions, and at each use on what was said before its record.
use mathlib.Core.List.{flat_map}
use Rattle.std.specs.Prelude.{ℕ, ◌<◌, ◌≡◌, Bool, cond, List, [], ◌∷◌, ◌++◌, reverse, Some}
use Rattle.words.specs.Fnv.{use_id}
use Rattle.scope.specs.Graph.{comprehension_scope, scope, Name, indexed}
use Rattle.scope.specs.Lookup.{Looked, at, nothing, refused, carries, lookup_in}
use Rattle.expr.specs.Tree.{Steps}
use Rattle.clauses.specs.Tree.{Clause, Arm, arm}
use Rattle.sheet.specs.Statement.{Statement}
use Rattle.semantics.specs.Log.{write, Event, open', answer, scopes_in, binds_in, carries_in, answers_in, opened}
use Rattle.semantics.specs.World.{hush, bytes_of, world_of}
use Rattle.semantics.specs.Resolve.{Seen, State, standing, bind_pattern, clauses, start, log}
use Rattle.semantics.specs.Resolve
use Rattle.semantics.specs.Lists.{puts, scopes, bindings, carried_list}
use Rattle.theorems.specs.Site.{Site, Stands, before, barrier_of}
use Rattle.theorems.specs.Uses.{Use, by_name, seen_as, recorded_as, record_of, uses}

-- lookup on the views of a log
unfoldable pub look : List Event → ℕ → Name → Looked
look l = lookup_in (scopes_in l) (puts (binds_in l) []) (carries_in l)

-- a scope's own binding, else what its parent answers
unfoldable pub or_parent : Looked → Looked → Looked
or_parent (at v p) above = at v p
or_parent nothing above = above
or_parent (refused c) above = refused c

-- where the walk stands in a scope that it opens after the log l, nothing having been said there yet
unfoldable pub opened_after : List Event → List Seen → State
opened_after l vis = record { visible = vis; cur = opened l; last = opened l; log = [] }

module _ (warns : Bool) (s : Statement) where
  -- lookup on the finished lists
  unfoldable pub in_lists : ℕ → Name → Looked
  in_lists = lookup_in (scopes warns s) (bindings warns s) (carried_list warns s)

  -- where the walk stands after some clauses of the head, and of an arm
  abbrev pub head_at : List Clause → State
  head_at before = clauses (world_of warns s) before (start s)

  abbrev pub arm_at : List Arm → List Clause → State
  arm_at earlier before = clauses (world_of warns s) before (standing [] 0 (Resolve.arms (world_of warns s) earlier (head_at s.head)))

  -- What is visible and lookup doesn't reach: nothing, but in a WITH's sort keys (document 02, CR 1) the list before that WITH.
  pub data Beyond : List Seen → Type 0 where
    nowhere : Beyond []
    ahead : (p : Site) → Stands s p → Beyond (before warns s p).visible

  -- A comprehension's scope, opened after the log l with the parent p, m being what follows: at that time lookup from p gives what is
  -- visible around it, as far as it reaches. p may bind more later: in the end the scope has the names of its pattern, else what p has.
  -- The World is the statement's, but for the names that a RETURN's sort keys hush, if it stands in these.
  pub record Inner (l m : List Event) (p : ℕ) : Type 0 where
    pub pattern : Steps
    pub visible : List Seen
    pub reach : List Seen
    pub beyond : List Seen
    pub splits : visible ≡ reach ++ beyond
    pub hidden : Beyond beyond
    pub hushed : List ℕ
    pub rest : List Event
    pub says : m ≡ reverse (bind_pattern (hush hushed (world_of warns s)) pattern (opened_after l visible)).log ++ rest
    pub lower : p < opened l
    pub around : (x : Name) → look l p x ≡ seen_as x reach
    pub own : List Seen
    pub adds : (bind_pattern (hush hushed (world_of warns s)) pattern (opened_after l visible)).visible ≡ own ++ visible
    pub inside : (x : Name) → in_lists (opened l) x ≡ or_parent (seen_as x own) (in_lists p x)

  -- A use of the name x that stands in the scope p, after other uses. Its record comes after the log l, and lookup from p gives then what is
  -- visible there, as far as it reaches; beyond that is nothing, or in a WITH's sort key the list before the WITH. (p may bind more later.)
  pub record Used (earlier : List Use) (x p : ℕ) (visible : List Seen) : Type 0 where
    pub l : List Event
    pub m : List Event
    pub says : log warns s ≡ l ++ answer (write (use_id (bytes_of s x)) (recorded_as (world_of warns s) (scopes warns s) (seen_as (indexed x) visible))) ∷ m
    pub records : answers_in l ≡ flat_map (record_of (world_of warns s) (scopes warns s)) earlier
    pub reach : List Seen
    pub beyond : List Seen
    pub splits : visible ≡ reach ++ beyond
    pub hidden : Beyond beyond
    pub lower : p < opened l
    pub around : (y : Name) → look l p y ≡ seen_as y reach

  -- Lookup agrees with the walk.
  pub record Agrees : Type 0 where
    -- after some clauses of the head, from the current scope: what is visible there
    pub head : (before after : List Clause) (x : Name) → s.head ≡ before ++ after → in_lists (head_at before).cur x ≡ seen_as x (head_at before).visible
    -- the same in an arm
    pub arms : (earlier : List Arm) (a b : ℕ) (before after : List Clause) (later : List Arm) (x : Name) → s.arms ≡ earlier ++ arm a b (before ++ after) ∷ later
        → in_lists (arm_at earlier before).cur x ≡ seen_as x (arm_at earlier before).visible
    -- from a barrier: what is visible before its WITH, of the names that it carries
    pub barrier : (p : Site) (x : Name) → Stands s p
        → in_lists (barrier_of warns s p) x ≡ cond (carries (carried_list warns s) (barrier_of warns s p) x) (seen_as x (before warns s p).visible) nothing
    -- at each use of a name
    pub used : (earlier later : List Use) (x p : ℕ) (visible : List Seen) → uses warns s ≡ earlier ++ by_name x p visible ∷ later → Used earlier x p visible
    -- from a comprehension's scope
    pub inner : (l m : List Event) (p a b : ℕ) → log warns s ≡ l ++ open' (scope comprehension_scope (Some p) a b) ∷ m → Inner l m p
