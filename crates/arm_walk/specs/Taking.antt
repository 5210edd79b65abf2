-- The carried list beside the walk. After a WITH the stack of visible names is just what it carried, so the list is stored from there, where it
-- has room for all that was carried so far.
use Rattle.std.specs.Prelude.{ℕ, ◌+◌, ◌-◌, ◌*◌, ◌<◌, ◌≤◌, ◌≡◌, List, [], ◌∷◌, ◌++◌, reverse, length}
use Rattle.scope.specs.Graph.{Carried, carried}
use Rattle.heads.specs.Got.{ok}
use Rattle.semantics.specs.Log.{Event, carries_in}
use Rattle.semantics.specs.Resolve.{Seen, seen, variable_of}
use Rattle.theorems.specs.Needs.{carried_in}
use Rattle.fused.specs.Fused.{Both}
use Rattle.visible.specs.Stack as stack
use Rattle.rowless.specs.Rowless.{places, Sound as Numbered}
use Rattle.steps.specs.Named.{as_named, Below}
use Rattle.steps.specs.Hold.{Holds}
use Rattle.walk.specs.Goes.{Goer, rest_in}
use Rattle.entries.specs.Filled.{carried_words}
use Rattle.entries.specs.Adding as entries
use Rattle.steps.specs.declared.Walk.{Walk}
use Rattle.steps.specs.declared.context.Context.{Context}

-- visible names as what a barrier carries, oldest first
unfoldable pub carried_as : ℕ → List Seen → List Carried
carried_as b [] = []
carried_as b (seen x h p ∷ l) = carried_as b l ++ (carried b x (variable_of h) ∷ [])

-- a list has what a log, newest first, carries, if it has room for that
pub record Carries (old out : List ℕ) (l : List Event) : Type 0 where
  pub kept : length out ≡ length old
  pub has : carried_in l * 4 ≤ length old → entries.Holds carried_words old out (carried_in l) (carries_in (reverse l))

-- where more is carried than `from`, and the list has room for that, it comes to have all that is visible, behind the `from` entries that it has
pub record Stores (w : Walk) (out new : List ℕ) (from : ℕ) : Type 0 where
  pub kept : length new ≡ length out
  pub nothing : w.taken ≤ from → new ≡ out
  pub stores : (old : List ℕ) (es : List Carried) → from < w.taken → w.taken ≡ from + w.visible.top → 0 < w.cur → w.taken * 4 ≤ length out → entries.Holds carried_words old out from es → entries.Holds carried_words old new w.taken (es ++ carried_as (w.cur - 1) (as_named w.rowless (stack.entries w.visible)))

-- what storing asks of a walk: each visible name has its place
pub record Storing (w : Walk) : Type 0 where
  pub sound : stack.Sound w.visible
  pub numbered : Numbered w.rowless
  pub below : Below (places w.rowless) (stack.entries w.visible)

-- a walk stores what it carries
pub record Takes (c : Context) (w : Walk) (out new : List ℕ) (G : Goer) : Type 0 where
  pub kept : length new ≡ length out
  pub takes : (id : ℕ → ℕ) (s t : Both) (rest old : List ℕ) → Holds id c w s → G id s (rest_in c w) ≡ ok t rest → Carries old out s.names.log → Carries old new t.names.log
