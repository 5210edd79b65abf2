-- The scope is opened, and the pattern is the walk's.
use Rattle.std.specs.Prelude.{None}
use Prim.Native.Nat.{ℕ}
use mathlib.Core.Bool.{true}
use mathlib.Core.Path.{◌≡◌}
use native.Mathlib.Omega.{arith}
use Rattle.heads.proofs.Chain.{last}
use Rattle.clauses.specs.Read.{max_depth}
use Rattle.scope.specs.Kind.{number_of}
use Rattle.semantics.specs.Resolve.{enter}
use Rattle.fused.specs.Fused.{Mode}
use Rattle.steps.specs.Modes.{mode_of}
use Rattle.steps.specs.Hold.{Ready, Steps, on_names}
use Rattle.steps.specs.declared.Walk.{Walk}
use Rattle.steps.specs.declared.context.Context.{Context}
use Rattle.walk.specs.Goes.{pattern_at}
use Rattle.walk.proofs.Stage.{Stage, did, start}
use Rattle.clause_parts.proofs.Passing.{forget, last_one}
use Rattle.clause_parts.proofs.Cleared.{names-step}
use Rattle.clause_walk.proofs.Rescoped.{costs-ready}
use Rattle.clause_walk.specs.Clauses.{scope_at}
use Rattle.clause_walk.proofs.walk_opening.Goals as goal

opened : {c : Context} {w w1 : Walk} (m : Mode) (a b kind : ℕ) → m.resolves ≡ true → Ready 3 c w → Steps 1 c w w1 (λ id. on_names (enter kind a b)) → Stage None 3 c w (scope_at c m a b kind) 2 w1 (λ id u v. last (pattern_at c max_depth m id v))
opened {c} m a b kind live h x =
    did (λ id u v. last (pattern_at c max_depth m id v)) 2 (omega arith) (omega arith) (omega arith) (start {keep = None} (λ id u v. last (pattern_at c max_depth m id (on_names (enter kind a b) v))) h (λ id s r. rw (names-step m (enter kind a b) s live))) x

pub walk_pattern-requires : goal.walk_pattern-requires
walk_pattern-requires c =
    (omega arith, costs-ready (omega arith) c.requires.1 c.enter.ensures)

pub returns : goal.returns
returns c =
    let a = c.args in last_one _ (omega arith) (opened (mode_of a.mode) a.head.start a.head.end (number_of a.kind) c.requires.0 c.requires.1 c.enter.ensures) (forget _ c.walk_pattern.ensures)
