-- The scope is opened, the arguments are walked unresolved, and the yields are bound.
use Rattle.std.specs.Prelude.{None, Ok}
use Prim.Native.Nat.{ℕ}
use mathlib.Core.Bool.{true}
use mathlib.Core.Path.{◌≡◌}
use native.Mathlib.Omega.{arith}
use Rattle.clauses.specs.Read.{max_depth}
use Rattle.scope.specs.Graph.{call_scope}
use Rattle.heads.proofs.Chain.{step, last}
use Rattle.heads.specs.Got.{word_in}
use Rattle.semantics.specs.Resolve.{enter}
use Rattle.fused.specs.Fused.{Mode, unresolving}
use Rattle.steps.specs.Modes.{mode_of}
use Rattle.steps.specs.Hold.{Ready, Steps, on_names}
use Rattle.steps.specs.declared.Walk.{Walk}
use Rattle.steps.specs.declared.context.Context.{Context}
use Rattle.walk.specs.Goes.{Walked}
use Rattle.walk.proofs.Stage.{Rest, Stage, did, start, ready}
use Rattle.clause_parts.specs.Passes.{counted_at}
use Rattle.clause_parts.proofs.Passing.{forget, went, fell, last_one, past, halted}
use Rattle.clause_walk.proofs.Rescoped.{call-as, costs-ready}
use Rattle.clause_walk.specs.Clauses.{call_at, yields_at}
use Rattle.clause_walk.proofs.walk_call.Goals as goal

-- a count, and as many yields
abbrev Yields : Context → (a b : ℕ) → Rest
Yields c a b id u v = step (word_in 0 4294967296) (λ n. last (yields_at c a b n id v))

opened : {c : Context} {w w1 : Walk} (m : Mode) (a b : ℕ) → m.resolves ≡ true → Ready 3 c w → Steps 1 c w w1 (λ id. on_names (enter call_scope a b)) →
    Stage None 3 c w (call_at c m a b) 2 w1 (λ id u v. step (counted_at c (unresolving m) id v) (Yields c a b id u))
opened {c} m a b live h x =
    did (λ id u v. step (counted_at c (unresolving m) id v) (Yields c a b id u)) 2 (omega arith) (omega arith) (omega arith)
    (start {keep = None} (λ id u v. step (counted_at c (unresolving m) id (on_names (enter call_scope a b) v)) (Yields c a b id u)) h (λ id s r. call-as c m a b id s r live))
    x

walked : {c : Context} {w w1 w2 : Walk} {u : Unit {0}} (m : Mode) (a b : ℕ) → m.resolves ≡ true → Ready 3 c w → Steps 1 c w w1 (λ id. on_names (enter call_scope a b)) → Walked max_depth c w1 w2 (counted_at c (unresolving m)) (Ok u) →
    Stage None 3 c w (call_at c m a b) 2 w2 (Yields c a b)
walked m a b live h x y = went 2 (omega arith) (opened m a b live h x) (forget _ y)

pub walk_counted-requires : goal.walk_counted-requires
walk_counted-requires c =
    costs-ready (omega arith) c.requires.1 c.enter.ensures

pub returns-in_err-walk_counted : goal.returns-in_err-walk_counted
returns-in_err-walk_counted c =
    let a = c.args in fell _ (opened (mode_of a.mode) a.head.start a.head.end c.requires.0 c.requires.1 c.enter.ensures) (forget _ (rw c.unresolving.ensures at c.in_err-walk_counted.ensures)) c.from_residual.ensures

pub returns-in_err-n : goal.returns-in_err-n
returns-in_err-n c =
    let a = c.args in halted _ (walked (mode_of a.mode) a.head.start a.head.end c.requires.0 c.requires.1 c.enter.ensures (rw c.unresolving.ensures at c.in_ok-walk_counted.ensures)) c.in_err-n.ensures c.from_residual-in_err-n.ensures

pub walk_yields-requires : goal.walk_yields-requires
walk_yields-requires c =
    let a = c.args in ready (omega arith) c.requires.1 (past (walked (mode_of a.mode) a.head.start a.head.end c.requires.0 c.requires.1 c.enter.ensures (rw c.unresolving.ensures at c.in_ok-walk_counted.ensures)) c.in_ok-n.ensures)

pub returns : goal.returns
returns c =
    let a = c.args in last_one _ (omega arith) (past (walked (mode_of a.mode) a.head.start a.head.end c.requires.0 c.requires.1 c.enter.ensures (rw c.unresolving.ensures at c.in_ok-walk_counted.ensures)) c.in_ok-n.ensures) c.walk_yields.ensures
