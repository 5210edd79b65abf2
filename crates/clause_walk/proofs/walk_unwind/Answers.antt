-- The variable is read and bound, and its list is walked unresolved.
use Rattle.std.specs.Prelude.{None, Ok}
use Prim.Native.Nat.{ℕ}
use mathlib.Core.Bool.{true}
use mathlib.Core.Path.{◌≡◌}
use native.Mathlib.Omega.{arith}
use Rattle.heads.proofs.Chain.{step, last}
use Rattle.heads.specs.Got.{word_in}
use Rattle.clauses.specs.Read.{max_depth}
use Rattle.semantics.specs.Kinds.{general}
use Rattle.fused.specs.Fused.{Mode, unresolving}
use Rattle.steps.specs.Modes.{mode_of}
use Rattle.steps.specs.Hold.{Ready, Steps}
use Rattle.steps.specs.declared.Walk.{Walk}
use Rattle.steps.specs.declared.context.Context.{Context}
use Rattle.walk.specs.Goes.{expr_at}
use Rattle.walk.proofs.Stage.{Stage, did, start, ready}
use Rattle.clause_parts.specs.Passes.{Next}
use Rattle.clause_parts.proofs.Passing.{forget, last_one, past, halted}
use Rattle.clause_walk.proofs.Rescoped.{unwind-as}
use Rattle.clause_walk.specs.Clauses.{unwind_at, unwound_at}
use Rattle.clause_walk.proofs.walk_unwind.Goals as goal

begun : {c : Context} {w : Walk} (m : Mode) (a b : ℕ) → m.resolves ≡ true → Ready 3 c w →
    Stage None 3 c w (unwind_at c m a b) 3 w (λ id u v. step (word_in 0 4294967296) (λ x. last (expr_at c max_depth (unresolving m) general id (unwound_at c a b x id v))))
begun {c} m a b live h = start _ h (λ id s r. unwind-as c m a b id s r live)

bound : {c : Context} {w w1 w2 : Walk} {x : ℕ} (m : Mode) (a b : ℕ) → m.resolves ≡ true → Ready 3 c w → Next c 0 4294967296 w w1 (Ok x) → Steps 4 c w1 w2 (unwound_at c a b x) →
    Stage None 3 c w (unwind_at c m a b) 0 w2 (λ id u v. last (expr_at c max_depth (unresolving m) general id v))
bound {c} m a b live h n y = did (λ id u v. last (expr_at c max_depth (unresolving m) general id v)) 0 (omega arith) (omega arith) (omega arith) (past (begun m a b live h) n) y

pub returns-in_err-v : goal.returns-in_err-v
returns-in_err-v c =
    let a = c.args in halted _ (begun (mode_of a.mode) a.head.start a.head.end c.requires.0 c.requires.1) c.in_err-v.ensures c.from_residual.ensures

pub walk_expr-requires : goal.walk_expr-requires
walk_expr-requires c =
    let a = c.args in (omega arith, ready (omega arith) c.requires.1 (bound (mode_of a.mode) a.head.start a.head.end c.requires.0 c.requires.1 c.in_ok-v.ensures c.bind_unwind.ensures))

pub returns : goal.returns
returns c =
    let a = c.args in
    last_one _ (omega arith) (bound (mode_of a.mode) a.head.start a.head.end c.requires.0 c.requires.1 c.in_ok-v.ensures c.bind_unwind.ensures) (forget _ (rw c.unresolving.ensures at c.walk_expr.ensures))
