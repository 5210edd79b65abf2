-- The flag is read, and the scope with its pattern is walked.
use Rattle.std.specs.Prelude.{None}
use Prim.Native.Nat.{ℕ}
use mathlib.Core.Path.{refl}
use native.Mathlib.Omega.{arith}
use Rattle.heads.proofs.Chain.{step, last}
use Rattle.heads.specs.Got.{word_in}
use Rattle.fused.specs.Fused.{Mode}
use Rattle.steps.specs.Modes.{mode_of}
use Rattle.steps.specs.Hold.{Ready}
use Rattle.steps.specs.declared.Walk.{Walk}
use Rattle.steps.specs.declared.context.Context.{Context}
use Rattle.walk.proofs.Stage.{Stage, start}
use Rattle.clause_parts.proofs.Passing.{last_one, past}
use Rattle.clause_walk.specs.Clauses.{scope_at, match_at}
use Rattle.clause_walk.proofs.walk_match.Goals as goal

begun : {c : Context} {w : Walk} (m : Mode) (a b : ℕ) → Ready 3 c w → Stage None 3 c w (match_at c m a b) 3 w (λ id u v. step (word_in 0 2) (λ o. last (scope_at c m a b 2 id v)))
begun m a b h = start _ h (λ id s r. refl)

pub returns : goal.returns
returns c =
    let a = c.args in last_one _ (omega arith) (past (begun (mode_of a.mode) a.head.start a.head.end c.requires.1) c.in_ok-next_flag.ensures) c.walk_opening.ensures
