-- Three words are read, and pay for the binding; the name is one of the sheet's, so its place is itself.
use Rattle.std.specs.Prelude.{None}
use Prim.Native.Nat.{ℕ, ◌+◌}
use native.Mathlib.Omega.{arith}
use Rattle.clauses.specs.Read.{alias_of}
use Rattle.heads.proofs.Chain.{step, last}
use Rattle.heads.specs.Got.{ok, word_in}
use Rattle.scope.specs.Graph.{indexed}
use Rattle.semantics.specs.Resolve.{bind_anew}
use Rattle.semantics.specs.World.{yield_name}
use Rattle.steps.specs.Hold.{Ready, on_names}
use Rattle.steps.specs.Memory.{names_in, world_at}
use Rattle.tables.specs.Row.{value_kind}
use Rattle.steps.specs.declared.Walk.{Walk}
use Rattle.steps.specs.declared.context.Context.{Context}
use Rattle.steps.proofs.Named.{named-index}
use Rattle.steps.proofs.Held.{lower, as-steps}
use Rattle.walk.proofs.Stage.{Stage, did, start, ready}
use Rattle.clause_parts.proofs.Passing.{passed, past, halted, in_range}
use Rattle.clause_walk.proofs.Rescoped.{yield-as, yield-listed, yields}
use Rattle.clause_walk.specs.Clauses.{yield_at}
use Rattle.clause_walk.proofs.walk_yield.Goals as goal

begun : {c : Context} {w : Walk} (a b : ℕ) → Ready 0 c w →
    Stage None 0 c w (yield_at c a b) 0 w (λ id u w. step (word_in 0 (names_in c)) (λ x. step (word_in 0 (names_in c + 1)) (λ y. step (word_in 0 4294967296) (λ v. last (ok (on_names (bind_anew (world_at c id) a b (indexed (yield_name x (alias_of y))) v value_kind) w))))))
begun {c} a b h = start _ h (λ id s r. yield-as c a b id s r)

pub returns-in_err-x : goal.returns-in_err-x
returns-in_err-x c =
    let a = c.args in halted _ (begun a.head.start a.head.end c.requires) c.in_err-x.ensures c.from_residual.ensures

pub returns-in_err-alias : goal.returns-in_err-alias
returns-in_err-alias c =
    let a = c.args in
    halted _ (past (begun a.head.start a.head.end c.requires) c.in_ok-x.ensures) c.in_err-alias.ensures c.from_residual-in_err-alias.ensures

pub returns-in_err-v : goal.returns-in_err-v
returns-in_err-v c =
    let a = c.args in
    halted _ (past (past (begun a.head.start a.head.end c.requires) c.in_ok-x.ensures) c.in_ok-alias.ensures) c.in_err-v.ensures c.from_residual-in_err-v.ensures

pub bind_anew-requires : goal.bind_anew-requires
bind_anew-requires c =
    let a = c.args in
    let g = ready {i = 3} (omega arith) c.requires (past (past (past (begun a.head.start a.head.end c.requires) c.in_ok-x.ensures) c.in_ok-alias.ensures) c.in_ok-v.ensures) in
    let below = yield-listed g.fit (yields c.in_ok-x.x c.in_ok-alias.alias c.unwrap_or-name.ensures) (in_range c.in_ok-x.ensures).1 (in_range c.in_ok-alias.ensures).1 in
    (omega (arith, below), record { fine = g.fine; fit = lower (omega arith) (omega arith) (omega arith) g.fit })

pub returns : goal.returns
returns c =
    let a = c.args in
    let o = past (past (past (begun a.head.start a.head.end c.requires) c.in_ok-x.ensures) c.in_ok-alias.ensures) c.in_ok-v.ensures in
    let name = yields c.in_ok-x.x c.in_ok-alias.alias c.unwrap_or-name.ensures in
    let below = yield-listed (ready {i = 3} (omega arith) c.requires o).fit name (in_range c.in_ok-x.ensures).1 (in_range c.in_ok-alias.ensures).1 in
    passed (did (λ id u w. last (ok w)) 0 (omega arith) (omega arith) (omega arith) o (as-steps _ c.bind_anew.ensures (λ id s. rw (named-index c.next_any.new.walk.rowless c.unwrap_or-name.result below, name))))
