-- A token a turn (`Filling`); the bytes that are left fall.
use native.Mathlib.Omega.{arith}
use mathlib.Core.Path.{refl, ◌∙◌}
use Rattle.condition_reader.proofs.FillTurns.{tells, begins, roomy, turns, done}
use Rattle.condition_reader.proofs.fill.Goals as goal

pub loop-token-init : goal.loop-token-init
loop-token-init c =
    (refl, begins c.requires c.new-machine.ensures.starts)

pub take-requires-clause-room : goal.take-requires-clause-room
take-requires-clause-room c =
    roomy c.loop-token.invariant.1 (tells c.loop-token.rest.now c.in-Some.token c.in-Some.before (rw c.in-Some.is at c.last_token.ensures.found))

pub loop-token-preserved : goal.loop-token-preserved
loop-token-preserved c =
    let l = c.take.ensures.lent in
    (l.name ∙ c.loop-token.invariant.0, turns c.loop-token.invariant.1 (tells c.loop-token.rest.now c.in-Some.token c.in-Some.before (rw c.in-Some.is at c.last_token.ensures.found)) c.take.ensures)

pub returns : goal.returns
returns c =
    let f = done c.loop-token.invariant.1 (rw c.in_default.is at c.last_token.ensures.found) c.unwind.ensures in
    let l = c.unwind.ensures.lent in
    let n = l.name ∙ (c.loop-token.invariant.0 ∙ c.new-machine.ensures.lent) in
    grind (arith, f, n)
