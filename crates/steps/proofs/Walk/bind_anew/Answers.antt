-- The name is bound, and E1002 follows where the scope binds it already and warnings are on (`anew`, `anew-not`, `anew-no`).
use native.Mathlib.Omega.{arith}
use mathlib.Core.Path.{ap}
use Rattle.rowless.specs.Rowless.{places}
use Rattle.steps.proofs.Numbers.{row-number}
use Rattle.steps.proofs.Shown.{places_small}
use Rattle.steps.proofs.Placed.{anew, anew-not, anew-no}
use Rattle.steps.proofs.Held.{more-costs, roomy-in}
use Rattle.steps.proofs.Walk.bind_anew.Goals.{else-again-via-then-again+else-context, else-again-via-else-again}
use Rattle.steps.proofs.Walk.bind_anew.Goals as goal

pub name-name-requires : goal.name-name-requires
name-name-requires c =
    let y = c.bind_name-again.ensures in
    let f = y.costs.fit 2 0 0 c.requires.1.fit in
    (omega (arith, c.requires.0, ap places y.rowless), f.numbered)

pub shadow-requires : goal.shadow-requires
shadow-requires c =
    let f = c.bind_name-again.ensures.costs.fit 2 0 0 c.requires.1.fit in
    let n = c.name-name.ensures.marked in
    record { marked = n.0; indexed = λ h. omega (arith, n.1 h, places_small c.requires.1.fine f) }

pub say-requires : goal.say-requires
say-requires c =
    let p = c.requires.1 in roomy-in p.fine (c.bind_name-again.ensures.costs.fit 2 0 0 p.fit)

pub returns-then-context : goal.returns-then-context
returns-then-context c =
    rw (row-number c.args.kind)
    (anew _ _ c.requires c.bind_name-again.ensures _ c.name-name.ensures.marked.0 c.name-name.ensures.name c.if-again.true c.if-context.true (rw c.shadow.ensures at c.say.ensures))

pub returns-else-again : goal.returns-else-again
returns-else-again c =
    let y = c.bind_name-again.ensures in
    rw (row-number c.args.kind)
    (more-costs (omega arith) (omega arith) (omega arith)
    (elim c.else-again.branch [ else-again-via-then-again+else-context w ↦ anew-not _ _ c.requires y (rw w.if-context.false) | else-again-via-else-again w ↦ anew-no _ _ c.requires y w.if-again.false ]))
