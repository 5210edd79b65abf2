-- Where nothing is minded, nothing is told (`minds-no-kind`).
use mathlib.Core.Path.{sym, ◌∙◌}
use Rattle.steps.proofs.Heads.{none_told}
use Rattle.steps.proofs.Numbers.{minds-no-kind}
use Rattle.steps.proofs.Walk.at_row.Goals.{else-eq-via-then-eq+else-k, else-eq-via-else-eq, else-eq-2-via-then-eq-2+else-k-2, else-eq-2-via-else-eq-2}
use Rattle.steps.proofs.Walk.at_row.Goals as goal

pub returns-else-eq-2 : goal.returns-else-eq-2
returns-else-eq-2 c =
    λ i a b.
    none_told
    (minds-no-kind c.args.set i c.args.x c.args.k a b (sym c.list_code.ensures ∙ c.in_default.is)
    (λ e. elim c.else-eq.branch [ else-eq-via-then-eq+else-k w ↦ w.if-k.false | else-eq-via-else-eq w ↦ absurd (cc (e, w.if-eq.false, c.eq.ensures)) ])
    (λ e. elim c.else-eq-2.branch [ else-eq-2-via-then-eq-2+else-k-2 w ↦ w.if-k-2.false | else-eq-2-via-else-eq-2 w ↦ absurd (cc (e, w.if-eq-2.false, c.eq-else-eq.ensures)) ]))
