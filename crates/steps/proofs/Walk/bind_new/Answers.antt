-- The name's place is found; a name that is not visible is bound there (`new-bound`), one that is stays as it is (`new-idle`).
use Rattle.steps.proofs.Shown.{unseen, once-seen}
use Rattle.steps.proofs.Moved.{new-bound, new-idle}
use Rattle.steps.proofs.Placed.{named-new}
use Rattle.steps.proofs.Held.{idle-step}
use Rattle.steps.proofs.Walk.bind_new.Goals as goal

pub find-requires : goal.find-requires
find-requires c =
    (c.place-x.ensures.costs.fit 3 3 0 c.requires.1.fit).sound

pub bind_name-requires : goal.bind_name-requires
bind_name-requires c =
    let p = c.requires.1 in let x = c.place-x.ensures in (x.below, record { fine = p.fine; fit = x.costs.fit 3 3 0 p.fit })

pub returns-then-is_none : goal.returns-then-is_none
returns-then-is_none c =
    let x = c.place-x.ensures in
    rw c.if-mode.true
    (named-new x _ (new-bound x.below (x.costs.fit 3 3 0 c.requires.1.fit) _ _ _ (unseen _ _ c.find.ensures c.if-is_none.ensures) c.bind_name.ensures.costs))

pub returns-else-is_none : goal.returns-else-is_none
returns-else-is_none c =
    let x = c.place-x.ensures in
    rw c.if-mode.true (named-new x _ {u = 0} (new-idle x.below (x.costs.fit 3 3 0 c.requires.1.fit) _ _ _ (once-seen _ _ c.find.ensures c.if-is_none.ensures)))

pub returns-else-mode : goal.returns-else-mode
returns-else-mode c =
    rw c.if-mode.false (idle-step _ (λ id s h. h))
