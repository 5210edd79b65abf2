-- A name that is no use is passed by. Any other is recorded, and E1001 is said if it is not visible and is not `*`.
use mathlib.Core.Path.{sym, ◌∙◌}
use native.Mathlib.Numerals.{add-one}
use Rattle.steps.proofs.Held.{roomy-in, as-steps, says-step, find-uncounted, always}
use Rattle.steps.proofs.Shown.{unseen, once-seen, spared}
use Rattle.steps.proofs.Heads.{hushed-use, missed-use, star-use, seen-use}
use Rattle.steps.proofs.Walk.use_name.Goals.{else-is_none-via-then-is_none+else-ne, else-is_none-via-else-is_none}
use Rattle.steps.proofs.Walk.use_name.Goals as goal

pub returns-then-is_hushed : goal.returns-then-is_hushed
returns-then-is_hushed c =
    hushed-use c.args.x (sym c.is_hushed.ensures ∙ c.if-is_hushed.true)

pub say-requires : goal.say-requires
say-requires c =
    let p = c.requires.1 in roomy-in p.fine (c.record_name.ensures.fit 1 1 1 p.fit)

pub returns-then-ne : goal.returns-then-ne
returns-then-ne c =
    missed-use c.args.x c.requires.0 (c.record_name.ensures.fit 1 1 1 c.requires.1.fit) (sym c.is_hushed.ensures ∙ c.if-is_hushed.false) c.record_name.ensures (unseen _ _ c.find.ensures c.if-is_none.ensures) (spared c.args.x c.args.context.now.star c.if-ne.ensures) (as-steps _ (says-step c.say.ensures (λ id l. always _ _ l) (λ id. find-uncounted _)) (λ id s. rw (add-one c.args.x)))

pub returns-else-is_none : goal.returns-else-is_none
returns-else-is_none c =
    let u = sym c.is_hushed.ensures ∙ c.if-is_hushed.false in
    elim c.else-is_none.branch [
      | else-is_none-via-then-is_none+else-ne w ↦ star-use c.args.x c.requires.0 (c.record_name.ensures.fit 1 1 1 c.requires.1.fit) u c.record_name.ensures (unseen _ _ c.find.ensures w.if-is_none.ensures) (spared c.args.x c.args.context.now.star w.if-ne.ensures)
      | else-is_none-via-else-is_none w ↦ seen-use c.args.x c.requires.0 (c.record_name.ensures.fit 1 1 1 c.requires.1.fit) u c.record_name.ensures (once-seen _ _ c.find.ensures w.if-is_none.ensures)
    ]
