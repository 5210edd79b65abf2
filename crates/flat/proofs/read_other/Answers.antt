-- What `read_form` read, where no pattern and no items follow.
use Rattle.std.proofs.Common.{refl, sym, ◌∙◌}
use Rattle.refusal.proofs.Handed.{handed}
use Rattle.flat.specs.Plain.{Simple}
use Rattle.flat.proofs.read_other.Goals as goal

pub returns-in_err-form : goal.returns-in_err-form
returns-in_err-form c = rw (handed _ _ c.from_residual.ensures) c.in_err-form.ensures.takes.same

pub returns-then-items-eq0 : goal.returns-then-items-eq0
returns-then-items-eq0 c =
    let r = c.in_ok-form.ensures in
    rw c.kids.ensures
    (c.in_ok-form.form, (Simple.other (sym c.has_pattern.ensures ∙ c.if-has_pattern.false) (sym c.items.ensures ∙ c.if-items-eq0.true), (r.takes.same, record { rest = refl; longer = r.longer; within = r.takes.within })))
