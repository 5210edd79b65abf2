-- A refusal is handed up.
use Rattle.std.proofs.Common.{◌∙◌}
use Rattle.sheet.proofs.Causes.{refusal_told}
use Rattle.condition_printer.proofs.Laid.{not-laid}
use Rattle.condition_printer.proofs.Showing.{shown-refused}
use Rattle.condition_printer.proofs.conditions.Goals as goal

pub returns-in_err-p-clause-answer : goal.returns-in_err-p-clause-answer
returns-in_err-p-clause-answer c =
    refusal_told _ _ c.from_residual.ensures ∙ (shown-refused _ c.args.page.now (not-laid c.args.s.now c.in_err-p.ensures)).0

pub returns-in_err-p-clause-page : goal.returns-in_err-p-clause-page
returns-in_err-p-clause-page c =
    (shown-refused _ c.args.page.now (not-laid c.args.s.now c.in_err-p.ensures)).1
