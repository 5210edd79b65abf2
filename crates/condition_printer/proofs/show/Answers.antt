-- The text stands at the front of the scratch page; its length decides, and it is copied (`Showing`).
use Rattle.std.proofs.Common.{◌≡◌, ◌∙◌, refl, arith}
use lib.ListN.{take}
use Rattle.condition_printer.proofs.Laid.{laid}
use Rattle.condition_printer.proofs.Showing.{shown-short, shown-fits}
use Rattle.condition_printer.proofs.show.Goals as goal

pub returns-then-page-n-clause-answer : goal.returns-then-page-n-clause-answer
returns-then-page-n-clause-answer c =
    (shown-short c.args.page.now _ (laid c.args.s.now c.args.p c.requires).conds (rw c.new-text.ensures.empty at c.print_all.ensures.wrote) c.if-page-n.true).0

pub returns-then-page-n-clause-page : goal.returns-then-page-n-clause-page
returns-then-page-n-clause-page c =
    (shown-short c.args.page.now _ (laid c.args.s.now c.args.p c.requires).conds (rw c.new-text.ensures.empty at c.print_all.ensures.wrote) c.if-page-n.true).1

pub returns-clause-answer : goal.returns-clause-answer
returns-clause-answer c =
    (shown-fits c.args.page.now _ (laid c.args.s.now c.args.p c.requires).conds (rw c.new-text.ensures.empty at c.print_all.ensures.wrote) c.if-page-n.false refl).0

pub returns-clause-page : goal.returns-clause-page
returns-clause-page c =
    let name = c.print_all.ensures.lent ∙ c.new-text.ensures.lent in
    let e : c.copy_from_slice.new.self ≡ take c.print_all.new.page.end c.print_all.new.page.bytes.now = grind (arith, name) in
    (shown-fits c.args.page.now _ (laid c.args.s.now c.args.p c.requires).conds (rw c.new-text.ensures.empty at c.print_all.ensures.wrote) c.if-page-n.false (rw e)).1
