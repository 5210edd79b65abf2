-- The head's lines, and the arms' after them, each within its part of the sheet; 15 bytes a word are room enough (`Laid`).
use Rattle.std.proofs.Common.{◌∙◌, arith}
use Rattle.condition_printer.proofs.Laid.{laid, head-ready, arms-ready, all-put}
use Rattle.condition_printer.proofs.print_all.Goals as goal

pub section-head-requires : goal.section-head-requires
section-head-requires c =
    let i = (laid c.args.s.now c.args.p c.requires.0).places in omega (arith, i.tail, i.trailer)

pub section-arms-requires : goal.section-arms-requires
section-arms-requires c =
    let i = (laid c.args.s.now c.args.p c.requires.0).places in omega (arith, i.trailer)

pub print_clauses-requires : goal.print_clauses-requires
print_clauses-requires c =
    head-ready (laid c.args.s.now c.args.p c.requires.0) c.section-head.ensures c.section-arms.ensures _ _ c.requires.1.0 c.requires.1.1

pub print_arms-requires : goal.print_arms-requires
print_arms-requires c =
    arms-ready (laid c.args.s.now c.args.p c.requires.0) c.section-head.ensures c.section-arms.ensures c.requires.1.0 c.print_clauses.ensures.put c.requires.1.1

pub returns : goal.returns
returns c =
    record {
      wrote = all-put (laid c.args.s.now c.args.p c.requires.0) c.section-head.ensures c.section-arms.ensures c.requires.1.0 c.print_clauses.ensures.put c.print_arms.ensures.put;
      lent = c.print_arms.ensures.lent ∙ c.print_clauses.ensures.lent;
    }
