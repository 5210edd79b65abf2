-- The clauses of the arm, from its third word on (`ClauseLines`).
use Rattle.heads.specs.Answer.{words_of}
use Rattle.condition_printer.proofs.ClauseLines.{arm-ready, arm-put}
use Rattle.condition_printer.proofs.lines.print_arm.Goals as goal

pub print_clauses-requires : goal.print_clauses-requires
print_clauses-requires c =
    let a = c.args in rw c.word.ensures (arm-ready (words_of a.section.now) a.section.now.names a.at a.page.now.end a.page.now.bytes.now c.requires)

pub returns : goal.returns
returns c =
    let a = c.args in
    let u = rw c.word.ensures at c.print_clauses.ensures in
    record { put = arm-put (words_of a.section.now) a.section.now.names a.at a.page.now.end a.page.now.bytes.now c.requires u.put; lent = u.lent }
