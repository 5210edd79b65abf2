-- By the clause's kind, which its first word tells.
use Rattle.std.proofs.Common.{◌∙◌, sym, arith}
use Rattle.words.proofs.Words.{length-words}
use Rattle.heads.specs.Answer.{words_of}
use Rattle.condition_printer.proofs.Clauses.{where-stands, other-kind, no-kind}
use Rattle.condition_printer.proofs.lines.place_of.Goals as goal

pub returns-in_default : goal.returns-in_default
returns-in_default c =
    let a = c.args in no-kind (words_of a.section.now) a.section.now.names a.at c.requires.0 (rw c.word.ensures at c.in_default.ensures)

pub overflow_add-result : goal.overflow_add-result
overflow_add-result c =
    let a = c.args in
    let code = rw c.in-Where.is at c.in-Ok.ensures in
    let stands = where-stands (words_of a.section.now) a.section.now.names a.at c.requires.0 (sym (code ∙ c.word.ensures)) in
    omega (arith, stands.within, length-words a.section.now.bytes.now)

pub returns-in-Where : goal.returns-in-Where
returns-in-Where c =
    let a = c.args in
    let code = rw c.in-Where.is at c.in-Ok.ensures in
    where-stands (words_of a.section.now) a.section.now.names a.at c.requires.0 (sym (code ∙ c.word.ensures))

pub returns-in_default-kind : goal.returns-in_default-kind
returns-in_default-kind c =
    let a = c.args in
    let d = c.in_default-kind in
    other-kind (words_of a.section.now) a.section.now.names a.at c.requires.0 c.in-Ok.kind (c.in-Ok.ensures ∙ c.word.ensures) d.not-Where d.not-With d.not-SortedWith
