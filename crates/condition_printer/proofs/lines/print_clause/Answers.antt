-- The clause ends where its reader says; a condition and a line feed are written where it has one (`ClauseLines`).
use Rattle.std.proofs.Common.{refl, ◌∙◌}
use Rattle.heads.specs.Answer.{words_of}
use Rattle.condition_printer.proofs.ClauseLines.{line-none, line-fits, line-put}
use Rattle.condition_printer.proofs.lines.print_clause.Goals as goal

pub returns-in_default : goal.returns-in_default
returns-in_default c =
    let a = c.args in
    let read = rw c.unwrap-next.ensures at c.read.ensures in
    record { put = line-none (words_of a.section.now) a.section.now.names a.at a.page.now.end a.page.now.bytes.now c.requires c.unwrap-next.result read.same read.from read.within (rw c.in_default.is at c.place_of.ensures); lent = refl }

pub put-requires : goal.put-requires
put-requires c =
    let a = c.args in
    let read = rw c.unwrap-next.ensures at c.read.ensures in
    let stands = rw c.in-Some.is at c.place_of.ensures in
    line-fits (words_of a.section.now) a.section.now.names a.at a.page.now.end a.page.now.bytes.now c.requires c.unwrap-next.result read.same read.from read.within c.in-Some.place stands c.print.ensures.put

pub returns : goal.returns
returns c =
    let a = c.args in
    let read = rw c.unwrap-next.ensures at c.read.ensures in
    let stands = rw c.in-Some.is at c.place_of.ensures in
    record {
      put = line-put (words_of a.section.now) a.section.now.names a.at a.page.now.end a.page.now.bytes.now c.requires c.unwrap-next.result read.same read.from read.within c.in-Some.place stands c.print.ensures.put c.put.ensures.wrote;
      lent = c.put.ensures.lent ∙ c.print.ensures.lent;
    }
