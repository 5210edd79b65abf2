-- The reader ends at the head or not (`read_to`).
use Rattle.std.proofs.Common.{arith, ap}
use lib.ListN.{length, length-take}
use Rattle.words.specs.Words.{words}
use Rattle.words.proofs.Words.{length-words}
use Rattle.tables.specs.Row.{read_row}
use Rattle.heads.specs.Got.{many}
use Rattle.heads.specs.Answer.{Reads}
use Rattle.sheet.proofs.Cutting.{part-words, held}
use Rattle.sheet.proofs.Reading.{read_to}
use Rattle.sheet.proofs.sections.read_bindings.Goals as goal

pub read_many-requires : goal.read_many-requires
read_many-requires c =
    let a = c.args in
    omega (arith, c.section-section.ensures.rows, ap length (part-words c.section-section.ensures), length-take a.p.head (words a.s.now), length-words a.s.now)

pub returns-then-eq : goal.returns-then-eq
returns-then-eq c =
    let a = c.args in
    let x = held c.section-section.ensures (λ ws names rows. Reads ws a.p.rows (many (read_row names) a.p.bindings) c.read_many.result) c.read_many.ensures in
    rw c.if-eq.true at (read_to 4 (many (read_row a.p.names) a.p.bindings) _ c.read_many.result x (omega (arith, length-take a.p.head (words a.s.now), length-words a.s.now)) c.eq.ensures)

pub returns : goal.returns
returns c =
    let a = c.args in
    let x = held c.section-section.ensures (λ ws names rows. Reads ws a.p.rows (many (read_row names) a.p.bindings) c.read_many.result) c.read_many.ensures in
    rw c.if-eq.false at (read_to 4 (many (read_row a.p.names) a.p.bindings) _ c.read_many.result x (omega (arith, length-take a.p.head (words a.s.now), length-words a.s.now)) c.eq.ensures)
