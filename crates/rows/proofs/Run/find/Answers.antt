-- The row that is found along the chain of the variable's slot is the newest with that variable.
use Rattle.std.proofs.Common.{rules, ap, sym, ◌∙◌}
use lib.Dec.{eqb}
use borrow.Author.Tests.{eqb-true}
use Rattle.words.specs.Words.{words}
use Rattle.rows.specs.Slot.{slot_of}
use Rattle.rows.specs.Rows.{id_at}
use Rattle.rows.proofs.Run.find.Goals as goal

pub returns : goal.returns
returns c =
    let a = c.args in
    let f = id_at (words a.self.now.bytes.now) a.self.now.first in
    c.newest_in.ensures (slot_of a.mult a.m) f a.self.now.count (λ i. eqb (f i) a.variable)
    (record {
      chained = c.requires.chained;
      said = λ i b l s. search rules;
      inside = λ i q. ap (slot_of a.mult a.m) (eqb-true _ _ q) ∙ sym c.slot.ensures.slot;
    })
