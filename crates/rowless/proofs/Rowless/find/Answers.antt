-- The entry that is found along the chain of the variable's slot is the newest with that variable.
use Rattle.std.proofs.Common.{rules, ap, sym, ◌∙◌}
use lib.Dec.{eqb}
use borrow.Author.Tests.{eqb-true}
use Rattle.rows.specs.Slot.{slot_of}
use Rattle.rowless.specs.Rowless.{variable_at, most}
use Rattle.rowless.proofs.Entries.{finds}
use Rattle.rowless.proofs.Rowless.find.Goals as goal

pub returns : goal.returns
returns c =
    let r = c.args.self.now in
    let f = variable_at r.entries.now in
    finds r c.args.v c.newest_in.result
    (c.newest_in.ensures (slot_of r.mult (most r)) f r.count (λ i. eqb (f i) c.args.v)
    (record {
      chained = c.requires.chained;
      said = λ i b l s. search rules;
      inside = λ i q. ap (slot_of r.mult (most r)) (eqb-true _ _ q) ∙ sym c.slot.ensures.slot;
    }))
