-- The entry that is found along the chain of the id's slot is the only one with that id; where none is found there is none (`found-place`).
use Rattle.std.proofs.Common.{rules, ap, sym, ◌∙◌}
use lib.Dec.{eqb}
use borrow.Author.Tests.{eqb-true}
use Rattle.rows.specs.Slot.{slot_of}
use Rattle.entries.specs.Chains.{id_at}
use Rattle.entries.proofs.Chains.{found-place}
use Rattle.entries.proofs.Recorded.place.Goals as goal

pub returns : goal.returns
returns c =
    let r = c.args.self.now in
    let f = id_at r.list.now in
    found-place r c.args.id c.newest_in.result c.requires
    (c.newest_in.ensures (slot_of r.mult r.slots) f r.made (λ i. eqb (f i) c.args.id)
    (record {
      chained = c.requires.hung.chained;
      said = λ i b l s. search rules;
      inside = λ i q. ap (slot_of r.mult r.slots) (eqb-true _ _ q) ∙ sym c.slot.ensures.slot;
    }))
    c.unwrap_or.ensures
