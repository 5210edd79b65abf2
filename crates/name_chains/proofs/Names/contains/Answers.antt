-- The newest name with the text, along the chain of its slot, tells whether it is one of the names.
use Rattle.std.proofs.Common.{rules, length, ap, sym, ◌∙◌}
use Rattle.tables.specs.Distinct.{same_bytes}
use Rattle.tables.proofs.Fresh.{same-eq, same-pointwise}
use Rattle.name_chains.specs.Slot.{slot_of}
use Rattle.name_chains.specs.Hung.{text_in, itself, slot_in}
use Rattle.name_chains.proofs.Laws.{named}
use Rattle.name_chains.proofs.Names.contains.Goals as goal

pub returns : goal.returns
returns c =
    let a = c.args in
    let names = a.self.now in
    let slot = slot_of a.slots.mult a.slots.count in
    let f = text_in names.bytes.now names.places.now in
    c.is_some.ensures
    ∙ named names.bytes.now names.places.now a.text.now c.newest_in.result
    (c.newest_in.ensures itself (slot_in slot names.bytes.now names.places.now) (length names.places.now) (λ i. same_bytes a.text.now (f i))
    (record {
      chained = c.requires.hung.chained;
      said = λ i b l s. same-pointwise a.text.now (f i) ∙ search rules;
      inside = λ i q. ap slot (sym (same-eq a.text.now (f i) q)) ∙ sym c.requires.here;
    }))
