-- The answer's words are stored in the place of the same use, or past the last, and then the id is hung up.
use Rattle.std.proofs.Common.{refl, add-one, arith}
use Rattle.entries.specs.Adding.{answer}
use Rattle.entries.proofs.Chains.{noted-again, noted-anew}
use Rattle.entries.proofs.Recorded.put.Goals as goal

pub returns-then-i-self : goal.returns-then-i-self
returns-then-i-self c =
    noted-anew c.args.id (answer c.args.found) c.place-i.result c.args.self.now _ c.requires c.place-i.ensures
    (record { list = refl; chains = refl; slots = refl; hung = c.hang.ensures.kept }) refl (rw c.answer_entry.ensures at c.set_entry.ensures) c.if-i-self.true (add-one _) c.slot.ensures.slot c.hang.ensures

pub returns-else-i-self : goal.returns-else-i-self
returns-else-i-self c =
    noted-again c.args.id (answer c.args.found) c.place-i.result c.args.self.now _ c.requires c.place-i.ensures
    (record { list = refl; chains = refl; slots = refl; hung = refl }) refl (rw c.answer_entry.ensures at c.set_entry.ensures) (omega (arith, c.place-i.ensures.within, c.if-i-self.false)) refl refl
