-- The multiplier is made, the entry is hung up, and its two words are written.
use Rattle.std.proofs.Common.{◌∙◌, refl, add-one}
use Rattle.std.proofs.lemmas.List.{length-set}
use Rattle.rowless.proofs.Entries.{adds, re-room, re-adds}
use Rattle.rowless.proofs.Rowless.add.Goals as goal

pub choose-requires : goal.choose-requires
choose-requires c = (c.requires.0, c.requires.1.sound)

pub returns : goal.returns
returns c =
    re-adds c.choose.ensures
    (adds c.args.v c.args.place c.slot.result _ _ (re-room c.requires.1 c.choose.ensures)
    (record { hung = refl; listed = refl; slots = c.hang.ensures.kept; room = length-set _ _ _ ∙ length-set _ _ _ }) refl (add-one _) c.hang.ensures refl c.slot.ensures.slot refl)
