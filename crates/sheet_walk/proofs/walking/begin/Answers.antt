-- All numbers of the walk are set, the names are known by their texts, and the Root is said where it is wanted (`begins`).
use Rattle.sheet_walk.proofs.Begun.{begin-roomy, begin-few, begins}
use Rattle.sheet_walk.proofs.walking.begin.Goals as goal

pub restart-requires : goal.restart-requires
restart-requires c = ((c.requires.set.short, begin-few c.requires), c.requires.fresh)

pub say_wanted-requires : goal.say_wanted-requires
say_wanted-requires c = rw c.restart.ensures.same (begin-roomy c.requires c.restart.new.self.rowless)

pub returns : goal.returns
returns c = begins c.requires c.restart.ensures.begins (rw c.restart.ensures.same at c.say_wanted.ensures)
