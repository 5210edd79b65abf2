-- The use of a variable is noted under its own id, that of a name under the name's; no other sort is an answer.
use Rattle.semantics.specs.Log.{answer_of}
use Rattle.semantics.specs.Lists.{notes}
use Rattle.lists_fill.specs.Said.{id_in}
use Rattle.entries.proofs.Chains.{none-noted}
use Rattle.lists_fill.proofs.Sorts.{no_answer}
use Rattle.lists_fill.proofs.add_answer.Goals as goal

pub returns-in-Variable : goal.returns-in-Variable
unfolding answer_of notes
returns-in-Variable c = rw c.in-Variable.is c.put.ensures

pub returns-in-Name : goal.returns-in-Name
unfolding answer_of notes
returns-in-Name c = rw (c.in-Name.is, ← c.use_of.ensures) c.put-in-Name.ensures

pub returns-in_default : goal.returns-in_default
unfolding notes
returns-in_default c =
    none-noted c.requires.sound (λ es. rw (no_answer (id_in c.args.uses.now) c.args.e c.in_default.not-Variable c.in_default.not-Name))
