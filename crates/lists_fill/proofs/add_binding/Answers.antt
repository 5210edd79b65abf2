-- A binding is put; an event of another sort makes none.
use Rattle.semantics.specs.Log.{bind_of}
use Rattle.entries.proofs.Stamping.{none_made}
use Rattle.lists_fill.proofs.Sorts.{no-binding}
use Rattle.lists_fill.proofs.add_binding.Goals as goal

pub returns-in-Binding-clause-makes : goal.returns-in-Binding-clause-makes
unfolding bind_of
returns-in-Binding-clause-makes c id = rw c.in-Binding.is c.put.ensures.makes

pub returns-in_default-clause-makes : goal.returns-in_default-clause-makes
returns-in_default-clause-makes c id = rw (no-binding id c.args.e c.in_default.not-Binding) (none_made c.requires)
