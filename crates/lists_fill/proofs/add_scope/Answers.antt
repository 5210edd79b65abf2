-- A scope's four words are stored; an event of another sort adds nothing.
use Rattle.semantics.specs.Log.{scope_of}
use Rattle.entries.proofs.Adding.{none_after}
use Rattle.lists_fill.proofs.Sorts.{no-scope, one-scope}
use Rattle.lists_fill.proofs.add_scope.Goals as goal

pub returns-in-Scope : goal.returns-in-Scope
unfolding scope_of
returns-in-Scope c id =
    rw (c.in-Scope.is, c.set_entry.ensures) (one-scope _ _ _ _ _ _ c.requires)

pub returns-in_default : goal.returns-in_default
returns-in_default c id =
    none_after (no-scope id c.args.e c.in_default.not-Scope)
