-- Only a scope has a barrier above it, and only where it is a Root.
use Rattle.std.proofs.Common.{sym}
use Rattle.lists_fill.proofs.Sorts.{no-barrier, not-root, root}
use Rattle.lists_fill.proofs.root_of.Goals as goal

pub returns-then-kind : goal.returns-then-kind
returns-then-kind c id = rw c.in-Scope.is (sym (root id _ _ _ _ c.if-kind.true))

pub returns-else-kind : goal.returns-else-kind
returns-else-kind c id = rw c.in-Scope.is (sym (not-root id _ _ _ _ c.if-kind.false))

pub returns-in_default : goal.returns-in_default
returns-in_default c id = sym (no-barrier id c.args.e c.in_default.not-Scope)
