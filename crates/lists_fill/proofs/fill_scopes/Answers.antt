-- The loop's invariant: the list has the scopes of the events passed.
use mathlib.Core.List.{flat_map, append-nil}
use Rattle.semantics.specs.Log.{scope_of, scopes_in}
use Rattle.steps.specs.Said.{events}
use Rattle.lists_fill.specs.Said.{events_in}
use Rattle.entries.proofs.Adding.{from-none}
use Rattle.lists_fill.proofs.Adding.{begin, turn, finish, next-after}
use Rattle.lists_fill.proofs.fill_scopes.Goals as goal

pub loop-i-init : goal.loop-i-init
unfolding events_in events flat_map scopes_in
loop-i-init c =
    begin (λ id es. append-nil es)

pub loop-i-preserved : goal.loop-i-preserved
unfolding scopes_in
loop-i-preserved c =
    turn c.loop-i.invariant c.loop-i-test.true (λ id. rw (c.logged_at.ensures id) at (c.add_scope-m.ensures id)) (next-after scope_of _ _)

pub returns : goal.returns
unfolding events_in events flat_map scopes_in
returns c id =
    from-none (finish c.loop-i.invariant c.loop-i-test.false id)
