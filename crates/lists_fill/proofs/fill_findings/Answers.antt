-- The loop's invariant: the list has the findings of the events passed.
use native.Mathlib.Omega.{arith}
use mathlib.Core.List.{flat_map, append-nil}
use Rattle.semantics.specs.Log.{find_of, finds_in}
use Rattle.steps.specs.Said.{events}
use Rattle.lists_fill.specs.Said.{events_in}
use Rattle.entries.proofs.Adding.{from-none}
use Rattle.lists_fill.proofs.Adding.{begin, turn, finish, next-after}
use Rattle.lists_fill.proofs.fill_findings.Goals as goal

pub loop-i-init : goal.loop-i-init
unfolding events_in events flat_map finds_in
loop-i-init c =
    begin (λ id es. append-nil es)

pub loop-i-preserved : goal.loop-i-preserved
unfolding finds_in
loop-i-preserved c =
    turn c.loop-i.invariant c.loop-i-test.true (λ id. rw (c.logged_at.ensures id) at (c.add_finding-m.ensures id)) (next-after find_of _ _)

pub returns : goal.returns
unfolding events_in events flat_map finds_in
returns c =
    let b = finish c.loop-i.invariant c.loop-i-test.false in (omega (arith, (b (λ x. x)).few), λ id. from-none (b id))
