-- The loop's invariant: the search stands in the slot's chain, and what is sought is sought from there on.
use Rattle.std.proofs.Common.{◌≡◌, suc, ◌-◌, true, sym, ◌∙◌, ap, arith}
use Rattle.rows.specs.Rows.{newest}
use Rattle.rows.proofs.Chains.{at-head, at-prev, told, prev-le}
use Rattle.rows.proofs.newest_in.Goals as goal

pub loop-next-init : goal.loop-next-init
loop-next-init g c = at-head c.requires.below

pub is-requires : goal.is-requires
is-requires g c =
    let r = c.requires in
    r.can (c.loop-next.next - 1) (omega (arith, c.loop-next.invariant.le r.g r.f r.n r.chained))

pub returns-then-is : goal.returns-then-is
returns-then-is g c = λ u f n test t.
    let e : suc (c.loop-next.next - 1) ≡ c.loop-next.next = omega arith in
    e ∙ sym (told c.loop-next.invariant c.loop-next-test.true u f n test true t (rw c.if-is.true at c.is.ensures))

pub bounds-chains-m : goal.bounds-chains-m
bounds-chains-m g c =
    let r = c.requires in
    omega (arith, r.chained.room, c.loop-next.invariant.le r.g r.f r.n r.chained)

pub loop-next-smaller : goal.loop-next-smaller
loop-next-smaller g c =
    let r = c.requires in
    omega (arith, prev-le c.loop-next.invariant c.loop-next-test.true r.g r.f r.n r.chained)

pub loop-next-preserved : goal.loop-next-preserved
loop-next-preserved g c = at-prev c.loop-next.invariant c.loop-next-test.true (rw c.if-is.false at c.is.ensures)

pub returns : goal.returns
unfolding newest
returns g c = λ u f n test t.
    let z : c.loop-next.next ≡ 0 = omega arith in
    sym (c.loop-next.invariant.same u f n test t ∙ ap (newest test) z)
