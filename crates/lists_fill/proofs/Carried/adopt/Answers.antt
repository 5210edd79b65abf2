-- The loop's invariant: what the barrier carries up to p is bound.
use Rattle.std.proofs.Common.{refl, ◌∙◌, arith}
use Rattle.lists_fill.proofs.Weaving.{adopt-begin, adopt-none, adopt-turn, adopt-stop, adopt-done}
use Rattle.lists_fill.proofs.Carried.adopt.Goals as goal

pub returns-then-root-eq0-clause-adopts : goal.returns-then-root-eq0-clause-adopts
returns-then-root-eq0-clause-adopts c =
    adopt-none _ c.args.root c.if-root-eq0.true c.requires.met c.requires.fits

pub loop-p-init : goal.loop-p-init
loop-p-init c =
    record { still = record { list = refl; stamps = refl }; adopting = adopt-begin _ _ _ _ c.requires.met c.requires.fits }

pub loop-p-preserved : goal.loop-p-preserved
loop-p-preserved c =
    let l = c.loop-p.invariant in
    let s = c.put.ensures.still in
    record {
      still = record { list = s.list ∙ l.still.list; stamps = s.stamps ∙ l.still.stamps };
      adopting = adopt-turn _ _ _ l.adopting (omega (arith, c.if-root-eq0.false)) c.loop-p-test.true c.if-self-q.false (rw c.kind.ensures) c.put.ensures.makes;
    }

pub returns-then-self-q-clause-adopts : goal.returns-then-self-q-clause-adopts
returns-then-self-q-clause-adopts c =
    adopt-stop _ c.loop-p.invariant.adopting (omega (arith, c.if-root-eq0.false)) c.loop-p-test.true c.if-self-q.true

pub returns-clause-adopts : goal.returns-clause-adopts
returns-clause-adopts c =
    adopt-done _ c.loop-p.invariant.adopting (omega (arith, c.if-root-eq0.false)) c.loop-p-test.false
