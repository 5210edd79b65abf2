-- The loop's invariant: the list has what the events passed bind, with what their barriers carry.
use Rattle.std.proofs.Common.{◌≡◌, refl, ◌∙◌, arith}
use Rattle.lists_fill.proofs.Weaving.{weave-begin, weave_turn}
use Rattle.lists_fill.proofs.Carried.weave_all.Goals as goal

pub loop-i-init : goal.loop-i-init
loop-i-init c =
    record {
      still = record { list = refl; stamps = refl };
      weaving = weave-begin c.requires.ready.fits;
    }

pub loop-i-preserved : goal.loop-i-preserved
loop-i-preserved c =
    let l = c.loop-i.invariant in
    let s = c.weave-c.ensures.still in
    record {
      still = record { list = s.list ∙ l.still.list; stamps = s.stamps ∙ l.still.stamps };
      weaving = weave_turn l.weaving (λ id. rw (c.logged_at.ensures id) at (c.weave-c.ensures.weaves id));
    }

pub returns-clause-makes : goal.returns-clause-makes
returns-clause-makes c =
    let all : c.loop-i.i ≡ c.args.n = omega arith in
    rw all at c.loop-i.invariant.weaving.makes
