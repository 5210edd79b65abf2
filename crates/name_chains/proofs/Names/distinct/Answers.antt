-- The loop's invariant: the first i names hang in their chains, and the whole is decided by those that are left.
use Rattle.std.proofs.Common.{◌∙◌, add-one, arith}
use Rattle.name_chains.proofs.Laws.{first-hung, fresh-next, one_more}
use Rattle.name_chains.proofs.Names.distinct.Goals as goal

pub contains-requires-clause-hung : goal.contains-requires-clause-hung
contains-requires-clause-hung c =
    first-hung _ _ (omega arith) c.loop-i.invariant.hung

pub loop-i-preserved : goal.loop-i-preserved
loop-i-preserved c = record {
  hung = rw add-one (one_more c.loop-i.invariant.hung (rw c.text-text.ensures at c.of-slot.ensures.slot) c.hang.ensures);
  same = c.loop-i.invariant.same ∙ fresh-next _ _ c.loop-i.i c.loop-i-test.true ∙ rw (← c.text-text.ensures, ← c.if-contains.ensures);
}
