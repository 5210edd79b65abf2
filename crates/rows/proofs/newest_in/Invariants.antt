-- The loop's invariant: the search stands in the slot's chain, and what is sought is sought from there on.
use Rattle.rows.proofs.Chains.{Sought}
use Rattle.rows.proofs.newest_in.Given as goal

abbrev pub invariant-loop-next : goal.invariant-loop-next
invariant-loop-next g l = Sought (λ i b. g.F.Fn.post l.is (i, tt {0}) b) l.m l.slot l.chains l.next

abbrev pub decreases-loop-next : goal.decreases-loop-next
decreases-loop-next g l = l.next
