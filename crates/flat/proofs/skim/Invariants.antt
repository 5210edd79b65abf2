-- A turn takes a plain head, whose parts join the row with a level of room less, or has an expression read whole. What is left tells the
-- answer unless room runs out (`Skimmed`), and each turn ends later, or leaves one less: the measure counts more for a word than a head
-- has parts.
use Prim.Native.Nat.{◌+◌, ◌*◌, ◌-◌}
use lib.ListN.{length}
use Rattle.heads.specs.Answer.{words_of}
use Rattle.flat.proofs.Skimmed.{Skimmed}
use Rattle.flat.proofs.skim.Given as goal

abbrev pub invariant-loop-left : goal.invariant-loop-left
invariant-loop-left l = Skimmed l.section.names (words_of l.section) l.at l.room l.n l.p l.left l.d

abbrev pub decreases-loop-left : goal.decreases-loop-left
decreases-loop-left l = (length (words_of l.section) - l.p) * 17179869184 + l.left
