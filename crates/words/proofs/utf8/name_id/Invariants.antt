-- The loop's invariant: the bytes of s that are left, where p is to come and this is the hash, say whether s is well-formed, and its hash.
use Rattle.std.proofs.Common.{◌≡◌, drop}
use Rattle.std.proofs.Math.Option.{some}
use Rattle.words.specs.Fnv.{fnv1_of, fnv_from}
use Rattle.words.specs.Utf8.{is_utf8, goes_on, waiting}
use Rattle.words.proofs.utf8.name_id.Given as goal

abbrev pub invariant-loop-b : goal.invariant-loop-b
invariant-loop-b l = (is_utf8 l.s ≡ goes_on (drop l.b-index l.s) (some (waiting l.p))) × (fnv1_of l.s ≡ fnv_from l.hash (drop l.b-index l.s))
