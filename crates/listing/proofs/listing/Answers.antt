-- Each size has scratch for every word.
use native.Mathlib.Omega.{arith}
use Rattle.words.proofs.Words.{length-words}
use Rattle.listing.proofs.listing.Goals as goal

pub list_with-requires : goal.list_with-requires
list_with-requires c = (omega (arith, length-words c.args.s.now), omega arith)

pub list_with-requires-in-113-to-256 : goal.list_with-requires-in-113-to-256
list_with-requires-in-113-to-256 c = (omega (arith, length-words c.args.s.now), omega arith)

pub list_with-requires-in-257-to-512 : goal.list_with-requires-in-257-to-512
list_with-requires-in-257-to-512 c = (omega (arith, length-words c.args.s.now), omega arith)
