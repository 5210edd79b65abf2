-- The loops' invariants: the hash of all words is that of those that are left, from the present one on; then so of the bytes after them.
use Rattle.std.proofs.Common.{◌≡◌, map, drop}
use Rattle.words.specs.Words.{words}
use Rattle.name_chains.specs.Slot.{hash_from, hash_of}
use Rattle.words.proofs.Words.{word_of}
use Rattle.name_chains.proofs.hash.Given as goal

abbrev pub invariant-loop-bytes : goal.invariant-loop-bytes
invariant-loop-bytes l = hash_from l.mult l.mult (words l.text) ≡ hash_from l.mult l.hash (map word_of (drop l.bytes-index l.whole))

abbrev pub invariant-loop-byte : goal.invariant-loop-byte
invariant-loop-byte l = hash_of l.mult l.text ≡ hash_from l.mult l.hash (drop l.byte-index l.rest)
