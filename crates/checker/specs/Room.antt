-- Cause 8: "a lent list with fewer entries than the sheet has words", or than its answer needs (document 02, CR 2). Entries of a flat list are
-- its length divided by their width.
use Rattle.std.specs.Prelude.{ℕ, zero, suc, ◌/◌, Bool, false, leb}

-- room for n entries
unfoldable pub enough : (n len width : ℕ) → Bool
enough n len zero = false
enough n len (suc w) = leb n (len / suc w)
