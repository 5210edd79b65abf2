-- "word for word but for spans": every start and end of a clause or an arm becomes 0.
use Rattle.std.specs.Prelude.{map}
use Rattle.expr.specs.Erase.{erase_e, erases, erase_s}
use Rattle.clauses.specs.Tree.{Projection, projection, Keys, unsorted, sorted, Clause, opening, reading, with', return, unwind, call, Arm, arm}

unfoldable pub erase_projection : Projection → Projection
erase_projection (projection a e) = projection a (erase_e e)

unfoldable pub erase_keys : Keys → Keys
erase_keys unsorted = unsorted
erase_keys (sorted es) = sorted (erases es)

unfoldable pub erase_c : Clause → Clause
erase_c (opening o a b s) = opening o 0 0 (erase_s s)
erase_c (reading r a b es) = reading r 0 0 (erases es)
erase_c (with' a b ps f ks) = with' 0 0 (map erase_projection ps) (erases f) (erase_keys ks)
erase_c (return a b ps ks) = return 0 0 (map erase_projection ps) (erase_keys ks)
erase_c (unwind a b v e) = unwind 0 0 v (erase_e e)
erase_c (call a b es ys) = call 0 0 (erases es) ys

unfoldable pub erase_a : Arm → Arm
erase_a (arm a b cs) = arm 0 0 (map erase_c cs)
