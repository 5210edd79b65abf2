-- How many expressions 25 clauses and arms have, sort keys and what is not resolved too (document 02, CR 6).
use Rattle.std.specs.Prelude.{ℕ, ◌+◌, List, [], ◌∷◌}
use Rattle.expr.specs.Tree.{done}
use Rattle.expr.specs.Olds.{olds_e, olds, olds_s}
use Rattle.clauses.specs.Tree.{Clause, opening, reading, with', return, unwind, call, Arm, arm, exprs, keys_of}

unfoldable pub olds_c : Clause → ℕ
olds_c (opening o a b s) = olds_s s
olds_c (reading r a b es) = olds es
olds_c (with' a b ps f ks) = olds (exprs ps f) + olds (keys_of ks)
olds_c (return a b ps ks) = olds (exprs ps done) + olds (keys_of ks)
olds_c (unwind a b v e) = olds_e e
olds_c (call a b es ys) = olds es

unfoldable pub olds_cs : List Clause → ℕ
olds_cs [] = 0
olds_cs (c ∷ cs) = olds_c c + olds_cs cs

unfoldable pub olds_a : Arm → ℕ
olds_a (arm a b cs) = olds_cs cs

unfoldable pub olds_as : List Arm → ℕ
olds_as [] = 0
olds_as (x ∷ xs) = olds_a x + olds_as xs
