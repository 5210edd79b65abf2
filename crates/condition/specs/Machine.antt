-- The entries of tokens, from the last to the first. Operators that wait for their left operand stand in a stack with their ranks: ten for each
-- level of brackets, and the operator's level + 1.
use Rattle.std.specs.Prelude.{ℕ, suc, pred, ◌+◌, ◌*◌, List, [], ◌∷◌, ltb}
use Rattle.condition.specs.Cond.{binary_level, unary_level}
use Rattle.condition.specs.Tokens.{Tok, open', close', bad, number, un, bin, pick}

-- operators that wait, the last on top
pub data Stack : Type 0 where
  empty : Stack
  waits : (rank op : ℕ) → Stack → Stack

-- a stack and the entries so far
pub record Work : Type 0 where
  pub stack : Stack
  pub out : List ℕ

-- the two together
abbrev pub work : Stack → List ℕ → Work
work st out = record { stack = st; out = out }

-- the operators of a rank above the limit become entries
unfoldable pub unwind : ℕ → Stack → List ℕ → Work
unwind limit empty out = work empty out
unwind limit (waits k o st) out = pick (ltb limit k) (unwind limit st (15 ∷ o ∷ out)) (work (waits k o st) out)

-- an operator's rank
abbrev pub rank_of : ℕ → ℕ → ℕ
rank_of depth level = depth * 10 + level + 1

-- how deep it is before a token
abbrev pub depth_at : Tok → ℕ → ℕ
depth_at open' d = pred d
depth_at close' d = suc d
depth_at bad d = d
depth_at (number n) d = d
depth_at (un o) d = d
depth_at (bin o) d = d

-- what a token does
abbrev pub turn : Tok → ℕ → Work → Work
turn open' d w = unwind (d * 10) w.stack w.out
turn close' d w = w
turn bad d w = w
turn (number n) d w = work w.stack (0 ∷ n ∷ w.out)
turn (un o) d w = let u = unwind (rank_of d (unary_level o)) w.stack w.out in work u.stack (16 ∷ o ∷ u.out)
turn (bin o) d w = let u = unwind (rank_of d (binary_level o)) w.stack w.out in work (waits (rank_of d (binary_level o)) o u.stack) u.out

-- all tokens, and then what still waits
unfoldable pub run : List Tok → ℕ → Work → List ℕ
run [] d w = (unwind 0 w.stack w.out).out
run (t ∷ ts) d w = run ts (depth_at t d) (turn t d w)

-- how many entries a token makes
abbrev pub weight : Tok → ℕ
weight open' = 0
weight close' = 0
weight bad = 0
weight (number n) = 1
weight (un o) = 1
weight (bin o) = 1

-- how many all of them make
unfoldable pub count_of : List Tok → ℕ
count_of [] = 0
count_of (t ∷ ts) = weight t + count_of ts
