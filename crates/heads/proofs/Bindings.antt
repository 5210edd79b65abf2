-- Laws of the variables of the bindings: one row on, past the end, and none left.
use Prim.Native.Nat.{ℕ, zero, suc, ◌+◌, ◌-◌, ◌<◌, ◌≤◌}
use native.Mathlib.Omega.{arith}
use mathlib.Core.Path.{◌≡◌, refl, ap, ◌∙◌}
use mathlib.Core.Bool.{true, false, cond}
use mathlib.Core.List.{List}
use lib.Dec.{eqb}
use lib.ListN.{length, drop, get_or}
use lib.Seq.{drop-drop}
use Rattle.words.proofs.Words.{drop-word, drop-none}
use Rattle.heads.specs.Answer.{row_ids, is_in}

pub rows_more : (ws : List ℕ) (p left v : ℕ) → 0 < left → p < length ws → is_in v (row_ids left (drop p ws)) ≡ cond (eqb v (get_or ws p 0)) true (is_in v (row_ids (left - 1) (drop (p + 5) ws)))
unfolding is_in row_ids
rows_more ws p left v h lt =
    let l : left ≡ suc (left - 1) = omega arith in
    let five : p + 1 + 4 ≡ p + 5 = omega arith in
    ap (λ (k : ℕ). is_in v (row_ids k (drop p ws))) l ∙ rw (drop-word ws p lt, drop-drop 4 (p + 1) ws, five)

pub rows-past : (ws : List ℕ) (p left v : ℕ) → length ws ≤ p → is_in v (row_ids left (drop p ws)) ≡ false
unfolding is_in row_ids
rows-past ws p zero v h = refl
rows-past ws p (suc left) v h = rw (drop-none ws p h)

pub rows_none : (ws : List ℕ) (p left v : ℕ) → left ≤ 0 → is_in v (row_ids left (drop p ws)) ≡ false
unfolding is_in row_ids
rows_none ws p zero v h = refl
rows_none ws p (suc left) v h = absurd (omega arith)
