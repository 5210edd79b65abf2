-- What the tables of levels have in common.
use Prim.Native.Nat.{ℕ, suc, ◌<◌, ◌≤◌}
use native.Mathlib.Omega.{arith}
use mathlib.Core.Path.{◌≡◌, refl}
use mathlib.Core.Bool.{true, not}
use lib.Dec.{eqb, leb}
use borrow.Author.Tests.{leb-true, eqb-true, eqb-false, not-true}
use Rattle.condition.specs.Cond.{binary_level, unary_level, left_level}
use Rattle.condition.specs.Tokens.{pick}
use Rattle.condition.proofs.Tables.{allb, all-below}

pub binary-high : (o : ℕ) → o < 20 → binary_level o ≤ 8
binary-high o h = leb-true _ _ (all-below 20 (λ k. leb (binary_level k) 8) refl o h)

pub left-high : (o : ℕ) → o < 20 → left_level o ≤ 8
left-high o h = leb-true _ _ (all-below 20 (λ k. leb (left_level k) 8) refl o h)

pub unary-high : (o : ℕ) → o < 2 → unary_level o ≤ 9
unary-high o h = leb-true _ _ (all-below 2 (λ k. leb (unary_level k) 9) refl o h)

-- a left operand's level is the operator's, or for a comparison one more
pub left-low : (o : ℕ) → o < 20 → binary_level o ≤ left_level o
left-low o h = leb-true _ _ (all-below 20 (λ k. leb (binary_level k) (left_level k)) refl o h)

pub left-suc : (o : ℕ) → o < 20 → left_level o ≤ suc (binary_level o)
left-suc o h = leb-true _ _ (all-below 20 (λ k. leb (left_level k) (suc (binary_level k))) refl o h)

pub left-level : (o : ℕ) → o < 20 → left_level o ≡ pick (eqb (binary_level o) 4) 5 (binary_level o)
left-level o h = eqb-true _ _ (all-below 20 (λ k. eqb (left_level k) (pick (eqb (binary_level k) 4) 5 (binary_level k))) refl o h)

-- no binary operator has a unary one's level
pub apart : (u o : ℕ) → u < 2 → o < 20 → unary_level u ≤ binary_level o → unary_level u < binary_level o
apart u o h g le = omega (arith, differ (binary_level o) (unary_level u) (all-below 20 (λ k. not (eqb (binary_level k) (unary_level u))) (all-below 2 (λ v. allb 20 (λ k. not (eqb (binary_level k) (unary_level v)))) refl u h) o g))
  where
    differ : (a b : ℕ) → not (eqb a b) ≡ true → a ≡ b → ⊥
    differ a b e = eqb-false a b (not-true (eqb a b) e)
