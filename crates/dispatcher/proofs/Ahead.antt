-- How far ahead of the round's beginning a queue lies (`ahead`), going round. After the queue p, which lies nearer, is served, q lies less
-- far ahead than before (`closer`).
use Prim.Native.Nat.{ℕ, ◌+◌, ◌-◌, ◌%◌, ◌≤◌, ◌<◌}
use mathlib.Core.Logic.{⊎_elim}
use mathlib.Core.Path.{◌≡◌}
use native.Mathlib.Omega.{arith}
use Rattle.std.specs.Prelude.{Option}
use Rattle.std.proofs.lemmas.Bool.{cases_lt}
use Rattle.dispatcher.specs.Dispatcher.{begins}
use Rattle.dispatcher.proofs.Looking.{begins-below}

abbrev pub ahead : ℕ → Option ℕ → ℕ
ahead q last = (q + 32 - begins last) % 32

-- so far from the round's beginning q stands
pub there : (q : ℕ) (last : Option ℕ) → q < 32 → (begins last + ahead q last) % 32 ≡ q
there q last l = let b = begins-below last in omega arith

-- how far it is from a queue to one that is not before it, and to one before it
onward : (a b : ℕ) → a ≤ b → b < 32 → (b + 32 - a) % 32 ≡ b - a
onward a b h l = omega arith

round : (a b : ℕ) → b < a → a < 32 → (b + 32 - a) % 32 ≡ b + 32 - a
round a b h l = omega arith

-- the queue after p = b + i, going round
next : (b i p : ℕ) → b + i < 31 → p ≡ (b + i) % 32 → (p + 1) % 32 ≡ b + i + 1
next b i p h e = omega arith

next-round : (b i p : ℕ) → 31 ≤ b + i → b + i < 63 → p ≡ (b + i) % 32 → (p + 1) % 32 ≡ b + i - 31
next-round b i p h l e = omega arith

-- from the queue after p = b + i it is less far to q than from b
pub closer : (b q i p : ℕ) → b < 32 → q < 32 → p ≡ (b + i) % 32 → i < (q + 32 - b) % 32 → (q + 32 - (p + 1) % 32) % 32 < (q + 32 - b) % 32
closer b q i p h l e m = ⊎_elim (λ k. ⊎_elim (before k) (past k) (cases_lt (b + i) 31)) within (cases_lt q b)
  where
    within : b ≤ q → (q + 32 - (p + 1) % 32) % 32 < (q + 32 - b) % 32
    within k =
        let n : i < q - b = rw (onward b q k l) at m in
        rw (onward b q k l, next b i p (omega (arith, n)) e, onward (b + i + 1) q (omega (arith, n)) l) (omega (arith, n))

    before : q < b → b + i < 31 → (q + 32 - (p + 1) % 32) % 32 < (q + 32 - b) % 32
    before k j = rw (round b q k h, next b i p j e, round (b + i + 1) q (omega (arith, k)) (omega (arith, j))) (omega (arith, k, j))

    past : q < b → 31 ≤ b + i → (q + 32 - (p + 1) % 32) % 32 < (q + 32 - b) % 32
    past k j =
        let n : i < q + 32 - b = rw (round b q k h) at m in
        rw (round b q k h, next-round b i p j (omega (arith, n)) e, onward (b + i - 31) q (omega (arith, n)) l) (omega (arith, n))
