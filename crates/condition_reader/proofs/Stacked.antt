-- The stack and the entries after a store.
use Prim.Native.Nat.{ℕ, zero, suc, ◌+◌, ◌*◌, ◌≤◌}
use native.Mathlib.Omega.{arith}
use native.Mathlib.Numerals.{add-one, add-two}
use mathlib.Core.Path.{◌≡◌, refl}
use mathlib.Core.List.{List, [], ◌∷◌}
use lib.ListN.{length, drop, set, length-set}
use lib.Seq.{drop-set-lt, get_or-set_same, get_or-set_other}
use Rattle.condition.specs.Machine.{waits}
use Rattle.condition_reader.specs.Fill.{stack_of}

-- a store above the stack leaves it
pub stack_above : (k : ℕ) (l : List ℕ) (i a : ℕ) → k * 2 ≤ i → stack_of k (set l i a) ≡ stack_of k l
unfolding stack_of
stack_above zero l i a h = refl
stack_above (suc k) l i a h =
    rw (get_or-set_other l i (k * 2) a 0 (λ e. omega arith), get_or-set_other l i (k * 2 + 1) a 0 (λ e. omega arith), stack_above k l i a (omega arith))

pub stack-two : (k : ℕ) (l : List ℕ) (i a b : ℕ) → k * 2 ≤ i → stack_of k (set (set l i a) (i + 1) b) ≡ stack_of k l
stack-two k l i a b h = rw (stack_above k (set l i a) (i + 1) b (omega arith)) (stack_above k l i a h)

-- an operator more
pub stack_push : (k : ℕ) (l : List ℕ) (a b : ℕ) → k * 2 + 2 ≤ length l → stack_of (suc k) (set (set l (k * 2) a) (k * 2 + 1) b) ≡ waits a b (stack_of k l)
unfolding stack_of
stack_push k l a b h =
    rw (
      stack-two k l (k * 2) a b (omega arith),
      get_or-set_same (set l (k * 2) a) (k * 2 + 1) b 0 (simp length-set (omega arith)),
      get_or-set_other (set l (k * 2) a) (k * 2 + 1) (k * 2) b 0 (λ e. omega arith),
      get_or-set_same l (k * 2) a 0 (omega arith),
    )

two-sucs : (l : List ℕ) (w a b : ℕ) → suc (suc w) ≤ length l → drop w (set (set l w a) (suc w) b) ≡ a ∷ (b ∷ drop (suc (suc w)) l)
two-sucs [] w a b h = absurd (omega arith)
two-sucs (x ∷ []) w a b h = absurd (omega arith)
two-sucs (x ∷ (y ∷ l)) zero a b h = refl
two-sucs (x ∷ (y ∷ l)) (suc w) a b h = two-sucs (y ∷ l) w a b (omega arith)

-- an entry before the others
pub drop-two : (l : List ℕ) (w a b : ℕ) → w + 2 ≤ length l → drop w (set (set l w a) (w + 1) b) ≡ a ∷ (b ∷ drop (w + 2) l)
drop-two l w a b h = rw (add-one w, add-two w) (two-sucs l w a b (omega arith))

-- a store below the entries leaves them
pub drop-below : (l : List ℕ) (w i a b : ℕ) → i + 2 ≤ w → drop w (set (set l i a) (i + 1) b) ≡ drop w l
drop-below l w i a b h = rw (drop-set-lt w (set l i a) (i + 1) b (omega arith)) (drop-set-lt w l i a (omega arith))
