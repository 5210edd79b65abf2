-- Laws of a number in decimal: its width digit by digit, and its digits written from the last to the first.
use Prim.Native.Nat.{ℕ, zero, suc, ◌+◌, ◌-◌, ◌*◌, ◌/◌, ◌%◌, ◌^◌, ◌<◌, ◌≤◌}
use native.Mathlib.Numerals.{sub-one}
use native.Mathlib.Omega.{arith}
use mathlib.Core.Path.{◌≡◌, refl, ap, ◌∙◌}
use mathlib.Core.Bool.{Bool, true, false, cond}
use mathlib.Core.List.{List, ◌++◌}
use borrow.Author.Tests.{lt-ltb, le-ltb}
use lib.Dec.{ltb}
use lib.ListN.{length, drop, set, length-append, length-set}
use lib.Seq.{append_snoc, drop-cons, drop-set-lt, get_or-set_same}
use Rattle.words.specs.Decimal.{low_digits, width_within, width, decimal}

-- the fuel doesn't count, where there is enough
fuel : (f g n : ℕ) → n ≤ f → n ≤ g → width_within f n ≡ width_within g n
unfolding width_within
fuel zero zero n hf hg = refl
fuel zero (suc g) n hf hg = rw (lt-ltb n 10 (omega arith))
fuel (suc f) zero n hf hg = rw (lt-ltb n 10 (omega arith))
fuel (suc f) (suc g) n hf hg = rw (fuel f g (n / 10) (omega arith) (omega arith))

pub width_one : (n : ℕ) → n < 10 → width n ≡ 1
unfolding width width_within
width_one zero h = refl
width_one (suc n) h = rw (lt-ltb (suc n) 10 h)

pub width-more : (n : ℕ) → 10 ≤ n → width n ≡ suc (width (n / 10))
unfolding width width_within
width-more zero h = omega arith
width-more (suc n) h = rw (le-ltb (suc n) 10 h, fuel n (suc n / 10) (suc n / 10) (omega arith) (omega arith))

-- one digit more than the greatest power of ten within n
pub width-power : (k n : ℕ) → 10 ^ k ≤ n → n < 10 * 10 ^ k → width n ≡ suc k
width-power zero n l h = width_one n (omega arith)
width-power (suc k) n l h = width-more n (omega arith) ∙ ap suc (width-power k (n / 10) (omega arith) (omega arith))

more-le : (b : Bool) (w k : ℕ) → w ≤ k → cond b 1 (suc w) ≤ suc k
more-le true w k h = omega arith
more-le false w k h = omega arith

within-le : (f k n : ℕ) → n < 10 ^ suc k → width_within f n ≤ suc k
unfolding width_within
within-le zero k n h = omega arith
within-le (suc f) zero n h = rw (lt-ltb n 10 (omega arith)) (omega arith)
within-le (suc f) (suc k) n h = more-le (ltb n 10) (width_within f (n / 10)) (suc k) (within-le f k (n / 10) (omega arith))

-- a 32-bit number has at most ten digits
pub width-le : (n : ℕ) → n < 2 ^ 32 → width n ≤ 10
unfolding width
width-le n h = within-le n 9 n (omega arith)

length_digits : (k n : ℕ) → length (low_digits k n) ≡ k
unfolding low_digits
length_digits zero n = refl
length_digits (suc k) n = rw (length-append, length_digits k (n / 10)) (omega arith)

pub length-decimal : (n : ℕ) → length (decimal n) ≡ width n
unfolding decimal
length-decimal n = length_digits (width n) n

-- the last digit, written where it stands
pub digits-put : (i n : ℕ) (page : List ℕ) → 0 < i → i ≤ length page → low_digits i n ++ drop i page ≡ low_digits (i - 1) (n / 10) ++ drop (i - 1) (set page (i - 1) (48 + n % 10))
unfolding low_digits
digits-put zero n page p h = absurd (omega arith)
digits-put (suc i) n page p h =
    rw
    (sub-one (suc i), append_snoc, drop-cons (set page i (48 + n % 10)) i 0 (simp length-set h), get_or-set_same, drop-set-lt (suc i) page i (48 + n % 10) (omega arith))

pub ruleset written = (length-decimal, digits-put)
