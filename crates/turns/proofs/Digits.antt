-- The digits of a number below 2 ^ 32, put at the front of ten bytes.
use Rattle.std.proofs.Common.{◌≡◌, ℕ, ◌^◌, ◌<◌, ◌≤◌, List, length, take, drop, length-append, length-drop, arith}
use Rattle.std.proofs.Math.Seq.{take-append_seam}
use borrow.Author.Tests.{le-leb}
use Rattle.words.specs.Decimal.{decimal}
use Rattle.words.specs.Front.{put_front, put_length}
use Rattle.words.proofs.Digits.{length-decimal, width-le}

pub record Digits (n : ℕ) (page : List ℕ) (r : ℕ) : Type 0 where
  pub few : r ≤ 10
  pub many : r ≡ length (decimal n)
  pub long : length page ≡ 10
  pub are : take r page ≡ decimal n

pub put-digits : (n : ℕ) (before after : List ℕ) (r : ℕ) → n < 2 ^ 32 → length before ≡ 10 → (r ≡ put_length (decimal n) before) × (after ≡ put_front (decimal n) before) → Digits n after r
unfolding put_length put_front
put-digits n before after r h l e =
    let w : length (decimal n) ≤ 10 = rw (length-decimal n) (width-le n h) in
    let f = le-leb (length (decimal n)) (length before) (omega arith) in
    let k : r ≡ length (decimal n) = rw f at e.0 in
    let a = rw f at e.1 in
    record {
      few = omega arith;
      many = k;
      long = rw (a, length-append, length-drop) (omega arith);
      are = rw (a, k) (take-append_seam (decimal n) (drop (length (decimal n)) before));
    }
