-- A number below 2 ^ 32 has at most ten digits, so a line that asks something has at most 25 bytes (`short-line`), and the first 32 bytes of
-- any line ask what it asks (`first-32`).
use Prim.Native.Nat.{ℕ, suc, ◌+◌, ◌*◌, ◌-◌, ◌^◌, ◌≤◌, ◌<◌}
use mathlib.Core.Bool.{Bool, true, false, cond, ◌&&◌}
use mathlib.Core.List.{List, [], ◌∷◌}
use mathlib.Core.Logic.{◌⊎◌, inl, inr, ⊎_elim}
use Rattle.std.specs.Prelude.{Option, Some, None}
use mathlib.Core.Path.{◌≡◌, refl, sym, ◌∙◌}
use native.Mathlib.Nat.{pow-suc, pow-le-pow_right}
use native.Mathlib.Omega.{arith}
use borrow.Author.Tests.{leb-true, leb-false, eqb-false}
use lib.Dec.{eqb, leb, ltb}
use lib.ListN.{length, take, drop, length-append, length-take, length-drop}
use lib.Seq.{take_all}
use Rattle.std.proofs.lemmas.Bool.{cases_lt}
use Rattle.std.proofs.lemmas.Bool.Decides.{nat_tests}
use Rattle.turns.proofs.Strip.{strip_is}
use Rattle.turns.specs.Command.{bytes, strip, digits_from, zero_alone, number_of, before_blank, adding, pair_of, taking, pair_in, command_of}

-- d is a digit that may stand behind those of v
abbrev fits : (v d : ℕ) → Bool
fits v d = leb 48 d && (leb d 57 && ltb (v * 10 + (d - 48)) (2 ^ 32))

fits-digit : (v d : ℕ) → fits v d ≡ true → (48 ≤ d) × (v * 10 + (d - 48) < 2 ^ 32)
fits-digit v d t = grind (arith, nat_tests)

-- what digits behind those of v make: no less than v with as many zeros behind it, and less than 2 ^ 32
digits-large : (ds : List ℕ) (v n k : ℕ) → 10 ^ k ≤ v → v < 2 ^ 32 → digits_from v ds ≡ Some n → (10 ^ (k + length ds) ≤ n) × (n < 2 ^ 32)
unfolding digits_from
digits-large [] v n k h l e =
    let z : v ≡ n = cc in
    let y : k + 0 ≡ k = omega arith in
    rw (y, ← z) (h, l)
digits-large (d ∷ ds) v n k h l e =
    by (fits v d) refl e (digits-large ds (v * 10 + (d - 48)) n (suc k) (rw (pow-suc 10 k) (omega arith)))
  where
    by : (b : Bool) → fits v d ≡ b → cond b (digits_from (v * 10 + (d - 48)) ds) None ≡ Some n → (v * 10 + (d - 48) < 2 ^ 32 → digits_from (v * 10 + (d - 48)) ds ≡ Some n → (10 ^ (suc k + length ds) ≤ n) × (n < 2 ^ 32)) → (10 ^ (k + suc (length ds)) ≤ n) × (n < 2 ^ 32)
    by true t f g =
        let z : k + suc (length ds) ≡ suc k + length ds = omega arith in
        rw z (g (fits-digit v d t).1 f)
    by false t f g = cc

few : (m n : ℕ) → 10 ^ (0 + m) ≤ n → n < 2 ^ 32 → m ≤ 9
few m n h l = ⊎_elim (λ k. absurd (omega (arith, pow-le-pow_right {n = 10} (omega arith) {i = 10} {j = 0 + m} (omega arith)))) (λ k. k) (cases_lt 9 m)

-- a number has at most ten digits
short-number : (s : List ℕ) (n : ℕ) → number_of s ≡ Some n → length s ≤ 10
unfolding number_of digits_from
short-number [] n e = cc
short-number (d ∷ ds) n e = by (eqb d 48) refl e
  where
    alone : (l : List ℕ) → zero_alone l ≡ Some n → suc (length l) ≤ 10
    alone [] f = omega arith
    alone (x ∷ xs) f = cc

    after : (b : Bool) → fits 0 d ≡ b → (d ≡ 48 → ⊥) → cond b (digits_from (0 * 10 + (d - 48)) ds) None ≡ Some n → suc (length ds) ≤ 10
    after true t k f =
        let h = (fits-digit 0 d t).0 in
        let large = digits-large ds (0 * 10 + (d - 48)) n 0 (omega arith) (fits-digit 0 d t).1 f in
        let m = few (length ds) n large.0 large.1 in
        omega arith
    after false t k f = cc

    by : (b : Bool) → eqb d 48 ≡ b → cond b (zero_alone ds) (digits_from 0 (d ∷ ds)) ≡ Some n → suc (length ds) ≤ 10
    by true t f = alone ds f
    by false t f = after (fits 0 d) refl (eqb-false d 48 t) f

short-pair : (s : List ℕ) → (pair_of s ≡ None) ⊎ (length s ≤ 21)
unfolding pair_of
short-pair s = by (number_of (take (before_blank s) s)) (number_of (drop (before_blank s + 1) s)) refl refl
  where
    by : (q item : Option ℕ) → number_of (take (before_blank s) s) ≡ q → number_of (drop (before_blank s + 1) s) ≡ item → (adding q item ≡ None) ⊎ (length s ≤ 21)
    by None item e f = inl refl
    by (Some q) None e f = inl refl
    by (Some q) (Some item) e f =
        inr
        (omega (
          arith,
          short-number (take (before_blank s) s) q e,
          length-take (before_blank s) s,
          short-number (drop (before_blank s + 1) s) item f,
          length-drop (before_blank s + 1) s,
        ))

strip-size : (text s rest : List ℕ) → strip text s ≡ Some rest → length s ≡ length text + length rest
strip-size text s rest e = rw (strip_is text s rest e) (length-append text rest)

-- a line that asks something
short-line : (line : List ℕ) → (command_of line ≡ None) ⊎ (length line ≤ 25)
unfolding command_of
short-line line = by (strip (bytes "take") line) (strip (bytes "add ") line) refl refl
  where
    by : (t a : Option (List ℕ)) → strip (bytes "take") line ≡ t → strip (bytes "add ") line ≡ a → (taking t (pair_in a) ≡ None) ⊎ (length line ≤ 25)
    by None None e f = inl refl
    by None (Some s) e f = ⊎_elim inl (λ l. inr (omega (arith, strip-size (bytes "add ") line s f))) (short-pair s)
    by (Some []) a e f = inr (omega (arith, strip-size (bytes "take") line [] e))
    by (Some (b ∷ s)) a e f = inl refl

-- the first 32 bytes of a line ask what it asks
pub first-32 : (line : List ℕ) → command_of (take 32 line) ≡ command_of line
first-32 line = by (leb (length line) 32) refl
  where
    unread : (s : List ℕ) → 25 < length s → command_of s ≡ None
    unread s h = ⊎_elim (λ e. e) (λ l. absurd (omega arith)) (short-line s)

    by : (t : Bool) → leb (length line) 32 ≡ t → command_of (take 32 line) ≡ command_of line
    by true e = rw (take_all 32 line (leb-true (length line) 32 e)) refl
    by false e =
        let l : 32 < length line = leb-false (length line) 32 e in
        unread (take 32 line) (omega (arith, length-take 32 line)) ∙ sym (unread line (omega arith))
