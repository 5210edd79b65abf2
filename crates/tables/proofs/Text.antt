-- Laws of a name in the bytes of a section: its text, its length's word, and what reading it gives.
use Prim.Native.Nat.{ℕ, zero, suc, ◌+◌, ◌-◌, ◌*◌, ◌<◌, ◌≤◌}
use native.Mathlib.Omega.{arith}
use mathlib.Core.Path.{◌≡◌, refl, sym}
use mathlib.Core.Bool.{Bool, true, false, ◌&&◌, cond, and-false}
use mathlib.Core.List.{List, [], ◌∷◌}
use borrow.Author.Tests.{le-leb, lt-leb, eq-eqb, ne_eqb}
use mathlib.Core.Logic.{◌≢◌}
use lib.Dec.{eqb}
use lib.ListN.{length, take, drop, length-drop}
use lib.Seq.{drop-drop, length-take-le}
use Rattle.words.specs.Utf8.{is_utf8}
use Rattle.words.proofs.Words.{drop-word}
use Rattle.heads.specs.Got.{Got, ok, no}
use Rattle.heads.specs.Answer.{Ans, read_end}
use Rattle.refusal.specs.declared.Refusal.{Refusal}
use Rattle.std.specs.Prelude.{Result, Ok, Err}
use Rattle.std.specs.Bool.{MatchBool}
use Rattle.std.specs.List.{AllWithin, HoldsAt}
use Rattle.tables.specs.Name.{padded, all_zero, name_body, read_name, text_at, length_at, name_at, zero_padded, name_words}
use Rattle.tables.specs.Answer.{body_ends, text_got, name_ends, name_got}

-- the test of each byte, and of the whole
pub zero-by : (s : List ℕ) (r : Bool) → MatchBool r (AllWithin (λ x. x ≡ 0) s 0 (length s)) ((k : ℕ) × (k < length s) × HoldsAt (λ x. x ≢ 0) s k) → r ≡ all_zero s
unfolding all_zero
zero-by [] true h = refl
zero-by [] false (k, l, h) = absurd (omega arith)
zero-by (b ∷ s) true h =
    rw (eq-eqb b 0 (h 0 0 (omega arith) (omega arith))) (zero-by s true (λ k d l u. h (suc k) d (omega arith) (omega arith)))
zero-by (b ∷ s) false (zero, l, h) = rw (ne_eqb b 0 (h 0)) refl
zero-by (b ∷ s) false (suc k, l, h) = rw (← zero-by s false (k, omega arith, h)) (sym (and-false (eqb b 0)))

-- a refusal ends where it began
pub refuse : {s : List ℕ} {at : ℕ} {g : Got (List ℕ)} → at ≤ length s → g ≡ no 3 → Ans s at g (no 3) (length s)
refuse h e = record { same = e; from = h; within = omega arith }

-- the text at p, where it ends within s, and where it doesn't
pub text-whole : (s : List ℕ) (p n : ℕ) → n ≡ length_at s p → p + 4 + n ≤ length s → take (p + 4 + n - (p + 4)) (drop (p + 4) s) ≡ name_at s p
unfolding name_at text_at
text-whole s p n e h =
    let same : p + 4 + n - (p + 4) ≡ n = omega arith in
    rw (same, ← e, le-leb (p + 4 + n) (length s) h)

pub text-none : (s : List ℕ) (p : ℕ) → length s < p + 4 + length_at s p → [] ≡ name_at s p
unfolding name_at text_at
text-none s p h = rw (lt-leb (p + 4 + length_at s p) (length s) h)

-- a name that is too long, one that doesn't end within s, and any other
pub body-long : (s : List ℕ) (at n : ℕ) → 255 < n → name_body n (drop at s) ≡ no 3
unfolding name_body
body-long s at n h = rw (lt-leb n 255 h)

pub body-short : (s : List ℕ) (at n : ℕ) → n ≤ 255 → length s - at < padded n → name_body n (drop at s) ≡ no 3
unfolding name_body
body-short s at n h k = rw (le-leb n 255 h, length-drop at s, lt-leb (padded n) (length s - at) k)

pub body-fits : (s : List ℕ) (at n : ℕ) → n ≤ 255 → at + padded n ≤ length s → {z : Bool} → z ≡ all_zero (take (at + padded n - (at + n)) (drop (at + n) s)) → name_body n (drop at s) ≡ cond (z && is_utf8 (take (at + n - at) (drop at s))) (ok (text_at s at n) (drop (at + padded n) s)) (no 3)
unfolding name_body text_at
body-fits s at n h k none =
    let text : at + n - at ≡ n = omega arith in
    let rest : at + padded n - (at + n) ≡ padded n - n = omega arith in
    rw
    (none, text, rest, le-leb n 255 h, length-drop at s, le-leb (padded n) (length s - at) (omega arith), drop-drop n at s, drop-drop (padded n) at s, le-leb (at + n) (length s) (omega arith))

-- the first four bytes of what is left make the length; fewer are refused
pub name-short : (s : List ℕ) → length s < 4 → read_name s ≡ no 3
unfolding read_name
name-short [] h = refl
name-short (a ∷ []) h = refl
name-short (a ∷ (b ∷ [])) h = refl
name-short (a ∷ (b ∷ (c ∷ []))) h = refl
name-short (a ∷ (b ∷ (c ∷ (d ∷ s)))) h = absurd (omega arith)

name_body_lem : (s : List ℕ) (at : ℕ) → at + 4 ≤ length s → read_name (drop at s) ≡ name_body (length_at s at) (drop (at + 4) s)
unfolding read_name
name_body_lem s at h =
    let two : at + 1 + 1 ≡ at + 2 = omega arith in
    let three : at + 2 + 1 ≡ at + 3 = omega arith in
    let four : at + 3 + 1 ≡ at + 4 = omega arith in
    rw
    (drop-word s at (omega arith), drop-word s (at + 1) (omega arith), two, drop-word s (at + 2) (omega arith), three, drop-word s (at + 3) (omega arith), four)

-- the padding in words is the one in bytes
pub padded-length : (text : List ℕ) → length (zero_padded text) * 4 ≡ padded (length text)
unfolding zero_padded
padded-length [] = refl
padded-length (a ∷ []) = refl
padded-length (a ∷ (b ∷ [])) = refl
padded-length (a ∷ (b ∷ (c ∷ []))) = refl
padded-length (a ∷ (b ∷ (c ∷ (d ∷ s)))) = omega (arith, padded-length s)

-- what is read after the length is the name, and ends with the name's words
pub named : (s : List ℕ) (at n : ℕ) (r : Result ℕ Refusal) → n ≡ length_at s at → at + 4 ≤ length s → body_ends s (at + 4) n r → Ans s (at + 4) (name_body n (drop (at + 4) s)) (text_got s (at + 4) n r) (read_end s r) → name_ends s at r × Ans s at (read_name (drop at s)) (name_got s at r) (read_end s r)
unfolding name_at name_words text_at
named s at n (Ok p) e h b a =
    let text = take n (drop (at + 4) s) in
    let long : length text ≡ n = length-take-le n (drop (at + 4) s) (omega (arith, length-drop (at + 4) s)) in
    let ends : p ≡ at + suc (length (zero_padded text)) * 4 = omega (arith, padded-length text) in
    (rw (← e, le-leb (at + 4 + n) (length s) b.1) ends, record { same = rw (name_body_lem s at h, ← e, a.same); from = omega arith; within = a.within })
named s at n (Err k) e h b a =
    (tt, record { same = rw (name_body_lem s at h, ← e, a.same); from = omega arith; within = omega arith })
