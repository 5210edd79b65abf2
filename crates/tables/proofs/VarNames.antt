-- Laws of the names of variables without a row. The digits of a number below 2 ^ 32 say it again, in the code's arithmetic (`say-decimal`); so no two
-- such names are the same (`injective`), and a text that is one is the name of what its digits say (`said`).
-- The first four bytes of each are the same (`headed`).
use Rattle.std.proofs.Common.{ℕ, zero, suc, ◌≡◌, ◌+◌, ◌*◌, ◌/◌, ◌%◌, ◌^◌, ◌<◌, ◌≤◌, Bool, true, false, cond, List, [], ◌∷◌, ◌++◌, length, take, drop, append-nil, refl, sym, ap, ◌∙◌, arith}
use borrow.Author.Tests.{ltb-true, le-leb}
use lib.Dec.{ltb, leb}
use lib.ListN.{length-drop}
use Rattle.std.proofs.Math.Seq.{take-append_seam}
use Rattle.words.specs.Decimal.{low_digits, width_within, width, decimal}
use Rattle.words.specs.Front.{put_front, put_length}
use Rattle.words.proofs.Digits.{length-decimal, width-le}
use Rattle.tables.specs.Name.{text_at, length_at, name_at}
use Rattle.tables.specs.VarName.{var_name}

-- a digit behind a number, modulo 2 ^ 32
abbrev pub digit_more : ℕ → ℕ → ℕ
digit_more v d = (v * 10 % 4294967296 + (d + 4294967248) % 4294967296) % 4294967296

-- what digits say behind a number
unfoldable pub say : ℕ → List ℕ → ℕ
say v [] = v
say v (d ∷ ds) = say (digit_more v d) ds

say-last : (v : ℕ) (ds : List ℕ) (d : ℕ) → say v (ds ++ (d ∷ [])) ≡ digit_more (say v ds) d
unfolding say
say-last v [] d = refl
say-last v (e ∷ ds) d = say-last (digit_more v e) ds d

say-within : (f n : ℕ) → n ≤ f → n < 2 ^ 32 → say 0 (low_digits (width_within f n) n) ≡ n
unfolding say low_digits width_within
say-within zero n h l = omega arith
say-within (suc f) n h l = go (ltb n 10) refl (say-within f (n / 10) (omega arith) (omega arith))
  where
    go : (b : Bool) → ltb n 10 ≡ b → say 0 (low_digits (width_within f (n / 10)) (n / 10)) ≡ n / 10 → say 0 (low_digits (cond b 1 (suc (width_within f (n / 10)))) n) ≡ n
    go true e k = omega (arith, ltb-true n 10 e)
    go false e k = say-last 0 (low_digits (width_within f (n / 10)) (n / 10)) (48 + n % 10) ∙ rw k (omega arith)

pub say-decimal : (n : ℕ) → n < 2 ^ 32 → say 0 (decimal n) ≡ n
unfolding decimal width
say-decimal n h = say-within n n (omega arith) h

-- the prefix, and the digits after it
pub spelt : (v : ℕ) (text : List ℕ) → text ≡ var_name v → text ≡ 95 ∷ 95 ∷ 118 ∷ 97 ∷ 114 ∷ decimal v
unfolding var_name
spelt v text e = e

digits-of : (v : ℕ) (text : List ℕ) → text ≡ var_name v → drop 5 text ≡ decimal v
digits-of v text e = rw (spelt v text e) refl

-- no two variables have the same name
pub injective : (v w : ℕ) → v < 2 ^ 32 → w < 2 ^ 32 → var_name v ≡ var_name w → v ≡ w
injective v w h k e = sym (say-decimal v h) ∙ ap (say 0) (sym (digits-of v (var_name v) refl) ∙ digits-of w (var_name v) e) ∙ say-decimal w k

-- a text that is the name of a variable is that of what its digits say
pub said : (v w : ℕ) (text digits : List ℕ) → digits ≡ drop 5 text → say 0 digits ≡ v → w < 2 ^ 32 → text ≡ var_name w → text ≡ var_name v
said v w text digits d s h e =
    let same : v ≡ w = sym s ∙ ap (say 0) (d ∙ digits-of w text e) ∙ say-decimal w h in
    rw same e

-- the name as the code lays it: the digits put at the front of ten bytes after the prefix
pub laid : (v r : ℕ) (page out : List ℕ) → v < 2 ^ 32 → length page ≡ 10 → (r ≡ put_length (decimal v) page) × (out ≡ put_front (decimal v) page) → (r ≤ 10) × (take (5 + r) (95 ∷ 95 ∷ 118 ∷ 97 ∷ 114 ∷ (out ++ [])) ≡ var_name v)
unfolding var_name put_front put_length
laid v r page out h l e =
    let few : length (decimal v) ≤ length page = rw (length-decimal v, l) (width-le v h) in
    let fit = le-leb (length (decimal v)) (length page) few in
    let long : r ≡ length (decimal v) = rw fit at e.0 in
    let text : out ≡ decimal v ++ drop (length (decimal v)) page = rw fit at e.1 in
    let five : 5 + length (decimal v) ≡ suc (suc (suc (suc (suc (length (decimal v)))))) = omega arith in
    (omega arith, rw (text, long, five, append-nil, take-append_seam (decimal v) (drop (length (decimal v)) page)) refl)

-- the first four bytes of a name that is a variable's stand where its text does
four : (n : ℕ) (s r : List ℕ) (a b c d : ℕ) → take n s ≡ a ∷ b ∷ c ∷ d ∷ r → (4 ≤ length s) × (take 4 s ≡ a ∷ b ∷ c ∷ d ∷ [])
four zero s r a b c d e = absurd (cc)
four (suc zero) [] r a b c d e = absurd (cc)
four (suc zero) (x ∷ s) r a b c d e = absurd (cc)
four (suc (suc zero)) [] r a b c d e = absurd (cc)
four (suc (suc zero)) (x ∷ []) r a b c d e = absurd (cc)
four (suc (suc zero)) (x ∷ y ∷ s) r a b c d e = absurd (cc)
four (suc (suc (suc zero))) [] r a b c d e = absurd (cc)
four (suc (suc (suc zero))) (x ∷ []) r a b c d e = absurd (cc)
four (suc (suc (suc zero))) (x ∷ y ∷ []) r a b c d e = absurd (cc)
four (suc (suc (suc zero))) (x ∷ y ∷ z ∷ s) r a b c d e = absurd (cc)
four (suc (suc (suc (suc n)))) [] r a b c d e = absurd (cc)
four (suc (suc (suc (suc n)))) (x ∷ []) r a b c d e = absurd (cc)
four (suc (suc (suc (suc n)))) (x ∷ y ∷ []) r a b c d e = absurd (cc)
four (suc (suc (suc (suc n)))) (x ∷ y ∷ z ∷ []) r a b c d e = absurd (cc)
four (suc (suc (suc (suc n)))) (x ∷ y ∷ z ∷ w ∷ s) r a b c d e = (omega arith, cc)

pub headed : (s : List ℕ) (p v : ℕ) → name_at s p ≡ var_name v → (p + 8 ≤ length s) × (take 4 (drop (p + 4) s) ≡ 95 ∷ 95 ∷ 118 ∷ 97 ∷ [])
unfolding name_at text_at
headed s p v e = go (leb (p + 4 + length_at s p) (length s)) (spelt v _ e)
  where
    go : (b : Bool) → cond b (take (length_at s p) (drop (p + 4) s)) [] ≡ 95 ∷ 95 ∷ 118 ∷ 97 ∷ 114 ∷ decimal v → (p + 8 ≤ length s) × (take 4 (drop (p + 4) s) ≡ 95 ∷ 95 ∷ 118 ∷ 97 ∷ [])
    go true e =
        let k = four (length_at s p) (drop (p + 4) s) (114 ∷ decimal v) 95 95 118 97 e in
        (omega (arith, k.0, length-drop (p + 4) s), k.1)
    go false e = absurd (cc)
