-- The tokens of a text are found from its end, and no others are.
use Prim.Native.Nat.{ℕ, zero, suc, ◌+◌, ◌-◌, ◌*◌, ◌/◌, ◌%◌, ◌^◌, ◌<◌, ◌≤◌}
use native.Mathlib.Nat.{add-mul, mul_assoc, mul_comm}
use native.Mathlib.Omega.{arith}
use mathlib.Core.Path.{◌≡◌, refl, sym, ap, ◌∙◌}
use mathlib.Core.Bool.{Bool, true, false, ◌&&◌}
use mathlib.Core.List.{List, [], ◌∷◌, ◌++◌, reverse, reverse_aux, reverse_aux-eq, reverse_aux-append}
use Rattle.std.specs.Prelude.{Option, None, Some}
use lib.Dec.{eqb, leb, ltb}
use lib.ListN.{length, length-reverse_aux}
use borrow.Author.Tests.{eqb-true, leb-true, ltb-true, ltb-false, eq-eqb, ne_eqb, le-leb, lt-ltb}
use Rattle.words.specs.Decimal.{low_digits, decimal, width}
use Rattle.words.proofs.Digits.{width_one, width-more}
use Rattle.condition.specs.Cond.{Cond, binary_sign, unary_sign, atom_text}
use Rattle.condition.specs.Written.{Written, an-atom, a-unary, a-binary, in-brackets}
use Rattle.condition.specs.Tokens.{Tok, open', close', bad, number, un, bin, tok_text, Last, found, nothing, pick, strip, or_else, first_sign, is_digit, after_operand, minus, sign_last, number_end, number_last, last, more, tokens, lex}
use Rattle.condition.proofs.Tables.{all-below}
use Rattle.condition.proofs.Entries.{toks}
use Rattle.condition.proofs.Sound.{WellTok}

-- an operand before a binary sign, and none before a unary minus
signed : (o : ℕ) (r : List ℕ) → o < 20 → after_operand (32 ∷ r) ≡ true → last (reverse_aux (binary_sign o) r) ≡ found (bin o) r
unfolding last sign_last strip first_sign
signed zero r h e = refl
signed (suc zero) r h e = rw e
signed (suc (suc zero)) r h e = refl
signed (suc (suc (suc zero))) r h e = refl
signed (suc (suc (suc (suc zero)))) r h e = refl
signed (suc (suc (suc (suc (suc zero))))) r h e = refl
signed (suc (suc (suc (suc (suc (suc zero)))))) r h e = refl
signed (suc (suc (suc (suc (suc (suc (suc zero))))))) r h e = refl
signed (suc (suc (suc (suc (suc (suc (suc (suc zero)))))))) r h e = refl
signed (suc (suc (suc (suc (suc (suc (suc (suc (suc zero))))))))) r h e = refl
signed (suc (suc (suc (suc (suc (suc (suc (suc (suc (suc zero)))))))))) r h e = refl
signed (suc (suc (suc (suc (suc (suc (suc (suc (suc (suc (suc zero))))))))))) r h e = refl
signed (suc (suc (suc (suc (suc (suc (suc (suc (suc (suc (suc (suc zero)))))))))))) r h e = refl
signed (suc (suc (suc (suc (suc (suc (suc (suc (suc (suc (suc (suc (suc zero))))))))))))) r h e = refl
signed (suc (suc (suc (suc (suc (suc (suc (suc (suc (suc (suc (suc (suc (suc zero)))))))))))))) r h e = refl
signed (suc (suc (suc (suc (suc (suc (suc (suc (suc (suc (suc (suc (suc (suc (suc zero))))))))))))))) r h e = refl
signed (suc (suc (suc (suc (suc (suc (suc (suc (suc (suc (suc (suc (suc (suc (suc (suc zero)))))))))))))))) r h e = refl
signed (suc (suc (suc (suc (suc (suc (suc (suc (suc (suc (suc (suc (suc (suc (suc (suc (suc zero))))))))))))))))) r h e = refl
signed (suc (suc (suc (suc (suc (suc (suc (suc (suc (suc (suc (suc (suc (suc (suc (suc (suc (suc zero)))))))))))))))))) r h e = refl
signed (suc (suc (suc (suc (suc (suc (suc (suc (suc (suc (suc (suc (suc (suc (suc (suc (suc (suc (suc zero))))))))))))))))))) r h e = refl
signed (suc (suc (suc (suc (suc (suc (suc (suc (suc (suc (suc (suc (suc (suc (suc (suc (suc (suc (suc (suc o)))))))))))))))))))) r h e = absurd (omega arith)

prefixes : (o : ℕ) (r : List ℕ) → o < 2 → after_operand r ≡ false → last (reverse_aux (unary_sign o) r) ≡ found (un o) r
unfolding last sign_last strip first_sign
prefixes zero r h e = rw e
prefixes (suc zero) r h e = refl
prefixes (suc (suc o)) r h e = absurd (omega arith)

-- the digits of a number, the last first
unfoldable pub rdigits : ℕ → ℕ → List ℕ
rdigits zero n = []
rdigits (suc k) n = (48 + n % 10) ∷ rdigits k (n / 10)

pub from_last : (k n : ℕ) (r : List ℕ) → reverse_aux (low_digits k n) r ≡ rdigits k n ++ r
unfolding low_digits rdigits
from_last zero n r = refl
from_last (suc k) n r = rw (reverse_aux-append (low_digits k (n / 10)) ((48 + n % 10) ∷ []) r) (ap (◌∷◌ (48 + n % 10)) (from_last k (n / 10) r))

digit-is : (n : ℕ) → is_digit (48 + n % 10) ≡ true
digit-is n = rw (le-leb 48 (48 + n % 10) (omega arith), le-leb (48 + n % 10) 57 (omega arith))

mul-sum : (a b s : ℕ) → (a + b * 10) * s ≡ a * s + b * (s * 10)
mul-sum a b s = rw (add-mul, mul_assoc b 10 s, mul_comm 10 s)

-- a digit more
scaled : (v m scale : ℕ) → v + (48 + m % 10 - 48) * scale + m / 10 * (scale * 10) ≡ v + m * scale
scaled v m scale =
    let z : 48 + m % 10 - 48 ≡ m % 10 = omega arith in
    let d : m % 10 + m / 10 * 10 ≡ m = omega arith in
    let p : m * scale ≡ m % 10 * scale + m / 10 * (scale * 10) = ap (λ (x : ℕ). x * scale) (sym d) ∙ mul-sum (m % 10) (m / 10) scale in
    rw z (omega (arith, p))

no_more : (v scale k m : ℕ) (r : List ℕ) → m < 1 → number_end v k r ≡ number_end (v + m * scale) (k + 0) r
no_more v scale k m r h =
    let z : m ≡ 0 = omega arith in
    let a : v + 0 * scale ≡ v = omega arith in
    let b : k + 0 ≡ k = omega arith in
    rw (z, a, b)

-- so many digits are read
digits-read : (j f v scale k m : ℕ) (r : List ℕ) → j ≤ f → m < 10 ^ j → number_last f v scale k (rdigits j m ++ (101 ∷ r)) ≡ number_end (v + m * scale) (k + j) (101 ∷ r)
unfolding number_last rdigits
digits-read zero zero v scale k m r le h = no_more v scale k m (101 ∷ r) (omega arith)
digits-read zero (suc f) v scale k m r le h = no_more v scale k m (101 ∷ r) (omega arith)
digits-read (suc j) zero v scale k m r le h = absurd (omega arith)
digits-read (suc j) (suc f) v scale k m r le h =
    let n : suc k + j ≡ k + suc j = omega arith in
    rw (digit-is m) (digits-read j f (v + (48 + m % 10 - 48) * scale) (scale * 10) (suc k) (m / 10) r (omega arith) (omega arith) ∙ rw (scaled v m scale, n))

-- a number's width, and the power of ten that it bounds
pub record Sized (n k : ℕ) : Type 0 where
  pub others : ℕ
  pub size : width n ≡ suc others
  pub few : others ≤ k
  pub bound : n < 10 ^ suc others

pub sized : (k n : ℕ) → n < 10 ^ suc k → Sized n k
sized zero n h = record { others = 0; size = width_one n (omega arith); few = omega arith; bound = h }
sized (suc k) n h = go (ltb n 10) refl (sized k (n / 10) (omega arith))
  where
    go : (b : Bool) → ltb n 10 ≡ b → Sized (n / 10) k → Sized n (suc k)
    go true x i = let l = ltb-true n 10 x in record { others = 0; size = width_one n l; few = omega arith; bound = omega arith }
    go false x i =
        let l = ltb-false n 10 x in
        record { others = suc i.others; size = width-more n l ∙ ap suc i.size; few = omega (arith, i.few); bound = omega (arith, i.bound) }

no_sign : (n : ℕ) (r : List ℕ) → last ((48 + n % 10) ∷ r) ≡ number_last 4 0 1 0 ((48 + n % 10) ∷ r)
unfolding last
no_sign n r =
    rw (ne_eqb (48 + n % 10) 40 (λ e. omega arith), ne_eqb (48 + n % 10) 41 (λ e. omega arith), ne_eqb (48 + n % 10) 32 (λ e. omega arith))

number-ends : (n : ℕ) (r : List ℕ) → n < 2048 → number_end n (width n) (101 ∷ r) ≡ found (number n) r
unfolding number_end
number-ends n r h = rw (eq-eqb (width n) (width n) refl, lt-ltb n 2048 h)

numbered : (n : ℕ) (r : List ℕ) → n < 2048 → last (reverse_aux (atom_text n) r) ≡ found (number n) r
unfolding decimal rdigits
numbered n r h =
    let z = sized 3 n (omega arith) in
    let a : 0 + n * 1 ≡ n = omega arith in
    let b : 0 + suc z.others ≡ width n = omega (arith, z.size) in
    let e : number_end (0 + n * 1) (0 + suc z.others) (101 ∷ r) ≡ found (number n) r = rw (a, b) (number-ends n r h) in
    let q = digits-read (suc z.others) 4 0 1 0 n r (omega (arith, z.few)) z.bound ∙ e in
    rw (from_last (width n) n (101 ∷ r), z.size) (no_sign n (rdigits z.others (n / 10) ++ (101 ∷ r)) ∙ q)

-- what is found stands there
pub record Found (r : List ℕ) (t : Tok) (r' : List ℕ) : Type 0 where
  pub text : r ≡ reverse_aux (tok_text t) r'
  pub well : WellTok t
  pub shorter : length r' < length r

pub stripped : (s r r' : List ℕ) → strip s r ≡ Some r' → r ≡ s ++ r'
unfolding strip
stripped [] r r' e = cc
stripped (c ∷ s) [] r' e = let z : ◌≡◌ {A = ℕ} 0 1 = cc in absurd (omega arith)
stripped (c ∷ s) (d ∷ r) r' e = go (eqb d c) refl e (stripped s r r')
  where
    go : (b : Bool) → eqb d c ≡ b → pick b (strip s r) None ≡ Some r' → (strip s r ≡ Some r' → r ≡ s ++ r') → d ∷ r ≡ c ∷ (s ++ r')
    go true x e k = let y = eqb-true d c x in let i = k e in cc
    go false x e k = let z : ◌≡◌ {A = ℕ} 0 1 = cc in absurd (omega arith)

found_at : {r r' : List ℕ} (t : Tok) → WellTok t → 0 < length (tok_text t) → r ≡ reverse_aux (tok_text t) r' → Found r t r'
found_at {r} {r'} t w h e = record { text = e; well = w; shorter = omega (arith, ap length e, length-reverse_aux (tok_text t) r') }

carry : {r : List ℕ} {t t' : Tok} {r1 r2 : List ℕ} → found t r1 ≡ found t' r2 → Found r t r1 → Found r t' r2
carry {t = t} {t' = t'} {r1 = r1} {r2 = r2} e f = let a : t ≡ t' = cc in let b : r1 ≡ r2 = cc in rw (a, b) at f

no_found : {A : Type 0} {t : Tok} {r : List ℕ} → nothing ≡ found t r → A
no_found e = let z : ◌≡◌ {A = ℕ} 0 1 = cc in absurd (omega arith)

sign-found : (o : ℕ) (r r' : List ℕ) → o < 20 → strip (reverse (binary_sign o)) r ≡ Some r' → Found r (bin o) r'
sign-found o r r' h e =
    found_at (bin o) h (leb-true _ _ (all-below 20 (λ k. leb 1 (length (binary_sign k))) refl o h)) (stripped (reverse (binary_sign o)) r r' e ∙ sym (reverse_aux-eq (binary_sign o) r'))

firsts : (k o : ℕ) (r : List ℕ) (t : Tok) (r' : List ℕ) → o + k ≡ 20 → first_sign k o r ≡ found t r' → Found r t r'
unfolding first_sign
firsts zero o r t r' h e = no_found e
firsts (suc k) o r t r' h e = go (strip (reverse (binary_sign o)) r) refl e (firsts k (suc o) r t r' (omega arith))
  where
    go : (x : Option (List ℕ)) → strip (reverse (binary_sign o)) r ≡ x → or_else x (bin o) (first_sign k (suc o) r) ≡ found t r' → (first_sign k (suc o) r ≡ found t r' → Found r t r') → Found r t r'
    go (Some q) s e i = carry e (sign-found o r q (omega arith) s)
    go None s e i = i e

unary-found : (o : ℕ) (r r' : List ℕ) → o < 2 → strip (reverse (unary_sign o)) r ≡ Some r' → Found r (un o) r'
unary-found o r r' h e =
    found_at (un o) h (leb-true _ _ (all-below 2 (λ k. leb 1 (length (unary_sign k))) refl o h)) (stripped (reverse (unary_sign o)) r r' e ∙ sym (reverse_aux-eq (unary_sign o) r'))

signs : (r : List ℕ) (t : Tok) (r' : List ℕ) → sign_last r ≡ found t r' → Found r t r'
unfolding sign_last
signs r t r' e = go (strip (reverse (unary_sign 1)) r) (strip (reverse (unary_sign 0)) r) refl refl e
  where
    minused : (q : List ℕ) (b : Bool) → strip (reverse (unary_sign 0)) r ≡ Some q → pick b (first_sign 20 0 r) (found (un 0) q) ≡ found t r' → Found r t r'
    minused q true y e = firsts 20 0 r t r' refl e
    minused q false y e = carry e (unary-found 0 r q (omega arith) y)

    go : (a b : Option (List ℕ)) → strip (reverse (unary_sign 1)) r ≡ a → strip (reverse (unary_sign 0)) r ≡ b → or_else a (un 1) (minus b (first_sign 20 0 r)) ≡ found t r' → Found r t r'
    go (Some q) b x y e = carry e (unary-found 1 r q (omega arith) x)
    go None (Some q) x y e = minused q (after_operand q) y e
    go None None x y e = firsts 20 0 r t r' refl e

-- the digits that were read
record Digits (v scale k : ℕ) (r : List ℕ) (t : Tok) (r' : List ℕ) : Type 0 where
  rest : ℕ
  count : ℕ
  text : r ≡ rdigits count rest ++ (101 ∷ r')
  tok : t ≡ number (v + rest * scale)
  size : width (v + rest * scale) ≡ k + count
  low : v + rest * scale < 2048

ended : (v scale k : ℕ) (r : List ℕ) (t : Tok) (r' : List ℕ) → number_end v k r ≡ found t r' → Digits v scale k r t r'
unfolding number_end rdigits
ended v scale k [] t r' e = no_found e
ended v scale k (c ∷ r) t r' e = go (eqb c 101) (eqb (width v) k) (ltb v 2048) refl refl refl e
  where
    go : (a b d : Bool) → eqb c 101 ≡ a → eqb (width v) k ≡ b → ltb v 2048 ≡ d → pick a (pick b (pick d (found (number v) r) nothing) nothing) nothing ≡ found t r' → Digits v scale k (c ∷ r) t r'
    go false b d x y z e = no_found e
    go true false d x y z e = no_found e
    go true true false x y z e = no_found e
    go true true true x y z e =
        let n : v + 0 * scale ≡ v = omega arith in
        let l : c ≡ 101 = eqb-true c 101 x in
        let q : r ≡ r' = cc in
        let p : t ≡ number v = cc in
        record { rest = 0; count = 0; text = cc; tok = rw n p; size = rw n (omega (arith, eqb-true (width v) k y)); low = rw n (ltb-true v 2048 z) }

read : (f v scale k : ℕ) (r : List ℕ) (t : Tok) (r' : List ℕ) → number_last f v scale k r ≡ found t r' → Digits v scale k r t r'
unfolding number_last rdigits
read zero v scale k r t r' e = ended v scale k r t r' e
read (suc f) v scale k [] t r' e = no_found e
read (suc f) v scale k (c ∷ r) t r' e = go (leb 48 c) (leb c 57) refl refl e (read f (v + (c - 48) * scale) (scale * 10) (suc k) r t r')
  where
    digit : 48 ≤ c → c ≤ 57 → Digits (v + (c - 48) * scale) (scale * 10) (suc k) r t r' → Digits v scale k (c ∷ r) t r'
    digit lo hi i =
        let m = (c - 48) + i.rest * 10 in
        let s : v + (c - 48) * scale + i.rest * (scale * 10) ≡ v + m * scale = omega (arith, mul-sum (c - 48) i.rest scale) in
        let d : 48 + m % 10 ≡ c = omega arith in
        let q : m / 10 ≡ i.rest = omega arith in
        record { rest = m; count = suc i.count; text = rw (d, q) (ap (◌∷◌ c) i.text); tok = rw s at i.tok; size = rw s at i.size ∙ omega arith; low = rw s at i.low }

    go : (a b : Bool) → leb 48 c ≡ a → leb c 57 ≡ b → pick (a && b) (number_last f (v + (c - 48) * scale) (scale * 10) (suc k) r) (number_end v k (c ∷ r)) ≡ found t r' → (number_last f (v + (c - 48) * scale) (scale * 10) (suc k) r ≡ found t r' → Digits (v + (c - 48) * scale) (scale * 10) (suc k) r t r') → Digits v scale k (c ∷ r) t r'
    go true true x y e i = digit (leb-true 48 c x) (leb-true c 57 y) (i e)
    go true false x y e i = ended v scale k (c ∷ r) t r' e
    go false b x y e i = ended v scale k (c ∷ r) t r' e

numbers : (r : List ℕ) (t : Tok) (r' : List ℕ) → number_last 4 0 1 0 r ≡ found t r' → Found r t r'
unfolding decimal
numbers r t r' e =
    let i = read 4 0 1 0 r t r' e in
    let n : 0 + i.rest * 1 ≡ i.rest = omega arith in
    let p : t ≡ number i.rest = rw n at i.tok in
    let c : i.count ≡ width i.rest = let s = rw n at i.size in omega arith in
    let q : r ≡ reverse_aux (atom_text i.rest) r' = i.text ∙ (rw c (sym (from_last (width i.rest) i.rest (101 ∷ r')))) in
    rw p (found_at (number i.rest) (rw n at i.low) (omega arith) q)

pub last_found : (r : List ℕ) (t : Tok) (r' : List ℕ) → last r ≡ found t r' → Found r t r'
unfolding last
last_found [] t r' e = no_found e
last_found (c ∷ r) t r' e = go (eqb c 40) (eqb c 41) (eqb c 32) refl refl e
  where
    go : (a b d : Bool) → eqb c 40 ≡ a → eqb c 41 ≡ b → pick a (found open' r) (pick b (found close' r) (pick d (sign_last (c ∷ r)) (number_last 4 0 1 0 (c ∷ r)))) ≡ found t r' → Found (c ∷ r) t r'
    go true b d x y e = carry e (found_at open' tt (omega arith) (ap (λ (z : ℕ). z ∷ r) (eqb-true c 40 x)))
    go false true d x y e = carry e (found_at close' tt (omega arith) (ap (λ (z : ℕ). z ∷ r) (eqb-true c 41 y)))
    go false false true x y e = signs (c ∷ r) t r' e
    go false false false x y e = numbers (c ∷ r) t r' e

-- the fuel doesn't count, where there is enough
fuel : (f g : ℕ) (r : List ℕ) → length r ≤ f → length r ≤ g → tokens f r ≡ tokens g r
unfolding tokens
fuel zero zero r hf hg = refl
fuel zero (suc g) [] hf hg = refl
fuel zero (suc g) (c ∷ r) hf hg = absurd (omega arith)
fuel (suc f) zero [] hf hg = refl
fuel (suc f) zero (c ∷ r) hf hg = absurd (omega arith)
fuel (suc f) (suc g) [] hf hg = refl
fuel (suc f) (suc g) (c ∷ r) hf hg = go (last (c ∷ r)) refl (fuel f g)
  where
    go : (x : Last) → last (c ∷ r) ≡ x → ((q : List ℕ) → length q ≤ f → length q ≤ g → tokens f q ≡ tokens g q) → more x (tokens f) ≡ more x (tokens g)
    go (found t q) e k = let s = (last_found (c ∷ r) t q e).shorter in ap (◌∷◌ t) (k q (omega arith) (omega arith))
    go nothing e k = refl

none_last : {A : Type 0} {t : Tok} {r : List ℕ} → last [] ≡ found t r → A
unfolding last
none_last e = no_found e

pub lex-found : (r : List ℕ) {t : Tok} {r' : List ℕ} → last r ≡ found t r' → lex r ≡ t ∷ lex r'
unfolding lex tokens
lex-found [] e = none_last e
lex-found (c ∷ r) {t} {r'} e = let s = (last_found (c ∷ r) t r' e).shorter in rw e (ap (◌∷◌ t) (fuel (length r) (length r') r' (omega arith) (omega arith)))

pub lex-none : (c : ℕ) (r : List ℕ) → last (c ∷ r) ≡ nothing → lex (c ∷ r) ≡ bad ∷ []
unfolding lex tokens
lex-none c r e = rw e

digit-end : (n : ℕ) (r : List ℕ) → after_operand (32 ∷ ((48 + n % 10) ∷ r)) ≡ true
unfolding after_operand
digit-end n r = rw (ne_eqb (48 + n % 10) 41 (λ e. omega arith)) (digit-is n)

number-end : (n : ℕ) (r : List ℕ) → n < 2048 → after_operand (32 ∷ reverse_aux (atom_text n) r) ≡ true
unfolding decimal rdigits
number-end n r h =
    let z = sized 3 n (omega arith) in
    rw (from_last (width n) n (101 ∷ r), z.size) (digit-end n (rdigits z.others (n / 10) ++ (101 ∷ r)))

backwards : (s x u r : List ℕ) → reverse_aux (s ++ (x ++ u)) r ≡ reverse_aux u (reverse_aux x (reverse_aux s r))
backwards s x u r = reverse_aux-append s (x ++ u) r ∙ reverse_aux-append x u (reverse_aux s r)

-- an operand ends with a digit or a bracket
ends : {m : ℕ} {s : List ℕ} {t : Cond} (w : Written m s t) (r : List ℕ) → after_operand (32 ∷ reverse_aux s r) ≡ true
unfolding after_operand
ends (an-atom n h) r = number-end n r h
ends (a-unary {s = s} o h le w) r = rw (reverse_aux-append (unary_sign o) s r) (ends w (reverse_aux (unary_sign o) r))
ends (a-binary {s = s} {u = u} o h le v w) r = rw (backwards s (binary_sign o) u r) (ends w (reverse_aux (binary_sign o) (reverse_aux s r)))
ends (in-brackets {s = s} w) r = rw (reverse_aux-append s (41 ∷ []) (40 ∷ r)) refl

-- before a sign, and before a bracket that opens, no operand ends
free-unary : (o : ℕ) (r : List ℕ) → o < 2 → after_operand (reverse_aux (unary_sign o) r) ≡ false
unfolding after_operand
free-unary zero r h = refl
free-unary (suc zero) r h = refl
free-unary (suc (suc o)) r h = absurd (omega arith)

free_open : (r : List ℕ) → after_operand (40 ∷ r) ≡ false
unfolding after_operand
free_open [] = refl
free_open (c ∷ r) = refl

free-binary : (o : ℕ) (r : List ℕ) → o < 20 → after_operand (reverse_aux (binary_sign o) r) ≡ false
unfolding after_operand
free-binary zero r h = refl
free-binary (suc zero) r h = refl
free-binary (suc (suc zero)) r h = refl
free-binary (suc (suc (suc zero))) r h = refl
free-binary (suc (suc (suc (suc zero)))) r h = refl
free-binary (suc (suc (suc (suc (suc zero))))) r h = refl
free-binary (suc (suc (suc (suc (suc (suc zero)))))) r h = refl
free-binary (suc (suc (suc (suc (suc (suc (suc zero))))))) r h = refl
free-binary (suc (suc (suc (suc (suc (suc (suc (suc zero)))))))) r h = refl
free-binary (suc (suc (suc (suc (suc (suc (suc (suc (suc zero))))))))) r h = refl
free-binary (suc (suc (suc (suc (suc (suc (suc (suc (suc (suc zero)))))))))) r h = refl
free-binary (suc (suc (suc (suc (suc (suc (suc (suc (suc (suc (suc zero))))))))))) r h = refl
free-binary (suc (suc (suc (suc (suc (suc (suc (suc (suc (suc (suc (suc zero)))))))))))) r h = refl
free-binary (suc (suc (suc (suc (suc (suc (suc (suc (suc (suc (suc (suc (suc zero))))))))))))) r h = refl
free-binary (suc (suc (suc (suc (suc (suc (suc (suc (suc (suc (suc (suc (suc (suc zero)))))))))))))) r h = refl
free-binary (suc (suc (suc (suc (suc (suc (suc (suc (suc (suc (suc (suc (suc (suc (suc zero))))))))))))))) r h = refl
free-binary (suc (suc (suc (suc (suc (suc (suc (suc (suc (suc (suc (suc (suc (suc (suc (suc zero)))))))))))))))) r h = refl
free-binary (suc (suc (suc (suc (suc (suc (suc (suc (suc (suc (suc (suc (suc (suc (suc (suc (suc zero))))))))))))))))) r h = refl
free-binary (suc (suc (suc (suc (suc (suc (suc (suc (suc (suc (suc (suc (suc (suc (suc (suc (suc (suc zero)))))))))))))))))) r h = refl
free-binary (suc (suc (suc (suc (suc (suc (suc (suc (suc (suc (suc (suc (suc (suc (suc (suc (suc (suc (suc zero))))))))))))))))))) r h = refl
free-binary (suc (suc (suc (suc (suc (suc (suc (suc (suc (suc (suc (suc (suc (suc (suc (suc (suc (suc (suc (suc o)))))))))))))))))))) r h = absurd (omega arith)

closes : {r : List ℕ} → last (41 ∷ r) ≡ found close' r
unfolding last
closes = refl

opened : {r : List ℕ} → last (40 ∷ r) ≡ found open' r
unfolding last
opened = refl

-- the tokens of a written text are found, whatever stands before it, if no operand does
pub lexed : {m : ℕ} {s : List ℕ} {t : Cond} (w : Written m s t) (r : List ℕ) → after_operand r ≡ false → lex (reverse_aux s r) ≡ toks w (lex r)
unfolding toks
lexed (an-atom n h) r f = lex-found (reverse_aux (atom_text n) r) (numbered n r h)
lexed (a-unary {s = s} o h le w) r f =
    rw (reverse_aux-append (unary_sign o) s r)
    (lexed w (reverse_aux (unary_sign o) r) (free-unary o r h) ∙ ap (toks w) (lex-found (reverse_aux (unary_sign o) r) (prefixes o r h f)))
lexed (a-binary {s = s} {u = u} o h le v w) r f =
    rw (backwards s (binary_sign o) u r)
    (lexed w (reverse_aux (binary_sign o) (reverse_aux s r)) (free-binary o (reverse_aux s r) h)
    ∙ ap (toks w) (lex-found (reverse_aux (binary_sign o) (reverse_aux s r)) (signed o (reverse_aux s r) h (ends v r)) ∙ ap (◌∷◌ (bin o)) (lexed v r f)))
lexed (in-brackets {s = s} w) r f =
    rw (reverse_aux-append s (41 ∷ []) (40 ∷ r))
    (lex-found (41 ∷ reverse_aux s (40 ∷ r)) closes ∙ ap (◌∷◌ close') (lexed w (40 ∷ r) (free_open r) ∙ ap (toks w) (lex-found (40 ∷ r) opened)))
