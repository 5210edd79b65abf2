-- A text from its last byte to its first, and what stands before a sign at its end.
use Prim.Native.Nat.{ℕ, suc, ◌+◌, ◌-◌, ◌*◌, ◌<◌, ◌≤◌}
use native.Mathlib.Omega.{arith}
use native.Mathlib.Numerals.{add-one}
use mathlib.Core.Logic.{◌≢◌}
use mathlib.Core.Path.{◌≡◌, refl, sym, ap, ◌∙◌}
use mathlib.Core.Bool.{Bool, true, false, ◌&&◌}
use mathlib.Core.List.{List, [], ◌∷◌, ◌++◌, reverse}
use denote.Ref.{Bor}
use lib.Dec.{eqb, ltb}
use lib.ListN.{length, get_or, take, length-take}
use lib.Seq.{take-suc, take-length}
use borrow.Author.Tests.{eq-eqb, ne_eqb}
use Rattle.std.specs.Prelude.{Option, Some, None, IfSome}
use Rattle.std.specs.Option.{MatchOption}
use Rattle.std.proofs.lemmas.List.{length-reverse, reverse-append, reverse-reverse, get_or-take}
use Rattle.condition.specs.Tokens.{pick, or_else, found, nothing, open', close', number, bin, strip, first_sign, after_operand, is_end, is_digit, sign_last, number_end, number_last, last}
use Rattle.condition.specs.Cond.{binary_sign}
use Rattle.words.specs.Decimal.{width}
use Rattle.condition.proofs.Lexing.{stripped, last_found}
use Rattle.condition.proofs.Sound.{WellTok}
use Rattle.condition_lexer.specs.declared.Token.{Token}
use Rattle.condition_lexer.specs.Seen.{before_of, tok_of, last_of}

-- the last byte
pub reverse_none : (s : List ℕ) → length s < 1 → reverse s ≡ []
reverse_none [] h = refl
reverse_none (x ∷ s) h = absurd (omega arith)

pub reverse_last : (s : List ℕ) → 1 ≤ length s → reverse s ≡ get_or s (length s - 1) 0 ∷ reverse (take (length s - 1) s)
reverse_last s h =
    let n : length s ≡ suc (length s - 1) = omega arith in
    let e : s ≡ take (length s - 1) s ++ (get_or s (length s - 1) 0 ∷ []) = sym (take-length s) ∙ ap (λ (k : ℕ). take k s) n ∙ take-suc s (length s - 1) 0 (omega arith) in
    ap reverse e ∙ reverse-append (take (length s - 1) s) (get_or s (length s - 1) 0 ∷ [])

-- the last two
pub after_none : (s : List ℕ) → length s < 2 → after_operand (reverse s) ≡ false
unfolding after_operand
after_none [] h = refl
after_none (x ∷ []) h = refl
after_none (x ∷ (y ∷ s)) h = absurd (omega arith)

pub after_two : (s : List ℕ) → 2 ≤ length s → after_operand (reverse s) ≡ (eqb (get_or s (length s - 1) 0) 32 && is_end (get_or s (length s - 2) 0))
unfolding after_operand
after_two s h =
    let t = take (length s - 1) s in
    let n : length t ≡ length s - 1 = omega (arith, length-take (length s - 1) s) in
    let k : length t - 1 ≡ length s - 2 = omega arith in
    rw (reverse_last s (omega arith), reverse_last t (omega arith), k, get_or-take (length s - 1) s (length s - 2) 0 (omega arith))

-- what a sign leaves
unstripped : (x r : List ℕ) → strip x (x ++ r) ≡ Some r
unfolding strip
unstripped [] r = refl
unstripped (c ∷ x) r = rw (eq-eqb c c refl) (unstripped x r)

pub signed : (s sign : List ℕ) (r : Option (Bor (List ℕ))) → MatchOption r ((front : List ℕ) → s ≢ front ++ sign) (λ x. s ≡ x.now ++ sign) → strip (reverse sign) (reverse s) ≡ before_of r
signed s sign None h = go (strip (reverse sign) (reverse s)) refl
  where
    go : (x : Option (List ℕ)) → strip (reverse sign) (reverse s) ≡ x → x ≡ None
    go None e = refl
    go (Some r) e = absurd (h (reverse r) (sym (reverse-reverse s) ∙ (ap reverse (stripped (reverse sign) (reverse s) r e) ∙ (reverse-append (reverse sign) r ∙ ap (λ (l : List ℕ). reverse r ++ l) (reverse-reverse sign)))))
signed s sign (Some x) h = rw (h, reverse-append x.now sign) (unstripped (reverse sign) (reverse x.now))

-- a sign whose last byte but one is another than the text's
no_pick : {A : Type 0} (p : Bool) (a : A) → pick p a a ≡ a
no_pick true a = refl
no_pick false a = refl

last_two : (s : List ℕ) → 2 ≤ length s → reverse s ≡ get_or s (length s - 1) 0 ∷ (get_or s (length s - 2) 0 ∷ reverse (take (length s - 2) (take (length s - 1) s)))
last_two s h =
    let t = take (length s - 1) s in
    let k : length t ≡ length s - 1 = omega (arith, length-take (length s - 1) s) in
    let m : length t - 1 ≡ length s - 2 = omega arith in
    rw (reverse_last s (omega arith), reverse_last t (omega arith), m, get_or-take (length s - 1) s (length s - 2) 0 (omega arith)) refl

pub missed : (sign s : List ℕ) → 2 ≤ length sign → 2 ≤ length s → get_or s (length s - 2) 0 ≢ get_or sign (length sign - 2) 0 → strip (reverse sign) (reverse s) ≡ None
unfolding strip
missed sign s g h n = rw (last_two sign g, last_two s h, ne_eqb _ _ n) (no_pick (eqb (get_or s (length s - 1) 0) (get_or sign (length sign - 1) 0)) _)

-- by the last byte
pub end_none : (v k : ℕ) (s : List ℕ) → length s < 1 → number_end v k (reverse s) ≡ nothing
unfolding number_end
end_none v k s h = rw (reverse_none s h)

pub end_one : (v k : ℕ) (s : List ℕ) → 1 ≤ length s → number_end v k (reverse s) ≡ pick (eqb (get_or s (length s - 1) 0) 101) (pick (eqb (width v) k) (pick (ltb v 2048) (found (number v) (reverse (take (length s - 1) s))) nothing) nothing) nothing
unfolding number_end
end_one v k s h = rw (reverse_last s h)

pub last_none : (s : List ℕ) → length s < 1 → last (reverse s) ≡ nothing
unfolding last
last_none s h = rw (reverse_none s h)

pub last_one : (s : List ℕ) → 1 ≤ length s → last (reverse s) ≡ (let b = get_or s (length s - 1) 0 in let r = reverse (take (length s - 1) s) in pick (eqb b 40) (found open' r) (pick (eqb b 41) (found close' r) (pick (eqb b 32) (sign_last (reverse s)) (number_last 4 0 1 0 (reverse s)))))
unfolding last
last_one s h = rw (reverse_last s h)

-- the signs in turn
pub sign_turn : (o : ℕ) (r : List ℕ) → o < 20 → first_sign (20 - o) o r ≡ or_else (strip (reverse (binary_sign o)) r) (bin o) (first_sign (20 - (o + 1)) (o + 1) r)
unfolding first_sign
sign_turn o r h = let e : 20 - o ≡ suc (20 - (o + 1)) = omega arith in rw (e, add-one o)

pub sign_stop : (o : ℕ) (r : List ℕ) → 20 ≤ o → first_sign (20 - o) o r ≡ nothing
unfolding first_sign
sign_stop o r h = let e : 20 - o ≡ 0 = omega arith in rw e

-- and the digits
module _ (v scale k : ℕ) (s : List ℕ) where
  four : k < 4 → 4 - k ≡ suc (4 - (k + 1))
  four h = omega arith

  pub digits_none : k < 4 → length s < 1 → number_last (4 - k) v scale k (reverse s) ≡ nothing
  unfolding number_last
  digits_none h n = rw (four h, reverse_none s n)

  pub digits_turn : k < 4 → 1 ≤ length s → number_last (4 - k) v scale k (reverse s) ≡ pick (is_digit (get_or s (length s - 1) 0)) (number_last (4 - (k + 1)) (v + (get_or s (length s - 1) 0 - 48) * scale) (scale * 10) (k + 1) (reverse (take (length s - 1) s))) (number_end v k (reverse s))
  unfolding number_last
  digits_turn h n = rw (four h, reverse_last s n, add-one k)

  pub digits_stop : 4 ≤ k → number_last (4 - k) v scale k (reverse s) ≡ number_end v k (reverse s)
  unfolding number_last
  digits_stop h = let e : 4 - k ≡ 0 = omega arith in rw e

-- a token that was found
pub shorter : (s : List ℕ) (r : Option (Token × Bor (List ℕ))) → last (reverse s) ≡ last_of r → IfSome r (λ l. length l.1.now < length s)
shorter s None e = _
shorter s (Some l) e = omega (arith, (last_found (reverse s) (tok_of l.0) (reverse l.1.now) e).shorter, length-reverse s, length-reverse l.1.now)

pub known : (s : List ℕ) (r : Option (Token × Bor (List ℕ))) → last (reverse s) ≡ last_of r → IfSome r (λ l. WellTok (tok_of l.0))
known s None e = _
known s (Some l) e = (last_found (reverse s) (tok_of l.0) (reverse l.1.now) e).well
