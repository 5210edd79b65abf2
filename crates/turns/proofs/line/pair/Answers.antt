-- The numbers are those of the bytes before the blank and after it; where either is none, so is the pair.
use Rattle.std.proofs.Common.{◌≡◌, ℕ, ◌+◌, ◌-◌, ◌<◌, ◌≤◌, Bool, true, false, cond, eqb, ltb, List, length, take, drop, length-drop, Option, Some, None, refl, ap, ◌∙◌, arith}
use borrow.Author.Tests.{ltb-true, ltb-false}
use Rattle.std.specs.Prelude.{MatchOption}
use Rattle.std.specs.List.{position, position_or_len}
use Rattle.std.proofs.lemmas.List.{take_all}
use Rattle.std.proofs.lemmas.List.Recursion.{is_position_or_len}
use Rattle.words.proofs.Words.{drop-none}
use Rattle.turns.specs.Command.{before_blank, number_of, adding, pair_of}
use Rattle.turns.proofs.line.pair.Goals as goal

blank_is : (s : List ℕ) → before_blank s ≡ position_or_len (λ b. eqb b 32) s
unfolding before_blank
blank_is = is_position_or_len before_blank (λ b. eqb b 32) refl (λ b s. ap (λ (n : ℕ). cond (eqb b 32) 0 n) (omega arith))

at_blank : (s : List ℕ) (r : Option ℕ) → r ≡ position (λ b. eqb b 32) s → MatchOption r (length s ≤ before_blank s) (λ k. (k ≡ before_blank s) × (k < length s))
at_blank s r e = rw (e, blank_is s) (by (ltb (position_or_len (λ b. eqb b 32) s) (length s)) refl)
  where
    by : (t : Bool) → ltb (position_or_len (λ b. eqb b 32) s) (length s) ≡ t → MatchOption (cond t (Some (position_or_len (λ b. eqb b 32) s)) None) (length s ≤ position_or_len (λ b. eqb b 32) s) (λ k. (k ≡ position_or_len (λ b. eqb b 32) s) × (k < length s))
    by true t = (refl, ltb-true _ _ t)
    by false t = ltb-false _ _ t

short : (s : List ℕ) → length s ≤ before_blank s → None ≡ pair_of s
unfolding pair_of number_of
short s h = rw (drop-none s (before_blank s + 1) (omega arith)) (by (number_of (take (before_blank s) s)))
  where
    by : (q : Option ℕ) → None ≡ adding q None
    by None = refl
    by (Some q) = refl

parts : (s : List ℕ) (k : ℕ) (q item : Option ℕ) → k ≡ before_blank s → q ≡ number_of (take k s) → item ≡ number_of (take (length s - (k + 1)) (drop (k + 1) s)) → adding q item ≡ pair_of s
unfolding pair_of
parts s k q item e f g =
    let rest = take_all (length s - (k + 1)) (drop (k + 1) s) (simp length-drop (omega arith)) in
    rw (f, g, rest, e)

pub returns-in_err-blank : goal.returns-in_err-blank
returns-in_err-blank c = c.from_residual.ensures ∙ short _ (at_blank c.args.text.now None c.in_err-blank.ensures)

pub returns-in_err-queue : goal.returns-in_err-queue
returns-in_err-queue c =
    let k = at_blank c.args.text.now (Some c.in_ok-blank.blank) c.in_ok-blank.ensures in
    c.from_residual-in_err-queue.ensures ∙ parts _ _ _ _ k.0 c.in_err-queue.ensures refl

pub returns-in_err-item : goal.returns-in_err-item
returns-in_err-item c =
    let k = at_blank c.args.text.now (Some c.in_ok-blank.blank) c.in_ok-blank.ensures in
    c.from_residual-in_err-item.ensures ∙ parts _ _ _ _ k.0 c.in_ok-queue.ensures c.in_err-item.ensures

pub returns : goal.returns
returns c =
    let k = at_blank c.args.text.now (Some c.in_ok-blank.blank) c.in_ok-blank.ensures in
    parts _ _ _ _ k.0 c.in_ok-queue.ensures c.in_ok-item.ensures
