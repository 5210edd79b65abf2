-- What is found is the definition's text: a name that is cited (`cited`) or none.
use Prim.Native.Nat.{ℕ, suc}
use mathlib.Core.Path.{◌≡◌, refl, sym}
use mathlib.Core.Bool.{false≢true, cond}
use mathlib.Core.List.{List}
use denote.Ref.{Bor}
use native.Mathlib.Omega.{arith}
use borrow.Author.Tests.{ne_eqb, lt-ltb}
use lib.Dec.{eqb}
use Rattle.std.specs.Prelude.{Option, Some, Result, Ok, Err}
use Rattle.std.specs.Result.{MatchResult, IsOkAnd, IsErrAnd, is_ok}
use Rattle.std.proofs.Common.{rules}
use Rattle.refusal.specs.Number.{number_of}
use Rattle.refusal.specs.declared.Refusal.{Refusal}
use Rattle.refusal.specs.declared.Refusal.TheVariants.{Word}
use Rattle.refusal.proofs.Numbers.{same_cause}
use Rattle.sheet.specs.Read.{read_text}
use Rattle.sheet.specs.Answer.{text_told}
use Rattle.message.specs.Message.{name_text, Cites}
use Rattle.message.proofs.find_text.Goals as goal

abbrev nine : ℕ → ℕ
nine c = cond (eqb c 5) 9 c

-- what `map` and `map_err` make of a name that is cited
module _ (s : List ℕ) (i : ℕ) {P : Bor (List ℕ) → Option (Bor (List ℕ)) → Type 0} {Q : Refusal → Refusal → Type 0} (some : (x : Bor (List ℕ)) (o : Option (Bor (List ℕ))) → P x o → o ≡ Some x) (other : (e d : Refusal) → Q e d → number_of d ≡ nine (number_of e)) where
  named : (t : Result (Bor (List ℕ)) Refusal) (m n : Result (Option (Bor (List ℕ))) Refusal) → MatchResult t (λ x. IsOkAnd m (λ o. P x o)) (λ e. m ≡ Err e) → MatchResult m (λ x. n ≡ Ok x) (λ e. IsErrAnd n (λ d. Q e d)) → is_ok m ≡ is_ok t → is_ok n ≡ is_ok m → text_told t ≡ read_text s i → Cites s (suc i) n
  unfolding name_text
  named (Ok x) (Ok o) n h k a b e = let z = some x o h in rw (k, z) (rw (← e), lt-ltb 0 (suc i) (omega arith))
  named (Ok x) (Err d) n h k a b e = absurd (false≢true a)
  named (Err c) (Ok o) n h k a b e = absurd (false≢true (sym a))
  named (Err c) (Err d) (Ok y) h k a b e = absurd (false≢true (sym b))
  named (Err c) (Err d) (Err f) h k a b e = let same : d ≡ c = cc in rw (← e, other d f k, same)

pub returns-in-Some : goal.returns-in-Some
returns-in-Some c =
    let next : c.args.name ≡ suc c.in-Some.i = omega (arith, c.in-Some.ensures) in
    rw next (named c.args.s.now c.in-Some.i (λ x o h. search rules) (λ e d h. search rules) c.text_at.result c.map.result c.map_err.result c.map.ensures.cases c.map_err.ensures.cases c.map.ensures.variant c.map_err.ensures.variant c.text_at.ensures)

pub returns-in-Ok : goal.returns-in-Ok
unfolding name_text
returns-in-Ok c =
    let none : c.args.name ≡ 0 = omega arith in
    rw none (rw (← c.in-Ok.ensures), refl)

pub returns-in-Word : goal.returns-in-Word
unfolding name_text
returns-in-Word c =
    let none : c.args.name ≡ 0 = omega arith in
    rw none (rw (← c.in-Err.ensures, c.in-Word.is), refl)

pub returns-in_default : goal.returns-in_default
unfolding name_text
returns-in_default c =
    let none : c.args.name ≡ 0 = omega arith in
    let unlike = ne_eqb (number_of c.in-Err.refusal) 5 (λ e. c.in_default.not-Word (same_cause c.in-Err.refusal Word e)) in
    rw (none, ← c.in-Err.ensures, unlike)
