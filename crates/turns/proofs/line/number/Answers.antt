-- A zero stands alone, and other digits write the number.
use Rattle.std.proofs.Common.{◌≡◌, ◌≢◌, ℕ, Bool, List, [], ◌∷◌, length, eqb, Some, None, refl, ◌∙◌, arith}
use Rattle.std.specs.Bool.{then_some}
use Rattle.std.proofs.lemmas.Bool.Decides.{nat_tests}
use Rattle.turns.specs.Command.{number_of, digits_from}
use Rattle.turns.proofs.line.number.Goals as goal

nothing : (s : List ℕ) → length s ≡ 0 → None ≡ number_of s
unfolding number_of
nothing [] h = refl
nothing (d ∷ ds) h = absurd (omega arith)

module _ (s : List ℕ) (d : ℕ) (ds : List ℕ) (e : s ≡ d ∷ ds) where
  digits : d ≢ 48 → digits_from 0 s ≡ number_of s
  unfolding number_of
  digits h = rw e (grind (arith, nat_tests))

alone : (ds : List ℕ) (b : Bool) → b ≡ eqb (length ds) 0 → then_some b 0 ≡ number_of (48 ∷ ds)
unfolding number_of
alone [] b h = rw h
alone (x ∷ ds) b h = rw h (grind (arith, nat_tests))

pub returns-in_err-first : goal.returns-in_err-first
returns-in_err-first c = c.from_residual.ensures ∙ nothing _ c.in_err-first.ensures.cases

pub returns-then-first-ne48 : goal.returns-then-first-ne48
returns-then-first-ne48 c = c.value.ensures ∙ digits _ _ _ c.in_ok-first.ensures.cases.0 c.if-first-ne48.true

pub returns : goal.returns
returns c = rw (c.then_some.ensures, c.in_ok-first.ensures.cases.0, c.if-first-ne48.false) (alone _ _ c.is_empty.ensures)
