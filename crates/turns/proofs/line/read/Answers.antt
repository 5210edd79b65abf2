-- What the line is, or begins with, decides.
use Rattle.std.proofs.Common.{◌≡◌, ◌≢◌, ℕ, List, [], ◌∷◌, ◌++◌, Option, Some, None, refl, sym, ◌∙◌}
use Rattle.std.proofs.lemmas.Bool.{false≢true}
use Rattle.std.proofs.lemmas.Bool.Decides.{Decides-eqb}
use Rattle.std.proofs.lemmas.Slice.Eq.{slice_eq-Decides, strip_prefix_is}
use Rattle.turns.specs.Command.{bytes, strip, taking, pair_in, pair_of, command_of}
use Rattle.turns.specs.declared.line.Command.TheVariants.{Take}
use Rattle.turns.proofs.Strip.{strip_is}
use Rattle.turns.proofs.line.read.Goals as goal

neither : (line : List ℕ) → line ≢ bytes "take" → ((rest : List ℕ) → line ≢ bytes "add " ++ rest) → None ≡ command_of line
unfolding command_of
neither line t a = by (strip (bytes "take") line) refl (strip (bytes "add ") line) refl
  where
    by : (x : Option (List ℕ)) → strip (bytes "take") line ≡ x → (y : Option (List ℕ)) → strip (bytes "add ") line ≡ y → None ≡ taking x (pair_in y)
    by None e None f = refl
    by None e (Some s) f = absurd (a s (strip_is (bytes "add ") line s f))
    by (Some []) e y f = absurd (t (strip_is (bytes "take") line [] e))
    by (Some (b ∷ s)) e y f = refl

module _ (line : List ℕ) where
  is-take : line ≡ bytes "take" → Some Take ≡ command_of line
  unfolding command_of strip
  is-take e = rw e

  is-pair : (rest : List ℕ) → line ≡ bytes "add " ++ rest → pair_of rest ≡ command_of line
  unfolding command_of strip
  is-pair rest e = rw e

pub returns-then-eq : goal.returns-then-eq
returns-then-eq c =
    is-take _ ((slice_eq-Decides Decides-eqb _ _ _ c.eq.ensures).0 c.if-eq.true ∙ c.as_slice.ensures)

pub returns-in_err-strip_prefix : goal.returns-in_err-strip_prefix
returns-in_err-strip_prefix c =
    let other = rw c.in_err-strip_prefix.was at (strip_prefix_is Decides-eqb c.args.line.now (bytes "add ") c.strip_prefix.result c.strip_prefix.ensures.cases) in
    c.from_residual.ensures ∙ neither _ (λ e. false≢true (sym c.if-eq.false ∙ (slice_eq-Decides Decides-eqb _ _ _ c.eq.ensures).1 (e ∙ sym c.as_slice.ensures))) other

pub returns : goal.returns
returns c =
    let begun = rw c.in_ok-strip_prefix.was at (strip_prefix_is Decides-eqb c.args.line.now (bytes "add ") c.strip_prefix.result c.strip_prefix.ensures.cases) in
    c.pair.ensures ∙ is-pair _ _ begun
