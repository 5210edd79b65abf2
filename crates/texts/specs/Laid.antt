-- A text laid from a place on in lent bytes, which hold it: all others keep their value.
use Rattle.std.specs.Prelude.{ℕ, ◌+◌, ◌≡◌, List, length}
use Rattle.std.proofs.lemmas.List.Edits.{sets}

unfoldable pub laid : List ℕ → ℕ → List ℕ → List ℕ
laid page at text = sets page at text

-- the text stands from `at` on in what was lent, and where it ends is the answer
pub record Lays (text old : List ℕ) (at : ℕ) (new : List ℕ) (r : ℕ) : Type 0 where
  pub next : r ≡ at + length text
  pub wrote : new ≡ laid old at text
  pub same : length new ≡ length old
