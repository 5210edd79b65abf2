-- What begins with a text is that text and the rest.
use Rattle.std.proofs.Common.{◌≡◌, ℕ, Bool, true, false, cond, List, [], ◌∷◌, ◌++◌, eqb, Some, None, refl}
use borrow.Author.Tests.{eqb-true}
use Rattle.turns.specs.Command.{strip}

pub strip_is : (text s rest : List ℕ) → strip text s ≡ Some rest → s ≡ text ++ rest
unfolding strip
strip_is [] s rest e = cc
strip_is (t ∷ ts) [] rest e = cc
strip_is (t ∷ ts) (b ∷ s) rest e = by (eqb t b) refl e (strip_is ts s rest)
  where
    by : (f : Bool) → eqb t b ≡ f → cond f (strip ts s) None ≡ Some rest → (strip ts s ≡ Some rest → s ≡ ts ++ rest) → b ∷ s ≡ t ∷ (ts ++ rest)
    by true q g h = let z = eqb-true t b q in let y = h g in cc
    by false q g h = cc
