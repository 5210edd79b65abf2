-- A name is `*` where it is its one byte.
use Prim.Native.Nat.{ℕ}
use mathlib.Core.Path.{◌≡◌, refl}
use mathlib.Core.List.{List, [], ◌∷◌}
use lib.Dec.{eqb}
use lib.Pointwise.{pointwise}
use Rattle.tables.specs.Distinct.{same_bytes}
use Rattle.texts.specs.Bytes.{bytes}
use Rattle.message.proofs.is_starred.Goals as goal

star : (x : List ℕ) → pointwise eqb x (bytes "*") ≡ same_bytes x (bytes "*")
unfolding same_bytes
star [] = refl
star (a ∷ []) = refl
star (a ∷ (b ∷ l)) = refl

pub returns : goal.returns
returns c = rw (c.eq.ensures, c.as_slice.ensures, star c.args.x.now)
