-- Laws of the first n of a table, from i on: one more; and of a table made of another.
use Prim.Native.Nat.{ℕ, zero, suc, ◌+◌, ◌<◌, ◌≤◌}
use native.Mathlib.Omega.{arith}
use mathlib.Core.Path.{◌≡◌, refl, ap}
use mathlib.Core.List.{List, [], ◌∷◌, map}
use lib.ListN.{length, take, drop, get_or}
use lib.Seq.{length-take-le, get_or-take}
use Rattle.words.proofs.Words.{drop-word}

pub front-more : (l : List ℕ) (n i : ℕ) → n ≤ length l → i < n → drop i (take n l) ≡ get_or l i 0 ∷ drop (i + 1) (take n l)
front-more l n i h lt = rw (drop-word (take n l) i (omega (arith, length-take-le n l h)), get_or-take n l i 0 lt)

module _ {A B : Type 0} (f : A → B) where
  pub take-map : (i : ℕ) (l : List A) → take i (map f l) ≡ map f (take i l)
  take-map zero l = refl
  take-map (suc i) [] = refl
  take-map (suc i) (x ∷ l) = ap (λ (t : List B). f x ∷ t) (take-map i l)

  pub get_d_map : (l : List A) (i : ℕ) (d : A) (e : B) → i < length l → get_or (map f l) i e ≡ f (get_or l i d)
  get_d_map [] i d e h = absurd (omega arith)
  get_d_map (x ∷ l) zero d e h = refl
  get_d_map (x ∷ l) (suc i) d e h = get_d_map l i d e (omega arith)
