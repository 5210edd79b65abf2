-- Laws of `once`: of the stack it takes the entries that the heads point at (`once-newest`, `place-name`).
use Prim.Native.Nat.{ℕ, zero, suc, ◌+◌, ◌*◌, ◌≤◌}
use native.Mathlib.Omega.{arith}
use mathlib.Core.Path.{◌≡◌, refl, sym}
use mathlib.Core.Logic.{◌≢◌}
use mathlib.Core.Bool.{Bool, true, false, cond}
use mathlib.Core.List.{List, ◌∷◌}
use lib.Dec.{eqb}
use lib.ListN.{length, get_or}
use borrow.Author.Tests.{ne_eqb, eq-eqb, eqb-true, eqb-false}
use Rattle.scope.specs.Graph.{indexed, same_name}
use Rattle.semantics.specs.Resolve.{variable_of, Pair, pair, without, once}
use Rattle.visible.specs.Visible.{place, name_at, seens, newest}
use Rattle.visible.proofs.Places.{length-seens}

-- the entry that a head points at is of that name
pub place-name : (y n t i : ℕ) (m : List ℕ) → place (indexed y) (seens n t m) ≡ suc i → name_at n m i ≡ y
unfolding place seens same_name
place-name y n zero i m e = absurd (omega arith)
place-name y n (suc t) i m e = go (eqb y (name_at n m t)) refl e (place-name y n t i m)
  where
    go : (b : Bool) → eqb y (name_at n m t) ≡ b → cond b (suc (length (seens n t m))) (place (indexed y) (seens n t m)) ≡ suc i →
        (place (indexed y) (seens n t m) ≡ suc i → name_at n m i ≡ y) → name_at n m i ≡ y
    go true d e h =
        let z : i ≡ t = omega (arith, e, length-seens n t m) in
        rw z (sym (eqb-true y _ d))
    go false d e h = h e

-- an entry more on top: its name is the newest of that name no longer below it
one_more : (x y v l q i : ℕ) (ps qs : List Pair) → l ≢ i → ps ≡ without (indexed x) qs → (b d : Bool) → eqb y x ≡ b → eqb q (suc i) ≡ d →
    cond (eqb (cond b (suc l) q) (suc i)) (pair (indexed y) v ∷ ps) ps ≡ without (indexed x) (cond d (pair (indexed y) v ∷ qs) qs)
unfolding without same_name
one_more x y v l q i ps qs li h true true e g = rw (ne_eqb (suc l) (suc i) (λ z. li (omega arith)), eq-eqb x y (sym (eqb-true y x e))) h
one_more x y v l q i ps qs li h true false e g = rw (ne_eqb (suc l) (suc i) (λ z. li (omega arith))) h
one_more x y v l q i ps qs li h false true e g = rw (g, ne_eqb x y (λ z. eqb-false y x e (sym z)), h) refl
one_more x y v l q i ps qs li h false false e g = rw g h

newest-more : (n t : ℕ) (m : List ℕ) (i : ℕ) → i ≤ t → newest n (suc t) m i ≡ without (indexed (name_at n m t)) (newest n t m i)
unfolding newest without place seens same_name
newest-more n t m zero h = refl
newest-more n t m (suc i) h =
    one_more (name_at n m t) (name_at n m i) (get_or m (n + i * 4 + 1) 0) (length (seens n t m)) (place (indexed (name_at n m i)) (seens n t m)) i
    (newest n (suc t) m i) (newest n t m i) (λ z. omega (arith, length-seens n t m)) (newest-more n t m i (omega arith)) _ _ refl refl

pub once-newest : (n t : ℕ) (m : List ℕ) → once (seens n t m) ≡ newest n t m t
unfolding variable_of once newest place seens same_name
once-newest n zero m = refl
once-newest n (suc t) m =
    rw (eq-eqb (name_at n m t) (name_at n m t) refl, length-seens n t m, eq-eqb (suc t) (suc t) refl, newest-more n t m t (omega arith), once-newest n t m) refl
