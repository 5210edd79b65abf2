-- The names of pairs that are held are in range (`names_at`).
use Prim.Native.Nat.{ℕ, zero, suc, ◌*◌, ◌+◌, ◌<◌}
use native.Mathlib.Omega.{arith}
use mathlib.Core.Path.{◌≡◌, refl}
use mathlib.Core.Bool.{Bool, true, false}
use mathlib.Core.List.{List, [], ◌∷◌, ◌++◌}
use lib.Dec.{eqb}
use lib.ListN.{get_or}
use borrow.Author.Tests.{eqb-true, eqb-false}
use Rattle.scope.specs.Graph.{name, indexed}
use Rattle.semantics.specs.Resolve.{Pair, pair}
use Rattle.projection_walk.specs.Pairs.{pairs_in, InNames}

names-split : {slots x : ℕ} (v : ℕ) (ps : List Pair) → InNames slots (ps ++ (pair (indexed x) v ∷ [])) → InNames slots ps × (x < slots)
unfolding InNames
names-split v [] h = (tt, h.0.1)
names-split v (pair (name m y) u ∷ ps) h = let z = names-split v ps h.1 in ((h.0, z.0), z.1)

pub names_at : (slots : ℕ) (held : List ℕ) (n i : ℕ) → i < n → InNames slots (pairs_in n held) → get_or held (i * 2) 0 < slots
unfolding pairs_in
names_at slots held zero i l h = absurd (omega arith)
names_at slots held (suc n) i l h = go (eqb i n) refl (names-split (get_or held (n * 2 + 1) 0) (pairs_in n held) h) (names_at slots held n i)
  where
    go : (b : Bool) → eqb i n ≡ b → InNames slots (pairs_in n held) × (get_or held (n * 2) 0 < slots) → (i < n → InNames slots (pairs_in n held) → get_or held (i * 2) 0 < slots) → get_or held (i * 2) 0 < slots
    go true q z r = rw (eqb-true i n q) z.1
    go false q z r = let e = eqb-false i n q in r (below i n l e) z.0
      where
        below : (i n : ℕ) → i < suc n → (i ≡ n → ⊥) → i < n
        below i n l e = omega arith
