-- A scope that stands at an offset is one of those in use, of which the list has room for all.
use Prim.Native.Nat.{ℕ, suc, ◌+◌, ◌/◌, ◌<◌, ◌≤◌}
use mathlib.Core.Bool.{Bool, true, false, cond, ◌&&◌}
use mathlib.Core.List.{List, [], ◌∷◌}
use mathlib.Core.Path.{◌≡◌, refl}
use native.Mathlib.Omega.{arith}
use borrow.Author.Tests.{leb-true}
use lib.Dec.{leb}
use lib.ListN.{length}
use Rattle.scope.specs.Graph.{Scope}
use Rattle.scope.specs.Flat.{scope_of, scopes_of}
use Rattle.scope.specs.Offset.{Best, none', best, covers, width, better, narrowest, in', scope_at_offset, offset}
use Rattle.scope.proofs.Entries.{length-entries}

-- the best so far is below a number
abbrev Under : ℕ → Best → Type 0
Under n none' = Unit {0}
Under n (best s w) = s < n

either : (t : Bool) (n : ℕ) (a b : Best) → Under n a → Under n b → Under n (cond t a b)
either true n a b h k = h
either false n a b h k = k

-- with the scope n it is below the next number
one_more : (o n : ℕ) (s : Scope) (b : Best) → Under n b → Under (suc n) (better o n s b)
unfolding better
one_more o n s none' h = either (covers o s) (suc n) (best n (width s)) none' (omega arith) tt
one_more o n s (best m w) h = either (covers o s && leb (width s) w) (suc n) (best n (width s)) (best m w) (omega arith) (omega arith)

-- so is the best of the scopes from the number n on below the number after them
within : (o n : ℕ) (ss : List Scope) (b : Best) → Under n b → Under (n + length ss) (narrowest o n ss b)
unfolding narrowest
within o n [] b h =
    let e : n + 0 ≡ n = omega arith in
    rw e h
within o n (s ∷ ss) b h =
    let e : n + suc (length ss) ≡ suc n + length ss = omega arith in
    rw e (within o (suc n) ss (better o n s b) (one_more o n s b h))

module _ (n : ℕ) (ws : List ℕ) (o s : ℕ) (h : offset n ws o ≡ in' s) where
  by_cases : (t : Bool) (b : Best) → leb n (length ws / 4) ≡ t → narrowest o 0 (scopes_of n ws) none' ≡ b → Under n b → (s < n) × (n ≤ length ws / 4)
  unfolding offset scope_at_offset
  by_cases false b e f k = let z : ◌≡◌ {A = ℕ} 0 1 = let x = rw e at h in cc in absurd (omega arith)
  by_cases true none' e f k = let z : ◌≡◌ {A = ℕ} 0 1 = let x = rw (e, f) at h in cc in absurd (omega arith)
  by_cases true (best m w) e f k =
      let x = rw (e, f) at h in
      let same : m ≡ s = cc in
      (omega arith, leb-true n (length ws / 4) e)

  pub below : (s < n) × (n ≤ length ws / 4)
  below =
      let few : Under (0 + length (scopes_of n ws)) (narrowest o 0 (scopes_of n ws) none') = within o 0 (scopes_of n ws) none' tt in
      let long : 0 + length (scopes_of n ws) ≡ n = rw (length-entries 4 scope_of n ws) (omega arith) in
      by_cases (leb n (length ws / 4)) (narrowest o 0 (scopes_of n ws) none') refl refl (rw long at few)
