-- Zeros, and the two parts into which they are cut.
use Prim.Native.Nat.{ℕ, zero, suc}
use mathlib.Core.Path.{◌≡◌, refl}
use mathlib.Core.List.{List, [], ◌∷◌}
use lib.ListN.{get_or, take, drop, replicate}
use Rattle.listing.specs.Found.{AllZero}

pub zeros : (n : ℕ) → AllZero (replicate {A = ℕ} n 0)
zeros n = record { at = go n }
  where
    go : (n i : ℕ) → get_or (replicate {A = ℕ} n 0) i 0 ≡ 0
    go zero i = refl
    go (suc n) zero = refl
    go (suc n) (suc i) = go n i

pub zeros_front : {old part : List ℕ} (k : ℕ) → part ≡ take k old → AllZero old → AllZero part
zeros_front {old} k e h = record { at = λ i. rw e (go k old i h.at) }
  where
    go : (k : ℕ) (l : List ℕ) (i : ℕ) → ((j : ℕ) → get_or l j 0 ≡ 0) → get_or (take k l) i 0 ≡ 0
    go zero l i h = refl
    go (suc k) [] i h = refl
    go (suc k) (x ∷ l) zero h = h 0
    go (suc k) (x ∷ l) (suc i) h = go k l i (λ j. h (suc j))

pub zeros_back : {old part : List ℕ} (k : ℕ) → part ≡ drop k old → AllZero old → AllZero part
zeros_back {old} k e h = record { at = λ i. rw e (go k old i h.at) }
  where
    go : (k : ℕ) (l : List ℕ) (i : ℕ) → ((j : ℕ) → get_or l j 0 ≡ 0) → get_or (drop k l) i 0 ≡ 0
    go zero l i h = h i
    go (suc k) [] i h = refl
    go (suc k) (x ∷ l) i h = go k l i (λ j. h (suc j))
