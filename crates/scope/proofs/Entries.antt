-- The entries of a flat list from the number i on: the first of them begins at the word i * width, and past the last there is none.
use Prim.Native.Nat.{ℕ, zero, suc, ◌+◌, ◌*◌, ◌-◌, ◌<◌, ◌≤◌}
use mathlib.Core.Path.{◌≡◌, refl, ap}
use mathlib.Core.List.{List, [], ◌∷◌}
use native.Mathlib.Omega.{arith}
use lib.ListN.{length, drop}
use lib.Seq.{drop-drop}
use Rattle.scope.specs.Flat.{entries_of}

module _ {A : Type 0} (width : ℕ) (one : List ℕ → A) where
  pub length-entries : (n : ℕ) (ws : List ℕ) → length (entries_of width one n ws) ≡ n
  unfolding entries_of
  length-entries zero ws = refl
  length-entries (suc n) ws = ap suc (length-entries n (drop width ws))

  module _ (n : ℕ) (ws : List ℕ) where
    abbrev pub from : ℕ → List A
    from i = entries_of width one (n - i) (drop (i * width) ws)

    pub first : from 0 ≡ entries_of width one n ws
    first =
        let all : n - 0 ≡ n = omega arith in
        let start : 0 * width ≡ 0 = omega arith in
        rw (all, start)

    pub next : (i : ℕ) → i < n → from i ≡ one (drop (i * width) ws) ∷ from (i + 1)
    unfolding entries_of
    next i h =
        let one_more : n - i ≡ suc (n - (i + 1)) = omega arith in
        let along : i * width + width ≡ (i + 1) * width = omega arith in
        rw (one_more, drop-drop, along)

    pub last : (i : ℕ) → n ≤ i → from i ≡ []
    unfolding entries_of
    last i h =
        let none : n - i ≡ 0 = omega arith in
        rw none
