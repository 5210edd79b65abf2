-- The most that the word after a code may be, as the code's table has it.
use Prim.Native.Nat.{ℕ, ◌≤◌}
use native.Mathlib.Omega.{arith}
use mathlib.Core.Path.{◌≡◌, refl}
use mathlib.Core.List.{List, [], ◌∷◌}
use borrow.Author.Tests.{ne_eqb}
use lib.ListN.{get_or}
use Rattle.flat.proofs.Codes.{Each, ◌▹◌}
use Rattle.walk.specs.Plain.{limit}

abbrev pub table : List ℕ
table =
    4294967295 ∷ 4294967295 ∷ 4294967295 ∷ 4294967295 ∷ 4294967295 ∷ 4294967295 ∷ 4294967295 ∷ 4294967295 ∷ 4294967295 ∷ 4294967295 ∷ 4294967295 ∷ 3 ∷ 524287 ∷ 524287 ∷ 524287 ∷ 19 ∷ 1 ∷ 4294967295 ∷ 4294967295 ∷ 4294967295 ∷ 4294967295 ∷ 1 ∷ 4294967295 ∷ 1 ∷ 4294967295 ∷ 4294967295 ∷ []

-- no code above the table's has one
beyond : (n : ℕ) → 26 ≤ n → 4294967295 ≡ limit n
beyond n h =
    rw (ne_eqb n 11 (λ e. omega arith), ne_eqb n 12 (λ e. omega arith), ne_eqb n 13 (λ e. omega arith), ne_eqb n 14 (λ e. omega arith), ne_eqb n 15 (λ e. omega arith), ne_eqb n 16 (λ e. omega arith), ne_eqb n 21 (λ e. omega arith), ne_eqb n 23 (λ e. omega arith)) refl

each : (n : ℕ) → Each (λ code. n ≡ code → get_or table code 4294967295 ≡ limit code)
each n =
    (λ e. refl) ▹ (λ e. refl) ▹ (λ e. refl) ▹ (λ e. refl) ▹ (λ e. refl) ▹ (λ e. refl) ▹ (λ e. refl) ▹ (λ e. refl) ▹ (λ e. refl) ▹ (λ e. refl) ▹ (λ e. refl) ▹ (λ e. refl) ▹ (λ e. refl) ▹ (λ e. refl) ▹ (λ e. refl) ▹ (λ e. refl) ▹ (λ e. refl) ▹ (λ e. refl) ▹ (λ e. refl) ▹ (λ e. refl) ▹ (λ e. refl) ▹ (λ e. refl) ▹ (λ e. refl) ▹ (λ e. refl) ▹ (λ e. refl) ▹ (λ e. refl) ▹ record { at = λ k e. rw e at (beyond n (omega arith)) }

pub limits : (code : ℕ) → get_or table code 4294967295 ≡ limit code
limits code = (each code).at code refl
