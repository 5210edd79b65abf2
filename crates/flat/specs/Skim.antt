-- What a row that is read flat answers: 6 where it can't tell, and else what the definition gives.
use Rattle.std.specs.Prelude.{ℕ, ◌≤◌, ◌≡◌, List, length, drop, Result}
use Rattle.refusal.specs.declared.Refusal.{Refusal}
use Rattle.heads.specs.Got.{Got, no, bare}
use Rattle.heads.specs.Answer.{read_got, read_end}

-- the answer r from at on, where the definition reads f
pub record Skims {A : Type 0} (ws : List ℕ) (at : ℕ) (f : List ℕ → Got A) (r : Result ℕ Refusal) : Type 0 where
  pub same : (read_got ws r ≡ no 6 → ⊥) → bare (f (drop at ws)) ≡ read_got ws r
  pub from : at ≤ read_end ws r
  pub within : read_end ws r ≤ length ws
