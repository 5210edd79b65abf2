-- A definition as the readers that it runs one after the other.
use Rattle.std.proofs.Common.{ℕ, List}
use Rattle.heads.specs.Got.{Got, bind}

pub data Chain (A : Type 0) : Type 1 where
  step : {B : Type 0} → (List ℕ → Got B) → (B → Chain A) → Chain A
  last : (List ℕ → Got A) → Chain A

abbrev pub run : {A : Type 0} → Chain A → List ℕ → Got A
run (step f k) r = bind (f r) (λ x r2. run (k x) r2)
run (last f) r = f r
