-- What a `?` hands on is the error that it met.
use Rattle.std.proofs.Common.{◌≡◌, ap, Result, Ok, Err}
use Rattle.std.specs.Result.{IsErr, IsErrAnd}

pub handed : {A E : Type 0} (e : E) (r : Result A E) → IsErr r × IsErrAnd r (λ y. y ≡ e) → r ≡ Err e
handed e (Err y) h = ap Err h.1
handed e (Ok x) h = absurd h.1
