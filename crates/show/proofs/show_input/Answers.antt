-- What was read is the front of what the reader had, so its listing is printed.
use Rattle.std.proofs.Common.{◌≡◌, ℕ, List, take, Result, Ok, Err, None, Some, OnOk, IfSome, subst}
use Rattle.std.specs.Io.KnownBytes.{Appends}
use Rattle.std.specs.declared.option.Option.{Option}
use Rattle.show.specs.Printed.{printed}
use Rattle.show.proofs.show_input.Goals as goal

read_front : {E : Type 0} (r : Result (Unit {0}) E) (known : Option (List ℕ)) (Q : List ℕ → Type 0) (s : List ℕ) (n : ℕ)
    → IfSome known (λ xs. s ≡ take n xs) → OnOk r (Q s) → OnOk r (IfSome known (λ xs. Q (take n xs)))
read_front (Err e) known Q s n f q = tt
read_front (Ok u) None Q s n f q = tt
read_front (Ok u) (Some xs) Q s n f q = subst Q f q

pub returns : goal.returns
returns g c = read_front c.show_listing.result (g.R.Read.remaining c.args.input.now)
    (λ s. Appends (g.W.Write.contents c.args.out.now) (g.W.Write.contents c.show_listing.new.out) (printed s))
    _ 8193 c.in_ok-s.ensures c.show_listing.ensures
