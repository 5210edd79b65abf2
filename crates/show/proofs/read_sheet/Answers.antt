-- What was read is the front of what the reader had, as long as the room is.
use Rattle.std.proofs.Common.{◌≡◌, length, take, arith, subst, IfSome}
use Rattle.show.proofs.read_sheet.Goals as goal

pub returns : goal.returns
returns g c =
    let long : length c.read_full.new.room ≡ 8193 = omega (arith, c.read_full.auto.room) in
    subst (λ k. IfSome (g.R.Read.remaining c.args.input.now) (λ xs. take c.in_ok-n.n c.read_full.new.room ≡ take k xs)) long
    c.in_ok-n.ensures.front
