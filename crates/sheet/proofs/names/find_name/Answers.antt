-- The names' section is the part of the sheet before the bindings; what is found there is found in the sheet (`find-part`).
use Rattle.std.proofs.Common.{◌*◌, sym, arith}
use lib.ListN.{length-take}
use lib.Seq.{length-take-le}
use Rattle.sheet.proofs.Placing.{placed_at}
use Rattle.sheet.proofs.Section.{find-part, not_found}
use Rattle.sheet.proofs.names.find_name.Goals as goal

pub returns-in_err-p : goal.returns-in_err-p
returns-in_err-p c = not_found _ _ _ _ c.in_err-p.ensures c.from_residual.ensures

pub overflow_mul-p : goal.overflow_mul-p
overflow_mul-p c = omega (arith, (placed_at c.args.s.now c.in_ok-p.ensures).1)

pub slice_bounds-find_in-end : goal.slice_bounds-find_in-end
slice_bounds-find_in-end c = sym (length-take-le (c.in_ok-p.p.rows * 4) c.args.s.now (omega (arith, (placed_at c.args.s.now c.in_ok-p.ensures).1)))

pub find_in-requires : goal.find_in-requires
find_in-requires c = omega (arith, (placed_at c.args.s.now c.in_ok-p.ensures).1, length-take (c.in_ok-p.p.rows * 4) c.args.s.now)

pub returns : goal.returns
returns c =
    let places = placed_at c.args.s.now c.in_ok-p.ensures in
    find-part _ places.0 (omega (arith, places.1)) c.find_in.ensures
