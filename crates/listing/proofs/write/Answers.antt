-- The sheet is an accepted one, so its sections stand where they are found, and what is written is its listing.
use Prim.Native.Nat.{◌*◌}
use native.Mathlib.Omega.{arith}
use mathlib.Core.Path.{sym, ap}
use lib.Seq.{length-take-le}
use lib.ListN.{length-take}
use Rattle.words.proofs.Words.{length-words}
use Rattle.sheet.specs.declared.trailer.Places.{Places}
use Rattle.sheet.proofs.Placing.{placed_at, places-of}
use Rattle.listing.proofs.Opened.{unplaced-listing, listed-is}
use Rattle.listing.proofs.write.Goals as goal

pub overflow_mul-names : goal.overflow_mul-names
overflow_mul-names c =
    let i = (placed_at c.args.s.now c.in_ok-p.ensures).1 in
    omega (arith, i.rows, i.head, i.tail, i.trailer, i.short)

pub slice_bounds-names-end : goal.slice_bounds-names-end
slice_bounds-names-end c =
    let i = (placed_at c.args.s.now c.in_ok-p.ensures).1 in
    sym (length-take-le _ c.args.s.now (omega (arith, i.rows, i.head, i.tail, i.trailer)))

pub slice_bounds-names-end-2 : goal.slice_bounds-names-end-2
slice_bounds-names-end-2 c =
    let there = places-of c.args.s.now c.in_ok-p.p (placed_at c.args.s.now c.in_ok-p.ensures).0 in
    sym (length-take-le _ c.args.scratch.now.places.now (omega (arith, c.requires.many, ap Places.names there)))

pub invariant_of-names : goal.invariant_of-names
invariant_of-names c =
    let i = (placed_at c.args.s.now c.in_ok-p.ensures).1 in
    record { short = omega (arith, length-take (c.in_ok-p.p.rows * 4) c.args.s.now, i.short) }

pub found_in-found-requires : goal.found_in-found-requires
found_in-found-requires c =
    let i = (placed_at c.args.s.now c.in_ok-p.ensures).1 in
    (omega (arith, c.requires.few, length-words c.args.s.now, i.short), c.requires.wide)

pub returns-in_err-p : goal.returns-in_err-p
returns-in_err-p c = unplaced-listing _ _ _ _ _ c.in_err-p.ensures c.from_residual.ensures

pub returns : goal.returns
returns c =
    let there = places-of c.args.s.now c.in_ok-p.p (placed_at c.args.s.now c.in_ok-p.ensures).0 in
    let f = c.found_in-found.ensures in
    (listed-is c.requires there (rw (f.0, f.1.0, f.1.1.0, f.1.1.1) at c.write_listing.ensures.0), c.write_listing.ensures.1)
