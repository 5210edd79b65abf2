-- The listing is laid where the page has room for it, and else 10 is given.
use Prim.Native.Nat.{◌<◌}
use borrow.Author.Tests.{leb-true, leb-false}
use native.Mathlib.Omega.{arith}
use mathlib.Core.Path.{sym, ◌∙◌}
use lib.ListN.{length}
use Rattle.texts.proofs.Giving.{gives-text, gives-ten}
use Rattle.lines.specs.Given.{text_of}
use Rattle.lines.proofs.write_listing.Goals as goal

pub returns-then-not-has_room : goal.returns-then-not-has_room
returns-then-not-has_room c =
    let text = text_of c.args.names.now c.args.found.now in
    let longer : length c.args.page.now < length text = leb-false (length text) (length c.args.page.now) (sym c.has_room.ensures.fits ∙ c.if-not-has_room.true) in
    (gives-ten text c.args.page.now longer, omega arith)

pub lay_all-requires : goal.lay_all-requires
lay_all-requires c = leb-true _ _ (sym c.has_room.ensures.fits ∙ c.if-not-has_room.false)

pub returns : goal.returns
returns c = (gives-text c.lay_all.ensures (leb-true _ _ (sym c.has_room.ensures.fits ∙ c.if-not-has_room.false)), omega (arith, c.lay_all.ensures.next, c.has_room.ensures.small))
