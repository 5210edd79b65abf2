-- Each size has scratch for every word, and a sheet that is longer is refused by cause 1.
use native.Mathlib.Omega.{arith}
use mathlib.Core.Path.{refl}
use Rattle.words.proofs.Words.{length-words}
use Rattle.sheet.proofs.Placing.{too_long}
use Rattle.listing.proofs.Opened.{refused-listing, unplaced}
use Rattle.listing.proofs.list_large.Goals as goal

pub list_with-requires : goal.list_with-requires
list_with-requires c = (omega (arith, length-words c.args.s.now), omega arith)

pub list_with-requires-in-1025-to-1536 : goal.list_with-requires-in-1025-to-1536
list_with-requires-in-1025-to-1536 c = (omega (arith, length-words c.args.s.now), omega arith)

pub list_with-requires-in-1537-to-2048 : goal.list_with-requires-in-1537-to-2048
list_with-requires-in-1537-to-2048 c = (omega (arith, length-words c.args.s.now), omega arith)

pub list_with-requires-in-2049-to-3072 : goal.list_with-requires-in-2049-to-3072
list_with-requires-in-2049-to-3072 c = (omega (arith, length-words c.args.s.now), omega arith)

pub list_with-requires-in-3073-to-4096 : goal.list_with-requires-in-3073-to-4096
list_with-requires-in-3073-to-4096 c = (omega (arith, length-words c.args.s.now), omega arith)

pub list_with-requires-in-4097-to-5120 : goal.list_with-requires-in-4097-to-5120
list_with-requires-in-4097-to-5120 c = (omega (arith, length-words c.args.s.now), omega arith)

pub list_with-requires-in-5121-to-6144 : goal.list_with-requires-in-5121-to-6144
list_with-requires-in-5121-to-6144 c = (omega (arith, length-words c.args.s.now), omega arith)

pub list_with-requires-in-6145-to-7168 : goal.list_with-requires-in-6145-to-7168
list_with-requires-in-6145-to-7168 c = (omega (arith, length-words c.args.s.now), omega arith)

pub list_with-requires-in-7169-to-8192 : goal.list_with-requires-in-7169-to-8192
list_with-requires-in-7169-to-8192 c = (omega (arith, length-words c.args.s.now), omega arith)

pub returns-in_default : goal.returns-in_default
returns-in_default c =
    let a = c.args in
    (refused-listing a.warns a.s.now a.page.now refl (unplaced a.s.now (too_long a.s.now (omega arith))), omega arith)
