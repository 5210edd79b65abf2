-- Whether five lists of 2,048 entries are enough for a sheet's answer, by two numbers: how many bindings it makes and how many names it carries.
-- No other list is longer than the sheet has words, and these are 2,048 at most.
use Prim.Native.Nat.{ℕ, ◌≤◌}
use native.Mathlib.Omega.{arith}
use mathlib.Core.Path.{◌≡◌}
use mathlib.Core.Bool.{Bool, ◌&&◌, and-true}
use mathlib.Core.List.{List}
use borrow.Author.Tests.{le-leb}
use lib.Dec.{leb}
use lib.ListN.{length}
use Rattle.words.proofs.Words.{length-words}
use Rattle.sheet.specs.Statement.{Statement}
use Rattle.sheet.specs.Read.{accepted, read_sheet}
use Rattle.sheet.proofs.Accepted.{accepted-words}
use Rattle.semantics.specs.Resolve.{run}
use Rattle.semantics.specs.Lists.{scopes, recorded, findings}
use Rattle.theorems.specs.Needs.{made, carried_in}
use Rattle.theorems.proofs.Needs.{needs}
use Rattle.theorems.proofs.Sizes as sizes
use Rattle.listing.specs.Listing.{entries, fits}

pub counted : (warns : Bool) (s : List ℕ) (st : Statement) → read_sheet s ≡ accepted st → fits warns st ≡ leb (made (run warns st).log) entries && leb (carried_in (run warns st).log) entries
unfolding fits
counted warns s st e =
    let f = sizes.fits warns s st e in
    let n = needs warns st in
    let most = (accepted-words s st e).4.0.most in
    let words = length-words s in
    let few : length (scopes warns st) ≤ entries = omega (arith, f.scopes, most, words) in
    let known : length (recorded warns st) ≤ entries = omega (arith, f.recorded, most, words) in
    let found : length (findings warns st) ≤ entries = omega (arith, f.findings, most, words) in
    rw (le-leb _ _ few, n.bindings, n.carried_list, le-leb _ _ known, le-leb _ _ found, and-true)
