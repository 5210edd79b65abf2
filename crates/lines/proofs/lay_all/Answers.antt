-- The first line, the lines of the findings and the last line, each laid where the one before ended.
use Prim.Native.Nat.{◌+◌, ◌≤◌}
use native.Mathlib.Omega.{arith}
use mathlib.Core.List.{append_assoc}
use lib.ListN.{length, length-append}
use Rattle.words.proofs.Digits.{length-decimal}
use Rattle.lines.specs.Lines.{old_line, listed}
use Rattle.texts.proofs.Laying.{lays-then, lays-rest}
use Rattle.lines.proofs.Told.{told, length-findings}
use Rattle.lines.proofs.Most.{listed-told}
use Rattle.lines.proofs.lay_all.Goals as goal

pub returns : goal.returns
unfolding listed
returns c =
    let names = c.args.names.now in
    let found = c.args.found.now in
    let fits : c.lay_head-a.result + length (told names found found.count) + length (old_line found.olds) ≤ length c.lay_head-a.new.page =
    omega (arith, listed-told names found, length-decimal found.count, c.requires, simp length-append at c.lay_head-a.ensures.next, c.lay_head-a.ensures.same) in
    let lines = lays-rest c.lay_lines.ensures (omega (arith, fits)) in
    let last = lays-rest c.lay_old.ensures (omega (arith, fits, lines.next, lines.same)) in
    rw (length-findings found found.count) (simp append_assoc at (lays-then c.lay_head-a.ensures (lays-then lines last)))
