-- The loop's invariant: the lines of the first i findings are laid.
use Prim.Native.Nat.{◌+◌, ◌≤◌}
use native.Mathlib.Omega.{arith}
use mathlib.Core.Path.{ap, ◌∙◌}
use mathlib.Core.List.{flat_map}
use lib.ListN.{length, length-append, length-take, length-drop}
use Rattle.texts.proofs.Laying.{lays-none, lays-then, lays-rest}
use Rattle.lines.specs.Lines.{line_for}
use Rattle.lines.specs.Given.{findings_in}
use Rattle.lines.proofs.Told.{told-within, told-next}
use Rattle.lines.proofs.lay_lines.Goals as goal

pub loop-i-init : goal.loop-i-init
unfolding findings_in flat_map
loop-i-init c = lays-none _ 0

pub slice_bounds-lay_line-count : goal.slice_bounds-lay_line-count
slice_bounds-lay_line-count c =
    omega (arith, c.loop-i.invariant, told-within c.args.names.now c.args.found.now c.loop-i.i c.args.found.now.count (omega arith), c.requires)

pub slice_bounds-lay_line-start : goal.slice_bounds-lay_line-start
slice_bounds-lay_line-start c =
    omega (arith, c.loop-i.invariant, told-within c.args.names.now c.args.found.now c.loop-i.i c.args.found.now.count (omega arith), c.requires)

pub lay_line-at-requires : goal.lay_line-at-requires
lay_line-at-requires c =
    let names = c.args.names.now in
    let found = c.args.found.now in
    let longer = simp length-append at (ap length (told-next names found c.loop-i.i c.nth-f.result c.nth-f.ensures (c.bytes.ensures ∙ c.text.ensures))) in
    simp (length-take, length-drop) (omega (arith, longer, c.loop-i.invariant, told-within names found (c.loop-i.i + 1) found.count (omega arith), c.requires))

pub overflow_add-at : goal.overflow_add-at
overflow_add-at c =
    let names = c.args.names.now in
    let found = c.args.found.now in
    let longer = simp length-append at (ap length (told-next names found c.loop-i.i c.nth-f.result c.nth-f.ensures (c.bytes.ensures ∙ c.text.ensures))) in
    omega (arith, longer, c.loop-i.invariant, c.lay_line-at.ensures, told-within names found (c.loop-i.i + 1) found.count (omega arith), c.requires, c.well_formed)

pub loop-i-preserved : goal.loop-i-preserved
loop-i-preserved c =
    let names = c.args.names.now in
    let found = c.args.found.now in
    let next = told-next names found c.loop-i.i c.nth-f.result c.nth-f.ensures (c.bytes.ensures ∙ c.text.ensures) in
    let fits : c.loop-i.at + length (line_for c.nth-f.result.code c.nth-f.result.start c.nth-f.result.end c.nth-f.result.one c.nth-f.result.two c.bytes.result.now) ≤ length c.loop-i.out =
    omega (arith, simp length-append at (ap length next), c.loop-i.invariant, told-within names found (c.loop-i.i + 1) found.count (omega arith), c.requires) in
    rw next (lays-then c.loop-i.invariant (lays-rest c.lay_line-at.ensures fits))
