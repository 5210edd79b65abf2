-- No line is longer than it may be at most, so what may be needed never grows.
use Prim.Native.Nat.{ℕ}
use borrow.Author.Tests.{le-leb}
use native.Mathlib.Omega.{arith}
use mathlib.Core.Path.{◌≡◌, ap, sym, ◌∙◌}
use lib.Dec.{leb}
use lib.ListN.{length, length-append}
use Rattle.lines.specs.Given.{text_of}
use Rattle.lines.proofs.Sizes.{name-most}
use Rattle.lines.proofs.Told.{told-next}
use Rattle.lines.proofs.Most.{needed-first, first-small, needed-one, needed-next, needed-last, needed-enough, line-fits, listed_small}
use Rattle.lines.proofs.has_room.Goals as goal

pub overflow_add-need : goal.overflow_add-need
overflow_add-need c = omega (arith, c.decimal_width.ensures, first-small c.args.names.now c.args.found.now (omega arith))

pub overflow_add-need-2 : goal.overflow_add-need-2
overflow_add-need-2 c = omega (arith, c.decimal_width.ensures, c.old_len.ensures, first-small c.args.names.now c.args.found.now (omega arith))

pub loop-i-init : goal.loop-i-init
loop-i-init c =
    let names = c.args.names.now in
    let found = c.args.found.now in
    record { same = omega (arith, c.decimal_width.ensures, c.old_len.ensures, needed-first names found); small = omega (arith, c.decimal_width.ensures, c.old_len.ensures, first-small names found (omega arith)) }

pub returns-then-need-room : goal.returns-then-need-room
returns-then-need-room c =
    let names = c.args.names.now in
    let found = c.args.found.now in
    record {
      fits = sym (le-leb (length (text_of names found)) c.args.room (omega (arith, needed-enough names found c.loop-i.i (omega arith), c.loop-i.invariant.same, c.if-need-room.true)));
      small = listed_small names found (omega arith);
    }

pub line_len-requires : goal.line_len-requires
line_len-requires c =
    let names = c.args.names.now in
    let f = c.nth-f.result in
    omega (arith, ap length (c.bytes.ensures ∙ c.text.ensures), name-most names.section.now names.places.now f.mark f.name (omega arith) names.short)

pub overflow_add-need-in-loop-i : goal.overflow_add-need-in-loop-i
overflow_add-need-in-loop-i c =
    let fits = line-fits c.args.names.now c.args.found.now c.loop-i.i c.nth-f.result c.nth-f.ensures (c.bytes.ensures ∙ c.text.ensures) in
    omega (arith, fits, c.line_len.ensures, c.loop-i.invariant.small)

pub loop-i-preserved : goal.loop-i-preserved
loop-i-preserved c =
    let names = c.args.names.now in
    let found = c.args.found.now in
    let said = c.bytes.ensures ∙ c.text.ensures in
    let fits = line-fits names found c.loop-i.i c.nth-f.result c.nth-f.ensures said in
    let longer = simp length-append at (ap length (told-next names found c.loop-i.i c.nth-f.result c.nth-f.ensures said)) in
    record {
      same = rw c.loop-i.invariant.same (needed-next names found c.loop-i.i c.line_len.result (omega arith) (omega (arith, longer, c.line_len.ensures)));
      small = omega (arith, fits, c.line_len.ensures, c.loop-i.invariant.small, c.loop-i.invariant.same, needed-one names found c.loop-i.i (omega arith));
    }

pub returns : goal.returns
returns c =
    let names = c.args.names.now in
    let found = c.args.found.now in
    let e : c.loop-i.i ≡ found.count = omega arith in
    record {
      fits = ap (λ (len : ℕ). leb len c.args.room) ((rw e at c.loop-i.invariant.same) ∙ needed-last names found);
      small = listed_small names found (omega arith);
    }
