-- Front, message and line feed, each laid where the last one ended.
use Prim.Native.Nat.{◌+◌, ◌≤◌}
use native.Mathlib.Omega.{arith}
use lib.ListN.{length}
use Rattle.texts.specs.Codes.{text_for}
use Rattle.texts.proofs.Laying.{lays-then, lays-rest}
use Rattle.lines.specs.Lines.{said_text, line_for}
use Rattle.lines.proofs.Sizes.{line-long}
use Rattle.lines.proofs.lay.lay_line.Goals as goal

pub lay-requires : goal.lay-requires
lay-requires c =
    let f = c.args.f in
    let fits : c.lay_front-a.result + length (said_text (text_for f.code f.one) c.args.x.now f.two) + 1 ≤ length c.lay_front-a.new.out = omega (arith, line-long f.code f.start f.end f.one f.two c.args.x.now, c.requires, c.lay_front-a.ensures) in
    let said = lays-rest {old = c.lay_front-a.new.out} c.lay_said.ensures (omega (arith, fits)) in
    omega (arith, fits, said.next, said.same)

pub returns : goal.returns
unfolding line_for
returns c =
    let f = c.args.f in
    let said = lays-rest c.lay_said.ensures (omega (arith, line-long f.code f.start f.end f.one f.two c.args.x.now, c.requires, c.lay_front-a.ensures)) in
    lays-then c.lay_front-a.ensures (lays-then said c.lay.ensures)
