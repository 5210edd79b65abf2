-- A bit is put, where the level has one.
use native.Mathlib.Omega.{arith}
use mathlib.Core.Bool.{true, false}
use mathlib.Core.Path.{sym, ◌∙◌}
use lib.ListN.{get_or}
use Rattle.std.specs.Int.{w8}
use Prim.Native.Nat.{◌/◌, ◌%◌}
use Rattle.std.proofs.lemmas.Nat.Bits.{bit_at_set_same, bit_at_set_other, bit_at_clear_same, bit_at_clear_other}
use Rattle.condition_reader.proofs.Flags.{put}
use Rattle.condition_reader.proofs.window.Window.mark.Goals as goal

pub returns-then-compared : goal.returns-then-compared
returns-then-compared c =
    let i = c.in-Some.place in
    let old = get_or c.args.self.now.flags (i / 8) 0 in
    rw c.if-compared.true (put _ _ i _ true (omega arith) (sym c.place.ensures ∙ c.in-Some.is) (bit_at_set_same w8 old (i % 8) (omega arith)) (λ k h n. bit_at_set_other w8 old (i % 8) (omega arith) k n))

pub returns-else-compared : goal.returns-else-compared
returns-else-compared c =
    let i = c.in-Some.place in
    let old = get_or c.args.self.now.flags (i / 8) 0 in
    rw c.if-compared.false (put _ _ i _ false (omega arith) (sym c.place.ensures ∙ c.in-Some.is) (bit_at_clear_same w8 old (i % 8) (omega arith)) (λ k h n. bit_at_clear_other w8 old (i % 8) (omega arith) k h n))
