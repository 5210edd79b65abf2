-- The tests are the definition's, in its order.
use mathlib.Core.Path.{◌∙◌}
use mathlib.Core.Bool.{Bool, true, false, cond}
use native.Mathlib.Omega.{arith}
use borrow.Author.Tests.{le-leb}
use Rattle.std.proofs.Common.{◌≡◌, ℕ, ◌+◌, ◌-◌, ◌≤◌, List, length, take, drop, refl, ap, Some, None}
use Rattle.words.specs.Fnv.{use_id}
use Rattle.tables.specs.Name.{text_at}
use Rattle.tables.proofs.Text.{refuse, body-long, body-short, body-fits}
use Rattle.tables.proofs.names.read_body.Goals as goal

-- a text is well-formed where it has a use id, and that is the text's
some-named : (b : Bool) (i j : ℕ) → Some i ≡ cond b (Some j) None → (b ≡ true) × (i ≡ j)
some-named true i j e = (refl, cc)
some-named false i j e = absurd (cc)

none-named : (b : Bool) (j : ℕ) → None ≡ cond b (Some j) None → b ≡ false
none-named true j e = absurd (cc)
none-named false j e = refl

text-is : (s : List ℕ) (at n : ℕ) → at + n ≤ length s → take (at + n - at) (drop at s) ≡ text_at s at n
unfolding text_at
text-is s at n h = let same : at + n - at ≡ n = omega arith in rw (same, le-leb (at + n) (length s) h) refl

pub returns-then-n-gt-MAX_NAME : goal.returns-then-n-gt-MAX_NAME
returns-then-n-gt-MAX_NAME c =
    let a = c.args in
    record { ends = tt; names = tt; ans = refuse (omega arith) (body-long a.s.now a.at a.n (omega arith)) }

pub returns-then-s-at : goal.returns-then-s-at
returns-then-s-at c =
    let a = c.args in
    record { ends = tt; names = tt; ans = refuse (omega arith) (body-short a.s.now a.at a.n (omega arith) (omega arith)) }

pub returns-then-not-all_zero : goal.returns-then-not-all_zero
returns-then-not-all_zero c =
    let z = c.all_zero in
    let a = c.args in
    record { ends = tt; names = tt; ans = refuse (omega arith) (body-fits a.s.now a.at a.n (omega arith) (omega arith) z.ensures ∙ rw c.if-not-all_zero.true) }

pub returns-in-Some : goal.returns-in-Some
returns-in-Some c =
    let z = c.all_zero in
    let a = c.args in
    let k = some-named _ _ _ (c.in-Some.ensures) in
    let l : a.at + a.n ≤ length a.s.now = omega arith in
    record { ends = (omega arith, l); names = k.1 ∙ ap use_id (text-is a.s.now a.at a.n l); ans = record { same = body-fits a.s.now a.at a.n (omega arith) (omega arith) z.ensures ∙ rw (c.if-not-all_zero.false, k.0); from = omega arith; within = omega arith } }

pub returns-in-None : goal.returns-in-None
returns-in-None c =
    let z = c.all_zero in
    let a = c.args in
    record { ends = tt; names = tt; ans = refuse (omega arith) (body-fits a.s.now a.at a.n (omega arith) (omega arith) z.ensures ∙ rw (c.if-not-all_zero.false, none-named _ _ c.in-None.ensures)) }
