-- The loop's invariant: the first i variables are distinct, so the whole is decided by those that are left.
use Prim.Native.Nat.{ℕ, ◌+◌, ◌-◌, ◌*◌, ◌<◌, ◌≤◌}
use native.Mathlib.Omega.{arith}
use mathlib.Core.Path.{◌≡◌, sym, ◌∙◌}
use mathlib.Core.Bool.{Bool, not, ◌&&◌}
use mathlib.Core.List.{List}
use lib.ListN.{length, drop, get_or}
use Rattle.heads.specs.Answer.{row_ids, is_in}
use Rattle.tables.specs.Distinct.{fresh_after, distinct}
use Rattle.tables.proofs.Ids.{fresh-id}
use Rattle.tables.proofs.rows.distinct_ids.Invariants.{Inv}
use Rattle.tables.proofs.rows.distinct_ids.Goals as goal

-- what a turn's lookup says of the definition
looked : {ws : List ℕ} {rows n i v : ℕ} {b : Bool} → Inv ws rows n i → i < n → rows + n * 5 ≤ length ws → v ≡ get_or ws (rows + i * 5) 0 → b ≡ is_in v (row_ids i (drop rows ws)) → distinct is_in (row_ids n (drop rows ws)) ≡ (not b && fresh_after is_in (row_ids (i + 1) (drop rows ws)) (row_ids (n - (i + 1)) (drop (rows + (i + 1) * 5) ws)))
looked {ws} {rows} {n} {i} h lt fit e f = h.same ∙ fresh-id ws rows n i lt (omega arith) ∙ rw (← e, ← f)

pub loop-i-init : goal.loop-i-init
unfolding distinct fresh_after row_ids
loop-i-init c =
    let n : c.args.n - 0 ≡ c.args.n = omega arith in
    let p : c.args.section.now.rows + 0 * 5 ≡ c.args.section.now.rows = omega arith in
    record { most = omega arith; same = rw (n, p) }

pub returns-then-has_row : goal.returns-then-has_row
unfolding distinct fresh_after row_ids
returns-then-has_row c =
    let x = looked c.loop-i.invariant (omega arith) (omega arith) c.word.ensures c.has_row.ensures in
    sym (x ∙ rw c.if-has_row.true)

pub loop-i-preserved : goal.loop-i-preserved
unfolding distinct fresh_after row_ids
loop-i-preserved c =
    let x = looked c.loop-i.invariant (omega arith) (omega arith) c.word.ensures c.has_row.ensures in
    record { most = omega arith; same = x ∙ rw c.if-has_row.false }

pub returns : goal.returns
unfolding distinct fresh_after row_ids
returns c =
    let none : c.args.n - c.loop-i.i ≡ 0 = omega arith in
    sym (c.loop-i.invariant.same ∙ rw none)
