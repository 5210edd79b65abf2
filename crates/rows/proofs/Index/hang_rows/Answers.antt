-- The loop's invariant: the first i rows hang in their chains, and the whole is decided by those that are left.
use Rattle.std.proofs.Common.{◌≡◌, ℕ, ◌+◌, ◌*◌, ◌<◌, ◌≤◌, ◌&&◌, not, List, length, sym, ◌∙◌, arith, add-one}
use Rattle.std.proofs.lemmas.Bool.{false≢true}
use Rattle.std.specs.Prelude as code
use Rattle.std.specs.Prelude.{is_some}
use Rattle.tables.specs.Index.{number_of}
use Rattle.rows.specs.Rows.{id_at, seek}
use Rattle.rows.proofs.Hanging.{added, none-hung}
use Rattle.rows.proofs.Ids.{fresh, sought, fresh-all, fresh-none, fresh-more}
use Rattle.rows.proofs.Index.hang_rows.Goals as goal

-- the row i, whose variable was sought among those before it
turn : (ws : List ℕ) (rows n i v : ℕ) (r : code.Option ℕ) → rows + n * 5 ≤ length ws → i < n → v ≡ id_at ws rows i → number_of r ≡ seek (id_at ws rows) v i → fresh ws rows n i ≡ (not (is_some r) && fresh ws rows n (i + 1))
turn ws rows n i v r fit h e k =
    fresh-more ws rows n fit i h ∙ rw (sought ws rows i (omega arith) (id_at ws rows i) r (rw e at k))

pub loop-i-init : goal.loop-i-init
loop-i-init c =
    record { hung = none-hung _ _ _ _ _ c.requires.1; same = fresh-all _ _ _ c.requires.0 }

pub returns-then-is_some : goal.returns-then-is_some
returns-then-is_some c =
    let repeated = rw (← c.is_some.ensures, c.if-is_some.true) at (turn _ _ _ _ _ _ c.requires.0 c.loop-i-test.true (rw (c.run-all.ensures.bytes, c.run-all.ensures.first) at c.variable-variable.ensures) (rw (c.run-before.ensures.bytes, c.run-before.ensures.first, c.run-before.ensures.count) at c.find.ensures)) in
    record { same = sym (c.loop-i.invariant.same ∙ repeated); kept = c.loop-i.auto.chains; hung = λ q. absurd (false≢true q) }

pub loop-i-preserved : goal.loop-i-preserved
loop-i-preserved c =
    let variable = rw (c.run-all.ensures.bytes, c.run-all.ensures.first) at c.variable-variable.ensures in
    let new = rw (← c.is_some.ensures, c.if-is_some.false) at (turn _ _ _ _ _ _ c.requires.0 c.loop-i-test.true variable (rw (c.run-before.ensures.bytes, c.run-before.ensures.first, c.run-before.ensures.count) at c.find.ensures)) in
    record { hung = rw add-one (added c.slot.ensures.slot variable c.hang.ensures c.loop-i.invariant.hung); same = c.loop-i.invariant.same ∙ new }

pub returns : goal.returns
returns c =
    let all : c.loop-i.i ≡ c.args.self.now.count = omega arith in
    record { same = sym (c.loop-i.invariant.same ∙ fresh-none _ _ _ c.requires.0 _ c.loop-i-test.false); kept = c.loop-i.auto.chains; hung = λ q. rw all at c.loop-i.invariant.hung }
