-- The place is the definition's, by the mark.
use Rattle.std.proofs.Common.{◌≡◌, ℕ, zero, suc, ◌+◌, ◌-◌, ◌/◌, refl, sym, arith}
use Rattle.std.specs.Prelude.{min, max}
use Rattle.rows.specs.Slot.{slot_of}
use Rattle.scope.specs.Graph.{name}
use Rattle.entries.specs.Stamps.{stamp_of}
use Rattle.entries.proofs.stamp_of.Goals as goal

marked : (len m v : ℕ) → (m ≡ 0 → ⊥) → stamp_of len (name m v) ≡ len - min (len / 2) 4294967295 + slot_of 1 (max (min (len / 2) 4294967295) 1) v
unfolding stamp_of
marked len zero v h = absurd (h refl)
marked len (suc m) v h = refl

pub returns-then-name-eq0 : goal.returns-then-name-eq0
unfolding stamp_of
returns-then-name-eq0 c = rw c.if-name-eq0.true (omega arith)

pub returns : goal.returns
returns c = rw (c.slot.ensures.slot, c.max.ensures, c.min-half.ensures) (sym (marked c.args.len c.args.name.mark c.args.name.word c.if-name-eq0.false))
