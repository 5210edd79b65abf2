-- Laws of the rows that hang in chains: one row more, and none yet.
use Rattle.std.proofs.Common.{◌≡◌, ℕ, suc, List, ap, ◌∙◌, arith}
use Rattle.rows.specs.Slot.{slot_of}
use Rattle.rows.specs.Rows.{Hung, Hangs, Empty}
use Rattle.rows.proofs.Chains.{none-chained}

pub added : {mult m n v x : ℕ} {f : ℕ → ℕ} {old new : List ℕ} → x ≡ slot_of mult m v → v ≡ f n → Hangs m x n old new → Hung mult m n f old → Hung mult m (suc n) f new
added {mult} {m} {n} {v} {x} {f} k q a w =
    record { some = w.some; small = w.small; chained = a.chained (slot_of mult m) f (k ∙ ap (slot_of mult m) q) w.chained }

pub none-hung : (mult m n : ℕ) (f : ℕ → ℕ) (tab : List ℕ) → Empty m n tab → Hung mult m 0 f tab
none-hung mult m n f tab w =
    record { some = w.some; small = w.small; chained = none-chained (slot_of mult m) f m tab (omega (arith, w.room)) w.zeros }
