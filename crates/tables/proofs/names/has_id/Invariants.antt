-- The loop's invariant: the id stands among all if it was hit, or stands among those that are left.
use Rattle.std.proofs.Common.{◌≡◌, ◌||◌, drop}
use Rattle.heads.specs.Answer.{is_in}
use Rattle.tables.proofs.names.has_id.Given as goal

abbrev pub invariant-loop-other : goal.invariant-loop-other
invariant-loop-other l = is_in l.id l.ids ≡ (l.hit || is_in l.id (drop l.other-index l.ids))
