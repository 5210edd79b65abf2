-- A finding's words are stored; an event of another sort adds nothing.
use Rattle.entries.proofs.Adding.{none_after}
use Rattle.lists_fill.proofs.Sorts.{no-finding, one-finding}
use Rattle.lists_fill.proofs.add_finding.Goals as goal

pub returns-in-Finding : goal.returns-in-Finding
returns-in-Finding c id =
    rw (c.in-Finding.is, c.words_at.ensures) (one-finding _ _ id _ c.requires)

pub returns-in_default : goal.returns-in_default
returns-in_default c id =
    none_after (no-finding id c.args.e c.in_default.not-Finding)
