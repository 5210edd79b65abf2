-- The slots are cleared, so that no name hangs in them yet.
use Rattle.name_chains.proofs.Laws.{none-hung}
use Rattle.name_chains.proofs.distinct_by_chains.Goals as goal

pub distinct-requires-clause-empty : goal.distinct-requires-clause-empty
distinct-requires-clause-empty c =
    none-hung _ _ _ c.empty.ensures
