-- Both scopes are opened, the names before are left or spread, the pairs are seen, and all is counted (`rebinds`).
use Rattle.with_walk.proofs.Rebound.{root-asks, leave-asks, spread-asks, pairs-ask, count-asks, rebinds}
use Rattle.with_walk.proofs.bind_with.Goals as goal

pub enter-requires-2 : goal.enter-requires-2
enter-requires-2 c =
    root-asks c.args.pairs.now c.requires.1 c.enter.ensures

pub leave-requires : goal.leave-requires
leave-requires c =
    leave-asks c.args.pairs.now c.requires.1 c.enter.ensures c.enter-2.ensures c.requires.0

pub spread-star-requires : goal.spread-star-requires
spread-star-requires c =
    spread-asks c.args.pairs.now c.requires.1 c.enter.ensures c.enter-2.ensures c.requires.0 c.leave.ensures

pub see_pairs-first-requires : goal.see_pairs-first-requires
see_pairs-first-requires c =
    pairs-ask c.args.pairs.now c.requires.1 c.enter.ensures c.enter-2.ensures c.requires.0 c.leave.ensures c.spread-star.ensures

pub count_pairs-requires : goal.count_pairs-requires
count_pairs-requires c =
    count-asks c.args.pairs.now c.requires.1 c.enter.ensures c.enter-2.ensures c.requires.0 c.leave.ensures c.spread-star.ensures c.see_pairs-first.ensures

pub returns : goal.returns
returns c =
    rw c.count_pairs.ensures.same (rebinds c.args.pairs.now c.requires.1 c.enter.ensures c.enter-2.ensures c.requires.0 c.leave.ensures c.spread-star.ensures c.see_pairs-first.ensures)
