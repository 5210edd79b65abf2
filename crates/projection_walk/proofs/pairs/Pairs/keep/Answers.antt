-- Two words are stored behind the pairs there are (`held_one`).
use mathlib.Core.Path.{refl, ◌∙◌}
use native.Mathlib.Numerals.{add-one}
use lib.ListN.{length-set}
use Rattle.projection_walk.proofs.Carrying.{held_one}
use Rattle.projection_walk.proofs.pairs.Pairs.keep.Goals as goal

pub returns : goal.returns
returns c =
    let a = c.args in
    record {
      still = record { lent = refl; size = length-set _ _ _ ∙ length-set _ _ _ };
      count = add-one _;
      star = refl;
      same = held_one a.self.now.count a.x a.v a.self.now.words.now c.requires.1;
    }
