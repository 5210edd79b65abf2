-- The words that are stored are the carried name's.
use Rattle.std.proofs.Common.{arith}
use Rattle.scope.specs.Answer.{name_of}
use Rattle.scope.specs.Flat.{carried_width}
use Rattle.scope.specs.Graph.{carried}
use Rattle.entries.specs.Filled.{carried_words}
use Rattle.entries.proofs.Adding.{one-added}
use Rattle.entries.proofs.Filling.{sized-carried}
use Rattle.entries.proofs.put_carried.Goals as goal

pub returns : goal.returns
unfolding carried_words
returns c =
    let a = c.args in
    record {
      kept = c.set_entry.auto.out;
      adds = λ h. rw c.set_entry.ensures (one-added carried_words carried_width sized-carried a.out.now a.n (carried a.barrier (name_of a.name) a.v) (omega arith));
      full = λ h. absurd (omega arith);
    }
