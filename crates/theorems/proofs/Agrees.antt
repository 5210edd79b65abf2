-- Lookup agrees with the walk: between clauses, from a barrier, at each use of a name, from every comprehension's scope.
use mathlib.Core.Path.{◌∙◌, ap}
use mathlib.Core.Bool.{Bool}
use mathlib.Core.List.{◌∷◌, ◌++◌}
use Rattle.clauses.specs.Tree.{arm}
use Rattle.sheet.specs.Statement.{Statement}
use Rattle.semantics.specs.World.{world_of}
use Rattle.semantics.specs.Resolve.{clauses, arms, start, run}
use Rattle.theorems.specs.Agree.{Agrees}
use Rattle.theorems.proofs.Placed.{clauses-append, arms-append}
use Rattle.theorems.proofs.Shows.{clauses-A, root-A, arm-A, settle}
use Rattle.theorems.proofs.Barriers.{barriers}
use Rattle.theorems.proofs.Mets.{inners}
use Rattle.theorems.proofs.Standing.{used}

pub agrees : (warns : Bool) (s : Statement) → Agrees warns s
unfolding run arms
agrees warns s =
    let w = world_of warns s in
    record {
      head = λ before after x q. settle warns s (clauses-A w before (root-A warns s)) after s.arms x (ap (λ h. arms w s.arms (clauses w h (start s))) q ∙ ap (arms w s.arms) (clauses-append w before after (start s)));
      arms = λ earlier a b before after later x q.
          settle warns s (clauses-A w before (arm-A warns s earlier)) after later x
          (ap (λ h. arms w h (clauses w s.head (start s))) q ∙ arms-append w earlier (arm a b (before ++ after) ∷ later) _ ∙ ap (arms w later) (clauses-append w before after _));
      barrier = barriers warns s;
      used = used warns s;
      inner = inners warns s;
    }
