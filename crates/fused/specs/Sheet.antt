-- The head and the arms of a whole sheet, read and walked in one. proofs/ApartSheet has it that this is the definition's reading, and then
-- its two walks over the statement.
use Rattle.std.specs.Prelude.{ℕ, true, List, [], ◌∷◌, None}
use Rattle.scope.specs.Graph.{root_scope, scope}
use Rattle.sheet.specs.Trailer.{section}
use Rattle.sheet.specs.Read.{Sheet, then', used_up}
use Rattle.sheet.specs.declared.trailer.Places.{Places}
use Rattle.semantics.specs.Log.{open'}
use Rattle.semantics.specs.World.{World}
use Rattle.fused.specs.Fused.{Both, Mode, rounds}
use Rattle.fused.specs.Clauses.{clause_go, arm_go}

-- both walks look
abbrev pub every_walk : Mode
every_walk = record { resolves = true; checks = true }

-- where both walks begin: "a Root with the statement's span"
abbrev pub begun : Places → Both
begun p =
    record {
      names = record { visible = []; cur = 0; last = 0; log = open' (scope root_scope None p.start p.end) ∷ [] };
      kinds = [];
      olds = 0;
    }

module _ (w : World) where
  -- n clauses, n arms that are a whole section: causes 5 and 6
  unfoldable pub head_go : (names n : ℕ) → Both → List ℕ → Sheet Both
  head_go names n s r = used_up (rounds n (clause_go w names every_walk) s r)

  unfoldable pub arms_go : (names n : ℕ) → Both → List ℕ → Sheet Both
  arms_go names n s r = used_up (rounds n (arm_go w names every_walk) s r)

  -- head and arms
  unfoldable pub sheet_go : Places → List ℕ → Sheet Both
  sheet_go p ws =
      then' (head_go p.names p.clauses (begun p) (section ws p.head p.tail)) (λ s. arms_go p.names p.arms s (section ws p.tail p.trailer))
