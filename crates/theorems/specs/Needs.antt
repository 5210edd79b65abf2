-- What the bindings list and the carried list need, exactly (cause 8; document 02, CR 2: "fewer entries than its answer needs"), as counts of the log
-- that go up an event at a time.
use Rattle.std.specs.Prelude.{ℕ, suc, ◌≡◌, Bool, true, false, List, [], ◌∷◌, length}
use Rattle.sheet.specs.Statement.{Statement}
use Rattle.semantics.specs.Log.{Event, open', bind, carry, answer, find}
use Rattle.semantics.specs.Resolve.{run}
use Rattle.semantics.specs.Lists.{bindings, carried_list}

-- how many names a log binds in a scope that doesn't bind them already, and how many it carries
abbrev pub made_one : Event → ℕ → ℕ
made_one (open' s) n = n
made_one (bind o true b) n = n
made_one (bind o false b) n = suc n
made_one (carry c) n = n
made_one (answer a) n = n
made_one (find f) n = n

unfoldable pub made : List Event → ℕ
made [] = 0
made (e ∷ l) = made_one e (made l)

abbrev pub carried_one : Event → ℕ → ℕ
carried_one (open' s) n = n
carried_one (bind o g b) n = n
carried_one (carry c) n = suc n
carried_one (answer a) n = n
carried_one (find f) n = n

unfoldable pub carried_in : List Event → ℕ
carried_in [] = 0
carried_in (e ∷ l) = carried_one e (carried_in l)

-- the two lists of a statement have as many entries
pub record Needs (warns : Bool) (st : Statement) : Type 0 where
  pub bindings : length (bindings warns st) ≡ made (run warns st).log
  pub carried_list : length (carried_list warns st) ≡ carried_in (run warns st).log
