-- What the walks say, in order: the log (document 01, "What comes out"). The five lists are views of it.
use Rattle.std.specs.Prelude.{ℕ, zero, suc, Bool, length, Option, None, Some}
use mathlib.Core.List.{List, [], ◌∷◌, flat_map}
use Rattle.scope.specs.Graph.{Scope, Name, indexed, Carried}

-- "Code is the four-digit number"
abbrev pub e1001 : ℕ
e1001 = 1001

abbrev pub e1002 : ℕ
e1002 = 1002

abbrev pub e2007 : ℕ
e2007 = 2007

abbrev pub e2008 : ℕ
e2008 = 2008

abbrev pub e2011 : ℕ
e2011 = 2011

abbrev pub e5010 : ℕ
e5010 = 5010

abbrev pub e5011 : ℕ
e5011 = 5011

-- "finding records: code, start, end, name + 1 or 0, two details", and the mark of the name (document 02, CR 5)
pub data Finding : Type 0 where
  finding : (code start stop : ℕ) (name : Option Name) (one two : ℕ) → Finding

-- what "name + 1 or 0" cites
abbrev pub cited : ℕ → Option Name
cited zero = None
cited (suc x) = Some (indexed x)

-- "answer (variable, kind, via_projection, or unresolved)"
pub data Answer : Type 0 where
  found : (variable kind via : ℕ) → Answer
  missing : Answer

-- a name bound in a scope
pub data Bound : Type 0 where
  bound : (scope : ℕ) (name : Name) (variable kind : ℕ) → Bound

-- "Recorded: use id, answer"
pub data Write : Type 0 where
  write : (id : ℕ) → Answer → Write

-- what a walk does, one thing at a time
pub data Event : Type 0 where
  open' : Scope → Event  -- a scope is added; its number is the count of those before it
  bind : (over again : Bool) → Bound → Event  -- a name is bound in a scope: whether it came over a WITH, and whether its scope binds it already
  carry : Carried → Event  -- a barrier carries a name
  answer : Write → Event  -- a use id is recorded
  find : Finding → Event  -- a finding is pushed

-- The entries of one sort in a log.
unfoldable pub scope_of : Event → List Scope
scope_of (open' s) = s ∷ []
scope_of (bind o g b) = []
scope_of (carry c) = []
scope_of (answer a) = []
scope_of (find f) = []

unfoldable pub bind_of : Event → List Bound
bind_of (open' s) = []
bind_of (bind o g b) = b ∷ []
bind_of (carry c) = []
bind_of (answer a) = []
bind_of (find f) = []

unfoldable pub carry_of : Event → List Carried
carry_of (open' s) = []
carry_of (bind o g b) = []
carry_of (carry c) = c ∷ []
carry_of (answer a) = []
carry_of (find f) = []

unfoldable pub answer_of : Event → List Write
answer_of (open' s) = []
answer_of (bind o g b) = []
answer_of (carry c) = []
answer_of (answer a) = a ∷ []
answer_of (find f) = []

unfoldable pub find_of : Event → List Finding
find_of (open' s) = []
find_of (bind o g b) = []
find_of (carry c) = []
find_of (answer a) = []
find_of (find f) = f ∷ []

unfoldable pub scopes_in : List Event → List Scope
scopes_in = flat_map scope_of

unfoldable pub binds_in : List Event → List Bound
binds_in = flat_map bind_of

unfoldable pub carries_in : List Event → List Carried
carries_in = flat_map carry_of

unfoldable pub answers_in : List Event → List Write
answers_in = flat_map answer_of

unfoldable pub finds_in : List Event → List Finding
finds_in = flat_map find_of

-- How many scopes a log opens.
unfoldable pub opened : List Event → ℕ
opened l = length (scopes_in l)

-- `unfolding logs` opens the views above.
unfoldable pub logs : Unit {0}
unfolding scope_of bind_of carry_of answer_of find_of scopes_in binds_in carries_in answers_in finds_in opened flat_map
logs = tt
