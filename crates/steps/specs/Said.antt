-- What the walks said, in the words of a log: the name walk's events from the front, the kind walk's findings from the back, six words each.
use Rattle.std.specs.Prelude.{ℕ, zero, suc, ◌+◌, ◌-◌, ◌*◌, ◌<◌, ◌≤◌, ◌≡◌, ◌≢◌, Bool, true, false, cond, List, [], ◌∷◌, eqb, length, get_or, Result, Ok, Err}
use Rattle.heads.specs.Got.{look}
use Rattle.scope.specs.Graph.{scope, name}
use Rattle.scope.specs.Flat.{parent_of}
use Rattle.finding.specs.Logged.{logged, logged_at}
use Rattle.semantics.specs.Log.{Finding, Answer, found, missing, bound, write, Event, open', bind, carry, answer, find}
use Rattle.theorems.specs.Woven.{written}
use Rattle.steps.specs.declared.log.Log.{Log}
use Rattle.steps.specs.declared.log.Sort.{Sort}
use Rattle.steps.specs.declared.log.Sort.TheVariants.{Scope, Binding, Rebinding, Variable, Name}

-- the sorts of events by their first words, and the sort with a first word, or none
abbrev pub sort_number : Sort → ℕ
sort_number Scope = 1
sort_number Binding = 2
sort_number Rebinding = 3
sort_number Variable = 4
sort_number Name = 5

abbrev pub Sorts : ℕ → Result Sort (Unit {0}) → Type 0
Sorts word (Ok sort) = sort_number sort ≡ word
Sorts word (Err e) = (sort : Sort) → sort_number sort ≢ word

-- An event by its six words: 1 a scope, 2 a binding, 3 one that replaces another, the mark of its name last, 4 a use of a variable, 5 a use of a name,
-- and else a finding.
-- What a WITH carries and binds is not among them.
abbrev pub answered : (flag variable kind via : ℕ) → Answer
answered flag v k via = cond (eqb flag 0) missing (found v k via)

abbrev pub event_of : (ℕ → ℕ) → (tag a b c d e : ℕ) → Event
event_of id tag a b c d e =
    look tag
    ((1, open' (scope a (parent_of b) c d))
    ∷ (2, bind false false (bound a (name e b) c d))
    ∷ (3, bind false true (bound a (name e b) c d))
    ∷ (4, answer (write a (found a b 0)))
    ∷ (5, answer (write (id a) (answered b c d e)))
    ∷ [])
    (find (logged tag a b c d e))

abbrev pub event_at : (ℕ → ℕ) → List ℕ → ℕ → Event
event_at id l k = event_of id (get_or l k 0) (get_or l (k + 1) 0) (get_or l (k + 2) 0) (get_or l (k + 3) 0) (get_or l (k + 4) 0) (get_or l (k + 5) 0)

abbrev pub finding_at : List ℕ → ℕ → Finding
finding_at = logged_at

-- n events from the front, and n findings from the back, newest first
unfoldable pub events : (ℕ → ℕ) → ℕ → List ℕ → List Event
events id zero l = []
events id (suc n) l = event_at id l (n * 6) ∷ events id n l

unfoldable pub findings : ℕ → List ℕ → List Finding
findings zero l = []
findings (suc n) l = finding_at l (length l - suc n * 6) ∷ findings n l

-- what is written of a log: all but what its WITHs carry and bind, or its findings
abbrev pub kept_one : Event → List Event → List Event
kept_one (open' s) l = l
kept_one (bind o g b) l = l
kept_one (carry c) l = l
kept_one (answer a) l = l
kept_one (find f) l = find f ∷ l

unfoldable pub kept : Bool → List Event → List Event
kept true l = written l
kept false [] = []
kept false (e ∷ l) = kept_one e (kept false l)

-- what a log has
abbrev pub events_in : (ℕ → ℕ) → Log → List Event
events_in id l = events id l.said l.words.now

abbrev pub findings_in : Log → List Finding
findings_in l = findings l.told l.words.now

-- six words as an event and as a finding
abbrev pub event_by : (ℕ → ℕ) → List ℕ → Event
event_by id l = event_at id l 0

abbrev pub finding_by : List ℕ → Finding
finding_by l = finding_at l 0

-- the words are those that were lent, and as many
pub record Still (old new : Log) : Type 0 where
  pub lent : new.words.ghost_name ≡ old.words.ghost_name
  pub size : length new.words.now ≡ length old.words.now

-- room for an event or a finding more
pub record Roomy (l : Log) : Type 0 where
  pub small : l.said + l.told + 1 < 4294967296
  pub room : (l.said + l.told + 1) * 6 ≤ length l.words.now

-- six words were stored
pub record Put (k : ℕ) (entry old new : List ℕ) : Type 0 where
  pub length : length new ≡ length old
  pub stored : (i : ℕ) → i < 6 → get_or new (k + i) 0 ≡ get_or entry i 0
  pub before : (i : ℕ) → i < k → get_or new i 0 ≡ get_or old i 0
  pub after : (i : ℕ) → k + 6 ≤ i → get_or new i 0 ≡ get_or old i 0

-- an event was said, or a finding of the kind walk told; what was said and told before is as it was
pub record Says (event : List ℕ) (old new : Log) : Type 0 where
  pub still : Still old new
  pub said : new.said ≡ suc old.said
  pub told : new.told ≡ old.told
  pub events : (id : ℕ → ℕ) → events_in id new ≡ event_by id event ∷ events_in id old
  pub findings : findings_in new ≡ findings_in old

pub record Tells (one : List ℕ) (old new : Log) : Type 0 where
  pub still : Still old new
  pub said : new.said ≡ old.said
  pub told : new.told ≡ suc old.told
  pub findings : findings_in new ≡ finding_by one ∷ findings_in old
  pub events : (id : ℕ → ℕ) → events_in id new ≡ events_in id old
