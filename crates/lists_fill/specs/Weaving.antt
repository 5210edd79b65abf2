-- The bindings, woven out of the events and the carried list: what the code asks and leaves, an event at a time.
use Rattle.std.specs.Prelude.{ℕ, ◌-◌, ◌*◌, ◌≤◌, ◌≡◌, List, [], ◌++◌, length, drop, Option, None}
use Rattle.scope.specs.Flat.{binding_width, carried_width, parent_of, carrieds_of}
use Rattle.scope.specs.Graph.{Entry}
use Rattle.scope.specs.Graph as graph
use Rattle.semantics.specs.Log.{Bound, Event, open', bind, carry, answer, find, bind_of}
use Rattle.semantics.specs.Lists.{puts}
use Rattle.semantics.specs.World.{row_kind}
use Rattle.theorems.specs.Woven.{barrier_of, adopted_by, beyond_by, woven}
use Rattle.rows.specs.Table.{row_by, Standing}
use Rattle.rows.specs.declared.Index.{Index}
use Rattle.words.specs.Words.{words}
use Rattle.entries.specs.Filled.{binding_words}
use Rattle.entries.specs.Adding.{Holds}
use Rattle.entries.specs.Stamps.{Kept, Fits, Makes}
use Rattle.lists_fill.specs.Said.{events_in, all_in}
use Rattle.steps.specs.declared.log.Log.{Log}
use Rattle.lists_fill.specs.Adding.{said}
use Rattle.lists_fill.specs.declared.Logged.{Logged}
use Rattle.lists_fill.specs.declared.Carried.{Carried}

-- the kind of a variable, by the rows of a sheet
abbrev pub kind_in : Index → List ℕ → ℕ → ℕ
kind_in x ws v = row_kind (row_by x ws v)

-- of `taken` entries of a carried list, those from the number c on
abbrev pub carried_from : ℕ → List ℕ → ℕ → List graph.Carried
carried_from taken l c = carrieds_of (taken - c) (drop (c * carried_width) l)

-- the barrier above a Root that an event opens
unfoldable pub barrier_in : Event → Option ℕ
barrier_in (open' s) = barrier_of s
barrier_in (bind o g b) = None
barrier_in (carry c) = None
barrier_in (answer a) = None
barrier_in (find f) = None

-- what is asked of a carried list and its sheet's rows
pub record Fine (w : Carried) : Type 0 where
  pub standing : Standing w.rows
  pub lent : w.taken * carried_width ≤ length w.list.now

-- what is asked before an event, where c carried entries are met
pub record Ready (w : Carried) (c : ℕ) (a : Kept) : Type 0 where
  pub fine : Fine w
  pub met : c ≤ w.taken
  pub fits : Fits a

-- the kinds of a sheet's variables, and the carried entries from the number c on
abbrev pub kinds : Carried → ℕ → ℕ
kinds w = kind_in w.rows.index (words w.rows.bytes.now)

abbrev pub rest : Carried → ℕ → List graph.Carried
rest w = carried_from w.taken w.list.now

-- these are bound, and these carried entries are left
pub record Leaves (bs : List Bound) (left : List graph.Carried) (w : Carried) (a b : Kept) (r : ℕ) : Type 0 where
  pub makes : Makes bs a b
  pub met : r ≤ w.taken
  pub next : rest w r ≡ left

-- what the barrier above a Root carries is bound; a Root's number is that of its barrier + 1, and 0 is none
abbrev pub Adopts : (w : Carried) (c root : ℕ) (a b : Kept) (r : ℕ) → Type 0
Adopts w c root = Leaves (adopted_by (kinds w) (parent_of root) (rest w c)) (beyond_by (kinds w) (parent_of root) (rest w c)) w

-- all that an event binds, whatever the use ids of names
abbrev pub woven_one : (ℕ → ℕ) → Event → List graph.Carried → List Bound
woven_one kind e cs = adopted_by kind (barrier_in e) cs ++ bind_of e

abbrev pub Weaves : (w : Carried) (c : ℕ) (e : Logged) (a b : Kept) (r : ℕ) → Type 0
Weaves w c e a b r = (id : ℕ → ℕ) → Leaves (woven_one (kinds w) (said id e) (rest w c)) (beyond_by (kinds w) (barrier_in (said id e)) (rest w c)) w a b r

-- all that n events bind
abbrev pub bound_in : (w : Carried) (n : ℕ) (found : List ℕ) → (ℕ → ℕ) → List Bound
bound_in w n found id = woven (kinds w) (events_in id n found) (carrieds_of w.taken w.list.now)

-- what is asked of the lent words
pub record Weavable (w : Carried) (l : Log) (stamps : List ℕ) : Type 0 where
  pub fine : Fine w
  pub told : l.said * 6 ≤ length l.words.now
  pub stamped : 1 ≤ length stamps

-- the bindings of all events and `taken` carried entries, whatever the use ids of names
abbrev pub woven_in : (x : Index) (ws : List ℕ) (l : Log) (taken : ℕ) (carried : List ℕ) → (ℕ → ℕ) → List Entry
woven_in x ws l taken carried id = puts (woven (kind_in x ws) (all_in id l) (carrieds_of taken carried)) []

-- a list has them, if it has room
abbrev pub Makings : (w : Carried) (l : Log) (old out : List ℕ) (r : ℕ) → Type 0
Makings w l old out r =
    let all = woven_in w.rows.index (words w.rows.bytes.now) l w.taken w.list.now in
    (id : ℕ → ℕ) → length (all id) * binding_width ≤ length old → Holds binding_words old out r (all id)
