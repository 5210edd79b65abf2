-- What both walks left in the lent words `found`, oldest first; the views of crate steps are newest first. And what the recorded uses among it ask
-- of lent words.
use Rattle.std.specs.Prelude.{ℕ, ◌*◌, ◌<◌, ◌≤◌, List, [], length, reverse, get_or}
use Rattle.words.specs.Fnv.{use_id}
use Rattle.semantics.specs.Log.{Event, Finding}
use Rattle.steps.specs.Said.{events, findings}
use Rattle.steps.specs.declared.log.Log.{Log}
use Rattle.entries.specs.Filled.{recorded_width}

-- the use id of a name, of those of all names; past the last there are no bytes
abbrev pub id_in : List ℕ → ℕ → ℕ
id_in uses x = get_or uses x (use_id [])

-- n events from the front, and n findings of the kind walk from the back
unfoldable pub events_in : (ℕ → ℕ) → ℕ → List ℕ → List Event
events_in id n found = reverse (events id n found)

unfoldable pub told_in : ℕ → List ℕ → List Finding
told_in n found = reverse (findings n found)

-- all events of a log, and all findings of the kind walk
abbrev pub all_in : (ℕ → ℕ) → Log → List Event
all_in id l = events_in id l.said l.words.now

abbrev pub all_told : Log → List Finding
all_told l = told_in l.told l.words.now

-- a list with an entry for each event, and chains with a word for each and one slot at least
pub record Recordable (l : Log) (chains out : List ℕ) : Type 0 where
  pub told : l.said * 6 ≤ length l.words.now
  pub few : l.said < 1073741823
  pub hung : l.said < length chains
  pub room : l.said * recorded_width ≤ length out
