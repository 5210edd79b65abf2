-- What filling the five lists from what was said and carried asks and leaves.
use Rattle.std.specs.Prelude.{ℕ, ◌+◌, ◌*◌, ◌^◌, ◌<◌, ◌≤◌, ◌≡◌, Bool, true, ◌&&◌, List, [], ◌++◌, leb, length, get_or, take}
use Rattle.words.specs.Words.{words}
use Rattle.sheet.specs.Trailer.{places_of}
use Rattle.sheet.specs.Statement.{Statement}
use Rattle.sheet.specs.Read.{accepted, read_sheet}
use Rattle.scope.specs.Flat.{scope_width, binding_width, carried_width}
use Rattle.scope.specs.Graph.{Entry}
use Rattle.semantics.specs.Log.{Event, scopes_in, answers_in, finds_in}
use Rattle.semantics.specs.World.{kind_of, world_of}
use Rattle.semantics.specs.Resolve.{log}
use Rattle.semantics.specs.Kinds.{kinds}
use Rattle.semantics.specs.Lists.{notes, bindings, carried_list}
use Rattle.theorems.specs.Woven.{written}
use Rattle.rowless.specs.Rowless.{most}
use Rattle.rows.specs.Table.{Stands, Standing}
use Rattle.rows.specs.declared.Rows.{Rows}
use Rattle.rows.specs.declared.Index.{Index}
use Rattle.steps.specs.declared.log.Log.{Log}
use Rattle.sheet_walk.specs.declared.Scratch.{Scratch}
use Rattle.finding.specs.Flat.{finding_width, finding_words}
use Rattle.entries.specs.Filled.{scope_words, binding_words, carried_words, recorded_width, recorded_words}
use Rattle.entries.specs.Adding.{Holds}
use Rattle.lists_fill.specs.Said.{id_in, all_in, all_told}
use Rattle.lists_fill.specs.Weaving.{kind_in, woven_in}
use Rattle.checker.specs.Room.{enough}
use Rattle.checker.specs.Checked.{Lent, roomy, each, counts_of, fits}
use Rattle.checker.specs.declared.Counts.{Counts}

-- what is looked at of `fits`: the rest follows (the law `fits_by`)
abbrev pub fitting : (n made taken : ℕ) → Lent ℕ → ℕ → Bool
fitting n made taken l room = (roomy (each n) l && leb n room) && (enough made (length l.bindings) binding_width && enough taken (length l.carried) carried_width)

-- the use ids of a sheet's names, of words that begin with them
abbrev pub uses_in : (ws ids : List ℕ) → List ℕ
uses_in ws ids = take (places_of ws).names ids

-- Of an accepted sheet, in the definition's words, oldest first: it has a trailer and at most 2,048 words, and its names' use ids are there; all
-- events and findings; how many entries two of the lists need; and `has` has what is carried, if `was` had room.
pub record Heard (warns : Bool) (s : List ℕ) (a : Scratch) (was has : List ℕ) (x : Index) : Type 0 where
  pub statement : Statement
  pub read : read_sheet s ≡ accepted statement
  pub trailed : 10 ≤ length (words s)
  pub short : length (words s) ≤ 2048
  pub named : (places_of (words s)).names ≤ length a.ids.now
  pub log : all_in (id_in (uses_in (words s) a.ids.now)) a.walk.log ≡ written (log warns statement)
  pub kinds : all_told a.walk.log ≡ kinds (world_of warns statement) statement.head
  pub made : a.walk.made ≡ length (bindings warns statement)
  pub taken : a.walk.taken ≡ length (carried_list warns statement)
  pub carries : a.walk.taken * carried_width ≤ length was → Holds carried_words was has a.walk.taken (carried_list warns statement)
  pub stands : Stands x (words s) a.chains.now
  pub kinded : kind_in x (words s) ≡ kind_of (world_of warns statement)
  pub few : a.walk.log.said + a.walk.log.told ≤ length (words s)
  pub wide : (a.walk.log.said + a.walk.log.told) * 6 ≤ length a.walk.log.words.now

-- what the bindings of a run ask, and that a list has them, if it has room
pub record Bindable (r : Rows) (list : List ℕ) (taken : ℕ) (l : Log) (stamps : List ℕ) : Type 0 where
  pub standing : Standing r
  pub lent : taken * carried_width ≤ length list
  pub told : l.said * 6 ≤ length l.words.now
  pub stamped : 1 ≤ length stamps

abbrev pub Bound : (r : Rows) (list : List ℕ) (taken : ℕ) (l : Log) (old new : List ℕ) (k : ℕ) → Type 0
Bound r list taken l old new k =
    let all = woven_in r.index (words r.bytes.now) l taken list in
    (id : ℕ → ℕ) → length (all id) * binding_width ≤ length old → Holds binding_words old new k (all id)

-- so much stands in the log and in the carried list, and the lists that are filled as it comes have room for it, and `held` for stamps and for
-- chains of as many entries
pub record Fitting (ws : List ℕ) (x : Index) (a : Scratch) (l : Lent ℕ) : Type 0 where
  pub trailed : 10 ≤ length ws
  pub short : length ws ≤ 2048
  pub named : (places_of ws).names ≤ length a.ids.now
  pub stands : Stands x ws a.chains.now
  pub lent : a.walk.taken * carried_width ≤ length l.carried
  pub few : a.walk.log.said ≤ length ws
  pub pairs : 2 * length ws ≤ length a.held.now
  pub wide : (a.walk.log.said + a.walk.log.told) * 6 ≤ length a.walk.log.words.now
  pub scopes : a.walk.log.said * scope_width ≤ length l.scopes
  pub recorded : a.walk.log.said * recorded_width ≤ length l.recorded
  pub findings : (a.walk.log.said + a.walk.log.told) * finding_width ≤ length l.findings

-- the lists have what the events, the carried list and the kind walk's findings give
abbrev pub all_events : List ℕ → Scratch → List Event
all_events ws a = all_in (id_in (uses_in ws a.ids.now)) a.walk.log

module _ (ws : List ℕ) (x : Index) (a : Scratch) where
  abbrev pub all_bound : List ℕ → List Entry
  all_bound carried = woven_in x ws a.walk.log a.walk.taken carried (id_in (uses_in ws a.ids.now))

  pub record Filling (old : Lent ℕ) (n : Counts) (new : Lent ℕ) : Type 0 where
    pub scopes : Holds scope_words old.scopes new.scopes n.scopes (scopes_in (all_events ws a))
    pub bindings : length (all_bound old.carried) * binding_width ≤ length old.bindings → Holds binding_words old.bindings new.bindings n.bindings (all_bound old.carried)
    pub carried : n.carried ≡ a.walk.taken
    pub kept : new.carried ≡ old.carried
    pub recorded : Holds recorded_words old.recorded new.recorded n.recorded (notes (answers_in (all_events ws a)) [])
    pub findings : Holds finding_words old.findings new.findings n.findings (finds_in (all_events ws a) ++ all_told a.walk.log)

-- a sheet that is accepted, lists that have room, and scratch for its words, which need not be clear
pub record Again (warns : Bool) (s : List ℕ) (a : Scratch) (l : Lent ℕ) (room : ℕ) : Type 0 where
  pub statement : Statement
  pub read : read_sheet s ≡ accepted statement
  pub fits : fits (length (words s)) (counts_of warns statement) l room ≡ true
  pub placed : length (words s) ≤ length a.places.now
  pub used : length (words s) ≤ length a.ids.now
  pub long : length (words s) ≤ length a.chains.now
  pub marked : length (words s) ≤ length a.marks.now
  pub unmarked : (i : ℕ) → get_or a.marks.now i 0 ≡ 0
  pub pairs : 2 * length (words s) ≤ length a.held.now
  pub names : most a.walk.rowless + 4 * (length (words s) + 2) ≤ length a.walk.visible.words.now
  pub binders : length (words s) < 3 * most a.walk.rowless
  pub listed : most a.walk.rowless * 2 ≤ length a.walk.rowless.entries.now
  pub small : most a.walk.rowless < 2 ^ 31
  pub wide : length (words s) * 6 ≤ length a.walk.log.words.now
