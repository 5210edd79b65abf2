-- What reading and walking a whole sheet in one leaves: the refusal, or the events and findings of the definition's two walks, in words, and
-- what they carry.
use Rattle.std.specs.Prelude.{ℕ, ◌+◌, ◌*◌, ◌^◌, ◌<◌, ◌≤◌, ◌≡◌, List, map, reverse, length, get_or, take, Result, Ok, Err}
use Rattle.words.specs.Words.{words}
use Rattle.words.specs.Fnv.{use_id}
use Rattle.refusal.specs.Number.{number_of}
use Rattle.refusal.specs.declared.Refusal.{Refusal}
use Rattle.tables.specs.Answer.{names_in}
use Rattle.sheet.specs.Trailer.{places_of}
use Rattle.sheet.specs.Statement.{Statement}
use Rattle.sheet.specs.Olds.{old_exists}
use Rattle.sheet.specs.Read.{accepted, refused, read_sheet}
use Rattle.semantics.specs.World.{bytes_of, row_kind, kind_of, world_of}
use Rattle.semantics.specs.Resolve.{run}
use Rattle.semantics.specs.Kinds.{kinds}
use Rattle.theorems.specs.Needs as needs
use Rattle.rows.specs.Table.{row_by, Stands}
use Rattle.rows.specs.declared.Index.{Index}
use Rattle.rowless.specs.Rowless.{most, Still as Unmoved}
use Rattle.steps.specs.Said.{events_in, findings_in, kept}
use Rattle.arm_walk.specs.Taking.{Carries}
use Rattle.sheet_walk.specs.declared.Choice.{Choice}
use Rattle.sheet_walk.specs.declared.Scratch.{Scratch}

-- the use id of a statement's name
abbrev pub id_of : Statement → ℕ → ℕ
id_of st x = use_id (bytes_of st x)

-- An accepted sheet: where its names stand, their use ids, what the walks said, newest first, and how many expressions 25 it has; what its
-- bindings and its carried list need, and that list, if the lent words `old` have room for it; the kinds of variables, by the rows that hang in
-- the chains.
pub record RanTo (choice : Choice) (s : List ℕ) (a : Scratch) (old carried : List ℕ) (x : Index) : Type 0 where
  pub statement : Statement
  pub read : read_sheet s ≡ accepted statement
  pub names : names_in (take ((places_of (words s)).rows * 4) s) (places_of (words s)).names a.places.now ≡ statement.names
  pub uses : take (places_of (words s)).names a.ids.now ≡ map use_id statement.names
  pub log : events_in (id_of statement) a.walk.log ≡ kept choice.wants (run choice.warns statement).log
  pub kinds : findings_in a.walk.log ≡ reverse (kinds (world_of choice.warns statement) statement.head)
  pub olds : a.walk.olds ≡ old_exists statement
  pub bindings : a.walk.made ≡ needs.made (run choice.warns statement).log
  pub carried_names : a.walk.taken ≡ needs.carried_in (run choice.warns statement).log
  pub carries : Carries old carried (run choice.warns statement).log
  pub stands : Stands x (words s) a.chains.now
  pub kinded : (v : ℕ) → row_kind (row_by x (words s) v) ≡ kind_of (world_of choice.warns statement) v
  pub few : a.walk.log.said + a.walk.log.told ≤ length (words s)
  pub many : (places_of (words s)).names ≤ length a.places.now
  pub wide : (a.walk.log.said + a.walk.log.told) * 6 ≤ length a.walk.log.words.now

abbrev pub Runs : Choice → (s : List ℕ) → Scratch → (old carried : List ℕ) → Result Index Refusal → Type 0
Runs choice s a old carried (Ok x) = RanTo choice s a old carried x
Runs choice s a old carried (Err e) = read_sheet s ≡ refused (number_of e)

-- what it asks of the lent words, w being how many words the sheet has: all numbers are 0 at first where it matters
pub record Clean (w : ℕ) (a : Scratch) : Type 0 where
  pub placed : w ≤ length a.places.now
  pub used : w ≤ length a.ids.now
  pub long : w ≤ length a.chains.now
  pub hung : (i : ℕ) → get_or a.chains.now i 0 ≡ 0
  pub marked : w ≤ length a.marks.now
  pub unmarked : (i : ℕ) → get_or a.marks.now i 0 ≡ 0
  pub pairs : 2 * w ≤ length a.held.now
  pub names : most a.walk.rowless + 4 * (w + 2) ≤ length a.walk.visible.words.now
  pub binders : w < 3 * most a.walk.rowless
  pub listed : most a.walk.rowless * 2 ≤ length a.walk.rowless.entries.now
  pub small : most a.walk.rowless < 2 ^ 31
  pub unlisted : (i : ℕ) → get_or a.walk.rowless.chains.now i 0 ≡ 0
  pub unseen : (i : ℕ) → get_or a.walk.visible.words.now i 0 ≡ 0
  pub room : w * 6 ≤ length a.walk.log.words.now

-- they are the lent ones still, and as many, and no mark is set
pub record Still (a b : Scratch) : Type 0 where
  pub places : b.places.ghost_name ≡ a.places.ghost_name
  pub ids : b.ids.ghost_name ≡ a.ids.ghost_name
  pub chains : b.chains.ghost_name ≡ a.chains.ghost_name
  pub marks : b.marks.ghost_name ≡ a.marks.ghost_name
  pub held : b.held.ghost_name ≡ a.held.ghost_name
  pub placed : length b.places.now ≡ length a.places.now
  pub used : length b.ids.now ≡ length a.ids.now
  pub long : length b.chains.now ≡ length a.chains.now
  pub unmarked : b.marks.now ≡ a.marks.now
  pub pairs : length b.held.now ≡ length a.held.now
  pub seen : length b.walk.visible.words.now ≡ length a.walk.visible.words.now
  pub lent : b.walk.visible.words.ghost_name ≡ a.walk.visible.words.ghost_name
  pub rowless : Unmoved a.walk.rowless b.walk.rowless
  pub wrote : length b.walk.log.words.now ≡ length a.walk.log.words.now
  pub told : b.walk.log.words.ghost_name ≡ a.walk.log.words.ghost_name
