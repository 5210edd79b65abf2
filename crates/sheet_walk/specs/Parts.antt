-- What the parts of a run ask and leave: the tables of names and bindings, the sections of head and arms, and the walks over a whole sheet. Only
-- contracts and their proofs need these.
use Rattle.std.specs.Prelude.{ℕ, ◌+◌, ◌*◌, ◌^◌, ◌<◌, ◌≤◌, ◌≡◌, true, false, List, [], ◌∷◌, map, length, get_or, take, drop, Option, None, Some, Result, Ok, Err}
use Rattle.words.specs.Words.{words}
use Rattle.words.specs.Fnv.{use_id}
use Rattle.refusal.specs.Number.{number_of}
use Rattle.refusal.specs.declared.Refusal.{Refusal}
use mathlib.Core.List.{flat_map}
use Rattle.heads.specs.Answer.{row_ids, is_in}
use Rattle.tables.specs.Answer.{names_in}
use Rattle.tables.specs.Distinct.{name_in, distinct}
use Rattle.tables.specs.Name.{name_words}
use Rattle.tables.specs.Index.{index_of}
use Rattle.tables.specs.Index as index
use Rattle.tables.specs.Row.{Row}
use Rattle.sheet.specs.Trailer.{section}
use Rattle.sheet.specs.Read.{Sheet, accepted, refused, read_rows, read_sheet}
use Rattle.sheet.specs.Answer.{InPlaces, Tabled}
use Rattle.sheet.specs.declared.trailer.Places.{Places}
use Rattle.fused.specs.Fused.{Both}
use Rattle.fused.specs.Sheet.{begun, head_go, arms_go, sheet_go}
use Rattle.fused.proofs.ApartStatement.{HasTables, world_by}
use Rattle.rows.specs.Table.{row_by, Stands}
use Rattle.rows.specs.declared.Index.{Index}
use Rattle.rowless.specs.Rowless.{most, Fresh, Still as Unmoved}
use Rattle.steps.specs.Memory.{words_in, use_in, texts_in, world_at}
use Rattle.steps.specs.Memory as memory
use Rattle.steps.specs.Hold.{Fine, Fit, Holds}
use Rattle.steps.specs.Hold as hold
use Rattle.steps.specs.declared.Walk.{Walk}
use Rattle.steps.specs.declared.context.Context.{Context}
use Rattle.clause_parts.specs.Passes as passes
use Rattle.arm_walk.specs.Taking.{Carries}
use Rattle.sheet_walk.specs.declared.Choice.{Choice}

-- ---- the tables

-- as many slots for n bindings as four of the five words of each, and eight more, pay for
pub record Slots (n r : ℕ) : Type 0 where
  pub some : 0 < r
  pub small : r < 4294967296
  pub room : r ≤ n * 4 + 8

-- zeros for the chains of w words
pub record Clear (w : ℕ) (chains : List ℕ) : Type 0 where
  pub long : w ≤ length chains
  pub clear : (i : ℕ) → get_or chains i 0 ≡ 0

-- n rows are hung up, where no two have the same variable
pub record Hangs (ws : List ℕ) (rows n : ℕ) (chains : List ℕ) (x : Index) : Type 0 where
  pub apart : distinct is_in (row_ids n (drop rows ws)) ≡ true
  pub first : x.first ≡ rows
  pub count : x.count ≡ n
  pub stands : Stands x ws chains

abbrev pub HungIf : (ws : List ℕ) (rows n : ℕ) (chains : List ℕ) → Option Index → Type 0
HungIf ws rows n chains (Some x) = Hangs ws rows n chains x
HungIf ws rows n chains None = distinct is_in (row_ids n (drop rows ws)) ≡ false

pub record HungAs (ws : List ℕ) (rows n : ℕ) (old chains : List ℕ) (r : Option Index) : Type 0 where
  pub kept : length chains ≡ length old
  pub hung : HungIf ws rows n chains r

-- the bindings of a sheet, as they are read, and hung up
pub record Rowed (s : List ℕ) (p : Places) (chains : List ℕ) (x : Index) : Type 0 where
  pub rows : List Row
  pub read : read_rows p.names p.bindings (section (words s) p.rows p.head) ≡ accepted rows
  pub first : x.first ≡ p.rows
  pub count : x.count ≡ p.bindings
  pub stands : Stands x (words s) chains

abbrev pub RowedIf : List ℕ → Places → List ℕ → Result Index Refusal → Type 0
RowedIf s p chains (Ok x) = Rowed s p chains x
RowedIf s p chains (Err e) = read_rows p.names p.bindings (section (words s) p.rows p.head) ≡ refused (number_of e)

pub record RowedAs (s : List ℕ) (p : Places) (old chains : List ℕ) (r : Result Index Refusal) : Type 0 where
  pub kept : length chains ≡ length old
  pub rowed : RowedIf s p chains r

-- the names of a sheet, by the table of their places
abbrev pub names_by : List ℕ → Places → List ℕ → List (List ℕ)
names_by s p places = names_in (take (p.rows * 4) s) p.names places

-- Both tables of a sheet are right.
pub record Reads (s : List ℕ) (p : Places) (places ids chains : List ℕ) (x : Index) : Type 0 where
  pub rows : List Row
  pub has : HasTables s p (names_by s p places) rows
  pub tabled : Tabled p.names (take (p.rows * 4) s) places ids true
  pub first : x.first ≡ p.rows
  pub count : x.count ≡ p.bindings
  pub stands : Stands x (words s) chains
  pub named : (v : ℕ) → row_by x (words s) v ≡ (world_by true (names_by s p places) rows).row v

-- they are, or they refuse the sheet
abbrev pub ReadsAs : List ℕ → Places → (places ids chains : List ℕ) → Result Index Refusal → Type 0
ReadsAs s p places ids chains (Ok x) = Reads s p places ids chains x
ReadsAs s p places ids chains (Err e) = read_sheet s ≡ refused (number_of e)

-- what the walks go by
pub record Settling (s : List ℕ) (p : Places) (places ids : List ℕ) : Type 0 where
  pub located : InPlaces s p
  pub named : p.names ≤ length places
  pub used : p.names ≤ length ids
  pub uses : take p.names ids ≡ map use_id (names_by s p places)
  pub below : p.names ≤ 8192

pub record Settles (s : List ℕ) (p : Places) (choice : Choice) (x : Index) (places ids chains : List ℕ) (c : Context) : Type 0 where
  pub bytes : c.section.bytes.now ≡ s
  pub names : memory.names_in c ≡ p.names
  pub rows : c.rows.bytes.now ≡ s
  pub hung : c.rows.chains.now ≡ chains
  pub indexed : c.rows.index ≡ x
  pub texts : c.texts.section.now ≡ take (p.rows * 4) s
  pub placed : c.texts.places.now ≡ take p.names places
  pub uses : c.uses.now ≡ ids
  pub hushed : c.hushed.now ≡ []
  pub star : index.number_of c.star ≡ index_of (42 ∷ []) (names_by s p places)
  pub ident : index.number_of c.ident ≡ index_of (105 ∷ 100 ∷ []) (names_by s p places)
  pub warns : c.warns ≡ choice.warns
  pub wants : c.wants ≡ choice.wants

-- the same context over the words before `to`
pub record CutTo (to : ℕ) (c c' : Context) : Type 0 where
  pub words : words_in c' ≡ take to (words_in c)
  pub names : memory.names_in c' ≡ memory.names_in c
  pub rows : c'.rows ≡ c.rows
  pub texts : c'.texts ≡ c.texts
  pub uses : c'.uses ≡ c.uses
  pub hushed : c'.hushed ≡ c.hushed
  pub star : c'.star ≡ c.star
  pub ident : c'.ident ≡ c.ident
  pub warns : c'.warns ≡ c.warns
  pub wants : c'.wants ≡ c.wants

-- ---- the sections

-- the context is in order for the sections of a sheet, each name is there once and stands before the head, and none is hushed
pub record Set (p : Places) (c : Context) : Type 0 where
  pub places : InPlaces c.section.bytes.now p
  pub fine : Fine c
  pub names : memory.names_in c ≡ p.names
  pub few : p.names ≤ p.head
  pub short : length (words c.texts.section.now) < 2 ^ 32
  pub apart : distinct name_in (texts_in c) ≡ true
  pub before : length (flat_map name_words (texts_in c)) ≤ p.head
  pub unhushed : passes.Unhushed c

pub record Lent (p : Places) (c : Context) (held marks : List ℕ) : Type 0 where
  pub set : Set p c
  pub pairs : 2 * length (words_in c) ≤ length held
  pub clear : passes.Clear c marks

-- the walk has words for what is visible, for what is said and for the places of names, and nothing is visible yet
pub record Beginning (p : Places) (c : Context) (w : Walk) : Type 0 where
  pub set : Set p c
  pub names : most w.rowless + 4 * (length (words_in c) + 2) ≤ length w.visible.words.now
  pub binders : length (words_in c) < 3 * most w.rowless
  pub fresh : Fresh (texts_in c) w.rowless
  pub unseen : (i : ℕ) → get_or w.visible.words.now i 0 ≡ 0
  pub room : length (words_in c) * 6 ≤ length w.log.words.now

-- what always fits, over the words before `to`
abbrev pub FitTo : ℕ → Context → Walk → Type 0
FitTo to c w = (c' : Context) → CutTo to c c' → Fit 0 c' w

-- the walk stands at the first word of a section that ends at `to`
pub record Standing (from to : ℕ) (c : Context) (w : Walk) : Type 0 where
  pub at : w.at ≡ from
  pub fit : FitTo to c w

-- g gives a state, which the walk holds now
pub record Ends (id : ℕ → ℕ) (c : Context) (w : Walk) (g : Sheet Both) : Type 0 where
  pub state : Both
  pub holds : Holds id c w state
  pub same : g ≡ accepted state

-- what is done to a section, where the use ids of names are whatever `id` gives
abbrev pub Walker : Type 0
Walker = (ℕ → ℕ) → Both → Sheet Both

pub record Done (c : Context) (to : ℕ) (w w' : Walk) (G : Walker) : Type 0 where
  pub stands : Standing to to c w'
  pub goes : (id : ℕ → ℕ) (u : Both) → Holds id c w u → Ends id c w' (G id u)

-- the section was walked to its end, or is refused
abbrev pub DoneAs : Context → ℕ → (w w' : Walk) → Walker → Result (Unit {0}) Refusal → Type 0
DoneAs c to w w' G (Ok u) = Done c to w w' G
DoneAs c to w w' G (Err e) = (id : ℕ → ℕ) (u : Both) → Holds id c w u → G id u ≡ refused (number_of e)

-- the carried list then has what was carried, too
abbrev pub TakesAll : Context → Walk → (carried carried' : List ℕ) → Walker → Type 0
TakesAll c w carried carried' G = (id : ℕ → ℕ) (u v : Both) (old : List ℕ) → Holds id c w u → G id u ≡ accepted v → Carries old carried u.names.log → Carries old carried' v.names.log

pub record Walks (c : Context) (to : ℕ) (w : Walk) (carried : List ℕ) (w' : Walk) (carried' : List ℕ) (G : Walker) (r : Result (Unit {0}) Refusal) : Type 0 where
  pub still : hold.Still w w'
  pub lent : length carried' ≡ length carried
  pub done : DoneAs c to w w' G r
  pub takes : TakesAll c w carried carried' G

-- the head and the arms of a sheet
abbrev pub head_in : Places → Context → Walker
head_in p c id u = head_go (world_at c id) p.names p.clauses u (section (words_in c) p.head p.tail)

abbrev pub arms_in : Places → Context → Walker
arms_in p c id u = arms_go (world_at c id) p.names p.arms u (section (words_in c) p.tail p.trailer)

-- the lent words of a walk are those that were lent, and as many, however many names there are
pub record Lasting (w w' : Walk) : Type 0 where
  pub visible : w'.visible.words.ghost_name ≡ w.visible.words.ghost_name
  pub seen : length w'.visible.words.now ≡ length w.visible.words.now
  pub rowless : Unmoved w.rowless w'.rowless
  pub log : w'.log.words.ghost_name ≡ w.log.words.ghost_name
  pub wrote : length w'.log.words.now ≡ length w.log.words.now

-- the use ids of the names that a sheet has
abbrev pub Uses : Context → (ℕ → ℕ) → Type 0
Uses c id = (x : ℕ) → x < memory.names_in c → use_in c x ≡ id x

-- the walks begin: the Root is said, where it is wanted
pub record Begins (p : Places) (c : Context) (w w' : Walk) : Type 0 where
  pub lasting : Lasting w w'
  pub stands : Standing p.head p.tail c w'
  pub holds : (id : ℕ → ℕ) → Uses c id → Holds id c w' (begun p)

-- both sections were walked
pub record Walked (p : Places) (c : Context) (w' : Walk) (carried carried' : List ℕ) : Type 0 where
  pub few : w'.log.said + w'.log.told ≤ length (words_in c)
  pub goes : (id : ℕ → ℕ) → Uses c id → Ends id c w' (sheet_go (world_at c id) p (words_in c))
  pub takes : (id : ℕ → ℕ) → Uses c id → (u : Both) → sheet_go (world_at c id) p (words_in c) ≡ accepted u → Carries carried carried' u.names.log

abbrev pub WalkedAs : Places → Context → Walk → (carried carried' : List ℕ) → Result (Unit {0}) Refusal → Type 0
WalkedAs p c w' carried carried' (Ok u) = Walked p c w' carried carried'
WalkedAs p c w' carried carried' (Err e) = (id : ℕ → ℕ) → Uses c id → sheet_go (world_at c id) p (words_in c) ≡ refused (number_of e)

pub record WalksAll (p : Places) (c : Context) (w : Walk) (carried : List ℕ) (w' : Walk) (carried' : List ℕ) (r : Result (Unit {0}) Refusal) : Type 0 where
  pub lasting : Lasting w w'
  pub lent : length carried' ≡ length carried
  pub walked : WalkedAs p c w' carried carried' r

-- ---- the whole sheet

-- both tables were read, and what is lent has room for the walks
pub record Walking (s : List ℕ) (p : Places) (x : Index) (places ids chains held marks : List ℕ) (w : Walk) : Type 0 where
  pub tables : Reads s p places ids chains x
  pub placed : length (words s) ≤ length places
  pub used : length (words s) ≤ length ids
  pub marked : length (words s) ≤ length marks
  pub unmarked : (i : ℕ) → get_or marks i 0 ≡ 0
  pub pairs : 2 * length (words s) ≤ length held
  pub names : most w.rowless + 4 * (length (words s) + 2) ≤ length w.visible.words.now
  pub binders : length (words s) < 3 * most w.rowless
  pub listed : most w.rowless * 2 ≤ length w.rowless.entries.now
  pub small : most w.rowless < 2 ^ 31
  pub unlisted : (i : ℕ) → get_or w.rowless.chains.now i 0 ≡ 0
  pub unseen : (i : ℕ) → get_or w.visible.words.now i 0 ≡ 0
  pub room : length (words s) * 6 ≤ length w.log.words.now

-- the walks went by what the tables settle
pub record WalksBy (s : List ℕ) (p : Places) (choice : Choice) (x : Index) (places ids chains : List ℕ) (w : Walk) (carried : List ℕ) (w' : Walk) (carried' : List ℕ) (r : Result (Unit {0}) Refusal) : Type 0 where
  pub context : Context
  pub settles : Settles s p choice x places ids chains context
  pub walks : WalksAll p context w carried w' carried' r
