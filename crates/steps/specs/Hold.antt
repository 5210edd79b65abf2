-- How both walks' state stands in the walk of the code, and what a step does to it.
use Rattle.std.specs.Prelude.{ℕ, suc, ◌+◌, ◌*◌, ◌^◌, ◌<◌, ◌≤◌, ◌≡◌, Bool, true, false, not, ◌&&◌, List, [], ◌∷◌, eqb, length, get_or, Option, None, Some}
use Rattle.words.specs.Words.{words}
use Rattle.scope.specs.Graph.{comprehension_scope, indexed}
use Rattle.scope.specs.declared.Name.{Name}
use Rattle.heads.specs.declared.Form.{Form}
use Rattle.heads.specs.declared.Form.TheVariants.{Leaf, Var, Unresolved, Prop, Two, Slice, Many, BinOp, UnaryOp, Case, IsNull, PatternPredicate, ListComprehension, PatternComprehension, ListPredicate, MapProjection}
use Rattle.tables.specs.Answer.{names_at}
use Rattle.tables.specs.Row.{path_kind, Row, row}
use Rattle.semantics.specs.Log.{Finding, missing, write, answer, Event}
use Rattle.semantics.specs.Log.{found as found_as}
use Rattle.semantics.specs.World.{World, variable, name_of, kind_of}
use Rattle.semantics.specs.Resolve.{Hit, hit, State, lookup, binds, say, enter, bind_name, bind_anew, bind_new, use_var, bind_path}
use Rattle.semantics.specs.Kinds.{Setting, pattern_type, type_of, at_type, at_row, misplaced, row_for}
use Rattle.theorems.specs.Needs.{made, carried_in}
use Rattle.fused.specs.Fused.{Both, Mode, when, told, step, same, name_use}
use Rattle.rows.specs.Rows.{shown}
use Rattle.rows.specs.Table.{row_in, Standing}
use Rattle.rowless.specs.Rowless.{named, places, most, Fresh, Sound as Numbered, Right, Grows, Begins, Still as Unmoved}
use Rattle.visible.specs.Visible.{seens, Descends}
use Rattle.visible.specs.Stack.{entries, Sound}
use Rattle.visible.specs.Stack as stack
use Rattle.steps.specs.Types.{type_number, type_at}
use Rattle.steps.specs.Modes.{setting_of}
use Rattle.steps.specs.Memory.{words_in, names_in, use_in, texts_in, named_in, world_at}
use Rattle.steps.specs.Named.{as_named, Below}
use Rattle.steps.specs.Said.{kept, events_in, findings_in, Roomy, Says, Tells}
use Rattle.steps.specs.Said as said
use Rattle.rowless.specs.declared.Rowless.{Rowless}
use Rattle.steps.specs.declared.Walk.{Walk}
use Rattle.steps.specs.declared.context.Context.{Context}
use Rattle.steps.specs.declared.context.Texts.{Texts}
use Rattle.steps.specs.declared.mode.Setting.{Setting as Setting'}
use Rattle.steps.specs.declared.mode.Setting.TheVariants.{General}
use Rattle.steps.specs.declared.log.Log.{Log}
use Rattle.steps.specs.declared.head.Act.{Act}
use Rattle.steps.specs.declared.head.Act.TheVariants.{Shows, Uses, Names, Opens}

-- The context is in order: each row has a name and a kind up to Value, and each name a use id and a text.
pub record Fine (c : Context) : Type 0 where
  pub short : length (words_in c) ≤ 2048
  pub standing : Standing c.rows
  pub named : (v x k : ℕ) → shown (row_in c.rows v) ≡ Some (x, k) → (x < names_in c) × (k ≤ 4)
  pub used : names_in c ≤ length c.uses.now
  pub texts : length (texts_in c) ≡ names_in c

-- What is always so. Whatever is said, opened or bound is paid for by words that were read, so there is room for it: e words were read that
-- nothing was said for yet, t that nothing was opened or bound for, and u that no variable without a row took a place for.
pub record Fits (e t u : ℕ) (c : Context) (w : Walk) : Type 0 where
  pub listed : w.rowless.listed ≡ names_in c
  pub heads : w.visible.names ≡ w.rowless.listed + most w.rowless
  pub numbered : Numbered w.rowless
  pub right : Right (named_in c) w.rowless
  pub below : Below (places w.rowless) (entries w.visible)
  pub sound : Sound w.visible
  pub descends : Descends w.cur (entries w.visible)
  pub cur : w.cur ≤ w.last
  pub last : w.last + t ≤ w.at
  pub count : w.log.said + w.log.told + e ≤ w.at + 1
  pub stack : w.rowless.listed + w.visible.top + t ≤ w.at + 1
  pub rowless : 3 * w.rowless.count + u ≤ w.at
  pub olds : w.olds + e ≤ w.at + 1
  pub needs : w.made + w.taken + t * 16384 ≤ w.at * 16384
  pub within : w.at ≤ length (words_in c)
  pub names : most w.rowless + 4 * (length (words_in c) + 2) ≤ length w.visible.words.now
  pub binders : length (words_in c) < 3 * most w.rowless
  pub room : (length (words_in c) + 1) * 6 ≤ length w.log.words.now

-- k words were read that nothing was done for yet
abbrev pub Fit : ℕ → Context → Walk → Type 0
Fit k = Fits k k k

-- how many bindings and carried names a log has, counted
pub record Counted (w : Walk) (l : List Event) : Type 0 where
  pub made : w.made ≡ made l
  pub taken : w.taken ≡ carried_in l

-- the walk holds the state
pub record Holds (id : ℕ → ℕ) (c : Context) (w : Walk) (s : Both) : Type 0 where
  pub visible : as_named w.rowless (entries w.visible) ≡ s.names.visible
  pub cur : w.cur ≡ s.names.cur
  pub last : w.last ≡ s.names.last
  pub log : events_in id w.log ≡ kept c.wants s.names.log
  pub kinds : findings_in w.log ≡ s.kinds
  pub olds : w.olds ≡ s.olds
  pub counts : Counted w s.names.log
  pub uses : (x : ℕ) → x < names_in c → use_in c x ≡ id x

-- a walk that begins anew at a word, with these places
abbrev pub restarted : (at : ℕ) → Rowless → Walk → Walk
restarted at r w =
    record w {
      at = at;
      visible = record w.visible { names = r.listed + most r; top = 0 };
      rowless = r;
      cur = 0;
      last = 0;
      log = record w.log { said = 0; told = 0 };
      olds = 0;
      made = 0;
      taken = 0;
    }

-- what waits at a level: how many expressions are left there, and the setting of those
pub record Level : Type 0 where
  pub left : ℕ
  pub later : Setting'

abbrev pub level_of : Walk → ℕ → Level
level_of w d = record { left = get_or w.left d 0; later = get_or w.later d General }

-- what was visible stays below what came, places keep their names, and the levels above `room` stay
pub record Frame (room : ℕ) (w w' : Walk) : Type 0 where
  pub top : w.visible.top ≤ w'.visible.top
  pub last : w.last ≤ w'.last
  pub below : seens w.visible.names w.visible.top w'.visible.words.now ≡ entries w.visible
  pub grows : Grows w.rowless w'.rowless
  pub levels : (d : ℕ) → room < d → level_of w' d ≡ level_of w d

-- the words are those that were lent, and as many
pub record Still (w w' : Walk) : Type 0 where
  pub visible : stack.Still w.visible w'.visible
  pub rowless : Unmoved w.rowless w'.rowless
  pub log : said.Still w.log w'.log

-- what a step does to one of the two walks
abbrev pub on_names : (State → State) → Both → Both
on_names f s = record { names = f s.names; kinds = s.kinds; olds = s.olds }

abbrev pub on_kinds : List Finding → Both → Both
on_kinds fs s = record { names = s.names; kinds = told fs s.kinds; olds = s.olds }

-- A step of the state, at the same word: e words pay for what it says, t words for what it opens or binds, u for a place that a variable without a
-- row takes. It may go by the use ids of names, which the walk doesn't hold.
pub record Costs (e t u : ℕ) (c : Context) (w w' : Walk) (F : (ℕ → ℕ) → Both → Both) : Type 0 where
  pub at : w'.at ≡ w.at
  pub still : Still w w'
  pub fit : (i k l : ℕ) → Fits (e + i) (t + k) (u + l) c w → Fits i k l c w'
  pub frame : Frame 0 w w'
  pub goes : (id : ℕ → ℕ) (s : Both) → Holds id c w s → Holds id c w' (F id s)

-- a step for which j words pay
abbrev pub Steps : ℕ → Context → (w w' : Walk) → ((ℕ → ℕ) → Both → Both) → Type 0
Steps j = Costs j j j

-- The name at the place x was bound in the current scope, for three words; whether that binds it already.
pub record Binds (c : Context) (w w' : Walk) (x v k : ℕ) (r : Bool) : Type 0 where
  pub again : r ≡ binds w.cur (indexed x) (entries w.visible)
  pub rowless : w'.rowless ≡ w.rowless
  pub costs : Costs 1 3 0 c w w' (λ id. on_names (bind_name (named w.rowless x) v k))

-- x is the place of a variable's name: its row's, or one that three words pay for
pub record Placed (c : Context) (v : ℕ) (w w' : Walk) (x : ℕ) : Type 0 where
  pub below : x < places w'.rowless
  pub name : (id : ℕ → ℕ) → named w'.rowless x ≡ name_of (world_at c id) v
  pub costs : Costs 0 0 3 c w w' (λ id s. s)

-- What binding a name asks: its place is there.
pub record Able (j : ℕ) (c : Context) (w : Walk) : Type 0 where
  pub fine : Fine c
  pub fit : Fits j j 0 c w

-- What telling whether the current scope binds a name asks.
pub record Binding (w : Walk) : Type 0 where
  pub sound : Sound w.visible
  pub descends : Descends w.cur (entries w.visible)

-- What a step asks.
pub record Ready (j : ℕ) (c : Context) (w : Walk) : Type 0 where
  pub fine : Fine c
  pub fit : Fit j c w

-- what a step may do beside its log: a log that says or tells so
abbrev pub logged : Walk → Log → Walk
logged w l = record w { log = l }

pub record Logs (P : Log → Log → Type 0) (w w' : Walk) : Type 0 where
  pub log : P w.log w'.log
  pub same : w' ≡ logged w w'.log

-- the same where a test holds, and else nothing
pub record LogsIf (t : Bool) (P : Log → Log → Type 0) (w w' : Walk) : Type 0 where
  pub yes : t ≡ true → Logs P w w'
  pub no : t ≡ false → w' ≡ w

abbrev pub SaysIf : Bool → List ℕ → (w w' : Walk) → Type 0
SaysIf t event = LogsIf t (Says event)

abbrev pub TellsIf : Bool → List ℕ → (w w' : Walk) → Type 0
TellsIf t finding = LogsIf t (Tells finding)

-- a binding was said in the current scope, and counted unless it replaces another
pub record Makes (wants : Bool) (n : Name) (v k : ℕ) (w w' : Walk) : Type 0 where
  pub between : Walk
  pub says : SaysIf wants (2 ∷ w.cur ∷ n.word ∷ v ∷ k ∷ n.mark ∷ []) w between
  pub counts : w' ≡ record between { made = suc between.made }

pub record SaysBound (wants again : Bool) (n : Name) (v k : ℕ) (w w' : Walk) : Type 0 where
  pub yes : again ≡ true → SaysIf wants (3 ∷ w.cur ∷ n.word ∷ v ∷ k ∷ n.mark ∷ []) w w'
  pub no : again ≡ false → Makes wants n v k w w'

abbrev pub name_in : (Option (ℕ × ℕ)) → ℕ
name_in (Some (x, k)) = x
name_in None = 0

abbrev pub kind_in : (Option (ℕ × ℕ)) → ℕ
kind_in (Some (x, k)) = k
kind_in None = 0

-- whether a binder with that row is misplaced where a kind is wanted
abbrev pub misplaced_in : Bool → ℕ → Option (ℕ × ℕ) → Bool
misplaced_in checks want (Some (x, k)) = checks && not (eqb k want)
misplaced_in checks want None = false

-- the name and the kind of a row that was told are in range
abbrev pub InRange : ℕ → Option (ℕ × ℕ) → Type 0
InRange names (Some (x, k)) = (x < names) × (k ≤ 4)
InRange names None = Unit {0}

-- both, of the row that it shows
pub record ShownTo (names : ℕ) (o : Option Row) (r : Option (ℕ × ℕ)) : Type 0 where
  pub same : r ≡ shown o
  pub range : InRange names r

-- a row with the name x and the kind k, in a setting
abbrev pub AtRow : Context → (w w' : Walk) → Setting' → (x k : ℕ) → Type 0
AtRow c w w' set x k = (i a b : ℕ) → Steps 1 c w w' (λ id. on_kinds (at_row (setting_of set) (Some (row i x k a b))))

-- what a head does before its parts
abbrev pub act_of : Form → Act
act_of (Leaf k) = Shows (type_at (type_of (Leaf k)))
act_of (Var v) = Uses v
act_of (Unresolved x) = Names x
act_of (Prop x) = Shows (type_at (type_of (Prop x)))
act_of (Two k) = Shows (type_at (type_of (Two k)))
act_of (Slice b) = Shows (type_at (type_of (Slice b)))
act_of (Many k n) = Shows (type_at (type_of (Many k n)))
act_of (BinOp o) = Shows (type_at (type_of (BinOp o)))
act_of (UnaryOp o) = Shows (type_at (type_of (UnaryOp o)))
act_of (Case b n) = Shows (type_at (type_of (Case b n)))
act_of IsNull = Shows (type_at (type_of IsNull))
act_of PatternPredicate = Shows (type_at pattern_type)
act_of (ListComprehension g) = Shows (type_at (type_of (ListComprehension g)))
act_of (PatternComprehension a b g) = Opens a b
act_of (ListPredicate g) = Shows (type_at (type_of (ListPredicate g)))
act_of (MapProjection n) = Shows (type_at (type_of (MapProjection n)))

-- a use of a variable, in a setting
abbrev pub var_step : World → Mode → ℕ → Setting → Both → Both
var_step w m v c = step m (use_var w v (w.row v)) (at_row c (w.row v))

-- what of it is done, of those that look
abbrev pub acts : World → Mode → Setting → Act → Both → Both
acts w m c (Shows t) = step m same (at_type c (type_number t))
acts w m c (Uses v) = var_step w m v c
acts w m c (Names x) = step m (name_use w x) []
acts w m c (Opens a b) = step m (enter comprehension_scope a b) []

-- the words that pay for it
abbrev pub cost_in : Act → ℕ
cost_in (Shows t) = 1
cost_in (Uses v) = 2
cost_in (Names x) = 2
cost_in (Opens a b) = 1

abbrev pub cost_of : Form → ℕ
cost_of f = cost_in (act_of f)

-- its names are below the number of names
abbrev pub NamedIn : ℕ → Act → Type 0
NamedIn slots (Shows t) = Unit {0}
NamedIn slots (Uses v) = Unit {0}
NamedIn slots (Names x) = x < slots
NamedIn slots (Opens a b) = Unit {0}

abbrev pub Named : ℕ → Form → Type 0
Named slots f = NamedIn slots (act_of f)

-- a path's name is bound, where names are resolved
abbrev pub path_name : World → Mode → ℕ → State → State
path_name w m v = when m.resolves (bind_anew w 0 0 (name_of w v) v path_kind)

-- a node's or a relationship's name is bound, where names are resolved, if it is not visible
abbrev pub new_name : World → Mode → (v k : ℕ) → State → State
new_name w m v k = when m.resolves (λ s. bind_new w (lookup (name_of w v) s.visible) (name_of w v) v k s)

-- a part's path: its own binder
abbrev pub path_step : World → Mode → Option ℕ → Both → Both
path_step w m p = step m (bind_path w (variable p)) (misplaced 1 path_kind 0 0 (row_for w p))

-- out of a scope: the names that are visible and the current scope are as they were
pub record Left (w w' : Walk) (top cur : ℕ) : Type 0 where
  pub visible : stack.Cut top w.visible w'.visible
  pub same : w' ≡ record w { visible = w'.visible; cur = cur }

-- after a head's parts: a comprehension is left where names are resolved
abbrev pub ClosedIf : Bool → (w w' : Walk) → ℕ → ℕ → Type 0
ClosedIf true w w' top cur = Left w w' top cur
ClosedIf false w w' top cur = w' ≡ w

abbrev pub opens_in : Act → Bool
opens_in (Shows t) = false
opens_in (Uses v) = false
opens_in (Names x) = false
opens_in (Opens a b) = true

abbrev pub Closed : (w w' : Walk) → (top cur : ℕ) → Mode → Form → Type 0
Closed w w' top cur mode f = ClosedIf (opens_in (act_of f) && mode.resolves) w w' top cur

-- what is recorded of a variable that has a row
abbrev pub var_record : Mode → ℕ → ℕ → State → State
var_record m v k = when m.resolves (say (answer (write v (found_as v k 0))))

-- what is recorded of a name, E1001 apart
abbrev pub name_record : World → ℕ → Option Hit → State → State
name_record w x (Some (hit v o)) s = say (answer (write (w.id x) (found_as v (kind_of w v) o))) s
name_record w x None s = say (answer (write (w.id x) missing)) s

-- What beginning anew asks: the words of the texts' section and the places of all names can be counted in a u32, and the names are `Fresh`.
abbrev pub Restartable : Texts → Walk → Type 0
Restartable t w = ((length (words t.section.now) < 2 ^ 32) × (length t.places.now + most w.rowless < 4294967296)) × Fresh (names_at t.section.now t.places.now) w.rowless

-- The walk begins anew at a word, with these names.
pub record Restarts (at : ℕ) (names : List (List ℕ)) (w w' : Walk) : Type 0 where
  pub begins : Begins names w.rowless w'.rowless
  pub same : w' ≡ restarted at w'.rowless w
