-- Laws of what heads do.
-- Steps of which nothing is to be done (`idle-as`, `none_told`), and in a mode in which one of the walks looks or does not (`checked-step`,
-- `unchecked-step`, `resolved_step`, `unresolved-step`).
-- A use of a variable: `var-said`, `quiet-use`, `rowless-use`, `checked-use`, `unchecked-use`. Of a name: `unwanted-name`, `missing-name`,
-- `found_name`; of one that is no use, `hushed-use`; then E1001, `missed-use`, `star-use`, `seen-use`. A head by its act: `by-act`, with `none-counted`; its
-- cost: `some_cost`; after its parts, `closed-stays`, `closed-fits`, `closed-frame`, `closed-holds`.
use Rattle.std.specs.Prelude.{Option, None, Some}
use Prim.Native.Nat.{ℕ, zero, suc, ◌≤◌, ◌<◌}
use lib.Dec.{eqb}
use lib.ListN.{get_or}
use native.Mathlib.Nat.{add-zero}
use native.Mathlib.Omega.{arith}
use mathlib.Core.Path.{◌≡◌, refl, ap, sym, subst, ◌∙◌}
use mathlib.Core.Bool.{Bool, true, false, cond, ◌&&◌}
use mathlib.Core.List.{List, [], ◌∷◌}
use Rattle.heads.specs.declared.Form.{Form}
use Rattle.heads.specs.declared.Form.TheVariants.{Leaf, Var, Unresolved, Prop, Two, Slice, Many, BinOp, UnaryOp, Case, IsNull, PatternPredicate, ListComprehension, PatternComprehension, ListPredicate, MapProjection}
use Rattle.expr.specs.Olds.{old_in}
use Rattle.tables.specs.Row.{Row, row}
use Rattle.semantics.specs.Log.{Finding, finding, find}
use Rattle.semantics.specs.World.{World, row_kind, kind_of}
use Rattle.scope.specs.Graph.{indexed}
use Rattle.semantics.specs.Resolve.{Hit, hit, State, lookup, say, say_if, leave, use_var, use_name, visit}
use Rattle.semantics.specs.Kinds.{no_type, map_type, leaf_types, type_of, at_type, at_row}
use Rattle.semantics.specs.Kinds as kinds
use Rattle.theorems.specs.Needs.{made, carried_in}
use Rattle.fused.specs.Fused.{Both, when, told, counting, step, same, left, tail_of, name_use, head_of}
use Rattle.fused.specs.Fused as fused
use Rattle.rows.specs.Rows.{shown}
use Rattle.rows.specs.Table.{row_in}
use Rattle.visible.specs.Visible.{answer}
use Rattle.visible.specs.declared.Newest.{Newest}
use Rattle.visible.proofs.Names.{hit_of, looked-up}
use Rattle.visible.specs.Stack.{entries}
use Rattle.visible.proofs.Pairs.{same_pair}
use Rattle.steps.specs.Types.{type_number, type_at}
use Rattle.steps.specs.Modes.{mode_of, setting_of, minds_none, quiet}
use Rattle.steps.specs.Memory.{is_the, hushed_in, world_at, names_in}
use Rattle.steps.specs.Said.{kept, Says}
use Rattle.steps.specs.Hold.{Fits, Holds, Frame, Still, Steps, SaysIf, AtRow, act_of, acts, opens_in, ClosedIf, Closed, cost_in, cost_of, on_names, on_kinds, logged, var_record, name_record}
use Rattle.steps.specs.declared.Walk.{Walk}
use Rattle.steps.specs.declared.context.Context.{Context}
use Rattle.steps.specs.declared.log.Log.{Log}
use Rattle.steps.specs.declared.mode.Mode.{Mode}
use Rattle.steps.specs.declared.mode.Setting.{Setting}
use Rattle.steps.specs.declared.mode.Setting.TheVariants.{General, Arithmetic, Property, Boolean, Indexed, Sliced, Iterated, Quantified}
use Rattle.steps.specs.declared.head.Act.{Act}
use Rattle.steps.specs.declared.head.Act.TheVariants.{Shows, Uses, Names, Opens}
use Rattle.steps.specs.Named.{as_named}
use Rattle.steps.proofs.Named.{lookup-index}
use Rattle.steps.proofs.Held.{still-idle, idle-step, then-steps, more-costs, more-steps, instead, as-steps, wanted, unwanted, no-count, says-step, says_if}
use Rattle.steps.proofs.Moved.{left-still, left-fits, left-frame, left-holds}

-- ---- steps of one walk alone
module _ {j : ℕ} {c : Context} {w : Walk} where
  pub idle-as : (F : (ℕ → ℕ) → Both → Both) → ((id : ℕ → ℕ) (s : Both) → s ≡ F id s) → Steps j c w w F
  idle-as F q = as-steps F (idle-step (λ id s. s) (λ id s h. h)) q

  pub none_told : {fs : List Finding} → fs ≡ [] → Steps j c w w (λ id. on_kinds fs)
  unfolding told
  none_told e = idle-as _ (λ id s. rw e)

-- a mode in which one of the two looks, or does not
module _ {j : ℕ} {c : Context} {w w' : Walk} (m : Mode) where
  pub checked-step : (fs : List Finding) → m.checks ≡ true → Steps j c w w' (λ id. on_kinds fs) → Steps j c w w' (λ id. step (mode_of m) same fs)
  checked-step fs e x = as-steps _ x (λ id s. go s m.resolves m.checks e)
    where
      go : (s : Both) (b d : Bool) → d ≡ true → on_kinds fs s ≡ step (record { resolves = b; checks = d }) same fs s
      go s true true e = refl
      go s false true e = refl
      go s b false e = cc

  pub resolved_step : (F : (ℕ → ℕ) → State → State) → m.resolves ≡ true → Steps j c w w' (λ id. on_names (F id)) → Steps j c w w' (λ id. step (mode_of m) (F id) [])
  unfolding told
  resolved_step F e x = as-steps _ x (λ id s. go (F id) s m.resolves m.checks e)
    where
      go : (f : State → State) (s : Both) (b d : Bool) → b ≡ true → on_names f s ≡ step (record { resolves = b; checks = d }) f [] s
      go f s true true e = refl
      go f s true false e = refl
      go f s false d e = cc

module _ {j : ℕ} {c : Context} {w : Walk} (m : Mode) where
  pub unchecked-step : (fs : List Finding) → m.checks ≡ false → Steps j c w w (λ id. step (mode_of m) same fs)
  unchecked-step fs e = idle-as _ (λ id s. go s m.resolves m.checks e)
    where
      go : (s : Both) (b d : Bool) → d ≡ false → s ≡ step (record { resolves = b; checks = d }) same fs s
      go s true false e = refl
      go s false false e = refl
      go s b true e = cc

  pub unresolved-step : (F : (ℕ → ℕ) → State → State) → m.resolves ≡ false → Steps j c w w (λ id. step (mode_of m) (F id) [])
  unfolding told
  unresolved-step F e = idle-as _ (λ id s. go (F id) s m.resolves m.checks e)
    where
      go : (f : State → State) (s : Both) (b d : Bool) → b ≡ false → s ≡ step (record { resolves = b; checks = d }) f [] s
      go f s false true e = refl
      go f s false false e = refl
      go f s true d e = cc

-- ---- a use of a variable
pub var-said : {c : Context} {w w' : Walk} (m : Mode) (v k : ℕ) → m.resolves ≡ true → SaysIf c.wants (4 ∷ v ∷ k ∷ 0 ∷ 0 ∷ 0 ∷ []) w w' → Steps 1 c w w' (λ id. on_names (var_record (mode_of m) v k))
var-said m v k r p = as-steps _ (more-costs (omega arith) (omega arith) (omega arith) (says_if p (λ id l. refl) (λ id l. refl) (λ id. no-count (λ n. refl) (λ n. refl)))) (λ id s. rw r)

-- the walk that holds s holds t too: it differs in events that are not kept
record Unmoved (wants : Bool) (s t : State) : Type 0 where
  visible : s.visible ≡ t.visible
  cur : s.cur ≡ t.cur
  last : s.last ≡ t.last
  log : kept wants s.log ≡ kept wants t.log
  made : made s.log ≡ made t.log
  taken : carried_in s.log ≡ carried_in t.log

still-holds : {id : ℕ → ℕ} {c : Context} {w : Walk} {s : Both} {t : State} {fs : List Finding} → Holds id c w s → Unmoved c.wants s.names t → s.kinds ≡ fs → Holds id c w (record { names = t; kinds = fs; olds = s.olds })
still-holds h u e =
    record {
      visible = h.visible ∙ u.visible;
      cur = h.cur ∙ u.cur;
      last = h.last ∙ u.last;
      log = h.log ∙ u.log;
      kinds = h.kinds ∙ e;
      olds = h.olds;
      counts = record { made = h.counts.made ∙ u.made; taken = h.counts.taken ∙ u.taken };
      uses = h.uses;
    }

use-unmoved : (W : World) (v : ℕ) (wants resolves : Bool) (o : Option Row) (s : State) → wants && resolves ≡ false → Unmoved wants s (when resolves (use_var W v o) s)
unfolding use_var kept made carried_in
use-unmoved W v wants false o s e = record { visible = refl; cur = refl; last = refl; log = refl; made = refl; taken = refl }
use-unmoved W v wants true None s e = record { visible = refl; cur = refl; last = refl; log = refl; made = refl; taken = refl }
use-unmoved W v true true (Some (row i x k a b)) s e = let z : ◌≡◌ {A = ℕ} 0 1 = cc e in absurd (omega arith)
use-unmoved W v false true (Some (row i x k a b)) s e = record { visible = refl; cur = refl; last = refl; log = refl; made = refl; taken = refl }

row-quiet : (set : Setting) (o : Option Row) → minds_none set ≡ true → at_row (setting_of set) o ≡ []
unfolding at_row
row-quiet set None e = refl
row-quiet General (Some (row i x k a b)) e = refl
row-quiet Arithmetic (Some (row i x k a b)) e = cc
row-quiet Property (Some (row i x k a b)) e = cc
row-quiet Boolean (Some (row i x k a b)) e = refl
row-quiet Indexed (Some (row i x k a b)) e = cc
row-quiet Sliced (Some (row i x k a b)) e = cc
row-quiet Iterated (Some (row i x k a b)) e = cc
row-quiet Quantified (Some (row i x k a b)) e = cc

use-untold : (checks : Bool) (set : Setting) (o : Option Row) (fs : List Finding) → (checks ≡ true → minds_none set ≡ true) → fs ≡ when checks (told (at_row (setting_of set) o)) fs
unfolding told
use-untold true set o fs p = rw (row-quiet set o (p refl))
use-untold false set o fs p = refl

quiet-parts : (a c g : Bool) → cond a false (cond c g true) ≡ true → (a ≡ false) × (c ≡ true → g ≡ true)
quiet-parts true c g e = (cc e, λ q. cc e)
quiet-parts false true g e = (refl, λ q. e)
quiet-parts false false g e = (refl, λ q. cc q)

-- a variable with the row o, if it has one
abbrev pub UsesAs : Context → Mode → Setting → (v : ℕ) → Option Row → (ℕ → ℕ) → Both → Both
UsesAs c m set v o id = step (mode_of m) (use_var (world_at c id) v o) (at_row (setting_of set) o)

module _ {c : Context} {w : Walk} (m : Mode) (set : Setting) (v : ℕ) (o : Option Row) where
  pub quiet-use : {j : ℕ} → quiet c.wants m set ≡ true → Steps j c w w (UsesAs c m set v o)
  quiet-use e =
      let q = quiet-parts (c.wants && m.resolves) m.checks (minds_none set) e in
      idle-step _ (λ id s h. still-holds h (use-unmoved (world_at c id) v c.wants m.resolves o s.names q.0) (use-untold m.checks set o s.kinds q.1))

  pub rowless-use : {j : ℕ} → shown o ≡ None → Steps j c w w (UsesAs c m set v o)
  unfolding use_var at_row told
  rowless-use e = rw (rowless o e) (idle-as _ (λ id s. go (world_at c id) s m.resolves m.checks))
    where
      rowless : (o : Option Row) → shown o ≡ None → o ≡ None
      rowless None e = refl
      rowless (Some (row i x k a b)) e = cc e

      go : (W : World) (s : Both) (b d : Bool) → s ≡ step (record { resolves = b; checks = d }) (use_var W v None) (at_row (setting_of set) None) s
      go W s true true = refl
      go W s true false = refl
      go W s false true = refl
      go W s false false = refl

module _ {c : Context} {w w1 : Walk} (m : Mode) (set : Setting) (v x k : ℕ) (o : Option Row) where
  pub checked-use : {w2 : Walk} → shown o ≡ Some (x, k) → m.checks ≡ true → Steps 1 c w w1 (λ id. on_names (var_record (mode_of m) v k)) → AtRow c w1 w2 set x k → Steps 2 c w w2 (UsesAs c m set v o)
  unfolding use_var
  checked-use {w2} e q s t = go o e
    where
      go : (o : Option Row) → shown o ≡ Some (x, k) → Steps 2 c w w2 (UsesAs c m set v o)
      go None e = let z : ◌≡◌ {A = ℕ} 0 1 = cc e in absurd (omega arith)
      go (Some (row i y l a b)) e =
          let p = same_pair e in
          rw (p.0, p.1) (as-steps (UsesAs c m set v (Some (row i x k a b))) (then-steps s (t i a b)) (λ id s. rw q))

  pub unchecked-use : shown o ≡ Some (x, k) → m.checks ≡ false → Steps 1 c w w1 (λ id. on_names (var_record (mode_of m) v k)) → Steps 2 c w w1 (UsesAs c m set v o)
  unfolding use_var
  unchecked-use e q s = go o e
    where
      go : (o : Option Row) → shown o ≡ Some (x, k) → Steps 2 c w w1 (UsesAs c m set v o)
      go None e = let z : ◌≡◌ {A = ℕ} 0 1 = cc e in absurd (omega arith)
      go (Some (row i y l a b)) e =
          let p = same_pair e in
          rw p.1 (as-steps (UsesAs c m set v (Some (row i y k a b))) (more-steps (omega arith) s) (λ id s. rw q))

-- ---- a use of a name
name-unmoved : {wants : Bool} → wants ≡ false → (W : World) (x : ℕ) (o : Option Hit) (s : State) → Unmoved wants s (name_record W x o s)
unfolding made carried_in
name-unmoved e W x None s = record { visible = refl; cur = refl; last = refl; log = sym (unwanted _ e (λ l. refl) s.log); made = refl; taken = refl }
name-unmoved e W x (Some (hit v u)) s = record { visible = refl; cur = refl; last = refl; log = sym (unwanted _ e (λ l. refl) s.log); made = refl; taken = refl }

-- what is recorded of a name, by what is visible
abbrev RecordsAs : Context → ℕ → (ℕ → ℕ) → Both → Both
RecordsAs c x id = on_names (λ y. name_record (world_at c id) x (lookup (indexed x) y.visible) y)

module _ {c : Context} {w : Walk} (x : ℕ) where
  pub unwanted-name : {j : ℕ} → c.wants ≡ false → Steps j c w w (RecordsAs c x)
  unwanted-name e = idle-step _ (λ id s h. still-holds h (name-unmoved e (world_at c id) x (lookup (indexed x) s.names.visible) s.names) refl)

  -- by what `find` tells
  module _ {i j k : ℕ} (at : x < names_in c) (f : Fits i j k c w) (p : ℕ) (e : c.wants ≡ true) where
    seen-at : (t : State) → as_named w.rowless (entries w.visible) ≡ t.visible → lookup (indexed x) t.visible ≡ lookup (indexed x) (entries w.visible)
    seen-at t h = ap (λ l. lookup (indexed x) l) (sym h) ∙ lookup-index f.numbered x (entries w.visible) (omega (arith, f.listed)) f.below

    pub missing-name : {l : Log} → answer (lookup (indexed x) (entries w.visible)) p ≡ None → Says (5 ∷ x ∷ 0 ∷ 0 ∷ 0 ∷ 0 ∷ []) w.log l → Steps 1 c w (logged w l) (RecordsAs c x)
    missing-name q s =
        instead _ (says-step s (λ id l. wanted _ e (λ r. refl) l) (λ id. no-count (λ n. refl) (λ n. refl)))
        (λ id t h. let z : lookup (indexed x) t.names.visible ≡ None = seen-at t.names h.visible ∙ sym (looked-up (lookup (indexed x) (entries w.visible)) p) ∙ ap hit_of q in rw z)

    pub found_name : {l : Log} (n : Newest) (k : ℕ) → answer (lookup (indexed x) (entries w.visible)) p ≡ Some n → k ≡ row_kind (row_in c.rows n.variable) → Says (5 ∷ x ∷ 1 ∷ n.variable ∷ k ∷ n.via ∷ []) w.log l → Steps 1 c w (logged w l) (RecordsAs c x)
    unfolding kind_of
    found_name n k q r s =
        instead _ (says-step s (λ id l. wanted _ e (λ r. refl) l) (λ id. no-count (λ n. refl) (λ n. refl)))
        (λ id t h. let z : lookup (indexed x) t.names.visible ≡ Some (hit n.variable n.via) = seen-at t.names h.visible ∙ sym (looked-up (lookup (indexed x) (entries w.visible)) p) ∙ ap hit_of q in rw (z, r))

-- of a name that is no use nothing is said
pub hushed-use : {j : ℕ} {c : Context} {w : Walk} (x : ℕ) → hushed_in c x ≡ true → Steps j c w w (λ id. on_names (name_use (world_at c id) x))
unfolding visit
hushed-use x e = idle-step _ (λ id s k. rw e k)

-- E1001, where the name is not visible after that and is not `*`
record-visible : (W : World) (x : ℕ) (o : Option Hit) (s : State) → (name_record W x o s).visible ≡ s.visible
record-visible W x None s = refl
record-visible W x (Some (hit v u)) s = refl

module _ {c : Context} {w w1 : Walk} {i j k : ℕ} (x : ℕ) (at : x < names_in c) (f : Fits i j k c w1) (u : hushed_in c x ≡ false) (s : Steps 1 c w w1 (RecordsAs c x)) where
  sought : (id : ℕ → ℕ) (b : Both) → Holds id c w b → lookup (indexed x) b.names.visible ≡ lookup (indexed x) (entries w1.visible)
  sought id b h =
      ap (λ l. lookup (indexed x) l) (sym ((s.goes id b h).visible ∙ record-visible (world_at c id) x (lookup (indexed x) b.names.visible) b.names))
      ∙ lookup-index f.numbered x (entries w1.visible) (omega (arith, f.listed)) f.below

  use-as : (id : ℕ → ℕ) (b : Both) → on_names (λ y. use_name (world_at c id) x (lookup (indexed x) y.visible) y) b ≡ on_names (name_use (world_at c id) x) b
  unfolding visit
  use-as id b = rw u

  pub missed-use : {w2 : Walk} → lookup (indexed x) (entries w1.visible) ≡ None → is_the x c.star ≡ false → Steps 1 c w1 w2 (λ id. on_names (say (find (finding 1001 0 0 (Some (indexed x)) 0 0)))) → Steps 2 c w w2 (λ id. on_names (name_use (world_at c id) x))
  unfolding use_name say_if
  missed-use z e y = instead _ (then-steps s y) (λ id b h. (let q : lookup (indexed x) b.names.visible ≡ None = sought id b h ∙ z in rw (q, e)) ∙ use-as id b)

  pub star-use : lookup (indexed x) (entries w1.visible) ≡ None → is_the x c.star ≡ true → Steps 2 c w w1 (λ id. on_names (name_use (world_at c id) x))
  unfolding use_name say_if
  star-use z e = instead _ (more-steps (omega arith) s) (λ id b h. (let q : lookup (indexed x) b.names.visible ≡ None = sought id b h ∙ z in rw (q, e)) ∙ use-as id b)

  pub seen-use : (lookup (indexed x) (entries w1.visible) ≡ None → ⊥) → Steps 2 c w w1 (λ id. on_names (name_use (world_at c id) x))
  unfolding use_name
  seen-use e = instead _ (more-steps (omega arith) s) (λ id b h. go id b (lookup (indexed x) b.names.visible) (λ q. e (sym (sought id b h) ∙ q)) ∙ use-as id b)
    where
      go : (id : ℕ → ℕ) (b : Both) (o : Option Hit) → (o ≡ None → ⊥) → on_names (λ y. name_record (world_at c id) x o y) b ≡ on_names (λ y. use_name (world_at c id) x o y) b
      go id b None n = absurd (n refl)
      go id b (Some (hit v u)) n = refl

-- ---- a head by its act
-- a type's number and its type
leaf-numbered : (k : ℕ) → type_number (type_at (get_or leaf_types k no_type)) ≡ get_or leaf_types k no_type
leaf-numbered zero = refl
leaf-numbered (suc zero) = refl
leaf-numbered (suc (suc zero)) = refl
leaf-numbered (suc (suc (suc zero))) = refl
leaf-numbered (suc (suc (suc (suc zero)))) = refl
leaf-numbered (suc (suc (suc (suc (suc zero))))) = refl
leaf-numbered (suc (suc (suc (suc (suc (suc k)))))) = refl

map-numbered : (b : Bool) → type_number (type_at (cond b map_type no_type)) ≡ cond b map_type no_type
map-numbered true = refl
map-numbered false = refl

shows : (W : World) (m : fused.Mode) (d : kinds.Setting) {t : ℕ} (s : Both) → type_number (type_at t) ≡ t → acts W m d (Shows (type_at t)) s ≡ step m same (at_type d t) s
shows W m d s e = rw e

-- nothing is counted
pub none-counted : (s : Both) → counting 0 s ≡ s
none-counted s = rw (add-zero s.olds)

head-acts : (W : World) (m : fused.Mode) (d : kinds.Setting) (f : Form) (s : Both) → old_in f ≡ 0 → acts W m d (act_of f) s ≡ head_of W m f d s
unfolding type_of
head-acts W m d (Leaf k) s e = rw e (shows W m d s (leaf-numbered k) ∙ sym (none-counted (step m same (at_type d (get_or leaf_types k no_type)) s)))
head-acts W m d (Var v) s e = refl
head-acts W m d (Unresolved x) s e = refl
head-acts W m d (Prop x) s e = refl
head-acts W m d (Two k) s e = refl
head-acts W m d (Slice b) s e = refl
head-acts W m d (Many k n) s e = shows W m d s (map-numbered (eqb k 13))
head-acts W m d (BinOp o) s e = refl
head-acts W m d (UnaryOp o) s e = refl
head-acts W m d (Case b n) s e = refl
head-acts W m d IsNull s e = refl
head-acts W m d PatternPredicate s e = refl
head-acts W m d (ListComprehension g) s e = refl
head-acts W m d (PatternComprehension a b g) s e = refl
head-acts W m d (ListPredicate g) s e = refl
head-acts W m d (MapProjection n) s e = refl

pub by-act : {c : Context} {w w' : Walk} (f : Form) {a : Act} → old_in f ≡ 0 → act_of f ≡ a → (m : Mode) (set : Setting) → Steps (cost_in a) c w w' (λ id. acts (world_at c id) (mode_of m) (setting_of set) a) →
    Steps (cost_of f) c w w' (λ id. head_of (world_at c id) (mode_of m) f (setting_of set))
by-act {c} {w} {w'} f o e m set s =
    as-steps _
    (subst (λ (b : Act). Steps (cost_in b) c w w' (λ id. acts (world_at c id) (mode_of m) (setting_of set) b)) (sym e) s)
    (λ id b. head-acts (world_at c id) (mode_of m) (setting_of set) f b o)

-- a head is paid for
some_act : (a : Act) → 1 ≤ cost_in a
some_act (Shows t) = omega arith
some_act (Uses v) = omega arith
some_act (Names x) = omega arith
some_act (Opens a b) = omega arith

pub some_cost : (f : Form) → 1 ≤ cost_of f
some_cost f = some_act (act_of f)

-- After a head's parts, from w where the head was read, to n: the walk n' that `finish` leaves fits, frames and holds what it did, and holds
-- what the definition has after the parts.
tail-as : (m : fused.Mode) (f : Form) (s u : Both) → tail_of m f s u ≡ when (opens_in (act_of f) && m.resolves) (on_names (leave s.names)) u
tail-as m (Leaf k) s u = refl
tail-as m (Var v) s u = refl
tail-as m (Unresolved x) s u = refl
tail-as m (Prop x) s u = refl
tail-as m (Two k) s u = refl
tail-as m (Slice b) s u = refl
tail-as m (Many k n) s u = refl
tail-as m (BinOp o) s u = refl
tail-as m (UnaryOp o) s u = refl
tail-as m (Case b n) s u = refl
tail-as m IsNull s u = refl
tail-as m PatternPredicate s u = refl
tail-as m (ListComprehension g) s u = refl
tail-as m (PatternComprehension a b g) s u = go m.resolves
  where
    go : (b : Bool) → left (record { resolves = b; checks = m.checks }) s u ≡ when b (on_names (leave s.names)) u
    go true = refl
    go false = refl
tail-as m (ListPredicate g) s u = refl
tail-as m (MapProjection n) s u = refl

-- at the same word, with what was lent
pub record Stays (n n' : Walk) : Type 0 where
  pub at : n'.at ≡ n.at
  pub still : Still n n'

module _ {room e t u i k l : ℕ} {c : Context} {w n n' : Walk} (m : fused.Mode) (f : Form) (a : Fits e t u c w) (g : Fits i k l c n) (y : Still w n) (r : Frame room w n) (p : Closed n n' w.visible.top w.cur m f) where
  pub closed-stays : Stays n n'
  closed-stays = go (opens_in (act_of f) && m.resolves) p
    where
      go : (b : Bool) → ClosedIf b n n' w.visible.top w.cur → Stays n n'
      go true p = record { at = ap (λ (v : Walk). v.at) p.same; still = left-still a g y r p }
      go false p = rw p (record { at = refl; still = still-idle })

  pub closed-fits : Fits i k l c n'
  closed-fits = go (opens_in (act_of f) && m.resolves) p
    where
      go : (b : Bool) → ClosedIf b n n' w.visible.top w.cur → Fits i k l c n'
      go true p = left-fits a g y r p
      go false p = rw p g

  pub closed-frame : Frame room w n'
  closed-frame = go (opens_in (act_of f) && m.resolves) p
    where
      go : (b : Bool) → ClosedIf b n n' w.visible.top w.cur → Frame room w n'
      go true p = left-frame a g y r p
      go false p = rw p r

  pub closed-holds : {id : ℕ → ℕ} {s u : Both} → Holds id c w s → Holds id c n u → Holds id c n' (tail_of m f s u)
  closed-holds {id} {s} {u} h j = rw (tail-as m f s u) (go (opens_in (act_of f) && m.resolves) p)
    where
      go : (b : Bool) → ClosedIf b n n' w.visible.top w.cur → Holds id c n' (when b (on_names (leave s.names)) u)
      go true p = left-holds a g y r p h j
      go false p = rw p j
