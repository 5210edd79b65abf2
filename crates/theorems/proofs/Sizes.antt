-- Both walks together say at most as much as there are words, save what WITHs carry and bind: a word or more pays for each other event of the
-- log and for each finding of the kinds walk, and sort keys pay by their own. `few-E`, `few-Es`, `few-S` say it of trees (the two walks may
-- have Worlds of their own); `few-C` of one clause, from any state, so that what one clause writes has room in its words; `few-Cs` of
-- clauses, `few-As` of arms (which get no kind check), `few` of a statement, `few_words` of an accepted sheet, and `fits` of three lists.
use Rattle.std.specs.Prelude.{Option, None, Some}
use Prim.Native.Nat.{ℕ, suc, ◌+◌, ◌-◌, ◌≤◌}
use native.Mathlib.Omega.{arith}
use mathlib.Core.Path.{◌≡◌, refl, ap}
use mathlib.Core.Bool.{Bool, true, false, cond, not, ◌&&◌}
use mathlib.Core.List.{List, [], ◌∷◌, ◌++◌, flat_map}
use lib.Dec.{eqb, leb}
use lib.ListN.{length, length-append, length-reverse, length-take, length-drop}
use Rattle.words.specs.Words.{words}
use Rattle.heads.specs.Form.{form_words}
use Rattle.expr.specs.Tree.{Expr, var, unresolved, node, predicate, comprehension, Exprs, done, more, mark, Steps, end, part, elem}
use Rattle.expr.specs.Write.{maybe_words, write_e, writes, write_s}
use Rattle.expr.proofs.Least.{form-word}
use Rattle.clauses.specs.Tree.{Projection, projection, Yield, yield, Keys, unsorted, sorted, Clause, opening, reading, with', return, unwind, call, Arm, arm, exprs, keys_of}
use Rattle.clauses.specs.Write.{write_projection, write_yield, counted_words, write_keys, write_clause, write_arm}
use Rattle.tables.specs.Row.{value_kind, path_kind, Row, row}
use Rattle.sheet.specs.Trailer.{places_of, section}
use Rattle.sheet.specs.Statement.{Statement}
use Rattle.sheet.specs.Read.{accepted, read_sheet}
use Rattle.sheet.proofs.Accepted.{accepted-words}
use Rattle.scope.specs.Graph.{comprehension_scope, return_scope, with_barrier, call_scope, unwind_scope, root_scope, scope, carried, Name, indexed}
use Rattle.semantics.specs.Log.{e1001, e1002, finding, found, missing, bound, Write, write, Event, open', bind, carry, answer, find, scopes_in, binds_in, carries_in, answers_in, finds_in, logs}
use Rattle.semantics.specs.World.{World, hush, variable, opens, yield_name, name_of, kind_of, world_of}
use Rattle.semantics.specs.Resolve.{Hit, hit, Pair, pair, State, lookup, binds, say, say_if, enter, bind_name, bind_over, leave, standing, use_var, use_name, visit, bind_anew, bind_new, bind_path, bind_elem, resolve, resolves, bind_pattern, carried_by, carry_all, bind_all, barrier, fresh, yields, aliases, sort_by, clause, clauses, arms, start, run, log}
use Rattle.semantics.specs.Kinds.{pattern_type, string_type, int_type, no_type, Setting, general, arithmetic, property, boolean, listed, both, plain, type_of, settings, at_type, at_row, misplaced, row_for, kinds_e, kinds_es, kinds_s, kinds_c, kinds}
use Rattle.semantics.specs.Kinds as Walk
use Rattle.semantics.specs.Lists.{note, notes, lists}
use Rattle.theorems.specs.Woven.{written}
use Rattle.theorems.specs.Fits.{ClauseFits, Fits}
use Rattle.theorems.proofs.Woven.{written-reverse, scopes-written, answers-written, finds-written}

-- One step of a walk: what it says against its own words.
cond-few : {A : Type 0} (b : Bool) (l m : List A) → length l ≤ 1 → length m ≤ 1 → length (cond b l m) ≤ 1
cond-few true l m p q = p
cond-few false l m p q = q

type-few : (c : Setting) (t : ℕ) → length (at_type c t) ≤ 1
unfolding at_type
type-few general t = omega arith
type-few arithmetic t = omega arith
type-few property t = omega arith
type-few boolean t = cond-few (leb int_type t && leb t string_type) _ _ (omega arith) (omega arith)
type-few (listed c o) t = cond-few (eqb t no_type) _ _ (omega arith) (omega arith)

row-few : (c : Setting) (r : Option Row) → length (at_row c r) ≤ 1
unfolding at_row
row-few c None = omega arith
row-few general (Some (row i x k a b)) = omega arith
row-few arithmetic (Some (row i x k a b)) = cond-few (eqb k value_kind) _ _ (omega arith) (omega arith)
row-few property (Some (row i x k a b)) = cond-few (eqb k path_kind) _ _ (omega arith) (omega arith)
row-few boolean (Some (row i x k a b)) = omega arith
row-few (listed d o) (Some (row i x k a b)) = cond-few (eqb k value_kind) _ _ (omega arith) (omega arith)

misplaced-few : (one want a b : ℕ) (r : Option Row) → length (misplaced one want a b r) ≤ 1
unfolding misplaced
misplaced-few one want a b None = omega arith
misplaced-few one want a b (Some (row i x k c d)) = cond-few (eqb k want) _ _ (omega arith) (omega arith)

-- how much was said, save what WITHs carry and bind
abbrev said : State → ℕ
said s = length (written s.log)

-- where nothing was said: what is not resolved has its kinds findings alone
abbrev nowhere : State
nowhere = record { visible = []; cur = 0; last = 0; log = [] }

nothing_said : said nowhere ≡ 0
unfolding written
nothing_said = refl

-- one event more, but for those
one_more : (e : Event) (l : List Event) → length (written (e ∷ l)) ≤ suc (length (written l))
unfolding written
one_more (open' s) l = omega arith
one_more (bind true g b) l = omega arith
one_more (bind false g b) l = omega arith
one_more (carry c) l = omega arith
one_more (answer a) l = omega arith
one_more (find f) l = omega arith

if-few : (b : Bool) (e : Event) (s : State) → said (say_if b e s) ≤ suc (said s)
unfolding say_if
if-few true e s = one_more e s.log
if-few false e s = omega arith

bind-few : (x : Name) (v k : ℕ) (s : State) → said (bind_name x v k s) ≤ suc (said s)
bind-few x v k s = one_more (bind false (binds s.cur x s.visible) (bound s.cur x v k)) s.log

enter-few : (k a b : ℕ) (s : State) → said (enter k a b s) ≤ suc (said s)
enter-few k a b s = one_more (open' (scope k (Some s.cur) a b)) s.log

module _ (w : World) where
  var-few : (v : ℕ) (r : Option Row) (s : State) → said (use_var w v r s) ≤ 1 + said s
  unfolding use_var
  var-few v None s = omega arith
  var-few v (Some (row i x k a b)) s = omega (arith, one_more (answer (write v (found v k 0))) s.log)

  name-few : (x : ℕ) (o : Option Hit) (s : State) → said (use_name w x o s) ≤ suc (suc (said s))
  unfolding use_name
  name-few x (Some (hit v u)) s = omega (arith, one_more (answer (write (w.id x) (found v (kind_of w v) u))) s.log)
  name-few x None s = omega (arith, one_more (answer (write (w.id x) missing)) s.log, if-few (not (w.is_star x)) (find (finding e1001 0 0 (Some (indexed x)) 0 0)) (say (answer (write (w.id x) missing)) s))

  -- a hushed name says nothing
  visit-few : (hushed : Bool) (x : ℕ) (o : Option Hit) (s : State) → said (visit w hushed x o s) ≤ suc (suc (said s))
  unfolding visit
  visit-few true x o s = omega arith
  visit-few false x o s = name-few x o s

  anew-few : (a b : ℕ) (x : Name) (v k : ℕ) (s : State) → said (bind_anew w a b x v k s) ≤ suc (suc (said s))
  unfolding bind_anew
  anew-few a b x v k s = omega (arith, bind-few x v k s, if-few (w.warns && binds s.cur x s.visible) (find (finding e1002 a b (Some x) 0 0)) (bind_name x v k s))

  path-few : (p : Option ℕ) (s : State) → said (bind_path w (variable p) s) ≤ length (maybe_words p) + said s
  unfolding bind_path variable maybe_words
  path-few (Some v) s = omega (arith, anew-few 0 0 (name_of w v) v path_kind s)
  path-few None s = omega arith

  new-few : (o : Option Hit) (x : Name) (v k : ℕ) (s : State) → said (bind_new w o x v k s) ≤ 1 + said s
  unfolding bind_new
  new-few None x v k s = omega (arith, bind-few x v k s)
  new-few (Some u) x v k s = omega arith

  elem-few : (k : ℕ) (p : Option ℕ) (s : State) → said (bind_elem w k (variable p) s) ≤ length (maybe_words p) + said s
  unfolding bind_elem variable maybe_words
  elem-few k (Some v) s = omega (arith, new-few (lookup (name_of w v) s.visible) (name_of w v) v k s)
  elem-few k None s = omega arith

key-few : (ks : Keys) → length (writes (keys_of ks)) ≤ length (write_keys ks)
unfolding keys_of write_keys writes
key-few unsorted = omega arith
key-few (sorted es) = omega arith

-- Trees, resolved in the World v, their kinds found in w: a RETURN's sort keys are resolved where its aliases are hushed.
module _ (v w : World) where
  mutual
    unfolding resolve kinds_e write_e form_words

    pub few-E : (t : Expr) (d : Setting) (s : State) → said (resolve v t s) + length (kinds_e w t d) ≤ length (write_e t) + said s
    few-E (var u) d s = omega (arith, var-few v u (v.row u) s, row-few d (w.row u))
    few-E (unresolved x) d s = omega (arith, visit-few v (v.hushed x) x (lookup (indexed x) s.visible) s)
    few-E (node f es) d s = simp length-append (omega (arith, form-word f, type-few d (type_of f), few-Es es (settings w.is_id f d) s))
    few-E (predicate p) d s = simp length-append (omega (arith, type-few d pattern_type, nothing_said, few-S p nowhere))
    few-E (comprehension a b p es) d s =
        simp length-append (omega (arith, enter-few comprehension_scope a b s, few-S p (enter comprehension_scope a b s), few-Es es plain (bind_pattern v p (enter comprehension_scope a b s))))

    pub few-Es : (t : Exprs) (p : Walk.Pair) (s : State) → said (resolves v t s) + length (kinds_es w t p) ≤ length (writes t) + said s
    few-Es done p s = omega arith
    few-Es (more e es) (both d g) s = simp length-append (omega (arith, few-E e d s, few-Es es (both g g) (resolve v e s)))
    few-Es (mark m es) p s = omega (arith, few-Es es p s)

    pub few-S : (t : Steps) (s : State) → said (bind_pattern v t s) + length (kinds_s w t) ≤ length (write_s t) + said s
    few-S end s = omega arith
    few-S (part p r) s =
        simp length-append (omega (arith, path-few v p s, misplaced-few 1 path_kind 0 0 (row_for w p), few-S r (bind_path v (variable p) s)))
    few-S (elem k a b p es r) s =
        let t = bind_elem v k (variable p) s in
        simp length-append
        (omega (arith, elem-few v k p s, misplaced-few (suc k) k a b (row_for w p), few-Es es plain t, few-S r (resolves v es t)))

module _ (w : World) where
  -- Projections with the expressions after them.
  exprs-few : (ps : List Projection) (f : Exprs) (s : State)
      → said (resolves w (exprs ps f) s) + length (kinds_es w (exprs ps f) plain) ≤ length (flat_map write_projection ps) + length (writes f) + said s
  unfolding exprs write_projection flat_map resolve kinds_e
  exprs-few [] f s = omega (arith, few-Es w w f plain s)
  exprs-few (projection a e ∷ ps) f s = simp length-append (omega (arith, few-E w w e general s, exprs-few ps f (resolve w e s)))

  -- What a WITH carries and binds is not counted.
  carry-all : (ps : List Pair) (s : State) → said (carry_all w ps s) ≡ said s
  unfolding carry_all written
  carry-all [] s = refl
  carry-all (pair x v ∷ ps) s = carry-all ps (say (carry (carried s.cur x v)) s)

  bind_all_lem : (ps : List Pair) (s : State) → said (bind_all w ps s) ≡ said s
  unfolding bind_all written
  bind_all_lem [] s = refl
  bind_all_lem (pair x v ∷ ps) s = bind_all_lem ps (bind_over true x v (kind_of w v) s)

  yields-few : (a b : ℕ) (ys : List Yield) (s : State) → said (yields w a b ys s) ≤ length (flat_map write_yield ys) + said s
  unfolding yields write_yield flat_map
  yields-few a b [] s = omega arith
  yields-few a b (yield x y v ∷ ys) s = omega (arith, anew-few w a b (indexed (yield_name x y)) v value_kind s, yields-few a b ys (bind_anew w a b (indexed (yield_name x y)) v value_kind s))

  -- Clauses.
  pub few-C : (t : Clause) (s : State) → ClauseFits w t s
  unfolding clause sort_by kinds_c write_clause counted_words barrier fresh writes
  few-C (opening o a b p) s = simp length-append (omega (arith, enter-few (opens o) a b s, few-S w w p (enter (opens o) a b s)))
  few-C (reading r a b es) s = simp length-append (omega (arith, few-Es w w es plain s))
  few-C (with' a b ps f ks) s =
      let cs = carried_by w ps s.visible in
      let t = resolves w (exprs ps f) s in
      let u = barrier w a b cs t in
      let v = fresh w b cs u in
      simp length-append
      (omega (
        arith,
        exprs-few ps f s,
        enter-few with_barrier a b t,
        carry-all cs (enter with_barrier a b t),
        enter-few root_scope b b (standing [] u.cur u),
        bind_all_lem cs (enter root_scope b b (standing [] u.cur u)),
        few-Es w w (keys_of ks) plain (standing (v.visible ++ s.visible) v.cur v),
        key-few ks,
      ))
  few-C (return a b ps ks) s =
      let t = leave s (enter return_scope a b s) in
      simp length-append
      (omega (
        arith,
        enter-few return_scope a b s,
        exprs-few ps done t,
        few-Es (hush (aliases ps) w) w (keys_of ks) plain (resolves w (exprs ps done) t),
        key-few ks,
      ))
  few-C (unwind a b v e) s = omega (arith, enter-few unwind_scope a b s, bind-few (name_of w v) v value_kind (enter unwind_scope a b s), nothing_said, few-E w w e general nowhere)
  few-C (call a b es ys) s = simp length-append (omega (arith, enter-few call_scope a b s, yields-few a b ys (enter call_scope a b s), nothing_said, few-Es w w es plain nowhere))

  pub few-Cs : (ts : List Clause) (s : State) → said (clauses w ts s) + length (kinds w ts) ≤ length (flat_map write_clause ts) + said s
  unfolding clauses kinds flat_map
  few-Cs [] s = omega arith
  few-Cs (t ∷ ts) s = simp length-append (omega (arith, few-C t s, few-Cs ts (clause w t s)))

  pub few-As : (ts : List Arm) (s : State) → said (arms w ts s) ≤ length (flat_map write_arm ts) + said s
  unfolding arms write_arm counted_words flat_map
  few-As [] s = omega arith
  few-As (arm a b cs ∷ ts) s = simp length-append (omega (arith, few-Cs cs (standing [] 0 s), few-As ts (clauses w cs (standing [] 0 s))))

-- The whole: one event more than the words of the head and the arms, for scope 0.
pub few : (warns : Bool) (st : Statement) →
    length (written (log warns st)) + length (kinds (world_of warns st) st.head) ≤ 1 + (length (flat_map write_clause st.head) + length (flat_map write_arm st.arms))
unfolding log run start
few warns st =
    let w = world_of warns st in
    let l = (run warns st).log in
    omega (
      arith,
      ap length (written-reverse l),
      length-reverse (written l),
      one_more (open' (scope root_scope None st.start st.stop)) [],
      nothing_said,
      few-Cs w st.head (start st),
      few-As w st.arms (clauses w st.head (start st)),
    )

-- Each event of a log is an entry of one of its five views, and their lists make no more of it.
views : (l : List Event) →
    length (scopes_in l) + length (binds_in l) + length (carries_in l) + length (answers_in l) + length (finds_in l) ≡ length l
unfolding logs
views [] = omega arith
views (open' s ∷ l) = omega (arith, views l)
views (bind o g b ∷ l) = omega (arith, views l)
views (carry c ∷ l) = omega (arith, views l)
views (answer a ∷ l) = omega (arith, views l)
views (find f ∷ l) = omega (arith, views l)

note-few : (x : Write) (ws : List Write) → length (note x ws) ≤ suc (length ws)
unfolding note
note-few (write i a) [] = omega arith
note-few (write i a) (write j b ∷ ws) = go (eqb i j) (note-few (write i a) ws)
  where
    go : (c : Bool) → length (note (write i a) ws) ≤ suc (length ws) →
        length (cond c (write i a ∷ ws) (write j b ∷ note (write i a) ws)) ≤ suc (suc (length ws))
    go true h = omega arith
    go false h = omega arith

notes-few : (xs ws : List Write) → length (notes xs ws) ≤ length xs + length ws
unfolding notes
notes-few [] ws = omega arith
notes-few (x ∷ xs) ws = omega (arith, notes-few xs (note x ws), note-few x ws)

-- The head and the arms stand one after the other, before the trailer.
sections-fit : (ws : List ℕ) (a b c : ℕ) → b ≤ c → c ≤ length ws - 10 → length (section ws a b) + length (section ws b c) ≤ length ws - 10
sections-fit ws a b c p q = simp (length-drop, length-take) (omega arith)

-- An accepted sheet: both walks say no more than it has words. The trailer pays for scope 0.
pub few_words : (warns : Bool) (s : List ℕ) (st : Statement) → read_sheet s ≡ accepted st →
    length (written (log warns st)) + length (kinds (world_of warns st) st.head) ≤ length (words s)
unfolding places_of
few_words warns s st e =
    let h = accepted-words s st e in
    let p = places_of (words s) in
    omega (
      arith,
      few warns st,
      ap length h.1.head_words,
      ap length h.1.arm_words,
      sections-fit (words s) p.head p.tail p.trailer (omega arith) (omega arith),
    )

-- So each of the lists has at most as many entries.
pub fits : (warns : Bool) (s : List ℕ) (st : Statement) → read_sheet s ≡ accepted st → Fits warns st (length (words s))
unfolding lists
fits warns s st e =
    let l = log warns st in
    let h = few_words warns s st e in
    let v = rw (scopes-written l, answers-written l, finds-written l) at (views (written l)) in
    record {
      written = h;
      scopes = omega arith;
      recorded = omega (arith, notes-few (answers_in l) []);
      findings = simp length-append (omega arith);
    }
