-- The resolve walk's findings are pushes that there are: E1001 at an Unresolved, whose name is within the table; E1002 at a path, whose name may be
-- generated, and at a yield. All else that the walk says is no finding, whichever names are hushed.
use Rattle.std.specs.Prelude.{Option, None, Some}
use Prim.Native.Nat.{ℕ, ◌-◌, ◌<◌}
use mathlib.Core.Path.{◌≡◌, refl}
use mathlib.Core.Bool.{Bool, true, false, not, ◌&&◌}
use mathlib.Core.List.{List, [], ◌∷◌, reverse_aux}
use lib.ListN.{length}
use borrow.Author.Tests.{not-true}
use Rattle.scope.specs.Graph.{comprehension_scope, return_scope, call_scope, Name, indexed}
use Rattle.heads.specs.Answer.{is_in}
use Rattle.expr.specs.Tree.{Expr, var, unresolved, node, predicate, comprehension, Exprs, done, more, mark, Steps, end, part, elem}
use Rattle.expr.specs.Well.{WellE, Wells, WellS, WellPattern}
use Rattle.clauses.specs.Tree.{Yield, yield, Clause, opening, reading, with', return, unwind, call, Arm, arm, exprs, keys_of}
use Rattle.clauses.specs.Read.{max_depth}
use Rattle.clauses.specs.Well.{Each, WellAlias, WellYield, WellMany, WellClause, WellArm}
use Rattle.tables.specs.Row.{path_kind, value_kind, Row, row}
use Rattle.sheet.specs.Statement.{Statement}
use Rattle.sheet.specs.Write.{WellRow, WellStatement}
use Rattle.semantics.specs.Log.{Finding, Event, open', bind, carry, answer, find, finds_in, logs}
use Rattle.semantics.specs.World as Walk
use Rattle.semantics.specs.World.{World, row_of, row_name, variable, opens, star_name, name_of, bytes_of, yield_name, world_of}
use Rattle.semantics.specs.Resolve.{Hit, hit, Pair, pair, State, lookup, binds, say_if, enter, bind_over, bind_name, leave, standing, use_var, use_name, visit, bind_anew, bind_new, bind_path, bind_elem, resolve, resolves, bind_pattern, carried_by, carry_all, bind_all, barrier, fresh, yields, aliases, sort_by, clause, clauses, arms, start, run, log}
use Rattle.told.specs.Pushed as pushed
use Rattle.told.specs.Pushed.{IsName, Pushed}
use Rattle.told.proofs.Trees.{kind_of, reading-well, done-well, row-well, keys-well}
use Rattle.told.proofs.Rows.{All, nil, cons, is-name}

-- what is said is no finding, or one of the pushes
abbrev Fine : List (List ℕ) → Event → Type 0
Fine names (open' s) = Unit {0}
Fine names (bind o g b) = Unit {0}
Fine names (carry c) = Unit {0}
Fine names (answer a) = Unit {0}
Fine names (find f) = Pushed names f

fine-finds : {names : List (List ℕ)} {l : List Event} → All (Fine names) l → All (Pushed names) (finds_in l)
unfolding logs
fine-finds nil = nil
fine-finds (cons {x = open' s} p h) = fine-finds h
fine-finds (cons {x = bind o g b} p h) = fine-finds h
fine-finds (cons {x = carry c} p h) = fine-finds h
fine-finds (cons {x = answer a} p h) = fine-finds h
fine-finds (cons {x = find f} p h) = cons p (fine-finds h)

-- read in the other direction
all-reverse : {A : Type 0} {P : A → Type 0} {xs ys : List A} → All P xs → All P ys → All P (reverse_aux xs ys)
all-reverse nil g = g
all-reverse (cons p h) g = all-reverse h (cons p g)

module _ (warns : Bool) (st : Statement) (rows : Each (WellRow (length st.names)) st.bindings) where
  abbrev w : World
  w = world_of warns st

  abbrev size : ℕ
  size = length st.names

  abbrev Says : State → Type 0
  Says s = All (Fine st.names) s.log

  fine-if : (b : Bool) (f : Finding) (s : State) → (b ≡ true → Pushed st.names f) → Says s → Says (say_if b (find f) s)
  unfolding say_if
  fine-if true f s p k = cons (p refl) k
  fine-if false f s p k = k

  -- the statement's World, but for the names that are hushed
  module _ (hushed : ℕ → Bool) where
    abbrev w' : World
    w' = record { id = w.id; is_star = w.is_star; is_id = w.is_id; hushed = hushed; row = w.row; named = w.named; warns = w.warns }

    fine-name : (x : ℕ) (o : Option Hit) (s : State) → x < size → Says s → Says (use_name w' x o s)
    unfolding use_name world_of bytes_of
    fine-name x (Some (hit v u)) s h k = cons tt k
    fine-name x None s h k = fine-if (not (star_name (bytes_of st x))) _ _ (λ e. pushed.unresolved h (not-true (star_name (bytes_of st x)) e)) (cons tt k)

    fine-visit : (b : Bool) (x : ℕ) (o : Option Hit) (s : State) → x < size → Says s → Says (visit w' b x o s)
    unfolding visit
    fine-visit true x o s h k = k
    fine-visit false x o s h k = fine-name x o s h k

    fine-var : (v : ℕ) (o : Option Row) (s : State) → Says s → Says (use_var w' v o s)
    unfolding use_var
    fine-var v None s k = k
    fine-var v (Some (row i x j a b)) s k = cons tt k

    fine-anew : (a b : ℕ) (x : Name) (v j : ℕ) (s : State) → IsName st.names x → Says s → Says (bind_anew w' a b x v j s)
    unfolding bind_anew
    fine-anew a b x v j s h k = fine-if (w'.warns && binds s.cur x s.visible) _ (bind_name x v j s) (λ e. pushed.shadows h) (cons tt k)

    fine-path : (p : Option ℕ) (s : State) → Says s → Says (bind_path w' (variable p) s)
    unfolding bind_path variable name_of world_of
    fine-path (Some v) s k = fine-anew 0 0 (name_of w' v) v path_kind s (is-name st.names v st.bindings rows) k
    fine-path None s k = k

    fine-new : (o : Option Hit) (x : Name) (v j : ℕ) (s : State) → Says s → Says (bind_new w' o x v j s)
    unfolding bind_new
    fine-new None x v j s k = cons tt k
    fine-new (Some u) x v j s k = k

    fine-elem : (j : ℕ) (p : Option ℕ) (s : State) → Says s → Says (bind_elem w' j (variable p) s)
    unfolding bind_elem variable
    fine-elem j (Some v) s k = fine-new (lookup (name_of w' v) s.visible) (name_of w' v) v j s k
    fine-elem j None s k = k

    mutual
      unfolding resolve WellE

      fine-E : (t : Expr) (room : ℕ) (s : State) → WellE size t room → Says s → Says (resolve w' t s)
      fine-E (var v) room s h k = fine-var v (w'.row v) s k
      fine-E (unresolved x) room s h k = fine-visit (hushed x) x (lookup (indexed x) s.visible) s h.1 k
      fine-E (node f es) room s h k = fine-Es es 0 (room - 1) s h.5 k
      fine-E (predicate p) room s h k = k
      fine-E (comprehension a b p es) room s h k =
          let t = enter comprehension_scope a b s in
          fine-Es es 0 (room - 1) (bind_pattern w' p t) h.6 (fine-S p (room - 1) t h.3 (cons tt k))

      fine-Es : (t : Exprs) (kind room : ℕ) (s : State) → Wells size kind t room → Says s → Says (resolves w' t s)
      fine-Es done kind room s h k = k
      fine-Es (more e es) kind room s h k = fine-Es es kind room (resolve w' e s) h.1 (fine-E e room s h.0 k)
      fine-Es (mark m es) kind room s h k = fine-Es es kind room s h.2 k

      fine-S : (t : Steps) (room : ℕ) (s : State) → WellS size t room → Says s → Says (bind_pattern w' t s)
      fine-S end room s h k = k
      fine-S (part p r) room s h k = fine-S r room (bind_path w' (variable p) s) h.2 (fine-path p s k)
      fine-S (elem j a b v es r) room s h k =
          let t = bind_elem w' j (variable v) s in
          fine-S r room (resolves w' es t) h.6 (fine-Es es 0 room t h.5 (fine-elem j v s k))

  yield-name : (x : ℕ) (o : Option ℕ) → x < size → WellAlias size o → yield_name x o < size
  unfolding yield_name WellAlias
  yield-name x None h g = h
  yield-name x (Some y) h g = g

  fine-yields : (a b : ℕ) (ys : List Yield) (s : State) → Each (WellYield size) ys → Says s → Says (yields w a b ys s)
  unfolding yields Each WellYield
  fine-yields a b [] s h k = k
  fine-yields a b (yield x y v ∷ ys) s h k =
      fine-yields a b ys (bind_anew w a b (indexed (yield_name x y)) v value_kind s) h.1 (fine-anew w.hushed a b (indexed (yield_name x y)) v value_kind s (yield-name x y h.0.0 h.0.1) k)

  fine-carries : (ps : List Pair) (s : State) → Says s → Says (carry_all w ps s)
  unfolding carry_all
  fine-carries [] s k = k
  fine-carries (pair x v ∷ ps) s k = fine-carries ps _ (cons tt k)

  fine-binds : (ps : List Pair) (s : State) → Says s → Says (bind_all w ps s)
  unfolding bind_all
  fine-binds [] s k = k
  fine-binds (pair x v ∷ ps) s k = fine-binds ps (bind_over true x v (Walk.kind_of w v) s) (cons tt k)

  fine-C : (t : Clause) (s : State) → WellClause size t → Says s → Says (clause w t s)
  unfolding clause WellClause WellMany WellPattern barrier fresh sort_by
  fine-C (opening o a b p) s h k = fine-S w.hushed p max_depth (enter (opens o) a b s) h.2.1 (cons tt k)
  fine-C (reading r a b es) s h k = fine-Es w.hushed es (kind_of r) max_depth s (reading-well size r es h.1) k
  fine-C (with' a b ps f ks) s h k =
      let c = carried_by w ps s.visible in
      let r = fine-Es w.hushed (exprs ps f) 0 max_depth s (row-well size ps f h.1.1 h.4) k in
      fine-Es w.hushed (keys_of ks) 0 max_depth _ (keys-well size ks h.5) (fine-binds c _ (cons tt (fine-carries c _ (cons tt r))))
  fine-C (return a b ps ks) s h k =
      let t = leave s (enter return_scope a b s) in
      let r = fine-Es w.hushed (exprs ps done) 0 max_depth t (row-well size ps done h.1.1 (done-well size)) (cons tt k) in
      fine-Es (λ x. is_in x (aliases ps)) (keys_of ks) 0 max_depth _ (keys-well size ks h.2) r
  fine-C (unwind a b v e) s h k = cons tt (cons tt k)
  fine-C (call a b es ys) s h k = fine-yields a b ys (enter call_scope a b s) h.2.1 (cons tt k)

  fine-Cs : (ts : List Clause) (s : State) → Each (WellClause size) ts → Says s → Says (clauses w ts s)
  unfolding clauses Each
  fine-Cs [] s h k = k
  fine-Cs (t ∷ ts) s h k = fine-Cs ts (clause w t s) h.1 (fine-C t s h.0 k)

  fine-As : (ts : List Arm) (s : State) → Each (WellArm size) ts → Says s → Says (arms w ts s)
  unfolding arms Each WellArm WellMany
  fine-As [] s h k = k
  fine-As (arm a b cs ∷ ts) s h k = fine-As ts (clauses w cs (standing [] 0 s)) h.1 (fine-Cs cs (standing [] 0 s) h.0.1.1 k)

pub resolved : (warns : Bool) (st : Statement) → WellStatement st → All (Pushed st.names) (finds_in (log warns st))
unfolding log run start
resolved warns st h =
    let s = clauses (world_of warns st) st.head (start st) in
    fine-finds (all-reverse (fine-As warns st h.bindings st.arms s h.arms (fine-Cs warns st h.bindings st.head (start st) h.head (cons tt nil))) nil)
