-- What a clause carries (`clause-carries`): nothing, or, if it is a WITH, all that is visible after it, oldest first, by the scope before the
-- current one. `oldest` is what a log, newest first, carries, oldest first (`oldest-as`), and `oldest-count` how much that is.
use Rattle.std.specs.Prelude.{Option, None, Some}
use Prim.Native.Nat.{ℕ, suc, ◌+◌, ◌-◌, ◌<◌}
use native.Mathlib.Omega.{arith}
use mathlib.Core.Path.{◌≡◌, refl, sym, ◌∙◌, ap}
use mathlib.Core.Bool.{Bool, true, false, not, ◌&&◌}
use mathlib.Core.List.{List, [], ◌∷◌, ◌++◌, reverse, reverse_aux, append_assoc, append-nil}
use lib.ListN.{length, length-append}
use Rattle.scope.specs.Graph.{root_scope, with_barrier, comprehension_scope, return_scope, call_scope, Name, indexed, Carried, carried}
use Rattle.expr.specs.Tree.{Expr, var, unresolved, node, predicate, comprehension, Exprs, done, more, mark, Steps, end, part, elem}
use Rattle.clauses.specs.Tree.{Yield, yield, Clause, opening, reading, with', return, unwind, call, exprs, keys_of}
use Rattle.tables.specs.Row.{Row, row, path_kind, value_kind}
use Rattle.semantics.specs.Log.{e1001, e1002, Finding, finding, Event, open', bind, carry, answer, find, carries_in, logs}
use Rattle.semantics.specs.World.{World, hush, variable, opens, yield_name, name_of, kind_of}
use Rattle.semantics.specs.Resolve.{Hit, hit, variable_of, Seen, seen, Pair, pair, State, lookup, binds, say, say_if, enter, leave, standing, bind_name, bind_over, use_var, use_name, visit, bind_anew, bind_new, bind_path, bind_elem, resolve, resolves, bind_pattern, carried_by, carry_all, bind_all, barrier, fresh, yields, aliases, sort_by, clause}
use Rattle.theorems.specs.Needs.{carried_in}
use Rattle.arm_walk.specs.Taking.{carried_as}

unfoldable pub oldest : List Event → List Carried
oldest [] = []
oldest (open' s ∷ l) = oldest l
oldest (bind o g b ∷ l) = oldest l
oldest (carry c ∷ l) = oldest l ++ (c ∷ [])
oldest (answer a ∷ l) = oldest l
oldest (find f ∷ l) = oldest l

oldest-turned : (l m : List Event) → carries_in (reverse_aux l m) ≡ oldest l ++ carries_in m
unfolding oldest logs
oldest-turned [] m = refl
oldest-turned (open' s ∷ l) m = oldest-turned l (open' s ∷ m)
oldest-turned (bind o g b ∷ l) m = oldest-turned l (bind o g b ∷ m)
oldest-turned (carry c ∷ l) m = oldest-turned l (carry c ∷ m) ∙ sym (append_assoc (oldest l) (c ∷ []) (carries_in m))
oldest-turned (answer a ∷ l) m = oldest-turned l (answer a ∷ m)
oldest-turned (find f ∷ l) m = oldest-turned l (find f ∷ m)

oldest-as : (l : List Event) → carries_in (reverse l) ≡ oldest l
unfolding logs
oldest-as l = oldest-turned l [] ∙ append-nil (oldest l)

oldest-count : (l : List Event) → carried_in l ≡ length (oldest l)
unfolding oldest carried_in
oldest-count [] = refl
oldest-count (open' s ∷ l) = oldest-count l
oldest-count (bind o g b ∷ l) = oldest-count l
oldest-count (carry c ∷ l) = simp length-append (omega (arith, oldest-count l))
oldest-count (answer a ∷ l) = oldest-count l
oldest-count (find f ∷ l) = oldest-count l

-- ---- what carries nothing
module _ (w : World) where
  find_none : (b : Bool) (f : Finding) (s : State) → oldest (say_if b (find f) s).log ≡ oldest s.log
  unfolding say_if oldest
  find_none true f s = refl
  find_none false f s = refl

  var-none : (v : ℕ) (r : Option Row) (s : State) → oldest (use_var w v r s).log ≡ oldest s.log
  unfolding use_var oldest
  var-none v None s = refl
  var-none v (Some (row i x k a b)) s = refl

  visit-none : (hushed : Bool) (x : ℕ) (o : Option Hit) (s : State) → oldest (visit w hushed x o s).log ≡ oldest s.log
  unfolding visit use_name oldest
  visit-none true x o s = refl
  visit-none false x (Some (hit v u)) s = refl
  visit-none false x None s = find_none (not (w.is_star x)) (finding e1001 0 0 (Some (indexed x)) 0 0) _

  anew-none : (a b : ℕ) (x : Name) (v k : ℕ) (s : State) → oldest (bind_anew w a b x v k s).log ≡ oldest s.log
  unfolding bind_anew oldest
  anew-none a b x v k s = find_none (w.warns && binds s.cur x s.visible) (finding e1002 a b (Some x) 0 0) (bind_name x v k s)

  path-none : (o : Option ℕ) (s : State) → oldest (bind_path w o s).log ≡ oldest s.log
  unfolding bind_path
  path-none None s = refl
  path-none (Some v) s = anew-none 0 0 (name_of w v) v path_kind s

  new_none : (o : Option Hit) (x : Name) (v k : ℕ) (s : State) → oldest (bind_new w o x v k s).log ≡ oldest s.log
  unfolding bind_new oldest
  new_none None x v k s = refl
  new_none (Some u) x v k s = refl

  elem-none : (k : ℕ) (o : Option ℕ) (s : State) → oldest (bind_elem w k o s).log ≡ oldest s.log
  unfolding bind_elem
  elem-none k None s = refl
  elem-none k (Some v) s = new_none (lookup (name_of w v) s.visible) (name_of w v) v k s

  mutual
    unfolding resolve oldest

    resolve-none : (t : Expr) (s : State) → oldest (resolve w t s).log ≡ oldest s.log
    resolve-none (var v) s = var-none v (w.row v) s
    resolve-none (unresolved x) s = visit-none (w.hushed x) x (lookup (indexed x) s.visible) s
    resolve-none (node f es) s = resolves-none es s
    resolve-none (predicate p) s = refl
    resolve-none (comprehension a b p es) s = resolves-none es _ ∙ pattern-none p (enter comprehension_scope a b s)

    resolves-none : (t : Exprs) (s : State) → oldest (resolves w t s).log ≡ oldest s.log
    resolves-none done s = refl
    resolves-none (more e es) s = resolves-none es _ ∙ resolve-none e s
    resolves-none (mark m es) s = resolves-none es s

    pattern-none : (t : Steps) (s : State) → oldest (bind_pattern w t s).log ≡ oldest s.log
    pattern-none end s = refl
    pattern-none (part p r) s = pattern-none r _ ∙ path-none (variable p) s
    pattern-none (elem k a b v es r) s = pattern-none r _ ∙ resolves-none es _ ∙ elem-none k (variable v) s

  yields_none : (a b : ℕ) (ys : List Yield) (s : State) → oldest (yields w a b ys s).log ≡ oldest s.log
  unfolding yields
  yields_none a b [] s = refl
  yields_none a b (yield x y v ∷ ys) s = yields_none a b ys _ ∙ anew-none a b (indexed (yield_name x y)) v value_kind s

-- ---- a WITH
module _ (w : World) where
  -- what is bound is in the current scope, and carries nothing
  bind-none : (ps : List Pair) (s : State) → ((bind_all w ps s).cur ≡ s.cur) × (oldest (bind_all w ps s).log ≡ oldest s.log)
  unfolding bind_all oldest
  bind-none [] s = (refl, refl)
  bind-none (pair x v ∷ ps) s = bind-none ps (bind_over true x v (kind_of w v) s)

  carry-last : (ps : List Pair) (s : State) → (carry_all w ps s).last ≡ s.last
  unfolding carry_all
  carry-last [] s = refl
  carry-last (pair x v ∷ ps) s = carry-last ps (say (carry (carried s.cur x v)) s)

  -- pairs that are carried behind cs are what they are seen as where they are bound
  carry-all : (ps : List Pair) (cs : List Carried) (s t : State) → oldest s.log ≡ cs ++ carried_as s.cur t.visible → oldest (carry_all w ps s).log ≡ cs ++ carried_as s.cur (bind_all w ps t).visible
  unfolding carry_all bind_all oldest carried_as variable_of
  carry-all [] cs s t e = e
  carry-all (pair x v ∷ ps) cs s t e =
      let c = carried s.cur x v in
      carry-all ps cs (say (carry c) s) (bind_over true x v (kind_of w v) t) (ap (λ l. l ++ (c ∷ [])) e ∙ append_assoc cs (carried_as s.cur t.visible) (c ∷ []))

  -- the barrier and the Root, which is the next scope
  root-all : (a b : ℕ) (ps : List Pair) (s : State) → let t = fresh w b ps (barrier w a b ps s) in
      (t.cur ≡ suc (suc s.last)) × (oldest t.log ≡ oldest s.log ++ carried_as (suc s.last) t.visible)
  unfolding fresh barrier oldest carried_as
  root-all a b ps s =
      let y = enter with_barrier a b s in
      let u = carry_all w ps y in
      let v = enter root_scope b b (standing [] u.cur u) in
      let z = bind-none ps v in
      (z.0 ∙ ap suc (carry-last ps y), z.1 ∙ carry-all ps (oldest s.log) y v (sym (append-nil (oldest s.log))))

-- ---- a clause
pub data Carrying (s t : State) : Type 0 where
  nothing : carried_in t.log ≡ carried_in s.log → carries_in (reverse t.log) ≡ carries_in (reverse s.log) → Carrying s t
  all : 0 < t.cur → carried_in t.log ≡ carried_in s.log + length t.visible → carries_in (reverse t.log) ≡ carries_in (reverse s.log) ++ carried_as (t.cur - 1) t.visible → Carrying s t

as-nothing : {s t : State} → oldest t.log ≡ oldest s.log → Carrying s t
as-nothing {s} {t} e = nothing (oldest-count t.log ∙ ap length e ∙ sym (oldest-count s.log)) (oldest-as t.log ∙ e ∙ sym (oldest-as s.log))

length-carried : (b : ℕ) (vis : List Seen) → length (carried_as b vis) ≡ length vis
unfolding carried_as
length-carried b [] = refl
length-carried b (seen x v p ∷ vis) = simp length-append (omega (arith, length-carried b vis))

as-all : {s t : State} (b : ℕ) → t.cur ≡ suc b → oldest t.log ≡ oldest s.log ++ carried_as b t.visible → Carrying s t
as-all {s} {t} b c e =
    let n : t.cur - 1 ≡ b = omega arith in
    all (omega arith)
    (oldest-count t.log ∙ ap length e ∙ length-append (oldest s.log) (carried_as b t.visible) ∙ omega (arith, oldest-count s.log, length-carried b t.visible))
    (oldest-as t.log ∙ e ∙ rw (n, oldest-as s.log))

pub clause-carries : (w : World) (t : Clause) (s : State) → Carrying s (clause w t s)
unfolding clause sort_by oldest
clause-carries w (opening o a b p) s = as-nothing (pattern-none w p (enter (opens o) a b s))
clause-carries w (reading r a b es) s = as-nothing (resolves-none w es s)
clause-carries w (with' a b ps f ks) s =
    let cs = carried_by w ps s.visible in
    let u = resolves w (exprs ps f) s in
    let t = fresh w b cs (barrier w a b cs u) in
    let z = root-all w a b cs u in
    as-all (suc u.last) z.0 (resolves-none w (keys_of ks) (standing (t.visible ++ s.visible) t.cur t) ∙ z.1 ∙ ap (λ l. l ++ carried_as (suc u.last) t.visible) (resolves-none w (exprs ps f) s))
clause-carries w (return a b ps ks) s =
    let u = resolves w (exprs ps done) (leave s (enter return_scope a b s)) in
    as-nothing (resolves-none (hush (aliases ps) w) (keys_of ks) u ∙ resolves-none w (exprs ps done) (leave s (enter return_scope a b s)))
clause-carries w (unwind a b v e) s = as-nothing refl
clause-carries w (call a b es ys) s = as-nothing (yields_none w a b ys (enter call_scope a b s))
