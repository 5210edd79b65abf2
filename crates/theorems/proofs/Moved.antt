-- One part, walked from two states, the second time without its spans. `R m s c`: s is c but for spans, its scope numbers moved up by m
-- (`up`: 0 stays 0). Each step keeps it, `R m s c → R m (step s) (step c)`: `resolve-R`, `resolves-R`, `pattern-R`, `fresh-R`, `sort-R`,
-- `clause-R`, `clauses-R`, `arms-R`. `blank` takes spans away from an event, `number` renumbers its scopes, `number_bound` and
-- `number_carried` those of an entry; `eqb-up`: moved numbers are equal where the numbers are; `exprs-erase`, `keys-erase`: projections and
-- sort keys without spans have the expressions without spans.
use Rattle.std.specs.Prelude.{Option, None, Some}
use Prim.Native.Nat.{ℕ, zero, suc, ◌+◌}
use native.Mathlib.Omega.{arith}
use mathlib.Core.Path.{◌≡◌, refl, sym, ◌∙◌, ap, ap₂, subst}
use mathlib.Core.Bool.{Bool, true, false, cond, not, ◌&&◌, ◌||◌}
use mathlib.Core.List.{List, [], ◌∷◌, ◌++◌, map, map-append}
use lib.Dec.{eqb, eqb→eq}
use Rattle.scope.specs.Graph.{comprehension_scope, return_scope, with_barrier, call_scope, unwind_scope, root_scope, scope, Carried, carried, Name, indexed, same_name}
use Rattle.expr.specs.Tree.{Expr, var, unresolved, node, predicate, comprehension, Exprs, done, more, mark, Steps, end, part, elem}
use Rattle.clauses.specs.Tree.{Projection, projection, Yield, yield, Keys, unsorted, sorted, Clause, opening, reading, with', return, unwind, call, Arm, arm, exprs, keys_of}
use Rattle.tables.specs.Row.{value_kind, path_kind, Row, row}
use Rattle.expr.specs.Erase.{erase_e, erases, erase_s}
use Rattle.clauses.specs.Erase.{erase_projection, erase_keys, erase_c, erase_a}
use Rattle.semantics.specs.Log.{e1002, finding, Bound, bound, Event, open', bind, carry, answer, find}
use Rattle.semantics.specs.World.{World, hush, variable, opens, Direct, a_var, a_name, other, direct, yield_name, name_of, kind_of}
use Rattle.semantics.specs.Resolve.{Hit, hit, variable_of, Seen, seen, Pair, pair, State, lookup, binds, say, say_if, enter, bind_name, bind_over, leave, standing, use_var, use_name, visit, bind_anew, bind_new, bind_path, bind_elem, resolve, resolves, bind_pattern, without, once, carries, projected, any_star, starred, carried_by, carry_all, bind_all, barrier, fresh, yields, alias_in, aliases, sort_by, clause, clauses, arms}
use Rattle.theorems.specs.Compare.{blank_scope, blank_finding, number_scope}
use Rattle.theorems.proofs.Tests.{bool-ext, eq→eqb}

-- Spans away.
unfoldable pub blank : Event → Event
blank (open' s) = open' (blank_scope s)
blank (bind o g b) = bind o g b
blank (carry c) = carry c
blank (answer a) = answer a
blank (find f) = find (blank_finding f)

-- Scope numbers by f.
unfoldable pub number_bound : (ℕ → ℕ) → Bound → Bound
number_bound f (bound s x v k) = bound (f s) x v k

unfoldable pub number_carried : (ℕ → ℕ) → Carried → Carried
number_carried f (carried b x v) = carried (f b) x v

unfoldable pub number : (ℕ → ℕ) → Event → Event
number f (open' s) = open' (number_scope f s)
number f (bind o g b) = bind o g (number_bound f b)
number f (carry c) = carry (number_carried f c)
number f (answer a) = answer a
number f (find x) = find x

abbrev number_seen : (ℕ → ℕ) → Seen → Seen
number_seen f (seen x v p) = seen x v (f p)

-- 0 stays, every other number goes up by m.
unfoldable pub up : ℕ → ℕ → ℕ
up m zero = zero
up m (suc k) = suc (k + m)

-- s is c but for spans, with the numbers moved up by m.
pub record R (m : ℕ) (s c : State) : Type 0 where
  pub visible : s.visible ≡ map (number_seen (up m)) c.visible
  pub cur : s.cur ≡ up m c.cur
  pub last : s.last ≡ c.last + m
  pub log : map blank s.log ≡ map (number (up m)) c.log

-- Erasing changes no carried pair.
pub exprs-erase : (ps : List Projection) (es : Exprs) → erases (exprs ps es) ≡ exprs (map erase_projection ps) (erases es)
unfolding exprs erase_projection erases
exprs-erase [] es = refl
exprs-erase (projection a e ∷ ps) es = ap (more (erase_e e)) (exprs-erase ps es)

pub keys-erase : (ks : Keys) → keys_of (erase_keys ks) ≡ erases (keys_of ks)
unfolding keys_of erase_keys erases
keys-erase unsorted = refl
keys-erase (sorted es) = refl

aliases-erase : (ps : List Projection) → aliases (map erase_projection ps) ≡ aliases ps
unfolding aliases erase_projection
aliases-erase [] = refl
aliases-erase (projection a e ∷ ps) = ap (λ xs. alias_in a ++ xs) (aliases-erase ps)

direct-erase : (e : Expr) → direct (erase_e e) ≡ direct e
unfolding direct erase_e
direct-erase (var v) = refl
direct-erase (unresolved x) = refl
direct-erase (node f es) = refl
direct-erase (predicate s) = refl
direct-erase (comprehension a b s es) = refl

up-inj : (m s t : ℕ) → up m s ≡ up m t → s ≡ t
unfolding up
up-inj m zero zero p = refl
up-inj m zero (suc t) p = absurd (omega arith)
up-inj m (suc s) zero p = absurd (omega arith)
up-inj m (suc s) (suc t) p = omega arith

pub eqb-up : (m s t : ℕ) → eqb (up m s) (up m t) ≡ eqb s t
eqb-up m s t = bool-ext (eqb (up m s) (up m t)) (eqb s t) (λ h. eq→eqb s t (up-inj m s t (eqb→eq (up m s) (up m t) h))) (λ h. eq→eqb (up m s) (up m t) (ap (up m) (eqb→eq s t h)))

module _ (w : World) (m : ℕ) where
  -- the moved visible list has the same names, variables and own names
  lookup-up : (x : Name) (vis : List Seen) → lookup x (map (number_seen (up m)) vis) ≡ lookup x vis
  unfolding lookup
  lookup-up x [] = refl
  lookup-up x (seen y v p ∷ vis) = ap (cond (same_name x y) (Some v)) (lookup-up x vis)

  binds-up : (c : ℕ) (x : Name) (vis : List Seen) → binds (up m c) x (map (number_seen (up m)) vis) ≡ binds c x vis
  unfolding binds
  binds-up c x [] = refl
  binds-up c x (seen y v p ∷ vis) = ap₂ (λ a b. same_name x y && a || b) (eqb-up m p c) (binds-up c x vis)

  carries-up : (a : Option ℕ) (d : Direct) (vis : List Seen) → carries w a d (map (number_seen (up m)) vis) ≡ carries w a d vis
  unfolding carries
  carries-up (Some x) (a_var v) vis = refl
  carries-up (Some x) (a_name y) vis = rw (lookup-up (indexed y) vis)
  carries-up (Some x) other vis = refl
  carries-up None (a_var v) vis = refl
  carries-up None (a_name x) vis = rw (lookup-up (indexed x) vis)
  carries-up None other vis = refl

  projected-up : (ps : List Projection) (vis : List Seen) → projected w ps (map (number_seen (up m)) vis) ≡ projected w (map erase_projection ps) vis
  unfolding projected erase_projection
  projected-up [] vis = refl
  projected-up (projection a e ∷ ps) vis = rw (direct-erase e, carries-up a (direct e) vis, projected-up ps vis)

  star-erase : (ps : List Projection) → any_star w (map erase_projection ps) ≡ any_star w ps
  unfolding any_star erase_projection
  star-erase [] = refl
  star-erase (projection a e ∷ ps) = rw (direct-erase e, star-erase ps)

  once-up : (vis : List Seen) → once (map (number_seen (up m)) vis) ≡ once vis
  unfolding once
  once-up [] = refl
  once-up (seen x v p ∷ vis) = ap (λ ps. pair x (variable_of v) ∷ without x ps) (once-up vis)

  carried-up : (ps : List Projection) (vis : List Seen) → carried_by w ps (map (number_seen (up m)) vis) ≡ carried_by w (map erase_projection ps) vis
  unfolding carried_by starred
  carried-up ps vis = rw (star-erase ps, once-up vis, projected-up ps vis)

  module _ {s c : State} (h : R m s c) where
    found-R : (x : Name) → lookup x s.visible ≡ lookup x c.visible
    found-R x = ap (lookup x) h.visible ∙ lookup-up x c.visible

    owned-R : (x : Name) → binds s.cur x s.visible ≡ binds c.cur x c.visible
    owned-R x = ap₂ (λ a b. binds a x b) h.cur h.visible ∙ binds-up c.cur x c.visible

    carried-R : (ps : List Projection) → carried_by w ps s.visible ≡ carried_by w (map erase_projection ps) c.visible
    carried-R ps = ap (carried_by w ps) h.visible ∙ carried-up ps c.visible

    -- one step
    say-R : {e f : Event} → blank e ≡ number (up m) f → R m (say e s) (say f c)
    say-R p = record { visible = h.visible; cur = h.cur; last = h.last; log = ap₂ ◌∷◌ p h.log }

    enter-R : (k a b : ℕ) → R m (enter k a b s) (enter k 0 0 c)
    unfolding blank blank_scope number number_scope up
    enter-R k a b = record { visible = h.visible; cur = ap suc h.last; last = omega (arith, h.last); log = ap₂ (λ n l. open' (scope k (Some n) 0 0) ∷ l) h.cur h.log }

    bind-R : (over : Bool) (x : Name) (v k : ℕ) → R m (bind_over over x v k s) (bind_over over x v k c)
    unfolding blank number number_bound
    bind-R over x v k = record {
      visible = ap₂ (λ n l. seen x (hit v (cond over 1 0)) n ∷ l) h.cur h.visible;
      cur = h.cur;
      last = h.last;
      log = ap₂ ◌∷◌ (ap₂ (λ g n. bind over g (bound n x v k)) (owned-R x) h.cur) h.log;
    }

    leave-R : {t d : State} → R m t d → R m (leave s t) (leave c d)
    leave-R g = record { visible = h.visible; cur = h.cur; last = g.last; log = g.log }

    standing-R : (n n' : ℕ) → n ≡ up m n' → R m (standing [] n s) (standing [] n' c)
    standing-R n n' p = record { visible = refl; cur = p; last = h.last; log = h.log }

    var-R : (v : ℕ) (r : Option Row) → R m (use_var w v r s) (use_var w v r c)
    unfolding use_var
    var-R v None = h
    var-R v (Some (row i x k a b)) = say-R (unfold blank number in refl)

    new-R : (o : Option Hit) (x : Name) (v k : ℕ) → R m (bind_new w o x v k s) (bind_new w o x v k c)
    unfolding bind_new
    new-R None x v k = bind-R false x v k
    new-R (Some u) x v k = h

  say_if-R : (b : Bool) (e f : Event) {s c : State} → R m s c → blank e ≡ number (up m) f → R m (say_if b e s) (say_if b f c)
  unfolding say_if
  say_if-R true e f h p = say-R h p
  say_if-R false e f h p = h

  name-R : (x : ℕ) (o : Option Hit) {s c : State} → R m s c → R m (use_name w x o s) (use_name w x o c)
  unfolding use_name blank number blank_finding
  name-R x (Some (hit v u)) h = say-R h refl
  name-R x None h = say_if-R (not (w.is_star x)) _ _ (say-R h refl) refl

  visit-R : (hushed : Bool) (x : ℕ) (o : Option Hit) {s c : State} → R m s c → R m (visit w hushed x o s) (visit w hushed x o c)
  unfolding visit
  visit-R true x o h = h
  visit-R false x o h = name-R x o h

  anew-R : (a b : ℕ) (x : Name) (v k : ℕ) {s c : State} → R m s c → R m (bind_anew w a b x v k s) (bind_anew w 0 0 x v k c)
  unfolding bind_anew blank number blank_finding
  anew-R a b x v k {s} {c} h =
      subst (λ (own : Bool). R m (say_if (w.warns && own) (find (finding e1002 a b (Some x) 0 0)) (bind_name x v k s)) (bind_anew w 0 0 x v k c)) (sym (owned-R h x))
      (say_if-R (w.warns && binds c.cur x c.visible) (find (finding e1002 a b (Some x) 0 0)) (find (finding e1002 0 0 (Some x) 0 0)) (bind-R h false x v k) refl)

  path-R : (o : Option ℕ) {s c : State} → R m s c → R m (bind_path w o s) (bind_path w o c)
  unfolding bind_path
  path-R None h = h
  path-R (Some v) h = anew-R 0 0 (name_of w v) v path_kind h

  elem-R : (k : ℕ) (o : Option ℕ) {s c : State} → R m s c → R m (bind_elem w k o s) (bind_elem w k o c)
  unfolding bind_elem
  elem-R k None h = h
  elem-R k (Some v) h = rw (found-R h (name_of w v)) (new-R h _ (name_of w v) v k)

  mutual
    unfolding resolve erase_e

    pub resolve-R : (t : Expr) {s c : State} → R m s c → R m (resolve w t s) (resolve w (erase_e t) c)
    resolve-R (var v) h = var-R h v (w.row v)
    resolve-R (unresolved x) h = rw (found-R h (indexed x)) (visit-R (w.hushed x) x _ h)
    resolve-R (node f es) h = resolves-R es h
    resolve-R (predicate p) h = h
    resolve-R (comprehension a b p es) h = leave-R h (resolves-R es (pattern-R p (enter-R h comprehension_scope a b)))

    pub resolves-R : (t : Exprs) {s c : State} → R m s c → R m (resolves w t s) (resolves w (erases t) c)
    resolves-R done h = h
    resolves-R (more e es) h = resolves-R es (resolve-R e h)
    resolves-R (mark n es) h = resolves-R es h

    pub pattern-R : (t : Steps) {s c : State} → R m s c → R m (bind_pattern w t s) (bind_pattern w (erase_s t) c)
    pattern-R end h = h
    pattern-R (part p r) h = pattern-R r (path-R (variable p) h)
    pattern-R (elem k a b v es r) h = pattern-R r (resolves-R es (elem-R k (variable v) h))

  carry-R : (ps : List Pair) {s c : State} → R m s c → R m (carry_all w ps s) (carry_all w ps c)
  unfolding carry_all blank number number_carried
  carry-R [] h = h
  carry-R (pair x v ∷ ps) h = carry-R ps (say-R h (ap (λ n. carry (carried n x v)) h.cur))

  binds-R : (ps : List Pair) {s c : State} → R m s c → R m (bind_all w ps s) (bind_all w ps c)
  unfolding bind_all
  binds-R [] h = h
  binds-R (pair x v ∷ ps) h = binds-R ps (bind-R h true x v (kind_of w v))

  pub fresh-R : (b : ℕ) (ps : List Pair) {s c : State} → R m s c → R m (fresh w b ps s) (fresh w 0 ps c)
  unfolding fresh
  fresh-R b ps h = binds-R ps (enter-R (standing-R h _ _ h.cur) root_scope b b)

  yields-R : (a b : ℕ) (ys : List Yield) {s c : State} → R m s c → R m (yields w a b ys s) (yields w 0 0 ys c)
  unfolding yields
  yields-R a b [] h = h
  yields-R a b (yield x y v ∷ ys) h = yields-R a b ys (anew-R a b (indexed (yield_name x y)) v value_kind h)

module _ (w : World) (m : ℕ) where
  -- sort keys, with the list of another state behind
  pub sort-R : (ks : Exprs) {s c t d : State} → R m s c → R m t d → R m (sort_by w ks s.visible t) (sort_by w (erases ks) c.visible d)
  unfolding sort_by
  sort-R ks {s} {c} {t} {d} h g =
      let e = ap₂ ◌++◌ g.visible h.visible ∙ sym (map-append (number_seen (up m)) d.visible c.visible) in
      leave-R w m g (resolves-R w m ks (record { visible = e; cur = g.cur; last = g.last; log = g.log }))

  pub clause-R : (t : Clause) {s c : State} → R m s c → R m (clause w t s) (clause w (erase_c t) c)
  unfolding clause erase_c barrier erases up
  clause-R (opening o a b p) h = pattern-R w m p (enter-R w m h (opens o) a b)
  clause-R (reading r a b es) h = resolves-R w m es h
  clause-R (with' a b ps f ks) {s} {c} h =
      rw (← exprs-erase ps f, keys-erase ks, carried-R w m h ps)
      (sort-R (keys_of ks) h (fresh-R w m b _ (carry-R w m _ (enter-R w m (resolves-R w m (exprs ps f) h) with_barrier a b))))
  clause-R (return a b ps ks) {s} {c} h =
      rw (← exprs-erase ps done, keys-erase ks, aliases-erase ps)
      (let g = resolves-R w m (exprs ps done) (leave-R w m h (enter-R w m h return_scope a b)) in
      let k = resolves-R (hush (aliases ps) w) m (keys_of ks) g in
      record { visible = h.visible; cur = ap suc h.last; last = k.last; log = k.log })
  clause-R (unwind a b v e) h = bind-R w m (enter-R w m h unwind_scope a b) false (name_of w v) v value_kind
  clause-R (call a b es ys) h = yields-R w m a b ys (enter-R w m h call_scope a b)

  pub clauses-R : (ts : List Clause) {s c : State} → R m s c → R m (clauses w ts s) (clauses w (map erase_c ts) c)
  unfolding clauses
  clauses-R [] h = h
  clauses-R (t ∷ ts) h = clauses-R ts (clause-R t h)

  pub arms-R : (ts : List Arm) {s c : State} → R m s c → R m (arms w ts s) (arms w (map erase_a ts) c)
  unfolding arms erase_a up
  arms-R [] h = h
  arms-R (arm a b cs ∷ ts) h = arms-R ts (clauses-R cs (standing-R w m h 0 0 refl))
