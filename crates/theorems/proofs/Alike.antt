-- Sort keys of a WITH with a star don't need the list before it (document 02, CR 2): all that is visible there is carried. `Indistinct n s t`:
-- s is t but for the visible lists, in which every name is found alike, and in scopes above n bound alike; expressions keep it
-- (`resolves-I`). `keys-alike`: so a list behind in which nothing more is found, all bound up to n, makes no difference. `seen_in` is what
-- bound pairs leave visible (`bound-seen`); `all_found`, `star-found`: what a star's WITH doesn't find was not visible before; `star-keys`:
-- its sort keys need the new list alone.
use Rattle.std.specs.Prelude.{Option, None, Some}
use Prim.Native.Nat.{ℕ, suc, ◌≤◌, ◌<◌}
use native.Mathlib.Omega.{arith}
use mathlib.Core.Path.{◌≡◌, refl, sym, ◌∙◌, ap, ap₂, subst}
use mathlib.Core.Bool.{Bool, true, false, cond, not, ◌&&◌, ◌||◌, or-false, true≢false}
use mathlib.Core.List.{List, [], ◌∷◌, ◌++◌, reverse, reverse_aux}
use lib.Dec.{T, eqb}
use Rattle.scope.specs.Graph.{comprehension_scope, root_scope, scope, Name, indexed, same_name}
use Rattle.expr.specs.Tree.{Expr, var, unresolved, node, predicate, comprehension, Exprs, done, more, mark, Steps, end, part, elem}
use Rattle.clauses.specs.Tree.{Projection}
use Rattle.tables.specs.Row.{path_kind, Row, row}
use Rattle.semantics.specs.Log.{e1002, finding, bound, Event, open', bind, find}
use Rattle.semantics.specs.World.{World, variable, name_of, kind_of}
use Rattle.semantics.specs.Resolve.{Hit, hit, Seen, seen, Pair, pair, State, lookup, binds, without, once, say, say_if, enter, bind_name, bind_over, leave, standing, use_var, use_name, visit, bind_anew, bind_new, bind_path, bind_elem, resolve, resolves, bind_pattern, projected, any_star, starred, carried_by, bind_all, fresh, sort_by}
use Rattle.theorems.proofs.Keeps.{say_if-keeps, all_keep}
use Rattle.theorems.proofs.Needs.{own-append}
use Rattle.theorems.proofs.Shows.{named}
use Rattle.theorems.proofs.Names.{same→eq}

pub record Indistinct (n : ℕ) (s t : State) : Type 0 where
  pub cur : s.cur ≡ t.cur
  pub last : s.last ≡ t.last
  pub log : s.log ≡ t.log
  pub finds : (x : Name) → lookup x s.visible ≡ lookup x t.visible
  pub owns : (c : ℕ) (x : Name) → n < c → binds c x s.visible ≡ binds c x t.visible
  pub high : n ≤ t.last

module _ (w : World) (n : ℕ) where
  say-I : (e : Event) {s t : State} → Indistinct n s t → Indistinct n (say e s) (say e t)
  say-I e h = record { cur = h.cur; last = h.last; log = ap (◌∷◌ e) h.log; finds = h.finds; owns = h.owns; high = h.high }

  say_if-I : (b : Bool) (e : Event) {s t : State} → Indistinct n s t → Indistinct n (say_if b e s) (say_if b e t)
  unfolding say_if
  say_if-I true e h = say-I e h
  say_if-I false e h = h

  enter-I : (k a b : ℕ) {s t : State} → Indistinct n s t → Indistinct n (enter k a b s) (enter k a b t)
  enter-I k a b h = record {
    cur = ap suc h.last;
    last = ap suc h.last;
    log = ap₂ (λ c l. open' (scope k (Some c) a b) ∷ l) h.cur h.log;
    finds = h.finds;
    owns = h.owns;
    high = omega (arith, h.high);
  }

  -- names are bound in scopes above n
  bind-I : (x : Name) (v k : ℕ) {s t : State} → n < t.cur → Indistinct n s t → Indistinct n (bind_name x v k s) (bind_name x v k t)
  unfolding lookup binds
  bind-I x v k {s} {t} p h =
      let own : binds s.cur x s.visible ≡ binds t.cur x t.visible = ap (λ c. binds c x s.visible) h.cur ∙ h.owns t.cur x p in
      record {
        cur = h.cur;
        last = h.last;
        log = ap₂ ◌∷◌ (ap₂ (λ g c. bind false g (bound c x v k)) own h.cur) h.log;
        finds = λ y. ap (cond (same_name y x) (Some (hit v 0))) (h.finds y);
        owns = λ c y q. ap₂ (λ a b. same_name y x && eqb a c || b) h.cur (h.owns c y q);
        high = h.high;
      }

  var-I : (v : ℕ) (r : Option Row) {s t : State} → Indistinct n s t → Indistinct n (use_var w v r s) (use_var w v r t)
  unfolding use_var
  var-I v None h = h
  var-I v (Some (row i x k a b)) h = say-I _ h

  visit-I : (hushed : Bool) (x : ℕ) (o : Option Hit) {s t : State} → Indistinct n s t → Indistinct n (visit w hushed x o s) (visit w hushed x o t)
  unfolding visit use_name
  visit-I true x o h = h
  visit-I false x (Some (hit v u)) h = say-I _ h
  visit-I false x None h = say_if-I (not (w.is_star x)) _ (say-I _ h)

  anew-I : (a b : ℕ) (x : Name) (v k : ℕ) {s t : State} → n < t.cur → Indistinct n s t → Indistinct n (bind_anew w a b x v k s) (bind_anew w a b x v k t)
  unfolding bind_anew
  anew-I a b x v k {s} {t} p h =
      let own : binds s.cur x s.visible ≡ binds t.cur x t.visible = ap (λ c. binds c x s.visible) h.cur ∙ h.owns t.cur x p in
      subst (λ (g : Bool). Indistinct n (say_if (w.warns && g) (find (finding e1002 a b (Some x) 0 0)) (bind_name x v k s)) (bind_anew w a b x v k t)) (sym own)
      (say_if-I (w.warns && binds t.cur x t.visible) (find (finding e1002 a b (Some x) 0 0)) (bind-I x v k p h))

  path-I : (o : Option ℕ) {s t : State} → n < t.cur → Indistinct n s t → Indistinct n (bind_path w o s) (bind_path w o t)
  unfolding bind_path
  path-I None p h = h
  path-I (Some v) p h = anew-I 0 0 (name_of w v) v path_kind p h

  new-I : (o : Option Hit) (x : Name) (v k : ℕ) {s t : State} → n < t.cur → Indistinct n s t → Indistinct n (bind_new w o x v k s) (bind_new w o x v k t)
  unfolding bind_new
  new-I None x v k p h = bind-I x v k p h
  new-I (Some u) x v k p h = h

  elem-I : (k : ℕ) (o : Option ℕ) {s t : State} → n < t.cur → Indistinct n s t → Indistinct n (bind_elem w k o s) (bind_elem w k o t)
  unfolding bind_elem
  elem-I k None p h = h
  elem-I k (Some v) p h = rw (h.finds (name_of w v)) (new-I _ (name_of w v) v k p h)

  path-cur : (o : Option ℕ) (s : State) → (bind_path w o s).cur ≡ s.cur
  unfolding bind_path bind_anew
  path-cur None s = refl
  path-cur (Some v) s = (say_if-keeps _ _ (bind_name (name_of w v) v path_kind s)).cur

  elem-cur : (k : ℕ) (o : Option ℕ) (s : State) → (bind_elem w k o s).cur ≡ s.cur
  unfolding bind_elem
  elem-cur k None s = refl
  elem-cur k (Some v) s = new-cur (lookup (name_of w v) s.visible)
    where
      new-cur : (o : Option Hit) → (bind_new w o (name_of w v) v k s).cur ≡ s.cur
      new-cur None = unfold bind_new in refl
      new-cur (Some u) = unfold bind_new in refl

  mutual
    unfolding resolve

    resolve-I : (e : Expr) {s t : State} → Indistinct n s t → Indistinct n (resolve w e s) (resolve w e t)
    resolve-I (var v) h = var-I v (w.row v) h
    resolve-I (unresolved x) h = rw (h.finds (indexed x)) (visit-I (w.hushed x) x _ h)
    resolve-I (node f es) h = resolves-I es h
    resolve-I (predicate p) h = h
    resolve-I (comprehension a b p es) {s} {t} h =
        let g = resolves-I es (pattern-I p {t = enter comprehension_scope a b t} (omega (arith, h.high)) (enter-I comprehension_scope a b h)) in
        record { cur = h.cur; last = g.last; log = g.log; finds = h.finds; owns = h.owns; high = g.high }

    pub resolves-I : (es : Exprs) {s t : State} → Indistinct n s t → Indistinct n (resolves w es s) (resolves w es t)
    resolves-I done h = h
    resolves-I (more e es) h = resolves-I es (resolve-I e h)
    resolves-I (mark m es) h = resolves-I es h

    pattern-I : (p : Steps) {s t : State} → n < t.cur → Indistinct n s t → Indistinct n (bind_pattern w p s) (bind_pattern w p t)
    pattern-I end q h = h
    pattern-I (part v r) {s} {t} q h = pattern-I r (omega (arith, path-cur (variable v) t)) (path-I (variable v) q h)
    pattern-I (elem k a b v es r) {s} {t} q h =
        let u = bind_elem w k (variable v) t in
        pattern-I r (omega (arith, elem-cur k (variable v) t, (all_keep w es u).cur)) (resolves-I es (elem-I k (variable v) q h))

-- A list behind another, in which nothing more is found, and nothing is bound above n.
lookup-ahead : (x : Name) (A B : List Seen) → (lookup x A ≡ None → lookup x B ≡ None) → lookup x (A ++ B) ≡ lookup x A
unfolding lookup
lookup-ahead x [] B f = f refl
lookup-ahead x (seen y v p ∷ A) B f = go (same_name x y) f (lookup-ahead x A B)
  where
    go : (b : Bool) → (cond b (Some v) (lookup x A) ≡ None → lookup x B ≡ None) → ((lookup x A ≡ None → lookup x B ≡ None) → lookup x (A ++ B) ≡ lookup x A)
        → cond b (Some v) (lookup x (A ++ B)) ≡ cond b (Some v) (lookup x A)
    go true g ih = refl
    go false g ih = ih g

pub keys-alike : (w : World) (ks : Exprs) (s : State) (A B : List Seen) (c n : ℕ)
    → ((x : Name) → lookup x A ≡ None → lookup x B ≡ None) → ((d : ℕ) (x : Name) → n < d → binds d x B ≡ false) → n ≤ s.last
    → leave s (resolves w ks (standing (A ++ B) c s)) ≡ leave s (resolves w ks (standing A c s))
keys-alike w ks s A B c n f g p =
    let h : Indistinct n (standing (A ++ B) c s) (standing A c s) = record {
      cur = refl;
      last = refl;
      log = refl;
      finds = λ x. lookup-ahead x A B (f x);
      owns = λ d x q. own-append d x A B ∙ ap (◌||◌ (binds d x A)) (g d x q) ∙ or-false (binds d x A);
      high = p;
    } in
    let k = resolves-I w n ks h in
    ap₂ (λ m l. record { visible = s.visible; cur = s.cur; last = m; log = l }) k.last k.log

-- What bound pairs leave visible: the newest first, in the scope c, above the list before.
unfoldable pub seen_in : ℕ → List Pair → List Seen → List Seen
seen_in c [] vis = vis
seen_in c (pair x v ∷ ps) vis = seen_in c ps (seen x (hit v 1) c ∷ vis)

pub bound-seen : (w : World) (ps : List Pair) (s : State) → (bind_all w ps s).visible ≡ seen_in s.cur ps s.visible
unfolding bind_all seen_in
bound-seen w [] s = refl
bound-seen w (pair x v ∷ ps) s = bound-seen w ps (bind_over true x v (kind_of w v) s)

pub bound-last : (w : World) (ps : List Pair) (s : State) → (bind_all w ps s).last ≡ s.last
unfolding bind_all
bound-last w [] s = refl
bound-last w (pair x v ∷ ps) s = bound-last w ps (bind_over true x v (kind_of w v) s)

-- a name that is not found among bound pairs is none of theirs
named-seen : (x : Name) (c : ℕ) (ps : List Pair) (vis : List Seen) → lookup x (seen_in c ps vis) ≡ None → (named x ps ≡ false) × (lookup x vis ≡ None)
unfolding seen_in named lookup
named-seen x c [] vis e = (refl, e)
named-seen x c (pair y v ∷ ps) vis e = let h = named-seen x c ps (seen y (hit v 1) c ∷ vis) e in go (same_name x y) h.0 h.1
  where
    go : (b : Bool) → named x ps ≡ false → cond b (Some (hit v 1)) (lookup x vis) ≡ None → ((b || named x ps) ≡ false) × (lookup x vis ≡ None)
    go true p q = absurd (let z : ◌≡◌ {A = ℕ} 0 1 = cc in omega arith)
    go false p q = (p, q)

pub none_first : (a b : Bool) → (a || b) ≡ false → (a ≡ false) × (b ≡ false)
none_first true b e = absurd (true≢false e)
none_first false b e = (refl, e)

named-append : (x : Name) (l m : List Pair) → named x (l ++ m) ≡ false → named x l ≡ false
unfolding named
named-append x [] m e = refl
named-append x (pair y v ∷ l) m e = let h = none_first (same_name x y) (named x (l ++ m)) e in rw h.0 (named-append x l m h.1)

named-reverse : (x : Name) (l m : List Pair) → named x (reverse_aux l m) ≡ false → (named x l ≡ false) × (named x m ≡ false)
unfolding named
named-reverse x [] m e = (refl, e)
named-reverse x (pair y v ∷ l) m e =
    let h = named-reverse x l (pair y v ∷ m) e in
    let k = none_first (same_name x y) (named x m) h.1 in
    rw k.0 (h.0, k.1)

named-without : (x y : Name) (ps : List Pair) → same_name x y ≡ false → named x (without y ps) ≡ named x ps
unfolding named without
named-without x y [] e = refl
named-without x y (pair z v ∷ ps) e = go (same_name y z) refl (named-without x y ps e)
  where
    go : (b : Bool) → same_name y z ≡ b → named x (without y ps) ≡ named x ps → named x (cond b (without y ps) (pair z v ∷ without y ps)) ≡ (same_name x z || named x ps)
    go true p ih = rw (← same→eq y z (subst T (sym p) tt), e) ih
    go false p ih = ap (◌||◌ (same_name x z)) ih

-- each visible name is among the pairs of a star
named-once : (x : Name) (vis : List Seen) → named x (once vis) ≡ false → lookup x vis ≡ None
unfolding once named lookup
named-once x [] e = refl
named-once x (seen y v p ∷ vis) e =
    let h = none_first (same_name x y) (named x (without y (once vis))) e in
    rw h.0 (named-once x vis (sym (named-without x y (once vis) h.0) ∙ h.1))

-- whatever pairs come after them
pub all_found : (vis : List Seen) (ps : List Pair) (c : ℕ) (x : Name) → lookup x (seen_in c (reverse (once vis) ++ ps) []) ≡ None → lookup x vis ≡ None
all_found vis ps c x h =
    named-once x vis (named-reverse x (once vis) [] (named-append x (reverse (once vis)) ps (named-seen x c (reverse (once vis) ++ ps) [] h).0)).0

pub star-found : (w : World) (ps : List Projection) (vis : List Seen) (c : ℕ) (x : Name) → any_star w ps ≡ true → lookup x (seen_in c (carried_by w ps vis) []) ≡ None → lookup x vis ≡ None
unfolding carried_by starred
star-found w ps vis c x e h =
    all_found vis (projected w ps vis) c x (ap (λ (b : Bool). lookup x (seen_in c (cond b (reverse (once vis)) [] ++ projected w ps vis) [])) (sym e) ∙ h)

-- The sort keys of a WITH with a star, in its new Root.
pub star-keys : (w : World) (ps : List Projection) (ks : Exprs) (vis : List Seen) (b n : ℕ) (u : State) → any_star w ps ≡ true → ((d : ℕ) (x : Name) → n < d → binds d x vis ≡ false) → n ≤ u.last
    → sort_by w ks vis (fresh w b (carried_by w ps vis) u) ≡ leave (fresh w b (carried_by w ps vis) u) (resolves w ks (fresh w b (carried_by w ps vis) u))
unfolding sort_by fresh
star-keys w ps ks vis b n u e g p =
    let t = enter root_scope b b (standing [] u.cur u) in
    let v = bind_all w (carried_by w ps vis) t in
    keys-alike w ks v v.visible vis v.cur n
    (λ x q. star-found w ps vis t.cur x e (ap (lookup x) (sym (bound-seen w (carried_by w ps vis) t)) ∙ q)) g (omega (arith, bound-last w (carried_by w ps vis) t))
