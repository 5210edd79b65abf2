-- What the bindings list and the carried list need, exactly: `needs`. A binding that says that its scope binds the name already says so where
-- an entry is replaced, since a scope's names are visible from their binding until the walk leaves it for good. `listed` is the bindings list
-- of a log that is newest first, `binds_already` whether such a log binds a name in a scope. `Counted s`: the log of s has as many entries as
-- it says to make, and nothing visible stands in a scope that is still to come; expressions and clauses keep it (`resolves-N`, `clause-N`,
-- `clauses-N`, `arms-N`). `Owns s`: besides, what is visible of the current scope is what the log binds there; so from its opening on, as
-- long as names are bound in it (`enter-N`, `bind-N`, `pattern-N`).
use Rattle.std.specs.Prelude.{Option, None, Some}
use Prim.Native.Nat.{ℕ, suc, ◌+◌, ◌≤◌, ◌<◌}
use native.Mathlib.Nat.{add-zero, le_refl}
use native.Mathlib.Omega.{arith}
use mathlib.Core.Path.{◌≡◌, refl, sym, ◌∙◌, ap, ap₂, subst}
use mathlib.Core.Bool.{Bool, true, false, cond, not, ◌&&◌, ◌||◌, and_comm, or_assoc}
use mathlib.Core.List.{List, [], ◌∷◌, ◌++◌, reverse_aux, flat_map}
use lib.Dec.{T, eqb, eqb→eq}
use lib.ListN.{length}
use Rattle.scope.specs.Graph.{comprehension_scope, return_scope, with_barrier, call_scope, unwind_scope, root_scope, carried, Entry, entry, Name, indexed, same_name}
use Rattle.expr.specs.Tree.{Expr, var, unresolved, node, predicate, comprehension, Exprs, done, more, mark, Steps, end, part, elem}
use Rattle.clauses.specs.Tree.{Yield, yield, Clause, opening, reading, with', return, unwind, call, Arm, arm, exprs, keys_of}
use Rattle.tables.specs.Row.{value_kind, path_kind, Row, row}
use Rattle.sheet.specs.Statement.{Statement}
use Rattle.semantics.specs.Log.{e1001, e1002, Finding, finding, Write, bound, Event, open', bind, carry, answer, find, bind_of, binds_in, carries_in, logs}
use Rattle.semantics.specs.World.{World, hush, variable, opens, yield_name, name_of, kind_of, world_of}
use Rattle.semantics.specs.Resolve.{Hit, hit, Seen, seen, Pair, pair, State, lookup, binds, say, say_if, enter, bind_over, standing, use_var, use_name, visit, bind_anew, bind_new, bind_path, bind_elem, resolve, resolves, bind_pattern, carried_by, carry_all, bind_all, barrier, fresh, yields, aliases, sort_by, clause, clauses, arms, start, run, log}
use Rattle.semantics.specs.Lists.{put, puts, lists}
use Rattle.theorems.specs.Site.{silent}
use Rattle.theorems.specs.Needs.{made_one, made, carried_in, Needs}
use Rattle.theorems.proofs.Adds.{resolves-after}
use Rattle.theorems.proofs.Keeps.{all_keep}
use Rattle.theorems.proofs.Within.{Within, nil, cons, inside, Well, standing-W, enter-W, answer-W, find-W, carry-W, bind-W, resolves-W, pattern-W, bind_all-W, carry_all-W}
use Rattle.theorems.proofs.Entries.{puts-append}
use Rattle.theorems.proofs.Placed.{start-W, silent-W}
use Rattle.theorems.proofs.Tests.{both, ne→eqb, eqb_comm}
use Rattle.theorems.proofs.Names.{same→eq}

-- The bindings list of a log that is newest first.
unfoldable pub listed : List Event → List Entry
listed [] = []
listed (e ∷ l) = puts (bind_of e) (listed l)

pub listed-reverse : (l m : List Event) → puts (binds_in (reverse_aux l m)) [] ≡ puts (binds_in m) (listed l)
unfolding listed binds_in flat_map
listed-reverse [] m = refl
listed-reverse (e ∷ l) m = listed-reverse l (e ∷ m) ∙ puts-append (bind_of e) (binds_in m) (listed l)

-- whether an entry has the scope c and the name x; and what a binding makes of that, and of how many there are
unfoldable has : ℕ → Name → List Entry → Bool
has c x [] = false
has c x (entry t y u k r ∷ es) = eqb c t && same_name x y || has c x es

has-put : (c : ℕ) (x : Name) (t : ℕ) (y : Name) (v k : ℕ) (es : List Entry) → has c x (put (bound t y v k) es) ≡ (eqb c t && same_name x y || has c x es)
unfolding has put
has-put c x t y v k [] = refl
has-put c x t y v k (entry o z u j r ∷ es) = go (eqb t o && same_name y z) refl (has-put c x t y v k es)
  where
    twice : (a b : Bool) → a || b ≡ a || (a || b)
    twice true b = refl
    twice false b = refl

    turn : (a b d : Bool) → a || (b || d) ≡ b || (a || d)
    turn true true d = refl
    turn true false d = refl
    turn false b d = refl

    go : (a : Bool) → eqb t o && same_name y z ≡ a → has c x (put (bound t y v k) es) ≡ (eqb c t && same_name x y || has c x es)
        → has c x (cond a (entry t y v k (Some u) ∷ es) (entry o z u j r ∷ put (bound t y v k) es)) ≡ (eqb c t && same_name x y || (eqb c o && same_name x z || has c x es))
    go true e ih =
        let f = both (eqb t o) (same_name y z) (subst T (sym e) tt) in
        rw (← eqb→eq t o f.0, ← same→eq y z f.1) (twice (eqb c t && same_name x y) (has c x es))
    go false e ih = rw ih (turn (eqb c o && same_name x z) (eqb c t && same_name x y) (has c x es))

put-length : (c : ℕ) (x : Name) (v k : ℕ) (es : List Entry) → length (put (bound c x v k) es) ≡ cond (has c x es) (length es) (suc (length es))
unfolding has put
put-length c x v k [] = refl
put-length c x v k (entry t y u j r ∷ es) = go (eqb c t && same_name x y) (has c x es) (put-length c x v k es)
  where
    go : (a b : Bool) → length (put (bound c x v k) es) ≡ cond b (length es) (suc (length es))
        → length (cond a (entry c x v k (Some u) ∷ es) (entry t y u j r ∷ put (bound c x v k) es)) ≡ cond (a || b) (suc (length es)) (suc (suc (length es)))
    go true b e = refl
    go false true e = ap suc e
    go false false e = ap suc e

-- Whether a log binds the name x in the scope c.
unfoldable pub binds_already : ℕ → Name → List Event → Bool
binds_already c x [] = false
binds_already c x (open' s ∷ l) = binds_already c x l
binds_already c x (bind o g (bound t y v k) ∷ l) = same_name x y && eqb t c || binds_already c x l
binds_already c x (carry d ∷ l) = binds_already c x l
binds_already c x (answer a ∷ l) = binds_already c x l
binds_already c x (find f ∷ l) = binds_already c x l

has_listed : (c : ℕ) (x : Name) (l : List Event) → has c x (listed l) ≡ binds_already c x l
unfolding listed binds_already puts bind_of
has_listed c x [] = unfold has in refl
has_listed c x (open' s ∷ l) = has_listed c x l
has_listed c x (bind o g (bound t y v k) ∷ l) =
    has-put c x t y v k (listed l) ∙ ap₂ ◌||◌ (and_comm (eqb c t) (same_name x y) ∙ ap (◌&&◌ (same_name x y)) (eqb_comm c t)) (has_listed c x l)
has_listed c x (carry d ∷ l) = has_listed c x l
has_listed c x (answer a ∷ l) = has_listed c x l
has_listed c x (find f ∷ l) = has_listed c x l

already-append : (c : ℕ) (x : Name) (m l : List Event) → binds_already c x (m ++ l) ≡ (binds_already c x m || binds_already c x l)
unfolding binds_already
already-append c x [] l = refl
already-append c x (open' s ∷ m) l = already-append c x m l
already-append c x (bind o g (bound t y v k) ∷ m) l =
    rw (already-append c x m l) (sym (or_assoc (same_name x y && eqb t c) (binds_already c x m) (binds_already c x l)))
already-append c x (carry d ∷ m) l = already-append c x m l
already-append c x (answer a ∷ m) l = already-append c x m l
already-append c x (find f ∷ m) l = already-append c x m l

-- a log that binds in other scopes alone
already-other : {lo hi : ℕ} {l : List Event} (c : ℕ) (x : Name) → ((t : ℕ) → lo < t → t ≤ hi → t ≡ c → ⊥) → Within lo hi l → binds_already c x l ≡ false
unfolding binds_already inside
already-other c x f nil = refl
already-other c x f (cons {e = open' s} h p) = already-other c x f p
already-other c x f (cons {e = bind o g (bound t y v k)} h p) =
    rw (ne→eqb t c (f t h.0 h.1), already-other c x f p) (none_of (same_name x y))
  where
    none_of : (a : Bool) → a && false || false ≡ false
    none_of true = refl
    none_of false = refl
already-other c x f (cons {e = carry (carried b y v)} h p) = already-other c x f p
already-other c x f (cons {e = answer a} h p) = already-other c x f p
already-other c x f (cons {e = find a} h p) = already-other c x f p

-- Nothing visible stands in a scope above n.
abbrev Below : ℕ → List Seen → Type 0
Below n vis = (c : ℕ) (x : Name) → n < c → binds c x vis ≡ false

pub own-append : (c : ℕ) (x : Name) (A B : List Seen) → binds c x (A ++ B) ≡ (binds c x A || binds c x B)
unfolding binds
own-append c x [] B = refl
own-append c x (seen y v p ∷ A) B = rw (own-append c x A B) (sym (or_assoc (same_name x y && eqb p c) (binds c x A) (binds c x B)))

pub record Counted (s : State) : Type 0 where
  pub well : Well 0 0 s
  pub below : Below s.last s.visible
  pub counts : length (listed s.log) ≡ made s.log

pub record Owns (s : State) : Type 0 where
  pub counted : Counted s
  pub inner : 0 < s.cur
  pub high : s.cur ≤ s.last
  pub own : (x : Name) → binds s.cur x s.visible ≡ binds_already s.cur x s.log

counted-one : (o g : Bool) (c : ℕ) (x : Name) (v k n : ℕ) → cond g n (suc n) ≡ made_one (bind o g (bound c x v k)) n
counted-one o true c x v k n = refl
counted-one o false c x v k n = refl

-- what is said besides bindings counts nothing
unfoldable Plain : Event → Type 0
Plain (open' s) = Unit {0}
Plain (bind o g b) = ⊥
Plain (carry c) = Unit {0}
Plain (answer a) = Unit {0}
Plain (find f) = Unit {0}

plain-counts : (e : Event) (l : List Event) → Plain e → length (listed l) ≡ made l → length (listed (e ∷ l)) ≡ made (e ∷ l)
unfolding Plain listed made bind_of puts
plain-counts (open' s) l p h = h
plain-counts (bind o g b) l p h = absurd p
plain-counts (carry c) l p h = h
plain-counts (answer a) l p h = h
plain-counts (find f) l p h = h

module _ (w : World) where
  answer-N : (a : Write) {s : State} → Counted s → Counted (say (answer a) s)
  unfolding Plain
  answer-N a {s} h = record { well = answer-W w 0 0 a h.well; below = h.below; counts = plain-counts (answer a) s.log tt h.counts }

  find-N : (b : Bool) (f : Finding) {s : State} → Counted s → Counted (say_if b (find f) s)
  unfolding say_if Plain
  find-N true f {s} h = record { well = (find-W w 0 0 true f h.well).fine; below = h.below; counts = plain-counts (find f) s.log tt h.counts }
  find-N false f h = h

  find-O : (b : Bool) (f : Finding) {s : State} → Owns s → Owns (say_if b (find f) s)
  unfolding say_if binds_already
  find-O true f h = record { counted = find-N true f h.counted; inner = h.inner; high = h.high; own = h.own }
  find-O false f h = h

  -- a new scope owns nothing
  pub enter-N : (k a b : ℕ) {s : State} → Counted s → Owns (enter k a b s)
  unfolding binds_already Plain
  enter-N k a b {s} h = record {
    counted = record { well = enter-W w 0 0 k a b h.well; below = λ c x p. h.below c x (omega arith); counts = plain-counts _ s.log tt h.counts };
    inner = omega arith;
    high = le_refl _;
    own = λ x. h.below (suc s.last) x (le_refl _) ∙ sym (already-other (suc s.last) x (λ t p q e. omega arith) h.well.within);
  }

  carry-N : (x : Name) (v : ℕ) {s : State} → Owns s → Owns (say (carry (carried s.cur x v)) s)
  unfolding binds_already Plain
  carry-N x v {s} h = record {
    counted = record { well = carry-W w 0 0 x v h.inner h.high h.counted.well; below = h.counted.below; counts = plain-counts _ s.log tt h.counted.counts };
    inner = h.inner;
    high = h.high;
    own = h.own;
  }

  pub bind-N : (over : Bool) (x : Name) (v k : ℕ) {s : State} → Owns s → Owns (bind_over over x v k s)
  unfolding binds_already binds listed made bind_of puts
  bind-N over x v k {s} h = record {
    counted = record {
      well = (bind-W w 0 0 over x v k h.inner h.high h.counted.well).fine;
      below = λ c y p. rw (ne→eqb s.cur c (λ e. omega (arith, h.high)), h.counted.below c y p) (none_of (same_name y x));
      counts = put-length s.cur x v k (listed s.log)
          ∙ ap₂ (λ (g : Bool) (n : ℕ). cond g n (suc n)) (has_listed s.cur x s.log ∙ sym (h.own x)) h.counted.counts
          ∙ counted-one over (binds s.cur x s.visible) s.cur x v k (made s.log);
    };
    inner = h.inner;
    high = h.high;
    own = λ y. ap (λ b. same_name y x && eqb s.cur s.cur || b) (h.own y);
  }
    where
      none_of : (a : Bool) → a && false || false ≡ false
      none_of true = refl
      none_of false = refl

  var-N : (v : ℕ) (r : Option Row) {s : State} → Counted s → Counted (use_var w v r s)
  unfolding use_var
  var-N v None h = h
  var-N v (Some (row i x k a b)) h = answer-N _ h

  visit-N : (hushed : Bool) (x : ℕ) (o : Option Hit) {s : State} → Counted s → Counted (visit w hushed x o s)
  unfolding visit use_name
  visit-N true x o h = h
  visit-N false x (Some (hit v u)) h = answer-N _ h
  visit-N false x None h = find-N (not (w.is_star x)) (finding e1001 0 0 (Some (indexed x)) 0 0) (answer-N _ h)

  anew-N : (a b : ℕ) (x : Name) (v k : ℕ) {s : State} → Owns s → Owns (bind_anew w a b x v k s)
  unfolding bind_anew
  anew-N a b x v k {s} h = find-O (w.warns && binds s.cur x s.visible) (finding e1002 a b (Some x) 0 0) (bind-N false x v k h)

  path-N : (o : Option ℕ) {s : State} → Owns s → Owns (bind_path w o s)
  unfolding bind_path
  path-N None h = h
  path-N (Some v) h = anew-N 0 0 (name_of w v) v path_kind h

  new-N : (o : Option Hit) (x : Name) (v k : ℕ) {s : State} → Owns s → Owns (bind_new w o x v k s)
  unfolding bind_new
  new-N None x v k h = bind-N false x v k h
  new-N (Some u) x v k h = h

  elem-N : (k : ℕ) (o : Option ℕ) {s : State} → Owns s → Owns (bind_elem w k o s)
  unfolding bind_elem
  elem-N k None h = h
  elem-N k (Some v) {s} h = new-N (lookup (name_of w v) s.visible) (name_of w v) v k h

  pattern-last : (t : Steps) {s : State} → Owns s → s.last ≤ (bind_pattern w t s).last
  pattern-last t h = (pattern-W w 0 0 t h.inner h.high h.counted.well).later

  -- expressions bind in scopes of their own
  owns-stays : (es : Exprs) {s : State} → Owns s → Counted (resolves w es s) → Owns (resolves w es s)
  owns-stays es {s} h g =
      let n = s.last in
      let k = all_keep w es s in
      let r = resolves-W w 0 0 es h.counted.well in
      let m = (resolves w es (silent s)).log in
      let e : (resolves w es s).log ≡ m ++ s.log = ap (λ (t : State). t.log) (resolves-after w s.log es (silent s)) in
      let p = (resolves-W w n (suc n) es (silent-W n s refl)).fine.within in
      record {
        counted = g;
        inner = omega (arith, h.inner, k.cur);
        high = omega (arith, h.high, k.cur, r.later);
        own = λ x.
            ap₂ (λ c v. binds c x v) k.cur k.visible ∙ h.own x
            ∙ sym (ap₂ (λ c l. binds_already c x l) k.cur e ∙ already-append s.cur x m s.log
            ∙ ap (λ b. b || binds_already s.cur x s.log) (already-other s.cur x (λ t i j q. omega (arith, h.high)) p));
      }

  mutual
    unfolding resolve

    resolve-N : (t : Expr) {s : State} → Counted s → Counted (resolve w t s)
    resolve-N (var v) h = var-N v (w.row v) h
    resolve-N (unresolved x) {s} h = visit-N (w.hushed x) x (lookup (indexed x) s.visible) h
    resolve-N (node f es) h = resolves-N es h
    resolve-N (predicate p) h = h
    resolve-N (comprehension a b p es) {s} h =
        let g = pattern-N p (enter-N comprehension_scope a b h) in
        let k = resolves-N es g.counted in
        let i = resolves-W w 0 0 es g.counted.well in
        let j = pattern-last p (enter-N comprehension_scope a b h) in
        record { well = standing-W w 0 0 s.visible s.cur k.well; below = λ c x q. h.below c x (omega (arith, i.later, j)); counts = k.counts }

    pub resolves-N : (t : Exprs) {s : State} → Counted s → Counted (resolves w t s)
    resolves-N done h = h
    resolves-N (more e es) h = resolves-N es (resolve-N e h)
    resolves-N (mark m es) h = resolves-N es h

    pub pattern-N : (t : Steps) {s : State} → Owns s → Owns (bind_pattern w t s)
    pattern-N end h = h
    pattern-N (part p r) h = pattern-N r (path-N (variable p) h)
    pattern-N (elem k a b v es r) h = let g = elem-N k (variable v) h in pattern-N r (owns-stays es g (resolves-N es g.counted))

  carry_all-N : (ps : List Pair) {s : State} → Owns s → Owns (carry_all w ps s)
  unfolding carry_all
  carry_all-N [] h = h
  carry_all-N (pair x v ∷ ps) h = carry_all-N ps (carry-N x v h)

  bind_all-N : (ps : List Pair) {s : State} → Owns s → Owns (bind_all w ps s)
  unfolding bind_all
  bind_all-N [] h = h
  bind_all-N (pair x v ∷ ps) h = bind_all-N ps (bind-N true x v (kind_of w v) h)

  yields-N : (a b : ℕ) (ys : List Yield) {s : State} → Owns s → Owns (yields w a b ys s)
  unfolding yields
  yields-N a b [] h = h
  yields-N a b (yield x y v ∷ ys) h = yields-N a b ys (anew-N a b (indexed (yield_name x y)) v value_kind h)

-- the same log from elsewhere
standing-N : (w : World) (vis : List Seen) (c : ℕ) {s : State} → Below s.last vis → Counted s → Counted (standing vis c s)
standing-N w vis c b h = record { well = standing-W w 0 0 vis c h.well; below = b; counts = h.counts }

below_up : {m n : ℕ} (vis : List Seen) → m ≤ n → Below m vis → Below n vis
below_up vis p h c x q = h c x (omega arith)

below-append : {n : ℕ} (A B : List Seen) → Below n A → Below n B → Below n (A ++ B)
below-append A B p q c x h = own-append c x A B ∙ rw (p c x h, q c x h) refl

module _ (w : World) where
  -- sort keys, with a list before that stands in earlier scopes
  sort-N : (ks : Exprs) (vis : List Seen) {s : State} → Below s.last vis → Counted s → Counted (sort_by w ks vis s)
  unfolding sort_by
  sort-N ks vis {s} b h =
      let g = standing-N w (s.visible ++ vis) s.cur (below-append s.visible vis h.below b) h in
      standing-N w s.visible s.cur (below_up s.visible (resolves-W w 0 0 ks g.well).later h.below) (resolves-N w ks g)

  -- the barrier and the new Root, which stand above what was visible
  root-N : (a b : ℕ) (ps : List Pair) {s : State} → Counted s → (Counted (fresh w b ps (barrier w a b ps s))) × (s.last ≤ (fresh w b ps (barrier w a b ps s)).last)
  unfolding fresh barrier
  root-N a b ps {s} h =
      let g = enter-N w with_barrier a b h in
      let i = carry_all-N w ps g in
      let u = carry_all w ps (enter with_barrier a b s) in
      let j = enter-N w root_scope b b (standing-N w [] u.cur (λ c x p. unfold binds in refl) i.counted) in
      let k = (carry_all-W w 0 0 ps g.inner g.high g.counted.well).later in
      let l = (bind_all-W w 0 0 ps j.inner j.high j.counted.well).later in
      ((bind_all-N w ps j).counted, omega (arith, k, l))

  pub clause-N : (t : Clause) {s : State} → Counted s → Counted (clause w t s)
  unfolding clause
  clause-N (opening o a b p) h = (pattern-N w p (enter-N w (opens o) a b h)).counted
  clause-N (reading r a b es) h = resolves-N w es h
  clause-N (with' a b ps f ks) {s} h =
      let cs = carried_by w ps s.visible in
      let r = (resolves-W w 0 0 (exprs ps f) h.well).later in
      let g = root-N a b cs (resolves-N w (exprs ps f) h) in
      sort-N (keys_of ks) s.visible (below_up s.visible (omega (arith, r, g.1)) h.below) g.0
  clause-N (return a b ps ks) {s} h =
      let i = (enter-N w return_scope a b h).counted in
      let g = standing-N w s.visible s.cur i.below i in
      let k = resolves-N w (exprs ps done) g in
      let m = resolves-N (hush (aliases ps) w) (keys_of ks) k in
      let j = (resolves-W w 0 0 (exprs ps done) g.well).later in
      let l = (resolves-W (hush (aliases ps) w) 0 0 (keys_of ks) k.well).later in
      standing-N w s.visible (suc s.last) (below_up s.visible (omega (arith, j, l)) h.below) m
  clause-N (unwind a b v e) h = (bind-N w false (name_of w v) v value_kind (enter-N w unwind_scope a b h)).counted
  clause-N (call a b es ys) h = (yields-N w a b ys (enter-N w call_scope a b h)).counted

  pub clauses-N : (ts : List Clause) {s : State} → Counted s → Counted (clauses w ts s)
  unfolding clauses
  clauses-N [] h = h
  clauses-N (t ∷ ts) h = clauses-N ts (clause-N t h)

  pub arms-N : (ts : List Arm) {s : State} → Counted s → Counted (arms w ts s)
  unfolding arms
  arms-N [] h = h
  arms-N (arm a b cs ∷ ts) h = arms-N ts (clauses-N cs (standing-N w [] 0 (λ c x p. unfold binds in refl) h))

carried-many : (l m : List Event) → length (carries_in (reverse_aux l m)) ≡ carried_in l + length (carries_in m)
unfolding logs carried_in
carried-many [] m = omega arith
carried-many (open' s ∷ l) m = carried-many l (open' s ∷ m)
carried-many (bind o g b ∷ l) m = carried-many l (bind o g b ∷ m)
carried-many (carry c ∷ l) m = omega (arith, carried-many l (carry c ∷ m))
carried-many (answer a ∷ l) m = carried-many l (answer a ∷ m)
carried-many (find f ∷ l) m = carried-many l (find f ∷ m)

start-N : (warns : Bool) (st : Statement) → Counted (start st)
unfolding start binds listed made logs puts
start-N warns st = record { well = start-W warns st; below = λ c x p. refl; counts = refl }

-- The two lists have as many entries as the log says.
pub needs : (warns : Bool) (st : Statement) → Needs warns st
unfolding lists log run logs
needs warns st =
    let w = world_of warns st in
    let h = arms-N w st.arms (clauses-N w st.head (start-N warns st)) in
    record {
      bindings = ap length (listed-reverse (run warns st).log []) ∙ h.counts;
      carried_list = carried-many (run warns st).log [] ∙ add-zero (carried_in (run warns st).log);
    }
