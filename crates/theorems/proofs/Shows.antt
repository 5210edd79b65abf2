-- The log so far shows what is visible: lookup on its views, from the current scope, gives what the visible list has, the scope that
-- binds included (`Shows`; `shown`, of all that is visible). In a WITH's sort keys the list before the WITH stands beyond (`ahead-A`). Each
-- step of the walk keeps it: `enter-A`, `path-A`, `elem-A`, `resolves-A`, `pattern-A`, `root-at-A`, `clause-A`, `clauses-A`, and `left-A`,
-- `arm-start-A` where a RETURN or an arm looks from elsewhere; `root-A` and `arm-A` say it where head and arms begin. `settle`: what the log
-- shows between clauses the lists show in the end, since all that is said later stands in scopes above.
use Rattle.std.specs.Prelude.{Option, None, Some}
use Prim.Native.Nat.{ℕ, zero, suc, ◌≤◌, ◌<◌}
use native.Mathlib.Nat.{le_refl}
use native.Mathlib.Omega.{arith}
use mathlib.Core.Path.{◌≡◌, refl, sym, ◌∙◌, ap, ap₂, subst}
use mathlib.Core.Bool.{Bool, true, false, cond, ◌&&◌, ◌||◌, or-false}
use mathlib.Core.List.{List, [], ◌∷◌, ◌++◌, reverse, reverse-cons, reverse-append, append-nil}
use lib.Dec.{eqb, ltb, lt→ltb}
use Rattle.tables.specs.Row.{value_kind, path_kind}
use Rattle.scope.specs.Graph.{return_scope, with_barrier, call_scope, unwind_scope, root_scope, Scope, scope, carried, Name, indexed, same_name}
use Rattle.expr.specs.Tree.{Exprs, Steps, end, part, elem, done}
use Rattle.clauses.specs.Tree.{Yield, yield, Opening, match, create, merge, Clause, opening, reading, with', return, unwind, call, Arm, exprs, keys_of}
use Rattle.sheet.specs.Statement.{Statement}
use Rattle.semantics.specs.Log.{e1002, Finding, finding, bound, Event, open', bind, carry, find, scopes_in, carries_in, opened, logs}
use Rattle.scope.specs.Lookup.{bound_in, kind_at, parent_at, passes, carries}
use Rattle.scope.specs.Lookup.{Looked, at, answer_at, climb, lookup_in}
use Rattle.scope.proofs.Climbing.{same-below}
use Rattle.semantics.specs.Lists.{puts, scopes, bindings, carried_list}
use Rattle.semantics.specs.World.{World, hush, variable, opens, yield_name, name_of, kind_of, world_of}
use Rattle.semantics.specs.Resolve.{Hit, hit, variable_of, Seen, seen, Pair, pair, State, lookup, binds, say, say_if, enter, bind_over, leave, standing, bind_anew, bind_new, bind_path, bind_elem, resolves, bind_pattern, carried_by, carry_all, bind_all, barrier, fresh, yields, aliases, sort_by, clause, clauses, arms, start, run, log}
use Rattle.theorems.proofs.Views.{opened-append, scopes-append, binds-append, carried-append, opened-reverse}
use Rattle.theorems.proofs.Adds.{after, resolves-after, clauses-after, arms-after}
use Rattle.theorems.proofs.Keeps.{Keeps, all_keep}
use Rattle.theorems.proofs.Within.{Within, nil, cons, inside, within-reverse, Well, standing-W, enter-W, carry-W, bind-W, find-W, anew-W, path-W, elem-W, carry_all-W, resolves-W, clauses-W, arms-W}
use Rattle.theorems.specs.Site.{silent}
use Rattle.theorems.specs.Uses.{seen_as}
use Rattle.theorems.specs.Agree.{look, in_lists}
use Rattle.theorems.proofs.Placed.{start-W, silent-W}
use Rattle.theorems.proofs.Looks.{newest, carries-append, newest-append, look-stays, look-by, look-open}
use Rattle.theorems.proofs.Tests.{holds, eqb_same}
use Rattle.theorems.proofs.Names.{same_comm}

-- a scope other than 0, and what lies within it alone
one-above : (s : ℕ) → 0 < s → (r : ℕ) × (s ≡ suc r)
one-above zero h = absurd (omega arith)
one-above (suc r) h = (r, refl)

just-find : (n : ℕ) (f : Finding) → Within n n (find f ∷ [])
unfolding inside
just-find n f = cons tt nil

just-open : (n : ℕ) (s : Scope) → Within n n (open' s ∷ [])
unfolding inside
just-open n s = cons tt nil

just-bind : (o g : Bool) (s : ℕ) (y : Name) (v k : ℕ) {r : ℕ} → s ≡ suc r → Within r s (bind o g (bound s y v k) ∷ [])
unfolding inside
just-bind o g s y v k e = cons {e = bind o g (bound s y v k)} (omega arith, omega arith) nil

just-carry : (s : ℕ) (y : Name) (v : ℕ) {r : ℕ} → s ≡ suc r → Within r s (carry (carried s y v) ∷ [])
unfolding inside
just-carry s y v e = cons {e = carry (carried s y v)} (omega arith, omega arith) nil

answer-bind : (s v : ℕ) (o : Option ℕ) (c g : Bool) (p : Option ℕ) (f h : ℕ → Looked) → ((q : ℕ) → q < s → f q ≡ h q)
    → answer_at s (cond c (Some v) o) g p f ≡ cond c (at v s) (answer_at s o g p h)
unfolding answer_at
answer-bind s v o true g p f h e = refl
answer-bind s v o false g p f h e = same-below s o g p f h e

look-bind : (o g : Bool) (l : List Event) (s : ℕ) (y : Name) (v k : ℕ) (x : Name) → 0 < s → s < opened l → look (l ++ bind o g (bound s y v k) ∷ []) s x ≡ cond (same_name x y) (at v s) (look l s x)
look-bind o g l s y v k x z q =
    let m = bind o g (bound s y v k) ∷ [] in
    let j = one-above s z in
    look-by (l ++ m) s x (omega (arith, opened-append l m))
    ∙ rw (scopes-append l m, binds-append l m, carried-append l m, newest-append)
    (unfold logs newest in
    rw (append-nil (scopes_in l), append-nil (carries_in l), eqb_same s, same_comm y x)
    (answer-bind s v _ (same_name x y) _ _ _ (λ p. look l p x) (λ p h. look-stays l p x (just-bind o g s y v k j.1) (omega (arith, j.1)) (omega arith))))
    ∙ ap (cond (same_name x y) (at v s)) (sym (look-by l s x q))

-- A name that a barrier carries changes nothing for the others.
look-carry : (l : List Event) (s : ℕ) (y : Name) (v : ℕ) (x : Name) → same_name x y ≡ false → 0 < s → s < opened l → look (l ++ carry (carried s y v) ∷ []) s x ≡ look l s x
look-carry l s y v x n z q =
    let m = carry (carried s y v) ∷ [] in
    look-by (l ++ m) s x (omega (arith, opened-append l m))
    ∙ rw (scopes-append l m, binds-append l m, carried-append l m, newest-append)
    (unfold logs newest in
    rw (append-nil (scopes_in l), carries-append (carries_in l) (carried s y v ∷ []) s x, one s y v x n, or-false (carries (carries_in l) s x))
    (same-below s _ _ _ _ (λ p. look l p x) (λ p h. below p h)))
    ∙ sym (look-by l s x q)
  where
    one : (s : ℕ) (y : Name) (v : ℕ) (x : Name) → same_name x y ≡ false → carries (carried s y v ∷ []) s x ≡ false
    one s y v x n = unfold carries in rw (eqb_same s, same_comm y x, n) refl

    below : (p : ℕ) → p < s → look (l ++ carry (carried s y v) ∷ []) p x ≡ look l p x
    below p h = let j = one-above s z in look-stays l p x (just-carry s y v j.1) (omega (arith, j.1)) (omega arith)

-- The log so far shows what is visible, but for some names, and but for what stands beyond.
unfoldable pub named : Name → List Pair → Bool
named x [] = false
named x (pair y v ∷ ps) = same_name x y || named x ps

pub record Shows (but : List Pair) (beyond : List Seen) (s : State) : Type 0 where
  pub fine : Well 0 0 s
  pub low : s.cur ≤ s.last
  pub reach : List Seen
  pub splits : s.visible ≡ reach ++ beyond
  pub gives : (x : Name) → named x but ≡ false → look (reverse s.log) s.cur x ≡ seen_as x reach

pub shown : {s : State} → Shows [] [] s → (x : Name) → look (reverse s.log) s.cur x ≡ seen_as x s.visible
unfolding named
shown h x = h.gives x refl ∙ ap (seen_as x) (sym (h.splits ∙ append-nil h.reach))

pub count : {s : State} → Well 0 0 s → opened (reverse s.log) ≡ suc s.last
unfolding logs
count {s} h = omega (arith, h.count, opened-reverse s.log [])

-- What is said later, in scopes above, changes nothing.
stays : {but : List Pair} {beyond : List Seen} {s t : State} {hi : ℕ} (m : List Event) → Shows but beyond s → Keeps s t → t.log ≡ m ++ s.log → Within s.last hi m
    → s.last ≤ t.last → Well 0 0 t → Shows but beyond t
stays {s = s} {t = t} m h k e p l f = record {
  fine = f;
  low = omega (arith, h.low, k.cur);
  reach = h.reach;
  splits = k.visible ∙ h.splits;
  gives = λ x n.
      ap₂ (λ y c. look (reverse y) c x) e k.cur ∙ ap (λ y. look y s.cur x) (reverse-append m s.log)
      ∙ look-stays (reverse s.log) s.cur x (within-reverse p nil) h.low (omega (arith, count h.fine, h.low)) ∙ h.gives x n;
}

pub opening-kind : (o : Opening) → eqb (opens o) with_barrier ≡ false
unfolding opens
opening-kind (match o) = refl
opening-kind create = refl
opening-kind merge = refl

module _ (w : World) where
  pub resolves-A : {but : List Pair} {beyond : List Seen} {s : State} (es : Exprs) → Shows but beyond s → Shows but beyond (resolves w es s)
  resolves-A {s = s} es h =
      let n = s.last in
      let r = resolves-W w 0 0 es h.fine in
      stays (resolves w es (silent s)).log h (all_keep w es s) (ap (λ (t : State). t.log) (resolves-after w s.log es (silent s)))
      (resolves-W w n (suc n) es (silent-W n s refl)).fine.within r.later r.fine

  bind-A : {but : List Pair} {beyond : List Seen} {s : State} (over : Bool) (x : Name) (v k : ℕ) → 0 < s.cur → Shows (pair x v ∷ but) beyond s → Shows but beyond (bind_over over x v k s)
  unfolding named seen_as variable_of
  bind-A {but} {beyond} {s} over x v k z h = record {
    fine = (bind-W w 0 0 over x v k z h.low h.fine).fine;
    low = h.low;
    reach = seen x (hit v (cond over 1 0)) s.cur ∷ h.reach;
    splits = ap (◌∷◌ (seen x (hit v (cond over 1 0)) s.cur)) h.splits;
    gives = λ y n.
        ap (λ l. look l s.cur y) (reverse-cons (bind over (binds s.cur x s.visible) (bound s.cur x v k)) s.log)
        ∙ look-bind over (binds s.cur x s.visible) (reverse s.log) s.cur x v k y z (omega (arith, count h.fine, h.low))
        ∙ go y (same_name y x) refl n (h.gives y);
  }
    where
      go : (y : Name) (b : Bool) → same_name y x ≡ b → named y but ≡ false → ((same_name y x || named y but) ≡ false → look (reverse s.log) s.cur y ≡ seen_as y h.reach)
          → cond b (at v s.cur) (look (reverse s.log) s.cur y) ≡ cond b (at v s.cur) (seen_as y h.reach)
      go y true e n f = refl
      go y false e n f = f (rw e n)

  more : {beyond : List Seen} {s : State} (p : Pair) → Shows [] beyond s → Shows (p ∷ []) beyond s
  unfolding named
  more p h = record { fine = h.fine; low = h.low; reach = h.reach; splits = h.splits; gives = λ x n. h.gives x refl }

  find-A : (b : Bool) (f : Finding) {beyond : List Seen} {s : State} → Shows [] beyond s → Shows [] beyond (say_if b (find f) s)
  unfolding say_if
  find-A true f {s = s} h = stays (find f ∷ []) h (record { visible = refl; cur = refl }) refl (just-find s.last f) (le_refl _) (find-W w 0 0 true f h.fine).fine
  find-A false f h = h

  anew-A : (a b : ℕ) (x : Name) (v k : ℕ) {beyond : List Seen} {s : State} → 0 < s.cur → Shows [] beyond s → Shows [] beyond (bind_anew w a b x v k s)
  unfolding bind_anew
  anew-A a b x v k {s = s} z h = find-A (w.warns && binds s.cur x s.visible) (finding e1002 a b (Some x) 0 0) (bind-A false x v k z (more (pair x v) h))

  new-A : (o : Option Hit) (x : Name) (v k : ℕ) {beyond : List Seen} {s : State} → 0 < s.cur → Shows [] beyond s → Shows [] beyond (bind_new w o x v k s)
  unfolding bind_new
  new-A None x v k z h = bind-A false x v k z (more (pair x v) h)
  new-A (Some u) x v k z h = h

  pub path-A : (o : Option ℕ) {beyond : List Seen} {s : State} → 0 < s.cur → Shows [] beyond s → Shows [] beyond (bind_path w o s)
  unfolding bind_path
  path-A None z h = h
  path-A (Some v) z h = anew-A 0 0 (name_of w v) v path_kind z h

  pub elem-A : (k : ℕ) (o : Option ℕ) {beyond : List Seen} {s : State} → 0 < s.cur → Shows [] beyond s → Shows [] beyond (bind_elem w k o s)
  unfolding bind_elem
  elem-A k None z h = h
  elem-A k (Some v) {s = s} z h = new-A (lookup (name_of w v) s.visible) (name_of w v) v k z h

  pub pattern-A : (p : Steps) {beyond : List Seen} {s : State} → 0 < s.cur → Shows [] beyond s → Shows [] beyond (bind_pattern w p s)
  unfolding bind_pattern
  pattern-A end z h = h
  pattern-A (part p r) z h = pattern-A r (omega (arith, (path-W w 0 0 (variable p) z h.low h.fine).cur)) (path-A (variable p) z h)
  pattern-A (elem k a b v es r) {s = s} z h =
      let t = bind_elem w k (variable v) s in
      pattern-A r (omega (arith, (elem-W w 0 0 k (variable v) z h.low h.fine).cur, (all_keep w es t).cur)) (resolves-A es (elem-A k (variable v) z h))

  yields-A : (a b : ℕ) (ys : List Yield) {s : State} → 0 < s.cur → Shows [] [] s → Shows [] [] (yields w a b ys s)
  unfolding yields
  yields-A a b [] z h = h
  yields-A a b (yield x y v ∷ ys) z h = yields-A a b ys (omega (arith, (anew-W w 0 0 a b (indexed (yield_name x y)) v value_kind z h.low h.fine).cur)) (anew-A a b (indexed (yield_name x y)) v value_kind z h)

  -- A scope that is no barrier sees what its parent sees.
  pub enter-A : {but : List Pair} {beyond : List Seen} {s : State} (k a b : ℕ) → eqb k with_barrier ≡ false → Shows but beyond s → Shows but beyond (enter k a b s)
  enter-A {s = s} k a b e h =
      let o = open' (scope k (Some s.cur) a b) in
      record {
        fine = enter-W w 0 0 k a b h.fine;
        low = le_refl _;
        reach = h.reach;
        splits = h.splits;
        gives = λ x n.
            ap (λ l. look l (suc s.last) x) (reverse-cons o s.log)
            ∙ look-open (reverse s.log) [] s.last k s.cur a b x (within-reverse h.fine.within nil) (count h.fine)
            ∙ rw e (unfold logs newest answer_at in rw (holds (ltb s.cur (suc s.last)) (lt→ltb s.cur _ (omega (arith, h.low)))) refl)
            ∙ look-stays (reverse s.log) s.cur x (just-open s.last (scope k (Some s.cur) a b)) h.low (omega (arith, count h.fine, h.low)) ∙ h.gives x n;
      }

  -- A barrier lets nothing through but what it carries.
  neither : (a b : Bool) → (a || b) ≡ false → (a ≡ false) × (b ≡ false)
  neither true b e = (e, absurd (let z : ◌≡◌ {A = ℕ} 0 1 = cc in omega arith))
  neither false b e = (refl, e)

  carry-look : (ps : List Pair) (s : State) (x : Name) → 0 < s.cur → s.cur ≤ s.last → Well 0 0 s → named x ps ≡ false
      → look (reverse (carry_all w ps s).log) s.cur x ≡ look (reverse s.log) s.cur x
  unfolding carry_all named
  carry-look [] s x z l h n = refl
  carry-look (pair y v ∷ ps) s x z l h n =
      let e = neither (same_name x y) (named x ps) n in
      carry-look ps (say (carry (carried s.cur y v)) s) x z l (carry-W w 0 0 y v z l h) e.1
      ∙ ap (λ m. look m s.cur x) (reverse-cons (carry (carried s.cur y v)) s.log)
      ∙ look-carry (reverse s.log) s.cur y v x e.0 z (omega (arith, count h))

  barrier-A : {s : State} (a b : ℕ) (ps : List Pair) → Shows [] [] s → let u = barrier w a b ps s in Shows ps [] (standing [] u.cur u)
  unfolding barrier
  barrier-A {s} a b ps h =
      let t = enter with_barrier a b s in
      let f = enter-W w 0 0 with_barrier a b h.fine in
      let r = carry_all-W w 0 0 ps {s = t} (omega arith) (le_refl _) f in
      record {
        fine = standing-W w 0 0 [] _ r.fine;
        low = omega (arith, r.cur, r.later);
        reach = [];
        splits = refl;
        gives = λ x n.
            ap (λ c. look (reverse (carry_all w ps t).log) c x) r.cur ∙ carry-look ps t x (omega arith) (le_refl _) f n
            ∙ ap (λ l. look l (suc s.last) x) (reverse-cons (open' (scope with_barrier (Some s.cur) a b)) s.log)
            ∙ look-open (reverse s.log) [] s.last with_barrier s.cur a b x (within-reverse h.fine.within nil) (count h.fine)
            ∙ unfold logs newest answer_at carries seen_as in refl;
      }

  bind_all-A : (ps : List Pair) {s : State} → 0 < s.cur → Shows ps [] s → Shows [] [] (bind_all w ps s)
  unfolding bind_all
  bind_all-A [] z h = h
  bind_all-A (pair x v ∷ ps) z h = bind_all-A ps z (bind-A true x v (kind_of w v) z h)

  -- the state in which a RETURN's expressions look from outside its scope
  pub left-A : (k a b : ℕ) {s : State} → Shows [] [] s → Shows [] [] (leave s (enter k a b s))
  left-A k a b {s} h =
      stays (open' (scope k (Some s.cur) a b) ∷ []) h (record { visible = refl; cur = refl }) refl (just-open s.last (scope k (Some s.cur) a b)) (omega arith)
      (standing-W w 0 0 s.visible s.cur (enter-W w 0 0 k a b h.fine))

  -- a WITH's new Root; and where its sort keys look, the list vis beyond
  pub root-at-A : {s : State} (a b : ℕ) (ps : List Pair) → Shows [] [] s → Shows [] [] (fresh w b ps (barrier w a b ps s))
  unfolding fresh
  root-at-A {s} a b ps h =
      let u = barrier w a b ps s in
      bind_all-A ps {s = enter root_scope b b (standing [] u.cur u)} (omega arith) (enter-A root_scope b b refl (barrier-A a b ps h))

  pub ahead-A : (vis : List Seen) {s : State} → Shows [] [] s → Shows [] vis (standing (s.visible ++ vis) s.cur s)
  ahead-A vis {s} h = record { fine = standing-W w 0 0 (s.visible ++ vis) s.cur h.fine; low = h.low; reach = s.visible; splits = refl; gives = λ x n. shown h x }

  -- expressions that are resolved with another list visible, from the same or an outer scope, change nothing
  away-A : (v : World) (es : Exprs) (vis : List Seen) (c : ℕ) {s : State} → Shows [] [] s → Shows [] [] (leave s (resolves v es (standing vis c s)))
  away-A v es vis c {s} h =
      let n = s.last in
      let t = standing vis c s in
      let r = resolves-W v 0 0 es (standing-W w 0 0 vis c h.fine) in
      stays (resolves v es (silent t)).log h (record { visible = refl; cur = refl }) (ap (λ (u : State). u.log) (resolves-after v s.log es (silent t)))
      (resolves-W v n (suc n) es (silent-W n t refl)).fine.within r.later (standing-W w 0 0 _ _ r.fine)

  pub clause-A : (t : Clause) {s : State} → Shows [] [] s → Shows [] [] (clause w t s)
  unfolding clause sort_by
  clause-A (opening o a b p) {s} h = pattern-A p {s = enter (opens o) a b s} (omega arith) (enter-A (opens o) a b (opening-kind o) h)
  clause-A (reading r a b es) h = resolves-A es h
  clause-A (with' a b ps f ks) {s} h =
      away-A w (keys_of ks) _ _ (root-at-A a b (carried_by w ps s.visible) (resolves-A (exprs ps f) h))
  clause-A (return a b ps ks) {s} h =
      let r = resolves w (exprs ps done) (leave s (enter return_scope a b s)) in
      let k = all_keep w (exprs ps done) (leave s (enter return_scope a b s)) in
      let e : r ≡ standing s.visible s.cur r = λ i. record { visible = k.visible i; cur = k.cur i; last = r.last; log = r.log } in
      let v = hush (aliases ps) w in
      subst (λ u. Shows [] [] (standing s.visible (suc s.last) (resolves v (keys_of ks) u))) (sym e)
      (away-A v (keys_of ks) s.visible s.cur (away-A w (exprs ps done) s.visible s.cur (enter-A return_scope a b refl h)))
  clause-A (unwind a b v e) {s} h = bind-A {s = enter unwind_scope a b s} false (name_of w v) v value_kind (omega arith) (more (pair (name_of w v) v) (enter-A unwind_scope a b refl h))
  clause-A (call a b es ys) {s} h = yields-A a b ys {s = enter call_scope a b s} (omega arith) (enter-A call_scope a b refl h)

  pub clauses-A : (ts : List Clause) {s : State} → Shows [] [] s → Shows [] [] (clauses w ts s)
  unfolding clauses
  clauses-A [] h = h
  clauses-A (t ∷ ts) h = clauses-A ts (clause-A t h)

  -- scope 0 shows nothing, whatever clauses are run from it
  pub arm-start-A : (cs : List Clause) (s : State) → Shows [] [] (standing [] 0 s) → Shows [] [] (standing [] 0 (clauses w cs (standing [] 0 s)))
  arm-start-A cs s h =
      let t = standing [] 0 s in
      let n = s.last in
      let p = clauses-after w s.log cs (silent t) in
      let g = clauses-W w n (suc n) cs (silent-W n t refl) in
      stays (clauses w cs (silent t)).log h (record { visible = refl; cur = refl }) (ap (λ (x : State). x.log) p) g.within (omega (arith, g.low, ap (λ (x : State). x.last) p))
      (standing-W w 0 0 [] 0 (clauses-W w 0 0 cs h.fine))

module _ (warns : Bool) (s : Statement) where
  abbrev w : World
  w = world_of warns s

  pub root-A : Shows [] [] (start s)
  unfolding start logs look lookup_in climb answer_at bound_in passes kind_at parent_at puts seen_as carries
  root-A = record { fine = start-W warns s; low = le_refl _; reach = []; splits = refl; gives = λ x n. refl }

  -- an arm begins with nothing visible, at scope 0
  pub arm-A : (earlier : List Arm) → Shows [] [] (standing [] 0 (arms w earlier (clauses w s.head (start s))))
  unfolding start
  arm-A earlier =
      let f = arms-W w 0 0 earlier (clauses-W w 0 0 s.head (start-W warns s)) in
      stays (arms w earlier (clauses w s.head (silent (start s)))).log root-A (record { visible = refl; cur = refl })
      (ap (λ (t : State). t.log) (ap (arms w earlier) (clauses-after w (start s).log s.head (silent (start s))) ∙ arms-after w (start s).log earlier _))
      (arms-W w 0 1 earlier (clauses-W w 0 1 s.head (silent-W 0 (start s) refl))).within (omega arith) (standing-W w 0 0 [] 0 f)

  -- What the log shows between clauses, the lists show in the end.
  pub settle : {t : State} → Shows [] [] t → (after : List Clause) (later : List Arm) (x : Name) → run warns s ≡ arms w later (clauses w after t) → in_lists warns s t.cur x ≡ seen_as x t.visible
  unfolding in_lists scopes bindings carried_list log
  settle {t} h after later x e =
      let n = t.last in
      let u = arms w later (clauses w after (silent t)) in
      let m : (run warns s).log ≡ u.log ++ t.log
      = ap (λ (r : State). r.log) (e ∙ ap (arms w later) (clauses-after w t.log after (silent t)) ∙ arms-after w t.log later (clauses w after (silent t))) in
      in-log ∙ ap (λ y. look (reverse y) t.cur x) m ∙ ap (λ y. look y t.cur x) (reverse-append u.log t.log)
      ∙ look-stays (reverse t.log) t.cur x (within-reverse (arms-W w n (suc n) later (clauses-W w n (suc n) after (silent-W n t refl))).within nil) h.low (omega (arith, count h.fine, h.low))
      ∙ shown h x
    where
      in-log : in_lists warns s t.cur x ≡ look (reverse (run warns s).log) t.cur x
      in-log = unfold in_lists look scopes bindings carried_list log in refl
