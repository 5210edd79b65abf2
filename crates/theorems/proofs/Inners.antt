-- From one comprehension's scope (`inner`): when it is opened lookup from its parent gives what is visible there, as far as it reaches, and
-- in the end it has the names of its pattern, else what its parent has. The finished log is at hand: `Ends` says what of it is still to come
-- (it goes on from here, and binds in no scope up to here but those that patterns around are still in; `ends-back`, `ends-Es`, `ends-S` say it
-- of an earlier state), `Owns` what a pattern's scope binds. `not_in`, `all_le`: scopes that may still be bound in, and that all were opened.
use Rattle.std.specs.Prelude.{Option, None, Some}
use Prim.Native.Nat.{ℕ, suc, ◌≤◌, ◌<◌}
use native.Mathlib.Nat.{le_refl}
use native.Mathlib.Omega.{arith}
use mathlib.Core.Path.{◌≡◌, refl, sym, ◌∙◌, ap, ap₂}
use mathlib.Core.Bool.{Bool, true, false, cond, ◌&&◌}
use mathlib.Core.List.{List, [], ◌∷◌, ◌++◌, reverse, reverse-cons, reverse-append, append_assoc}
use lib.Dec.{eqb, ltb, lt→ltb}
use Rattle.scope.specs.Graph.{comprehension_scope, Scope, scope, Name, same_name}
use Rattle.scope.specs.Lookup.{Looked, at, nothing, answer_at}
use Rattle.expr.specs.Tree.{Exprs, Steps, end, part, elem}
use Rattle.tables.specs.Row.{path_kind}
use Rattle.semantics.specs.Log.{Finding, bound, Event, open', bind, find, binds_in, opened, logs}
use Rattle.semantics.specs.World.{World, variable, name_of}
use Rattle.semantics.specs.Resolve.{Hit, hit, variable_of, Seen, seen, State, lookup, binds, say_if, enter, bind_name, bind_anew, bind_new, bind_path, bind_elem, resolves, bind_pattern}
use Rattle.theorems.specs.Site.{silent}
use Rattle.theorems.specs.Uses.{seen_as}
use Rattle.theorems.specs.Agree.{look, or_parent}
use Rattle.theorems.proofs.Views.{binds-append}
use Rattle.theorems.proofs.Adds.{after, resolves-after, pattern-after}
use Rattle.theorems.proofs.Keeps.{say_if-keeps, all_keep}
use Rattle.theorems.proofs.Within.{Within, nil, within-reverse, Well, enter-W, path-W, elem-W, resolves-W, pattern-W}
use Rattle.theorems.proofs.Placed.{silent-W}
use Rattle.theorems.proofs.Looks.{newest, newest-append, newest-out, over, under, look-open}
use Rattle.theorems.proofs.Shows.{named, count, Shows}
use Rattle.theorems.proofs.Tests.{holds, ne→eqb, eqb_same}
use Rattle.theorems.proofs.Names.{same_comm}

-- a scope's own binding as lookup gives it
abbrev as_looked : ℕ → Option ℕ → Looked
as_looked c None = nothing
as_looked c (Some v) = at v c

looked-cond : (c v : ℕ) (b : Bool) (o : Option ℕ) → as_looked c (cond b (Some v) o) ≡ cond b (at v c) (as_looked c o)
looked-cond c v true o = refl
looked-cond c v false o = refl

-- what the log binds in the scope n
abbrev binds_of : ℕ → Name → List Event → Option ℕ → Option ℕ
binds_of n x l d = newest n x (binds_in (reverse l)) d

-- scopes that may still be bound in
unfoldable pub not_in : ℕ → List ℕ → Type 0
not_in n [] = Unit {0}
not_in n (o ∷ os) = (n ≡ o → ⊥) × not_in n os

unfoldable pub all_le : List ℕ → ℕ → Type 0
all_le [] m = Unit {0}
all_le (o ∷ os) m = (o ≤ m) × all_le os m

pub le-wide : (os : List ℕ) {m n : ℕ} → m ≤ n → all_le os m → all_le os n
unfolding all_le
le-wide [] h a = tt
le-wide (o ∷ os) h a = (omega (arith, a.0), le-wide os h a.1)

above-all : (os : List ℕ) (m : ℕ) → all_le os m → not_in (suc m) os
unfolding all_le not_in
above-all [] m a = tt
above-all (o ∷ os) m a = (λ e. omega (arith, a.0), above-all os m a.1)

answer-parent : (s p : ℕ) (o : Option ℕ) (f : ℕ → Looked) → p < s → answer_at s o true (Some p) f ≡ or_parent (as_looked s o) (f p)
unfolding answer_at or_parent
answer-parent s p (Some v) f h = refl
answer-parent s p None f h = rw (holds (ltb p s) (lt→ltb p s h)) refl

-- a run that binds only in scopes above
above : (f : State → State) (s : State) {hi : ℕ} → f s ≡ after s.log (f (silent s)) → Within s.last hi (f (silent s)).log → (n : ℕ) (x : Name) (d : Option ℕ) → n ≤ s.last
    → binds_of n x (f s).log d ≡ binds_of n x s.log d
above f s e p n x d h =
    let m = (f (silent s)).log in
    ap (λ (t : State). binds_of n x t.log d) e ∙ ap (λ l. newest n x (binds_in l) d) (reverse-append m s.log)
    ∙ rw (binds-append (reverse s.log) (reverse m), newest-append) (newest-out (under h) (within-reverse p nil) x _)

-- one event that binds nothing; one binding
quiet-find : (n : ℕ) (x : Name) (d : Option ℕ) (b : Bool) (f : Finding) (s : State) → binds_of n x (say_if b (find f) s).log d ≡ binds_of n x s.log d
unfolding say_if
quiet-find n x d true f s = ap (λ l. newest n x (binds_in l) d) (reverse-cons (find f) s.log) ∙ rw (binds-append (reverse s.log) (find f ∷ []), newest-append) (unfold logs newest in refl)
quiet-find n x d false f s = refl

one-bind : (n : ℕ) (x : Name) (d : Option ℕ) (y : Name) (v k : ℕ) (s : State)
    → binds_of n x (bind_name y v k s).log d ≡ cond (eqb s.cur n && same_name y x) (Some v) (binds_of n x s.log d)
one-bind n x d y v k s =
    let g = binds s.cur y s.visible in
    ap (λ l. newest n x (binds_in l) d) (reverse-cons (bind false g (bound s.cur y v k)) s.log) ∙ rw (binds-append (reverse s.log) (bind false g (bound s.cur y v k) ∷ []), newest-append) (unfold logs newest in refl)

-- A pattern binds in its own scope and above.
record Clear (n : ℕ) (s t : State) : Type 0 where
  pub same : (x : Name) (d : Option ℕ) → binds_of n x t.log d ≡ binds_of n x s.log d

bind-clear : (n : ℕ) (y : Name) (v k : ℕ) (s : State) → (n ≡ s.cur → ⊥) → Clear n s (bind_name y v k s)
bind-clear n y v k s h = record { same = λ x d. one-bind n x d y v k s ∙ rw (ne→eqb s.cur n (λ e. h (sym e))) refl }

-- What a pattern's scope c binds in the end is what stands above the list before it.
record Owns (c : ℕ) (base : List Seen) (s : State) : Type 0 where
  pub own : List Seen
  pub adds : s.visible ≡ own ++ base
  pub owns : (x : Name) → as_looked c (binds_of c x s.log None) ≡ seen_as x own

bind-O : {c : ℕ} {base : List Seen} (y : Name) (v k : ℕ) (s : State) → s.cur ≡ c → Owns c base s → Owns c base (bind_name y v k s)
unfolding seen_as variable_of
bind-O {c} y v k s e h = record {
  own = seen y (hit v 0) s.cur ∷ h.own;
  adds = ap (◌∷◌ (seen y (hit v 0) s.cur)) h.adds;
  owns = λ x.
      ap (as_looked c) (one-bind c x None y v k s)
      ∙ rw (e, eqb_same c, same_comm y x) (looked-cond c v (same_name x y) (binds_of c x s.log None) ∙ ap (cond (same_name x y) (at v c)) (h.owns x));
}

find-O : {c : ℕ} {base : List Seen} (b : Bool) (f : Finding) (s : State) → Owns c base s → Owns c base (say_if b (find f) s)
find-O {c} b f s h = record { own = h.own; adds = (say_if-keeps b (find f) s).visible ∙ h.adds; owns = λ x. ap (as_looked c) (quiet-find c x None b f s) ∙ h.owns x }

-- a scope that is just opened binds nothing
fresh-none : (a b : ℕ) (s : State) (x : Name) → Well 0 0 s → binds_of (suc s.last) x (enter comprehension_scope a b s).log None ≡ None
fresh-none a b s x f =
    let o = open' (scope comprehension_scope (Some s.cur) a b) in
    ap (λ l. newest (suc s.last) x (binds_in l) None) (reverse-cons o s.log)
    ∙ rw (binds-append (reverse s.log) (o ∷ []), newest-append) (unfold logs newest in newest-out (over (le_refl _)) (within-reverse f.within nil) x None)

fresh-O : (a b : ℕ) (s : State) → Well 0 0 s → Owns (suc s.last) s.visible (enter comprehension_scope a b s)
unfolding seen_as
fresh-O a b s f = record { own = []; adds = refl; owns = λ x. ap (as_looked (suc s.last)) (fresh-none a b s x f) }

no-bind : (sc : Scope) (m : List Event) → binds_in (open' sc ∷ m) ≡ binds_in m
unfolding logs
no-bind sc m = refl

later-binds : (n : ℕ) (x : Name) {last : ℕ} (l m : List Event) (sc : Scope) → last < n → Within 0 last l → newest n x (binds_in (l ++ open' sc ∷ m)) None ≡ newest n x (binds_in m) None
later-binds n x l m sc h p = rw (binds-append l (open' sc ∷ m), newest-append, newest-out (over h) p x None, no-bind sc m) refl

-- a pattern's steps
module _ (w : World) where
  path-clear : (n : ℕ) (o : Option ℕ) (s : State) → (n ≡ s.cur → ⊥) → Clear n s (bind_path w o s)
  unfolding bind_path bind_anew
  path-clear n None s h = record { same = λ x d. refl }
  path-clear n (Some v) s h = record { same = λ x d. quiet-find n x d _ _ (bind_name (name_of w v) v path_kind s) ∙ (bind-clear n (name_of w v) v path_kind s h).same x d }

  new-clear : (n : ℕ) (o : Option Hit) (y : Name) (v k : ℕ) (s : State) → (n ≡ s.cur → ⊥) → Clear n s (bind_new w o y v k s)
  unfolding bind_new
  new-clear n None y v k s h = bind-clear n y v k s h
  new-clear n (Some u) y v k s h = record { same = λ x d. refl }

  elem-clear : (n k : ℕ) (o : Option ℕ) (s : State) → (n ≡ s.cur → ⊥) → Clear n s (bind_elem w k o s)
  unfolding bind_elem
  elem-clear n k None s h = record { same = λ x d. refl }
  elem-clear n k (Some v) s h = new-clear n (lookup (name_of w v) s.visible) (name_of w v) v k s h

  es-clear : (n : ℕ) (es : Exprs) (s : State) → n ≤ s.last → Clear n s (resolves w es s)
  es-clear n es s h = record { same = λ x d. above (resolves w es) s (resolves-after w s.log es (silent s)) (resolves-W w s.last (suc s.last) es (silent-W s.last s refl)).fine.within n x d h }

  pattern-clear : (n : ℕ) (q : Steps) {s : State} → 0 < s.cur → s.cur ≤ s.last → Well 0 0 s → n ≤ s.last → (n ≡ s.cur → ⊥) → Clear n s (bind_pattern w q s)
  unfolding bind_pattern
  pattern-clear n end z l f h i = record { same = λ x d. refl }
  pattern-clear n (part p r) {s} z l f h i =
      let g = path-W w 0 0 (variable p) z l f in
      let c = pattern-clear n r (omega (arith, g.cur)) (omega (arith, g.cur, g.later)) g.fine (omega (arith, g.later)) (λ e. i (e ∙ g.cur)) in
      record { same = λ x d. c.same x d ∙ (path-clear n (variable p) s i).same x d }
  pattern-clear n (elem k a b v es r) {s} z l f h i =
      let t = bind_elem w k (variable v) s in
      let g = elem-W w 0 0 k (variable v) z l f in
      let j = resolves-W w 0 0 es g.fine in
      let c = pattern-clear n r (omega (arith, g.cur, j.cur)) (omega (arith, g.cur, g.later, j.cur, j.later)) j.fine (omega (arith, g.later, j.later)) (λ e. i (e ∙ j.cur ∙ g.cur)) in
      record { same = λ x d. c.same x d ∙ (es-clear n es t (omega (arith, g.later))).same x d ∙ (elem-clear n k (variable v) s i).same x d }

  path-O : {c : ℕ} {base : List Seen} (o : Option ℕ) (s : State) → s.cur ≡ c → Owns c base s → Owns c base (bind_path w o s)
  unfolding bind_path bind_anew
  path-O None s e h = h
  path-O (Some v) s e h = find-O _ _ (bind_name (name_of w v) v path_kind s) (bind-O (name_of w v) v path_kind s e h)

  new-O : {c : ℕ} {base : List Seen} (o : Option Hit) (y : Name) (v k : ℕ) (s : State) → s.cur ≡ c → Owns c base s → Owns c base (bind_new w o y v k s)
  unfolding bind_new
  new-O None y v k s e h = bind-O y v k s e h
  new-O (Some u) y v k s e h = h

  elem-O : {c : ℕ} {base : List Seen} (k : ℕ) (o : Option ℕ) (s : State) → s.cur ≡ c → Owns c base s → Owns c base (bind_elem w k o s)
  unfolding bind_elem
  elem-O k None s e h = h
  elem-O k (Some v) s e h = new-O (lookup (name_of w v) s.visible) (name_of w v) v k s e h

  es-O : {c : ℕ} {base : List Seen} (es : Exprs) (s : State) → c ≤ s.last → Owns c base s → Owns c base (resolves w es s)
  es-O {c} es s l h = record { own = h.own; adds = (all_keep w es s).visible ∙ h.adds; owns = λ x. ap (as_looked c) ((es-clear c es s l).same x None) ∙ h.owns x }

  pattern-O : (q : Steps) {c : ℕ} {base : List Seen} {s : State} → s.cur ≡ c → 0 < c → c ≤ s.last → Well 0 0 s → Owns c base s → Owns c base (bind_pattern w q s)
  unfolding bind_pattern
  pattern-O end e z l f h = h
  pattern-O (part p r) {s = s} e z l f h =
      let g = path-W w 0 0 (variable p) (omega arith) (omega arith) f in
      pattern-O r (g.cur ∙ e) z (omega (arith, g.later)) g.fine (path-O (variable p) s e h)
  pattern-O (elem k a b v es r) {s = s} e z l f h =
      let t = bind_elem w k (variable v) s in
      let g = elem-W w 0 0 k (variable v) (omega arith) (omega arith) f in
      let j = resolves-W w 0 0 es g.fine in
      pattern-O r (j.cur ∙ g.cur ∙ e) z (omega (arith, g.later, j.later)) j.fine (es-O es t (omega (arith, g.later)) (elem-O k (variable v) s e h))

module _ (L : List Event) where
  -- the finished log goes on from here
  pub record Pre (l : List Event) : Type 0 where
    pub rest : List Event
    pub goes : L ≡ rest ++ l

  pub back : (f : State → State) (s : State) → f s ≡ after s.log (f (silent s)) → Pre (f s).log → Pre s.log
  back f s e h =
      let m = (f (silent s)).log in
      record { rest = h.rest ++ m; goes = h.goes ∙ ap (λ (t : State). h.rest ++ t.log) e ∙ sym (append_assoc h.rest m s.log) }

  pub record Ends (os : List ℕ) (t : State) : Type 0 where
    pub pre : Pre t.log
    pub clear : (n : ℕ) (x : Name) (d : Option ℕ) → n ≤ t.last → not_in n os → binds_of n x L d ≡ binds_of n x t.log d

  pub ends-back : {os : List ℕ} (f : State → State) (s : State) {hi : ℕ} → f s ≡ after s.log (f (silent s)) → Within s.last hi (f (silent s)).log → s.last ≤ (f s).last → Ends os (f s) → Ends os s
  ends-back f s e p l h = record {
    pre = back f s e h.pre;
    clear = λ n x d i o. h.clear n x d (omega arith) o ∙ above f s e p n x d i;
  }

  -- the log in three pieces: before the scope, its opening, and what follows
  pub cut : (o : Event) (l : List Event) (h : Pre (o ∷ l)) → reverse L ≡ reverse l ++ o ∷ reverse h.rest
  cut o l h = ap reverse h.goes ∙ reverse-append h.rest (o ∷ l) ∙ ap (λ z. z ++ reverse h.rest) (reverse-cons o l) ∙ append_assoc (reverse l) (o ∷ []) (reverse h.rest)

module _ (L : List Event) (w : World) where
  -- A comprehension with this pattern, whose scope is opened in the state s, L being the finished log, newest first.
  pub record Inner (beyond : List Seen) (s : State) (a b : ℕ) (q : Steps) : Type 0 where
    pub low : s.cur ≤ s.last
    pub counts : opened (reverse s.log) ≡ suc s.last
    pub rest : List Event
    pub goes : L ≡ rest ++ (bind_pattern w q (enter comprehension_scope a b s)).log
    pub own : List Seen
    pub adds : (bind_pattern w q (enter comprehension_scope a b s)).visible ≡ own ++ s.visible
    pub reach : List Seen
    pub splits : s.visible ≡ reach ++ beyond
    pub around : (x : Name) → look (reverse s.log) s.cur x ≡ seen_as x reach
    pub inside : (x : Name) → look (reverse L) (suc s.last) x ≡ or_parent (seen_as x own) (look (reverse L) s.cur x)

  pub ends-Es : {os : List ℕ} (es : Exprs) (s : State) → Well 0 0 s → Ends L os (resolves w es s) → Ends L os s
  ends-Es es s f h =
      ends-back L (resolves w es) s (resolves-after w s.log es (silent s)) (resolves-W w s.last (suc s.last) es (silent-W s.last s refl)).fine.within (resolves-W w 0 0 es f).later h

  pub ends-S : {os : List ℕ} (q : Steps) (s : State) → 0 < s.cur → s.cur ≤ s.last → Well 0 0 s → Ends L os (bind_pattern w q s) → Ends L (s.cur ∷ os) s
  unfolding not_in
  ends-S q s z l f h = record {
    pre = back L (bind_pattern w q) s (pattern-after w s.log q (silent s)) h.pre;
    clear = λ n x d i o. h.clear n x d (omega (arith, (pattern-W w 0 0 q z l f).later)) o.1 ∙ (pattern-clear w n q z l f i o.0).same x d;
  }

  pub inner : (beyond : List Seen) (s : State) (a b : ℕ) (q : Steps) (os : List ℕ) → all_le os s.last → Shows [] beyond s
      → Ends L os (bind_pattern w q (enter comprehension_scope a b s)) → Inner beyond s a b q
  inner beyond s a b q os low h e =
      let t = enter comprehension_scope a b s in
      let n = suc s.last in
      let ft = enter-W w 0 0 comprehension_scope a b h.fine in
      let g = pattern-W w 0 0 q {s = t} (omega arith) (le_refl _) ft in
      let o = pattern-O w q {s = t} refl (omega arith) (le_refl _) ft (fresh-O a b s h.fine) in
      let pre = (ends-S q t (omega arith) (le_refl _) ft e).pre in
      let l = reverse s.log in
      let m = reverse pre.rest in
      let ev = open' (scope comprehension_scope (Some s.cur) a b) in
      let c = cut L ev s.log pre in
      record {
        low = h.low;
        counts = count h.fine;
        rest = e.pre.rest;
        goes = e.pre.goes;
        own = o.own;
        adds = o.adds;
        reach = h.reach;
        splits = h.splits;
        around = λ x. h.gives x (unfold named in refl);
        inside = λ x.
            let mine : binds_of n x L None ≡ newest n x (binds_in m) None
            = ap (λ z. newest n x (binds_in z) None) c ∙ later-binds n x l m (scope comprehension_scope (Some s.cur) a b) (le_refl _) (within-reverse h.fine.within nil) in
            ap (λ z. look z n x) c
            ∙ look-open l m s.last comprehension_scope s.cur a b x (within-reverse h.fine.within nil) (count h.fine)
            ∙ answer-parent n s.cur (newest n x (binds_in m) None) (λ p. look (l ++ ev ∷ m) p x) (omega (arith, h.low))
            ∙ ap₂ or_parent (ap (as_looked n) (sym mine ∙ e.clear n x None g.later (above-all os s.last low)) ∙ o.owns x) (ap (λ z. look z s.cur x) (sym c));
      }
