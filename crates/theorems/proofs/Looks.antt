-- Lookup on the views of a log: what a scope answers is settled once the log has passed it, and climbing stays below its number.
-- `look-by`: lookup from a scope by its parent's; `look-open`: from the scope that is opened between l and m; `look-stays`: what is said
-- later in scopes above changes nothing. `newest` is what bindings give for a name in a scope (`newest-append`, in two pieces; `newest-out`,
-- none from other scopes); `carries-append`, carried names in two pieces.
use Rattle.std.specs.Prelude.{Option, None, Some}
use Prim.Native.Nat.{ℕ, zero, suc, ◌≤◌, ◌<◌}
use native.Mathlib.Omega.{arith}
use mathlib.Core.Path.{◌≡◌, refl, sym, ◌∙◌, ap, ap₂, subst}
use mathlib.Core.Bool.{Bool, true, false, cond, ◌&&◌, ◌||◌, or_assoc, or-false}
use mathlib.Core.List.{List, [], ◌∷◌, ◌++◌}
use lib.Dec.{T, eqb, ltb, eqb→eq, lt→ltb}
use lib.ListN.{length}
use Rattle.scope.specs.Graph.{with_barrier, Scope, scope, Entry, entry, Carried, carried, Name, same_name}
use Rattle.scope.specs.Lookup.{bound_in, carries, parent_at, kind_at, passes}
use Rattle.scope.specs.Lookup.{answer_at, climb, lookup_in}
use Rattle.scope.proofs.Climbing.{same-below}
use Rattle.semantics.specs.Log.{Bound, bound, Event, open', scopes_in, binds_in, carries_in, opened, logs}
use Rattle.semantics.specs.Lists.{put, puts}
use Rattle.theorems.specs.Agree.{look}
use Rattle.theorems.proofs.Views.{opened-append, scopes-append, binds-append, carried-append}
use Rattle.theorems.proofs.Within.{Within}
use Rattle.theorems.proofs.Entries.{Inside, none'', more'', inside-binds}
use Rattle.theorems.proofs.Placed.{CarriedIn, none', more', inside-carries}
use Rattle.theorems.proofs.Tests.{holds, both, eq→eqb, ne→eqb}
use Rattle.theorems.proofs.Names.{same→eq, eq→same}

opened-open : (s : Scope) (l : List Event) → opened (open' s ∷ l) ≡ suc (opened l)
unfolding logs
opened-open s l = refl

-- Bindings: the newest counts.
unfoldable pub newest : ℕ → Name → List Bound → Option ℕ → Option ℕ
newest s x [] d = d
newest s x (bound t y v k ∷ bs) d = newest s x bs (cond (eqb t s && same_name y x) (Some v) d)

bound-put : (s : ℕ) (x : Name) (t : ℕ) (y : Name) (v k : ℕ) (es : List Entry) → bound_in (put (bound t y v k) es) s x ≡ cond (eqb t s && same_name y x) (Some v) (bound_in es s x)
unfolding bound_in put
bound-put s x t y v k [] = refl
bound-put s x t y v k (entry o z u j r ∷ es) = go (eqb t o && same_name y z) refl (bound-put s x t y v k es)
  where
    skip : (a b : Bool) (d : Option ℕ) → (T a → T b → ⊥) → cond b (Some u) (cond a (Some v) d) ≡ cond a (Some v) (cond b (Some u) d)
    skip true true d f = absurd (f tt tt)
    skip true false d f = refl
    skip false true d f = refl
    skip false false d f = refl

    same : (a b : Bool) (d : Option ℕ) → a ≡ b → cond a (Some v) d ≡ cond a (Some v) (cond b (Some u) d)
    same true b d e = refl
    same false b d e = rw (← e) refl

    apart : eqb t o && same_name y z ≡ false → T (eqb t s && same_name y x) → T (eqb o s && same_name z x) → ⊥
    apart e a b =
        let f = both (eqb t s) (same_name y x) a in
        let g = both (eqb o s) (same_name z x) b in
        let p = eqb→eq t s f.0 ∙ sym (eqb→eq o s g.0) in
        let q = same→eq y x f.1 ∙ sym (same→eq z x g.1) in
        subst T (sym (ap₂ ◌&&◌ (holds (eqb t o) (eq→eqb t o p)) (holds (same_name y z) (eq→same y z q))) ∙ e) tt

    go : (c : Bool) → eqb t o && same_name y z ≡ c → bound_in (put (bound t y v k) es) s x ≡ cond (eqb t s && same_name y x) (Some v) (bound_in es s x)
        → bound_in (cond c (entry t y v k (Some u) ∷ es) (entry o z u j r ∷ put (bound t y v k) es)) s x
        ≡ cond (eqb t s && same_name y x) (Some v) (cond (eqb o s && same_name z x) (Some u) (bound_in es s x))
    go true e ih =
        let f = both (eqb t o) (same_name y z) (subst T (sym e) tt) in
        same (eqb t s && same_name y x) (eqb o s && same_name z x) (bound_in es s x) (ap₂ ◌&&◌ (ap (λ (n : ℕ). eqb n s) (eqb→eq t o f.0)) (ap (λ (n : Name). same_name n x) (same→eq y z f.1)))
    go false e ih = rw ih (skip (eqb t s && same_name y x) (eqb o s && same_name z x) (bound_in es s x) (apart e))

bound-puts : (s : ℕ) (x : Name) (bs : List Bound) (es : List Entry) → bound_in (puts bs es) s x ≡ newest s x bs (bound_in es s x)
unfolding puts newest
bound-puts s x [] es = refl
bound-puts s x (bound t y v k ∷ bs) es = bound-puts s x bs (put (bound t y v k) es) ∙ ap (newest s x bs) (bound-put s x t y v k es)

pub newest-append : (s : ℕ) (x : Name) (bs cs : List Bound) (d : Option ℕ) → newest s x (bs ++ cs) d ≡ newest s x cs (newest s x bs d)
unfolding newest
newest-append s x [] cs d = refl
newest-append s x (bound t y v k ∷ bs) cs d = newest-append s x bs cs (cond (eqb t s && same_name y x) (Some v) d)

-- What a log binds and carries in other scopes does not matter.
pub data Outside (lo hi s : ℕ) : Type 0 where
  over : hi < s → Outside lo hi s
  under : s ≤ lo → Outside lo hi s

other : {lo hi s : ℕ} → Outside lo hi s → (t : ℕ) → lo < t → t ≤ hi → t ≡ s → ⊥
other (over h) t a b e = omega arith
other (under h) t a b e = omega arith

newest-inside : {lo hi s : ℕ} {bs : List Bound} → Outside lo hi s → Inside lo hi bs → (x : Name) (d : Option ℕ) → newest s x bs d ≡ d
unfolding newest
newest-inside o none'' x d = refl
newest-inside {s = s} o (more'' {s = t} a b p) x d = rw (ne→eqb t s (other o t a b)) (newest-inside o p x d)

pub newest-out : {lo hi s : ℕ} {l : List Event} → Outside lo hi s → Within lo hi l → (x : Name) (d : Option ℕ) → newest s x (binds_in l) d ≡ d
newest-out o p x d = newest-inside o (inside-binds p) x d

carries-inside : {lo hi s : ℕ} {l : List Carried} → Outside lo hi s → CarriedIn lo hi l → (x : Name) → carries l s x ≡ false
unfolding carries
carries-inside o none' x = refl
carries-inside {s = s} o (more' {b = t} a b p) x = rw (ne→eqb t s (other o t a b)) (carries-inside o p x)

carries-out : {lo hi s : ℕ} {l : List Event} → Outside lo hi s → Within lo hi l → (x : Name) → carries (carries_in l) s x ≡ false
carries-out o p x = carries-inside o (inside-carries p) x

pub carries-append : (l m : List Carried) (s : ℕ) (x : Name) → carries (l ++ m) s x ≡ (carries l s x || carries m s x)
unfolding carries
carries-append [] m s x = refl
carries-append (carried b y v ∷ l) m s x = rw (carries-append l m s x) (sym (or_assoc (eqb b s && same_name y x) (carries l s x) (carries m s x)))

-- A scope's own kind and parent, in a list that goes on.
parent-append : (l m : List Scope) (s : ℕ) → s < length l → parent_at (l ++ m) s ≡ parent_at l s
unfolding parent_at
parent-append [] m s h = absurd (omega arith)
parent-append (scope k p a b ∷ l) m zero h = refl
parent-append (scope k p a b ∷ l) m (suc s) h = parent-append l m s (omega arith)

kind-append : (l m : List Scope) (s : ℕ) → s < length l → kind_at (l ++ m) s ≡ kind_at l s
unfolding kind_at
kind-append [] m s h = absurd (omega arith)
kind-append (scope k p a b ∷ l) m zero h = refl
kind-append (scope k p a b ∷ l) m (suc s) h = kind-append l m s (omega arith)

pub parent-at : (l m : List Scope) (k : ℕ) (p : Option ℕ) (a b : ℕ) → parent_at (l ++ scope k p a b ∷ m) (length l) ≡ p
unfolding parent_at
parent-at [] m k p a b = refl
parent-at (scope j o c d ∷ l) m k p a b = parent-at l m k p a b

pub kind-at : (l m : List Scope) (k : ℕ) (p : Option ℕ) (a b : ℕ) → kind_at (l ++ scope k p a b ∷ m) (length l) ≡ k
unfolding kind_at
kind-at [] m k p a b = refl
kind-at (scope j o c d ∷ l) m k p a b = kind-at l m k p a b

-- Two graphs that have the same scopes below `top` give the same there, with any steps that are enough.
pub record Alike (top : ℕ) (ss₁ ss₂ : List Scope) (bs₁ bs₂ : List Entry) (cs₁ cs₂ : List Carried) : Type 0 where
  pub bounds : (s : ℕ) (x : Name) → s < top → bound_in bs₁ s x ≡ bound_in bs₂ s x
  pub goes : (s : ℕ) (x : Name) → s < top → passes ss₁ bs₁ cs₁ s x ≡ passes ss₂ bs₂ cs₂ s x
  pub parents : (s : ℕ) → s < top → parent_at ss₁ s ≡ parent_at ss₂ s

climb-alike : {top : ℕ} {ss₁ ss₂ : List Scope} {bs₁ bs₂ : List Entry} {cs₁ cs₂ : List Carried} → Alike top ss₁ ss₂ bs₁ bs₂ cs₁ cs₂
    → (m n s : ℕ) (x : Name) → s < m → s < n → s < top → climb ss₁ bs₁ cs₁ m s x ≡ climb ss₂ bs₂ cs₂ n s x
unfolding climb
climb-alike h zero n s x a b c = absurd (omega arith)
climb-alike h (suc m) zero s x a b c = absurd (omega arith)
climb-alike {ss₁ = ss₁} {ss₂ = ss₂} {bs₁ = bs₁} {bs₂ = bs₂} {cs₁ = cs₁} {cs₂ = cs₂} h (suc m) (suc n) s x a b c =
    rw (h.bounds s x c, h.goes s x c, h.parents s c)
    (same-below s _ _ _ (λ p. climb ss₁ bs₁ cs₁ m p x) (λ p. climb ss₂ bs₂ cs₂ n p x) (λ p q. climb-alike h m n p x (omega arith) (omega arith) (omega arith)))

-- Lookup on the views of a log.
bound-log : (l : List Event) (s : ℕ) (x : Name) → bound_in (puts (binds_in l) []) s x ≡ newest s x (binds_in l) None
unfolding bound_in
bound-log l s x = bound-puts s x (binds_in l) []

-- A log that goes on and binds and carries only above: below, lookup stays.
alike : {lo hi : ℕ} (l : List Event) {m : List Event} (top : ℕ) → Within lo hi m → top ≤ suc lo → top ≤ opened l
    → Alike top (scopes_in (l ++ m)) (scopes_in l) (puts (binds_in (l ++ m)) []) (puts (binds_in l) []) (carries_in (l ++ m)) (carries_in l)
unfolding opened passes
alike l {m} top p h i = record {
  bounds = λ s x q.
      bound-log (l ++ m) s x ∙ rw binds-append (newest-append s x (binds_in l) (binds_in m) None ∙ newest-out (under (omega arith)) p x (newest s x (binds_in l) None))
      ∙ sym (bound-log l s x);
  goes = λ s x q.
      rw (scopes-append, carried-append, kind-append (scopes_in l) (scopes_in m) s (omega arith), carries-append, carries-out {s = s} (under (omega arith)) p x, or-false) refl;
  parents = λ s q. rw scopes-append (parent-append (scopes_in l) (scopes_in m) s (omega arith));
}

pub look-stays : {lo hi : ℕ} (l : List Event) {m : List Event} (s : ℕ) (x : Name) → Within lo hi m → s ≤ lo → s < opened l → look (l ++ m) s x ≡ look l s x
unfolding look lookup_in
look-stays l {m} s x p h q =
    rw (holds (ltb s (length (scopes_in (l ++ m)))) (lt→ltb s _ (unfold opened in omega (arith, opened-append l m, q))), holds (ltb s (length (scopes_in l))) (lt→ltb s _ (unfold opened in q)))
    (climb-alike (alike l (suc s) p (omega arith) q) (suc s) (suc s) s x (omega arith) (omega arith) (omega arith))

look-climb : (l : List Event) (n s : ℕ) (x : Name) → s < n → s < opened l → climb (scopes_in l) (puts (binds_in l) []) (carries_in l) n s x ≡ look l s x
unfolding look lookup_in
look-climb l n s x p q =
    rw (holds (ltb s (length (scopes_in l))) (lt→ltb s _ (unfold opened in q)))
    (climb-alike {top = opened l} (record { bounds = λ t y h. refl; goes = λ t y h. refl; parents = λ t h. refl }) n (suc s) s x p (omega arith) q)

-- Lookup from any scope of a log, by its parent's.
pub look-by : (l : List Event) (s : ℕ) (x : Name) → s < opened l
    → look l s x ≡ answer_at s (newest s x (binds_in l) None) (cond (eqb (kind_at (scopes_in l) s) with_barrier) (carries (carries_in l) s x) true) (parent_at (scopes_in l) s) (λ p. look l p x)
look-by l s x q =
    unfold climb passes in
    sym (look-climb l (suc s) s x (omega arith) q)
    ∙ rw (bound-log l s x) (same-below s _ _ _ _ _ (λ p h. look-climb l s p x h (omega arith)))

-- Lookup from a scope of its own: what is bound and carried after it is opened counts.
pub look-open : (l m : List Event) (last k p a b : ℕ) (x : Name) → Within 0 last l → opened l ≡ suc last
    → look (l ++ open' (scope k (Some p) a b) ∷ m) (suc last) x
    ≡ answer_at (suc last) (newest (suc last) x (binds_in m) None) (cond (eqb k with_barrier) (carries (carries_in m) (suc last) x) true) (Some p) (λ q. look (l ++ open' (scope k (Some p) a b) ∷ m) q x)
look-open l m last k p a b x h e =
    look-by (l ++ open' (scope k (Some p) a b) ∷ m) (suc last) x (omega (arith, opened-append l (open' (scope k (Some p) a b) ∷ m), opened-open (scope k (Some p) a b) m))
    ∙ rw (scopes-append l, binds-append l, carried-append l, newest-append, newest-out {s = suc last} (over (omega arith)) h x None, carries-append, carries-out {s = suc last} (over (omega arith)) h x)
    (unfold logs in rw (← e, kind-at, parent-at) refl)
