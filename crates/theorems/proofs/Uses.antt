-- E1001 and the unresolved record arise at the uses whose name is not visible, and nowhere else: `arises` at one use, also where others are
-- hushed (`arises-hushed`), `of-uses` over a statement, with the record of each use. All views of the log that pass over all but the uses
-- follow one walk (`sees`; `answered`, the records up to any place in it). `lacking` and `lookup-none`: the test, and lookup, of a name that is
-- not visible.
use Rattle.std.specs.Prelude.{Option, None, Some}
use Prim.Native.Nat.{ℕ}
use mathlib.Core.Path.{◌≡◌, refl, sym, ◌∙◌, ap, ap₂, subst}
use mathlib.Core.Logic.{◌↔◌, ◌⊎◌, inl, inr}
use mathlib.Core.Bool.{Bool, true, false, cond, not, ◌&&◌}
use mathlib.Core.List.Memᴰ
use mathlib.Core.List.{List, [], ◌∷◌, ◌++◌, map, flat_map, reverse, reverse_aux, reverse-cons, append-nil, append_assoc, Memᴰ}
use lib.Dec.{T}
use borrow.Author.Tests.{eqb-true, eq-eqb}
use Rattle.scope.specs.Graph.{Scope, Name, indexed, same_name}
use Rattle.scope.specs.Lookup.{at}
use Rattle.words.specs.Fnv.{use_id}
use Rattle.heads.specs.Answer.{is_in}
use Rattle.expr.specs.Tree.{unresolved}
use Rattle.expr.proofs.Inverse.{never}
use Rattle.tables.specs.Row.{Row, row}
use Rattle.sheet.specs.Statement.{Statement}
use Rattle.semantics.specs.Log
use Rattle.semantics.specs.Log.{Finding, missing, Write, write, Event, answer, find, answer_of, find_of, answers_in, finds_in}
use Rattle.semantics.specs.World.{World, hush, kind_of, star_name, bytes_of, world_of}
use Rattle.semantics.specs.Resolve.{Hit, hit, variable_of, Seen, seen, State, lookup, say, say_if, use_name, visit, resolve, log}
use Rattle.semantics.specs.Kinds.{kinds}
use Rattle.semantics.specs.Lists.{scopes, findings}
use Rattle.theorems.specs.Uses.{Use, by_var, by_name, Lacks, lacks, seen_as, recorded_as, e1001, of_row, record_of, unresolved_of, uses, coded, with_code, unresolved_as, unresolved_in, Arises, OfUses}
use Rattle.theorems.proofs.Tests.{holds}
use Rattle.theorems.proofs.Names.{same→eq, eq→same}
use Rattle.theorems.proofs.Views.{pick-append}
use Rattle.theorems.proofs.Codes.{kinds-no-1001}
use Rattle.theorems.proofs.Walked.{its-finding, use_says, Aside, other_scope, inner_scope, binding, carrying, repeating, Walked, none', says, meets, walked}

-- The visible list: what the lookup finds none for, it lacks.
unfoldable is_none : Option Hit → Bool
is_none None = true
is_none (Some v) = false

lacks-lookup : (x : Name) (vis : List Seen) → lacks x vis ≡ is_none (lookup x vis)
unfolding lacks lookup is_none
lacks-lookup x [] = refl
lacks-lookup x (seen y v r ∷ vis) = go (same_name x y) (lacks-lookup x vis)
  where
    go : (b : Bool) → lacks x vis ≡ is_none (lookup x vis) → (not b && lacks x vis) ≡ is_none (cond b (Some v) (lookup x vis))
    go true ih = refl
    go false ih = ih

is-none : (o : Option Hit) → (is_none o ≡ true) ↔ (o ≡ None)
unfolding is_none
is-none None = (λ e. refl, λ e. refl)
is-none (Some v) = (λ e. never (cc), λ e. never (cc))

test-lacks : (x : Name) (vis : List Seen) → lacks x vis ≡ true → Lacks x vis
unfolding lacks
test-lacks x [] e v p m = Memᴰ.not-nil m
test-lacks x (seen y u r ∷ vis) e v p m = go (same_name x y) (λ p. holds (same_name x y) (eq→same x y p)) (test-lacks x vis) e (Memᴰ.cases_cons m)
  where
    go : (b : Bool) → (x ≡ y → b ≡ true) → (lacks x vis ≡ true → Lacks x vis) → (not b && lacks x vis) ≡ true → (seen x v p ≡ seen y u r) ⊎ Memᴰ (seen x v p) vis → ⊥
    go true o ih e m = never (cc)
    go false o ih e (inl q) = let h : x ≡ y = cc in never (cc (o h))
    go false o ih e (inr m) = ih e v p m

lacks-test : (x : Name) (vis : List Seen) → Lacks x vis → lacks x vis ≡ true
unfolding lacks
lacks-test x [] h = refl
lacks-test x (seen y u r ∷ vis) h = go (same_name x y) (λ p. same→eq x y (subst T (sym p) tt)) (lacks-test x vis (λ v p m. h v p (Memᴰ.tail m)))
  where
    go : (b : Bool) → (b ≡ true → x ≡ y) → lacks x vis ≡ true → (not b && lacks x vis) ≡ true
    go true p ih = absurd (h u r (Memᴰ.head (ap (λ z. seen z u r) (p refl))))
    go false p ih = ih

pub lacking : (x : Name) (vis : List Seen) → (lacks x vis ≡ true) ↔ Lacks x vis
lacking x vis = (test-lacks x vis, lacks-test x vis)

pub lookup-none : (x : Name) (vis : List Seen) → (lookup x vis ≡ None) ↔ Lacks x vis
lookup-none x vis = (
  λ e. test-lacks x vis (lacks-lookup x vis ∙ (is-none (lookup x vis)).1 e),
  λ h. (is-none (lookup x vis)).0 (sym (lacks-lookup x vis) ∙ lacks-test x vis h),
)

star : (bs : List ℕ) → (star_name bs ≡ true) ↔ (bs ≡ 42 ∷ [])
unfolding star_name
star [] = (λ e. never (cc), λ e. never (cc))
star (b ∷ []) = (λ e. ap (λ z. z ∷ []) (eqb-true b 42 e), λ e. eq-eqb b 42 (cc))
star (b ∷ c ∷ bs) = (λ e. never (cc), λ e. never (cc))

-- At one use: a name that is found leaves neither; one that is not leaves its record, and E1001 unless it is `*`. It is said of a state that
-- has said nothing.
abbrev nought : State
nought = record { visible = []; cur = 0; last = 0; log = [] }

module _ (warns : Bool) (st : Statement) (x : ℕ) (vis : List Seen) where
  abbrev w : World
  w = world_of warns st

  abbrev its-record : Write
  its-record = write (use_id (bytes_of st x)) missing

  arises-missing : (b : Bool) → (b ≡ true) ↔ (bytes_of st x ≡ 42 ∷ []) → Lacks (indexed x) vis → Arises st x vis (answer its-record ∷ cond b [] (find (its-finding x) ∷ []))
  arises-missing true s h = record {
    finds = λ f. (λ m. never (let e = Memᴰ.eq_of_singleton m in cc), λ p. absurd (p.2 (s.0 refl)));
    records = λ i. (λ m. (let e = Memᴰ.eq_of_singleton m in cc, h), λ p. Memᴰ.head (ap (λ z. answer (write z missing)) p.0));
  }
  arises-missing false s h = record {
    finds = λ f. (λ m. (second f (Memᴰ.cases_cons m), h, λ e. never (let t = s.1 e in cc)), λ p. Memᴰ.tail (Memᴰ.head (ap find p.0)));
    records = λ i. (λ m. (first i (Memᴰ.cases_cons m), h), λ p. Memᴰ.head (ap (λ z. answer (write z missing)) p.0));
  }
    where
      second : (f : Finding) → (find f ≡ answer its-record) ⊎ Memᴰ (find f) (find (its-finding x) ∷ []) → f ≡ its-finding x
      second f (inl e) = never (cc)
      second f (inr m) = let e = Memᴰ.eq_of_singleton m in cc

      first : (i : ℕ) → (answer (write i missing) ≡ answer its-record) ⊎ Memᴰ (answer (write i missing)) (find (its-finding x) ∷ []) → i ≡ use_id (bytes_of st x)
      first i (inl e) = cc
      first i (inr m) = never (let e = Memᴰ.eq_of_singleton m in cc)

  said-is : (b : Bool) (a e : Event) → reverse (say_if (not b) e (say a nought)).log ≡ a ∷ cond b [] (e ∷ [])
  unfolding say_if
  said-is true a e = refl
  said-is false a e = refl

  same_log : (o : Option Hit) (cur last : ℕ) → (use_name w x o (record { visible = vis; cur = cur; last = last; log = [] })).log ≡ (use_name w x o nought).log
  unfolding use_name
  same_log (Some (hit v u)) cur last = refl
  same_log None cur last = either (not (w.is_star x)) _ _
    where
      either : (b : Bool) (a e : Event) → (say_if b e (say a (record { visible = vis; cur = cur; last = last; log = [] }))).log ≡ (say_if b e (say a nought)).log
      either true a e = unfold say_if in refl
      either false a e = unfold say_if in refl

  arises-at : (o : Option Hit) → (o ≡ None) ↔ Lacks (indexed x) vis → Arises st x vis (reverse (use_name w x o nought).log)
  unfolding use_name world_of
  arises-at (Some (hit v u)) h = record {
    finds = λ f. (λ m. never (let e = Memᴰ.eq_of_singleton m in cc), λ p. never (let e = h.1 p.1 in cc));
    records = λ i. (λ m. never (let e = Memᴰ.eq_of_singleton m in cc), λ p. never (let e = h.1 p.1 in cc));
  }
  arises-at None h = rw (said-is (star_name (bytes_of st x))) (arises-missing (star_name (bytes_of st x)) (star (bytes_of st x)) (h.0 refl))

  -- In a state where vis is visible and nothing was said yet; and so where other names are hushed.
  pub arises : (cur last : ℕ) → Arises st x vis (reverse (resolve w (unresolved x) (record { visible = vis; cur = cur; last = last; log = [] })).log)
  unfolding resolve visit world_of
  arises cur last = rw (same_log (lookup (indexed x) vis) cur last) (arises-at (lookup (indexed x) vis) (lookup-none (indexed x) vis))

  pub arises-hushed : (xs : List ℕ) → is_in x xs ≡ false → (cur last : ℕ)
      → Arises st x vis (reverse (resolve (hush xs w) (unresolved x) (record { visible = vis; cur = cur; last = last; log = [] })).log)
  unfolding resolve visit
  arises-hushed xs e cur last = rw e (unfold use_name kind_of in rw (same_log (lookup (indexed x) vis) cur last) (arises-at (lookup (indexed x) vis) (lookup-none (indexed x) vis)))

-- Over a statement: the views of the log that pass over all but the uses.
abbrev finds_of : Event → List Finding
finds_of e = with_code Log.e1001 (find_of e)

pick-pick : {A B C : Type 0} (g : B → List C) (f : A → List B) (l : List A) → flat_map g (flat_map f l) ≡ flat_map (λ a. flat_map g (f a)) l
unfolding flat_map
pick-pick g f [] = refl
pick-pick g f (x ∷ l) = pick-append g (f x) (flat_map f l) ∙ ap (λ z. flat_map g (f x) ++ z) (pick-pick g f l)

-- what a use says, in the views
answers-of : (ws : List Write) (fs : List Finding) → flat_map answer_of (map answer ws ++ map find fs) ≡ ws
unfolding flat_map answer_of
answers-of [] [] = refl
answers-of [] (f ∷ fs) = answers-of [] fs
answers-of (a ∷ ws) fs = ap (◌∷◌ a) (answers-of ws fs)

finds-of : (ws : List Write) (x : ℕ) (b : Bool) → flat_map finds_of (map answer ws ++ map find (cond b (its-finding x ∷ []) [])) ≡ cond b (its-finding x ∷ []) []
unfolding flat_map find_of with_code coded
finds-of [] x true = refl
finds-of [] x false = refl
finds-of (a ∷ ws) x b = finds-of ws x b

module _ (w : World) (ss : List Scope) where
  name-unresolved : (x : ℕ) (vis : List Seen)
      → flat_map unresolved_as (write (w.id x) (recorded_as w ss (seen_as (indexed x) vis)) ∷ []) ≡ cond (lacks (indexed x) vis) (write (w.id x) missing ∷ []) []
  unfolding seen_as recorded_as unresolved_as lacks flat_map
  name-unresolved x [] = refl
  name-unresolved x (seen y h p ∷ vis) = go (same_name (indexed x) y) (name-unresolved x vis)
    where
      go : (b : Bool) → flat_map unresolved_as (write (w.id x) (recorded_as w ss (seen_as (indexed x) vis)) ∷ []) ≡ cond (lacks (indexed x) vis) (write (w.id x) missing ∷ []) []
          → flat_map unresolved_as (write (w.id x) (recorded_as w ss (cond b (at (variable_of h) p) (seen_as (indexed x) vis))) ∷ []) ≡ cond (not b && lacks (indexed x) vis) (write (w.id x) missing ∷ []) []
      go true e = refl
      go false e = e

  unresolved-at : (u : Use) → flat_map unresolved_as (record_of w ss u) ≡ unresolved_of w u
  unfolding record_of unresolved_of
  unresolved-at (by_var v) = go (w.row v)
    where
      go : (r : Option Row) → flat_map unresolved_as (of_row v r) ≡ []
      go None = unfold of_row flat_map in refl
      go (Some (row i x k a b)) = unfold of_row unresolved_as flat_map in refl
  unresolved-at (by_name x p vis) = name-unresolved x vis

  all-unresolved : (us : List Use) → flat_map unresolved_as (flat_map (record_of w ss) us) ≡ flat_map (unresolved_of w) us
  unfolding flat_map
  all-unresolved [] = refl
  all-unresolved (u ∷ us) = pick-append unresolved_as (record_of w ss u) (flat_map (record_of w ss) us) ∙ ap₂ ◌++◌ (unresolved-at u) (all-unresolved us)

-- what stands on a log, turned round
pub onto : (m l : List Event) → reverse (reverse_aux m l) ≡ reverse l ++ m
onto [] l = sym (append-nil _)
onto (e ∷ m) l = onto m (e ∷ l) ∙ ap (λ z. z ++ m) (reverse-cons e l) ∙ append_assoc (reverse l) (e ∷ []) m

module _ (warns : Bool) (st : Statement) where
  abbrev W : World
  W = world_of warns st

  quiet : (e : Event) (l : List Event) → Aside warns st e l → (answer_of e ≡ []) × (finds_of e ≡ [])
  unfolding answer_of find_of with_code coded flat_map
  quiet e l (other_scope h) = (refl, refl)
  quiet e l (inner_scope v s q h) = (refl, refl)
  quiet e l binding = (refl, refl)
  quiet e l carrying = (refl, refl)
  quiet e l repeating = (refl, refl)

  -- A view that passes over all but the uses has, of all that is said from l to m, what it has of each use.
  sees : {B : Type 0} (f : Event → List B) (see : Use → List B) → ((e : Event) (l : List Event) → Aside warns st e l → f e ≡ [])
      → ((u : Use) → flat_map f (use_says warns st u) ≡ see u)
      → {l m : List Event} {us : List Use} → Walked warns st l us m → flat_map f (reverse m) ≡ flat_map f (reverse l) ++ flat_map see us
  unfolding flat_map
  sees f see q r none' = sym (append-nil _)
  sees f see q r (says {e = e} {l = l} {us = us} h k) =
      sees f see q r k ∙ ap (λ z. z ++ flat_map see us) (ap (flat_map f) (reverse-cons e l) ∙ pick-append f (reverse l) (e ∷ []) ∙ rw (q e l h) (append-nil _))
  sees f see q r (meets {u = u} {l = l} {us = us} h k) =
      sees f see q r k ∙ ap (λ z. z ++ flat_map see us) (ap (flat_map f) (onto (use_says warns st u) l) ∙ pick-append f (reverse l) (use_says warns st u) ∙ ap (λ z. flat_map f (reverse l) ++ z) (r u))
      ∙ append_assoc (flat_map f (reverse l)) _ _

  -- the records up to some place in the walk
  pub answered : {l : List Event} {us : List Use} → Walked warns st [] us l → answers_in (reverse l) ≡ flat_map (record_of W (scopes warns st)) us
  unfolding answers_in flat_map
  answered k = sees answer_of (record_of W (scopes warns st)) (λ e l h. (quiet e l h).0) (λ u. answers-of (record_of W (scopes warns st) u) (e1001 W u)) k

  found-at : (u : Use) → flat_map finds_of (use_says warns st u) ≡ e1001 W u
  unfolding e1001
  found-at (by_var v) = finds-of (record_of W (scopes warns st) (by_var v)) 0 false
  found-at (by_name x p vis) = finds-of (record_of W (scopes warns st) (by_name x p vis)) x _

  pub of-uses : OfUses warns st
  unfolding findings finds_in with_code unresolved_in log
  of-uses =
      let records = answered (walked warns st) in
      let l = log warns st in
      record {
        finds =
            pick-append (coded Log.e1001) (finds_in l) (kinds W st.head)
            ∙ ap (λ z. flat_map (coded Log.e1001) (finds_in l) ++ z) (kinds-no-1001 W st.head)
            ∙ append-nil _
            ∙ pick-pick (coded Log.e1001) find_of l ∙ unfold flat_map in sees finds_of (e1001 W) (λ e l h. (quiet e l h).1) found-at (walked warns st);
        records = records;
        unresolved = ap (flat_map unresolved_as) records ∙ all-unresolved W (scopes warns st) (uses warns st);
      }
