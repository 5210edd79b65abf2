-- What sort keys see, and what is seen after them. Where nothing changes but what is visible, the walk fits and holds that (`seen-still`,
-- `seen-fits`, `seen-holds`). The pairs are seen in a scope, without an event: the first i of them are (`Seeing`: `none_seen`, `one_seen` with
-- `first-as`, `all_seen`). A new Root above what was visible is the fresh one with that below (`rooted-beside`), and after the keys the pairs
-- that are seen again are what is visible in it (`seen-again`).
use Rattle.std.specs.Int.{from_bool}
use Prim.Native.Nat.{ℕ, suc, ◌+◌, ◌*◌, ◌<◌, ◌≤◌}
use native.Mathlib.Omega.{arith}
use native.Mathlib.Numerals.{add-one}
use mathlib.Core.Path.{◌≡◌, refl, ap, sym, subst, ◌∙◌}
use mathlib.Core.Bool.{Bool, true, false, cond, not, ◌&&◌, ◌||◌}
use mathlib.Core.List.{List, [], ◌∷◌, ◌++◌}
use lib.Dec.{eqb}
use lib.ListN.{get_or}
use borrow.Author.Tests.{ne_eqb}
use Rattle.scope.specs.Graph.{root_scope, with_barrier, Name, indexed, same_name}
use Rattle.semantics.specs.Log.{bound, bind}
use Rattle.semantics.specs.World.{World, kind_of}
use Rattle.semantics.specs.Resolve.{hit, Seen, seen, binds, State, Pair, pair, say, enter, standing, bind_all, barrier, fresh}
use Rattle.fused.specs.Fused.{Both, Mode, left}
use Rattle.fused.specs.Clauses.{beside}
use Rattle.rowless.specs.Rowless.{places}
use Rattle.visible.specs.Visible.{Descends}
use Rattle.visible.specs.Stack.{entries, Sound, Bound}
use Rattle.visible.specs.Stack as stack
use Rattle.visible.specs.declared.Visible.{Visible}
use Rattle.fused.proofs.StarKeys.{carry-last}
use Rattle.steps.specs.Named.{as_named, Below}
use Rattle.steps.specs.Hold.{Binding, Fits, Holds, Still, on_names}
use Rattle.steps.specs.declared.Walk.{Walk}
use Rattle.steps.specs.declared.context.Context.{Context}
use Rattle.steps.proofs.Named.{unmoved-idle}
use Rattle.steps.proofs.Held.{seen-idle, log-idle, refit}
use Rattle.clause_parts.proofs.Cleared.{standing-holds}
use Rattle.projection_walk.specs.Pairs.{pairs_in}
use Rattle.projection_walk.specs.declared.pairs.Pairs.{Pairs}
use Rattle.with_walk.specs.Binds.{rooted_on, seen_by, firsts, SeesAll, SeesFirst}
use Rattle.with_walk.proofs.Named.{above, above-below, above-named}

-- ---- nothing changes but what is visible
module _ {w : Walk} {v : Visible} (y : stack.Still w.visible v) where
  pub seen-still : Still w (record w { visible = v })
  seen-still = record { visible = y; rowless = unmoved-idle; log = log-idle }

  pub seen-fits : {c : Context} {i k l : ℕ} → Fits i k l c w → Below (places w.rowless) (entries v) → Sound v → Descends w.cur (entries v) → w.rowless.listed + v.top + k ≤ w.at + 1 → Fits i k l c (record w { visible = v })
  seen-fits f b a d s = refit f seen-still refl b a d f.cur f.last f.count s f.rowless f.olds f.needs f.within

pub seen-holds : {id : ℕ → ℕ} {c : Context} {w : Walk} {v : Visible} {l : List Seen} {s : Both} → as_named w.rowless (entries v) ≡ l → Holds id c w s → Holds id c (record w { visible = v }) (on_names (standing l w.cur) s)
seen-holds {w = w} e h = standing-holds {cur = w.cur} e h

-- ---- pairs seen in the scope c, above a list
above-one : (c : ℕ) (ps : List Pair) (x : Name) (v : ℕ) (l : List Seen) → above c (ps ++ (pair x v ∷ [])) l ≡ seen x (hit v 1) c ∷ above c ps l
above-one c [] x v l = refl
above-one c (pair y u ∷ ps) x v l = above-one c ps x v (seen y (hit u 1) c ∷ l)

pub seen_as_lem : (ps : List Pair) (s : State) → seen_by ps s ≡ standing (above s.cur ps s.visible) s.cur s
seen_as_lem [] s = refl
seen_as_lem (pair x v ∷ ps) s = seen_as_lem ps (standing (seen x (hit v 1) s.cur ∷ s.visible) s.cur s)

-- the first i pairs are seen
pub record Seeing (i : ℕ) (p : Pairs) (w₀ w : Walk) (made : ℕ) : Type 0 where
  pub same : w ≡ record w₀ { visible = w.visible }
  pub still : stack.Still w₀.visible w.visible
  pub top : w.visible.top ≡ w₀.visible.top + i
  pub sound : Sound w.visible
  pub seen : entries w.visible ≡ above w₀.cur (pairs_in i p.words.now) (entries w₀.visible)
  pub descends : Descends w₀.cur (entries w.visible)
  pub first : made ≡ firsts w₀.cur (pairs_in i p.words.now) (entries w₀.visible)
  pub few : made ≤ i

pub none_seen : {w : Walk} (p : Pairs) → Binding w → Seeing 0 p w w 0
unfolding pairs_in firsts
none_seen p b = record { same = refl; still = seen-idle; top = omega arith; sound = b.sound; seen = refl; descends = b.descends; first = refl; few = omega arith }

pub same-cur : {i : ℕ} {p : Pairs} {w₀ w : Walk} {made : ℕ} → Seeing i p w₀ w made → w.cur ≡ w₀.cur
same-cur g = ap (λ (x : Walk). x.cur) g.same

-- a pair counts as one where its name isn't bound
pub first-as : {n : ℕ} {again b : Bool} → n ≡ from_bool (not again) → again ≡ b → n ≡ cond b 0 1
first-as {again = true} q e = rw (← e) q
first-as {again = false} q e = rw (← e) q

-- the pairs but the last, and the last above them
firsts-one : (c : ℕ) (ps : List Pair) (x : Name) (v : ℕ) (l : List Seen) → firsts c (ps ++ (pair x v ∷ [])) l ≡ firsts c ps l + cond (binds c x (above c ps l)) 0 1
unfolding firsts
firsts-one c [] x v l = omega arith
firsts-one c (pair y u ∷ ps) x v l = omega (arith, firsts-one c ps x v (seen y (hit u 1) c ∷ l))

one_at_most : (b : Bool) → cond b 0 1 ≤ 1
one_at_most true = omega arith
one_at_most false = omega arith

-- the next one
next-seen : {i : ℕ} {p : Pairs} {w₀ : Walk} {v v1 : Visible} {made one x u : ℕ} → Seeing i p w₀ (record w₀ { visible = v }) made → x ≡ get_or p.words.now (i * 2) 0 → u ≡ get_or p.words.now (i * 2 + 1) 0 →
    one ≡ cond (binds w₀.cur (indexed x) (entries v)) 0 1 → Bound x (hit u 1) w₀.cur v v1 → Seeing (i + 1) p w₀ (record w₀ { visible = v1 }) (made + one)
unfolding pairs_in Descends
next-seen {i} {p} {w₀} {one = one} {x} {u} b e f o q =
    let o : one ≡ cond (binds w₀.cur (indexed x) (above w₀.cur (pairs_in i p.words.now) (entries w₀.visible))) 0 1 = rw b.seen at o in
    record {
      same = refl;
      still = record { names = q.still.names ∙ b.still.names; lent = q.still.lent ∙ b.still.lent; size = q.still.size ∙ b.still.size };
      top = omega (arith, q.height, b.top);
      sound = q.sound;
      seen = rw (q.same, b.seen, add-one i, ← e, ← f) (sym (above-one w₀.cur (pairs_in i p.words.now) (indexed x) u (entries w₀.visible)));
      descends = rw q.same (omega arith, b.descends);
      first = rw (add-one i, ← e, ← f) (omega (arith, b.first, o, firsts-one w₀.cur (pairs_in i p.words.now) (indexed x) u (entries w₀.visible)));
      few = omega (arith, b.few, o, one_at_most (binds w₀.cur (indexed x) (above w₀.cur (pairs_in i p.words.now) (entries w₀.visible))));
    }

pub one_seen : {i : ℕ} {p : Pairs} {w₀ w : Walk} {v : Visible} {made one x u : ℕ} → Seeing i p w₀ w made → x ≡ get_or p.words.now (i * 2) 0 → u ≡ get_or p.words.now (i * 2 + 1) 0 → one ≡ cond (binds w.cur (indexed x) (entries w.visible)) 0 1 →
    Bound x (hit u 1) w.cur w.visible v → Seeing (i + 1) p w₀ (record w { visible = v }) (made + one)
one_seen {i} {p} {w₀} {w} {v} {made} {one} {x} {u} b e f o q =
    let z = same-cur b in
    subst (λ (y : Walk). Seeing (i + 1) p w₀ (record y { visible = v }) (made + one)) (sym b.same)
    (next-seen (subst (λ (y : Walk). Seeing i p w₀ y made) b.same b) e f (rw z at o) (rw z at q))

-- all of them
each_seen : {m : ℕ} {p : Pairs} {w₀ : Walk} {v : Visible} {made : ℕ} → Seeing m p w₀ (record w₀ { visible = v }) made → (c : Context) → SeesAll m p c w₀ (record w₀ { visible = v })
each_seen {m} {p} {w₀} {v} b c =
    record {
      fit = λ i k l f n h.
          let z : Below (places w₀.rowless) (entries v) = rw b.seen (above-below (places w₀.rowless) w₀.rowless.listed w₀.cur (pairs_in m p.words.now) (entries w₀.visible) (omega arith) n f.below) in
          seen-fits b.still f z b.sound b.descends (omega (arith, h, b.top));
      goes = λ id s n h.
          let ps = pairs_in m p.words.now in
          let z : as_named w₀.rowless (entries v) ≡ above w₀.cur ps s.names.visible = ap (λ (l : List Seen). as_named w₀.rowless l) b.seen ∙ above-named w₀.rowless w₀.cur ps (entries w₀.visible) n ∙ ap (λ (l : List Seen). above w₀.cur ps l) h.visible in
          let e : standing (above w₀.cur ps s.names.visible) w₀.cur s.names ≡ seen_by ps s.names = rw (seen_as_lem ps s.names, h.cur) in
          subst (λ (t : State). Holds id c (record w₀ { visible = v }) (record { names = t; kinds = s.kinds; olds = s.olds })) e (seen-holds z h);
    }

pub all_seen : {n : ℕ} {p : Pairs} {w₀ w : Walk} {made : ℕ} → Seeing n p w₀ w made → SeesFirst n p w₀ w made
all_seen {n} {p} {w₀} {w} {made} b =
    record {
      still = rw b.same (seen-still b.still);
      same = b.same;
      first = b.first;
      few = b.few;
      all = λ c. rw b.same (each_seen (subst (λ (y : Walk). Seeing n p w₀ y made) b.same b) c);
    }

-- ---- the new Root of a WITH
-- no scope above those of a list binds a name in it
false-or : (a b : Bool) → a ≡ false → b ≡ false → (a || b) ≡ false
false-or true b p q = p
false-or false b p q = q

and_no : (a b : Bool) → b ≡ false → (a && b) ≡ false
and_no true b q = q
and_no false b q = refl

pub unbound : (n c : ℕ) (x : Name) (l : List Seen) → n < c → Descends n l → binds c x l ≡ false
unfolding binds Descends
unbound n c x [] h d = refl
unbound n c x (seen y v p ∷ l) h d = let e = d.0 in false-or (same_name x y && eqb p c) (binds c x l) (and_no (same_name x y) (eqb p c) (ne_eqb p c (λ q. omega arith))) (unbound p c x l (omega arith) d.1)

binds-beside : (c : ℕ) (x : Name) (l below : List Seen) → binds c x below ≡ false → binds c x (l ++ below) ≡ binds c x l
unfolding binds
binds-beside c x [] below q = q
binds-beside c x (seen y v p ∷ l) below q = ap (λ (b : Bool). same_name x y && eqb p c || b) (binds-beside c x l below q)

-- names are bound above others of lower scopes as they are above none
bind-above : (w : World) (ps : List Pair) (c : ℕ) (l below : List Seen) (s : State) → ((x : Name) → binds c x below ≡ false) →
    bind_all w ps (standing (l ++ below) c s) ≡ standing ((bind_all w ps (standing l c s)).visible ++ below) (bind_all w ps (standing l c s)).cur (bind_all w ps (standing l c s))
unfolding bind_all
bind-above w [] c l below s q = refl
bind-above w (pair x v ∷ ps) c l below s q =
    rw (binds-beside c x l below (q x)) (bind-above w ps c (seen x (hit v 1) c ∷ l) below (say (bind true (binds c x l) (bound c x v (kind_of w v))) s) q)

see-above : (w : World) (ps : List Pair) (c : ℕ) (l : List Seen) (s t : State) → seen_by ps (standing l c s) ≡ standing (bind_all w ps (standing l c t)).visible (bind_all w ps (standing l c t)).cur s
unfolding bind_all
see-above w [] c l s t = refl
see-above w (pair x v ∷ ps) c l s t = see-above w ps c (seen x (hit v 1) c ∷ l) s (say (bind true (binds c x l) (bound c x v (kind_of w v))) t)

bind-cur : (w : World) (ps : List Pair) (s : State) → (bind_all w ps s).cur ≡ s.cur
unfolding bind_all
bind-cur w [] s = refl
bind-cur w (pair x v ∷ ps) s = bind-cur w ps _

pub barrier-last : (w : World) (a b : ℕ) (ps : List Pair) (s : State) → (barrier w a b ps s).last ≡ suc s.last
unfolding barrier
barrier-last w a b ps s = carry-last w ps (enter with_barrier a b s)

module _ (w : World) (a b : ℕ) (ps : List Pair) where
  abbrev pub renewed : State → State
  renewed y = fresh w b ps (barrier w a b ps y)

  rooted-above : (below : List Seen) (y : State) → ((x : Name) → binds (suc (barrier w a b ps y).last) x below ≡ false) → rooted_on below w a b ps y ≡ standing ((renewed y).visible ++ below) (renewed y).cur (renewed y)
  unfolding fresh
  rooted-above below y q = let t = barrier w a b ps y in bind-above w ps (suc t.last) [] below (enter root_scope b b t) q

  pub rooted-beside : (m : Mode) (s u : Both) → m.resolves ≡ true → ((x : Name) → binds (suc (barrier w a b ps u.names).last) x s.names.visible ≡ false) → beside m s (on_names renewed u) ≡ on_names (rooted_on s.names.visible w a b ps) u
  rooted-beside m s u live q = rw (live, rooted-above s.names.visible u.names q)

  pub seen-again : (m : Mode) (below : List Seen) (u z : Both) {c : ℕ} → m.resolves ≡ true → c ≡ (rooted_on below w a b ps u.names).cur → left m (on_names renewed u) z ≡ on_names (seen_by ps) (on_names (standing [] c) z)
  unfolding fresh
  seen-again m below u z live e =
      let t = barrier w a b ps u.names in
      rw (live, e, bind-cur w ps (enter root_scope b b (standing below t.cur t)), see-above w ps (suc t.last) [] z.names (enter root_scope b b t))
