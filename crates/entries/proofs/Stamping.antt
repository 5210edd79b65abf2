-- What the stamps tell, and bindings that are put one after another.
--     new-place                 a scope's name that the stamps don't know of is not bound
--     once-place                where no two entries are of one scope and name, the last place is the first
--     none_made, more-made      no binding, and bindings after others; `fits-still`
use Rattle.std.specs.Prelude.{Some}
use Prim.Native.Nat.{ℕ, suc, ◌*◌, ◌≤◌}
use native.Mathlib.Omega.{arith}
use mathlib.Core.Path.{◌≡◌, refl, ap, ◌∙◌}
use mathlib.Core.Bool.{Bool, true, false, cond, ◌&&◌}
use mathlib.Core.List.{List, [], ◌∷◌, ◌++◌}
use borrow.Author.Tests.{eqb-true, eq-eqb}
use lib.Dec.{eqb}
use lib.ListN.{length}
use Rattle.scope.specs.Flat.{binding_width}
use Rattle.scope.specs.Graph.{Name, name, same_name, Entry, entry}
use Rattle.scope.specs.Answer.{name_of}
use Rattle.semantics.specs.Log.{Bound, bound}
use Rattle.semantics.specs.Lists.{put, puts}
use Rattle.entries.specs.Adding.{place, Without, last_place, is_binding}
use Rattle.entries.specs.Stamps.{Knows, Stamped, Once, Marks, Kept, Fits, Finds, Stores, Makes, bound_of}
use Rattle.entries.specs.declared.Binding.{Binding}
use Rattle.entries.proofs.Placing.{none-ahead}

-- what the stamps don't know of is in no place
not-both : (b c : Bool) → (b ≡ true → c ≡ true → ⊥) → (b && c) ≡ false
not-both true true h = absurd (h refl refl)
not-both true false h = refl
not-both false c h = refl

both : (b c : Bool) → (b && c) ≡ true → (b ≡ true) × (c ≡ true)
both true true h = (refl, refl)
both true false h = absurd cc
both false c h = absurd cc

same-true : (x y : Name) → same_name x y ≡ true → x ≡ y
unfolding same_name
same-true (name m x) (name n y) h =
    let t = both (eqb m n) (eqb x y) h in
    rw (eqb-true m n t.0, eqb-true x y t.1)

same-self : (x : Name) → same_name x x ≡ true
unfolding same_name
same-self (name m x) = rw (eq-eqb m m refl, eq-eqb x x refl)

module _ (s t : ℕ) (x y : Name) where
  is-same : (eqb s t && same_name x y) ≡ true → (s ≡ t) × (x ≡ y)
  is-same e = let b = both (eqb s t) (same_name x y) e in (eqb-true s t b.0, same-true x y b.1)

  is-other : (eqb s t && same_name x y) ≡ false → (eqb t s && same_name y x) ≡ false
  is-other e =
      not-both (eqb t s) (same_name y x)
      (λ p q.
      let z : (eqb s s && same_name x x) ≡ false = rw (eqb-true t s p, same-true y x q) at e in
      let w : (true && true) ≡ false = rw (eq-eqb s s refl, same-self x) at z in
      cc)

module _ (stamps : List ℕ) (s : ℕ) (x : Name) (new : Knows stamps s x → ⊥) where
  another : (t : ℕ) (y : Name) → Knows stamps t y → (eqb s t && same_name x y) ≡ false
  another t y k = not-both (eqb s t) (same_name x y) (λ p q. new (rw (eqb-true s t p, same-true x y q) k))

  pub new-place : (es : List Entry) → Stamped stamps es → place (is_binding s x) es ≡ length es
  unfolding Stamped place
  new-place [] k = refl
  new-place (entry t y u j r ∷ es) k = rw (another t y k.0, new-place es k.1)

-- one of two lists
of_two : (P : List Entry → Type 0) (b : Bool) {l m : List Entry} → P l → P m → P (cond b l m)
of_two P true p q = p
of_two P false p q = q

-- stamps that know of a binding know of all when it is put
module _ (s : ℕ) (x : Name) (v k : ℕ) {stamps new : List ℕ} (h : Marks s x stamps new) where
  stamped-still : (es : List Entry) → Stamped stamps es → Stamped new es
  unfolding Stamped
  stamped-still [] a = tt
  stamped-still (entry t y u j r ∷ es) a = (h.there t y a.0, stamped-still es a.1)

  pub stamped-put : (es : List Entry) → Stamped stamps es → Stamped new (put (bound s x v k) es)
  unfolding Stamped put
  stamped-put [] a = (h.here, tt)
  stamped-put (entry t y u j r ∷ es) a = of_two (Stamped new) (eqb s t && same_name x y) (h.here, stamped-still es a.1) (h.there t y a.0, stamped-put es a.1)

-- no two of one scope and name: so it stays when a binding is put, and the last place is the first
module _ (s : ℕ) (x : Name) where
  pub once-place : (es : List Entry) → Once es → last_place (is_binding s x) es ≡ place (is_binding s x) es
  unfolding Once place last_place
  once-place [] o = refl
  once-place (entry t y u j r ∷ es) o = go (eqb s t && same_name x y) refl (once-place es o.1)
    where
      go : (b : Bool) → (eqb s t && same_name x y) ≡ b → last_place (is_binding s x) es ≡ place (is_binding s x) es →
          cond (b && eqb (place (is_binding s x) es) (length es)) 0 (suc (last_place (is_binding s x) es)) ≡ cond b 0 (suc (place (is_binding s x) es))
      go true e h =
          let p = is-same s t x y e in
          let none : Without (is_binding s x) es = rw (p.0, p.1) o.0 in
          rw (eq-eqb _ _ none)
      go false e h = ap suc h

module _ (s : ℕ) (x : Name) (v k : ℕ) where
  none-put : (t : ℕ) (y : Name) → (eqb t s && same_name y x) ≡ false → (es : List Entry) → Without (is_binding t y) es → Without (is_binding t y) (put (bound s x v k) es)
  unfolding place put
  none-put t y n [] w = rw n
  none-put t y n (entry r z u j q ∷ es) w =
      let h = none-ahead (eqb t r && same_name y z) w in
      of_two (λ l. place (is_binding t y) l ≡ length l) (eqb s r && same_name x z) (rw n (ap suc h.1)) (rw h.0 (ap suc (none-put t y n es h.1)))

  once-put : (es : List Entry) → Once es → Once (put (bound s x v k) es)
  unfolding Once place put
  once-put [] o = (refl, tt)
  once-put (entry t y u j r ∷ es) o = go (eqb s t && same_name x y) refl (once-put es o.1)
    where
      go : (b : Bool) → (eqb s t && same_name x y) ≡ b → Once (put (bound s x v k) es) → Once (cond b (entry s x v k (Some u) ∷ es) (entry t y u j r ∷ put (bound s x v k) es))
      go true e h =
          let p = is-same s t x y e in
          (rw (p.0, p.1) o.0, o.1)
      go false e h = (none-put t y (is-other s t x y e) es o.0, h)

-- bindings that are put never make a list shorter
pub put-grows : (b : Bound) (es : List Entry) → length es ≤ length (put b es)
unfolding put
put-grows (bound s x v k) [] = omega arith
put-grows (bound s x v k) (entry t y u j r ∷ es) = of_two (λ l. suc (length es) ≤ length l) (eqb s t && same_name x y) (omega arith) (omega (arith, put-grows (bound s x v k) es))

pub puts-grow : (bs : List Bound) (es : List Entry) → length es ≤ length (puts bs es)
unfolding puts
puts-grow [] es = omega arith
puts-grow (b ∷ bs) es = omega (arith, put-grows b es, puts-grow bs (put b es))

pub puts-append : (bs cs : List Bound) (es : List Entry) → puts (bs ++ cs) es ≡ puts cs (puts bs es)
unfolding puts
puts-append [] cs es = refl
puts-append (b ∷ bs) cs es = puts-append bs cs (put b es)

-- a binding whose place is found, with the stamps that know of it
pub one-made : (b : Binding) {i : ℕ} {out new stamps left : List ℕ} {m r : ℕ} → Finds b.scope (name_of b.name) out stamps m i → Marks b.scope (name_of b.name) stamps left → Stores b i out new m r → Makes (bound_of b ∷ []) (record { list = out; made = m; stamps = stamps }) (record { list = new; made = r; stamps = left })
unfolding puts
one-made b f h st =
    record {
      kept = st.kept;
      marks = h.kept;
      within = st.within;
      holds = λ old es k room. record {
        list = st.holds old es k.list (f.found old es k) room;
        stamped = stamped-put b.scope (name_of b.name) b.variable b.kind h es k.stamped;
        once = once-put b.scope (name_of b.name) b.variable b.kind es k.once;
      };
    }

-- no binding, and bindings after others
pub none_made : {a : Kept} → Fits a → Makes [] a a
unfolding puts
none_made f = record { kept = refl; marks = refl; within = f.room; holds = λ old es b room. b }

pub more-made : {bs cs : List Bound} {a b c : Kept} → Makes bs a b → Makes cs b c → Makes (bs ++ cs) a c
more-made {bs} {cs} {a} f g =
    record {
      kept = g.kept ∙ f.kept;
      marks = g.marks ∙ f.marks;
      within = rw (← f.kept) g.within;
      holds = λ old es b room.
          let all : length (puts cs (puts bs es)) * binding_width ≤ length a.list = rw (puts-append bs cs es) at room in
          let some' : length (puts bs es) * binding_width ≤ length a.list = omega (arith, all, puts-grow cs (puts bs es)) in
          rw (puts-append bs cs es) (g.holds old (puts bs es) (f.holds old es b some') (rw f.kept all));
    }

-- what fits still does
pub fits-still : {bs : List Bound} {a b : Kept} → Fits a → Makes bs a b → Fits b
fits-still f m = record { room = omega (arith, m.within, m.kept); stamped = omega (arith, f.stamped, m.marks) }
