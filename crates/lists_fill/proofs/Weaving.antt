-- What is woven, a carried entry and an event at a time.
--     Adopting                  what the loop over a barrier's entries keeps; `adopt-begin`, `adopt-turn`, `adopt-stop`, `adopt-done`
--     woven-more, left-more     what one event more gives, and what it leaves of the carried entries
--     Weaving                   what the loop over the events keeps; `weave-begin`, `weave_turn`
use Prim.Native.Nat.{ℕ, suc, ◌+◌, ◌-◌, ◌*◌, ◌<◌, ◌≤◌}
use native.Mathlib.Nat.{add-zero}
use native.Mathlib.Omega.{arith}
use mathlib.Core.Path.{◌≡◌, refl, sym, ap, ◌∙◌}
use mathlib.Core.List.{List, [], ◌∷◌, ◌++◌, flat_map, append-nil, append_assoc}
use borrow.Author.Tests.{eq-eqb, ne_eqb}
use lib.ListN.{length, get_or, drop}
use lib.Seq.{get_or-drop}
use Rattle.scope.specs.Flat.{binding_width, carried_width, carried_of, carrieds_of}
use Rattle.scope.specs.Graph.{Name, name, carried}
use Rattle.scope.specs.Graph as graph
use Rattle.scope.proofs.Entries.{first, next, last}
use Rattle.scope.proofs.Climbing.{parent-of}
use Rattle.semantics.specs.Log.{Bound, bound, Event, open', bind, carry, answer, find, bind_of}
use Rattle.semantics.specs.Lists.{puts}
use Rattle.theorems.specs.Woven.{barrier_of, adopted, beyond, adopted_by, beyond_by, woven}
use Rattle.steps.specs.Said.{events, event_at}
use Rattle.entries.specs.Filled.{binding_words}
use Rattle.entries.specs.Adding.{Holds}
use Rattle.entries.specs.Stamps.{Kept, Fits, Stamped, Once, Makes, bound_of}
use Rattle.entries.specs.declared.Binding.{Binding}
use Rattle.entries.proofs.Filling.{filled-nil}
use Rattle.entries.proofs.Stamping.{none_made, more-made, fits-still}
use Rattle.lists_fill.specs.Said.{events_in}
use Rattle.lists_fill.specs.Weaving.{carried_from, barrier_in, kinds, rest, woven_one, Leaves, Adopts}
use Rattle.lists_fill.specs.declared.Carried.{Carried}
use Rattle.lists_fill.proofs.Adding.{next-event}

-- the name of the entry numbered p of a carried list, and the entry
abbrev name_at : List ℕ → ℕ → Name
name_at l p = name (get_or l (p * carried_width + 3) 0) (get_or l (p * carried_width + 1) 0)

carried-at : (p : ℕ) (l : List ℕ) → carried_of (drop p l) ≡ carried (get_or l p 0) (name (get_or l (p + 3) 0) (get_or l (p + 1) 0)) (get_or l (p + 2) 0)
carried-at p l = simp (get_or-drop, add-zero)

module _ (kind : ℕ → ℕ) (taken : ℕ) (l : List ℕ) where
  next-carried : (p : ℕ) → p < taken → carried_from taken l p ≡ carried (get_or l (p * carried_width) 0) (name_at l p) (get_or l (p * carried_width + 2) 0) ∷ carried_from taken l (p + 1)
  next-carried p h = next carried_width carried_of taken l p h ∙ ap (λ e. e ∷ carried_from taken l (p + 1)) (carried-at (p * carried_width) l)

  -- what barrier b carries, from the number p on
  more-adopted : (b p : ℕ) → p < taken → get_or l (p * carried_width) 0 ≡ b → adopted kind b (carried_from taken l p) ≡ bound (suc b) (name_at l p) (get_or l (p * carried_width + 2) 0) (kind (get_or l (p * carried_width + 2) 0)) ∷ adopted kind b (carried_from taken l (p + 1))
  unfolding adopted
  more-adopted b p h e = rw (next-carried p h, eq-eqb b (get_or l (p * carried_width) 0) (sym e))

  more-beyond : (b p : ℕ) → p < taken → get_or l (p * carried_width) 0 ≡ b → beyond kind b (carried_from taken l p) ≡ beyond kind b (carried_from taken l (p + 1))
  unfolding beyond
  more-beyond b p h e = rw (next-carried p h, eq-eqb b (get_or l (p * carried_width) 0) (sym e))

  none-adopted : (b p : ℕ) → p < taken → (get_or l (p * carried_width) 0 ≡ b → ⊥) → adopted kind b (carried_from taken l p) ≡ []
  unfolding adopted
  none-adopted b p h e = rw (next-carried p h, ne_eqb b (get_or l (p * carried_width) 0) (λ q. e (sym q)))

  none-beyond : (b p : ℕ) → p < taken → (get_or l (p * carried_width) 0 ≡ b → ⊥) → beyond kind b (carried_from taken l p) ≡ carried_from taken l p
  unfolding beyond
  none-beyond b p h e = rw (next-carried p h, ne_eqb b (get_or l (p * carried_width) 0) (λ q. e (sym q)))

  -- The loop: of the entries from c on, those up to p are bound.
  pub record Adopting (b c : ℕ) (a k : Kept) (p : ℕ) : Type 0 where
    pub done : List Bound
    pub within : p ≤ taken
    pub same : adopted kind b (carried_from taken l c) ≡ done ++ adopted kind b (carried_from taken l p)
    pub over : beyond kind b (carried_from taken l c) ≡ beyond kind b (carried_from taken l p)
    pub makes : Makes done a k

  pub adopt-begin : {a : Kept} {c : ℕ} (b : ℕ) → c ≤ taken → Fits a → Adopting b c a a c
  adopt-begin b h f = record { done = []; within = h; same = refl; over = refl; makes = none_made f }

  pub adopt-turn : {a k m : Kept} {c w p : ℕ} {b : Binding} → Adopting (w - 1) c a k p → 1 ≤ w → p < taken → get_or l (p * carried_width) 0 ≡ w - 1 → bound_of b ≡ bound w (name_at l p) (get_or l (p * carried_width + 2) 0) (kind (get_or l (p * carried_width + 2) 0)) → Makes (bound_of b ∷ []) k m → Adopting (w - 1) c a m (p + 1)
  adopt-turn {c = c} {w = w} {p = p} {b = b} a some' h e same f =
      let root : suc (w - 1) ≡ w = omega arith in
      let one : adopted kind (w - 1) (carried_from taken l p) ≡ bound_of b ∷ adopted kind (w - 1) (carried_from taken l (p + 1)) = more-adopted (w - 1) p h e ∙ rw (root, same) in
      record {
        done = a.done ++ (bound_of b ∷ []);
        within = omega arith;
        same = a.same ∙ rw one (sym (append_assoc a.done (bound_of b ∷ []) (adopted kind (w - 1) (carried_from taken l (p + 1)))));
        over = a.over ∙ more-beyond (w - 1) p h e;
        makes = more-made a.makes f;
      }

module _ (w : Carried) where
  -- without a barrier nothing is bound
  pub adopt-none : {a : Kept} {c : ℕ} (root : ℕ) → root ≡ 0 → c ≤ w.taken → Fits a → Adopts w c root a a c
  adopt-none root e h f = rw e (record { makes = none_made f; met = h; next = refl })

  module _ {a b : Kept} {root c p : ℕ} (k : Adopting (kinds w) w.taken w.list.now (root - 1) c a b p) (some' : 1 ≤ root) where
    ended : adopted (kinds w) (root - 1) (rest w p) ≡ [] → beyond (kinds w) (root - 1) (rest w p) ≡ rest w p → Adopts w c root a b p
    ended none' over =
        let all : adopted (kinds w) (root - 1) (rest w c) ≡ k.done = k.same ∙ rw none' (append-nil k.done) in
        rw (parent-of root (λ e. omega arith), all)
        (record { makes = k.makes; met = k.within; next = sym (k.over ∙ over) })

    pub adopt-stop : p < w.taken → (get_or w.list.now (p * carried_width) 0 ≡ root - 1 → ⊥) → Adopts w c root a b p
    adopt-stop h e = ended (none-adopted (kinds w) w.taken w.list.now (root - 1) p h e) (none-beyond (kinds w) w.taken w.list.now (root - 1) p h e)

    pub adopt-done : w.taken ≤ p → Adopts w c root a b w.taken
    unfolding adopted beyond
    adopt-done h =
        let nothing = last carried_width carried_of w.taken w.list.now p h in
        let all : p ≡ w.taken = omega (arith, k.within) in
        rw all at (ended (rw nothing) (rw nothing))

-- bindings after those, with the same carried entries left
pub leave-more : {bs cs : List Bound} {left : List graph.Carried} {w : Carried} {a b k : Kept} {r : ℕ} → Leaves bs left w a b r → Makes cs b k → Leaves (bs ++ cs) left w a k r
leave-more a f = record { makes = more-made a.makes f; met = a.met; next = a.next }

-- One event more.
module _ (kind : ℕ → ℕ) where
  unfoldable pub left_over : List Event → List graph.Carried → List graph.Carried
  left_over [] cs = cs
  left_over (e ∷ l) cs = left_over l (beyond_by kind (barrier_in e) cs)

  woven-one : (e : Event) (l : List Event) (cs : List graph.Carried) → woven kind (e ∷ l) cs ≡ woven_one kind e cs ++ woven kind l (beyond_by kind (barrier_in e) cs)
  unfolding woven barrier_in bind_of
  woven-one (open' s) l cs = rw (append-nil (adopted_by kind (barrier_of s) cs))
  woven-one (bind o g b) l cs = refl
  woven-one (carry c) l cs = refl
  woven-one (answer a) l cs = refl
  woven-one (find f) l cs = refl

  none_more : (e : Event) (cs ds : List graph.Carried) → woven_one kind e cs ++ woven kind [] ds ≡ woven kind [] cs ++ woven_one kind e cs
  unfolding woven
  none_more e cs ds = append-nil (woven_one kind e cs)

  woven-more : (l : List Event) (e : Event) (cs : List graph.Carried) → woven kind (l ++ (e ∷ [])) cs ≡ woven kind l cs ++ woven_one kind e (left_over l cs)
  unfolding left_over
  woven-more [] e cs = woven-one e [] cs ∙ none_more e cs (beyond_by kind (barrier_in e) cs)
  woven-more (d ∷ l) e cs =
      let ds = beyond_by kind (barrier_in d) cs in
      woven-one d (l ++ (e ∷ [])) cs ∙ rw (woven-more l e ds, woven-one d l cs) (sym (append_assoc (woven_one kind d cs) (woven kind l ds) (woven_one kind e (left_over l ds))))

  left-more : (l : List Event) (e : Event) (cs : List graph.Carried) → left_over (l ++ (e ∷ [])) cs ≡ beyond_by kind (barrier_in e) (left_over l cs)
  unfolding left_over
  left-more [] e cs = refl
  left-more (d ∷ l) e cs = left-more l e (beyond_by kind (barrier_in d) cs)

-- bindings put into a list that had none
pub made-of-none : {bs : List Bound} {a b : Kept} → a.made ≡ 0 → Makes bs a b → length (puts bs []) * binding_width ≤ length a.list → Holds binding_words a.list b.list b.made (puts bs [])
unfolding flat_map Stamped Once
made-of-none {a = a} e h room = (h.holds a.list [] (record { list = record { count = e; wrote = sym (filled-nil a.list); kept = refl }; stamped = tt; once = tt }) room).list

-- The loop over n events: i are passed and c carried entries are met, whatever the use ids of names are.
pub record Weaving (w : Carried) (found : List ℕ) (n : ℕ) (a b : Kept) (i c : ℕ) : Type 0 where
  pub met : c ≤ w.taken
  pub fits : Fits b
  pub next : (id : ℕ → ℕ) → rest w c ≡ left_over (kinds w) (events_in id i found) (carrieds_of w.taken w.list.now)
  pub makes : (id : ℕ → ℕ) → Makes (woven (kinds w) (events_in id i found) (carrieds_of w.taken w.list.now)) a b

module _ {w : Carried} {found : List ℕ} {n : ℕ} {a : Kept} where
  pub weave-begin : Fits a → Weaving w found n a a 0 0
  unfolding events_in events left_over woven
  weave-begin f =
      record {
        met = omega arith;
        fits = f;
        next = λ id. first carried_width carried_of w.taken w.list.now;
        makes = λ id. none_made f;
      }

  pub weave_turn : {b k : Kept} {i c r : ℕ} → Weaving w found n a b i c → ((id : ℕ → ℕ) → Leaves (woven_one (kinds w) (event_at id found (i * 6)) (rest w c)) (beyond_by (kinds w) (barrier_in (event_at id found (i * 6))) (rest w c)) w b k r) → Weaving w found n a k (i + 1) r
  weave_turn {i = i} o f =
      let one = f (λ x. x) in
      let cs = carrieds_of w.taken w.list.now in
      record {
        met = one.met;
        fits = fits-still o.fits one.makes;
        next = λ id. (f id).next ∙ rw (next-event id found i, left-more (kinds w) (events_in id i found) (event_at id found (i * 6)) cs, ← o.next id);
        makes = λ id. rw (next-event id found i, woven-more (kinds w) (events_in id i found) (event_at id found (i * 6)) cs, ← o.next id) (more-made (o.makes id) (f id).makes);
      }
