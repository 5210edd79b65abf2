-- The views of a log in pieces, and of a log changed event by event. `pick-append`: a view of `l ++ m` is that of l and then that of m;
-- `scopes-append`, `binds-append`, `answers-append`, `carried-append`, `opened-append` say it of each view. `pick-map`: an event's view
-- goes with the event; `pick_same`: a view that doesn't see the change. `opened-reverse`: as many scopes are opened whichever way a log is
-- read; `map-reverse`: a list changed entry by entry, turned round.
use Prim.Native.Nat.{◌+◌}
use native.Mathlib.Omega.{arith}
use mathlib.Core.Path.{◌≡◌, refl, sym, ap₂}
use mathlib.Core.List.{List, [], ◌∷◌, ◌++◌, map, flat_map, reverse_aux, append_assoc, map-append}
use lib.ListN.{length-append}
use Rattle.semantics.specs.Log.{Event, open', bind, carry, answer, find, scopes_in, scope_of, binds_in, bind_of, carries_in, carry_of, answers_in, answer_of, opened, logs}

module _ {A B : Type 0} (f : A → List B) where
  pub pick-append : (l m : List A) → flat_map f (l ++ m) ≡ flat_map f l ++ flat_map f m
  unfolding flat_map
  pick-append [] m = refl
  pick-append (x ∷ l) m = rw (pick-append l m) (sym (append_assoc (f x) (flat_map f l) (flat_map f m)))

  pub pick-map : (g : A → A) (h : B → B) → ((a : A) → f (g a) ≡ map h (f a)) → (l : List A) → flat_map f (map g l) ≡ map h (flat_map f l)
  unfolding flat_map
  pick-map g h e [] = refl
  pick-map g h e (x ∷ l) = rw (e x, pick-map g h e l) (sym (map-append h (f x) (flat_map f l)))

  pub pick_same : (g : A → A) → ((a : A) → f (g a) ≡ f a) → (l : List A) → flat_map f (map g l) ≡ flat_map f l
  unfolding flat_map
  pick_same g e [] = refl
  pick_same g e (x ∷ l) = ap₂ ◌++◌ (e x) (pick_same g e l)

pub map-reverse : {A B : Type 0} (f : A → B) (l m : List A) → map f (reverse_aux l m) ≡ reverse_aux (map f l) (map f m)
map-reverse f [] m = refl
map-reverse f (x ∷ l) m = map-reverse f l (x ∷ m)

pub scopes-append : (l m : List Event) → scopes_in (l ++ m) ≡ scopes_in l ++ scopes_in m
unfolding scopes_in
scopes-append l m = pick-append scope_of l m

pub binds-append : (l m : List Event) → binds_in (l ++ m) ≡ binds_in l ++ binds_in m
unfolding binds_in
binds-append l m = pick-append bind_of l m

pub answers-append : (l m : List Event) → answers_in (l ++ m) ≡ answers_in l ++ answers_in m
unfolding answers_in
answers-append l m = pick-append answer_of l m

pub carried-append : (l m : List Event) → carries_in (l ++ m) ≡ carries_in l ++ carries_in m
unfolding carries_in
carried-append l m = pick-append carry_of l m

pub opened-append : (l m : List Event) → opened (l ++ m) ≡ opened l + opened m
unfolding opened scopes_in
opened-append l m = rw pick-append (length-append (flat_map scope_of l) (flat_map scope_of m))

pub opened-reverse : (l m : List Event) → opened (reverse_aux l m) ≡ opened l + opened m
unfolding logs
opened-reverse [] m = omega arith
opened-reverse (open' s ∷ l) m = omega (arith, opened-reverse l (open' s ∷ m))
opened-reverse (bind o g b ∷ l) m = opened-reverse l (bind o g b ∷ m)
opened-reverse (carry c ∷ l) m = opened-reverse l (carry c ∷ m)
opened-reverse (answer a ∷ l) m = opened-reverse l (answer a ∷ m)
opened-reverse (find f ∷ l) m = opened-reverse l (find f ∷ m)
