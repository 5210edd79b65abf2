-- The turns of `restack`: an entry that is not the newest of its name is passed (`pass`), and one that is goes to the kept ones (`take`);
-- the loop's begin (`begin`) and end (`once-seens`, `once-tabled`).
use Prim.Native.Nat.{ℕ, suc, ◌+◌, ◌*◌, ◌<◌, ◌≤◌}
use native.Mathlib.Omega.{arith}
use native.Mathlib.Numerals.{add-one}
use mathlib.Core.Path.{◌≡◌, refl, sym, ap, ◌∙◌}
use mathlib.Core.Logic.{◌≢◌}
use mathlib.Core.Bool.{Bool, true, false, cond}
use mathlib.Core.List.{List, ◌∷◌}
use lib.Dec.{eqb, ltb}
use lib.ListN.{length, get_or, set, length-set}
use lib.Seq.{get_or-set_same, get_or-set_other}
use borrow.Author.Tests.{ne_eqb, eq-eqb, eqb-true, eqb-false, ltb-true, ltb-false}
use Rattle.scope.specs.Graph.{indexed, same_name}
use Rattle.semantics.specs.Resolve.{hit, seen, pair, once}
use Rattle.visible.specs.Visible.{place, name_at, seens, seen_once, newest, Tabled, Halfway, Turned}
use Rattle.visible.proofs.Places.{parted, Written, length-seens, place-le, seens-alike}
use Rattle.visible.proofs.Once.{place-name, once-newest}

module _ (n top c : ℕ) (old m : List ℕ) (i j : ℕ) (w : Tabled n top old) (lt : i < top) (f : Halfway n top c old m i j) where
  abbrev x : ℕ
  x = name_at n old i

  abbrev v : ℕ
  v = get_or old (n + i * 4 + 1) 0

  -- an entry that is not the newest of its name
  pass-newest : place (indexed x) (seens n top old) ≢ suc i → newest n top old (suc i) ≡ newest n top old i
  unfolding newest
  pass-newest older = rw (ne_eqb (place (indexed x) (seens n top old)) (suc i) older) refl

  passed-by : place (indexed x) (seens n top old) ≢ suc i → (y : ℕ) → place (indexed y) (seens n top old) ≢ suc i
  passed-by older y e = older (rw (place-name y n top i old e) e)

  pass : place (indexed x) (seens n top old) ≢ suc i → Halfway n top c old m (suc i) j
  pass older = record {
    few = omega (arith, f.few);
    kept = f.kept;
    above = λ p h. f.above p (omega arith);
    same = f.same ∙ ap (seen_once c) (sym (pass-newest older));
    passed = λ y h l. f.passed y h (omega (arith, passed-by older y));
    coming = λ y h l. f.coming y h (omega arith);
    unseen = λ y h l. f.unseen y h (omega arith);
    prevs = f.prevs;
    named = f.named;
  }

  -- an entry that is
  module _ (new : List ℕ) (here : place (indexed x) (seens n top old) ≡ suc i) (q : Written n j x v (c * 2 + 1) 0 m new) where
    named-old : x < n
    named-old = w.named i lt

    below : (t : ℕ) → t ≤ j → seens n t new ≡ seens n t m
    below t h = seens-alike n t new m (λ p a b. q.keep p (omega arith) (λ e. omega (arith, named-old)))

    all : seens n (suc j) new ≡ seen (indexed x) (hit v 1) c ∷ seens n j m
    unfolding seens
    all = rw (q.at0, q.at1, q.at2, below j (omega arith), parted (indexed x) v c 1 (omega arith)) refl

    take-newest : newest n top old (suc i) ≡ pair (indexed x) v ∷ newest n top old i
    unfolding newest
    take-newest = rw (eq-eqb (place (indexed x) (seens n top old)) (suc i) here) refl

    same : seens n (suc j) new ≡ seen_once c (newest n top old (suc i))
    unfolding seen_once
    same = rw (all, take-newest, f.same) refl

    passed : (y : ℕ) → y < n → place (indexed y) (seens n top old) ≤ suc i → get_or new y 0 ≡ place (indexed y) (seens n (suc j) new)
    unfolding place same_name
    passed y h l = rw all (go (eqb y x) refl)
      where
        go : (b : Bool) → eqb y x ≡ b → get_or new y 0 ≡ cond b (suc (length (seens n j m))) (place (indexed y) (seens n j m))
        go true e =
            let z : y ≡ x = eqb-true y x e in
            ap (λ (k : ℕ). get_or new k 0) z ∙ q.head ∙ omega (arith, length-seens n j m)
        go false e =
            let older : place (indexed y) (seens n top old) ≢ suc i = λ g. eqb-false y x e (sym (place-name y n top i old g)) in
            q.keep y (omega arith) (eqb-false y x e) ∙ f.passed y h (omega (arith, older))

    another : (y : ℕ) → suc i < place (indexed y) (seens n top old) → y ≢ x
    another y l e =
        let z : place (indexed y) (seens n top old) ≡ suc i = ap (λ (k : ℕ). place (indexed k) (seens n top old)) e ∙ here in
        omega arith

    unseen : (y : ℕ) → y < n → suc i < place (indexed y) (seens n top old) → place (indexed y) (seens n (suc j) new) ≡ 0
    unfolding place same_name
    unseen y h l = rw (all, ne_eqb y x (another y l)) (f.unseen y h (omega arith))

    name_below : (a : ℕ) → a < j → name_at n new a ≡ name_at n m a
    name_below a h = q.keep _ (omega arith) (λ e. omega (arith, named-old))

    prevs : (a : ℕ) → a < suc j → get_or new (n + a * 4 + 3) 0 ≡ place (indexed (name_at n new a)) (seens n a new)
    prevs a h = go (ltb a j) refl
      where
        go : (b : Bool) → ltb a j ≡ b → get_or new (n + a * 4 + 3) 0 ≡ place (indexed (name_at n new a)) (seens n a new)
        go true e =
            let l : a < j = ltb-true a j e in
            q.keep _ (omega arith) (λ e. omega (arith, named-old)) ∙ f.prevs a l ∙ rw (name_below a l, below a (omega arith)) refl
        go false e =
            let l : j ≤ a = ltb-false a j e in
            let z : a ≡ j = omega arith in
            rw (z, q.at3, q.at0, below j (omega arith)) (sym (f.unseen x named-old (omega (arith, here))))

    named : (a : ℕ) → a < suc j → name_at n new a < n
    named a h = go (ltb a j) refl
      where
        go : (b : Bool) → ltb a j ≡ b → name_at n new a < n
        go true e =
            let l : a < j = ltb-true a j e in
            rw (name_below a l) (f.named a l)
        go false e =
            let l : j ≤ a = ltb-false a j e in
            let z : a ≡ j = omega arith in
            rw (z, q.at0) named-old

    take : Halfway n top c old new (suc i) (suc j)
    take = record {
      few = omega (arith, f.few);
      kept = q.len ∙ f.kept;
      above = λ p h. q.above p (omega (arith, f.few)) ∙ f.above p (omega arith);
      same = same;
      passed = passed;
      coming = λ y h l. q.keep y (omega arith) (another y l) ∙ f.coming y h (omega arith);
      unseen = unseen;
      prevs = prevs;
      named = named;
    }

  -- what the head says: the entry i is the newest of its name if the head points at it
  is-newest : get_or m x 0 ≡ suc i → place (indexed x) (seens n top old) ≡ suc i
  is-newest e = go (ltb i (place (indexed x) (seens n top old))) refl
    where
      go : (b : Bool) → ltb i (place (indexed x) (seens n top old)) ≡ b → place (indexed x) (seens n top old) ≡ suc i
      go true d = sym (f.coming x (w.named i lt) (ltb-true i _ d)) ∙ e
      go false d = absurd (omega (arith, e, f.few, place-le (indexed x) n j m, f.passed x (w.named i lt) (ltb-false i _ d)))

  is-older : get_or m x 0 ≢ suc i → place (indexed x) (seens n top old) ≢ suc i
  is-older older e = older (f.coming x (w.named i lt) (omega (arith, e)) ∙ e)

-- the turns as the code has them
pub turn-pass : {n c i j : ℕ} {m : List ℕ} → get_or m (name_at n m i) 0 ≢ i + 1 → Turned n c m m i j j
turn-pass {n} {c} {i} {j} {m} older = record {
  kept = refl;
  on = λ top old w lt f. rw (add-one i)
      (pass n top c old m i j w lt f
      (is-older n top c old m i j w lt f (λ e. older (ap (λ (k : ℕ). get_or m k 0) (f.above (n + i * 4) (omega arith)) ∙ e ∙ sym (add-one i)))));
}

pub turn-take : {n c i j : ℕ} {m new : List ℕ} → get_or m (name_at n m i) 0 ≡ i + 1 →
    Written n j (name_at n m i) (get_or m (n + i * 4 + 1) 0) (c * 2 + 1) 0 m new → Turned n c m new i j (j + 1)
turn-take {n} {c} {i} {j} {m} {new} e q = record {
  kept = q.len;
  on = λ top old w lt f.
      let a = f.above (n + i * 4) (omega arith) in
      let b = f.above (n + i * 4 + 1) (omega arith) in
      let q' : Written n j (name_at n old i) (get_or old (n + i * 4 + 1) 0) (c * 2 + 1) 0 m new = rw (a, b) at q in
      let e' : get_or m (name_at n old i) 0 ≡ suc i = (rw a at e) ∙ add-one i in
      rw (add-one i, add-one j) (take n top c old m i j w lt f new (is-newest n top c old m i j w lt f e') q');
}

-- an entry that stays where it is
pub stay : (n i c : ℕ) (m : List ℕ) → name_at n m i < n → n + (i + 1) * 4 ≤ length m → get_or m (name_at n m i) 0 ≡ i + 1 →
    Written n i (name_at n m i) (get_or m (n + i * 4 + 1) 0) c 0 m (set (set m (n + i * 4 + 2) c) (n + i * 4 + 3) 0)
stay n i c m h r e =
    let k = n + i * 4 in
    let a = set m (k + 2) c in
    let la = length-set m (k + 2) c in
    let out : (p : ℕ) → p ≢ k + 2 → p ≢ k + 3 → get_or (set a (k + 3) 0) p 0 ≡ get_or m p 0 = λ p y z. get_or-set_other a (k + 3) p 0 0 z ∙ get_or-set_other m (k + 2) p c 0 y in
    record {
      len = length-set a (k + 3) 0 ∙ la;
      keep = λ p l q. out p (λ z. omega arith) (λ z. omega arith);
      above = λ p l. out p (λ z. omega arith) (λ z. omega arith);
      at0 = out k (λ z. omega arith) (λ z. omega arith);
      at1 = out (k + 1) (λ z. omega arith) (λ z. omega arith);
      at2 = get_or-set_other a (k + 3) (k + 2) 0 0 (λ z. omega arith) ∙ get_or-set_same m (k + 2) c 0 (omega arith);
      at3 = get_or-set_same a (k + 3) 0 0 (omega arith);
      head = out (name_at n m i) (λ z. omega arith) (λ z. omega arith) ∙ e;
    }

pub turn-stay : {n c i j : ℕ} {m : List ℕ} → i ≡ j → name_at n m i < n → n + (i + 1) * 4 ≤ length m → get_or m (name_at n m i) 0 ≡ i + 1 →
    Turned n c m (set (set m (n + i * 4 + 2) (c * 2 + 1)) (n + i * 4 + 3) 0) i j (j + 1)
turn-stay {n} {c} {i} {j} {m} z h r e = rw (← z) (turn-take e (stay n i (c * 2 + 1) m h r e))

-- the loop begins
pub begin : {n top c : ℕ} {m : List ℕ} → Tabled n top m → Halfway n top c m m 0 0
unfolding seens seen_once newest place
begin {n} {top} {c} {m} w = record {
  few = omega arith;
  kept = refl;
  above = λ p h. refl;
  same = refl;
  passed = λ x h l. w.heads x h ∙ omega (arith, l);
  coming = λ x h l. w.heads x h;
  unseen = λ x h l. refl;
  prevs = λ a h. absurd (omega arith);
  named = λ a h. absurd (omega arith);
}

-- the kept entries are each name once, and the words hold them
pub once-seens : {n top c j : ℕ} {old m : List ℕ} → Halfway n top c old m top j → seens n j m ≡ seen_once c (once (seens n top old))
once-seens {n} {top} {c} {j} {old} f = f.same ∙ ap (seen_once c) (sym (once-newest n top old))

pub once-tabled : {n top c j : ℕ} {old m : List ℕ} → Tabled n top old → Halfway n top c old m top j → Tabled n j m
once-tabled {n} {top} {c} {j} {old} w f = record {
  room = omega (arith, f.few, f.kept, w.room);
  heads = λ x h. f.passed x h (place-le (indexed x) n top old);
  prevs = f.prevs;
  named = f.named;
}
