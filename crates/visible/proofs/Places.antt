-- Laws of the stack of visible names: where the newest entry of a name stands and what it tells (`told`), an entry as it is written
-- (`write`) and its third word is read (`parted`), one entry more (`more-seens`, `more-tabled`), and one less (`less-seens`, `less-tabled`).
use Rattle.std.specs.Prelude.{Option, Some, None}
use Prim.Native.Nat.{ℕ, zero, suc, ◌+◌, ◌*◌, ◌/◌, ◌%◌, ◌<◌, ◌≤◌}
use native.Mathlib.Omega.{arith}
use native.Mathlib.Numerals.{add-one}
use mathlib.Core.Path.{◌≡◌, refl, ap, ◌∙◌}
use mathlib.Core.Logic.{◌≢◌}
use mathlib.Core.Bool.{Bool, true, false, cond}
use mathlib.Core.List.{List, ◌∷◌}
use lib.Dec.{eqb, ltb}
use lib.ListN.{length, get_or, set, length-set}
use lib.Seq.{get_or-set_same, get_or-set_other}
use borrow.Author.Tests.{ne_eqb, eqb-true, eqb-false, ltb-true, ltb-false}
use Rattle.scope.specs.Graph.{Name, indexed, same_name}
use Rattle.semantics.specs.Resolve.{Hit, hit, seen, lookup}
use Rattle.visible.specs.Visible.{scope_of, answer, place, name_at, variable_at, seens, Tabled}
use Rattle.visible.specs.declared.Newest.{Newest}

pub length-seens : (n t : ℕ) (m : List ℕ) → length (seens n t m) ≡ t
unfolding seens
length-seens n zero m = refl
length-seens n (suc t) m = ap suc (length-seens n t m)

cond-le : (b : Bool) (p q t : ℕ) → p ≤ t → q ≤ t → cond b p q ≤ t
cond-le true p q t h k = h
cond-le false p q t h k = k

pub place-le : (x : Name) (n t : ℕ) (m : List ℕ) → place x (seens n t m) ≤ t
unfolding place seens
place-le x n zero m = omega arith
place-le x n (suc t) m = cond-le (same_name x (indexed (name_at n m t))) _ _ _ (omega (arith, length-seens n t m)) (omega (arith, place-le x n t m))

-- what the entry j tells
abbrev told_at : ℕ → List ℕ → ℕ → Newest
told_at n m j = let home = get_or m (n + j * 4 + 2) 0 in record { variable = variable_at n m j; scope = home / 2; via = home % 2 }

-- what a name's place tells: nothing where it is 0, and else the entry there
abbrev pub Told : ℕ → List ℕ → ℕ → Option Newest → Type 0
Told n m p r = (p ≡ 0 → r ≡ None) × ((j : ℕ) → p ≡ suc j → r ≡ Some (told_at n m j))

told-head : (c : Bool) (n t l q : ℕ) (m : List ℕ) (u : Option Hit) (s : ℕ) → l ≡ t → Told n m q (answer u s) →
    Told n m (cond c (suc l) q) (let e = told_at n m t in answer (cond c (Some (hit e.variable e.via)) u) (cond c e.scope s))
told-head true n t l q m u s e k = ((λ g. absurd (omega arith)), (λ j g. let z : t ≡ j = omega (arith, e, g) in rw z))
told-head false n t l q m u s e k = k

pub told : (x : Name) (n t : ℕ) (m : List ℕ) → Told n m (place x (seens n t m)) (answer (lookup x (seens n t m)) (scope_of x (seens n t m)))
unfolding place seens lookup scope_of
told x n zero m = ((λ l. refl), (λ j g. absurd (omega arith)))
told x n (suc t) m = told-head (same_name x (indexed (name_at n m t))) n t _ _ m _ _ (length-seens n t m) (told x n t m)

-- a name past the table has no place
pub far : (x n t : ℕ) (m : List ℕ) → ((i : ℕ) → i < t → name_at n m i < n) → n ≤ x → place (indexed x) (seens n t m) ≡ 0
unfolding place seens same_name
far x n zero m w h = refl
far x n (suc t) m w h =
    rw (ne_eqb x (name_at n m t) (λ e. omega (arith, w t (omega arith))), far x n t m (λ i l. w i (omega arith)) h)

-- words that are alike where the entries stand
pub seens-alike : (n t : ℕ) (new old : List ℕ) → ((i : ℕ) → n ≤ i → i < n + t * 4 → get_or new i 0 ≡ get_or old i 0) → seens n t new ≡ seens n t old
unfolding seens
seens-alike n zero new old e = refl
seens-alike n (suc t) new old e =
    rw (e (n + t * 4) (omega arith) (omega arith), e (n + t * 4 + 1) (omega arith) (omega arith), e (n + t * 4 + 2) (omega arith) (omega arith), seens-alike n t new old (λ i h k. e i h (omega arith)))

-- a scope and whether it came over a WITH, as one word
pub parted : (x : Name) (v c o : ℕ) → o ≤ 1 → seen x (hit v ((c * 2 + o) % 2)) ((c * 2 + o) / 2) ≡ seen x (hit v o) c
parted x v c o h =
    let p : (c * 2 + o) % 2 ≡ o = omega arith in
    let q : (c * 2 + o) / 2 ≡ c = omega arith in
    rw (p, q)

-- an entry is written over the height top, and the head of its name
pub record Written (n top x v c before : ℕ) (m new : List ℕ) : Type 0 where
  pub len : length new ≡ length m
  pub keep : (i : ℕ) → i < n + top * 4 → i ≢ x → get_or new i 0 ≡ get_or m i 0
  pub above : (i : ℕ) → n + top * 4 + 4 ≤ i → get_or new i 0 ≡ get_or m i 0
  pub at0 : get_or new (n + top * 4) 0 ≡ x
  pub at1 : get_or new (n + top * 4 + 1) 0 ≡ v
  pub at2 : get_or new (n + top * 4 + 2) 0 ≡ c
  pub at3 : get_or new (n + top * 4 + 3) 0 ≡ before
  pub head : get_or new x 0 ≡ top + 1

pub write : (n top x v c before : ℕ) (m : List ℕ) → x < n → n + (top + 1) * 4 ≤ length m →
    Written n top x v c before m (set (set (set (set (set m (n + top * 4) x) (n + top * 4 + 1) v) (n + top * 4 + 2) c) (n + top * 4 + 3) before) x (top + 1))
write n top x v c before m h r =
    let k = n + top * 4 in
    let a = set m k x in
    let b = set a (k + 1) v in
    let d = set b (k + 2) c in
    let e = set d (k + 3) before in
    let la = length-set m k x in
    let lb = length-set a (k + 1) v in
    let ld = length-set b (k + 2) c in
    let le = length-set d (k + 3) before in
    let out : (i : ℕ) → i ≢ x → get_or (set e x (top + 1)) i 0 ≡ get_or e i 0 = λ i q. get_or-set_other e x i (top + 1) 0 q in
    record {
      len = length-set e x (top + 1) ∙ le ∙ ld ∙ lb ∙ la;
      keep = λ i l q. out i q ∙ get_or-set_other d (k + 3) i _ 0 (λ z. omega arith) ∙ get_or-set_other b (k + 2) i _ 0 (λ z. omega arith) ∙ get_or-set_other a (k + 1) i _ 0 (λ z. omega arith) ∙ get_or-set_other m k i _ 0 (λ z. omega arith);
      above = λ i l. out i (λ z. omega arith) ∙ get_or-set_other d (k + 3) i _ 0 (λ z. omega arith) ∙ get_or-set_other b (k + 2) i _ 0 (λ z. omega arith) ∙ get_or-set_other a (k + 1) i _ 0 (λ z. omega arith) ∙ get_or-set_other m k i _ 0 (λ z. omega arith);
      at0 = out k (λ z. omega arith) ∙ get_or-set_other d (k + 3) k _ 0 (λ z. omega arith) ∙ get_or-set_other b (k + 2) k _ 0 (λ z. omega arith) ∙ get_or-set_other a (k + 1) k _ 0 (λ z. omega arith) ∙ get_or-set_same m k x 0 (omega arith);
      at1 = out (k + 1) (λ z. omega arith) ∙ get_or-set_other d (k + 3) (k + 1) _ 0 (λ z. omega arith) ∙ get_or-set_other b (k + 2) (k + 1) _ 0 (λ z. omega arith) ∙ get_or-set_same a (k + 1) v 0 (omega arith);
      at2 = out (k + 2) (λ z. omega arith) ∙ get_or-set_other d (k + 3) (k + 2) _ 0 (λ z. omega arith) ∙ get_or-set_same b (k + 2) c 0 (omega arith);
      at3 = out (k + 3) (λ z. omega arith) ∙ get_or-set_same d (k + 3) _ 0 (omega arith);
      head = get_or-set_same e x (top + 1) 0 (omega arith);
    }

-- one entry more
module _ (n top x v c o : ℕ) (bit : o ≤ 1) (old new : List ℕ) (w : Tabled n top old) (xn : x < n) (room : n + (top + 1) * 4 ≤ length old)
    (q : Written n top x v (c * 2 + o) (get_or old x 0) old new) where
  below : (t : ℕ) → t ≤ top → seens n t new ≡ seens n t old
  below t h = seens-alike n t new old (λ i a b. q.keep i (omega arith) (λ e. omega arith))

  all : seens n (suc top) new ≡ seen (indexed x) (hit v o) c ∷ seens n top old
  unfolding seens
  all = rw (q.at0, q.at1, q.at2, below top (omega arith), parted (indexed x) v c o bit)

  heads : (y : ℕ) → y < n → get_or new y 0 ≡ place (indexed y) (seens n (suc top) new)
  unfolding place same_name
  heads y h = rw all (go (eqb y x) refl)
    where
      go : (b : Bool) → eqb y x ≡ b → get_or new y 0 ≡ cond b (suc (length (seens n top old))) (place (indexed y) (seens n top old))
      go true e =
          let z : y ≡ x = eqb-true y x e in
          ap (λ (k : ℕ). get_or new k 0) z ∙ q.head ∙ omega (arith, length-seens n top old)
      go false e = q.keep y (omega arith) (eqb-false y x e) ∙ w.heads y h

  name_below : (i : ℕ) → i < top → name_at n new i ≡ name_at n old i
  name_below i h = q.keep _ (omega arith) (λ e. omega arith)

  prevs : (i : ℕ) → i < suc top → get_or new (n + i * 4 + 3) 0 ≡ place (indexed (name_at n new i)) (seens n i new)
  prevs i h = go (ltb i top) refl
    where
      go : (b : Bool) → ltb i top ≡ b → get_or new (n + i * 4 + 3) 0 ≡ place (indexed (name_at n new i)) (seens n i new)
      go true e =
          let l : i < top = ltb-true i top e in
          q.keep _ (omega arith) (λ e. omega arith) ∙ w.prevs i l ∙ rw (name_below i l, below i (omega arith))
      go false e =
          let l : top ≤ i = ltb-false i top e in
          let z : i ≡ top = omega arith in
          rw (z, q.at3, q.at0, below top (omega arith)) (w.heads x xn)

  named : (i : ℕ) → i < suc top → name_at n new i < n
  named i h = go (ltb i top) refl
    where
      go : (b : Bool) → ltb i top ≡ b → name_at n new i < n
      go true e =
          let l : i < top = ltb-true i top e in
          rw (name_below i l) (w.named i l)
      go false e =
          let l : top ≤ i = ltb-false i top e in
          let z : i ≡ top = omega arith in
          rw (z, q.at0) xn

  pub more-seens : seens n (top + 1) new ≡ seen (indexed x) (hit v o) c ∷ seens n top old
  more-seens = rw (add-one top) all

  pub more-tabled : Tabled n (top + 1) new
  more-tabled = rw (add-one top) (record { room = omega (arith, q.len); heads = heads; prevs = prevs; named = named })

-- one entry less
module _ (n t : ℕ) (old : List ℕ) (w : Tabled n (suc t) old) where
  abbrev less : List ℕ
  less = set old (name_at n old t) (get_or old (n + t * 4 + 3) 0)

  same_from : (i : ℕ) → n ≤ i → get_or less i 0 ≡ get_or old i 0
  same_from i h = get_or-set_other old _ i _ 0 (λ e. omega (arith, w.named t (omega arith)))

  pub less-seens : (k : ℕ) → seens n k less ≡ seens n k old
  less-seens k = seens-alike n k less old (λ i a b. same_from i a)

  less-heads : (y : ℕ) → y < n → get_or less y 0 ≡ place (indexed y) (seens n t old)
  unfolding place seens same_name
  less-heads y h = go (eqb y (name_at n old t)) refl
    where
      go : (b : Bool) → eqb y (name_at n old t) ≡ b → get_or less y 0 ≡ place (indexed y) (seens n t old)
      go true e =
          let z : y ≡ name_at n old t = eqb-true y _ e in
          rw z (get_or-set_same old (name_at n old t) _ 0 (omega (arith, w.named t (omega arith))) ∙ w.prevs t (omega arith))
      go false e = get_or-set_other old _ y _ 0 (eqb-false y _ e) ∙ (rw e at (w.heads y h))

  pub less-tabled : Tabled n t less
  less-tabled = record {
    room = omega (arith, length-set old (name_at n old t) (get_or old (n + t * 4 + 3) 0));
    heads = λ y h. rw (less-seens t) (less-heads y h);
    prevs = λ i h. same_from _ (omega arith) ∙ w.prevs i (omega arith) ∙ rw (same_from (n + i * 4) (omega arith), less-seens i);
    named = λ i h. rw (same_from (n + i * 4) (omega arith)) (w.named i (omega arith));
  }

-- a head lies within the words
pub near-head : {n top x : ℕ} {m : List ℕ} → Tabled n top m → x < n → n + get_or m x 0 * 4 ≤ length m
near-head {n} {top} {x} {m} w h = omega (arith, w.heads x h, place-le (indexed x) n top m, w.room)
