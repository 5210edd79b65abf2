-- Laws of chains: what is sought and found (`seek_hit`, `seek-miss`), a search along a chain (`at-head`, `at-prev`, `told`), one key
-- more (`more`), none yet (`none-chained`), and the same keys by other means (`chained-alike`).
use Prim.Native.Nat.{ℕ, zero, suc, ◌+◌, ◌-◌, ◌<◌, ◌≤◌}
use native.Mathlib.Omega.{arith}
use native.Mathlib.Numerals.{add-one}
use mathlib.Core.Path.{◌≡◌, refl, ap, sym, ◌∙◌}
use mathlib.Core.Logic.{◌≢◌}
use mathlib.Core.Bool.{Bool, true, false, cond}
use mathlib.Core.List.{List}
use lib.Dec.{eqb, ltb}
use lib.ListN.{length, get_or, set, length-set}
use lib.Seq.{get_or-set_same, get_or-set_other}
use borrow.Author.Tests.{eqb-true, eqb-false, ltb-true, ltb-false}
use Rattle.tables.proofs.Fresh.{is-not}
use Rattle.rows.specs.Rows.{newest, seek, keyed, Chained, Hangs, Tells}

cond-le : (b : Bool) (p q t : ℕ) → p ≤ t → q ≤ t → cond b p q ≤ t
cond-le true p q t h k = h
cond-le false p q t h k = k

pub seek-le : (f : ℕ → ℕ) (v t : ℕ) → seek f v t ≤ t
unfolding newest
seek-le f v zero = omega arith
seek-le f v (suc t) = cond-le (eqb (f t) v) _ _ _ (omega arith) (omega (arith, seek-le f v t))

pub ruleset sought_within = (seek-le)

-- what is found has the key
pub seek_hit : (f : ℕ → ℕ) (v t j : ℕ) → seek f v t ≡ suc j → f j ≡ v
unfolding newest
seek_hit f v zero j e = absurd (omega arith)
seek_hit f v (suc t) j e = go (seek_hit f v t j) (eqb (f t) v) refl e
  where
    go : (seek f v t ≡ suc j → f j ≡ v) → (b : Bool) → eqb (f t) v ≡ b → cond b (suc t) (seek f v t) ≡ suc j → f j ≡ v
    go h true q e =
        let z : j ≡ t = omega arith in
        rw z (eqb-true (f t) v q)
    go h false q e = h e

-- what is not found is not there
pub seek-miss : (f : ℕ → ℕ) (v t j : ℕ) → seek f v t ≡ 0 → j < t → f j ≢ v
unfolding newest
seek-miss f v zero j e h = absurd (omega arith)
seek-miss f v (suc t) j e h = go (seek-miss f v t j) (eqb (f t) v) refl e (ltb j t) refl
  where
    go : (seek f v t ≡ 0 → j < t → f j ≢ v) → (b : Bool) → eqb (f t) v ≡ b → cond b (suc t) (seek f v t) ≡ 0 → (c : Bool) → ltb j t ≡ c → f j ≢ v
    go k true q e c l = absurd (omega arith)
    go k false q e true l = k e (ltb-true j t l)
    go k false q e false l =
        let z : j ≡ t = omega (arith, ltb-false j t l) in
        rw z (eqb-false (f t) v q)

-- only its chain matters to a test that holds for none but keys in the slot x
skip : (key : ℕ → ℕ) (test : ℕ → Bool) (x t : ℕ) → ((i : ℕ) → test i ≡ true → key i ≡ x) → newest test t ≡ newest test (seek key x t)
unfolding newest
skip key test x zero h = refl
skip key test x (suc t) h = go (skip key test x t h) (eqb (key t) x) refl
  where
    go : newest test t ≡ newest test (seek key x t) → (b : Bool) → eqb (key t) x ≡ b → newest test (suc t) ≡ newest test (cond b (suc t) (seek key x t))
    go l true e = refl
    go l false e = rw (is-not (test t) (λ q. eqb-false _ _ e (h t q))) l

-- where the search stands: at i, in the chain of the slot x
pub record Sought (says : ℕ → Bool → Type 0) (m x : ℕ) (tab : List ℕ) (i : ℕ) : Type 0 where
  pub le : (g f : ℕ → ℕ) (n : ℕ) → Chained g m n f tab → i ≤ n
  pub chain : (g f : ℕ → ℕ) (n : ℕ) → Chained g m n f tab → (j : ℕ) → i ≡ suc j → g (f j) ≡ x
  pub same : (g f : ℕ → ℕ) (n : ℕ) (test : ℕ → Bool) → Tells says m x tab g f n test → newest test n ≡ newest test i

module _ {says : ℕ → Bool → Type 0} {m x : ℕ} {tab : List ℕ} where
  pub at-head : x < m → Sought says m x tab (get_or tab x 0)
  at-head h =
      record {
        le = λ g f n w. rw (w.heads x h) (seek-le (keyed g f) x n);
        chain = λ g f n w j e. seek_hit (keyed g f) x n j (sym (w.heads x h) ∙ e);
        same = λ g f n test t. rw (t.chained.heads x h) (skip (keyed g f) test x n t.inside);
      }

  module _ {i : ℕ} (l : Sought says m x tab i) (h : 0 < i) where
    one : i ≡ suc (i - 1)
    one = omega arith

    prev : (g f : ℕ → ℕ) (n : ℕ) → Chained g m n f tab → get_or tab (m + (i - 1)) 0 ≡ seek (keyed g f) x (i - 1)
    prev g f n w = rw (l.chain g f n w (i - 1) one) at (w.prevs (i - 1) (omega (arith, l.le g f n w)))

    pub prev-le : (g f : ℕ → ℕ) (n : ℕ) → Chained g m n f tab → get_or tab (m + (i - 1)) 0 ≤ i - 1
    prev-le g f n w = rw (prev g f n w) (seek-le (keyed g f) x (i - 1))

    pub told : (g f : ℕ → ℕ) (n : ℕ) (test : ℕ → Bool) (b : Bool) → Tells says m x tab g f n test → says (i - 1) b → newest test n ≡ cond b i (newest test (i - 1))
    unfolding newest
    told g f n test b t s =
        l.same g f n test t ∙ ap (newest test) one ∙ rw (t.said (i - 1) b (omega (arith, l.le g f n t.chained)) s, ← one)

    pub at-prev : says (i - 1) false → Sought says m x tab (get_or tab (m + (i - 1)) 0)
    at-prev s =
        record {
          le = λ g f n w. omega (arith, prev-le g f n w, l.le g f n w);
          chain = λ g f n w j e. seek_hit (keyed g f) x (i - 1) j (sym (prev g f n w) ∙ e);
          same = λ g f n test t. told g f n test false t s ∙ rw (prev g f n t.chained) (skip (keyed g f) test x (i - 1) t.inside);
        }

-- one more, in the slot x
module _ (m n x : ℕ) (old : List ℕ) (r : m + n < length old) (b : x < m) where
  abbrev mid : List ℕ
  mid = set old (m + n) (get_or old x 0)

  abbrev new : List ℕ
  new = set mid x (n + 1)

  keep : (i : ℕ) → i < m + n → i ≢ x → get_or new i 0 ≡ get_or old i 0
  keep i h e = get_or-set_other mid x i _ 0 e ∙ get_or-set_other old (m + n) i _ 0 (λ z. omega arith)

  module _ (g f : ℕ → ℕ) (same : x ≡ g (f n)) (w : Chained g m n f old) where
    head_more : (y : ℕ) → y < m → get_or new y 0 ≡ seek (keyed g f) y (suc n)
    unfolding newest
    head_more y h = rw (← same) (go (eqb x y) refl)
      where
        go : (c : Bool) → eqb x y ≡ c → get_or new y 0 ≡ cond c (suc n) (seek (keyed g f) y n)
        go true e = rw (← eqb-true x y e) (get_or-set_same mid x (n + 1) 0 (omega (arith, length-set old (m + n) (get_or old x 0))) ∙ add-one n)
        go false e = keep y (omega arith) (λ z. eqb-false x y e (sym z)) ∙ w.heads y h

    prev_more : (i : ℕ) → i < suc n → get_or new (m + i) 0 ≡ seek (keyed g f) (g (f i)) i
    prev_more i h = go (ltb i n) refl
      where
        go : (c : Bool) → ltb i n ≡ c → get_or new (m + i) 0 ≡ seek (keyed g f) (g (f i)) i
        go true e = keep (m + i) (omega (arith, ltb-true i n e)) (λ z. omega arith) ∙ w.prevs i (ltb-true i n e)
        go false e =
            let z : i ≡ n = omega (arith, ltb-false i n e) in
            rw (z, ← same) (get_or-set_other mid x (m + n) _ 0 (λ z. omega arith) ∙ get_or-set_same old (m + n) _ 0 r ∙ w.heads x b)

  pub more : Hangs m x n old new
  more =
      let long : length new ≡ length old = length-set mid x (n + 1) ∙ length-set old (m + n) (get_or old x 0) in
      record { kept = long; chained = λ g f e w. record { room = omega arith; heads = head_more g f e w; prevs = prev_more g f e w } }

-- none yet
pub none-chained : (g f : ℕ → ℕ) (m : ℕ) (tab : List ℕ) → m ≤ length tab → ((b : ℕ) → b < m → get_or tab b 0 ≡ 0) → Chained g m 0 f tab
unfolding newest
none-chained g f m tab h z = record { room = omega arith; heads = z; prevs = λ i l. absurd (omega arith) }

-- what is sought among the first keys depends on no others, nor do their chains
seek-alike : (f h : ℕ → ℕ) (v t : ℕ) → ((j : ℕ) → j < t → f j ≡ h j) → seek f v t ≡ seek h v t
unfolding newest
seek-alike f h v zero e = refl
seek-alike f h v (suc t) e = rw (e t (omega arith), seek-alike f h v t (λ j l. e j (omega arith)))

pub chained-alike : {g f h : ℕ → ℕ} {m n : ℕ} {tab : List ℕ} → ((j : ℕ) → j < n → f j ≡ h j) → Chained g m n f tab → Chained g m n h tab
chained-alike {g} {f} {h} {m} {n} same w = record {
  room = w.room;
  heads = λ b l. w.heads b l ∙ seek-alike (keyed g f) (keyed g h) b n (λ j k. ap g (same j k));
  prevs = λ i l. w.prevs i l ∙ rw (same i l) (seek-alike (keyed g f) (keyed g h) (g (h i)) i (λ j k. ap g (same j (omega arith))));
}
