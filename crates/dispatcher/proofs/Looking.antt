-- What a look finds: `looks`, the first queue that waits with those before it empty, or that all are.
use Prim.Native.Nat.{ℕ, zero, suc, ◌+◌, ◌%◌, ◌<◌}
use mathlib.Core.List.{List, [], ◌∷◌}
use mathlib.Core.Logic.{◌⊎◌, inl, inr}
use mathlib.Core.Path.{◌≡◌, refl}
use native.Mathlib.Omega.{arith}
use lib.ListN.{set}
use Rattle.std.specs.Prelude.{Option, Some, None}
use Rattle.dispatcher.specs.declared.Taken.{Taken}
use Rattle.dispatcher.specs.Dispatcher.{taken_one, taken_none, State, state, waiting, begins, serve_or, look}

-- the queue p, after i empty ones from q on, is served
pub record Found (n k q : ℕ) (qs : List (List ℕ)) (r : Taken × State) : Type 0 where
  pub i : ℕ
  pub p : ℕ
  pub item : ℕ
  pub rest : List ℕ
  pub within : i < n
  pub this : p ≡ (q + i) % 32
  pub passed : (j : ℕ) → j < i → waiting qs ((q + j) % 32) ≡ []
  pub waits : waiting qs p ≡ item ∷ rest
  pub same : r ≡ (taken_one p item (suc (k + i)), state (set qs p rest) (Some p))

-- nothing waits in n queues from q on
pub record Nothing (n k q : ℕ) (qs : List (List ℕ)) (last : Option ℕ) (r : Taken × State) : Type 0 where
  pub passed : (j : ℕ) → j < n → waiting qs ((q + j) % 32) ≡ []
  pub same : r ≡ (taken_none (k + n), state qs last)

pub begins-below : (last : Option ℕ) → begins last < 32
begins-below None = omega arith
begins-below (Some q) = omega arith

module _ (qs : List (List ℕ)) (last : Option ℕ) where
  -- the queue q is empty, and so are those passed after it
  one_more : (q n : ℕ) → q < 32 → waiting qs q ≡ [] → ((j : ℕ) → j < n → waiting qs (((q + 1) % 32 + j) % 32) ≡ []) → (j : ℕ) → j < suc n → waiting qs ((q + j) % 32) ≡ []
  one_more q n h e f zero l = let z : (q + 0) % 32 ≡ q = omega arith in rw z e
  one_more q n h e f (suc j) l = let z : (q + suc j) % 32 ≡ ((q + 1) % 32 + j) % 32 = omega arith in rw z (f j (omega arith))

  pub looks : (n k q : ℕ) → q < 32 → Found n k q qs (look n k q (state qs last)) ⊎ Nothing n k q qs last (look n k q (state qs last))
  unfolding look
  looks zero k q h =
      inr (record { passed = λ j l. absurd (omega arith); same = let z : k + 0 ≡ k = omega arith in rw z refl })
  looks (suc n) k q h = by (waiting qs q) refl (looks n (suc k) ((q + 1) % 32) (omega arith))
    where
      onward : Taken × State
      onward = look n (suc k) ((q + 1) % 32) (state qs last)

      further : waiting qs q ≡ [] → Found n (suc k) ((q + 1) % 32) qs onward ⊎ Nothing n (suc k) ((q + 1) % 32) qs last onward → Found (suc n) k q qs onward ⊎ Nothing (suc n) k q qs last onward
      further e (inl f) =
          inl
          (record {
            i = suc f.i;
            p = f.p;
            item = f.item;
            rest = f.rest;
            within = omega (arith, f.within);
            this = omega (arith, f.this);
            passed = one_more q f.i h e f.passed;
            waits = f.waits;
            same = let z : k + suc f.i ≡ suc k + f.i = omega arith in rw z f.same;
          })
      further e (inr g) =
          inr (record { passed = one_more q n h e g.passed; same = let z : k + suc n ≡ suc k + n = omega arith in rw z g.same })

      by : (l : List ℕ) → waiting qs q ≡ l → Found n (suc k) ((q + 1) % 32) qs onward ⊎ Nothing n (suc k) ((q + 1) % 32) qs last onward → Found (suc n) k q qs (serve_or l q (suc k) qs onward) ⊎ Nothing (suc n) k q qs last (serve_or l q (suc k) qs onward)
      by [] e w = further e w
      by (x ∷ xs) e w =
          inl
          (record {
            i = 0;
            p = q;
            item = x;
            rest = xs;
            within = omega arith;
            this = omega arith;
            passed = λ j l. absurd (omega arith);
            waits = e;
            same = let z : k + 0 ≡ k = omega arith in rw z refl;
          })
