-- A window's flags: one is put, the others stay.
use Prim.Native.Nat.{ℕ, ◌-◌, ◌/◌, ◌%◌, ◌<◌, ◌≤◌}
use native.Mathlib.Omega.{arith}
use native.Mathlib.Decide.{ℕ_discrete}
use mathlib.Core.Path.{◌≡◌, refl, sym}
use mathlib.Core.Bool.{Bool, true, false, cond, ◌&&◌}
use lib.Dec.{eqb, leb, ltb}
use lib.ListN.{length, get_or, set, replicate}
use lib.Seq.{get_or-set_same, get_or-set_other}
use borrow.Author.Tests.{leb-true, ltb-true, le-ltb, lt-ltb, ne_eqb}
use Rattle.std.specs.Prelude.{Some, None}
use Rattle.std.specs.Int.{bit_at}
use Rattle.std.proofs.lemmas.List.{get_or-replicate}
use Rattle.std.proofs.lemmas.Nat.Bits.{bit_at-zero}
use Rattle.condition.specs.Judge.{flag_after}
use Rattle.condition.proofs.Tables.{both}
use Rattle.condition_reader.specs.Window.{window, place_of, flag_at, marked, Clear, Changes}
use Rattle.condition_reader.specs.declared.window.Window.{Window}

pub has-place : (low d : ℕ) → window low d ≡ true → (low ≤ d) × (d - low < 524288)
has-place low d e = let t = both (leb low d) (ltb (d - low) 524288) e in (leb-true low d t.0, ltb-true (d - low) 524288 t.1)

pub placed : (low d i : ℕ) → place_of low d ≡ Some i → (window low d ≡ true) × (d - low ≡ i)
placed low d i e = go (window low d) e
  where
    go : (b : Bool) → cond b (Some (d - low)) None ≡ Some i → (b ≡ true) × (d - low ≡ i)
    go true e = (refl, cc)
    go false e = cc

-- a flag by its bit
abbrev pub bit : Bool → ℕ
bit true = 1
bit false = 0

pub cleared : (low : ℕ) → Clear low (record { low = low; flags = replicate 65536 0 })
cleared low = record { from = refl; none = λ d. go d (window low d) refl }
  where
    go : (d : ℕ) (b : Bool) → window low d ≡ b → (b && flag_at (replicate 65536 0) (d - low)) ≡ false
    go d false e = refl
    go d true e =
        let p = has-place low d e in
        rw (get_or-replicate {A = ℕ} 65536 ((d - low) / 8) 0 0 (omega (arith, p.1)), bit_at-zero ((d - low) % 8))

module _ (w : Window) (d i b : ℕ) (v : Bool) (n : length w.flags ≡ 65536) (place : place_of w.low d ≡ Some i) (here : bit_at b (i % 8) ≡ bit v) (others : (k : ℕ) → k < 8 → (k ≡ i % 8 → ⊥) → bit_at b k ≡ bit_at (get_or w.flags (i / 8) 0) k) where
  flag_here : flag_at (set w.flags (i / 8) b) i ≡ v
  flag_here = let p = placed w.low d i place in let q = has-place w.low d p.0 in rw (get_or-set_same w.flags (i / 8) b 0 (omega (arith, p.1, q.1)), here) (go v)
    where
      go : (v : Bool) → eqb (bit v) 1 ≡ v
      go true = refl
      go false = refl

  flag_other : (j : ℕ) → (j ≡ i → ⊥) → flag_at (set w.flags (i / 8) b) j ≡ flag_at w.flags j
  flag_other j d' = go (ℕ_discrete (i / 8) (j / 8))
    where
      go : Dec (i / 8 ≡ j / 8) → flag_at (set w.flags (i / 8) b) j ≡ flag_at w.flags j
      go (yes e) =
          let p = placed w.low d i place in
          let q = has-place w.low d p.0 in
          rw (← e, get_or-set_same w.flags (i / 8) b 0 (omega (arith, p.1, q.1)), others (j % 8) (omega arith) (λ z. d' (omega (arith, e, z))))
      go (no e) = rw (get_or-set_other w.flags (i / 8) (j / 8) b 0 (λ z. e (sym z)))

  pub put : Changes d (λ f. v) w (record { low = w.low; flags = set w.flags (i / 8) b })
  put =
      let p = placed w.low d i place in
      record {
        from = refl;
        here = λ f e. rw (p.0, p.1) flag_here;
        elsewhere = λ e h. go e h (window w.low e) refl;
      }
    where
      go : (e : ℕ) → (e ≡ d → ⊥) → (x : Bool) → window w.low e ≡ x → (x && flag_at (set w.flags (i / 8) b) (e - w.low)) ≡ (x && flag_at w.flags (e - w.low))
      go e h false x = refl
      go e h true x =
          let p = placed w.low d i place in
          let q = has-place w.low d p.0 in
          let r = has-place w.low e x in
          flag_other (e - w.low) (λ z. h (omega (arith, p.1, q.0, r.0, z)))

-- a level that the pass doesn't look at
pub unseen : (w : Window) (d : ℕ) (g : Bool → Bool) → place_of w.low d ≡ None → Changes d g w w
unseen w d g e = record { from = refl; here = λ f h. go (window w.low d) f e h; elsewhere = λ e h. refl }
  where
    go : (b f : Bool) → cond b (Some (d - w.low)) None ≡ None → marked w d ≡ (b && f) → marked w d ≡ (b && g f)
    go true f e h = cc
    go false f e h = h

-- after an operator
pub loose : {d level : ℕ} {old new : Window} → level < 3 → Changes d (λ f. false) old new → Changes d (flag_after level) old new
loose {level = level} h c = record { from = c.from; here = λ f e. rw (lt-ltb level 3 h) (c.here f e); elsewhere = c.elsewhere }

pub compared : {d level : ℕ} {old new : Window} → level ≡ 4 → Changes d (λ f. true) old new → Changes d (flag_after level) old new
compared {level = level} h c = record { from = c.from; here = λ f e. rw h (c.here f e); elsewhere = c.elsewhere }

pub tight : {d level : ℕ} {w : Window} → 3 ≤ level → (level ≡ 4 → ⊥) → Changes d (flag_after level) w w
tight {level = level} h n = record { from = refl; here = λ f e. rw (le-ltb level 3 h, ne_eqb level 4 n) e; elsewhere = λ e h. refl }
