-- Visible names stored as carried ones, oldest first, behind `from` entries: i of them so far (`Stored`, begun by `none-stored`, one more by
-- `one-stored`). What storing asks is so where a walk may go on (`storing`); an entry's name then has its place (`placed-below`), and
-- there are as many names as places (`length-named`).
use Prim.Native.Nat.{ℕ, suc, ◌+◌, ◌-◌, ◌*◌, ◌<◌, ◌≤◌}
use native.Mathlib.Nat.{add-zero}
use native.Mathlib.Omega.{arith}
use native.Mathlib.Numerals.{add-one}
use mathlib.Core.Path.{◌≡◌, refl, ap, ◌∙◌}
use mathlib.Core.List.{List, [], ◌∷◌, ◌++◌, append_assoc, append-nil}
use lib.ListN.{length, get_or}
use Rattle.scope.specs.Graph.{Carried, carried}
use Rattle.semantics.specs.Resolve.{variable_of, Seen, seen}
use Rattle.visible.specs.Visible.{seens}
use Rattle.rowless.specs.declared.Rowless.{Rowless}
use Rattle.rowless.specs.Rowless.{named, places}
use Rattle.steps.specs.Named.{as_named, Below}
use Rattle.steps.specs.Hold.{Fits}
use Rattle.steps.proofs.Named.{below-less}
use Rattle.steps.specs.declared.context.Context.{Context}
use Rattle.steps.specs.declared.Walk.{Walk}
use Rattle.entries.specs.Filled.{carried_words}
use Rattle.entries.specs.Adding.{Holds}
use Rattle.entries.specs.Stamps.{Carries}
use Rattle.arm_walk.specs.Taking.{carried_as, Storing}

pub storing : {e t u : ℕ} {c : Context} {w : Walk} → Fits e t u c w → Storing w
storing f = record { sound = f.sound; numbered = f.numbered; below = f.below }

pub placed-below : {w : Walk} → Storing w → (i : ℕ) → i < w.visible.top → get_or w.visible.words.now (w.visible.names + i * 4) 0 < places w.rowless
unfolding seens Below
placed-below {w} s i h =
    let v = w.visible in
    let z : v.top ≡ v.top - suc i + suc i = omega arith in
    (below-less (places w.rowless) v.names (v.top - suc i) (suc i) v.words.now (rw z at s.below)).0.1

pub length-named : (r : Rowless) (l : List Seen) → length (as_named r l) ≡ length l
unfolding as_named
length-named r [] = refl
length-named r (seen n h p ∷ l) = ap suc (length-named r l)

pub record Stored (w : Walk) (out : List ℕ) (b from : ℕ) (new : List ℕ) (i : ℕ) : Type 0 where
  pub kept : length new ≡ length out
  pub stored : (old : List ℕ) (es : List Carried) → Holds carried_words old out from es → Holds carried_words old new (from + i) (es ++ carried_as b (as_named w.rowless (seens w.visible.names i w.visible.words.now)))

module _ {w : Walk} {out : List ℕ} {b from : ℕ} where
  pub none-stored : Stored w out b from out 0
  unfolding seens as_named carried_as
  none-stored = record { kept = refl; stored = λ old es h. rw (append-nil es, add-zero from) h }

  pub one-stored : {new new' : List ℕ} {i : ℕ} → (from + i + 1) * 4 ≤ length out → Stored w out b from new i →
      Carries (carried b (named w.rowless (get_or w.visible.words.now (w.visible.names + i * 4) 0)) (get_or w.visible.words.now (w.visible.names + i * 4 + 1) 0)) new new' (from + i) → Stored w out b from new' (i + 1)
  unfolding seens as_named carried_as variable_of
  one-stored {new} {new'} {i} l o x =
      let z : from + i + 1 ≡ from + (i + 1) = omega arith in
      record {
        kept = x.kept ∙ o.kept;
        stored = λ old es h. rw (← z, add-one i) (rw append_assoc at ((x.adds (omega (arith, o.kept))).holds old _ (o.stored old es h)));
      }
