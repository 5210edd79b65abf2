-- What a store makes of a list's entries.
--     none-added, none_after    nothing is stored
--     one_set, one-added        an entry that is stored in a place, or as the last
--     from-none                 a list that had no entries
use Prim.Native.Nat.{ℕ, suc, ◌+◌, ◌-◌, ◌*◌, ◌≤◌}
use native.Mathlib.Omega.{arith}
use mathlib.Core.Path.{◌≡◌, refl, sym, ◌∙◌}
use mathlib.Core.List.{List, [], ◌∷◌, flat_map, append-nil}
use lib.ListN.{length}
use lib.Seq.{sets, length-sets}
use Rattle.entries.specs.Adding.{Holds, Becomes, after}
use Rattle.entries.proofs.Filling.{over, length_over, over_last, sets_over, filled-nil}

-- nothing is stored
pub none-added : {A : Type 0} {words : A → List ℕ} {f : List A → List A} {out : List ℕ} {m : ℕ} → ((es : List A) → f es ≡ es) → Becomes 1 words f out out m m
none-added e = record { few = omega arith; kept = refl; holds = λ old es h. rw (e es) h }

pub none_after : {A : Type 0} {words : A → List ℕ} {new : List A} {out : List ℕ} {m : ℕ} → new ≡ [] → Becomes 1 words (after new) out out m m
none_after e = none-added (λ es. rw e (append-nil es))

module _ {A : Type 0} (words : A → List ℕ) (width : ℕ) (sized : (a : A) → length (words a) ≡ width) where
  -- e is stored as the entry numbered i
  pub set_holds : {old out : List ℕ} {m r : ℕ} {es : List A} (e : A) (i : ℕ) → i ≤ m → suc i * width ≤ length out → r ≡ suc i + (m - suc i) → Holds words old out m es → Holds words old (sets out (i * width) (words e)) r (over i e es)
  set_holds {old} {out} {m} {r} {es} e i b room c h =
      let within : i ≤ length es = omega (arith, h.count) in
      record {
        count = omega (arith, h.count, length_over e es i within);
        wrote = rw h.wrote (sets_over words width sized e es i old within (rw h.kept at room));
        kept = length-sets out (i * width) (words e) ∙ h.kept;
      }

  pub one_set : {f : List A → List A} {out : List ℕ} {m r : ℕ} (e : A) (i : ℕ) → i ≤ m → suc i * width ≤ length out → r ≡ suc i + (m - suc i) → ((old : List ℕ) (es : List A) → Holds words old out m es → f es ≡ over i e es) → Becomes 1 words f out (sets out (i * width) (words e)) m r
  one_set {f} {out} {m} {r} e i b room c same =
      record {
        few = omega arith;
        kept = length-sets out (i * width) (words e);
        holds = λ old es h. rw (same old es h) (set_holds e i b room c h);
      }

  -- as the last
  pub one-added : (out : List ℕ) (m : ℕ) (e : A) → suc m * width ≤ length out → Becomes 1 words (after (e ∷ [])) out (sets out (m * width) (words e)) m (m + 1)
  one-added out m e room = one_set e m (omega arith) room (omega arith) (λ old es h. rw h.count (sym (over_last e es)))

-- a list that had no entries has what is made of none
pub from-none : {A : Type 0} {words : A → List ℕ} {f : List A → List A} {k m : ℕ} {old out : List ℕ} → Becomes k words f old out 0 m → Holds words old out m (f [])
unfolding flat_map
from-none {A} {words} {f} {k} {m} {old} b = b.holds old [] (record { count = refl; wrote = sym (filled-nil old); kept = refl })
