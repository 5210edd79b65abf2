-- What a lent list of flat words comes to have: its entries, and one more of them.
use Rattle.std.specs.Prelude.{ℕ, suc, ◌+◌, ◌≤◌, ◌≡◌, Bool, cond, ◌&&◌, eqb, length, Option, None, Some}
use mathlib.Core.List.{List, [], ◌∷◌, ◌++◌, flat_map}
use Rattle.scope.specs.Graph.{Name, same_name, Entry, entry}
use Rattle.semantics.specs.Log.{Answer, found, missing}
use Rattle.entries.specs.Filled.{filled}
use Rattle.entries.specs.declared.Found.{Found}

-- a list has m entries, and then what was there
pub record Holds {A : Type 0} (words : A → List ℕ) (old out : List ℕ) (m : ℕ) (es : List A) : Type 0 where
  pub count : m ≡ length es
  pub wrote : out ≡ filled old (flat_map words es)
  pub kept : length out ≡ length old

-- whatever entries a list has, it comes to have f of them, at most k more
pub record Becomes {A : Type 0} (k : ℕ) (words : A → List ℕ) (f : List A → List A) (out new : List ℕ) (m r : ℕ) : Type 0 where
  pub few : r ≤ m + k
  pub kept : length new ≡ length out
  pub holds : (old : List ℕ) (es : List A) → Holds words old out m es → Holds words old new r (f es)

-- new entries come last
abbrev pub after : {A : Type 0} → List A → List A → List A
after new es = es ++ new

-- the number of the first that fits, or how many there are
unfoldable pub place : {A : Type 0} → (A → Bool) → List A → ℕ
place fits [] = 0
place fits (e ∷ es) = cond (fits e) 0 (suc (place fits es))

-- none fits
abbrev pub Without : {A : Type 0} → (A → Bool) → List A → Type 0
Without fits es = place fits es ≡ length es

-- the number of the one that fits and is followed by none that does, or how many there are
unfoldable pub last_place : {A : Type 0} → (A → Bool) → List A → ℕ
last_place fits [] = 0
last_place fits (e ∷ es) = cond (fits e && eqb (place fits es) (length es)) 0 (suc (last_place fits es))

-- a binding of a name in a scope
abbrev pub is_binding : ℕ → Name → Entry → Bool
is_binding s x (entry t y u j r) = eqb s t && same_name x y

-- the answer to a use, which is found or missing
abbrev pub answer : Option Found → Answer
answer None = missing
answer (Some f) = found f.variable f.kind f.via
