-- What is bound, kept in a few words, the stamps: the first is above the scope of every binding, and each name that the highest scope binds has
-- a stamp equal to it. So most bindings are known to be new without a search.
use Rattle.std.specs.Prelude.{ℕ, zero, suc, ◌+◌, ◌-◌, ◌*◌, ◌/◌, ◌<◌, ◌≤◌, ◌≡◌, List, [], ◌∷◌, length, min, max, get_or}
use Rattle.scope.specs.Flat.{binding_width, carried_width}
use Rattle.scope.specs.Graph.{Name, name, Entry, entry, Carried}
use Rattle.scope.specs.Answer.{name_of}
use Rattle.rows.specs.Slot.{slot_of}
use Rattle.semantics.specs.Log.{Bound, bound}
use Rattle.semantics.specs.Lists.{put, puts}
use Rattle.entries.specs.Filled.{binding_words, carried_words}
use Rattle.entries.specs.Adding.{Holds, Becomes, after, place, Without, is_binding}
use Rattle.entries.specs.declared.Binding.{Binding}
use Rattle.entries.specs.declared.Bindings.{Bindings}

-- The place of a name among so many stamps, which two names may share; nothing is proved of it, so another can take its place.
unfoldable pub stamp_of : (len : ℕ) → Name → ℕ
stamp_of len (name zero x) = suc x
stamp_of len (name (suc m) v) = let half = min (len / 2) 4294967295 in len - half + slot_of 1 (max half 1) v

-- the stamp in the place of a name
abbrev pub stamp : List ℕ → Name → ℕ
stamp stamps x = get_or stamps (stamp_of (length stamps) x) 0

-- the stamps know of a scope's name; nothing is said of the last number, which has no next one
pub record Knows (stamps : List ℕ) (s : ℕ) (x : Name) : Type 0 where
  pub under : s < 4294967295 → s < get_or stamps 0 0
  pub seen : s < 4294967295 → suc s ≡ get_or stamps 0 0 → stamp_of (length stamps) x < length stamps → stamp stamps x ≡ get_or stamps 0 0

unfoldable pub Stamped : List ℕ → List Entry → Type 0
Stamped stamps [] = Unit {0}
Stamped stamps (entry s x v k r ∷ es) = Knows stamps s x × Stamped stamps es

-- the stamps come to know of a scope's name, and of no less than before
pub record Marks (s : ℕ) (x : Name) (stamps new : List ℕ) : Type 0 where
  pub kept : length new ≡ length stamps
  pub here : Knows new s x
  pub there : (t : ℕ) (y : Name) → Knows stamps t y → Knows new t y

-- a list of bindings, how many are made in it, and the stamps that know of them
pub record Kept : Type 0 where
  pub list : List ℕ
  pub made : ℕ
  pub stamps : List ℕ

abbrev pub kept : Bindings → Kept
kept b = record { list = b.list.now; made = b.made; stamps = b.stamps.now }

-- the same lent words
pub record IsStill (old new : Bindings) : Type 0 where
  pub list : new.list.ghost_name ≡ old.list.ghost_name
  pub stamps : new.stamps.ghost_name ≡ old.stamps.ghost_name

-- what is asked of them
pub record Fits (a : Kept) : Type 0 where
  pub room : a.made * binding_width ≤ length a.list
  pub stamped : 1 ≤ length a.stamps

-- no two entries are of one scope and name
unfoldable pub Once : List Entry → Type 0
Once [] = Unit {0}
Once (entry s x v k r ∷ es) = Without (is_binding s x) es × Once es

-- a list has these bindings, each once, and the stamps know of them
pub record Binds (old : List ℕ) (a : Kept) (es : List Entry) : Type 0 where
  pub list : Holds binding_words old a.list a.made es
  pub stamped : Stamped a.stamps es
  pub once : Once es

-- r is the place of a scope's name among m bindings
pub record Finds (s : ℕ) (x : Name) (out stamps : List ℕ) (m r : ℕ) : Type 0 where
  pub within : r ≤ m
  pub found : (old : List ℕ) (es : List Entry) → Binds old (record { list = out; made = m; stamps = stamps }) es → r ≡ place (is_binding s x) es

-- a binding as the definition has it
abbrev pub bound_of : Binding → Bound
bound_of b = bound b.scope (name_of b.name) b.variable b.kind

-- where i is a binding's place, it is put there, if the list has room
pub record Stores (b : Binding) (i : ℕ) (out new : List ℕ) (m r : ℕ) : Type 0 where
  pub kept : length new ≡ length out
  pub within : r * binding_width ≤ length out
  pub holds : (old : List ℕ) (es : List Entry) → Holds binding_words old out m es → i ≡ place (is_binding b.scope (name_of b.name)) es → length (put (bound_of b) es) * binding_width ≤ length out → Holds binding_words old new r (put (bound_of b) es)

-- whatever bindings a list has, these are put into it, if it has room
pub record Makes (bs : List Bound) (a b : Kept) : Type 0 where
  pub kept : length b.list ≡ length a.list
  pub marks : length b.stamps ≡ length a.stamps
  pub within : b.made * binding_width ≤ length a.list
  pub holds : (old : List ℕ) (es : List Entry) → Binds old a es → length (puts bs es) * binding_width ≤ length a.list → Binds old b (puts bs es)

-- a carried name is stored as the entry numbered n, if the list has room
pub record Carries (c : Carried) (out new : List ℕ) (n : ℕ) : Type 0 where
  pub kept : length new ≡ length out
  pub adds : (n + 1) * carried_width ≤ length out → Becomes 1 carried_words (after (c ∷ [])) out new n (n + 1)
  pub full : length out < (n + 1) * carried_width → new ≡ out
