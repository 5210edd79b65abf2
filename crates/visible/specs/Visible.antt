-- The list of visible names of the resolve walk, and how it stands in words. There a name is its place in the table, which stands here as an index;
-- of which name a place is, its owner knows.
use Rattle.std.specs.Prelude.{ℕ, zero, suc, ◌+◌, ◌*◌, ◌/◌, ◌%◌, ◌<◌, ◌≤◌, ◌≡◌, Bool, false, cond, List, [], ◌∷◌, eqb, length, get_or, Option, None, Some}
use Rattle.scope.specs.Graph.{Name, indexed, same_name}
use Rattle.semantics.specs.Resolve.{Hit, hit, Seen, seen, Pair, pair}
use Rattle.visible.specs.declared.Newest.{Newest}

-- the scope of the newest binding of a name, whose variable and via are `lookup`'s
unfoldable pub scope_of : Name → List Seen → ℕ
scope_of x [] = 0
scope_of x (seen y h p ∷ l) = cond (same_name x y) p (scope_of x l)

-- what is told of a name: what is looked up, and the scope
abbrev pub answer : Option Hit → (scope : ℕ) → Option Newest
answer None p = None
answer (Some (hit v o)) p = Some (record { variable = v; scope = p; via = o })

-- no scope is above c, and from the newest to the oldest they do not rise
unfoldable pub Descends : ℕ → List Seen → Type 0
Descends c [] = Unit {0}
Descends c (seen y h p ∷ l) = (p ≤ c) × Descends p l

-- whether the binding that was found is of the scope c
abbrev pub is_of : ℕ → Option Newest → Bool
is_of c (Some newest) = eqb newest.scope c
is_of c None = false

-- where a name's newest entry stands from the oldest, + 1, or 0
unfoldable pub place : Name → List Seen → ℕ
place x [] = 0
place x (seen y h p ∷ l) = cond (same_name x y) (suc (length l)) (place x l)

-- the entry i over a table of n names, whose third word is twice the scope, and 1 more if it came over a WITH; and the entries below the
-- height t, newest first
abbrev pub name_at : ℕ → List ℕ → ℕ → ℕ
name_at n m i = get_or m (n + i * 4) 0

abbrev pub variable_at : ℕ → List ℕ → ℕ → ℕ
variable_at n m i = get_or m (n + i * 4 + 1) 0

abbrev pub seen_at : ℕ → List ℕ → ℕ → Seen
seen_at n m i = let home = get_or m (n + i * 4 + 2) 0 in seen (indexed (name_at n m i)) (hit (variable_at n m i) (home % 2)) (home / 2)

unfoldable pub seens : ℕ → ℕ → List ℕ → List Seen
seens n zero m = []
seens n (suc t) m = seen_at n m t ∷ seens n t m

-- the words hold the stack up to a height, and where the newest entries stand now and stood before each entry
pub record Tabled (n top : ℕ) (m : List ℕ) : Type 0 where
  pub room : n + top * 4 ≤ length m
  pub heads : (x : ℕ) → x < n → get_or m x 0 ≡ place (indexed x) (seens n top m)
  pub prevs : (i : ℕ) → i < top → get_or m (n + i * 4 + 3) 0 ≡ place (indexed (name_at n m i)) (seens n i m)
  pub named : (i : ℕ) → i < top → name_at n m i < n

-- pairs as entries of one scope, which came over a WITH
unfoldable pub seen_once : ℕ → List Pair → List Seen
seen_once c [] = []
seen_once c (pair x v ∷ ps) = seen x (hit v 1) c ∷ seen_once c ps

-- of the entries below i, those that are the newest of their name below the height top
unfoldable pub newest : ℕ → ℕ → List ℕ → ℕ → List Pair
newest n top m zero = []
newest n top m (suc i) =
    cond (eqb (place (indexed (name_at n m i)) (seens n top m)) (suc i)) (pair (indexed (name_at n m i)) (get_or m (n + i * 4 + 1) 0) ∷ newest n top m i) (newest n top m i)

-- halfway: of the i oldest entries of the words `old` those j are kept in m, and from i on all is as it was
pub record Halfway (n top c : ℕ) (old m : List ℕ) (i j : ℕ) : Type 0 where
  pub few : j ≤ i
  pub kept : length m ≡ length old
  pub above : (p : ℕ) → n + i * 4 ≤ p → get_or m p 0 ≡ get_or old p 0
  pub same : seens n j m ≡ seen_once c (newest n top old i)
  pub passed : (x : ℕ) → x < n → place (indexed x) (seens n top old) ≤ i → get_or m x 0 ≡ place (indexed x) (seens n j m)
  pub coming : (x : ℕ) → x < n → i < place (indexed x) (seens n top old) → get_or m x 0 ≡ place (indexed x) (seens n top old)
  pub unseen : (x : ℕ) → x < n → i < place (indexed x) (seens n top old) → place (indexed x) (seens n j m) ≡ 0
  pub prevs : (a : ℕ) → a < j → get_or m (n + a * 4 + 3) 0 ≡ place (indexed (name_at n m a)) (seens n a m)
  pub named : (a : ℕ) → a < j → name_at n m a < n

-- one turn
pub record Turned (n c : ℕ) (m new : List ℕ) (i j r : ℕ) : Type 0 where
  pub kept : length new ≡ length m
  pub on : (top : ℕ) (old : List ℕ) → Tabled n top old → i < top → Halfway n top c old m i j → Halfway n top c old new (i + 1) r
