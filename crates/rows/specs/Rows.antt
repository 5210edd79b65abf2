-- A variable sought among the rows of the binding table, newest first, and the chains that find it.
use Rattle.std.specs.Prelude.{ℕ, zero, suc, ◌+◌, ◌*◌, ◌<◌, ◌≤◌, ◌≡◌, Bool, true, cond, List, eqb, length, get_or, None, Some, Option}
use Rattle.std.specs.Prelude as code
use Rattle.tables.specs.Index.{number_of}
use Rattle.tables.specs.Row.{Row, row}
use Rattle.rows.specs.Slot.{slot_of}

-- the variable of the row i of those from the word `rows` on
abbrev pub id_at : List ℕ → ℕ → ℕ → ℕ
id_at ws rows i = get_or ws (rows + i * 5) 0

-- the newest of the first t for which a test holds: its number + 1, or 0
unfoldable pub newest : (ℕ → Bool) → ℕ → ℕ
newest test zero = 0
newest test (suc t) = cond (test t) (suc t) (newest test t)

-- so of those whose key is v
abbrev pub seek : (ℕ → ℕ) → ℕ → ℕ → ℕ
seek f v t = newest (λ i. eqb (f i) v) t

-- the row that such an answer tells of
abbrev pub row_at : List ℕ → ℕ → Row
row_at ws p = row (get_or ws p 0) (get_or ws (p + 1) 0) (get_or ws (p + 2) 0) (get_or ws (p + 3) 0) (get_or ws (p + 4) 0)

abbrev pub row_told : List ℕ → ℕ → ℕ → Option Row
row_told ws rows zero = None
row_told ws rows (suc j) = Some (row_at ws (rows + j * 5))

-- a row as the code tells it: name and kind
abbrev pub shown : Option Row → Option (ℕ × ℕ)
shown None = None
shown (Some (row i x k a b)) = Some (x, k)

-- the words hold the chains of the first n keys, over m slots that g gives
abbrev pub keyed : (ℕ → ℕ) → (ℕ → ℕ) → ℕ → ℕ
keyed g f i = g (f i)

pub record Chained (g : ℕ → ℕ) (m n : ℕ) (f : ℕ → ℕ) (tab : List ℕ) : Type 0 where
  pub room : m + n ≤ length tab
  pub heads : (b : ℕ) → b < m → get_or tab b 0 ≡ seek (keyed g f) b n
  pub prevs : (i : ℕ) → i < n → get_or tab (m + i) 0 ≡ seek (keyed g f) (g (f i)) i

-- one more key is hung up, in the slot x
pub record Hangs (m x n : ℕ) (old new : List ℕ) : Type 0 where
  pub kept : length new ≡ length old
  pub chained : (g f : ℕ → ℕ) → x ≡ g (f n) → Chained g m n f old → Chained g m (suc n) f new

-- so over m slots, by a multiplier
pub record Hung (mult m n : ℕ) (f : ℕ → ℕ) (tab : List ℕ) : Type 0 where
  pub some : 0 < m
  pub small : m < 4294967296
  pub chained : Chained (slot_of mult m) m n f tab

-- zeros for m slots, and room for n rows
pub record Empty (m n : ℕ) (tab : List ℕ) : Type 0 where
  pub some : 0 < m
  pub small : m < 4294967296
  pub room : m + n ≤ length tab
  pub zeros : (b : ℕ) → b < m → get_or tab b 0 ≡ 0

-- the first m words are zero
pub record Cleared (m : ℕ) (old new : List ℕ) : Type 0 where
  pub kept : length new ≡ length old
  pub zeros : (b : ℕ) → b < m → get_or new b 0 ≡ 0

-- m slots were cleared, for n keys
pub record Emptied (n : ℕ) (old new : List ℕ) (m : ℕ) : Type 0 where
  pub kept : length new ≡ length old
  pub empty : Empty m n new

-- the slot x has a chain, and each key in the chains can be asked for
pub record Asks (may : ℕ → Type 0) (m x : ℕ) (tab : List ℕ) : Type 0 where
  pub g : ℕ → ℕ
  pub f : ℕ → ℕ
  pub n : ℕ
  pub chained : Chained g m n f tab
  pub below : x < m
  pub can : (i : ℕ) → i < n → may i

-- a test that what is said tells of the first n keys, and that holds for none but keys in the slot x
pub record Tells (says : ℕ → Bool → Type 0) (m x : ℕ) (tab : List ℕ) (g f : ℕ → ℕ) (n : ℕ) (test : ℕ → Bool) : Type 0 where
  pub chained : Chained g m n f tab
  pub said : (i : ℕ) (b : Bool) → i < n → says i b → test i ≡ b
  pub inside : (i : ℕ) → test i ≡ true → g (f i) ≡ x

-- the newest key for which such a test holds
abbrev pub Newest : (says : ℕ → Bool → Type 0) → (m x : ℕ) → List ℕ → code.Option ℕ → Type 0
Newest says m x tab r = (g f : ℕ → ℕ) (n : ℕ) (test : ℕ → Bool) → Tells says m x tab g f n test → number_of r ≡ newest test n
