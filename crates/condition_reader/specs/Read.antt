-- What the reader answers, and what it leaves of the list.
use Rattle.std.specs.Prelude.{ℕ, ◌*◌, ◌/◌, ◌<◌, ◌≤◌, ◌≡◌, true, false, List, [], ◌++◌, length, drop, Option, Some, None, Result, Ok, Err}
use Rattle.condition.specs.Cond.{Cond, entries}
use Rattle.condition.specs.Written.{Reads}
use Rattle.condition.specs.Judge.{judge}
use Rattle.condition.specs.Machine.{count_of}
use Rattle.condition.specs.declared.Mode.TheVariants as mode
use Rattle.condition_reader.specs.Pass.{toks_of}
use Rattle.refusal.specs.declared.Refusal.{Refusal}
use Rattle.refusal.specs.declared.Refusal.TheVariants.{Room}

-- a text that the judge takes, and how many entries it has
abbrev pub Counts : List ℕ → Option ℕ → Type 0
Counts s (Some n) = (judge (toks_of s) mode.Wanted false [] ≡ true) × ((n ≡ count_of (toks_of s)) × (n ≤ length s))
Counts s None = judge (toks_of s) mode.Wanted false [] ≡ false

-- "a reader's tree list with fewer entries than text bytes": an entry is two words
abbrev pub Short : List ℕ → List ℕ → Type 0
Short text list = length list / 2 < length text

-- the tree's entries at the front of the list; none, exactly where no tree is written so; or a refusal
abbrev pub ReadAs : List ℕ → List ℕ → List ℕ → Result (Option ℕ) Refusal → Type 0
ReadAs text old new (Ok (Some n)) =
    (length text ≤ length old / 2) × ((t : Cond) × (Reads text t × ((length (entries t) ≡ n * 2) × (new ≡ entries t ++ drop (n * 2) old))))
ReadAs text old new (Ok None) = (length text ≤ length old / 2) × (((t : Cond) → Reads text t → ⊥) × (new ≡ old))
ReadAs text old new (Err c) = Short text old × ((c ≡ Room) × (new ≡ old))
