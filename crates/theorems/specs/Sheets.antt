-- "Before and after a WITH" (document 01) put on sheets: what is equal of their words. What is compared is `Same` of the statements
-- that they hold.
use Rattle.std.specs.Prelude.{ℕ, ◌≡◌, Bool}
use mathlib.Core.List.{List, ◌∷◌, map, flat_map}
use Rattle.words.specs.Words.{words}
use Rattle.expr.specs.Tree.{kid_count}
use Rattle.expr.specs.Erase.{erases}
use Rattle.expr.specs.Write.{writes}
use Rattle.clauses.specs.Tree.{keys_of}
use Rattle.clauses.specs.Write.{write_clause, write_arm}
use Rattle.clauses.specs.Erase.{erase_c, erase_a}
use Rattle.sheet.specs.Trailer.{places_of, section}
use Rattle.sheet.specs.Statement.{Statement}
use Rattle.sheet.specs.Read.{accepted, read_sheet}
use Rattle.semantics.specs.Lists
use Rattle.semantics.specs.Lists.{pairs_at}
use Rattle.theorems.specs.Site.{Site, is_head, cut_of, Stands, later_arms, barrier_of}

-- The words of the two tables' sections.
unfoldable pub names_section : List ℕ → List ℕ
names_section s = section (words s) 0 (places_of (words s)).rows

unfoldable pub bindings_section : List ℕ → List ℕ
bindings_section s = section (words s) (places_of (words s)).rows (places_of (words s)).head

-- The words of the part after a WITH, "word for word but for spans": each start and end is 0.
unfoldable pub later_clause_words : Site → List ℕ
later_clause_words p = flat_map write_clause (map erase_c (cut_of p).after)

unfoldable pub later_arm_words : Statement → Site → List ℕ
later_arm_words st p = flat_map write_arm (map erase_a (later_arms st p))

-- The words of a WITH's sort keys without their spans: their count, 0 where it has none, and each.
unfoldable pub key_words : Site → List ℕ
key_words p = let es = erases (keys_of (cut_of p).keys) in kid_count es ∷ writes es

-- One WITH in each of two accepted sheets: what is equal.
pub record AgreeSheets (warns : Bool) (s₁ s₂ : List ℕ) (st₁ st₂ : Statement) (p₁ p₂ : Site) : Type 0 where
  pub reads₁ : read_sheet s₁ ≡ accepted st₁
  pub reads₂ : read_sheet s₂ ≡ accepted st₂
  pub stands₁ : Stands st₁ p₁
  pub stands₂ : Stands st₂ p₂
  pub sort : is_head p₁ ≡ is_head p₂
  pub names : names_section s₁ ≡ names_section s₂
  pub table : bindings_section s₁ ≡ bindings_section s₂
  pub carried : pairs_at (barrier_of warns st₁ p₁) (Lists.carried_list warns st₁) ≡ pairs_at (barrier_of warns st₂ p₂) (Lists.carried_list warns st₂)
  pub keys : key_words p₁ ≡ key_words p₂
  pub clauses : later_clause_words p₁ ≡ later_clause_words p₂
  pub arms : later_arm_words st₁ p₁ ≡ later_arm_words st₂ p₂
