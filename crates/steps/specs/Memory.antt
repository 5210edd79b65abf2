-- What both walks go by, in the definition's words.
use Rattle.std.specs.Prelude.{ℕ, Bool, false, List, eqb, get_or, Option, None, Some}
use Rattle.heads.specs.Answer.{words_of}
use Rattle.semantics.specs.World.{World}
use Rattle.tables.specs.Answer.{names_at}
use Rattle.rows.specs.Table.{row_in}
use Rattle.rowless.specs.Rowless.{index_in}
use Rattle.steps.specs.declared.context.Context.{Context}

abbrev pub words_in : Context → List ℕ
words_in c = words_of c.section

abbrev pub names_in : Context → ℕ
names_in c = c.section.names

-- whether x is that name
abbrev pub is_the : ℕ → Option ℕ → Bool
is_the x None = false
is_the x (Some y) = eqb x y

-- whether x is no use: past the marks there is none
abbrev pub hushed_in : Context → ℕ → Bool
hushed_in c x = eqb (get_or c.hushed.now x 0) 1

abbrev pub use_in : Context → ℕ → ℕ
use_in c x = get_or c.uses.now x 0

-- the texts of the names, and the index + 1 of the one that has the text of a variable, or 0
abbrev pub texts_in : Context → List (List ℕ)
texts_in c = names_at c.texts.section.now c.texts.places.now

abbrev pub named_in : Context → ℕ → ℕ
named_in c v = index_in (texts_in c) v

-- what the walks know, where `id` gives the use ids of names
abbrev pub world_at : Context → (ℕ → ℕ) → World
world_at c id =
    record {
      id = id;
      is_star = λ x. is_the x c.star;
      is_id = λ x. is_the x c.ident;
      hushed = λ x. hushed_in c x;
      row = λ v. row_in c.rows v;
      named = λ v. named_in c v;
      warns = c.warns;
    }
