-- The aliases that a RETURN with sort keys holds.
use Rattle.std.specs.Prelude.{ℕ, ◌≤◌, ◌≡◌, List, length, Option}
use Rattle.return_walk.specs.Returns.{aliases_in, AllNamed, HeldAlias}
use Rattle.return_walk.specs.declared.aliases.Aliases.{Aliases}

abbrev pub aliases_of : Aliases → List ℕ
aliases_of a = aliases_in a.count a.words.now

-- they are there, and below the number of names
pub record InRange (names : ℕ) (a : Aliases) : Type 0 where
  pub wide : a.count ≤ length a.words.now
  pub named : AllNamed names a.count a.words.now

-- an alias is held, if there is one, in the words that were lent
pub record HoldsAlias (alias : Option ℕ) (a a' : Aliases) : Type 0 where
  pub lent : a'.words.ghost_name ≡ a.words.ghost_name
  pub held : HeldAlias a.count alias a.words.now a'.words.now a'.count
