-- Where no use id is that of x, no name is x. The first place at which the name is x is the index that the definition counts (`first_from`).
use Rattle.std.proofs.Common.{◌≡◌, false, rules, ◌∙◌, sym, ap, List, ℕ, Option}
use Rattle.std.proofs.lemmas.Iterator.{YieldsList-from_slice}
use Rattle.std.proofs.lemmas.Iterator.Search.{position_from_yields_List}
use Rattle.std.proofs.lemmas.Iterator.Adapters.{position_from-zero}
use Rattle.std.specs.List.{position}
use Rattle.std.specs.Str.{bytes_eq}
use borrow.Author.Tests.{tests}
use Rattle.heads.specs.Answer.{is_in}
use Rattle.tables.specs.Index.{number_of, index_of}
use Rattle.tables.specs.Name.{name_at}
use Rattle.tables.specs.Answer.{names_at}
use Rattle.tables.proofs.Fresh.{id-new}
use Rattle.tables.proofs.Index.{past-none, first_from, index-none}
use Rattle.tables.proofs.names.index_of.Goals as goal

counted : (s x places : List ℕ) (r : Option ℕ) → r ≡ position (λ p. bytes_eq x (name_at s p)) places → number_of r ≡ index_of x (names_at s places)
counted s x places r e = ap number_of (e ∙ position_from-zero _ places) ∙ first_from s x 0 places ∙ sym (past-none (index_of x (names_at s places)))

pub returns-then-not-has_id : goal.returns-then-not-has_id
returns-then-not-has_id c =
    let a = c.args in
    let new : is_in c.use_id.result a.ids.now ≡ false = sym c.has_id.ensures ∙ c.if-not-has_id.true in
    index-none a.x.now (names_at a.s.now a.places.now) (id-new _ _ (rw (c.use_id.ensures, c.requires.used) at new))

pub returns-in_err-i : goal.returns-in_err-i
returns-in_err-i c =
    let a = c.args in
    rw c.from_residual.ensures (rw c.in_err-i.was at (counted a.s.now a.x.now a.places.now c.position.result (position_from_yields_List (λ p. bytes_eq a.x.now (name_at a.s.now p)) _ _ c.position.result c.position.ensures.ran (YieldsList-from_slice a.places.now cc) (λ x b q k. search (rules, tests)))))

pub returns : goal.returns
returns c =
    let a = c.args in
    rw c.in_ok-i.was at (counted a.s.now a.x.now a.places.now c.position.result (position_from_yields_List (λ p. bytes_eq a.x.now (name_at a.s.now p)) _ _ c.position.result c.position.ensures.ran (YieldsList-from_slice a.places.now cc) (λ x b q k. search (rules, tests))))
