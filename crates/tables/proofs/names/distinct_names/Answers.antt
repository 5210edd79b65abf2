-- The loop's invariant: no name of the whole stands among those before it if none of those that are left does.
-- Where a name's use id is new, so is the name (`new-by-id`).
use Rattle.std.proofs.Common.{◌≡◌, true, false, rules, sym, ◌∙◌, take, arith}
use Rattle.std.specs.Prelude.{get_or}
use Rattle.std.specs.Str.{bytes_eq}
use Rattle.std.proofs.lemmas.Iterator.{YieldsList-from_slice}
use Rattle.std.proofs.lemmas.Iterator.Search.{any_from_yields_List}
use Rattle.words.proofs.Words.{drop-none}
use borrow.Author.Tests.{tests}
use Rattle.tables.specs.Distinct.{name_in, fresh_after, distinct}
use Rattle.tables.specs.Name.{name_at}
use Rattle.tables.specs.Answer.{names_at}
use Rattle.tables.proofs.Fresh.{fresh-next, any_name, new-by-id}
use Rattle.tables.proofs.names.distinct_names.Goals.{then-has_id+else-any, else-has_id}
use Rattle.tables.proofs.names.distinct_names.Goals as goal

pub loop-i-init : goal.loop-i-init
unfolding distinct
loop-i-init c = search rules

pub returns-then-any : goal.returns-then-any
returns-then-any c =
    let l = c.loop-i in
    let a = c.args in
    let x = name_at a.s.now (get_or a.places.now l.i 0) in
    let e = any_from_yields_List (λ p. bytes_eq x (name_at a.s.now p)) _ _ c.any.result c.any.ensures.ran (YieldsList-from_slice (take l.i a.places.now) cc) (λ p b q k. search (rules, tests)) in
    let same : name_in x (names_at a.s.now (take l.i a.places.now)) ≡ true = sym (any_name a.s.now x (take l.i a.places.now)) ∙ sym e ∙ c.if-any.true in
    sym (l.invariant ∙ fresh-next a.s.now a.places.now l.i (omega arith) ∙ rw same)

pub loop-i-preserved : goal.loop-i-preserved
loop-i-preserved c =
    let l = c.loop-i in
    let a = c.args in
    let x = name_at a.s.now (get_or a.places.now l.i 0) in
    let new : name_in x (names_at a.s.now (take l.i a.places.now)) ≡ false =
    elim c.if-has_id.branch [ then-has_id+else-any w ↦ sym (any_name a.s.now x (take l.i a.places.now)) ∙ sym (any_from_yields_List (λ p. bytes_eq x (name_at a.s.now p)) _ _ w.any.result w.any.ensures.ran (YieldsList-from_slice (take l.i a.places.now) cc) (λ p b q k. search (rules, tests))) ∙ w.if-any.false | else-has_id w ↦ new-by-id a.s.now a.places.now a.ids.now c.requires l.i (omega arith) (sym c.has_id.ensures ∙ w.if-has_id.false) ] in
    l.invariant ∙ fresh-next a.s.now a.places.now l.i (omega arith) ∙ rw new

pub returns : goal.returns
unfolding fresh_after
returns c =
    let a = c.args in
    sym (c.loop-i.invariant ∙ rw (drop-none a.places.now c.loop-i.i (omega arith)))
