-- A name that the stamps don't know of is in no place; else the search tells.
use Rattle.std.proofs.Common.{◌≡◌, ◌∙◌, sym, ◌/◌, ◌≤◌, length, arith}
use Rattle.scope.specs.Answer.{name_of}
use Rattle.scope.specs.Flat.{binding_width, binding_of, bindings_of}
use Rattle.scope.proofs.Entries.{length-entries}
use Rattle.scope.proofs.Listed.{front, bindings_listed}
use Rattle.entries.specs.Adding.{last_place, is_binding}
use Rattle.entries.proofs.Placing.{bindings-read, last-within}
use Rattle.entries.proofs.Stamping.{new-place, once-place}
use Rattle.entries.proofs.place_for.Goals as goal

pub returns-then-is_new : goal.returns-then-is_new
returns-then-is_new c =
    record {
      within = omega arith;
      found = λ old es b. b.list.count ∙ sym (new-place _ _ _ (c.is_new.ensures c.if-is_new.true) es b.stamped);
    }

pub returns : goal.returns
returns c =
    let a = c.args in
    let fits : a.m ≤ length a.out.now / binding_width = omega arith in
    let seen : c.place_of_name.result ≡ last_place (is_binding a.scope (name_of a.name)) (bindings_of a.m a.out.now) =
    c.place_of_name.ensures ∙ rw (c.as_chunks.ensures.front, front binding_width a.m (length a.out.now / binding_width) a.out.now fits, bindings_listed) in
    record {
      within = omega (arith, seen, last-within (is_binding a.scope (name_of a.name)) (bindings_of a.m a.out.now), length-entries binding_width binding_of a.m a.out.now);
      found = λ old es b. rw (bindings-read b.list) at seen ∙ once-place _ _ es b.once;
    }
