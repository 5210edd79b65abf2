-- The entry that fits is the last that does, since none after it does; where the loop comes to its end, none fits.
use Rattle.std.proofs.Common.{◌≡◌, ◌∙◌, sym, suc, ◌+◌, ◌-◌, true, false, [], map, length, get_or, rules, tests, arith}
use Rattle.std.proofs.lemmas.List.{length-map}
use Rattle.scope.specs.Answer.{name_of}
use Rattle.scope.specs.Flat.{binding_of}
use Rattle.scope.specs.Graph.{same_name}
use Rattle.scope.proofs.Listed.{next_listed, none_listed}
use Rattle.entries.specs.Adding.{place, Without, is_binding}
use Rattle.entries.proofs.Placing.{last-none, one-passed, last-at}
use Rattle.entries.proofs.place_of_name.Goals as goal

pub loop-i-init : goal.loop-i-init
unfolding place
loop-i-init c =
    rw (none_listed binding_of c.args.bindings.now (length c.args.bindings.now) (omega arith))

pub returns-then-word-called : goal.returns-then-word-called
unfolding same_name
returns-then-word-called c =
    let a = c.args in
    let i = c.loop-i.i in
    let along : i ≡ suc (i - 1) = omega arith in
    let f : is_binding a.scope (name_of a.name) (binding_of (get_or a.bindings.now (i - 1) [])) ≡ true = search (rules, tests) in
    sym (last-at (is_binding a.scope (name_of a.name)) binding_of [] a.bindings.now (i - 1) (omega arith) f (rw along at c.loop-i.invariant))

pub loop-i-preserved : goal.loop-i-preserved
unfolding same_name
loop-i-preserved c =
    let a = c.args in
    let i = c.loop-i.i in
    let along : i ≡ (i - 1) + 1 = omega arith in
    let f : is_binding a.scope (name_of a.name) (binding_of (get_or a.bindings.now (i - 1) [])) ≡ false = search (rules, tests) in
    rw (next_listed binding_of a.bindings.now (i - 1) (omega arith)) (one-passed (is_binding a.scope (name_of a.name)) _ _ f (rw along at c.loop-i.invariant))

pub returns : goal.returns
returns c =
    let a = c.args in
    let none : c.loop-i.i ≡ 0 = omega arith in
    let w : Without (is_binding a.scope (name_of a.name)) (map binding_of a.bindings.now) = rw none at c.loop-i.invariant in
    sym (last-none (is_binding a.scope (name_of a.name)) (map binding_of a.bindings.now) w ∙ length-map a.bindings.now binding_of)
