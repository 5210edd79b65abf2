-- Where the bytes are n names, the table has the place of each.
use Rattle.std.proofs.Common.{refl, arith}
use lib.ListN.{length-replicate}
use Rattle.sheet.proofs.Section.{find_at, find_past, find_none}
use Rattle.sheet.proofs.names.find_sized.Goals as goal

pub are_names-requires : goal.are_names-requires
are_names-requires g c = record { short = omega arith; places = simp length-replicate (omega arith); uses = simp length-replicate (omega arith) }

pub returns-then-not-are_names : goal.returns-then-not-are_names
returns-then-not-are_names g c = find_none _ (rw (c.if-not-are_names.true) at c.are_names.ensures)

pub bounds-tab-i : goal.bounds-tab-i
bounds-tab-i g c =
    let named = rw (c.if-not-are_names.false) at c.are_names.ensures in
    omega (arith, named.many refl)

pub returns-then-i-n : goal.returns-then-i-n
returns-then-i-n g c =
    let x = rw (c.if-not-are_names.false) at c.are_names.ensures in
    find_at _ x (omega (arith, x.many refl)) c.if-i-n.true

pub returns : goal.returns
returns g c =
    let x = rw (c.if-not-are_names.false) at c.are_names.ensures in
    find_past _ x (omega (arith, x.many refl)) c.if-i-n.false
