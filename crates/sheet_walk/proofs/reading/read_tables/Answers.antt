-- The names decide first, then the bindings; where both are right, they are the definition's (`both-read`).
use Rattle.sheet.proofs.Placing.{in-places}
use Rattle.sheet_walk.proofs.Tables.{names-no, names-few, reads-as}
use Rattle.sheet_walk.proofs.reading.read_tables.Goals as goal

pub names_of-requires : goal.names_of-requires
names_of-requires c =
    (in-places c.args.s.now c.args.p c.requires.0.0, c.requires.0.1)

pub returns-then-not-names_of-clause-reads : goal.returns-then-not-names_of-clause-reads
returns-then-not-names_of-clause-reads c =
    names-no c.args.s.now c.args.p c.requires.0.0 (rw (c.if-not-names_of.true) at c.names_of.ensures.tabled)

pub rows_of-requires : goal.rows_of-requires
rows_of-requires c =
    let named = rw (c.if-not-names_of.false) at c.names_of.ensures.tabled in
    ((in-places c.args.s.now c.args.p c.requires.0.0, names-few c.args.p.names c.args.p.rows c.args.s.now named), c.requires.1)

pub returns-clause-reads : goal.returns-clause-reads
returns-clause-reads c =
    let named = rw (c.if-not-names_of.false) at c.names_of.ensures.tabled in
    reads-as c.requires.0.0 named c.rows_of.result c.rows_of.ensures
