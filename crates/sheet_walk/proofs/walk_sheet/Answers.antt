-- Where both tables are right, what the walks go by is in order (`set`), and what is lent has room for them.
use Rattle.std.proofs.Common.{ℕ, List, length, ap, refl, arith}
use Rattle.words.specs.Words.{words}
use Rattle.words.proofs.Words.{length-words}
use Rattle.sheet.proofs.Placing.{in-places}
use Rattle.sheet_walk.proofs.Section.{tail-long}
use Rattle.sheet_walk.proofs.Tables.{names-few, set}
use Rattle.sheet_walk.proofs.walk_sheet.Goals as goal

pub context_of-context-requires : goal.context_of-context-requires
context_of-context-requires c =
    let a = c.args in
    let q = c.requires in
    let h = in-places a.s.now a.p q.tables.has.places in
    let few = names-few a.p.names a.p.rows a.s.now q.tables.tabled in
    record { located = h; named = omega (arith, few, h, q.placed, length-words a.s.now); used = omega (arith, few, h, q.used, length-words a.s.now); uses = q.tables.tabled.uses refl; below = omega (arith, few, h) }

pub walk_all-requires : goal.walk_all-requires
walk_all-requires c =
    let a = c.args in
    let q = c.requires in
    let x = c.context_of-context.ensures in
    let h = set q.tables x q.used in
    let few = names-few a.p.names a.p.rows a.s.now q.tables.tabled in
    let i = in-places a.s.now a.p q.tables.has.places in
    let l = ap (λ (b : List ℕ). length (words b)) x.bytes in (
      record { set = h; pairs = omega (arith, q.pairs, l); clear = record { room = omega (arith, q.marked, few, i, x.names, length-words a.s.now); clear = q.unmarked } },
      record {
        set = h;
        names = omega (arith, q.names, l);
        binders = omega (arith, q.binders, l);
        fresh = record {
          apart = h.apart;
          fit = omega (arith, h.before, h.places.head, tail-long h, q.binders, l);
          room = q.listed;
          small = q.small;
          clear = λ b k. q.unlisted b;
        };
        unseen = q.unseen;
        room = omega (arith, q.room, l);
      },
    )

pub returns-clause-walks : goal.returns-clause-walks
returns-clause-walks c = record { context = c.context_of-context.result; settles = c.context_of-context.ensures; walks = c.walk_all.ensures.walks }
