-- The flat list has room for each finding of an accepted sheet, so what `check_words` answers and leaves is what the lists of records are to
-- show; behind the references there stands what it left (`still`).
use Rattle.std.proofs.Common.{refl, sym, replicate, arith}
use Rattle.checker.specs.Checked.{lent}
use Rattle.records.proofs.Ending.{within, same-answer, same_lists}
use Rattle.records.proofs.check.Goals as goal

pub store_all-requires : goal.store_all-requires
store_all-requires c =
    let a = c.check_words-answer in
    let w = within c.args.warns c.args.s.now (lent c.args.lists.now) (replicate 14336 0) refl a.result c.findings_in.result a.ensures.answers c.findings_in.ensures in
    (w.0, omega (arith, w.1, c.flat-2-1.given.1.0))

pub returns-clause-answers : goal.returns-clause-answers
returns-clause-answers c =
    let a = c.check_words-answer in
    same-answer c.args.warns c.args.s.now (lent c.args.lists.now) (replicate 14336 0) refl a.result c.findings_in.result a.ensures.answers c.findings_in.ensures

pub returns-clause-leaves : goal.returns-clause-leaves
returns-clause-leaves c =
    let a = c.check_words-answer in
    let s = a.ensures.still in
    rw (
      c.store_all.ensures,
      c.flat-2-1.given.1.1 (sym s.findings),
      c.lists-4-1.given.1 (sym s.scopes),
      c.lists-3-1.given.1 (sym s.bindings),
      c.lists-2-1.given.1 (sym s.carried),
      c.lists-1.given.1 (sym s.recorded),
    )
    (same_lists c.args.warns c.args.s.now (lent c.args.lists.now) (replicate 14336 0) refl a.result c.findings_in.result a.ensures.answers c.findings_in.ensures a.ensures.leaves)
