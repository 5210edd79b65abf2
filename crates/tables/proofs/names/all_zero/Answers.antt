-- All bytes are zero where none is found that isn't.
use Rattle.std.proofs.Common.{◌≡◌, ◌≢◌, rules}
use Rattle.std.proofs.lemmas.Iterator.{cases_from_all, YieldsList-from_slice}
use borrow.Author.Tests.{tests}
use Rattle.tables.proofs.Text.{zero-by}
use Rattle.tables.proofs.names.all_zero.Goals as goal

pub returns : goal.returns
returns c =
    zero-by c.args.s.now c.all.result
    (cases_from_all _ _ _ (λ x. x ≡ 0) (λ x. x ≢ 0) c.all.ensures.ran (YieldsList-from_slice c.args.s.now cc) (λ x q k. search (rules, tests)) (λ x q k. search (rules, tests)))
