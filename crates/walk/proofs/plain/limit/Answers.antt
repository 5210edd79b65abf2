-- What the table has at the code is its limit (`limits`).
use Rattle.std.proofs.Common.{rules, ◌≡◌, ◌∙◌}
use Rattle.std.specs.Prelude.{get_or}
use Rattle.walk.proofs.Limits.{table, limits}
use Rattle.walk.proofs.plain.limit.Goals as goal

pub returns : goal.returns
returns c =
    let found : c.unwrap_or.result ≡ get_or table c.args.code 4294967295 = search rules in
    found ∙ limits c.args.code
