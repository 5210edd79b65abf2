-- A name's own use id; past the last name there are no bytes, whose use id is a number.
use Rattle.std.proofs.Common.{◌∙◌, arith}
use Rattle.words.specs.Fnv.{use_id, fnv1_of, fnv_from}
use Rattle.lists_fill.proofs.use_of.Goals as goal

pub returns : goal.returns
unfolding use_id fnv1_of fnv_from
returns c =
    c.unwrap_or.ensures ∙ rw c.copied.ensures (c.get.ensures.lookup.4 (omega arith) 4276314682)
