-- The library's answer, from the last byte to the first; another byte before the last, and the sign doesn't stand here.
use Rattle.std.proofs.lemmas.Bool.Decides.{Decides-eqb}
use Rattle.std.proofs.lemmas.Slice.Eq.{strip_suffix_is}
use Rattle.condition_lexer.proofs.Ends.{signed, missed}
use Rattle.condition_lexer.proofs.before_sign.Goals as goal

pub returns-in_default : goal.returns-in_default
returns-in_default c =
    signed _ _ _ (strip_suffix_is Decides-eqb c.args.text.now c.args.sign.now _ c.strip_suffix.ensures.cases)

pub returns-in_default-sign : goal.returns-in_default-sign
returns-in_default-sign c =
    signed _ _ _ (strip_suffix_is Decides-eqb c.args.text.now c.args.sign.now _ c.strip_suffix-in_default-sign.ensures.cases)

pub returns-then-byte-last : goal.returns-then-byte-last
returns-then-byte-last c = missed _ _ c.in-len2-up-sign.len_at_least c.in-len2-up.len_at_least c.if-byte-last.true

pub returns : goal.returns
returns c =
    signed _ _ _ (strip_suffix_is Decides-eqb c.args.text.now c.args.sign.now _ c.strip_suffix-2.ensures.cases)
