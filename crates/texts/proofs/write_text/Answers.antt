-- What is laid around a type's name is the definition's text. These two arms are long to compute, and are answered here.
use Rattle.texts.specs.Texts.{text_of}
use Rattle.texts.proofs.write_text.Goals as goal

pub returns-in-ListIterable : goal.returns-in-ListIterable
unfolding text_of
returns-in-ListIterable c = rw (c.in-ListIterable.is, ← c.type_name-in-ListIterable.ensures) c.lay_around-in-ListIterable.ensures

pub returns-in-BoolPredicate : goal.returns-in-BoolPredicate
unfolding text_of
returns-in-BoolPredicate c = rw (c.in-BoolPredicate.is, ← c.type_name-in-BoolPredicate.ensures) c.lay_around-in-BoolPredicate.ensures
