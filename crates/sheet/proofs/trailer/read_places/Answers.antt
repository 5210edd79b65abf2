-- None of the words that are taken from t is more (`Falling`).
use native.Mathlib.Omega.{arith}
use Rattle.words.specs.Words.{words}
use Rattle.sheet.proofs.Placing.{falling}
use Rattle.sheet.proofs.trailer.read_places.Goals as goal

pub overflow_sub-result : goal.overflow_sub-result
overflow_sub-result c =
    omega (arith, falling (words c.args.s.now) c.args.t c.requires, c.word-5.ensures)

pub overflow_sub-result-2 : goal.overflow_sub-result-2
overflow_sub-result-2 c =
    omega (arith, falling (words c.args.s.now) c.args.t c.requires, c.word-6.ensures)

pub overflow_sub-result-3 : goal.overflow_sub-result-3
overflow_sub-result-3 c =
    omega (arith, falling (words c.args.s.now) c.args.t c.requires, c.word-7.ensures)
