-- A WITH's projections end at the word q, where its flag stands (`flag-inside`); its filter is the expression after it.
use Rattle.std.proofs.Common.{◌∙◌, sym, arith, inl, inr, ℕ, ◌+◌, ◌≡◌, Option, Some, None}
use Rattle.std.specs.Bool.{then_some}
use Rattle.std.proofs.Math.Dec.{eqb}
use Rattle.std.proofs.lemmas.Bool.Decides.{eqb_tells}
use Rattle.condition_printer.specs.Page.{Placed}
use Rattle.words.proofs.Words.{length-words}
use Rattle.heads.specs.Answer.{words_of}
use Rattle.condition_printer.proofs.Clauses.{projections-begin, projections-there, flag-inside, filter-stands, no-filter}
use Rattle.condition_printer.proofs.lines.filter_of.Goals as goal

pub overflow_add-at : goal.overflow_add-at
overflow_add-at c =
    let a = c.args in
    let begin = projections-begin (words_of a.section.now) a.section.now.names a.at c.requires.0 c.requires.1.0 in
    omega (arith, begin, length-words a.section.now.bytes.now)

pub counted-requires : goal.counted-requires
counted-requires c =
    let a = c.args in projections-begin (words_of a.section.now) a.section.now.names a.at c.requires.0 c.requires.1.0

pub unwrap-q-requires : goal.unwrap-q-requires
unwrap-q-requires c =
    let a = c.args in projections-there (words_of a.section.now) a.section.now.names a.at c.requires.0 c.requires.1.0 _ c.counted.ensures

pub overflow_add-q : goal.overflow_add-q
overflow_add-q c =
    let a = c.args in
    let read = rw c.unwrap-q.ensures at c.counted.ensures in
    let flag = flag-inside (words_of a.section.now) a.section.now.names a.at c.requires.0 c.requires.1.0 c.unwrap-q.result read.same in
    omega (arith, flag, length-words a.section.now.bytes.now)

-- what holds for either value of the test holds for the answer
told-by : (k q : ℕ) (P : Option ℕ → Type 0) → (k ≡ 1 → P (Some (q + 1))) → ((k ≡ 1 → ⊥) → P None) → P (then_some (eqb k 1) (q + 1))
told-by k q P f g = elim (eqb_tells k 1) [
  | inl h ↦ rw h.0 (f h.1)
  | inr h ↦ rw h.0 (g h.1)
]

pub returns : goal.returns
returns c =
    let a = c.args in
    let ws = words_of a.section.now in
    let names = a.section.now.names in
    let read = rw c.unwrap-q.ensures at c.counted.ensures in
    rw c.then_some.ensures (told-by c.word.result c.unwrap-q.result (Placed ws names a.at)
    (λ e. filter-stands ws names a.at c.requires.0 c.requires.1.0 c.unwrap-q.result read.same read.from (sym c.word.ensures ∙ e))
    (λ n. no-filter ws names a.at c.requires.0 c.requires.1.0 c.unwrap-q.result read.same (λ e. n (c.word.ensures ∙ e))))
