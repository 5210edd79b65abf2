-- Each word is that of a chunk of four bytes, and past the last chunk there is none.
use Rattle.std.proofs.Common.{rules, ◌≡◌, ◌∙◌, sym, ap, length, get_or, ℕ, ◌/◌, ◌<◌, ◌≤◌, List, arith, Bor}
use Rattle.std.specs.Prelude.{Option, None, Some, MatchOption}
use Rattle.std.specs.Option.{IfSome}
use Rattle.std.specs.Simd.{first_chunks}
use Rattle.words.specs.Words.{words}
use Rattle.words.proofs.Words.{word_of, word-chunk, word_none, length-words}
use Rattle.words.proofs.word.Goals as goal

module _ (s : List ℕ) (at : ℕ) {cs : List (List ℕ)} (e : cs ≡ first_chunks 4 (length s / 4) s) (n : length cs ≡ length s / 4) {P : Bor (List ℕ) → Type 0} (r : ℕ) (f : (x : Bor (List ℕ)) → P x → r ≡ word_of x.now) where
  found : (Q : Bor (List ℕ) → Type 0) (o : Option (Bor (List ℕ))) → IfSome o (λ x. x.now ≡ get_or cs at x.now) → MatchOption o (length cs ≤ at) (λ x. (at < length cs) × Q x) → MatchOption o (r ≡ 0) P → r ≡ get_or (words s) at 0
  found Q None i m h = h ∙ sym (word_none (words s) at (omega (arith, n, length-words s)))
  found Q (Some x) i m h = f x h ∙ ap word_of (rw e at i) ∙ word-chunk s at x.now (rw e at m.0)

pub returns : goal.returns
returns c =
    let l = c.get.ensures.lookup in
    found c.args.s.now c.args.at c.as_chunks.ensures.front c.as_chunks.ensures.front_len c.map_or.result (λ x h. search rules) _ c.get.result l.1 l.3 c.map_or.ensures
