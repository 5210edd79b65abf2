-- The hash is a fold of the step, from the offset basis.
use Rattle.std.proofs.Common.{◌≡◌, ℕ, List, [], ◌∷◌, refl, ◌∙◌, rules}
use Rattle.std.specs.List.{fold}
use Rattle.words.specs.Fnv.{fnv_step, fnv_from, fnv1_of}
use Rattle.words.proofs.fnv.fnv1.Goals as goal

folded : (h : ℕ) (s : List ℕ) → fold fnv_step h s ≡ fnv_from h s
unfolding fnv_from
folded h [] = refl
folded h (b ∷ s) = folded (fnv_step h b) s

pub returns : goal.returns
unfolding fnv1_of
returns c =
    let e : c.fold.result ≡ fold fnv_step 2166136261 c.args.s.now = search rules in
    e ∙ folded 2166136261 c.args.s.now
