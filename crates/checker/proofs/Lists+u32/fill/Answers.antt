-- Each list is filled from the same words; the trailer says how many names there are.
use Rattle.std.proofs.Common.{◌≡◌, ℕ, List, ◌+◌, ◌-◌, ◌≤◌, length, get_or, refl, ◌∙◌, ap, arith}
use Rattle.words.specs.Words.{words}
use Rattle.sheet.specs.Trailer.{places_of}
use Rattle.lists_fill.specs.Said.{id_in}
use Rattle.checker.specs.Filling.{uses_in}
use Rattle.checker.proofs.Lists+u32.fill.Goals as goal

names_at : (ws : List ℕ) {n names : ℕ} → 10 ≤ length ws → n ≡ length ws → names ≡ get_or ws (n - 9) 0 → names ≡ (places_of ws).names
unfolding places_of
names_at ws {n} h e w =
    let at : n - 9 ≡ length ws - 10 + 1 = omega arith in
    w ∙ ap (λ (i : ℕ). get_or ws i 0) at

pub slice_bounds-uses-end : goal.slice_bounds-uses-end
slice_bounds-uses-end c =
    let named = names_at (words c.args.s.now) c.requires.trailed c.count.ensures c.word-names.ensures in
    omega (arith, named, c.requires.named)

pub returns-clause-fills : goal.returns-clause-fills
returns-clause-fills c =
    let ws = words c.args.s.now in
    let named = names_at ws c.requires.trailed c.count.ensures c.word-names.ensures in
    let id = id_in (uses_in ws c.args.scratch.now.ids.now) in
    let n : c.word-names.result - 0 ≡ (places_of ws).names = omega (arith, named) in
    record {
      scopes = c.fill_scopes-scopes.ensures id;
      bindings = c.bind-bindings.ensures id;
      carried = refl;
      kept = refl;
      recorded = rw n at c.fill_recorded-recorded.ensures;
      findings = c.fill_all_findings-findings.ensures id;
    }
