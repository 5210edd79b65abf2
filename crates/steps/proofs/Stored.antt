-- Laws of six words stored: they are read back and the others stay, so an event is said (`said-put`) or a finding told (`told-put`), and what
-- was said and told before stays.
use Prim.Native.Nat.{ℕ, zero, suc, ◌+◌, ◌-◌, ◌*◌, ◌<◌, ◌≤◌}
use native.Mathlib.Omega.{arith}
use mathlib.Core.Path.{◌≡◌, refl, ap, ◌∙◌}
use mathlib.Core.List.{List, ◌∷◌}
use lib.ListN.{length, get_or}
use Rattle.steps.specs.Said.{event_at, finding_at, event_by, finding_by, events, findings, Roomy, Put, Says, Tells}
use Rattle.steps.specs.declared.log.Log.{Log}

event-alike : (id : ℕ → ℕ) (new old : List ℕ) (k j : ℕ) → ((i : ℕ) → i < 6 → get_or new (k + i) 0 ≡ get_or old (j + i) 0) → event_at id new k ≡ event_at id old j
event-alike id new old k j e =
    let z : get_or new k 0 ≡ get_or old j 0 = ap (λ (n : ℕ). get_or new n 0) (omega arith) ∙ e 0 (omega arith) ∙ ap (λ (n : ℕ). get_or old n 0) (omega arith) in
    rw (z, e 1 (omega arith), e 2 (omega arith), e 3 (omega arith), e 4 (omega arith), e 5 (omega arith))

finding-alike : (new old : List ℕ) (k j : ℕ) → ((i : ℕ) → i < 6 → get_or new (k + i) 0 ≡ get_or old (j + i) 0) → finding_at new k ≡ finding_at old j
finding-alike new old k j e =
    let z : get_or new k 0 ≡ get_or old j 0 = ap (λ (n : ℕ). get_or new n 0) (omega arith) ∙ e 0 (omega arith) ∙ ap (λ (n : ℕ). get_or old n 0) (omega arith) in
    rw (z, e 1 (omega arith), e 2 (omega arith), e 3 (omega arith), e 4 (omega arith), e 5 (omega arith))

-- what agrees in the words agrees in what they say
events-alike : (id : ℕ → ℕ) (n : ℕ) (new old : List ℕ) → ((i : ℕ) → i < n * 6 → get_or new i 0 ≡ get_or old i 0) → events id n new ≡ events id n old
unfolding events
events-alike id zero new old e = refl
events-alike id (suc n) new old e =
    rw (events-alike id n new old (λ i h. e i (omega arith)), event-alike id new old (n * 6) (n * 6) (λ i h. e (n * 6 + i) (omega arith)))

findings-alike : (n : ℕ) (new old : List ℕ) → length new ≡ length old → ((i : ℕ) → length old - n * 6 ≤ i → get_or new i 0 ≡ get_or old i 0) → findings n new ≡ findings n old
unfolding findings
findings-alike zero new old z e = refl
findings-alike (suc n) new old z e =
    let at = length old - suc n * 6 in
    rw (z, findings-alike n new old z (λ i h. e i (omega arith)), finding-alike new old at at (λ i h. e (at + i) (omega arith)))

-- one more of each
more-events : (id : ℕ → ℕ) (n k m : ℕ) (entry old new : List ℕ) → k ≡ n * 6 → m ≡ suc n → Put k entry old new → events id m new ≡ event_by id entry ∷ events id n old
unfolding events
more-events id n k m entry old new q h p =
    rw (h, ← q, events-alike id n new old (λ i g. p.before i (omega arith)), event-alike id new entry k 0 (λ i g. p.stored i g ∙ ap (λ (x : ℕ). get_or entry x 0) (omega arith)))

more-findings : (n k m : ℕ) (entry old new : List ℕ) → k ≡ length old - suc n * 6 → suc n * 6 ≤ length old → m ≡ suc n → Put k entry old new → findings m new ≡ finding_by entry ∷ findings n old
unfolding findings
more-findings n k m entry old new q r h p =
    rw (h, p.length, ← q, findings-alike n new old p.length (λ i g. p.after i (omega arith)), finding-alike new entry k 0 (λ i g. p.stored i g ∙ ap (λ (x : ℕ). get_or entry x 0) (omega arith)))

module _ {k : ℕ} {entry : List ℕ} {old new : Log} (r : Roomy old) (p : Put k entry old.words.now new.words.now) (same : new.words.ghost_name ≡ old.words.ghost_name) where
  pub said-put : k ≡ old.said * 6 → new.said ≡ suc old.said → new.told ≡ old.told → Says entry old new
  said-put q s t =
      record {
        still = record { lent = same; size = p.length };
        said = s;
        told = t;
        events = λ id. more-events id old.said k new.said entry old.words.now new.words.now q s p;
        findings =
            ap (λ (n : ℕ). findings n new.words.now) t
            ∙ findings-alike old.told new.words.now old.words.now p.length (λ i h. p.after i (omega (arith, r.room)));
      }

  pub told-put : k ≡ length old.words.now - (old.told + 1) * 6 → new.said ≡ old.said → new.told ≡ suc old.told → Tells entry old new
  told-put q s t =
      record {
        still = record { lent = same; size = p.length };
        said = s;
        told = t;
        findings = more-findings old.told k new.told entry old.words.now new.words.now (omega arith) (omega (arith, r.room)) t p;
        events = λ id.
            ap (λ (n : ℕ). events id n new.words.now) s
            ∙ events-alike id old.said new.words.now old.words.now (λ i h. p.before i (omega (arith, r.room)));
      }
