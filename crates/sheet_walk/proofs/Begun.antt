-- Where both walks begin, whatever they held before: they stand at the head with nothing visible and nothing said, each name of the sheet has its
-- place, and the Root is said where it is wanted (`begins`).
use Prim.Native.Nat.{ℕ, ◌+◌, ◌/◌, ◌<◌}
use native.Mathlib.Omega.{arith}
use mathlib.Core.Path.{◌≡◌, refl, ap, sym, ◌∙◌}
use mathlib.Core.Bool.{Bool, true, false}
use mathlib.Core.List.{[], ◌∷◌}
use lib.ListN.{length, length-map}
use Rattle.words.proofs.Words.{length-words}
use Rattle.tables.specs.Name.{name_at}
use Rattle.sheet.specs.declared.trailer.Places.{Places}
use Rattle.theorems.specs.Needs.{made, carried_in}
use Rattle.theorems.specs.Woven.{written}
use Rattle.fused.specs.Fused.{Both}
use Rattle.rowless.specs.Rowless.{most}
use Rattle.rowless.specs.Rowless as rowless
use Rattle.rowless.specs.declared.Rowless.{Rowless}
use Rattle.visible.specs.Visible.{Descends}
use Rattle.visible.proofs.Names.{empty, seens-none}
use Rattle.steps.specs.Memory.{texts_in}
use Rattle.steps.specs.Named.{as_named, Below}
use Rattle.steps.specs.Said.{events, findings, kept, Roomy}
use Rattle.steps.specs.Hold.{Fits, Holds, SaysIf, restarted}
use Rattle.steps.specs.declared.Walk.{Walk}
use Rattle.steps.specs.declared.context.Context.{Context}
use Rattle.steps.proofs.Named.{unmoved-then}
use Rattle.steps.proofs.Held.{no-count, says_if}
use Rattle.sheet_walk.specs.Parts.{CutTo, Beginning, Uses, Begins}
use Rattle.sheet_walk.proofs.Section.{cut-long, tail-long}

-- no names, no events, no findings, no expression 25
abbrev nothing : Both
nothing = record { names = record { visible = []; cur = 0; last = 0; log = [] }; kinds = []; olds = 0 }

kept-none : (b : Bool) → kept b [] ≡ []
unfolding kept written
kept-none true = refl
kept-none false = refl

module _ {p : Places} {c : Context} {w : Walk} (b : Beginning p c w) where
  pub begin-roomy : (r : Rowless) → Roomy (restarted p.head r w).log
  begin-roomy r = record { small = omega arith; room = omega (arith, b.room, b.set.places.trailer, length-words c.section.bytes.now) }

  -- the texts are few enough
  pub begin-few : length c.texts.places.now + most w.rowless < 4294967296
  begin-few = omega (arith, b.set.fine.texts, length-map c.texts.places.now (name_at c.texts.section.now), b.set.fine.short, b.set.names, b.set.few, b.set.places.head, tail-long b.set, b.fresh.small)

  module _ {r : Rowless} (g : rowless.Begins (texts_in c) w.rowless r) where
    same : most r ≡ most w.rowless
    same = ap (λ (n : ℕ). n / 2) g.still.slots

    fits : (c' : Context) → CutTo p.tail c c' → Fits 1 0 0 c' (restarted p.head r w)
    unfolding Below Descends
    fits c' k =
        let l = cut-long k (tail-long b.set) in
        let t = tail-long b.set in
        let h = b.set.places in
        let v = w.visible.words.now in
        let n = r.listed + most r in
        let few = g.listed ∙ b.set.fine.texts in
        record {
          listed = few ∙ sym k.names;
          heads = refl;
          numbered = g.sound;
          right = rw k.texts g.right;
          below = rw (seens-none n v) tt;
          sound = empty n v (omega (arith, few, b.set.names, b.set.few, same, b.names, h.head, t)) (λ x j. b.unseen x);
          descends = rw (seens-none n v) tt;
          cur = omega arith;
          last = omega arith;
          count = omega arith;
          stack = omega (arith, few, b.set.names, b.set.few);
          rowless = omega (arith, g.paid, b.set.before);
          olds = omega arith;
          needs = omega arith;
          within = omega (arith, l, h.head);
          names = omega (arith, b.names, same, l, t);
          binders = omega (arith, b.binders, same, l, t);
          room = omega (arith, b.room, l, h.tail, h.trailer, length-words c.section.bytes.now);
        }

    holds : (id : ℕ → ℕ) → Uses c id → Holds id c (restarted p.head r w) nothing
    unfolding events findings made carried_in as_named
    holds id uses =
        record {
          visible = rw (seens-none (r.listed + most r) w.visible.words.now) refl;
          cur = refl;
          last = refl;
          log = sym (kept-none c.wants);
          kinds = refl;
          olds = refl;
          counts = record { made = refl; taken = refl };
          uses = uses;
        }

    pub begins : {w' : Walk} → SaysIf c.wants (1 ∷ 1 ∷ 0 ∷ p.start ∷ p.end ∷ 0 ∷ []) (restarted p.head r w) w' → Begins p c w w'
    begins {w'} x =
        let here = says_if {c = c} x (λ id l. refl) (λ id l. refl) (λ id. no-count (λ n. refl) (λ n. refl)) in
        record {
          lasting = record {
            visible = here.still.visible.lent;
            seen = here.still.visible.size;
            rowless = unmoved-then g.still here.still.rowless;
            log = here.still.log.lent;
            wrote = here.still.log.size;
          };
          stands = record {
            at = here.at;
            fit = λ c' k.
                let y : SaysIf c'.wants (1 ∷ 1 ∷ 0 ∷ p.start ∷ p.end ∷ 0 ∷ []) (restarted p.head r w) w' = rw k.wants x in
                (says_if {c = c'} y (λ id l. refl) (λ id l. refl) (λ id. no-count (λ n. refl) (λ n. refl))).fit 0 0 0 (fits c' k);
          };
          holds = λ id u. here.goes id nothing (holds id u);
        }
