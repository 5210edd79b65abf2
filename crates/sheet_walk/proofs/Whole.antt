-- Head and arms one after the other are the whole walk over a sheet: the cause of the head, at its `?` (`head-fell`), or of the arms (`arms-fell`),
-- and else both walks are done, and what they carry is in the list (`both-done`; `arms-told` for either answer of the arms).
-- What the walk over the head's words says of the head is `head-to`; where it is accepted, the arms begin (`arms-stand`).
use Prim.Native.Nat.{ℕ}
use native.Mathlib.Omega.{arith}
use mathlib.Core.Path.{◌≡◌, refl, subst, ◌∙◌}
use mathlib.Core.List.{List, flat_map}
use Rattle.std.specs.Prelude.{Result, Ok, Err}
use Rattle.std.specs.Result.{IsErr, IsErrAnd}
use Rattle.refusal.specs.declared.Refusal.{Refusal}
use Rattle.refusal.proofs.Handed.{handed}
use Rattle.words.proofs.Words.{length-words}
use Rattle.sheet.specs.Read.{accepted}
use Rattle.sheet.specs.Answer.{sheet_of, reached}
use Rattle.sheet.specs.declared.trailer.Places.{Places}
use Rattle.semantics.specs.Log.{carry_of, carries_in}
use Rattle.theorems.specs.Needs.{carried_in}
use Rattle.fused.specs.Fused.{Both}
use Rattle.fused.specs.Sheet.{begun, sheet_go}
use Rattle.entries.specs.Filled.{filled}
use Rattle.steps.specs.Memory.{words_in, world_at}
use Rattle.steps.specs.Hold.{Still}
use Rattle.steps.proofs.Named.{unmoved-then}
use Rattle.steps.specs.declared.Walk.{Walk}
use Rattle.steps.specs.declared.context.Context.{Context}
use Rattle.clause_parts.specs.Passes.{Passes}
use Rattle.arm_walk.specs.Clauses.{both_walks, clauses_at}
use Rattle.arm_walk.specs.Taking.{Carries, Takes}
use Rattle.sheet_walk.specs.Parts.{Set, Standing, Uses, Ends, Walks, head_in, arms_in, Lasting, Beginning, Begins, WalksAll}
use Rattle.sheet_walk.proofs.Section.{cut_to, is-cut, tail-long, head-is, walks-to, stands_on}

-- nothing is carried before the head
carries-none : (p : Places) (old : List ℕ) → Carries old old (begun p).names.log
unfolding carried_in carries_in carry_of flat_map filled
carries-none p old = record { kept = refl; has = λ l. record { count = refl; wrote = refl; kept = refl } }

pub lasts : {w w1 w2 : Walk} → Lasting w w1 → Still w1 w2 → Lasting w w2
lasts x y =
    record {
      visible = y.visible.lent ∙ x.visible;
      seen = y.visible.size ∙ x.seen;
      rowless = unmoved-then x.rowless y.rowless;
      log = y.log.lent ∙ x.log;
      wrote = y.log.size ∙ x.wrote;
    }

-- the head's words were walked
module _ {p : Places} {c : Context} {w w1 w2 : Walk} {carried carried2 : List ℕ} {a : Unit {0}} (b : Beginning p c w) (g : Begins p c w w1) (tk : Takes (cut_to p.tail c) w1 carried carried2 (clauses_at (cut_to p.tail c) both_walks p.clauses))
    (x : Passes 0 (cut_to p.tail c) w1 w2 (clauses_at (cut_to p.tail c) both_walks p.clauses) (Ok a)) where
  pub head-to : (r : Result (Unit {0}) Refusal) → sheet_of r ≡ reached w2.at p.tail → Walks c p.tail w1 carried w2 carried2 (head_in p c) r
  head-to = walks-to (is-cut p.tail c) g.stands (head-is b.set (is-cut p.tail c)) tk (tail-long b.set) x

  pub arms-stand : {u : Unit {0}} → sheet_of (Ok u) ≡ reached w2.at p.tail → Standing p.tail p.trailer c w2
  arms-stand {u} e = let y = head-to (Ok u) e in stands_on b (lasts g.lasting y.still) y.done.stands

module _ {p : Places} {c : Context} {w w1 : Walk} {carried : List ℕ} (b : Begins p c w w1) {w2 : Walk} {carried2 : List ℕ} where
  pub head-fell : {e : Refusal} (r : Result (Unit {0}) Refusal) → Walks c p.tail w1 carried w2 carried2 (head_in p c) (Err e) → IsErr r × IsErrAnd r (λ y. y ≡ e) → WalksAll p c w carried w2 carried2 r
  head-fell r x q = rw (handed _ r q) (record { lasting = lasts b.lasting x.still; lent = x.lent; walked = λ id us. unfold sheet_go in rw (x.done id (begun p) (b.holds id us)) })

  module _ {u : Unit {0}} (x : Walks c p.tail w1 carried w2 carried2 (head_in p c) (Ok u)) where
    -- the head is accepted
    headed : (id : ℕ → ℕ) → Uses c id → Ends id c w2 (head_in p c id (begun p))
    headed id us = x.done.goes id (begun p) (b.holds id us)

    module _ {w3 : Walk} {carried3 : List ℕ} where
      arms-fell : {e : Refusal} → Walks c p.trailer w2 carried2 w3 carried3 (arms_in p c) (Err e) → WalksAll p c w carried w3 carried3 (Err e)
      arms-fell y =
          record {
            lasting = lasts (lasts b.lasting x.still) y.still;
            lent = y.lent ∙ x.lent;
            walked = λ id us. let e = headed id us in unfold sheet_go in rw (e.same, y.done id e.state e.holds);
          }

      module _ {a : Unit {0}} (y : Walks c p.trailer w2 carried2 w3 carried3 (arms_in p c) (Ok a)) where
        -- the arms are accepted
        armed : (id : ℕ → ℕ) (us : Uses c id) → Ends id c w3 (arms_in p c id (headed id us).state)
        armed id us = y.done.goes id (headed id us).state (headed id us).holds

        whole : (id : ℕ → ℕ) (us : Uses c id) → sheet_go (world_at c id) p (words_in c) ≡ accepted (armed id us).state
        whole id us = unfold sheet_go in rw ((headed id us).same, (armed id us).same)

        carries-both : (id : ℕ → ℕ) (us : Uses c id) → Carries carried carried3 (armed id us).state.names.log
        carries-both id us =
            let e = headed id us in
            let f = armed id us in
            y.takes id e.state f.state carried e.holds f.same (x.takes id (begun p) e.state carried (b.holds id us) e.same (carries-none p carried))

        both-done : Set p c → WalksAll p c w carried w3 carried3 (Ok a)
        both-done h =
            record {
              lasting = lasts (lasts b.lasting x.still) y.still;
              lent = y.lent ∙ x.lent;
              walked = record {
                few = omega (arith, y.done.stands.at, (y.done.stands.fit (cut_to p.trailer c) (is-cut p.trailer c)).count, h.places.trailer, length-words c.section.bytes.now);
                goes = λ id us. record { state = (armed id us).state; holds = (armed id us).holds; same = whole id us };
                takes = λ id us u e.
                    let g = whole id us in
                    let z : (armed id us).state ≡ u = cc in
                    subst (λ (v : Both). Carries carried carried3 v.names.log) z (carries-both id us);
              };
            }

      pub arms-told : (r : Result (Unit {0}) Refusal) → Set p c → Walks c p.trailer w2 carried2 w3 carried3 (arms_in p c) r → WalksAll p c w carried w3 carried3 r
      arms-told (Ok a) h y = both-done y h
      arms-told (Err e) h y = arms-fell y
