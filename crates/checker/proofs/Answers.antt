-- The answer of the whole call and the lists that it leaves, by what the sheet is and what was heard of it.
--     refused-answer, handed-on, long-answer, short-answer   a refusal, and the lists as they were
--     tested                                      what the code tests is the definition's test
--     same-fits, again-asks                       lists that fit when a sheet is run again
--     copied                                      the carried list, from the words where it was stored first
--     fill-asks, full-answer                      lists that have room are filled, and so are the definition's
use Rattle.refusal.specs.Number.{number_of}
use Rattle.refusal.specs.declared.Refusal.{Refusal}
use Rattle.refusal.specs.declared.Refusal.TheVariants.{Size, Entries}
use Prim.Native.Nat.{ℕ, ◌*◌, ◌<◌, ◌≤◌}
use native.Mathlib.Omega.{arith}
use mathlib.Core.Path.{◌≡◌, sym, ◌∙◌, ap, subst}
use mathlib.Core.Bool.{Bool, true, false}
use mathlib.Core.List.{List, [], ◌++◌, flat_map}
use lib.ListN.{length, take}
use lib.Seq.{take_at}
use Rattle.words.specs.Words.{words}
use Rattle.scope.specs.Graph.{Carried}
use Rattle.scope.specs.Flat.{carried_width, carrieds_of}
use Rattle.sheet.specs.Trailer.{max_bytes}
use Rattle.sheet.specs.Statement.{Statement}
use Rattle.sheet.specs.Read.{accepted, refused, read_sheet}
use Rattle.sheet.proofs.Placing.{too_long}
use Rattle.semantics.specs.Log.{Event, Bound, Finding, scopes_in, answers_in, finds_in}
use Rattle.semantics.specs.World.{kind_of, world_of}
use Rattle.semantics.specs.Resolve.{log}
use Rattle.semantics.specs.Lists.{puts, notes, scopes, bindings, carried_list, recorded, findings}
use Rattle.std.specs.Prelude.{Result, Ok, Err, IsErrAnd}
use Rattle.theorems.specs.Woven.{written, woven}
use Rattle.theorems.proofs.Woven.{scopes-written, answers-written, finds-written, woven-log}
use Rattle.finding.specs.Flat.{finding_words}
use Rattle.entries.specs.Filled.{filled, scope_words, binding_words, carried_words, recorded_words, with_scopes, with_bindings, with_carried, with_recorded, with_findings}
use Rattle.entries.specs.Adding.{Holds}
use Rattle.entries.proofs.Filling.{length-flat, length-filled, sized-carried}
use Rattle.lists_fill.specs.Said.{all_told}
use Rattle.checker.specs.Checked.{Lent, counts_of, filled_by, answer, left, fits, answer_in, left_in, Answers}
use Rattle.sheet_walk.specs.Runs.{Clean, Still}
use Rattle.checker.specs.Filling.{fitting, all_events, all_bound, Heard, Fitting, Filling, Again}
use Rattle.checker.specs.declared.Counts.{Counts}
use Rattle.rows.specs.declared.Index.{Index}
use Rattle.sheet_walk.specs.declared.Scratch.{Scratch}
use Rattle.checker.proofs.Fits.{fits_by, Long, long}
use Rattle.checker.proofs.Reading.{carrieds-back}

module _ (warns : Bool) (s : List ℕ) (old : Lent ℕ) (room : ℕ) where
  pub refused-answer : (e : Refusal) → read_sheet s ≡ refused (number_of e) → Answers warns s old room (Err e) old
  unfolding answer_in left_in answer left
  refused-answer r e = record { counts = rw e; lists = rw e }

  pub handed-on : {r : Result Counts Refusal} (c : Refusal) → IsErrAnd r (λ e. e ≡ c) → read_sheet s ≡ refused (number_of c) → Answers warns s old room r old
  handed-on {r = Ok n} c h e = absurd h
  handed-on {r = Err d} c h e = rw h (refused-answer _ e)

  pub long-answer : max_bytes < length s → Answers warns s old room (Err Size) old
  unfolding read_sheet
  long-answer h = refused-answer Size (rw (too_long s h))

  pub short-answer : {st : Statement} → read_sheet s ≡ accepted st → fits (length (words s)) (counts_of warns st) old room ≡ false → Answers warns s old room (Err Entries) old
  unfolding answer_in left_in answer left
  short-answer e f = record { counts = rw (e, f); lists = rw (e, f) }

pub same-fits : (warns : Bool) (s : List ℕ) (old : Lent ℕ) (room : ℕ) {a b : Statement} → read_sheet s ≡ accepted a → read_sheet s ≡ accepted b → fits (length (words s)) (counts_of warns a) old room ≡ true → fits (length (words s)) (counts_of warns b) old room ≡ true
same-fits warns s old room {a} {b} p q f = let e : a ≡ b = cc in subst (λ (st : Statement). fits (length (words s)) (counts_of warns st) old room ≡ true) e f

module _ {warns : Bool} {s was has : List ℕ} {x : Index} {a : Scratch} (h : Heard warns s a was has x) where
  pub copied : {old new : List ℕ} → a.walk.taken * carried_width ≤ length was → a.walk.taken * carried_width ≤ length old → new ≡ filled old (take (a.walk.taken * carried_width) has) → Holds carried_words old new a.walk.taken (carried_list warns h.statement)
  unfolding filled
  copied {old} {new} p q e =
      let cs = carried_list warns h.statement in
      let ws = flat_map carried_words cs in
      let n : length ws ≡ a.walk.taken * carried_width = length-flat carried_words carried_width sized-carried cs ∙ ap (λ (n : ℕ). n * carried_width) (sym h.taken) in
      let same : take (a.walk.taken * carried_width) has ≡ ws = ap (take (a.walk.taken * carried_width)) (h.carries p).wrote ∙ take_at ws _ (a.walk.taken * carried_width) n in
      let wrote : new ≡ filled old ws = e ∙ ap (filled old) same in
      record { count = h.taken; wrote = wrote; kept = ap length wrote ∙ length-filled old ws (omega arith) }

  pub tested : (old : Lent ℕ) (room : ℕ) {n : ℕ} {b : Bool} → n ≡ length (words s) → b ≡ fitting n a.walk.made a.walk.taken old room → fits (length (words s)) (counts_of warns h.statement) old room ≡ b
  tested old room e b = sym (b ∙ ap (λ (n : ℕ). fitting n a.walk.made a.walk.taken old room) e ∙ fits_by warns s h.statement h.read old room h.made h.taken)

  module _ (old : Lent ℕ) (room : ℕ) (f : fits (length (words s)) (counts_of warns h.statement) old room ≡ true) where
    pub lengths : Long (length (words s)) (counts_of warns h.statement) old
    lengths = long (length (words s)) (counts_of warns h.statement) old room f

    pub carried-fits : a.walk.taken * carried_width ≤ length old.carried
    unfolding counts_of
    carried-fits = omega (arith, lengths.carried, h.taken)

    -- the scratch keeps its lengths
    pub again-asks : (b : Scratch) → Clean (length (words s)) b → Still b a → Again warns s a old room
    again-asks b q z =
        record {
          statement = h.statement;
          read = h.read;
          fits = f;
          placed = omega (arith, q.placed, z.placed);
          used = omega (arith, q.used, z.used);
          long = omega (arith, q.long, z.long);
          marked = omega (arith, q.marked, ap length z.unmarked);
          unmarked = λ i. rw z.unmarked (q.unmarked i);
          pairs = omega (arith, q.pairs, z.pairs);
          names = omega (arith, q.names, z.seen, z.rowless.slots);
          binders = omega (arith, q.binders, z.rowless.slots);
          listed = omega (arith, q.listed, z.rowless.slots, z.rowless.room);
          small = omega (arith, q.small, z.rowless.slots);
          wide = omega (arith, q.room, z.wrote);
        }

    module _ {c : List ℕ} (g : Holds carried_words old.carried c a.walk.taken (carried_list warns h.statement)) where
      abbrev pub between : Lent ℕ
      between = record { scopes = old.scopes; bindings = old.bindings; carried = c; recorded = old.recorded; findings = old.findings }

      pub fill-asks : 2 * length (words s) ≤ length a.held.now → Fitting (words s) x a between
      fill-asks v =
          let l = lengths in
          record {
            trailed = h.trailed;
            short = h.short;
            named = h.named;
            stands = h.stands;
            lent = omega (arith, g.kept, carried-fits);
            few = omega (arith, h.few);
            pairs = v;
            wide = h.wide;
            scopes = omega (arith, h.few, l.scopes);
            recorded = omega (arith, h.few, l.recorded);
            findings = omega (arith, h.few, l.findings);
          }

      same-bindings : all_bound (words s) x a c ≡ bindings warns h.statement
      unfolding bindings carried_list
      same-bindings =
          let es = all_events (words s) a in
          let cs = carrieds_of a.walk.taken c in
          let back : cs ≡ carried_list warns h.statement = rw (g.wrote, g.count) (carrieds-back (carried_list warns h.statement) old.carried) in
          let k = kind_of (world_of warns h.statement) in
          ap (λ (k : ℕ → ℕ). puts (woven k es cs) []) h.kinded
          ∙ ap (λ (l : List Event). puts (woven k l cs) []) h.log
          ∙ ap (λ (l : List Carried). puts (woven k (written (log warns h.statement)) l) []) back
          ∙ ap (λ (l : List Bound). puts l []) (sym (woven-log warns h.statement))

      module _ {n : Counts} {new : Lent ℕ} (q : Filling (words s) x a between n new) where
        same-scopes : scopes_in (all_events (words s) a) ≡ scopes warns h.statement
        unfolding scopes
        same-scopes = ap scopes_in h.log ∙ scopes-written (log warns h.statement)

        same-recorded : notes (answers_in (all_events (words s) a)) [] ≡ recorded warns h.statement
        unfolding recorded
        same-recorded = ap (λ l. notes l []) (ap answers_in h.log ∙ answers-written (log warns h.statement))

        same-findings : finds_in (all_events (words s) a) ++ all_told a.walk.log ≡ findings warns h.statement
        unfolding findings
        same-findings =
            ap (λ (l : List Finding). l ++ all_told a.walk.log) (ap finds_in h.log ∙ finds-written (log warns h.statement))
            ∙ ap (λ (l : List Finding). finds_in (log warns h.statement) ++ l) h.kinds

        pub full-answer : Answers warns s old room (Ok n) new
        unfolding answer_in left_in answer left counts_of filled_by with_scopes with_bindings with_carried with_recorded with_findings
        full-answer =
            let o = subst (Holds scope_words old.scopes new.scopes n.scopes) same-scopes q.scopes in
            let b = subst (Holds binding_words old.bindings new.bindings n.bindings) same-bindings (q.bindings (rw same-bindings lengths.bindings)) in
            let d = subst (Holds recorded_words old.recorded new.recorded n.recorded) same-recorded q.recorded in
            let k = subst (Holds finding_words old.findings new.findings n.findings) same-findings q.findings in
            let counts : n ≡ counts_of warns h.statement = λ j. record { scopes = o.count j; bindings = b.count j; carried = (q.carried ∙ h.taken) j; recorded = d.count j; findings = k.count j } in
            let lists : new ≡ filled_by warns h.statement old = λ j. record { scopes = o.wrote j; bindings = b.wrote j; carried = (q.kept ∙ g.wrote) j; recorded = d.wrote j; findings = k.wrote j } in
            record { counts = rw (h.read, f) (ap accepted counts); lists = rw (h.read, f) lists }
