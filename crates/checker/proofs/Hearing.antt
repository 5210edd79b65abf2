-- What a run of the walks leaves, where every event was wanted: `Heard`, in the definition's words, oldest first.
--     heard-of, refused-of   so of a run that answered, and of one that refused
--     ids-are     a name's use id, as the code looks it up, is the statement's
use Prim.Native.Nat.{ℕ, ◌*◌, ◌≤◌}
use native.Mathlib.Omega.{arith}
use mathlib.Core.Path.{◌≡◌, sym, ◌∙◌, ap}
use mathlib.Core.Bool.{Bool, true}
use mathlib.Core.List.{List, [], map, reverse, reverse-reverse}
use lib.ListN.{length, get_or, take, length-take, length-map, get_or-map}
use Rattle.words.specs.Words.{words}
use Rattle.words.proofs.Words.{length-words}
use Rattle.words.specs.Fnv.{use_id}
use Rattle.tables.specs.Name.{name_at}
use Rattle.sheet.specs.Trailer.{places_of}
use Rattle.sheet.specs.Statement.{Statement}
use Rattle.sheet.specs.Read.{refused, read_sheet}
use Rattle.sheet.proofs.Walked.{walked}
use Rattle.semantics.specs.World.{bytes_of}
use Rattle.semantics.specs.Resolve.{run, log}
use Rattle.semantics.specs.Lists.{carried_list}
use Rattle.theorems.proofs.Woven.{written-reverse}
use Rattle.theorems.proofs.Needs.{needs}
use Rattle.steps.specs.Said.{kept, events}
use Rattle.rows.specs.declared.Index.{Index}
use Rattle.std.specs.Prelude.{Result, Ok, Err, IfOk, IfErr}
use Rattle.refusal.specs.Number.{number_of}
use Rattle.refusal.specs.declared.Refusal.{Refusal}
use Rattle.sheet_walk.specs.Runs.{id_of, RanTo, Runs}
use Rattle.sheet_walk.specs.declared.Choice.{Choice}
use Rattle.sheet_walk.specs.declared.Scratch.{Scratch}
use Rattle.lists_fill.specs.Said.{id_in, events_in, told_in}
use Rattle.checker.specs.Filling.{Heard}

pub ids-are : (st : Statement) {uses : List ℕ} → uses ≡ map use_id st.names → id_in uses ≡ id_of st
unfolding bytes_of
ids-are st {uses} e = λ j x. one x j
  where
    one : (x : ℕ) → id_in uses x ≡ use_id (get_or st.names x [])
    one x = rw e (get_or-map use_id st.names x [])

module _ (a : Scratch) {choice : Choice} {s was has : List ℕ} {x : Index} (r : RanTo choice s a was has x) where
  named : (places_of (words s)).names ≤ length a.ids.now
  named =
      let k = (places_of (words s)).names in
      omega (arith, r.many, ap length r.names, ap length r.uses, length-take k a.places.now, length-take k a.ids.now, length-map r.statement.names use_id, length-map (take k a.places.now) (name_at (take ((places_of (words s)).rows * 4) s)))

  heard : choice.wants ≡ true → Heard choice.warns s a was has x
  unfolding events_in told_in log kept carried_list
  heard w =
      let st = r.statement in
      let l = (run choice.warns st).log in
      let n = needs choice.warns st in
      record {
        statement = st;
        read = r.read;
        trailed = omega (arith, (walked s st r.read).whole);
        short = omega (arith, (walked s st r.read).places.short, length-words s);
        named = named;
        log = ap (λ (id : ℕ → ℕ). reverse (events id a.walk.log.said a.walk.log.words.now)) (ids-are st r.uses) ∙ ap reverse (r.log ∙ ap (λ (b : Bool). kept b l) w) ∙ sym (written-reverse l);
        kinds = ap reverse r.kinds ∙ reverse-reverse _;
        made = r.bindings ∙ sym n.bindings;
        taken = r.carried_names ∙ sym n.carried_list;
        carries = λ h. rw (← r.carried_names) at (r.carries.has (rw r.carried_names at h));
        stands = r.stands;
        kinded = λ j v. r.kinded v j;
        few = r.few;
        wide = r.wide;
      }

pub heard-of : (a : Scratch) (choice : Choice) (s was has : List ℕ) (r : Result Index Refusal) → Runs choice s a was has r → choice.wants ≡ true → IfOk r (λ x. Heard choice.warns s a was has x)
heard-of a choice s was has (Ok x) h w = heard a h w
heard-of a choice s was has (Err e) h w = tt

pub refused-of : (a : Scratch) (choice : Choice) (s was has : List ℕ) (r : Result Index Refusal) → Runs choice s a was has r → IfErr r (λ e. read_sheet s ≡ refused (number_of e))
refused-of a choice s was has (Ok x) h = tt
refused-of a choice s was has (Err e) h = h
