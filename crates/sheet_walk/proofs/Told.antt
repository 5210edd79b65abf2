-- What a run tells of a sheet whose tables are right: that it is refused (`refuses`), or the statement's names, its events and findings, how many
-- expressions 25 it has and what it carries (`runs`), for the walk in one is the definition's reading and its two walks.
use Prim.Native.Nat.{ℕ, ◌+◌, ◌*◌, ◌≤◌}
use native.Mathlib.Omega.{arith}
use mathlib.Core.Path.{◌≡◌, ap, sym, ◌∙◌, fun_ext}
use mathlib.Core.Bool.{Bool}
use mathlib.Core.List.{List, [], reverse, reverse-reverse}
use lib.ListN.{length, get_or}
use Rattle.std.specs.Prelude.{Result, Ok, Err}
use Rattle.std.specs.Result.{IsErr, IsErrAnd}
use Rattle.refusal.specs.Number.{number_of}
use Rattle.refusal.specs.declared.Refusal.{Refusal}
use Rattle.words.specs.Words.{words}
use Rattle.words.specs.Fnv.{use_id}
use Rattle.words.proofs.Words.{length-words}
use Rattle.sheet.specs.Read.{accepted, refused, locate, read_sheet}
use Rattle.sheet.specs.declared.trailer.Places.{Places}
use Rattle.sheet.proofs.Placing.{places-of}
use Rattle.sheet.proofs.Whole.{names-kept}
use Rattle.semantics.specs.World.{World, row_kind, bytes_of, kind_of, world_of}
use Rattle.semantics.specs.Resolve.{State}
use Rattle.fused.specs.Sheet.{sheet_go}
use Rattle.fused.proofs.ApartStatement.{world-read, when-accepted, when-refused}
use Rattle.rows.specs.declared.Index.{Index}
use Rattle.steps.specs.Memory.{world_at}
use Rattle.steps.specs.Said.{events_in, kept}
use Rattle.steps.specs.declared.Walk.{Walk}
use Rattle.sheet_walk.specs.Runs.{id_of, RanTo, Runs}
use Rattle.sheet_walk.specs.Parts.{names_by, Reads, WalksBy}
use Rattle.sheet_walk.specs.declared.Choice.{Choice}
use Rattle.sheet_walk.specs.declared.Scratch.{Scratch}
use Rattle.sheet_walk.proofs.Tables.{id_by, world, uses}

-- what a `?` answers
pub refused_run : (choice : Choice) (s : List ℕ) (a : Scratch) (old carried : List ℕ) (e : Refusal) (r : Result Index Refusal) → read_sheet s ≡ refused (number_of e) → IsErr r × IsErrAnd r (λ y. y ≡ e) → Runs choice s a old carried r
refused_run choice s a old carried e (Err y) h f = rw f.1 h
refused_run choice s a old carried e (Ok y) h f = absurd f.1

-- a sheet whose sections are nowhere is refused
pub places-no : (s : List ℕ) {c : ℕ} → locate s ≡ refused c → read_sheet s ≡ refused c
unfolding read_sheet
places-no s e = rw e

-- what is kept of a log, by the choice and the state that are known
kept-as : {a b : Bool} {m n : State} → a ≡ b → n ≡ m → kept a m.log ≡ kept b n.log
kept-as p q = rw (p, q)

module _ {s : List ℕ} {p : Places} {choice : Choice} {x : Index} {places ids chains : List ℕ} (t : Reads s p places ids chains x) (used : length (words s) ≤ length ids) {w w' : Walk} {old carried : List ℕ} where
  pub refuses : {e : Refusal} → WalksBy s p choice x places ids chains w old w' carried (Err e) → read_sheet s ≡ refused (number_of e)
  refuses y =
      let q = y.settles in
      let c = y.context in
      when-refused t.has choice.warns (world_at c (id_by t q used)) (world t q used) (rw q.bytes at (y.walks.walked (id_by t q used) (uses t q used)))

module _ {s : List ℕ} {p : Places} {choice : Choice} {x : Index} {a : Scratch} (t : Reads s p a.places.now a.ids.now a.chains.now x) (used : length (words s) ≤ length a.ids.now) (many : length (words s) ≤ length a.places.now) where
  pub runs : {w : Walk} {old carried : List ℕ} {u : Unit {0}} → length (words s) * 6 ≤ length w.log.words.now → WalksBy s p choice x a.places.now a.ids.now a.chains.now w old a.walk carried (Ok u) → RanTo choice s a old carried x
  unfolding bytes_of kind_of world_of
  runs room y =
      let q = y.settles in
      let id = id_by t q used in
      let g = y.walks.walked.goes id (uses t q used) in
      let z : sheet_go (world_at y.context id) p (words s) ≡ accepted g.state = ap (λ (l : List ℕ). sheet_go (world_at y.context id) p (words l)) (sym q.bytes) ∙ g.same in
      let b = when-accepted t.has choice.warns (world_at y.context id) (world t q used) z in
      let st = b.statement in
      let ns = names_by s p a.places.now in
      let h = names-kept s a.places.now a.ids.now p t.has.places t.tabled (accepted st) b.read in
      let same : ns ≡ st.names = ap (λ (o : Places). names_by s o a.places.now) (places-of s p t.has.places) ∙ h.places in
      let ids-same : id_of st ≡ id = fun_ext (λ i. ap (λ (l : List (List ℕ)). use_id (get_or l i [])) (sym same)) in
      let few : a.walk.log.said + a.walk.log.told ≤ length (words s) = rw q.bytes at y.walks.walked.few in
      record {
        statement = st;
        read = b.read;
        names = h.places;
        uses = h.uses;
        log = ap (λ (f : ℕ → ℕ). events_in f a.walk.log) ids-same ∙ g.holds.log ∙ kept-as q.wants b.names;
        kinds = g.holds.kinds ∙ sym (ap reverse b.found ∙ reverse-reverse g.state.kinds);
        olds = g.holds.olds ∙ sym b.olds;
        bindings = rw b.names g.holds.counts.made;
        carried_names = rw b.names g.holds.counts.taken;
        carries = rw b.names (y.walks.walked.takes id (uses t q used) g.state g.same);
        stands = t.stands;
        kinded = λ v. ap row_kind (t.named v) ∙ ap (λ (w : World). kind_of w v) (sym (world-read t.has choice.warns b.read));
        few = few;
        many = omega (arith, h.many, many, length-words s);
        wide = omega (arith, few, room, y.walks.lasting.wrote);
      }
