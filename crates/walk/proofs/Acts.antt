-- What a plain head does itself, as the functions of `steps` do it: a use of a variable (`var-act`), of a name (`name-act`, `name-idle`), the
-- type that it shows (`type-act`, `type-idle`). A part without a path binds nothing (`path-none`).
use Rattle.std.specs.Prelude.{Option, None}
use Prim.Native.Nat.{ℕ, ◌/◌, ◌%◌, ◌<◌, ◌≤◌}
use mathlib.Core.Path.{◌≡◌, refl, sym}
use mathlib.Core.Bool.{Bool, true, false}
use mathlib.Core.List.{[]}
use Rattle.heads.specs.Form.{shape_of, form_one}
use Rattle.expr.specs.declared.types.«Type».{«Type»}
use Rattle.semantics.specs.World.{variable}
use Rattle.semantics.specs.Resolve.{use_var, bind_path}
use Rattle.semantics.specs.Kinds.{at_type, at_row, misplaced, row_for}
use Rattle.fused.specs.Fused.{Both, when, told, step, name_use, head_of}
use Rattle.steps.specs.Types.{type_number}
use Rattle.steps.specs.Modes.{mode_of, setting_of}
use Rattle.steps.specs.Memory.{names_in, world_at}
use Rattle.steps.specs.Hold.{Steps, Ready, cost_of, on_names, on_kinds, path_step}
use Rattle.steps.specs.declared.Walk.{Walk}
use Rattle.steps.specs.declared.context.Context.{Context}
use Rattle.steps.specs.declared.mode.Mode.{Mode}
use Rattle.steps.specs.declared.mode.Setting.{Setting}
use Rattle.steps.proofs.Held.{idle-step, as-steps, more-steps}
use Rattle.steps.proofs.Heads.{some_cost, checked-step, unchecked-step, resolved_step, unresolved-step}
use Rattle.walk.specs.Plain.{shape, limit, headed, type_by}
use Rattle.walk.proofs.Plains.{law}

-- what a plain head does
abbrev pub Does : Context → Mode → Setting → (code a : ℕ) → (ℕ → ℕ) → Both → Both
Does c mode set code a id = head_of (world_at c id) (mode_of mode) (headed code a) (setting_of set)

module _ {c : Context} {w : Walk} (code a : ℕ) where
  pub var-ready : code ≡ 7 → Ready (cost_of (headed code a)) c w → Ready 2 c w
  unfolding shape_of form_one
  var-ready e h = rw e at h

  pub name-ready : code ≡ 8 → (shape code / 64 % 2 ≡ 1 → a < names_in c) → Ready (cost_of (headed code a)) c w → (a < names_in c) × Ready 2 c w
  unfolding shape_of form_one
  name-ready e n h = let k : shape 8 / 64 % 2 ≡ 1 → a < names_in c = rw e at n in (k refl, rw e at h)

  module _ (mode : Mode) (set : Setting) where
    module _ {w' : Walk} where
      pub var-act : code ≡ 7 → Steps 2 c w w' (λ id. step (mode_of mode) (use_var (world_at c id) a ((world_at c id).row a)) (at_row (setting_of set) ((world_at c id).row a))) → Steps (cost_of (headed code a)) c w w' (Does c mode set code a)
      unfolding shape_of form_one
      var-act e x = rw e x

      pub name-act : code ≡ 8 → mode.resolves ≡ true → Steps 2 c w w' (λ id. on_names (name_use (world_at c id) a)) → Steps (cost_of (headed code a)) c w w' (Does c mode set code a)
      unfolding shape_of form_one
      name-act e y x = rw e (resolved_step mode (λ id. name_use (world_at c id) a) y x)

    pub name-idle : code ≡ 8 → mode.resolves ≡ false → Steps (cost_of (headed code a)) c w w (Does c mode set code a)
    unfolding shape_of form_one
    name-idle e y = rw e (unresolved-step mode (λ id. name_use (world_at c id) a) y)

    module _ (p : 0 < shape code) (l : a ≤ limit code) (v : code ≡ 7 → ⊥) (n : code ≡ 8 → ⊥) where
      pub type-act : {w' : Walk} (t : Option «Type») → type_number t ≡ type_by code → mode.checks ≡ true → Steps 1 c w w' (λ id. on_kinds (at_type (setting_of set) (type_number t))) → Steps (cost_of (headed code a)) c w w' (Does c mode set code a)
      type-act t e y x =
          more-steps (some_cost (headed code a)) (as-steps _ (checked-step mode _ y (rw e at x)) (λ id s. sym ((law code a p l).type v n (world_at c id) (mode_of mode) (setting_of set) s)))

      pub type-idle : mode.checks ≡ false → Steps (cost_of (headed code a)) c w w (Does c mode set code a)
      type-idle y = as-steps _ (unchecked-step mode (at_type (setting_of set) (type_by code)) y) (λ id s. sym ((law code a p l).type v n (world_at c id) (mode_of mode) (setting_of set) s))

when-same : {A : Type 0} (b : Bool) (f : A → A) (a : A) → f a ≡ a → when b f a ≡ a
when-same true f a q = q
when-same false f a q = refl

pub path-none : {c : Context} {w : Walk} {j : ℕ} {x : Option ℕ} (mode : Mode) → x ≡ None → Steps j c w w (λ id. path_step (world_at c id) (mode_of mode) x)
unfolding variable bind_path row_for misplaced told
path-none {c} mode q =
    rw q (idle-step _ (λ id s h. rw (when-same mode.resolves (bind_path (world_at c id) None) s.names refl, when-same mode.checks (told []) s.kinds refl) h))
