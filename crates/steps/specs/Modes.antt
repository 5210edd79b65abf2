-- Modes and settings of the code in the definition's words.
use Rattle.std.specs.Prelude.{ℕ, Bool, true, false, cond, ◌&&◌, Option, None, Some}
use Rattle.semantics.specs.Log.{e5010, e5011}
use Rattle.semantics.specs.Kinds as kinds
use Rattle.semantics.specs.Kinds.{general, arithmetic, property, boolean, listed, both}
use Rattle.fused.specs.Fused as fused
use Rattle.steps.specs.declared.mode.Mode.{Mode}
use Rattle.steps.specs.declared.mode.Setting.{Setting}
use Rattle.steps.specs.declared.mode.Setting.TheVariants.{General, Arithmetic, Property, Boolean, Indexed, Sliced, Iterated, Quantified}
use Rattle.steps.specs.declared.mode.Settings.{Settings}

abbrev pub mode_of : Mode → fused.Mode
mode_of m = record { resolves = m.resolves; checks = m.checks }

abbrev pub setting_of : Setting → kinds.Setting
setting_of General = general
setting_of Arithmetic = arithmetic
setting_of Property = property
setting_of Boolean = boolean
setting_of Indexed = listed e5010 1
setting_of Sliced = listed e5010 2
setting_of Iterated = listed e5010 3
setting_of Quantified = listed e5011 0

-- the code and the detail of the finding where a list is wanted
abbrev pub list_code : Setting → Option (ℕ × ℕ)
list_code General = None
list_code Arithmetic = None
list_code Property = None
list_code Boolean = None
list_code Indexed = Some (e5010, 1)
list_code Sliced = Some (e5010, 2)
list_code Iterated = Some (e5010, 3)
list_code Quantified = Some (e5011, 0)

abbrev pub pair_of : Settings → kinds.Pair
pair_of s = both (setting_of s.first) (setting_of s.later)

-- whether a setting minds no kind of a variable
abbrev pub minds_none : Setting → Bool
minds_none General = true
minds_none Arithmetic = false
minds_none Property = false
minds_none Boolean = true
minds_none Indexed = false
minds_none Sliced = false
minds_none Iterated = false
minds_none Quantified = false

-- whether nothing is written of a variable, whatever its row
abbrev pub quiet : Bool → Mode → Setting → Bool
quiet wants m c = cond (wants && m.resolves) false (cond m.checks (minds_none c) true)
