-- Document 02's numbers of the causes of refusal.
use Rattle.std.specs.Prelude.{ℕ}
use Rattle.dispatcher.specs.declared.error.AddError.{AddError}
use Rattle.dispatcher.specs.declared.error.AddError.TheVariants.{NoQueue, Full}

abbrev pub number_of : AddError → ℕ
number_of NoQueue = 13
number_of Full = 14
