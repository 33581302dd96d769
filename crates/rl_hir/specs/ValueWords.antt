-- The words of values.
use Rattle.std.specs.Prelude.{ℕ, List}
use Rattle.rl_hir.specs.Values.{Form, Silent, Asks, Assigns, form_of}
use Rattle.rl_hir.specs.declared.instruction.InstructionValue.{InstructionValue}

-- The word of a form.
abbrev pub form_word : Form → List ℕ
form_word (Silent word fields) = word
form_word (Asks word pieces) = word
form_word (Assigns word head texts value targets) = word

-- The word of a value's listing.
abbrev pub value_word : InstructionValue → List ℕ
value_word v = form_word (form_of v)
