-- The rows in what is no code, as tests: true where none applies.
use Rattle.std.specs.Prelude.{ℕ, Bool, true, ◌&&◌, ◌||◌, not, if◌then◌else◌}
use Rattle.rl_code.specs.Parts.{said_only}
use Rattle.rl_model.specs.Applied.{Facts, has_this_among, is_class, is_fundecl}
use Rattle.rl_row_forms.specs.Shaped.{first_said}
use Rattle.rl_row_names.specs.Named.{clear_local, clear_used}
use Rattle.rl_semantic.specs.Items.{of_item}
use Rattle.rl_syntax.specs.Syntax.{Syntax, Node, Listed, Pieces, End, Then}
use Rattle.rl_syntax.specs.declared.numbered.At.{At}
use Rattle.rl_syntax.specs.declared.word.Word.{Word}
use Rattle.rl_syntax.specs.declared.word.Word.TheVariants as word

abbrev pub clear_declared_name : Pieces → Bool
clear_declared_name parts = of_item true clear_local (first_said parts)

abbrev pub clear_used_name : Facts → (reference : ℕ) → Pieces → Bool
clear_used_name f reference parts = of_item true (λ name. clear_used name (f.names.meaning reference name)) (said_only parts)

-- A node in a function declaration without a body, by itself.
abbrev pub clear_declared : Facts → At → Word → Pieces → Bool
clear_declared f at word.Bind parts = clear_declared_name parts
clear_declared f at word.Id parts = clear_used_name f at.reference.0 parts
clear_declared f at word.Params parts = not (has_this_among parts)
clear_declared f at _ parts = true

abbrev mutual
  -- A part of a function declaration without a body.
  pub clear_bodiless : Facts → Syntax → Bool
  clear_bodiless f (Node at w parts) = is_class w || (clear_declared f at w parts && clear_bodiless_among f parts)
  clear_bodiless f (Listed parts) = clear_bodiless_among f parts
  clear_bodiless f _ = true

  pub clear_bodiless_among : Facts → Pieces → Bool
  clear_bodiless_among f End = true
  clear_bodiless_among f (Then piece pieces) = clear_bodiless f piece && clear_bodiless_among f pieces

-- The parts of a node that is no code.
abbrev pub clear_no_code : Facts → Word → Pieces → Bool
clear_no_code f w parts = if is_fundecl w then clear_bodiless_among f parts else true
