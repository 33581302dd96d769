-- The symbols that a statement declares by itself, by its word.
use Rattle.std.specs.Prelude.{ℕ, List, []}
use Rattle.rl_markers.specs.Parts.{first, fourth, second_list}
use Rattle.rl_model.specs.Code.{bound_by}
use Rattle.rl_model.specs.Hoisting.{declared_among}
use Rattle.rl_names.specs.Names.{Names}
use Rattle.rl_semantic.specs.Items.{of_item}
use Rattle.rl_syntax.specs.Syntax.{Pieces}
use Rattle.rl_syntax.specs.declared.word.Word.{Word}
use Rattle.rl_syntax.specs.declared.word.Word.TheVariants as word

abbrev pub declared_as : Names → Word → Pieces → List ℕ
declared_as names word.Var parts = of_item [] (declared_among names) (second_list parts)
declared_as names word.Classdecl parts = of_item [] (bound_by names) (first parts)
declared_as names word.Fundecl parts = of_item [] (bound_by names) (fourth parts)
declared_as names _ parts = []
