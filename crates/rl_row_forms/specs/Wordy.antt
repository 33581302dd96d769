-- Nodes by their words.
use Rattle.std.specs.Prelude.{Bool, true, false}
use Rattle.rl_code.specs.Parts.{only}
use Rattle.rl_model.specs.Applied.{deletes}
use Rattle.rl_semantic.specs.Items.{of_item}
use Rattle.rl_syntax.specs.Syntax.{Pieces}
use Rattle.rl_syntax.specs.declared.word.Word.{Word}
use Rattle.rl_syntax.specs.declared.word.Word.TheVariants as word

abbrev pub names_plainly : Word → Bool
names_plainly word.Bind = true
names_plainly word.Id = true
names_plainly _ = false

abbrev pub declares_variables : Word → Bool
declares_variables word.Var = true
declares_variables _ = false

abbrev pub says_this : Word → Bool
says_this word.This = true
says_this _ = false

abbrev pub loops : Word → Bool
loops word.For = true
loops word.While = true
loops word.Dowhile = true
loops word.Forin = true
loops word.Forof = true
loops _ = false

abbrev pub is_labeled : Word → Bool
is_labeled word.Labeled = true
is_labeled _ = false

-- As `deletes`, of a node by its word.
abbrev pub node_deletes : Word → Pieces → Bool
node_deletes word.Paren parts = of_item false deletes (only parts)
node_deletes word.Member parts = true
node_deletes word.Index parts = true
node_deletes word.Privatemember parts = true
node_deletes _ parts = false
