-- A name `this` in parameters, by the form of a tree.
use Rattle.std.proofs.Common.{◌≡◌, Bool, List, map, ap, sym, refl, ◌∙◌}
use Rattle.rl_model.specs.Applied.{has_this}
use Rattle.rl_row_names.specs.Parameters.{has_this_as, parameter_role}
use Rattle.rl_syntax.specs.Syntax.{Node, Said, Pieces, End, Then, pieces_of, syntax}
use Rattle.rl_syntax.specs.declared.numbered.At.{At}
use Rattle.rl_syntax.specs.declared.numbered.Numbered.{Numbered}
use Rattle.rl_syntax.specs.declared.numbered.Numbered.TheVariants as numbered
use Rattle.rl_syntax.specs.declared.word.Word.{Word}
use Rattle.rl_syntax.specs.declared.word.Word.TheVariants as word
use Rattle.rl_syntax.proofs.Layers.{syntax_node}

node_this : (at : At) (w : Word) (parts : Pieces) → has_this_as (parameter_role w) parts ≡ has_this (Node at w parts)
node_this at word.Bind (Then (Said name) parts) = refl
node_this at word.Bind _ = refl
node_this at word.Param (Then pattern parts) = refl
node_this at word.Param End = refl
node_this at word.Arraypat parts = refl
node_this at word.Objectpat parts = refl
node_this at word.Keyedpat (Then computed (Then key (Then pattern End))) = refl
node_this at word.Keyedpat _ = refl
node_this at word.Defaultpat (Then pattern parts) = refl
node_this at word.Defaultpat End = refl
node_this at word.Rest (Then pattern End) = refl
node_this at word.Rest _ = refl
node_this at _ parts = refl

pub form_this : (at : At) (w : Word) (parts : List Numbered) (r : Bool) → r ≡ has_this_as (parameter_role w) (pieces_of (map syntax parts))
    → r ≡ has_this (syntax (numbered.Node at w parts))
form_this at w parts r e = e ∙ node_this at w (pieces_of (map syntax parts)) ∙ ap has_this (sym (syntax_node at w parts))

pub ruleset by_form = (form_this)
