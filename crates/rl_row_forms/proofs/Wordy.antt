-- Nodes by their words, and trees by their forms.
use Rattle.std.proofs.Common.{◌≡◌, Bool, List, map, ap, sym, refl, ◌∙◌}
use Rattle.rl_model.specs.Applied.{deletes, is_loop, is_plain_name, is_this, is_var}
use Rattle.rl_row_forms.specs.Wordy.{declares_variables, loops, names_plainly, node_deletes, says_this}
use Rattle.rl_syntax.specs.Syntax.{Node, Pieces, End, Then, pieces_of, syntax}
use Rattle.rl_syntax.specs.declared.numbered.At.{At}
use Rattle.rl_syntax.specs.declared.numbered.Numbered.{Numbered}
use Rattle.rl_syntax.specs.declared.numbered.Numbered.TheVariants as numbered
use Rattle.rl_syntax.specs.declared.word.Word.{Word}
use Rattle.rl_syntax.specs.declared.word.Word.TheVariants as word
use Rattle.rl_syntax.proofs.Layers.{syntax_node}

plain_node : (at : At) (w : Word) (parts : Pieces) → names_plainly w ≡ is_plain_name (Node at w parts)
plain_node at word.Bind parts = refl
plain_node at word.Id parts = refl
plain_node at _ parts = refl

pub plain_form : (at : At) (w : Word) (parts : List Numbered) (r : Bool) → r ≡ names_plainly w
    → r ≡ is_plain_name (syntax (numbered.Node at w parts))
plain_form at w parts r e = e ∙ plain_node at w (pieces_of (map syntax parts)) ∙ ap is_plain_name (sym (syntax_node at w parts))

pub ruleset plain = (plain_form)

var_node : (at : At) (w : Word) (parts : Pieces) → declares_variables w ≡ is_var (Node at w parts)
var_node at word.Var parts = refl
var_node at _ parts = refl

pub var_form : (at : At) (w : Word) (parts : List Numbered) (r : Bool) → r ≡ declares_variables w
    → r ≡ is_var (syntax (numbered.Node at w parts))
var_form at w parts r e = e ∙ var_node at w (pieces_of (map syntax parts)) ∙ ap is_var (sym (syntax_node at w parts))

pub ruleset var = (var_form)

this_node : (at : At) (w : Word) (parts : Pieces) → says_this w ≡ is_this (Node at w parts)
this_node at word.This parts = refl
this_node at _ parts = refl

pub this_form : (at : At) (w : Word) (parts : List Numbered) (r : Bool) → r ≡ says_this w → r ≡ is_this (syntax (numbered.Node at w parts))
this_form at w parts r e = e ∙ this_node at w (pieces_of (map syntax parts)) ∙ ap is_this (sym (syntax_node at w parts))

pub ruleset this_forms = (this_form)

loop_node : (at : At) (w : Word) (parts : Pieces) → loops w ≡ is_loop (Node at w parts)
loop_node at word.For parts = refl
loop_node at word.While parts = refl
loop_node at word.Dowhile parts = refl
loop_node at word.Forin parts = refl
loop_node at word.Forof parts = refl
loop_node at _ parts = refl

pub loop_form : (at : At) (w : Word) (parts : List Numbered) (r : Bool) → r ≡ loops w → r ≡ is_loop (syntax (numbered.Node at w parts))
loop_form at w parts r e = e ∙ loop_node at w (pieces_of (map syntax parts)) ∙ ap is_loop (sym (syntax_node at w parts))

pub ruleset loop_forms = (loop_form)

deletes_node : (at : At) (w : Word) (parts : Pieces) → node_deletes w parts ≡ deletes (Node at w parts)
deletes_node at word.Paren (Then expression End) = refl
deletes_node at word.Paren End = refl
deletes_node at word.Paren (Then first (Then second parts)) = refl
deletes_node at word.Member parts = refl
deletes_node at word.Index parts = refl
deletes_node at word.Privatemember parts = refl
deletes_node at _ parts = refl

pub deletes_form : (at : At) (w : Word) (parts : List Numbered) (r : Bool) → r ≡ node_deletes w (pieces_of (map syntax parts))
    → r ≡ deletes (syntax (numbered.Node at w parts))
deletes_form at w parts r e = e ∙ deletes_node at w (pieces_of (map syntax parts)) ∙ ap deletes (sym (syntax_node at w parts))

pub ruleset deleted = (deletes_form)
