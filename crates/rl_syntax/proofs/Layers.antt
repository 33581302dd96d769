-- The plain tree of each variant.
use Rattle.std.proofs.Common.{◌≡◌, ℕ, Bool, List, map, sym, ap, ◌∙◌}
use Rattle.rl_syntax.specs.Syntax.{Syntax, Node, Listed, Said, Count, Flag, Absent, pieces_of, layer, syntax}
use Rattle.rl_syntax.specs.declared.word.Word.{Word}
use Rattle.rl_syntax.specs.declared.numbered.At.{At}
use Rattle.rl_syntax.specs.declared.numbered.Numbered.{Numbered}
use Rattle.rl_syntax.specs.declared.numbered.Numbered.TheVariants as numbered
use Rattle.rl_syntax.specs.declared.numbered.Numbered.TheOpen as layers
use Rattle.rl_syntax.specs.declared.numbered.Numbered.TheFolds.{fold-Numbered, fold-roll-Numbered}

pub syntax_node : (at : At) (word : Word) (parts : List Numbered) → syntax (numbered.Node at word parts) ≡ Node at word (pieces_of (map syntax parts))
unfolding syntax
syntax_node at word parts = ap (λ q. fold-Numbered Syntax layer q) (sym (numbered.rolls-Node at word parts)) ∙ fold-roll-Numbered Syntax layer (layers.Node at word parts)

pub syntax_list : (parts : List Numbered) → syntax (numbered.List parts) ≡ Listed (pieces_of (map syntax parts))
unfolding syntax
syntax_list parts = ap (λ q. fold-Numbered Syntax layer q) (sym (numbered.rolls-List parts)) ∙ fold-roll-Numbered Syntax layer (layers.List parts)

pub syntax_text : (text : List ℕ) → syntax (numbered.Text text) ≡ Said text
unfolding syntax
syntax_text text = ap (λ q. fold-Numbered Syntax layer q) (sym (numbered.rolls-Text text)) ∙ fold-roll-Numbered Syntax layer (layers.Text text)

pub syntax_number : (number : ℕ) → syntax (numbered.Number number) ≡ Count number
unfolding syntax
syntax_number number = ap (λ q. fold-Numbered Syntax layer q) (sym (numbered.rolls-Number number)) ∙ fold-roll-Numbered Syntax layer (layers.Number number)

pub syntax_flag : (flag : Bool) → syntax (numbered.Flag flag) ≡ Flag flag
unfolding syntax
syntax_flag flag = ap (λ q. fold-Numbered Syntax layer q) (sym (numbered.rolls-Flag flag)) ∙ fold-roll-Numbered Syntax layer (layers.Flag flag)

pub syntax_absent : syntax numbered.Absent ≡ Absent
unfolding syntax
syntax_absent = ap (λ q. fold-Numbered Syntax layer q) (sym numbered.rolls-Absent) ∙ fold-roll-Numbered Syntax layer layers.Absent

pub ruleset by_layer = (syntax_node, syntax_list, syntax_text, syntax_number, syntax_flag, syntax_absent)
