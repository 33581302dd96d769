-- The entries of a tree's nodes, by the tree's form, behind those that a table has.
use Rattle.std.proofs.Common.{◌≡◌, ℕ, Bool, Option, Some, List, [], ◌∷◌, ◌++◌, map, append-nil, append_assoc, ap, sym, ◌∙◌}
use Rattle.rl_base.specs.declared.ids.NodeId.{NodeId}
use Rattle.rl_syntax.specs.Nodes.{entries_among, entries_under}
use Rattle.rl_syntax.specs.Syntax.{Syntax, Absent, Said, Count, Flag, pieces_of, syntax}
use Rattle.rl_syntax.specs.declared.nodes.NodeEntry.{NodeEntry}
use Rattle.rl_syntax.specs.declared.numbered.At.{At}
use Rattle.rl_syntax.specs.declared.numbered.Numbered.{Numbered}
use Rattle.rl_syntax.specs.declared.numbered.Numbered.TheVariants as numbered
use Rattle.rl_syntax.specs.declared.word.Word.{Word}
use Rattle.rl_syntax.proofs.Layers.{syntax_node, syntax_list, syntax_text, syntax_number, syntax_flag, syntax_absent}

behind : (table : List NodeEntry) (parent : Option NodeId) (tree : Numbered) (form : Syntax) → syntax tree ≡ form → table ++ entries_under parent form ≡ table ++ entries_under parent (syntax tree)
behind table parent tree form is = ap (λ s. table ++ entries_under parent s) (sym is)

pub node_listed : (table : List NodeEntry) (parent : Option NodeId) (at : At) (word : Word) (parts : List Numbered) → (table ++ record { word = word; parent = parent; at = at } ∷ []) ++ entries_among (Some at.id) (pieces_of (map syntax parts)) ≡ table ++ entries_under parent (syntax (numbered.Node at word parts))
node_listed table parent at word parts = simp append_assoc (behind table parent (numbered.Node at word parts) _ (syntax_node at word parts))

pub list_listed : (table : List NodeEntry) (parent : Option NodeId) (parts : List Numbered) → table ++ entries_among parent (pieces_of (map syntax parts)) ≡ table ++ entries_under parent (syntax (numbered.List parts))
list_listed table parent parts = behind table parent (numbered.List parts) _ (syntax_list parts)

pub text_listed : (table : List NodeEntry) (parent : Option NodeId) (text : List ℕ) → table ≡ table ++ entries_under parent (syntax (numbered.Text text))
text_listed table parent text = sym (append-nil table) ∙ behind table parent (numbered.Text text) (Said text) (syntax_text text)

pub number_listed : (table : List NodeEntry) (parent : Option NodeId) (number : ℕ) → table ≡ table ++ entries_under parent (syntax (numbered.Number number))
number_listed table parent number = sym (append-nil table) ∙ behind table parent (numbered.Number number) (Count number) (syntax_number number)

pub flag_listed : (table : List NodeEntry) (parent : Option NodeId) (flag : Bool) → table ≡ table ++ entries_under parent (syntax (numbered.Flag flag))
flag_listed table parent flag = sym (append-nil table) ∙ behind table parent (numbered.Flag flag) (Flag flag) (syntax_flag flag)

pub absent_listed : (table : List NodeEntry) (parent : Option NodeId) → table ≡ table ++ entries_under parent (syntax numbered.Absent)
absent_listed table parent = sym (append-nil table) ∙ behind table parent numbered.Absent Absent syntax_absent

pub ruleset by_form = (node_listed, list_listed, text_listed, number_listed, flag_listed, absent_listed)
