-- The bindings that a tree's imports make, by the tree's form, behind those that were found before.
use Rattle.std.proofs.Common.{◌≡◌, ℕ, Bool, false, ◌||◌, true≢false, Option, Some, None, List, [], ◌∷◌, ◌++◌, map, append-nil, append_assoc, ap, refl, sym, ◌∙◌}
use Rattle.std.proofs.lemmas.Bool.{or_parts}
use Rattle.rl_base.proofs.Bools.{or_assoc}
use Rattle.rl_base.specs.declared.ids.NodeId.{NodeId}
use Rattle.rl_semantic.specs.Imports.{binding_of, kind_of, specifier, import_of, imports_in, imports_among}
use Rattle.rl_semantic.specs.ImportNodes.{is_import, has_import}
use Rattle.rl_semantic.specs.Items.{of_item}
use Rattle.rl_semantic.specs.declared.imports.ImportBindingData.{ImportBindingData}
use Rattle.rl_syntax.specs.Nodes.{entries_under, entries_among, entries}
use Rattle.rl_syntax.specs.Syntax.{Syntax, Node, Listed, Said, Count, Flag, Absent, Pieces, End, Then, pieces_of, syntax}
use Rattle.rl_syntax.specs.declared.nodes.NodeEntry.{NodeEntry}
use Rattle.rl_syntax.specs.declared.numbered.At.{At}
use Rattle.rl_syntax.specs.declared.numbered.Numbered.{Numbered}
use Rattle.rl_syntax.specs.declared.numbered.Numbered.TheVariants as numbered
use Rattle.rl_syntax.specs.declared.word.Word.{Word}
use Rattle.rl_syntax.specs.declared.word.Word.TheVariants as word
use Rattle.rl_syntax.proofs.Layers.{syntax_node, syntax_list, syntax_text, syntax_number, syntax_flag, syntax_absent}

module _ (source : List ℕ) (found : List (ℕ × ImportBindingData)) where
  specified : (tree : Numbered) (form : Syntax) → syntax tree ≡ form → found ++ specifier source form ≡ found ++ specifier source (syntax tree)
  specified tree form is = ap (λ s. found ++ specifier source s) (sym is)

  pub other_specified : (at : At) (word : Word) (parts : List Numbered) → None ≡ kind_of word → found ≡ found ++ specifier source (syntax (numbered.Node at word parts))
  other_specified at word parts none =
      sym (append-nil found)
      ∙ ap (λ k. found ++ of_item [] (binding_of source (pieces_of (map syntax parts))) k) none
      ∙ specified (numbered.Node at word parts) _ (syntax_node at word parts)

  pub list_specified : (parts : List Numbered) → found ≡ found ++ specifier source (syntax (numbered.List parts))
  list_specified parts = sym (append-nil found) ∙ specified (numbered.List parts) _ (syntax_list parts)

  pub text_specified : (text : List ℕ) → found ≡ found ++ specifier source (syntax (numbered.Text text))
  text_specified text = sym (append-nil found) ∙ specified (numbered.Text text) (Said text) (syntax_text text)

  pub number_specified : (number : ℕ) → found ≡ found ++ specifier source (syntax (numbered.Number number))
  number_specified number = sym (append-nil found) ∙ specified (numbered.Number number) (Count number) (syntax_number number)

  pub flag_specified : (flag : Bool) → found ≡ found ++ specifier source (syntax (numbered.Flag flag))
  flag_specified flag = sym (append-nil found) ∙ specified (numbered.Flag flag) (Flag flag) (syntax_flag flag)

  pub absent_specified : found ≡ found ++ specifier source (syntax numbered.Absent)
  absent_specified = sym (append-nil found) ∙ specified numbered.Absent Absent syntax_absent

pub ruleset as_specifier = (other_specified, list_specified, text_specified, number_specified, flag_specified, absent_specified)

module _ (found : List (ℕ × ImportBindingData)) where
  imported : (tree : Numbered) (form : Syntax) → syntax tree ≡ form → found ++ imports_in form ≡ found ++ imports_in (syntax tree)
  imported tree form is = ap (λ s. found ++ imports_in s) (sym is)

  pub node_imported : (at : At) (word : Word) (parts : List Numbered) (next last : List (ℕ × ImportBindingData))
      → next ≡ found ++ import_of word (pieces_of (map syntax parts)) → last ≡ next ++ imports_among (pieces_of (map syntax parts)) → last ≡ found ++ imports_in (syntax (numbered.Node at word parts))
  node_imported at word parts next last first then_last =
      then_last
      ∙ ap (λ f. f ++ imports_among (pieces_of (map syntax parts))) first
      ∙ append_assoc found (import_of word (pieces_of (map syntax parts))) (imports_among (pieces_of (map syntax parts)))
      ∙ imported (numbered.Node at word parts) _ (syntax_node at word parts)

  pub text_imported : (text : List ℕ) → found ≡ found ++ imports_in (syntax (numbered.Text text))
  text_imported text = sym (append-nil found) ∙ imported (numbered.Text text) (Said text) (syntax_text text)

  pub number_imported : (number : ℕ) → found ≡ found ++ imports_in (syntax (numbered.Number number))
  number_imported number = sym (append-nil found) ∙ imported (numbered.Number number) (Count number) (syntax_number number)

  pub flag_imported : (flag : Bool) → found ≡ found ++ imports_in (syntax (numbered.Flag flag))
  flag_imported flag = sym (append-nil found) ∙ imported (numbered.Flag flag) (Flag flag) (syntax_flag flag)

  pub absent_imported : found ≡ found ++ imports_in (syntax numbered.Absent)
  absent_imported = sym (append-nil found) ∙ imported numbered.Absent Absent syntax_absent

pub ruleset as_tree = (node_imported, text_imported, number_imported, flag_imported, absent_imported)

-- A node makes no bindings if it is no import.
none_made : (w : Word) (parts : Pieces) → is_import w ≡ false → import_of w parts ≡ []
none_made word.Import parts none = absurd (true≢false none)
none_made _ parts none = refl

import-append : (es fs : List NodeEntry) → has_import (es ++ fs) ≡ has_import es || has_import fs
import-append [] fs = refl
import-append (e ∷ es) fs = ap (λ b. is_import e.word || b) (import-append es fs) ∙ sym (or_assoc (is_import e.word) (has_import es) (has_import fs))

mutual
  none_in : (tree : Syntax) (parent : Option NodeId) → has_import (entries_under parent tree) ≡ false → imports_in tree ≡ []
  none_in (Node at w parts) parent none =
      let both = or_parts (is_import w) (has_import (entries_among (Some at.id) parts)) none in
      λ i. none_made w parts both.0 i ++ none_among parts (Some at.id) both.1 i
  none_in (Listed parts) parent none = none_among parts parent none
  none_in (Said text) parent none = refl
  none_in (Count number) parent none = refl
  none_in (Flag flag) parent none = refl
  none_in Absent parent none = refl

  none_among : (parts : Pieces) (parent : Option NodeId) → has_import (entries_among parent parts) ≡ false → imports_among parts ≡ []
  none_among End parent none = refl
  none_among (Then piece pieces) parent none =
      let both = or_parts (has_import (entries_under parent piece)) (has_import (entries_among parent pieces)) (sym (import-append (entries_under parent piece) (entries_among parent pieces)) ∙ none) in
      λ i. none_in piece parent both.0 i ++ none_among pieces parent both.1 i

-- A tree makes no bindings if no import is among its nodes.
pub none_imported : (tree : Syntax) (nodes : List NodeEntry) → nodes ≡ entries tree → has_import nodes ≡ false → [] ≡ imports_in tree
none_imported tree nodes are none = sym (none_in tree None (sym (ap has_import are) ∙ none))
