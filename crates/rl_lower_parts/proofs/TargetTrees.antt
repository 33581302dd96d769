-- Trees of targets: their nodes, items without a key, and names.
use Rattle.std.proofs.Common.{◌≡◌, ℕ, ◌≤◌, true, false, true≢false, List, [], ◌∷◌, codes, Option, Some, None, refl, sym, arith}
use Rattle.std.proofs.Common.{is_some}
use Rattle.std.proofs.lemmas.Option.{none-some}
use Rattle.rl_base.specs.declared.ids.SymbolId.{SymbolId}
use Rattle.rl_grammar.specs.Fields.{maybe}
use Rattle.rl_grammar.specs.Grammar.{fits}
use Rattle.rl_grammar.specs.declared.kind.Field.TheVariants as field
use Rattle.rl_grammar.specs.declared.kind.Kind.{Kind}
use Rattle.rl_grammar.specs.declared.kind.Kind.TheVariants as kind
use Rattle.rl_lower_parts.specs.Patterns.{named}
use Rattle.rl_model.specs.Shapes.{is_absent, is_hole, is_plain_rest, piece_shape}
use Rattle.rl_names.specs.Names.{Names, local_of}
use Rattle.rl_names.specs.declared.names.Meaning.{Meaning}
use Rattle.rl_names.specs.declared.names.Meaning.TheVariants.{Local, Outer}
use Rattle.rl_promises.proofs.CoveredForms.{none_fits}
use Rattle.rl_promises.proofs.CoveredNames.{never}
use Rattle.rl_promises.specs.Outs.{is_known_key}
use Rattle.rl_promises.specs.Patterns.{fraction_in, is_lost_item, key_name, local_at, target_under}
use Rattle.rl_syntax.specs.Shapes.{is_node}
use Rattle.rl_syntax.specs.declared.numbered.At.{At}
use Rattle.rl_syntax.specs.declared.word.Word.TheVariants as word
use Rattle.rl_syntax.specs.Syntax.{Syntax, Node, Said, Absent, End, Then, nodes}

-- Nodes.

pub node_counts : (t : Syntax) → is_node t ≡ true → 1 ≤ nodes t
node_counts (Node at w ps) h = omega arith
node_counts _ h = never h

pub one_there : (k : Kind) (t : Syntax) → fits (field.One k) t ≡ true → is_absent t ≡ false
one_there k Absent h = never h
one_there k _ h = refl

-- A part that may stand there, or not.

pub part_there : {X : Type 0} (f : X → Syntax) → ((x : X) → is_absent (f x) ≡ false) → (o : Option X) → is_some o ≡ true
    → is_absent (maybe o f) ≡ false
part_there f there None is = never is
part_there f there (Some x) is = there x

pub part_gone : {X : Type 0} (f : X → Syntax) (o : Option X) → is_some o ≡ false → maybe o f ≡ Absent
part_gone f None is = refl
part_gone f (Some x) is = absurd (true≢false is)

-- An item without a key is the part that takes its piece.
pub record IsPlainItem (item : Syntax) : Type 0 where
  pub whole : is_hole item ≡ false
  pub shape : piece_shape item ≡ codes "place" ∷ []
  pub kept : is_lost_item item ≡ false
  pub keyless : fraction_in item ≡ None
  pub under : target_under item ≡ item

pub plain_item : (t : Syntax) → fits (field.One kind.AssignmentTargetMaybeDefault) t ≡ true → IsPlainItem t
plain_item (Node at word.Hole ps) h = absurd (none_fits ps h)
plain_item (Node at word.Keyedpat ps) h = absurd (none_fits ps h)
plain_item (Node at word.Keyed ps) h = absurd (none_fits ps h)
plain_item (Node at word.Short ps) h = absurd (none_fits ps h)
plain_item (Node at _ ps) h = record { whole = refl; shape = refl; kept = refl; keyless = refl; under = refl }
plain_item _ h = never h

pub element_under : (t : Syntax) → fits (field.One kind.AssignmentTargetElement) t ≡ true → target_under t ≡ t
element_under (Node at word.Keyed ps) h = absurd (none_fits ps h)
element_under (Node at word.Short ps) h = absurd (none_fits ps h)
element_under _ h = refl

-- Keys.

pub known_by_name : (key : Syntax) (text : List ℕ) → key_name key ≡ Some text → is_known_key false key ≡ true
known_by_name (Node at word.Name ps) text is = refl
known_by_name (Node at word.Str ps) text is = refl
known_by_name (Node at word.Num ps) text is = refl
known_by_name _ text is = absurd (none-some text is)

-- Names.

pub named_is : (t tree : Syntax) → named t ≡ Some tree → t ≡ tree
named_is (Node at word.Id ps) tree is = cc
named_is _ tree is = absurd (none-some tree is)

-- A local variable, by its name.
pub record IsLocalAt (names : Names) (tree : Syntax) (symbol : SymbolId) : Type 0 where
  pub at : At
  pub name : List ℕ
  pub is : tree ≡ Node at word.Id (Then (Said name) End)
  pub means : names.meaning at.reference.0 name ≡ Local symbol

pub meaning_local : (m : Meaning) (symbol : SymbolId) → local_of m ≡ Some symbol → m ≡ Local symbol
meaning_local (Local s) symbol is = cc
meaning_local (Outer b) symbol is = absurd (none-some symbol is)

pub local_is : (names : Names) (tree : Syntax) (symbol : SymbolId) → local_at names tree ≡ Some symbol → IsLocalAt names tree symbol
local_is names (Node at word.Id (Then (Said name) End)) symbol is = record {
  at = at;
  name = name;
  is = refl;
  means = meaning_local (names.meaning at.reference.0 name) symbol is;
}
local_is names _ symbol is = absurd (none-some symbol is)

pub local_named : (names : Names) (tree : Syntax) (symbol : SymbolId) → local_at names tree ≡ Some symbol → named tree ≡ Some tree
local_named names (Node at word.Id ps) symbol is = refl
local_named names _ symbol is = absurd (none-some symbol is)

pub unnamed_local : (names : Names) (tree : Syntax) → named tree ≡ None → local_at names tree ≡ None
unnamed_local names (Node at word.Id ps) is = absurd (none-some (Node at word.Id ps) (sym is))
unnamed_local names _ is = refl

-- The rest of an object.

pub plain_rest : (at : At) (target : Syntax) (name : Syntax) → named target ≡ Some name
    → is_plain_rest (Node at word.Rest (Then target End)) ≡ true
plain_rest at (Node there word.Id ps) name is = refl
plain_rest at _ name is = absurd (none-some name is)

pub other_rest : (at : At) (target : Syntax) → fits (field.One kind.AssignmentTarget) target ≡ true → named target ≡ None
    → is_plain_rest (Node at word.Rest (Then target End)) ≡ false
other_rest at (Node there word.Id ps) h is = absurd (none-some (Node there word.Id ps) (sym is))
other_rest at (Node there word.Bind ps) h is = absurd (none_fits ps h)
other_rest at _ h is = refl
