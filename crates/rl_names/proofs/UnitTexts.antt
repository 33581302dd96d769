-- The texts of what is no local: a name is bound to UTF-8 texts if it is UTF-8, since those of imports are texts of the unit.
use Rattle.std.proofs.Common.{ℕ, Bool, true, false, if◌then◌else◌, nat_eq, nat_lt, unwrap_or, slice_get, codes, Option, Some, None, IfSome, List, [], ◌∷◌, All, length, refl, subst}
use Rattle.std.specs.List.{AllByRecursion}
use Rattle.std.specs.Str.{IsUtf8}
use Rattle.std.proofs.lemmas.List.Elements.{All-nil, All-cons}
use Rattle.rl_ast.specs.Marked.{first}
use Rattle.rl_base.specs.declared.ids.NodeId.{NodeId}
use Rattle.rl_base.specs.declared.ids.SymbolId.{SymbolId}
use Rattle.rl_bindings.specs.declared.event.Bound.{Bound}
use Rattle.rl_bindings.specs.declared.event.ScopeEntry.{ScopeEntry}
use Rattle.rl_bindings.specs.Tables as tables
use Rattle.rl_hir.specs.Instructions.{binding_texts}
use Rattle.rl_hir.specs.declared.instruction.NonLocalBinding.{NonLocalBinding}
use Rattle.rl_hir.specs.declared.instruction.NonLocalBinding.TheVariants as binding
use Rattle.rl_resolver.specs.Imported.{import_data}
use Rattle.rl_resolver.specs.Lookups.{symbol_of_reference, symbol_scope}
use Rattle.rl_rules.specs.Pieces.{first_items}
use Rattle.rl_semantic.specs.Buckets.{those, those_below}
use Rattle.rl_semantic.specs.Imports.{first_text, first_node, kind_of, imported_of, local_of, binding_of, specifier, specifiers, import_of, imports_in, imports_among}
use Rattle.rl_semantic.specs.Items.{of_item}
use Rattle.rl_semantic.specs.declared.imports.ImportBindingData.{ImportBindingData}
use Rattle.rl_semantic.specs.declared.imports.ImportBindingKind.{ImportBindingKind}
use Rattle.rl_semantic.specs.declared.imports.ImportBindingKind.TheVariants as import
use Rattle.rl_syntax.specs.Nodes.{entries}
use Rattle.rl_syntax.specs.Syntax.{Syntax, Node, Listed, Said, Count, Flag, Absent, Pieces, End, Then, plain, plain_parts}
use Rattle.rl_syntax.specs.declared.nodes.NodeEntry.{NodeEntry}
use Rattle.rl_syntax.specs.declared.numbered.At.{At}
use Rattle.rl_syntax.specs.declared.word.Word.{Word}
use Rattle.rl_syntax.specs.declared.word.Word.TheVariants as word
use Rattle.rl_text.specs.Notation.{IsWritable, AreWritable}
use Rattle.rl_names.specs.Locals.{HasTexts}
use Rattle.rl_names.specs.Names.{at_of, binding_of_kind, function_names, import_binding, is_local, is_program_scope, is_variable, meaning_of, module_binding, symbol_binding}
use Rattle.rl_names.specs.declared.names.Meaning.{Meaning}
use Rattle.rl_names.specs.declared.names.Meaning.TheVariants.{Local, Outer}
use Rattle.rl_names.proofs.Items.{each-append}

-- The texts of an import are UTF-8.
record HasImportTexts (d : ImportBindingData) : Type 0 where
  source : IsUtf8 d.source
  imported : IsUtf8 (unwrap_or d.imported [])

abbrev HasPairTexts : ℕ × ImportBindingData → Type 0
HasPairTexts pair = HasImportTexts pair.1

abbrev HaveTexts : List (ℕ × ImportBindingData) → Type 0
HaveTexts imports = AllByRecursion HasPairTexts imports

empty_utf8 : IsUtf8 []
empty_utf8 = ([], (refl, refl))

-- The imports of a unit.

first_utf8 : (ps : Pieces) → AreWritable (plain_parts ps) → IsUtf8 (unwrap_or (first_text ps) [])
first_utf8 End w = empty_utf8
first_utf8 (Then (Said text) ps) w = w.0
first_utf8 (Then _ ps) w = empty_utf8

imported_utf8 : (k : ImportBindingKind) (ps : Pieces) → AreWritable (plain_parts ps)
    → IsUtf8 (unwrap_or (imported_of k ps) [])
imported_utf8 import.Named ps w = first_utf8 ps w
imported_utf8 import.Default ps w = empty_utf8
imported_utf8 import.Namespace ps w = empty_utf8

binding_texts_utf8 : (source : List ℕ) (ps : Pieces) (k : ImportBindingKind) → IsUtf8 source → AreWritable (plain_parts ps)
    → HaveTexts (binding_of source ps k)
binding_texts_utf8 source ps k utf8 w = by_node (first_node (local_of k ps))
  where
    by_node : (o : Option NodeId)
        → HaveTexts (of_item [] (λ node. (node.0, record { source = source; kind = k; imported = imported_of k ps }) ∷ []) o)
    by_node None = tt
    by_node (Some node) = (record { source = utf8; imported = imported_utf8 k ps w }, tt)

specifier_utf8 : (source : List ℕ) (t : Syntax) → IsUtf8 source → IsWritable (plain t) → HaveTexts (specifier source t)
specifier_utf8 source (Node at w ps) utf8 writable = by_kind (kind_of w)
  where
    by_kind : (o : Option ImportBindingKind) → HaveTexts (of_item [] (binding_of source ps) o)
    by_kind None = tt
    by_kind (Some k) = binding_texts_utf8 source ps k utf8 writable.1
specifier_utf8 source _ utf8 writable = tt

specifiers_utf8 : (source : List ℕ) (ps : Pieces) → IsUtf8 source → AreWritable (plain_parts ps)
    → HaveTexts (specifiers source ps)
specifiers_utf8 source End utf8 writable = tt
specifiers_utf8 source (Then p ps) utf8 writable =
    each-append HasPairTexts (specifier source p) (specifiers source ps) (specifier_utf8 source p utf8 writable.0)
    (specifiers_utf8 source ps utf8 writable.1)

items_writable : (ps : Pieces) → AreWritable (plain_parts ps) → AreWritable (plain_parts (first_items ps))
items_writable End w = tt
items_writable (Then (Listed items) ps) w = w.0
items_writable (Then _ ps) w = tt

statement_utf8 : (ps : Pieces) → AreWritable (plain_parts ps) → HaveTexts (import_of word.Import ps)
statement_utf8 End w = tt
statement_utf8 (Then (Said source) ps) w = specifiers_utf8 source (first_items ps) w.0 (items_writable ps w.1)
statement_utf8 (Then _ ps) w = tt

import_utf8 : (w : Word) (ps : Pieces) → AreWritable (plain_parts ps) → HaveTexts (import_of w ps)
import_utf8 word.Import ps writable = statement_utf8 ps writable
import_utf8 _ ps writable = tt

mutual
  -- The imports in a tree of the notation have UTF-8 texts.
  imports_utf8 : (t : Syntax) → IsWritable (plain t) → HaveTexts (imports_in t)
  imports_utf8 (Node at w ps) writable =
      each-append HasPairTexts (import_of w ps) (imports_among ps) (import_utf8 w ps writable.1)
      (imports_utf8_among ps writable.1)
  imports_utf8 (Listed ps) writable = imports_utf8_among ps writable
  imports_utf8 (Said text) writable = tt
  imports_utf8 (Count number) writable = tt
  imports_utf8 (Flag flag) writable = tt
  imports_utf8 Absent writable = tt

  imports_utf8_among : (ps : Pieces) → AreWritable (plain_parts ps) → HaveTexts (imports_among ps)
  imports_utf8_among End writable = tt
  imports_utf8_among (Then p ps) writable =
      each-append HasPairTexts (imports_in p) (imports_among ps) (imports_utf8 p writable.0) (imports_utf8_among ps writable.1)

-- The import of a symbol.

those_utf8 : (key : ℕ) (pairs : List (ℕ × ImportBindingData)) → HaveTexts pairs
    → AllByRecursion HasImportTexts (those key pairs)
those_utf8 key [] all = tt
those_utf8 key (pair ∷ pairs) all = by_key (nat_eq pair.0 key) (those_utf8 key pairs all.1)
  where
    by_key : (b : Bool) → AllByRecursion HasImportTexts (those key pairs)
        → AllByRecursion HasImportTexts (if b then pair.1 ∷ those key pairs else those key pairs)
    by_key true rest = (all.0, rest)
    by_key false rest = rest

below_utf8 : (b : Bool) (ds : List ImportBindingData) → AllByRecursion HasImportTexts ds
    → IfSome (first (if b then ds else [])) HasImportTexts
below_utf8 true [] all = tt
below_utf8 true (d ∷ ds) all = all.0
below_utf8 false ds all = tt

data_utf8 : (nodes : List NodeEntry) (imports : List (ℕ × ImportBindingData)) (symbols : List Bound) (symbol : ℕ)
    → HaveTexts imports
    → IfSome (import_data nodes imports symbols symbol) HasImportTexts
data_utf8 nodes imports symbols symbol all = by_bound (slice_get symbols symbol)
  where
    by_bound : (o : Option Bound)
        → IfSome (of_item None (λ (b : Bound). first (those_below (length nodes) b.node.0 imports)) o) HasImportTexts
    by_bound None = tt
    by_bound (Some b) = below_utf8 (nat_lt b.node.0 (length nodes)) (those b.node.0 imports) (those_utf8 b.node.0 imports all)

-- The bindings of a name that is UTF-8.

abbrev AreTexts : NonLocalBinding → Type 0
AreTexts b = All IsUtf8 (binding_texts b)

texts : {X : Type 0} (P : X → Type 0) (xs : List X) → AllByRecursion P xs → All P xs
texts P [] all = All-nil P
texts P (x ∷ xs) all = All-cons P x xs all.0 (texts P xs all.1)

module _ (name : List ℕ) (utf8 : IsUtf8 name) where
  global_texts : AreTexts (binding.Global name)
  global_texts = texts IsUtf8 (binding_texts (binding.Global name)) (utf8, tt)

  local_texts : AreTexts (binding.ModuleLocal name)
  unfolding lib.Utf8.encode
  local_texts = texts IsUtf8 (binding_texts (binding.ModuleLocal name)) (utf8, ((codes "module", (refl, refl)), tt))

  kind_texts : (k : ImportBindingKind) (source imported : List ℕ) → IsUtf8 source → IsUtf8 imported
      → AreTexts (binding_of_kind k name source imported)
  unfolding lib.Utf8.encode
  kind_texts import.Default source imported s i =
      texts IsUtf8 (binding_texts (binding.ImportDefault name source)) (utf8, ((codes "default", (refl, refl)), (s, tt)))
  kind_texts import.Namespace source imported s i =
      texts IsUtf8 (binding_texts (binding.ImportNamespace name source)) (utf8, ((codes "namespace", (refl, refl)), (s, tt)))
  kind_texts import.Named source imported s i =
      texts IsUtf8 (binding_texts (binding.ImportSpecifier name (record { «module» = source; imported = imported })))
      (utf8, ((codes "named", (refl, refl)), (s, (i, tt))))

  imported_texts : (o : Option ImportBindingData) → IfSome o HasImportTexts
      → AreTexts (of_item (binding.ModuleLocal name) (import_binding name) o)
  imported_texts None all = local_texts
  imported_texts (Some d) all = kind_texts d.kind d.source (unwrap_or d.imported []) all.source all.imported

  module_texts : (b : Bool) (o : Option ImportBindingData) → IfSome o HasImportTexts
      → AreTexts (if b then of_item (binding.ModuleLocal name) (import_binding name) o else binding.ModuleLocal name)
  module_texts true o all = imported_texts o all
  module_texts false o all = local_texts

  variable_texts : (b : Bool) (other : NonLocalBinding) → AreTexts other → AreTexts (if b then other else binding.Global name)
  variable_texts true other all = all
  variable_texts false other all = global_texts

  symbol_texts : (import_data : ℕ → Option ImportBindingData) → ((symbol : ℕ) → IfSome (import_data symbol) HasImportTexts)
      → (symbols : List Bound) (symbol : ℕ)
      → AreTexts (symbol_binding import_data symbols symbol name)
  symbol_texts import_data all symbols symbol = by_bound (slice_get symbols symbol)
    where
      of_module : NonLocalBinding
      of_module = module_binding (import_data symbol) (symbol_scope symbols symbol) name

      by_bound : (o : Option Bound)
          → AreTexts (of_item (binding.Global name) (λ (b : Bound). if is_variable b.kind then of_module else binding.Global name) o)
      by_bound None = global_texts
      by_bound (Some b) =
          variable_texts (is_variable b.kind) of_module
          (module_texts (is_program_scope (symbol_scope symbols symbol)) (import_data symbol) (all symbol))

  -- The texts of a name's meaning are UTF-8, if that is no local.
  abbrev MeansTexts : Meaning → Type 0
  MeansTexts (Local symbol) = Unit {0}
  MeansTexts (Outer b) = AreTexts b

  meaning_texts : (import_data : ℕ → Option ImportBindingData)
      → ((symbol : ℕ) → IfSome (import_data symbol) HasImportTexts)
      → (at : At) (scopes : List ScopeEntry) (symbols : List Bound) (o : Option SymbolId)
      → MeansTexts (meaning_of import_data at scopes symbols o name)
  meaning_texts import_data all at scopes symbols None = global_texts
  meaning_texts import_data all at scopes symbols (Some symbol) = by_local (is_local at scopes symbols symbol.0)
    where
      by_local : (b : Bool)
          → MeansTexts (if b then Local symbol else Outer (symbol_binding import_data symbols symbol.0 name))
      by_local true = tt
      by_local false = symbol_texts import_data all symbols symbol.0

-- The binding of a name that is no local has UTF-8 texts if the name is UTF-8, in the lowering of any function of a unit of the
-- notation.
pub unit_texts : (u f : Syntax) → IsWritable (plain u) → HasTexts (function_names u f)
unit_texts u f writable = record {
  outer = λ reference name b is utf8.
      subst (MeansTexts name utf8) is
      (meaning_texts name utf8 (λ symbol. import_data (entries u) (imports_in u) (tables.symbols_in u) symbol)
      (λ symbol. data_utf8 (entries u) (imports_in u) (tables.symbols_in u) symbol (imports_utf8 u writable))
      (at_of f) (tables.scopes_in u) (tables.symbols_in u) (symbol_of_reference (tables.references_in u) reference));
}
