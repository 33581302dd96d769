-- The data of the entry at a node is the data that the imports have there.
use Rattle.std.proofs.Common.{◌≡◌, ℕ, Bool, true, false, if◌then◌else◌, nat_eq, nat_lt, Option, Some, None, slice_get, List, [], ◌∷◌, length, map, option_map, refl, ap, ◌∙◌}
use Rattle.rl_ast.specs.Marked.{first}
use Rattle.rl_bindings.specs.declared.event.Bound.{Bound}
use Rattle.rl_semantic.specs.Buckets.{those, those_below}
use Rattle.rl_resolver.specs.Imported.{import_data, import_entry, import_pair}
use Rattle.rl_semantic.specs.Items.{of_item}
use Rattle.rl_semantic.specs.Imports.{data_of, seen}
use Rattle.rl_semantic.specs.declared.imports.ImportEntry.{ImportEntry}
use Rattle.rl_syntax.specs.declared.nodes.NodeEntry.{NodeEntry}

first_seen : (es : List ImportEntry) → option_map data_of (first es) ≡ first (map data_of es)
first_seen [] = refl
first_seen (e ∷ es) = refl

those_seen : (key : ℕ) (es : List ImportEntry) → map data_of (those key (map import_pair es)) ≡ those key (map seen es)
those_seen key [] = refl
those_seen key (e ∷ es) = by_case (nat_eq e.node.0 key) (those_seen key es)
  where
    by_case : (b : Bool) → map data_of (those key (map import_pair es)) ≡ those key (map seen es)
        → map data_of (if b then e ∷ those key (map import_pair es) else those key (map import_pair es)) ≡ (if b then data_of e ∷ those key (map seen es) else those key (map seen es))
    by_case true rest = ap (λ ds. data_of e ∷ ds) rest
    by_case false rest = rest

those_seen_below : (count key : ℕ) (es : List ImportEntry) → map data_of (those_below count key (map import_pair es)) ≡ those_below count key (map seen es)
those_seen_below count key es = by_case (nat_lt key count)
  where
    by_case : (b : Bool) → map data_of (if b then those key (map import_pair es) else []) ≡ (if b then those key (map seen es) else [])
    by_case true = those_seen key es
    by_case false = refl

found_seen : (count key : ℕ) (es : List ImportEntry) → option_map data_of (first (those_below count key (map import_pair es))) ≡ first (those_below count key (map seen es))
found_seen count key es = first_seen (those_below count key (map import_pair es)) ∙ ap first (those_seen_below count key es)

pub entry_shown : (nodes : List NodeEntry) (es : List ImportEntry) (symbols : List Bound) (symbol : ℕ) → option_map data_of (import_entry nodes es symbols symbol) ≡ import_data nodes (map seen es) symbols symbol
entry_shown nodes es symbols symbol = by_case (slice_get symbols symbol)
  where
    by_case : (o : Option Bound) → option_map data_of (of_item None (λ b. first (those_below (length nodes) b.node.0 (map import_pair es))) o) ≡ of_item None (λ b. first (those_below (length nodes) b.node.0 (map seen es))) o
    by_case None = refl
    by_case (Some b) = found_seen (length nodes) b.node.0 es
