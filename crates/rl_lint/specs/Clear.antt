-- Units in which L1 and L4 find nothing, as their tables tell, with hints beside these.
use Rattle.std.specs.Prelude.{◌≡◌, ℕ, ◌+◌, Bool, true, not, ◌&&◌, ◌||◌, nat_eq, is_none, slice_get, List, [], ◌∷◌}
use Rattle.std.specs.List.{list_all}
use Rattle.rl_base.specs.declared.ids.ScopeId.{ScopeId}
use Rattle.rl_bindings.specs.declared.event.Bound.{Bound}
use Rattle.rl_bindings.specs.declared.resolve.Declaration.{Declaration}
use Rattle.rl_lint.specs.Rules.{early, taken, taken_by, used}
use Rattle.rl_lint.specs.Sites.{sites_in}
use Rattle.rl_lint.specs.Tables.{Tables}
use Rattle.rl_lint_hints.specs.Hints.{is_behind_last, is_hinted, is_known, named_scope}
use Rattle.rl_lint_hints.specs.declared.hints.Hints.{Hints}
use Rattle.rl_resolver.specs.Lookups.{name_text}
use Rattle.rl_semantic.specs.Items.{of_item}
use Rattle.rl_syntax.specs.Syntax.{Syntax, is_reference}
use Rattle.rl_syntax.specs.declared.nodes.NodeEntry.{NodeEntry}
use Rattle.rl_syntax.specs.declared.numbered.At.{At}

-- True of a symbol whose name, declared by a function that makes the scope `scope`, is that of no other symbol around, nor its stem.
abbrev pub is_clear_name : Tables → (own : ℕ) → (scope : ScopeId) → Bool
is_clear_name b own scope = of_item true (λ (first : Bound). is_none (taken_by b own scope (name_text b.names first.name)))
    (slice_get b.symbols own)

-- True of a declaration of a symbol that L4 finds nothing at, or that the hints know.
abbrev pub is_clear_bind : List NodeEntry → Hints → Tables → (node symbol : ℕ) → Bool
is_clear_bind nodes h b node symbol = of_item (is_hinted h node symbol) (is_clear_name b symbol) (named_scope nodes node)

abbrev pub is_clear_declaration : List NodeEntry → Hints → Tables → Declaration → Bool
is_clear_declaration nodes h b d = of_item true (is_clear_bind nodes h b d.node.0) d.symbol

abbrev pub are_clear_declarations : List NodeEntry → Hints → Tables → List Declaration → Bool
are_clear_declarations nodes h b ds = list_all (is_clear_declaration nodes h b) ds

-- True of a use that L1 finds nothing at.
abbrev pub is_clear_use : Hints → Tables → At → Bool
is_clear_use h b at = of_item true (is_behind_last h at.id.0) (used b.references at.reference.0)

-- True of a node that the hints know, and that is no use or one that L1 finds nothing at.
abbrev pub is_clear_node : Hints → Tables → NodeEntry → Bool
is_clear_node h b e = is_known h e && (not (is_reference e.word) || is_clear_use h b e.at)

-- True of nodes that are all clear and have the ids from `index` on.
abbrev pub are_clear_from : Hints → Tables → (index : ℕ) → List NodeEntry → Bool
are_clear_from h b index [] = true
are_clear_from h b index (e ∷ es) = nat_eq e.at.id.0 index && (is_clear_node h b e && are_clear_from h b (index + 1) es)

-- L1 and L4 find nothing in a unit.
pub record FindsNone (b : Tables) (tree : Syntax) : Type 0 where
  pub none_early : early b (sites_in tree) (sites_in tree) ≡ []
  pub none_taken : taken b (sites_in tree) ≡ []
