-- Look-ups in the sites of a function: the entry of a reference, and the span of a symbol's declaration.
use Rattle.std.specs.Prelude.{◌≡◌, ℕ, Bool, false, if◌then◌else◌, get_or, nat_eq, Option, Some, None, List, [], ◌∷◌}
use Rattle.std.specs.List.{list_any}
use Rattle.rl_base.specs.declared.span.Span.{Span}
use Rattle.rl_bindings.specs.Symbols.{option_or}
use Rattle.rl_bindings.specs.declared.event.Bound.{Bound}
use Rattle.rl_context.specs.declared.site.IdentEntry.{IdentEntry}
use Rattle.rl_context.specs.declared.site.Site.{Site}
use Rattle.rl_context.specs.declared.site.Site.TheVariants as site
use Rattle.rl_resolver.specs.Lookups.{declaration_ident}
use Rattle.rl_semantic.specs.Buckets.{first_at}
use Rattle.rl_semantic.specs.Items.{of_item}

-- The entry of a site, if it is the reference with the id `reference`.
abbrev pub entry_at : (reference : ℕ) → Site → Option IdentEntry
entry_at reference (site.Reference r) = if nat_eq r.reference.0 reference then Some r.entry else None
entry_at reference _ = None

-- The entry of a reference. None of a reference that is not among the sites.
abbrev pub entry_among : (reference : ℕ) → List Site → Option IdentEntry
entry_among reference [] = None
entry_among reference (s ∷ ss) = option_or (entry_at reference s) (entry_among reference ss)

-- True of the `bind` node with the id `node`.
abbrev pub is_declaration : (node : ℕ) → Site → Bool
is_declaration node (site.Declaration id) = nat_eq id.0 node
is_declaration node _ = false

-- True of a `bind` node among the sites.
abbrev pub declares : (node : ℕ) → List Site → Bool
declares node ss = list_any (is_declaration node) ss

-- The span of a declaration, if its `bind` node is among the sites.
abbrev pub span_among : List Site → Bound → Option Span
span_among ss b = if declares b.node.0 ss then Some b.span else None

-- The span of the declaration identifier of a symbol. None where it is not among the sites, and of a symbol without one.
abbrev pub declaration_span : List Site → List Bound → (symbol : ℕ) → Option Span
declaration_span ss symbols symbol = of_item None (span_among ss) (declaration_ident symbols symbol)

-- The table has the entry of each reference among the sites, at the number of the reference.
pub record AreEntries (entries : List (Option IdentEntry)) (ss : List Site) : Type 0 where
  pub at : (reference : ℕ) → first_at entries reference ≡ entry_among reference ss

-- The table has true at the ids of the `bind` nodes among the sites, and at no others.
pub record AreDeclarations (declarations : List Bool) (ss : List Site) : Type 0 where
  pub at : (node : ℕ) → get_or declarations node false ≡ declares node ss
