-- Late declarations by their symbols, and the order of declarations.
use Rattle.std.specs.Prelude.{ℕ, ◌+◌, Bool, true, ◌&&◌, nat_le, List, [], ◌∷◌, ◌++◌}
use Rattle.rl_bindings.specs.declared.resolve.Declaration.{Declaration}
use Rattle.rl_lint.specs.Rules.{declared}
use Rattle.rl_lint.specs.Tables.{Tables}
use Rattle.rl_lint.specs.declared.site.LateSite.{LateSite}
use Rattle.rl_lint.specs.declared.site.Site.{Site}
use Rattle.rl_lint.specs.declared.site.Site.TheVariants as site
use Rattle.rl_semantic.specs.Items.{of_item}

-- True of declarations whose nodes have larger and larger ids, from `least` on.
abbrev pub are_ordered : (least : ℕ) → List Declaration → Bool
are_ordered least [] = true
are_ordered least (d ∷ ds) = nat_le least d.node.0 && are_ordered (d.node.0 + 1) ds

abbrev pub late_pair : Tables → Site → List (ℕ × LateSite)
late_pair b (site.Late d) = of_item [] (λ symbol. (symbol, d) ∷ []) (declared b.declarations d.bind.0)
late_pair b _ = []

-- The late declarations among sites, each at its symbol.
abbrev pub late_pairs : Tables → List Site → List (ℕ × LateSite)
late_pairs b [] = []
late_pairs b (s ∷ rest) = late_pair b s ++ late_pairs b rest
