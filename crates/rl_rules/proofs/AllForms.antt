-- A tree keeps the rules B6 to B9 together if it keeps each.
use Rattle.std.proofs.Common.{◌≡◌, ◌&&◌, false, ap, ◌∙◌}
use Rattle.rl_syntax.specs.Syntax.{Syntax}
use Rattle.rl_rules.specs.Both.{both_pass, both_below}
use Rattle.rl_rules.specs.Chains.{link_fits, spine_below, keeps_chains}
use Rattle.rl_rules.specs.Declarations.{node_stands, place_below, keeps_declarations}
use Rattle.rl_rules.specs.Forms.{node_fits, nothing_below, keeps_forms}
use Rattle.rl_rules.specs.Variables.{variables_fit, head_below, keeps_variables}
use Rattle.rl_rules.specs.Walks.{passes}
use Rattle.rl_rules.specs.declared.declarations.Place.TheVariants as place
use Rattle.rl_rules.proofs.Together.{passes_both}

pub all_forms : (tree : Syntax) → passes (both_pass link_fits (both_pass variables_fit (both_pass node_stands node_fits))) (both_below spine_below (both_below head_below (both_below place_below nothing_below))) (false, (false, (place.Elsewhere, tt))) tree ≡ (keeps_chains tree && (keeps_variables tree && (keeps_declarations tree && keeps_forms tree)))
all_forms tree =
    passes_both link_fits spine_below _ _ false (false, (place.Elsewhere, tt)) tree
    ∙ ap (λ rest. keeps_chains tree && rest) (passes_both variables_fit head_below _ _ false (place.Elsewhere, tt) tree)
    ∙ ap (λ rest. keeps_chains tree && (keeps_variables tree && rest)) (passes_both node_stands place_below node_fits nothing_below place.Elsewhere tt tree)
