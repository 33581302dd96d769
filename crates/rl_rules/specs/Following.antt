-- Rules B1 and B6 to B9 together, in a walk that comes to one node after another.
use Rattle.std.specs.Prelude.{ℕ, Option, Some, None, List, Bool, false, ◌&&◌}
use Rattle.rl_syntax.specs.Syntax.{Syntax, Pieces}
use Rattle.rl_syntax.specs.declared.word.Word.{Word}
use Rattle.rl_rules.specs.Both.{both_pass, both_below}
use Rattle.rl_rules.specs.Chains.{link_fits, spine_below, keeps_chains}
use Rattle.rl_rules.specs.Declarations.{node_stands, place_below, keeps_declarations}
use Rattle.rl_rules.specs.Finding.{found_behind, found_if}
use Rattle.rl_rules.specs.Forms.{node_fits, nothing_below, keeps_forms}
use Rattle.rl_rules.specs.Marks.{keeps_mark}
use Rattle.rl_rules.specs.Variables.{variables_fit, head_below, keeps_variables}
use Rattle.rl_rules.specs.declared.declarations.Place.{Place}
use Rattle.rl_rules.specs.declared.declarations.Place.TheVariants as place

-- The context of a node for the rules B6 to B9.
abbrev pub Context : Type 0
Context = Bool × (Bool × (Place × Unit {0}))

-- The context of a tree that nothing stands above.
abbrev pub outermost : Context
outermost = (false, (false, (place.Elsewhere, tt)))

-- The test of a node by the rules B6 to B9.
abbrev pub node_passes : Context → Word → Pieces → Bool
node_passes = both_pass link_fits (both_pass variables_fit (both_pass node_stands node_fits))

-- The context of the part at an index of a node.
abbrev pub part_below : Context → Word → (index : ℕ) → Context
part_below = both_below spine_below (both_below head_below (both_below place_below nothing_below))

-- The state of a walk behind further nodes: `None` if a rule is broken by then, else true if the marked function is found by
-- then. `passed` says that the nodes pass the test of each rule, and `bodies` are those of their marked functions.
abbrev pub followed : (kept : Option Bool) → (passed : Bool) → (bodies : List Bool) → Option Bool
followed None passed bodies = None
followed (Some found) passed bodies = found_if passed (found_behind found bodies)

-- The state of a walk at its end says that the rules are kept.
abbrev pub is_kept : (kept : Option Bool) → Bool
is_kept None = false
is_kept (Some found) = found

-- Rules B1 and B6 to B9 of a tree.
abbrev pub keeps_all : Syntax → Bool
keeps_all tree = keeps_mark tree && (keeps_chains tree && (keeps_variables tree && (keeps_declarations tree && keeps_forms tree)))
