-- The state of a walk that tests the rules B1 and B6 to B9, from node to node.
use Rattle.std.proofs.Common.{◌≡◌, ◌++◌, [], Bool, ◌&&◌, List, Option, Some, None, true, false, refl, sym, ap, ◌∙◌}
use Rattle.rl_syntax.specs.Syntax.{Syntax}
use Rattle.rl_rules.specs.Finding.{found_behind, found_if}
use Rattle.rl_rules.specs.Following.{followed, is_kept, keeps_all, node_passes, part_below, outermost}
use Rattle.rl_rules.specs.Marks.{bodies, is_one_true, keeps_mark}
use Rattle.rl_rules.specs.Walks.{passes}
use Rattle.rl_rules.proofs.AllForms.{all_forms}
use Rattle.rl_rules.proofs.Found.{then_found, appended, found_one, found_no_one}

-- No node at all.
pub followed_none : (kept : Option Bool) → followed kept true [] ≡ kept
followed_none None = refl
followed_none (Some found) = refl

after : (search : Option Bool) (q : Bool) (more : List Bool) → followed search q more ≡ found_if q (then_found search more)
after None true more = refl
after None false more = refl
after (Some found) q more = refl

-- Some nodes and then others.
pub followed_then : (kept : Option Bool) (p q : Bool) (some more : List Bool) → followed (followed kept p some) q more ≡ followed kept (p && q) (some ++ more)
followed_then None p q some more = refl
followed_then (Some found) false q some more = refl
followed_then (Some found) true q some more = after (found_behind found some) q more ∙ ap (found_if q) (sym (appended found some more))

-- The verdict of a whole search.
with_true : (kept : Bool) → kept ≡ (kept && true)
with_true true = refl
with_true false = refl

with_false : (kept : Bool) → false ≡ (kept && false)
with_false true = refl
with_false false = refl

found_kept : (passed found : Bool) (bodies : List Bool) → Some found ≡ found_if passed (found_behind false bodies) → found ≡ (is_one_true bodies && passed)
found_kept true found bodies h = found_one found bodies (sym h) ∙ with_true (is_one_true bodies)
found_kept false found bodies h = absurd (cc)

found_unkept : (passed : Bool) (bodies : List Bool) → None ≡ found_if passed (found_behind false bodies) → false ≡ (is_one_true bodies && passed)
found_unkept true bodies h = found_no_one bodies (sym h) ∙ with_true (is_one_true bodies)
found_unkept false bodies h = with_false (is_one_true bodies)

-- A walk over a whole tree.
pub kept_whole : (tree : Syntax) (kept : Option Bool) → kept ≡ followed (Some false) (passes node_passes part_below outermost tree) (bodies tree) → is_kept kept ≡ keeps_all tree
kept_whole tree (Some found) is = found_kept _ found (bodies tree) is ∙ ap (λ forms. keeps_mark tree && forms) (all_forms tree)
kept_whole tree None is = found_unkept _ (bodies tree) is ∙ ap (λ forms. keeps_mark tree && forms) (all_forms tree)
