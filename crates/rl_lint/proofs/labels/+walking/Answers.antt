use Rattle.rl_lint.proofs.Referring.{absent_tree, as_leaf, flag_tree, number_tree, text_tree}
use Rattle.rl_lint.proofs.labels.+walking.Goals as goal

pub walk_tree-returns-in-Text : goal.walk_tree-returns-in-Text
walk_tree-returns-in-Text t c =
    as_leaf c.args.found.now.items c.args.seen.now c.args.tree.now _ c.in-Text.is
    (text_tree c.args.found.now.items c.args.seen.now c.in-Text.field-0)

pub walk_tree-returns-in-Number : goal.walk_tree-returns-in-Number
walk_tree-returns-in-Number t c =
    as_leaf c.args.found.now.items c.args.seen.now c.args.tree.now _ c.in-Number.is
    (number_tree c.args.found.now.items c.args.seen.now c.in-Number.field-0)

pub walk_tree-returns-in-Flag : goal.walk_tree-returns-in-Flag
walk_tree-returns-in-Flag t c =
    as_leaf c.args.found.now.items c.args.seen.now c.args.tree.now _ c.in-Flag.is
    (flag_tree c.args.found.now.items c.args.seen.now c.in-Flag.field-0)

pub walk_tree-returns-in-Absent : goal.walk_tree-returns-in-Absent
walk_tree-returns-in-Absent t c =
    as_leaf c.args.found.now.items c.args.seen.now c.args.tree.now _ c.in-Absent.is (absent_tree c.args.found.now.items c.args.seen.now)
