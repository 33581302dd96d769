use Rattle.std.proofs.Common.{ℕ, nat_le, ◌&&◌, ◌||◌, not, List, ap, ◌∙◌}
use Rattle.rl_markers.proofs.Marks.{node_marked}
use Rattle.rl_markers.specs.Named.{has, is_marked, tables}
use Rattle.rl_model.specs.Code.{contains}
use Rattle.rl_names.specs.Seen.{seen}
use Rattle.rl_syntax.specs.Syntax.{syntax}
use Rattle.rl_markers.proofs.marking.mark_node.Goals as goal

pub returns : goal.returns
returns c parts node =
    let opened : List ℕ = c.args.opened.now.list.items in
    node_marked (tables c.args.variables.now) (seen c.args.variables.now.names) opened c.in_ok-named.named.items c.in_ok-declared.declared.items
    c.args.closed.now c.close.new.closed _ c.args.marks.now.items c.push_marks.new.marks.items (syntax c.args.tree.now) c.args.at c.args.word
    c.in_ok-named.ensures
    (λ s n. c.in_ok-push_marks.ensures s n ∙ ap
    (λ l. is_marked c.args.marks.now.items s n
    || ((contains opened s && not (has c.args.closed.now s)) && (contains l s && nat_le c.args.at.id.0 n))) c.as_slice-symbols.ensures.value)
    (λ s. c.in_ok-close.ensures s ∙ ap (λ l. has c.args.closed.now s || contains l s) c.as_slice-symbols.ensures.value)
    c.in_ok-declared.ensures
    (λ s. c.in_ok-close-2.ensures s ∙ ap (λ l. has c.close.new.closed s || contains l s) c.as_slice.ensures.value) parts node
