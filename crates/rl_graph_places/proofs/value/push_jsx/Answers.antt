use Rattle.std.proofs.Common.{◌++◌, ap, ◌∙◌}
use Rattle.rl_hir.specs.Pieces.{attribute_pieces, gathered, tag_pieces, value_pieces}
use Rattle.rl_graph_places.specs.Places.{named}
use Rattle.rl_graph_places.proofs.Naming.{named_three}
use Rattle.rl_graph_places.proofs.value.push_jsx.Goals as goal

pub returns : goal.returns
returns c =
    let jsx = c.args.jsx.now in
    let tagged = c.push_tag.new.out.items in
    let behind = c.push_attributes.new.out.items in
    named_three c.args.out.now.items tagged behind c.push_places.new.out.items (tag_pieces jsx.tag) (gathered attribute_pieces jsx.props)
    (gathered value_pieces jsx.children) c.in_ok-push_tag.ensures
    (c.in_ok-push_attributes.ensures ∙ ap (λ props. tagged ++ named (gathered attribute_pieces props)) c.as_slice-props.ensures)
    (c.in_ok-push_places.ensures ∙ ap (λ children. behind ++ named (gathered value_pieces children)) c.as_slice-children.ensures)
