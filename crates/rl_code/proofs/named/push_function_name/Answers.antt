use Rattle.std.proofs.Common.{◌++◌, map, ap, sym, ◌∙◌}
use Rattle.rl_code.proofs.Naming.{absent_stored, flag_stored, list_stored, node_stored, number_stored, text_stored}
use Rattle.rl_code.specs.Heads.{stored_as}
use Rattle.rl_code.specs.Parts.{name_of}
use Rattle.rl_model.specs.Code.{function_names_at}
use Rattle.rl_names.specs.Seen.{seen}
use Rattle.rl_syntax.specs.Syntax.{pieces_of, syntax}
use Rattle.rl_code.proofs.named.push_function_name.Goals as goal

pub returns-in_ok-push_stored-in-Node : goal.returns-in_ok-push_stored-in-Node
returns-in_ok-push_stored-in-Node c =
    let stored = (seen c.args.variables.now.names).declared in
    node_stored stored c.in-Node.field-0 c.in-Node.word c.in-Node.parts c.args.out.now.items _
    (c.in_ok-push_stored-in-Node.ensures ∙ ap
    (λ ts. c.args.out.now.items ++ stored_as stored (name_of c.in-Node.word (pieces_of (map syntax ts)))) c.as_slice.ensures)
    ∙ ap (λ t. c.args.out.now.items ++ function_names_at stored (syntax t)) (sym c.in-Node.is)

pub returns-in-List : goal.returns-in-List
returns-in-List c =
    let stored = (seen c.args.variables.now.names).declared in
    list_stored stored c.in-List.field-0 c.args.out.now.items ∙ ap (λ t. c.args.out.now.items ++ function_names_at stored (syntax t))
    (sym c.in-List.is)

pub returns-in-Text : goal.returns-in-Text
returns-in-Text c =
    let stored = (seen c.args.variables.now.names).declared in
    text_stored stored c.in-Text.field-0 c.args.out.now.items ∙ ap (λ t. c.args.out.now.items ++ function_names_at stored (syntax t))
    (sym c.in-Text.is)

pub returns-in-Number : goal.returns-in-Number
returns-in-Number c =
    let stored = (seen c.args.variables.now.names).declared in
    number_stored stored c.in-Number.field-0 c.args.out.now.items ∙ ap
    (λ t. c.args.out.now.items ++ function_names_at stored (syntax t)) (sym c.in-Number.is)

pub returns-in-Flag : goal.returns-in-Flag
returns-in-Flag c =
    let stored = (seen c.args.variables.now.names).declared in
    flag_stored stored c.in-Flag.field-0 c.args.out.now.items ∙ ap (λ t. c.args.out.now.items ++ function_names_at stored (syntax t))
    (sym c.in-Flag.is)

pub returns-in-Absent : goal.returns-in-Absent
returns-in-Absent c =
    let stored = (seen c.args.variables.now.names).declared in
    absent_stored stored c.args.out.now.items ∙ ap (λ t. c.args.out.now.items ++ function_names_at stored (syntax t)) (sym c.in-Absent.is)
