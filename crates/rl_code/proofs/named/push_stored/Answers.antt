use Rattle.std.proofs.Common.{◌++◌, map, ap, ◌∙◌}
use Rattle.rl_code.proofs.Naming.{name_stored, none_stored}
use Rattle.rl_code.specs.Parts.{name_of}
use Rattle.rl_model.specs.Code.{declared_by}
use Rattle.rl_names.specs.Seen.{seen}
use Rattle.rl_syntax.specs.Syntax.{pieces_of, syntax}
use Rattle.rl_syntax.specs.declared.numbered.At.{At}
use Rattle.rl_code.proofs.named.push_stored.Goals as goal

pub returns-in_ok-push_declared-in-Some : goal.returns-in_ok-push_declared-in-Some
returns-in_ok-push_declared-in-Some c =
    let stored = (seen c.args.variables.now.names).declared in
    name_stored stored (name_of c.args.word (pieces_of (map syntax c.args.parts.now)))
    (syntax c.in-Some.name.now) c.args.out.now.items _ c.in-Some.ensures
    (c.in_ok-push_declared-in-Some.ensures ∙ ap (λ (a : At). c.args.out.now.items ++ declared_by (stored a.id.0)) c.at_of.ensures)

pub returns-in-None : goal.returns-in-None
returns-in-None c =
    none_stored (seen c.args.variables.now.names).declared
    (name_of c.args.word (pieces_of (map syntax c.args.parts.now))) c.args.out.now.items c.in-None.ensures
