use Rattle.std.proofs.Common.{◌≡◌, ◌+◌, sym, ap, ◌∙◌, subst, arith, map}
use Rattle.rl_grammar.specs.Fields.{maybe}
use Rattle.rl_names.specs.Seen.{seen}
use Rattle.rl_promises.specs.Lowerable.{AreLowerable}
use Rattle.rl_syntax.specs.Syntax.{Pieces, Syntax, nodes, nodes_of, pieces_of, syntax}
use Rattle.rl_lower.proofs.ParamDerivations.{params_done, params_next, params_rest}
use Rattle.rl_lower.proofs.params.lower_parameters.Goals as goal

pub parameters-preserved : goal.parameters-preserved
parameters-preserved g c =
    let loop = c.parameters.invariant in
    let one = c.in_ok-place.ensures.lowered in
    let left : Pieces = pieces_of (map syntax c.parameters.left.trees.now) in
    let behind : Pieces = pieces_of (map syntax c.in-Some.more.trees.now) in
    let first : Syntax = syntax c.in-Some.parameter.tree.now in
    let counted : nodes_of left ≡ nodes first + nodes_of behind = ap nodes_of c.in-Some.ensures in
    record {
      same_reference = c.in_ok-place.ensures.same_reference ∙ loop.same_reference;
      names = one.named;
      may = (subst (AreLowerable (seen c.args.names.now)) c.in-Some.ensures loop.may).1;
      room = omega (arith, counted, one.size, loop.room);
      lowers = params_next c.parameters.params c.in-Some.ensures c.in_ok-push.ensures.ok one loop.lowers;
    }

pub returns-in_ok-push-in-Some-rest-clause-lowered : goal.returns-in_ok-push-in-Some-rest-clause-lowered
returns-in_ok-push-in-Some-rest-clause-lowered g c =
    params_rest c.parameters.params c.in_default.ensures
    (sym (ap (λ rest. maybe rest (λ t. syntax t.tree.now)) c.in-Some-rest.is))
    c.in_ok-push-in-Some-rest.ensures.ok c.in_ok-place-in-Some-rest.ensures.lowered c.parameters.invariant.lowers

pub returns-in-None-clause-lowered : goal.returns-in-None-clause-lowered
returns-in-None-clause-lowered g c =
    params_done c.in_default.ensures (ap (λ rest. maybe rest (λ t. syntax t.tree.now)) c.in-None.is) c.parameters.invariant.lowers
