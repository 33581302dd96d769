use Rattle.std.proofs.Common.{◌≡◌, ◌||◌, false, [], All, ap, sym, subst, refl, ◌∙◌, arith}
use Rattle.rl_ast.specs.FunctionNodes.{seen_function_node}
use Rattle.rl_hir.specs.Listing.{identifier, pair}
use Rattle.rl_hir.specs.declared.environment.Environment.{Environment}
use Rattle.rl_hir.specs.declared.function.Lowered.{Lowered}
use Rattle.rl_promises.proofs.HeldOnce.{held_once}
use Rattle.rl_promises.specs.Rows.{Records, refusals_of}
use Rattle.rl_promises.specs.Spans.{AreSpannedIdentifiers, IsSpanOf}
use Rattle.rl_promises.specs.Stops.{has_using}
use Rattle.rl_names.specs.Functions.{body_in}
use Rattle.rl_names.specs.Names.{Names}
use Rattle.rl_names.specs.Seen.{seen}
use Rattle.rl_syntax.specs.Syntax.{Syntax}
use Rattle.rl_text.specs.Notation.{IsWritable}
use Rattle.rl_unit.proofs.Room.{fresh_room}
use Rattle.rl_unit.proofs.Small.{all_writable, result_writable}
use Rattle.rl_unit.specs.Functions.{IsResultOf}
use Rattle.rl_unit.proofs.unit.lower_function.Goals as goal

-- An environment in which nothing was made leaves room, whatever tables there are.
pub lower-requires-clause-room : goal.lower-requires-clause-room
lower-requires-clause-room c tables =
    fresh_room _ _ _ c.fresh_environment-env.ensures refl refl refl c.requires.may.few tables

-- The result of a function of which nothing is said.
pub returns-clause-lowered : goal.returns-clause-lowered
returns-clause-lowered c =
    let names : Names = seen c.args.names.now in
    let tree : Syntax = seen_function_node c.args.function in
    let may = c.requires.may in
    let graph = c.in-Ok.ensures in
    let env : Environment = c.lower.new.env in
    let fresh = c.fresh_environment-env.ensures in
    let refused = subst (λ (e : Environment). Records (refusals_of names tree) e.diagnostics env.diagnostics) fresh graph.refused in
    let none : refusals_of names tree ≡ [] = refused.none (c.if-not-is_accepted.ensures.0 refl) in
    let unskipped : has_using (body_in tree) ≡ false =
    sym (graph.skip ∙ ap (λ (e : Environment). e.skip || has_using (body_in tree)) fresh) ∙ sym c.if-skip_compilation.ensures in
    let functions : env.functions ≡ [] = graph.functions ∙ ap (λ (e : Environment). e.functions) fresh in
    let known = graph.known may.small
    (subst (λ (e : Environment). All (λ i. IsWritable (identifier i)) e.identifiers) (sym fresh) (λ k d h. absurd (omega arith))) in
    let l : Lowered = record {
      function = c.in-Ok.lowered;
      inner = env.functions;
      identifiers = env.identifiers;
      pairs = env.pairs;
    } in
    subst (λ (r : Lowered). IsResultOf names tree r) (sym c.into_lowered.ensures) (record {
      supported = record { goes_on = graph.goes_on; accepted = none; unskipped = unskipped };
      main = λ scene stands. record {
        closed = graph.closed;
        same_runs = graph.same_runs none unskipped scene _ stands;
        never_stuck = graph.never_stuck none unskipped scene _ stands;
        held = held_once names tree may.from may.placed may.covered may.fits c.in-Ok.lowered (graph.held none);
        fields = record {
          span = graph.span;
          name = graph.name;
          fn_type = graph.fn_type ∙ ap (λ (e : Environment). e.fn_type) fresh;
          is_async = graph.is_async;
          generator = graph.generator;
          directives = graph.directives;
          context = graph.context;
        };
        numbered = graph.numbered;
        well_formed = record { linked = graph.linked; places = graph.places };
      };
      inner = functions;
      identifiers = record { pairs = graph.pairs; parameters = graph.given; returns_at = graph.returns.0; returns_last = graph.returns.1 };
      bounded = graph.bounded;
      writable = result_writable l (graph.writable may.small) functions known (all_writable pair env.pairs graph.paired);
      spanned = graph.spanned
          (subst (λ (e : Environment). AreSpannedIdentifiers (IsSpanOf tree) e.identifiers) (sym fresh) (λ k d h. absurd (omega arith)));
    })
