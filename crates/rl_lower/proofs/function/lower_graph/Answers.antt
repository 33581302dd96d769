use Rattle.std.proofs.Common.{rules, ◌≡◌, refl, subst}
use Rattle.std.proofs.lemmas.List.{nil_from_length}
use Rattle.rl_ast.specs.FunctionViews.{seen_arrow_body}
use Rattle.rl_builder.specs.Builder.{state_of}
use Rattle.rl_hir.specs.declared.environment.Environment.{Environment}
use Rattle.rl_lower.proofs.Closings.{begun_from, body_told, end_room, graph_call, listed_call, names_begun, names_given, orders_call}
use Rattle.rl_lower.proofs.Closings.{params_are, params_may, params_room, params_told, room_given, scopes_given, undefined_fits, whole_call}
use Rattle.rl_lower.proofs.Closings.{whole_room}
use Rattle.rl_lower.proofs.FunctionGraphs.{begun_fresh}
use Rattle.rl_lower.proofs.LoweredFunctions.{lowered_both}
use Rattle.rl_lower.proofs.SoundGraphs.{graph_sound_call}
use Rattle.rl_lower.specs.Begun.{begun_by, function_tables}
use Rattle.rl_lower.specs.Endings.{IsGraphOf, graph_of}
use Rattle.rl_lower.specs.Sound.{IsSoundGraph}
use Rattle.rl_names.specs.Seen.{seen}
use Rattle.rl_syntax.specs.Syntax.{Syntax, Node, Listed, Pieces, End, Then, syntax}
use Rattle.rl_syntax.specs.declared.numbered.At.{At}
use Rattle.rl_syntax.specs.declared.word.Word.TheVariants as word
use Rattle.rl_lower.proofs.function.lower_graph.Goals as goal

-- Each clause is by the promises of the parameters and of the body, from the first state of the builder on.

pub lower_parameters-requires-clause-names : goal.lower_parameters-requires-clause-names
lower_parameters-requires-clause-names g c =
    let names = seen c.args.names.now in
    let env = c.args.env.now in
    let tables = function_tables c.args.names.now c.args.scope (g.U.ReadsUnit.tables c.args.unit).sites in
    let from = begun_from _ tables _ _ _ c.in_ok-builder.ensures.state c.requires.tables (nil_from_length _ c.new.ensures.len) in
    names_begun names env tables _ from c.requires.knows (λ symbol. refl)

pub lower_parameters-requires-clause-may : goal.lower_parameters-requires-clause-may
lower_parameters-requires-clause-may g c =
    params_may _ _ _ _ c.formal_parameters_view-parameters.ensures (seen c.args.names.now) c.requires.may_take

pub lower_parameters-requires-clause-room : goal.lower_parameters-requires-clause-room
lower_parameters-requires-clause-room g c =
    let names = seen c.args.names.now in
    let env = c.args.env.now in
    let tables = function_tables c.args.names.now c.args.scope (g.U.ReadsUnit.tables c.args.unit).sites in
    let from = begun_from _ tables _ _ _ c.in_ok-builder.ensures.state c.requires.tables (nil_from_length _ c.new.ensures.len) in
    params_room _ _ _ _ c.formal_parameters_view-parameters.ensures (seen_arrow_body c.args.body) _ _ from c.requires.room

pub lower_body-requires-clause-names : goal.lower_body-requires-clause-names
lower_body-requires-clause-names g c =
    let names = seen c.args.names.now in
    let env = c.args.env.now in
    let tables = function_tables c.args.names.now c.args.scope (g.U.ReadsUnit.tables c.args.unit).sites in
    let from = begun_from _ tables _ _ _ c.in_ok-builder.ensures.state c.requires.tables (nil_from_length _ c.new.ensures.len) in
    let in_params = params_told names env tables _ _ _ _ _ from c.requires.knows (λ symbol. refl) c.in_ok-params.ensures.lowered in
    names_given names env tables _ _ _ _ in_params c.requires.knows (λ symbol. refl)

pub lower_body-requires-clause-outermost : goal.lower_body-requires-clause-outermost
lower_body-requires-clause-outermost g c =
    let names = seen c.args.names.now in
    let env = c.args.env.now in
    let tables = function_tables c.args.names.now c.args.scope (g.U.ReadsUnit.tables c.args.unit).sites in
    let from = begun_from _ tables _ _ _ c.in_ok-builder.ensures.state c.requires.tables (nil_from_length _ c.new.ensures.len) in
    let in_params = params_told names env tables _ _ _ _ _ from c.requires.knows (λ symbol. refl) c.in_ok-params.ensures.lowered in
    scopes_given names env tables _ _ _ _ in_params

pub lower_body-requires-clause-room : goal.lower_body-requires-clause-room
lower_body-requires-clause-room g c =
    let names = seen c.args.names.now in
    let env = c.args.env.now in
    let tables = function_tables c.args.names.now c.args.scope (g.U.ReadsUnit.tables c.args.unit).sites in
    let from = begun_from _ tables _ _ _ c.in_ok-builder.ensures.state c.requires.tables (nil_from_length _ c.new.ensures.len) in
    let in_params = params_told names env tables _ _ _ _ _ from c.requires.knows (λ symbol. refl) c.in_ok-params.ensures.lowered in
    let room = whole_room _ _ _ _ c.formal_parameters_view-parameters.ensures (seen_arrow_body c.args.body)
    (begun_by env tables) c.requires.room in
    room_given names env tables _ _ _ _ in_params (seen_arrow_body c.args.body) room

pub lower_undefined-requires : goal.lower_undefined-requires
lower_undefined-requires g c =
    let names = seen c.args.names.now in
    let env = c.args.env.now in
    let tables = function_tables c.args.names.now c.args.scope (g.U.ReadsUnit.tables c.args.unit).sites in
    let from = begun_from _ tables _ _ _ c.in_ok-builder.ensures.state c.requires.tables (nil_from_length _ c.new.ensures.len) in
    let in_params = params_told names env tables _ _ _ _ _ from c.requires.knows (λ symbol. refl) c.in_ok-params.ensures.lowered in
    let in_body = body_told names env tables _ _ _ _ in_params (seen_arrow_body c.args.body) _ c.requires.knows (λ symbol. refl)
    c.in_ok-lower_body.ensures.lowered in
    let both = lowered_both in_params in_body in
    let room = whole_room _ _ _ _ c.formal_parameters_view-parameters.ensures (seen_arrow_body c.args.body)
    (begun_by env tables) c.requires.room in
    record { room = end_room names _ _ _ _ (begun_fresh env tables) both room }

pub terminate-requires : goal.terminate-requires
terminate-requires g c =
    let names = seen c.args.names.now in
    let env = c.args.env.now in
    let tables = function_tables c.args.names.now c.args.scope (g.U.ReadsUnit.tables c.args.unit).sites in
    let from = begun_from _ tables _ _ _ c.in_ok-builder.ensures.state c.requires.tables (nil_from_length _ c.new.ensures.len) in
    let in_params = params_told names env tables _ _ _ _ _ from c.requires.knows (λ symbol. refl) c.in_ok-params.ensures.lowered in
    let in_body = body_told names env tables _ _ _ _ in_params (seen_arrow_body c.args.body) _ c.requires.knows (λ symbol. refl)
    c.in_ok-lower_body.ensures.lowered in
    let both = lowered_both in_params in_body in
    let room = whole_room _ _ _ _ c.formal_parameters_view-parameters.ensures (seen_arrow_body c.args.body)
    (begun_by env tables) c.requires.room in
    undefined_fits (state_of g.U.ReadsUnit.tables c.lower_body.new.builder) _ (end_room names _ _ _ _ (begun_fresh env tables) both room)
    c.in_ok-value.ensures.state

pub build-requires-clause-whole : goal.build-requires-clause-whole
build-requires-clause-whole g c =
    let names = seen c.args.names.now in
    let env = c.args.env.now in
    let tables = function_tables c.args.names.now c.args.scope (g.U.ReadsUnit.tables c.args.unit).sites in
    let from = begun_from _ tables _ _ _ c.in_ok-builder.ensures.state c.requires.tables (nil_from_length _ c.new.ensures.len) in
    let in_params = params_told names env tables _ _ _ _ _ from c.requires.knows (λ symbol. refl) c.in_ok-params.ensures.lowered in
    let in_body = body_told names env tables _ _ _ _ in_params (seen_arrow_body c.args.body) _ c.requires.knows (λ symbol. refl)
    c.in_ok-lower_body.ensures.lowered in
    let both = lowered_both in_params in_body in
    let room = whole_room _ _ _ _ c.formal_parameters_view-parameters.ensures (seen_arrow_body c.args.body)
    (begun_by env tables) c.requires.room in
    whole_call names _ _ _ _ (begun_fresh env tables) both room _ _ _ c.in_ok-value.ensures.state c.in_ok-value.ensures.place
    c.in_ok-terminate.ensures.state

pub build-requires-clause-listed : goal.build-requires-clause-listed
build-requires-clause-listed g c =
    let names = seen c.args.names.now in
    let env = c.args.env.now in
    let tables = function_tables c.args.names.now c.args.scope (g.U.ReadsUnit.tables c.args.unit).sites in
    let from = begun_from _ tables _ _ _ c.in_ok-builder.ensures.state c.requires.tables (nil_from_length _ c.new.ensures.len) in
    let in_params = params_told names env tables _ _ _ _ _ from c.requires.knows (λ symbol. refl) c.in_ok-params.ensures.lowered in
    let in_body = body_told names env tables _ _ _ _ in_params (seen_arrow_body c.args.body) _ c.requires.knows (λ symbol. refl)
    c.in_ok-lower_body.ensures.lowered in
    let both = lowered_both in_params in_body in
    let room = whole_room _ _ _ _ c.formal_parameters_view-parameters.ensures (seen_arrow_body c.args.body)
    (begun_by env tables) c.requires.room in
    listed_call names _ _ _ _ (begun_fresh env tables) both room _ _ _ c.in_ok-value.ensures.state c.in_ok-value.ensures.place
    c.in_ok-terminate.ensures.state

pub build-requires-clause-room : goal.build-requires-clause-room
build-requires-clause-room g c =
    let names = seen c.args.names.now in
    let env = c.args.env.now in
    let tables = function_tables c.args.names.now c.args.scope (g.U.ReadsUnit.tables c.args.unit).sites in
    let from = begun_from _ tables _ _ _ c.in_ok-builder.ensures.state c.requires.tables (nil_from_length _ c.new.ensures.len) in
    let in_params = params_told names env tables _ _ _ _ _ from c.requires.knows (λ symbol. refl) c.in_ok-params.ensures.lowered in
    let in_body = body_told names env tables _ _ _ _ in_params (seen_arrow_body c.args.body) _ c.requires.knows (λ symbol. refl)
    c.in_ok-lower_body.ensures.lowered in
    let both = lowered_both in_params in_body in
    let room = whole_room _ _ _ _ c.formal_parameters_view-parameters.ensures (seen_arrow_body c.args.body)
    (begun_by env tables) c.requires.room in
    orders_call names _ _ _ _ (begun_fresh env tables) both room _ _ _ c.in_ok-value.ensures.state c.in_ok-value.ensures.place
    c.in_ok-terminate.ensures.state

pub returns-clause-graph : goal.returns-clause-graph
returns-clause-graph g c =
    let names = seen c.args.names.now in
    let env = c.args.env.now in
    let tables = function_tables c.args.names.now c.args.scope (g.U.ReadsUnit.tables c.args.unit).sites in
    let from = begun_from _ tables _ _ _ c.in_ok-builder.ensures.state c.requires.tables (nil_from_length _ c.new.ensures.len) in
    let in_params = params_told names env tables _ _ _ _ _ from c.requires.knows (λ symbol. refl) c.in_ok-params.ensures.lowered in
    let in_body = body_told names env tables _ _ _ _ in_params (seen_arrow_body c.args.body) _ c.requires.knows (λ symbol. refl)
    c.in_ok-lower_body.ensures.lowered in
    let room = whole_room _ _ _ _ c.formal_parameters_view-parameters.ensures (seen_arrow_body c.args.body)
    (begun_by env tables) c.requires.room in
    let left : c.build.new.self.0 ≡ c.env-2-1.given.0 = search rules in
    subst (λ (e : Environment). (at : At) (items : Pieces) (rest : Syntax) → syntax c.args.parameters.tree.now
    ≡ Node at word.Params (Then (Listed items) (Then rest End)) → IsGraphOf names tables items rest (seen_arrow_body c.args.body) env e
    c.in_ok-params.params (graph_of c.in_ok-built.built)) left
    (params_are _ _ _ (λ items rest. IsGraphOf names tables items rest (seen_arrow_body c.args.body) env _ c.in_ok-params.params
    (graph_of c.in_ok-built.built)) c.formal_parameters_view-parameters.ensures
    (graph_call names tables _ _ (seen_arrow_body c.args.body) env _ c.in_ok-params.params (graph_of c.in_ok-built.built) _ _ _ _ _
    (λ symbol. refl) in_params in_body room c.in_ok-value.ensures.state c.in_ok-value.ensures.place c.in_ok-terminate.ensures.state
    c.in_ok-built.ensures.built))

pub returns-clause-sound : goal.returns-clause-sound
returns-clause-sound g c =
    let names = seen c.args.names.now in
    let env = c.args.env.now in
    let tables = function_tables c.args.names.now c.args.scope (g.U.ReadsUnit.tables c.args.unit).sites in
    let from = begun_from _ tables _ _ _ c.in_ok-builder.ensures.state c.requires.tables (nil_from_length _ c.new.ensures.len) in
    let in_params = params_told names env tables _ _ _ _ _ from c.requires.knows (λ symbol. refl) c.in_ok-params.ensures.lowered in
    let in_body = body_told names env tables _ _ _ _ in_params (seen_arrow_body c.args.body) _ c.requires.knows (λ symbol. refl)
    c.in_ok-lower_body.ensures.lowered in
    let room = whole_room _ _ _ _ c.formal_parameters_view-parameters.ensures (seen_arrow_body c.args.body)
    (begun_by env tables) c.requires.room in
    let left : c.build.new.self.0 ≡ c.env-2-1.given.0 = search rules in
    subst (λ (e : Environment). (at : At) (items : Pieces) (rest : Syntax) → syntax c.args.parameters.tree.now
    ≡ Node at word.Params (Then (Listed items) (Then rest End))
    → IsSoundGraph items rest (seen_arrow_body c.args.body) c.in_ok-params.params
    env e (graph_of c.in_ok-built.built)) left
    (params_are _ _ _ (λ items rest. IsSoundGraph items rest (seen_arrow_body c.args.body) c.in_ok-params.params env _
    (graph_of c.in_ok-built.built)) c.formal_parameters_view-parameters.ensures
    (graph_sound_call names tables _ _ (seen_arrow_body c.args.body) env _ c.in_ok-params.params (graph_of c.in_ok-built.built) _ _ _ _ _
    in_params in_body room c.in_ok-value.ensures.state c.in_ok-value.ensures.place c.in_ok-terminate.ensures.state
    c.in_ok-built.ensures.built c.requires.knows))
