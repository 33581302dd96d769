use Rattle.std.proofs.Common.{◌≡◌, ap, subst, sym, ◌∙◌, arith}
use Rattle.frame_tests.proofs.FormulaGraphs.{first_room, second_room, whole_is}
use Rattle.frame_tests.specs.Formulas.{HasRoom, share}
use Rattle.frame_tests.specs.Graphs.{CanBuild, fresh, given_over, whole_of}
use Rattle.rl_builder.proofs.Kept.{ok_same}
use Rattle.rl_builder.specs.Builder.{State, state_of}
use Rattle.rl_builder.specs.Started.{Given}
use Rattle.frame_tests.proofs.graph.graph_of.Goals as goal

pub lower_formula-requires : goal.lower_formula-requires
lower_formula-requires g c =
    let given : Given = given_over (g.U.ReadsUnit.tables c.args.unit) c.args.scope c.new-3.result.keys in
    let env : c.in_ok-env.env ≡ fresh =
    ok_same _ (record fresh { entities = c.new.result }) c.in_ok-env.ensures ∙ ap (λ t. record fresh { entities = t }) c.new.ensures in
    let s1 : State = state_of g.U.ReadsUnit.tables c.in_ok-builder.builder in
    let room : HasRoom s1 (share c.args.formula.now) =
    first_room c.args.formula.now given c.in_ok-env.env s1 env c.in_ok-builder.ensures.state c.requires.room in
    record { room = room }

pub terminate-requires : goal.terminate-requires
terminate-requires g c =
    let given : Given = given_over (g.U.ReadsUnit.tables c.args.unit) c.args.scope c.new-3.result.keys in
    let env : c.in_ok-env.env ≡ fresh =
    ok_same _ (record fresh { entities = c.new.result }) c.in_ok-env.ensures ∙ ap (λ t. record fresh { entities = t }) c.new.ensures in
    let s1 : State = state_of g.U.ReadsUnit.tables c.in_ok-builder.builder in
    let s2 : State = state_of g.U.ReadsUnit.tables c.lower_formula.new.builder in
    let room : HasRoom s2 0 =
    second_room c.args.formula.now given c.in_ok-env.env s1 env c.in_ok-builder.ensures.state s2 c.requires.room c.in_ok-value.ensures.state
    in
    omega (arith, room)

pub build-requires : goal.build-requires
build-requires g c =
    let given : Given = given_over (g.U.ReadsUnit.tables c.args.unit) c.args.scope c.new-3.result.keys in
    let env : c.in_ok-env.env ≡ fresh =
    ok_same _ (record fresh { entities = c.new.result }) c.in_ok-env.ensures ∙ ap (λ t. record fresh { entities = t }) c.new.ensures in
    let s1 : State = state_of g.U.ReadsUnit.tables c.in_ok-builder.builder in
    let s2 : State = state_of g.U.ReadsUnit.tables c.lower_formula.new.builder in
    let s3 : State = state_of g.U.ReadsUnit.tables c.terminate.new.self in
    let is : s3 ≡ whole_of c.args.formula.now given =
    whole_is c.args.formula.now given c.in_ok-env.env s1 env c.in_ok-builder.ensures.state s2 s3 c.in_ok-value.value
    c.in_ok-value.ensures.state c.in_ok-value.ensures.place c.in_ok-terminate.ensures.state in
    let builds : CanBuild s3 = subst CanBuild (sym is) (c.requires.built given) in
    record { whole = builds.whole; listed = builds.listed; room = builds.room }
