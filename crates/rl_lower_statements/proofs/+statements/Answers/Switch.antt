use Rattle.std.proofs.Common.{rules, ◌≡◌, ℕ, ◌+◌, ◌≤◌, List, ◌∷◌, None, map, refl, ap, sym, ◌∙◌, subst}
use Rattle.std.proofs.Common.{arith}
use Rattle.rl_builder.specs.Builder.{State, state_of}
use Rattle.rl_lowered.proofs.Names.{names_same}
use Rattle.rl_lowered.specs.Arounds.{arounds}
use Rattle.rl_lowered.specs.Promised.{share}
use Rattle.rl_names.specs.Seen.{seen}
use Rattle.rl_promises.specs.Jumps.{Around, InSwitch}
use Rattle.rl_promises.specs.Lowerable.{AreLowerableCases}
use Rattle.rl_syntax.specs.Syntax.{Syntax, Pieces, Then, nodes, nodes_of, pieces_of, syntax, End}
use Rattle.rl_lower_statements.proofs.LoopDerivations.{moved_named, moved_room}
use Rattle.rl_base.specs.declared.span.Span.{Span}
use Rattle.rl_frames.specs.SwitchParts.{SwitchParts, switch_entered, switch_left, switch_of, switch_begun}
use Rattle.rl_lower_statements.proofs.SwitchDerivations.{case_framed, case_scope, behind_arounds, behind_label, behind_named, behind_room}
use Rattle.rl_lower_statements.proofs.SwitchDerivations.{cases_begun, cases_done, cases_may, cases_next, nodes_split, cases_named}
use Rattle.rl_lower_statements.proofs.SwitchDerivations.{cases_room, switch_told}
use Rattle.rl_frames.proofs.FrameSizes.{switch_begun_size}
use Rattle.rl_lower_statements.specs.Cases.{FramesBehind, joined}
use Rattle.rl_lower_statements.proofs.+statements.Goals as goal

pub switch::lower_case-leave-requires-clause-scope : goal.switch::lower_case-leave-requires-clause-scope
switch::lower_case-leave-requires-clause-scope g t c =
    case_scope (switch_of c.args.frame.now) (state_of g.U.ReadsUnit.tables c.args.builder.now) _ _ c.in_ok-enter.ensures.state
    c.in_ok-lower_statements.ensures.lowered

pub switch::lower_case-lower_case_test-requires-clause-names : goal.switch::lower_case-lower_case_test-requires-clause-names
switch::lower_case-lower_case_test-requires-clause-names g t c =
    let x : State = state_of g.U.ReadsUnit.tables c.args.builder.now in
    let f : SwitchParts = switch_of c.args.frame.now in
    let y : State = state_of g.U.ReadsUnit.tables c.lower_statements.new.builder in
    let f1 : SwitchParts = switch_of c.enter.new.self in
    let part : Span = c.switch_case_view-case.result.at.span in
    moved_named y (switch_left f1 y part) _ c.in_ok-leave.ensures.state (names_same y (switch_left f1 y part) refl)
    (c.in_ok-lower_statements.ensures.lowered.named
    (moved_named x (switch_entered f x) _ c.in_ok-enter.ensures.state (names_same x (switch_entered f x) refl) c.requires.names))

pub switch::lower_case-returns-clause-lowered : goal.switch::lower_case-returns-clause-lowered
switch::lower_case-returns-clause-lowered g t c =
    case_framed (switch_of c.done.new.self) c.switch_case_view-case.ensures c.in_ok-enter.ensures.state c.in_ok-enter.ensures.frame
    c.in_ok-lower_statements.ensures.lowered c.in_ok-leave.ensures.state c.in_ok-leave.ensures.frame c.in_ok-test.ensures.lowered
    c.in_ok-done.ensures

pub switch::lower_cases-cases-init : goal.switch::lower_cases-cases-init
switch::lower_cases-cases-init g t c =
    let s : State = state_of g.U.ReadsUnit.tables c.args.builder.now in
    let b : State = state_of g.U.ReadsUnit.tables c.begin.new.b in
    let all : Pieces = pieces_of (map syntax c.args.cases.trees.now) in
    record {
      same_reference = search rules;
      names = moved_named s (switch_begun s) b c.in_ok-frame.ensures.state (names_same s (switch_begun s) refl) c.requires.names;
      may =
          subst (λ (a : List Around). AreLowerableCases (seen c.args.names.now) (InSwitch None ∷ a) all)
          (sym (ap arounds c.in_ok-frame.ensures.state))
          c.requires.may;
      room =
          moved_room s (switch_begun s) b 1 (share (nodes_of all)) (share (nodes_of all) + 1) c.in_ok-frame.ensures.state
          (switch_begun_size s)
          (omega arith) c.requires.room;
      fewer = omega arith;
      lowers = cases_begun all s b c.in_ok-frame.ensures.state c.in_ok-frame.ensures.frame;
    }

pub switch::lower_cases-lower_case-requires : goal.switch::lower_cases-lower_case-requires
switch::lower_cases-lower_case-requires g t c =
    let left : Pieces = pieces_of (map syntax c.cases.left.trees.now) in
    let rest : Pieces = pieces_of (map syntax c.in-Some.rest.trees.now) in
    let case : Syntax = syntax c.in-Some.case.tree.now in
    let counted : nodes_of left ≡ nodes_of rest + nodes case = nodes_split rest case c.in-Some.ensures.parts in
    let fewer : nodes case ≤ nodes_of (pieces_of (map syntax c.args.cases.trees.now)) = omega (arith, counted, c.cases.invariant.fewer) in
    λ lifetimes outlives. (
      omega (arith, fewer),
      (
        search rules,
        (
          search rules,
          (
            behind_label c.cases.invariant.lowers,
            (
              (cases_may (seen c.args.names.now) (InSwitch None ∷ arounds (state_of g.U.ReadsUnit.tables c.cases.builder)) rest case
                  c.in-Some.ensures.parts c.cases.invariant.may).1,
              omega (arith, counted, c.cases.invariant.room),
            ),
          ),
        ),
      ),
    )

pub switch::lower_cases-cases-preserved : goal.switch::lower_cases-cases-preserved
switch::lower_cases-cases-preserved g t c =
    let loop = c.cases.invariant in
    let begun : State = state_of g.U.ReadsUnit.tables c.args.builder.now in
    let now : State = state_of g.U.ReadsUnit.tables c.cases.builder in
    let later : State = state_of g.U.ReadsUnit.tables c.lower_case.new.builder in
    let all : Pieces = pieces_of (map syntax c.args.cases.trees.now) in
    let left : Pieces = pieces_of (map syntax c.cases.left.trees.now) in
    let rest : Pieces = pieces_of (map syntax c.in-Some.rest.trees.now) in
    let case : Syntax = syntax c.in-Some.case.tree.now in
    let split : left ≡ joined rest (Then case End) = c.in-Some.ensures.parts in
    let counted : nodes_of left ≡ nodes_of rest + nodes case = nodes_split rest case split in
    let after : FramesBehind (seen c.args.names.now) begun c.args.span all rest (switch_of c.lower_case.new.frame) later =
    cases_next later split loop.lowers c.in_ok-lower_case.ensures.lowered in
    record {
      same_reference = c.in_ok-lower_case.ensures.same_reference ∙ loop.same_reference;
      names = behind_named after c.requires.names;
      may = subst (λ (a : List Around). AreLowerableCases (seen c.args.names.now) (InSwitch None ∷ a) rest)
          (behind_arounds loop.lowers ∙ sym (behind_arounds after))
          (cases_may (seen c.args.names.now) (InSwitch None ∷ arounds now) rest case split loop.may).0;
      room = behind_room after c.requires.room;
      fewer = omega (arith, counted, loop.fewer);
      lowers = after;
    }

pub switch::lower_cases-returns-clause-lowered : goal.switch::lower_cases-returns-clause-lowered
switch::lower_cases-returns-clause-lowered g t c = cases_done c.in_default.ensures.parts c.cases.invariant.lowers

pub switch::lower_switch-lower_expression-requires-clause-names : goal.switch::lower_switch-lower_expression-requires-clause-names
switch::lower_switch-lower_expression-requires-clause-names g t c = cases_named c.in_ok-frame.ensures.lowered c.requires.names

pub switch::lower_switch-lower_expression-requires-clause-room : goal.switch::lower_switch-lower_expression-requires-clause-room
switch::lower_switch-lower_expression-requires-clause-room g t c =
    let value : ℕ = nodes (syntax c.args.discriminant.tree.now) in
    let all : ℕ = nodes_of (pieces_of (map syntax c.args.cases.trees.now)) in
    cases_room (share value) (share (value + (all + 0) + 1)) c.in_ok-frame.ensures.lowered (omega arith) c.requires.room

pub switch::lower_switch-returns-clause-lowered : goal.switch::lower_switch-returns-clause-lowered
switch::lower_switch-returns-clause-lowered g t c =
    switch_told _ c.in_ok-frame.ensures.lowered c.in_ok-value.ensures.lowered c.in_ok-finish.ensures.state

-- `try`.
