use Rattle.std.proofs.Common.{◌+◌, ◌*◌, is_some, ap, sym, ◌∙◌, arith}
use Rattle.frame_tests.proofs.FormulaSizes.{alternated_room, begun_room, grown_by, part_room, parted_room, righted_room, tested_room}
use Rattle.frame_tests.proofs.Steps.{connected_is, connected_same, selected_is, selected_same}
use Rattle.frame_tests.specs.declared.formula.Formula.{Formula}
use Rattle.frame_tests.specs.Formulas.{HasRoom, nodes}
use Rattle.frame_tests.specs.Lowering.{lowered}
use Rattle.rl_base.specs.declared.operator.LogicalOperator.TheVariants as logical
use Rattle.rl_builder.specs.Builder.{State, state_of}
use Rattle.rl_frames.specs.Frames.{LogicalParts, TernaryParts, logical_of, ternary_of, ternary_parted}
use Rattle.frame_tests.proofs.lower.+formulas.Goals as goal

-- Logical expressions.

pub lower_connected-lower_formula-requires : goal.lower_connected-lower_formula-requires
lower_connected-lower_formula-requires g t c κs within =
    let s : State = state_of g.U.ReadsUnit.tables c.args.builder.now in
    let s1 : State = state_of g.U.ReadsUnit.tables c.begin.new.b in
    let room1 : HasRoom s1 (64 * nodes c.args.right.now + (64 * nodes c.args.left.now + 8)) =
    begun_room s s1 c.args.span c.span.result (nodes c.args.left.now) (nodes c.args.right.now) c.in_ok-frame.ensures.state c.requires.room
    in
    (omega (arith, c.decreases), (within.0, (within.1, omega (arith, room1))))

pub lower_connected-right-requires : goal.lower_connected-right-requires
lower_connected-right-requires g t c =
    let s : State = state_of g.U.ReadsUnit.tables c.args.builder.now in
    let s1 : State = state_of g.U.ReadsUnit.tables c.begin.new.b in
    let room1 : HasRoom s1 (64 * nodes c.args.right.now + (64 * nodes c.args.left.now + 8)) =
    begun_room s s1 c.args.span c.span.result (nodes c.args.left.now) (nodes c.args.right.now) c.in_ok-frame.ensures.state c.requires.room
    in
    let s2 : State = state_of g.U.ReadsUnit.tables c.lower_formula.new.builder in
    let room2 : HasRoom s2 (64 * nodes c.args.left.now + 8) =
    part_room c.args.right.now s1 s2 (64 * nodes c.args.left.now + 8) c.in_ok-value.ensures.state room1 in
    record {
      «open» = ap (λ (f : LogicalParts). is_some f.aside) c.in_ok-frame.ensures.frame;
      instructions = omega (arith, room2);
      blocks = omega (arith, room2);
      identifiers = omega (arith, room2);
      types = omega (arith, room2);
    }

pub lower_connected-lower_formula-requires-2 : goal.lower_connected-lower_formula-requires-2
lower_connected-lower_formula-requires-2 g t c κs within =
    let s : State = state_of g.U.ReadsUnit.tables c.args.builder.now in
    let s1 : State = state_of g.U.ReadsUnit.tables c.begin.new.b in
    let room1 : HasRoom s1 (64 * nodes c.args.right.now + (64 * nodes c.args.left.now + 8)) =
    begun_room s s1 c.args.span c.span.result (nodes c.args.left.now) (nodes c.args.right.now) c.in_ok-frame.ensures.state c.requires.room
    in
    let s2 : State = state_of g.U.ReadsUnit.tables c.lower_formula.new.builder in
    let room2 : HasRoom s2 (64 * nodes c.args.left.now + 8) =
    part_room c.args.right.now s1 s2 (64 * nodes c.args.left.now + 8) c.in_ok-value.ensures.state room1 in
    let s3 : State = state_of g.U.ReadsUnit.tables c.right.new.b in
    let room3 : HasRoom s3 (64 * nodes c.args.left.now + 4) =
    righted_room (logical_of c.in_ok-frame.frame) s2 s3 c.in_ok-value.value c.span-2.result (nodes c.args.left.now)
    c.in_ok-right.ensures.state room2 in
    (omega (arith, c.decreases), (within.0, (within.1, omega (arith, room3))))

pub lower_connected-finish-requires : goal.lower_connected-finish-requires
lower_connected-finish-requires g t c =
    let s : State = state_of g.U.ReadsUnit.tables c.args.builder.now in
    let s1 : State = state_of g.U.ReadsUnit.tables c.begin.new.b in
    let room1 : HasRoom s1 (64 * nodes c.args.right.now + (64 * nodes c.args.left.now + 8)) =
    begun_room s s1 c.args.span c.span.result (nodes c.args.left.now) (nodes c.args.right.now) c.in_ok-frame.ensures.state c.requires.room
    in
    let s2 : State = state_of g.U.ReadsUnit.tables c.lower_formula.new.builder in
    let room2 : HasRoom s2 (64 * nodes c.args.left.now + 8) =
    part_room c.args.right.now s1 s2 (64 * nodes c.args.left.now + 8) c.in_ok-value.ensures.state room1 in
    let s3 : State = state_of g.U.ReadsUnit.tables c.right.new.b in
    let room3 : HasRoom s3 (64 * nodes c.args.left.now + 4) =
    righted_room (logical_of c.in_ok-frame.frame) s2 s3 c.in_ok-value.value c.span-2.result (nodes c.args.left.now)
    c.in_ok-right.ensures.state room2 in
    let s4 : State = state_of g.U.ReadsUnit.tables c.lower_formula-2.new.builder in
    let room4 : HasRoom s4 4 = part_room c.args.left.now s3 s4 4 c.in_ok-value-2.ensures.state room3 in
    record { instructions = omega (arith, room4); blocks = omega (arith, room4) }

pub lower_connected-returns-clause-state : goal.lower_connected-returns-clause-state
lower_connected-returns-clause-state g t c =
    connected_is c.args.operator c.args.span _ _ c.span.result c.span-2.result (lowered c.args.left.now) (lowered c.args.right.now)
    (state_of g.U.ReadsUnit.tables c.args.builder.now) (state_of g.U.ReadsUnit.tables c.begin.new.b)
    (state_of g.U.ReadsUnit.tables c.lower_formula.new.builder) (state_of g.U.ReadsUnit.tables c.right.new.b)
    (state_of g.U.ReadsUnit.tables c.lower_formula-2.new.builder) (state_of g.U.ReadsUnit.tables c.finish.new.b)
    (logical_of c.in_ok-frame.frame) (logical_of c.right.new.self)
    c.in_ok-value.value c.in_ok-value-2.value
    c.span.ensures c.span-2.ensures c.in_ok-frame.ensures.state c.in_ok-frame.ensures.frame c.in_ok-value.ensures.state
    c.in_ok-value.ensures.place c.in_ok-right.ensures.state c.in_ok-right.ensures.frame c.in_ok-value-2.ensures.state
    c.in_ok-value-2.ensures.place c.in_ok-place.ensures.state

-- Conditional expressions.

pub lower_selected-lower_formula-requires : goal.lower_selected-lower_formula-requires
lower_selected-lower_formula-requires g t c κs within =
    let s : State = state_of g.U.ReadsUnit.tables c.args.builder.now in
    let s1 : State = state_of g.U.ReadsUnit.tables c.begin.new.b in
    let room1 : HasRoom s1 (64 * nodes c.args.consequent.now + (64 * nodes c.args.alternate.now + (64 * nodes c.args.test.now + 20))) =
    tested_room s s1 c.args.span (nodes c.args.test.now) (nodes c.args.consequent.now) (nodes c.args.alternate.now)
    c.in_ok-frame.ensures.state c.requires.room in
    (omega (arith, c.decreases), (within.0, (within.1, omega (arith, room1))))

pub lower_selected-consequent-requires : goal.lower_selected-consequent-requires
lower_selected-consequent-requires g t c =
    let s : State = state_of g.U.ReadsUnit.tables c.args.builder.now in
    let s1 : State = state_of g.U.ReadsUnit.tables c.begin.new.b in
    let room1 : HasRoom s1 (64 * nodes c.args.consequent.now + (64 * nodes c.args.alternate.now + (64 * nodes c.args.test.now + 20))) =
    tested_room s s1 c.args.span (nodes c.args.test.now) (nodes c.args.consequent.now) (nodes c.args.alternate.now)
    c.in_ok-frame.ensures.state c.requires.room in
    let s2 : State = state_of g.U.ReadsUnit.tables c.lower_formula.new.builder in
    let room2 : HasRoom s2 (64 * nodes c.args.alternate.now + (64 * nodes c.args.test.now + 20)) =
    part_room c.args.consequent.now s1 s2 (64 * nodes c.args.alternate.now + (64 * nodes c.args.test.now + 20)) c.in_ok-value.ensures.state
    room1 in
    record {
      instructions = omega (arith, room2);
      blocks = omega (arith, room2);
      identifiers = omega (arith, room2);
      types = omega (arith, room2);
    }

pub lower_selected-lower_formula-requires-2 : goal.lower_selected-lower_formula-requires-2
lower_selected-lower_formula-requires-2 g t c κs within =
    let s : State = state_of g.U.ReadsUnit.tables c.args.builder.now in
    let s1 : State = state_of g.U.ReadsUnit.tables c.begin.new.b in
    let room1 : HasRoom s1 (64 * nodes c.args.consequent.now + (64 * nodes c.args.alternate.now + (64 * nodes c.args.test.now + 20))) =
    tested_room s s1 c.args.span (nodes c.args.test.now) (nodes c.args.consequent.now) (nodes c.args.alternate.now)
    c.in_ok-frame.ensures.state c.requires.room in
    let s2 : State = state_of g.U.ReadsUnit.tables c.lower_formula.new.builder in
    let room2 : HasRoom s2 (64 * nodes c.args.alternate.now + (64 * nodes c.args.test.now + 20)) =
    part_room c.args.consequent.now s1 s2 (64 * nodes c.args.alternate.now + (64 * nodes c.args.test.now + 20)) c.in_ok-value.ensures.state
    room1 in
    let s3 : State = state_of g.U.ReadsUnit.tables c.consequent.new.b in
    let room3 : HasRoom s3 (64 * nodes c.args.alternate.now + (64 * nodes c.args.test.now + 8)) =
    parted_room (ternary_of c.in_ok-frame.frame) s2 s3 c.in_ok-value.value c.span.result (nodes c.args.test.now)
    (nodes c.args.alternate.now) c.in_ok-consequent.ensures.state room2 in
    (omega (arith, c.decreases), (within.0, (within.1, omega (arith, room3))))

pub lower_selected-alternate-requires : goal.lower_selected-alternate-requires
lower_selected-alternate-requires g t c =
    let s : State = state_of g.U.ReadsUnit.tables c.args.builder.now in
    let s1 : State = state_of g.U.ReadsUnit.tables c.begin.new.b in
    let room1 : HasRoom s1 (64 * nodes c.args.consequent.now + (64 * nodes c.args.alternate.now + (64 * nodes c.args.test.now + 20))) =
    tested_room s s1 c.args.span (nodes c.args.test.now) (nodes c.args.consequent.now) (nodes c.args.alternate.now)
    c.in_ok-frame.ensures.state c.requires.room in
    let s2 : State = state_of g.U.ReadsUnit.tables c.lower_formula.new.builder in
    let room2 : HasRoom s2 (64 * nodes c.args.alternate.now + (64 * nodes c.args.test.now + 20)) =
    part_room c.args.consequent.now s1 s2 (64 * nodes c.args.alternate.now + (64 * nodes c.args.test.now + 20)) c.in_ok-value.ensures.state
    room1 in
    let s3 : State = state_of g.U.ReadsUnit.tables c.consequent.new.b in
    let room3 : HasRoom s3 (64 * nodes c.args.alternate.now + (64 * nodes c.args.test.now + 8)) =
    parted_room (ternary_of c.in_ok-frame.frame) s2 s3 c.in_ok-value.value c.span.result (nodes c.args.test.now)
    (nodes c.args.alternate.now) c.in_ok-consequent.ensures.state room2 in
    let s4 : State = state_of g.U.ReadsUnit.tables c.lower_formula-2.new.builder in
    let room4 : HasRoom s4 (64 * nodes c.args.test.now + 8) =
    part_room c.args.alternate.now s3 s4 (64 * nodes c.args.test.now + 8) c.in_ok-value-2.ensures.state room3 in
    record {
      «open» = ap (λ (f : TernaryParts). is_some f.aside)
          (c.in_ok-consequent.ensures.frame
          ∙ ap (λ (f : TernaryParts). ternary_parted f s2 c.in_ok-value.value c.span.result) c.in_ok-frame.ensures.frame);
      instructions = omega (arith, room4);
      blocks = omega (arith, room4);
      identifiers = omega (arith, room4);
      types = omega (arith, room4);
    }

pub lower_selected-lower_formula-requires-3 : goal.lower_selected-lower_formula-requires-3
lower_selected-lower_formula-requires-3 g t c κs within =
    let s : State = state_of g.U.ReadsUnit.tables c.args.builder.now in
    let s1 : State = state_of g.U.ReadsUnit.tables c.begin.new.b in
    let room1 : HasRoom s1 (64 * nodes c.args.consequent.now + (64 * nodes c.args.alternate.now + (64 * nodes c.args.test.now + 20))) =
    tested_room s s1 c.args.span (nodes c.args.test.now) (nodes c.args.consequent.now) (nodes c.args.alternate.now)
    c.in_ok-frame.ensures.state c.requires.room in
    let s2 : State = state_of g.U.ReadsUnit.tables c.lower_formula.new.builder in
    let room2 : HasRoom s2 (64 * nodes c.args.alternate.now + (64 * nodes c.args.test.now + 20)) =
    part_room c.args.consequent.now s1 s2 (64 * nodes c.args.alternate.now + (64 * nodes c.args.test.now + 20)) c.in_ok-value.ensures.state
    room1 in
    let s3 : State = state_of g.U.ReadsUnit.tables c.consequent.new.b in
    let room3 : HasRoom s3 (64 * nodes c.args.alternate.now + (64 * nodes c.args.test.now + 8)) =
    parted_room (ternary_of c.in_ok-frame.frame) s2 s3 c.in_ok-value.value c.span.result (nodes c.args.test.now)
    (nodes c.args.alternate.now) c.in_ok-consequent.ensures.state room2 in
    let s4 : State = state_of g.U.ReadsUnit.tables c.lower_formula-2.new.builder in
    let room4 : HasRoom s4 (64 * nodes c.args.test.now + 8) =
    part_room c.args.alternate.now s3 s4 (64 * nodes c.args.test.now + 8) c.in_ok-value-2.ensures.state room3 in
    let s5 : State = state_of g.U.ReadsUnit.tables c.alternate.new.b in
    let room5 : HasRoom s5 (64 * nodes c.args.test.now) =
    alternated_room (ternary_of c.consequent.new.self) s4 s5 c.in_ok-value-2.value c.span-2.result (nodes c.args.test.now)
    c.in_ok-alternate.ensures.state room4 in
    (omega (arith, c.decreases), (within.0, (within.1, omega (arith, room5))))

pub lower_selected-returns-clause-state : goal.lower_selected-returns-clause-state
lower_selected-returns-clause-state g t c =
    selected_is c.args.span _ _ c.span.result c.span-2.result (lowered c.args.test.now) (lowered c.args.consequent.now)
    (lowered c.args.alternate.now)
    (state_of g.U.ReadsUnit.tables c.args.builder.now) (state_of g.U.ReadsUnit.tables c.begin.new.b)
    (state_of g.U.ReadsUnit.tables c.lower_formula.new.builder) (state_of g.U.ReadsUnit.tables c.consequent.new.b)
    (state_of g.U.ReadsUnit.tables c.lower_formula-2.new.builder) (state_of g.U.ReadsUnit.tables c.alternate.new.b)
    (state_of g.U.ReadsUnit.tables c.lower_formula-3.new.builder) (state_of g.U.ReadsUnit.tables c.finish.new.b)
    (ternary_of c.in_ok-frame.frame) (ternary_of c.consequent.new.self) (ternary_of c.alternate.new.self)
    c.in_ok-value.value c.in_ok-value-2.value c.in_ok-value-3.value
    c.span.ensures c.span-2.ensures c.in_ok-frame.ensures.state c.in_ok-frame.ensures.frame
    c.in_ok-value.ensures.state c.in_ok-value.ensures.place c.in_ok-consequent.ensures.state c.in_ok-consequent.ensures.frame
    c.in_ok-value-2.ensures.state c.in_ok-value-2.ensures.place c.in_ok-alternate.ensures.state c.in_ok-alternate.ensures.frame
    c.in_ok-value-3.ensures.state c.in_ok-value-3.ensures.place c.in_ok-place.ensures.state

-- Formulas.

pub lower_formula-returns-in_ok-place-in-Truth-clause-grown : goal.lower_formula-returns-in_ok-place-in-Truth-clause-grown
lower_formula-returns-in_ok-place-in-Truth-clause-grown g t c =
    grown_by c.args.formula.now (state_of g.U.ReadsUnit.tables c.args.builder.now) (state_of g.U.ReadsUnit.tables c.put.new.builder)
    (c.in_ok-place-in-Truth.ensures.state ∙ ap (λ (f : Formula). (lowered f (state_of g.U.ReadsUnit.tables c.args.builder.now)).state) (sym c.in-Truth.is))

pub lower_formula-returns-in_ok-place-in-Both-clause-state : goal.lower_formula-returns-in_ok-place-in-Both-clause-state
lower_formula-returns-in_ok-place-in-Both-clause-state g t c =
    connected_same logical.And c.in-Both.span _ _ c.in-Both.left.value c.in-Both.right.value
    (state_of g.U.ReadsUnit.tables c.args.builder.now)
    (state_of g.U.ReadsUnit.tables c.lower_connected.new.builder) c.deref-in-Both.ensures c.deref-in-Both-2.ensures
    c.in_ok-place-in-Both.ensures.state
    ∙ ap (λ (f : Formula). (lowered f (state_of g.U.ReadsUnit.tables c.args.builder.now)).state) (sym c.in-Both.is)

pub lower_formula-returns-in_ok-place-in-Both-clause-grown : goal.lower_formula-returns-in_ok-place-in-Both-clause-grown
lower_formula-returns-in_ok-place-in-Both-clause-grown g t c =
    grown_by c.args.formula.now (state_of g.U.ReadsUnit.tables c.args.builder.now)
    (state_of g.U.ReadsUnit.tables c.lower_connected.new.builder)
    (lower_formula-returns-in_ok-place-in-Both-clause-state g t c)

pub lower_formula-returns-in_ok-place-in-Either-clause-state : goal.lower_formula-returns-in_ok-place-in-Either-clause-state
lower_formula-returns-in_ok-place-in-Either-clause-state g t c =
    connected_same logical.Or c.in-Either.span _ _ c.in-Either.left.value c.in-Either.right.value
    (state_of g.U.ReadsUnit.tables c.args.builder.now)
    (state_of g.U.ReadsUnit.tables c.lower_connected-in-Either.new.builder) c.deref-in-Either.ensures c.deref-in-Either-2.ensures
    c.in_ok-place-in-Either.ensures.state
    ∙ ap (λ (f : Formula). (lowered f (state_of g.U.ReadsUnit.tables c.args.builder.now)).state) (sym c.in-Either.is)

pub lower_formula-returns-in_ok-place-in-Either-clause-grown : goal.lower_formula-returns-in_ok-place-in-Either-clause-grown
lower_formula-returns-in_ok-place-in-Either-clause-grown g t c =
    grown_by c.args.formula.now (state_of g.U.ReadsUnit.tables c.args.builder.now)
    (state_of g.U.ReadsUnit.tables c.lower_connected-in-Either.new.builder)
    (lower_formula-returns-in_ok-place-in-Either-clause-state g t c)

pub lower_formula-returns-in_ok-place-in-Choice-clause-state : goal.lower_formula-returns-in_ok-place-in-Choice-clause-state
lower_formula-returns-in_ok-place-in-Choice-clause-state g t c =
    selected_same c.in-Choice.span _ _ _ c.in-Choice.test.value c.in-Choice.consequent.value c.in-Choice.alternate.value
    (state_of g.U.ReadsUnit.tables c.args.builder.now) (state_of g.U.ReadsUnit.tables c.lower_selected.new.builder)
    c.deref-in-Choice.ensures
    c.deref-in-Choice-2.ensures c.deref-in-Choice-3.ensures c.in_ok-place-in-Choice.ensures.state
    ∙ ap (λ (f : Formula). (lowered f (state_of g.U.ReadsUnit.tables c.args.builder.now)).state) (sym c.in-Choice.is)

pub lower_formula-returns-in_ok-place-in-Choice-clause-grown : goal.lower_formula-returns-in_ok-place-in-Choice-clause-grown
lower_formula-returns-in_ok-place-in-Choice-clause-grown g t c =
    grown_by c.args.formula.now (state_of g.U.ReadsUnit.tables c.args.builder.now)
    (state_of g.U.ReadsUnit.tables c.lower_selected.new.builder)
    (lower_formula-returns-in_ok-place-in-Choice-clause-state g t c)
