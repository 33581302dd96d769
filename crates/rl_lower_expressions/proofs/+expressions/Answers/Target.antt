use Rattle.rl_builder.specs.Builder.{State, state_of}
use Rattle.rl_lower_expressions.proofs.Derivations.{index_told, member_told}
use Rattle.rl_lower_parts.proofs.Derivations.{grown}
use Rattle.rl_lower_expressions.proofs.OperandDerivations.{index_may, static_may}
use Rattle.rl_grammar.specs.Fields.{maybe}
use Rattle.rl_grammar.specs.declared.kind.Kind.TheVariants as kind
use Rattle.rl_hir.specs.declared.instruction.InstructionKind.TheVariants as kinds
use Rattle.rl_hir.specs.declared.instruction.Pattern.TheVariants as patterns
use Rattle.rl_lower_expressions.proofs.TargetDerivations.{ahead_named, all_lowered, apart_named, apart_room_at, array_may, as_index}
use Rattle.rl_lower_expressions.proofs.TargetDerivations.{as_member, default_before, default_behind, default_may}
use Rattle.rl_lower_expressions.proofs.TargetDerivations.{default_named, default_room}
use Rattle.rl_lower_expressions.proofs.TargetDerivations.{first_may, first_room, name_room, next_left, object_may, somewhere, takes_default}
use Rattle.rl_lower_expressions.proofs.TargetDerivations.{defaults_name, defaults_target, left_may, left_ok, left_room_at}
use Rattle.rl_lower_expressions.proofs.TargetDerivations.{target_apart_ok, target_defaulted_ok, target_lost_ok, target_member_ok}
use Rattle.rl_lower_expressions.proofs.TargetDerivations.{taken_as, target_pattern, target_shown}
use Rattle.rl_lower_parts.proofs.LeftParts.{apart_room, left_room, look_room, object_rest, row_counts, take_room, taken_may, taken_nodes}
use Rattle.rl_lower_parts.proofs.LeftParts.{part_counts}
use Rattle.rl_lower_parts.specs.Patterns.{HasTargetRoom, all_left, seen_part}
use Rattle.rl_lower_parts.specs.declared.target_items.LeftTarget.{LeftTarget}
use Rattle.rl_lower_parts.specs.declared.target_items.TargetPart.TheVariants as part
use Rattle.rl_lowered.specs.Items.{TakesArray, TakesObject, destructured}
use Rattle.rl_model.specs.Shapes.{is_plain_rest}
use Rattle.rl_optional_frames.specs.Frames.{default_of}
use Rattle.rl_promises.specs.Lowerable.{IsLowerableTo}
use Rattle.rl_lowered.specs.Promised.{HasRoom, nodes_left, share}
use Rattle.rl_names.specs.Seen.{seen}
use Rattle.rl_runs.specs.Blocks.{size_of}
use Rattle.rl_syntax.specs.Syntax.{Pieces, Syntax, nodes, pieces_of, span_of, syntax}
use Rattle.std.proofs.Common.{rules, ◌≡◌, ℕ, ◌+◌, ◌≤◌, List, ◌∷◌, Some, drop, map, refl, ap, sym, ◌∙◌, subst, arith}
use Rattle.std.proofs.lemmas.List.{drop_all, drop_more}
use Rattle.rl_lower_expressions.proofs.+expressions.Goals as goal

pub target::lower_default-returns-clause-defaulted : goal.target::lower_default-returns-clause-defaulted
target::lower_default-returns-clause-defaulted g t c =
    takes_default {names = seen c.args.names.now} (default_of c.in_ok-frame.frame) c.args.default.fit c.requires.names
    c.in_ok-frame.ensures.state c.in_ok-frame.ensures.frame c.in_ok-note_moved.ensures.state c.in_ok-default.ensures.lowered
    c.in_ok-place.ensures.state c.in_ok-place.ensures.place

pub target::lower_default-lower_expression-requires : goal.target::lower_default-lower_expression-requires
target::lower_default-lower_expression-requires g t c =
    let e : Syntax = syntax c.args.default.tree.now in
    let s : State = state_of g.U.ReadsUnit.tables c.args.builder.now in
    let b : State = state_of g.U.ReadsUnit.tables c.begin.new.b in
    let noted : State = state_of g.U.ReadsUnit.tables c.note_moved.new.builder in
    let named = default_named (seen c.args.names.now) e s b noted c.args.at c.in_ok-frame.ensures.state c.in_ok-note_moved.ensures.state
    c.requires.names in
    let roomy = default_room (seen c.args.names.now) e s b noted c.args.at c.in_ok-frame.ensures.state c.in_ok-note_moved.ensures.state
    c.requires.room in
    λ lifetimes outlives. (search rules, (search rules, (named, (c.requires.may, roomy))))

pub target::lower_default-finish-requires : goal.target::lower_default-finish-requires
target::lower_default-finish-requires g t c =
    let e : Syntax = syntax c.args.default.tree.now in
    let s : State = state_of g.U.ReadsUnit.tables c.args.builder.now in
    let b : State = state_of g.U.ReadsUnit.tables c.begin.new.b in
    let noted : State = state_of g.U.ReadsUnit.tables c.note_moved.new.builder in
    let behind : State = state_of g.U.ReadsUnit.tables c.lower_expression.new.builder in
    let roomy : HasRoom noted (share (nodes e)) =
    default_room (seen c.args.names.now) e s b noted c.args.at c.in_ok-frame.ensures.state c.in_ok-note_moved.ensures.state
    c.requires.room in
    let grew : size_of behind ≤ size_of noted + share (nodes e) = c.in_ok-default.ensures.lowered.size in
    record { room = omega (arith, roomy, grew) }

pub target::lower_array_target-returns-clause-lowered : goal.target::lower_array_target-returns-clause-lowered
target::lower_array_target-returns-clause-lowered g t c = λ there.
    target_pattern (patterns.Array c.in_ok-taken.taken.items) there TakesArray c.in_ok-forced.ensures.looked
    (taken_as c.as_slice.ensures c.in_ok-taken.ensures.taken) refl c.in_ok-place.ensures.state c.in_ok-place.ensures.place
    c.in_ok-lower_left.ensures.lowered

pub target::lower_array_target-look_at_elements-requires : goal.target::lower_array_target-look_at_elements-requires
target::lower_array_target-look_at_elements-requires g t c =
    record {
      names = c.requires.names;
      may = (c.requires.may somewhere).0;
      room = look_room (state_of g.U.ReadsUnit.tables c.args.builder.now) (pieces_of (map syntax c.args.items.trees.now))
          (maybe c.args.rest (λ t. syntax t.tree.now)) (c.requires.room somewhere);
    }

pub target::lower_array_target-take_elements-requires : goal.target::lower_array_target-take_elements-requires
target::lower_array_target-take_elements-requires g t c =
    let es : Pieces = pieces_of (map syntax c.args.items.trees.now) in
    record {
      names = ahead_named c.in_ok-forced.ensures.looked c.requires.names;
      forced = sym c.in_ok-forced.ensures.forced;
      may = (c.requires.may somewhere).1;
      room = take_room es (maybe c.args.rest (λ t. syntax t.tree.now)) (c.requires.room somewhere)
          (row_counts kind.AssignmentTargetElement es refl c.args.items.fit) c.in_ok-forced.ensures.looked;
    }

pub target::lower_array_target-take_apart-requires : goal.target::lower_array_target-take_apart-requires
target::lower_array_target-take_apart-requires g t c =
    record {
      room = apart_room c.in_ok-taken.taken.left (c.requires.room somewhere) c.in_ok-forced.ensures.looked c.in_ok-taken.ensures.taken;
    }

pub target::lower_array_target-lower_left-requires : goal.target::lower_array_target-lower_left-requires
target::lower_array_target-lower_left-requires g t c =
    let apart : State = state_of g.U.ReadsUnit.tables c.take_apart.new.builder in
    let taken = taken_as c.as_slice.ensures c.in_ok-taken.ensures.taken in
    let named = apart_named _ _ _ apart c.in_ok-forced.ensures.looked taken c.in_ok-place.ensures.state c.requires.names in
    let free = taken_may taken (c.requires.may somewhere).1 (c.requires.may somewhere).2 in
    let roomy = left_room c.as_slice.result.now apart (grown (state_of g.U.ReadsUnit.tables c.take_elements.new.builder) apart
    (destructured kinds.Reassign (patterns.Array c.in_ok-taken.taken.items) c.args.value) (Some c.args.at) c.in_ok-place.ensures.state)
    (c.requires.room somewhere)
    c.in_ok-forced.ensures.looked taken in
    λ lifetimes outlives. (omega (arith, taken_nodes taken), (search rules, (named, (free, roomy))))

pub target::lower_object_target-returns-clause-lowered : goal.target::lower_object_target-returns-clause-lowered
target::lower_object_target-returns-clause-lowered g t c = λ there.
    target_pattern (patterns.Object c.in_ok-taken.taken.properties) there TakesObject c.in_ok-forced.ensures.looked
    (taken_as c.as_slice.ensures c.in_ok-taken.ensures.taken) refl c.in_ok-place.ensures.state c.in_ok-place.ensures.place
    c.in_ok-lower_left.ensures.lowered

pub target::lower_object_target-look_at_properties-requires : goal.target::lower_object_target-look_at_properties-requires
target::lower_object_target-look_at_properties-requires g t c =
    record {
      names = c.requires.names;
      may = (c.requires.may somewhere).0;
      room = look_room (state_of g.U.ReadsUnit.tables c.args.builder.now) (pieces_of (map syntax c.args.properties.trees.now))
          (maybe c.args.rest (λ t. syntax t.tree.now)) (c.requires.room somewhere);
    }

pub target::lower_object_target-take_properties-requires : goal.target::lower_object_target-take_properties-requires
target::lower_object_target-take_properties-requires g t c =
    let es : Pieces = pieces_of (map syntax c.args.properties.trees.now) in
    record {
      names = ahead_named c.in_ok-forced.ensures.looked c.requires.names;
      forced = sym c.in_ok-forced.ensures.forced;
      may = (c.requires.may somewhere).1;
      room = take_room es (maybe c.args.rest (λ t. syntax t.tree.now)) (c.requires.room somewhere)
          (row_counts kind.AssignmentTargetProperty es refl c.args.properties.fit) c.in_ok-forced.ensures.looked;
    }

pub target::lower_object_target-take_apart-requires : goal.target::lower_object_target-take_apart-requires
target::lower_object_target-take_apart-requires g t c =
    record {
      room = apart_room c.in_ok-taken.taken.left (c.requires.room somewhere) c.in_ok-forced.ensures.looked c.in_ok-taken.ensures.taken;
    }

pub target::lower_object_target-lower_left-requires : goal.target::lower_object_target-lower_left-requires
target::lower_object_target-lower_left-requires g t c =
    let apart : State = state_of g.U.ReadsUnit.tables c.take_apart.new.builder in
    let rest : Syntax = maybe c.args.rest (λ t. syntax t.tree.now) in
    let taken = taken_as c.as_slice.ensures c.in_ok-taken.ensures.taken in
    let named = apart_named _ _ _ apart c.in_ok-forced.ensures.looked taken c.in_ok-place.ensures.state c.requires.names in
    let free = taken_may taken (c.requires.may somewhere).1
    (object_rest (IsLowerableTo (seen c.args.names.now) rest) (is_plain_rest rest) (c.requires.may somewhere).2) in
    let roomy = left_room c.as_slice.result.now apart (grown (state_of g.U.ReadsUnit.tables c.take_properties.new.builder) apart
    (destructured kinds.Reassign (patterns.Object c.in_ok-taken.taken.properties) c.args.value) (Some c.args.at)
    c.in_ok-place.ensures.state) (c.requires.room somewhere)
    c.in_ok-forced.ensures.looked taken in
    λ lifetimes outlives. (omega (arith, taken_nodes taken), (search rules, (named, (free, roomy))))

pub target::lower_target-returns-in-Identifier-clause-lowered : goal.target::lower_target-returns-in-Identifier-clause-lowered
target::lower_target-returns-in-Identifier-clause-lowered g t c =
    target_shown (seen c.args.names.now) c.args.at c.args.value (state_of g.U.ReadsUnit.tables c.args.builder.now)
    (state_of g.U.ReadsUnit.tables c.store_name.new.builder) c.store_name.result
    (c.identifier_reference_view-identifier.ensures ∙ c.in-Identifier.ensures) c.store_name.ensures.lowered

pub target::lower_target-returns-in_ok-member-in-Member-clause-lowered
    : goal.target::lower_target-returns-in_ok-member-in-Member-clause-lowered
target::lower_target-returns-in_ok-member-in-Member-clause-lowered g t c =
    target_member_ok c.args.at c.args.value (state_of g.U.ReadsUnit.tables c.store_member.new.builder) c.in_ok-member-in-Member.member
    c.store_member.result
    (member_told (seen c.args.names.now) c.in-Member.optional c.in-Member.ensures
    (as_member (seen c.args.names.now) c.in-Member.ensures c.requires.may))
    c.in_ok-member-in-Member.ensures.lowered c.store_member.ensures.state c.store_member.ensures.place

pub target::lower_target-lower_static-requires : goal.target::lower_target-lower_static-requires
target::lower_target-lower_static-requires g t c =
    let free = static_may (seen c.args.names.now) c.in-Member.optional c.in-Member.ensures
    (as_member (seen c.args.names.now) c.in-Member.ensures c.requires.may) in
    λ lifetimes outlives. (search rules, (search rules, (search rules, (free, search rules))))

pub target::lower_target-returns-in_ok-member-in-Index-clause-lowered
    : goal.target::lower_target-returns-in_ok-member-in-Index-clause-lowered
target::lower_target-returns-in_ok-member-in-Index-clause-lowered g t c =
    target_member_ok c.args.at c.args.value (state_of g.U.ReadsUnit.tables c.store_member-in-Index.new.builder)
    c.in_ok-member-in-Index.member c.store_member-in-Index.result
    (index_told (seen c.args.names.now) c.in-Index.optional c.in-Index.ensures
    (as_index (seen c.args.names.now) c.in-Index.ensures c.requires.may))
    c.in_ok-member-in-Index.ensures.lowered c.store_member-in-Index.ensures.state c.store_member-in-Index.ensures.place

pub target::lower_target-lower_computed-requires : goal.target::lower_target-lower_computed-requires
target::lower_target-lower_computed-requires g t c =
    let free = index_may (seen c.args.names.now) c.in-Index.optional c.in-Index.ensures
    (as_index (seen c.args.names.now) c.in-Index.ensures c.requires.may) in
    λ lifetimes outlives. (search rules, (search rules, (search rules, (free, search rules))))

pub target::lower_target-returns-in-PrivateMember-clause-lowered : goal.target::lower_target-returns-in-PrivateMember-clause-lowered
target::lower_target-returns-in-PrivateMember-clause-lowered g t c =
    target_lost_ok (seen c.args.names.now) c.args.at c.args.value (state_of g.U.ReadsUnit.tables c.args.builder.now)
    (state_of g.U.ReadsUnit.tables c.lose_target.new.builder) c.lose_target.result c.in-PrivateMember.ensures refl
    c.lose_target.ensures.state c.lose_target.ensures.place

pub target::lower_target-returns-in-Array-clause-lowered : goal.target::lower_target-returns-in-Array-clause-lowered
target::lower_target-returns-in-Array-clause-lowered g t c =
    target_apart_ok (seen c.args.names.now) c.args.at c.args.value (state_of g.U.ReadsUnit.tables c.args.builder.now)
    (state_of g.U.ReadsUnit.tables c.lower_array_target.new.builder) c.lower_array_target.result c.in-Array.ensures
    c.lower_array_target.ensures.lowered

pub target::lower_target-lower_array_target-requires : goal.target::lower_target-lower_array_target-requires
target::lower_target-lower_array_target-requires g t c =
    let free = array_may (seen c.args.names.now) c.in-Array.ensures c.requires.may in
    let roomy = apart_room_at (state_of g.U.ReadsUnit.tables c.args.builder.now) c.in-Array.ensures c.requires.room in
    λ lifetimes outlives. (search rules, (search rules, (c.requires.names, (free, roomy))))

pub target::lower_target-returns-in-Object-clause-lowered : goal.target::lower_target-returns-in-Object-clause-lowered
target::lower_target-returns-in-Object-clause-lowered g t c =
    target_apart_ok (seen c.args.names.now) c.args.at c.args.value (state_of g.U.ReadsUnit.tables c.args.builder.now)
    (state_of g.U.ReadsUnit.tables c.lower_object_target.new.builder) c.lower_object_target.result c.in-Object.ensures
    c.lower_object_target.ensures.lowered

pub target::lower_target-lower_object_target-requires : goal.target::lower_target-lower_object_target-requires
target::lower_target-lower_object_target-requires g t c =
    let free = object_may (seen c.args.names.now) c.in-Object.ensures c.requires.may in
    let roomy = apart_room_at (state_of g.U.ReadsUnit.tables c.args.builder.now) c.in-Object.ensures c.requires.room in
    λ lifetimes outlives. (search rules, (search rules, (c.requires.names, (free, roomy))))

pub target::lower_target-returns-in-As-clause-lowered : goal.target::lower_target-returns-in-As-clause-lowered
target::lower_target-returns-in-As-clause-lowered g t c =
    target_lost_ok (seen c.args.names.now) c.args.at c.args.value (state_of g.U.ReadsUnit.tables c.args.builder.now)
    (state_of g.U.ReadsUnit.tables c.lose_target-in-As.new.builder) c.lose_target-in-As.result c.in-As.ensures refl
    c.lose_target-in-As.ensures.state c.lose_target-in-As.ensures.place

pub target::lower_target-returns-in-Satisfies-clause-lowered : goal.target::lower_target-returns-in-Satisfies-clause-lowered
target::lower_target-returns-in-Satisfies-clause-lowered g t c =
    target_lost_ok (seen c.args.names.now) c.args.at c.args.value (state_of g.U.ReadsUnit.tables c.args.builder.now)
    (state_of g.U.ReadsUnit.tables c.lose_target-in-Satisfies.new.builder) c.lose_target-in-Satisfies.result c.in-Satisfies.ensures refl
    c.lose_target-in-Satisfies.ensures.state
    c.lose_target-in-Satisfies.ensures.place

pub target::lower_target-returns-in-Assert-clause-lowered : goal.target::lower_target-returns-in-Assert-clause-lowered
target::lower_target-returns-in-Assert-clause-lowered g t c =
    target_lost_ok (seen c.args.names.now) c.args.at c.args.value (state_of g.U.ReadsUnit.tables c.args.builder.now)
    (state_of g.U.ReadsUnit.tables c.lose_target-in-Assert.new.builder) c.lose_target-in-Assert.result c.in-Assert.ensures refl
    c.lose_target-in-Assert.ensures.state
    c.lose_target-in-Assert.ensures.place

pub target::lower_target-returns-in-NonNull-clause-lowered : goal.target::lower_target-returns-in-NonNull-clause-lowered
target::lower_target-returns-in-NonNull-clause-lowered g t c =
    target_lost_ok (seen c.args.names.now) c.args.at c.args.value (state_of g.U.ReadsUnit.tables c.args.builder.now)
    (state_of g.U.ReadsUnit.tables c.lose_target-in-NonNull.new.builder) c.lose_target-in-NonNull.result c.in-NonNull.ensures refl
    c.lose_target-in-NonNull.ensures.state
    c.lose_target-in-NonNull.ensures.place

pub target::lower_maybe_default-returns-in-Target-clause-lowered : goal.target::lower_maybe_default-returns-in-Target-clause-lowered
target::lower_maybe_default-returns-in-Target-clause-lowered g t c =
    target_shown (seen c.args.names.now) c.args.at c.args.value (state_of g.U.ReadsUnit.tables c.args.builder.now)
    (state_of g.U.ReadsUnit.tables c.lower_target.new.builder) c.lower_target.result c.in-Target.ensures c.lower_target.ensures.lowered

pub target::lower_maybe_default-lower_target-requires : goal.target::lower_maybe_default-lower_target-requires
target::lower_maybe_default-lower_target-requires g t c =
    let free = subst (IsLowerableTo (seen c.args.names.now)) (sym c.in-Target.ensures) c.requires.may in
    let roomy = subst (HasTargetRoom (state_of g.U.ReadsUnit.tables c.args.builder.now)) (sym c.in-Target.ensures) c.requires.room in
    λ lifetimes outlives. (search rules, (search rules, (c.requires.names, (free, roomy))))

pub target::lower_maybe_default-returns-in_ok-value-in-Default-clause-lowered
    : goal.target::lower_maybe_default-returns-in_ok-value-in-Default-clause-lowered
target::lower_maybe_default-returns-in_ok-value-in-Default-clause-lowered g t c =
    target_defaulted_ok c.args.at (state_of g.U.ReadsUnit.tables c.lower_target-in-Default.new.builder) c.lower_target-in-Default.result
    c.in-Default.ensures
    (defaults_target (syntax c.in-Default.target.tree.now) (syntax c.in-Default.default.tree.now) c.in-Default.target.fit)
    c.in_ok-value-in-Default.ensures.defaulted
    c.lower_target-in-Default.ensures.lowered

pub target::lower_maybe_default-lower_default-requires : goal.target::lower_maybe_default-lower_default-requires
target::lower_maybe_default-lower_default-requires g t c =
    let defaults = defaults_target (syntax c.in-Default.target.tree.now) (syntax c.in-Default.default.tree.now) c.in-Default.target.fit in
    let free = (default_may (seen c.args.names.now) c.in-Default.there c.in-Default.ensures defaults c.requires.may).0 in
    let roomy = default_before (state_of g.U.ReadsUnit.tables c.args.builder.now) c.in-Default.there c.in-Default.ensures defaults
    (part_counts (part.Target c.in-Default.target)) c.requires.room in
    λ lifetimes outlives. (search rules, (search rules, (c.requires.names, (free, roomy))))

pub target::lower_maybe_default-lower_target-requires-in-Default : goal.target::lower_maybe_default-lower_target-requires-in-Default
target::lower_maybe_default-lower_target-requires-in-Default g t c =
    let defaults = defaults_target (syntax c.in-Default.target.tree.now) (syntax c.in-Default.default.tree.now) c.in-Default.target.fit in
    let defaulted = c.in_ok-value-in-Default.ensures.defaulted in
    let free = (default_may (seen c.args.names.now) c.in-Default.there c.in-Default.ensures defaults c.requires.may).1 in
    let roomy = default_behind (state_of g.U.ReadsUnit.tables c.args.builder.now)
    (state_of g.U.ReadsUnit.tables c.lower_default.new.builder) c.in-Default.there c.in-Default.ensures defaults defaulted
    c.requires.room in
    λ lifetimes outlives. (search rules, (search rules, (defaulted.named, (free, roomy))))

pub target::lower_left_part-returns-in-MaybeDefault-clause-lowered : goal.target::lower_left_part-returns-in-MaybeDefault-clause-lowered
target::lower_left_part-returns-in-MaybeDefault-clause-lowered g t c =
    left_ok (seen c.args.names.now) c.args.left.value (state_of g.U.ReadsUnit.tables c.args.builder.now) _ c.lower_maybe_default.result
    c.in-MaybeDefault.is refl c.part_span-span.ensures c.lower_maybe_default.ensures.lowered

pub target::lower_left_part-lower_maybe_default-requires : goal.target::lower_left_part-lower_maybe_default-requires
target::lower_left_part-lower_maybe_default-requires g t c =
    let free = left_may (seen c.args.names.now) c.in-MaybeDefault.is c.requires.may in
    let own = c.part_span-span.ensures ∙ ap (λ p. span_of (seen_part p)) c.in-MaybeDefault.is in
    let roomy = left_room_at (state_of g.U.ReadsUnit.tables c.args.builder.now) c.in-MaybeDefault.is c.requires.room in
    λ lifetimes outlives. (search rules, (search rules, (c.requires.names, (free, (own, roomy)))))

pub target::lower_left_part-returns-in-Target-clause-lowered : goal.target::lower_left_part-returns-in-Target-clause-lowered
target::lower_left_part-returns-in-Target-clause-lowered g t c =
    left_ok (seen c.args.names.now) c.args.left.value (state_of g.U.ReadsUnit.tables c.args.builder.now) _ c.lower_target.result
    c.in-Target.is refl c.part_span-span.ensures c.lower_target.ensures.lowered

pub target::lower_left_part-lower_target-requires : goal.target::lower_left_part-lower_target-requires
target::lower_left_part-lower_target-requires g t c =
    let free = left_may (seen c.args.names.now) c.in-Target.is c.requires.may in
    let roomy = left_room_at (state_of g.U.ReadsUnit.tables c.args.builder.now) c.in-Target.is c.requires.room in
    λ lifetimes outlives. (search rules, (search rules, (c.requires.names, (free, roomy))))

pub target::lower_left_part-returns-in-Name-clause-lowered : goal.target::lower_left_part-returns-in-Name-clause-lowered
target::lower_left_part-returns-in-Name-clause-lowered g t c =
    left_ok (seen c.args.names.now) c.args.left.value (state_of g.U.ReadsUnit.tables c.args.builder.now) _ c.store_name.result c.in-Name.is
    c.identifier_reference_view-identifier.ensures c.part_span-span.ensures
    c.store_name.ensures.lowered

pub target::lower_left_part-store_name-requires : goal.target::lower_left_part-store_name-requires
target::lower_left_part-store_name-requires g t c =
    record {
      names = c.requires.names;
      free = subst (IsLowerableTo (seen c.args.names.now)) (sym c.identifier_reference_view-identifier.ensures)
          (left_may (seen c.args.names.now) c.in-Name.is c.requires.may);
      room = name_room (state_of g.U.ReadsUnit.tables c.args.builder.now) c.identifier_reference_view-identifier.ensures
          (left_room_at (state_of g.U.ReadsUnit.tables c.args.builder.now) c.in-Name.is c.requires.room);
    }

pub target::lower_left_part-returns-in_ok-value-in-Short-clause-lowered
    : goal.target::lower_left_part-returns-in_ok-value-in-Short-clause-lowered
target::lower_left_part-returns-in_ok-value-in-Short-clause-lowered g t c =
    left_ok (seen c.args.names.now) c.args.left.value (state_of g.U.ReadsUnit.tables c.args.builder.now) _ c.store_name-in-Short.result
    c.in-Short.is refl refl
    (target_defaulted_ok (span_of (seen_part c.args.left.part)) (state_of g.U.ReadsUnit.tables c.store_name-in-Short.new.builder)
    c.store_name-in-Short.result refl
    (defaults_name (syntax c.in-Short.name.tree.now) (syntax c.in-Short.default.tree.now) c.in-Short.name.fit c.in-Short.default.fit)
    c.in_ok-value-in-Short.ensures.defaulted
    (target_shown (seen c.args.names.now) c.in-Short.at.span c.in_ok-value-in-Short.value
    (state_of g.U.ReadsUnit.tables c.lower_default.new.builder)
    (state_of g.U.ReadsUnit.tables c.store_name-in-Short.new.builder) c.store_name-in-Short.result
    c.identifier_reference_view-identifier-in-Short.ensures
    c.store_name-in-Short.ensures.lowered))

pub target::lower_left_part-lower_default-requires : goal.target::lower_left_part-lower_default-requires
target::lower_left_part-lower_default-requires g t c =
    let s : State = state_of g.U.ReadsUnit.tables c.args.builder.now in
    let defaults = defaults_name (syntax c.in-Short.name.tree.now) (syntax c.in-Short.default.tree.now) c.in-Short.name.fit
    c.in-Short.default.fit in
    let free = (default_may (seen c.args.names.now) c.in-Short.at refl defaults
    (left_may (seen c.args.names.now) c.in-Short.is c.requires.may)).0 in
    let roomy = default_before s c.in-Short.at refl defaults (part_counts (part.Name c.in-Short.name))
    (left_room_at s c.in-Short.is c.requires.room) in
    λ lifetimes outlives. (search rules, (search rules, (c.requires.names, (free, roomy))))

pub target::lower_left_part-store_name-requires-in-Short : goal.target::lower_left_part-store_name-requires-in-Short
target::lower_left_part-store_name-requires-in-Short g t c =
    let s : State = state_of g.U.ReadsUnit.tables c.args.builder.now in
    let behind : State = state_of g.U.ReadsUnit.tables c.lower_default.new.builder in
    let defaults = defaults_name (syntax c.in-Short.name.tree.now) (syntax c.in-Short.default.tree.now) c.in-Short.name.fit
    c.in-Short.default.fit in
    let defaulted = c.in_ok-value-in-Short.ensures.defaulted in
    record {
      names = defaulted.named;
      free = subst (IsLowerableTo (seen c.args.names.now)) (sym c.identifier_reference_view-identifier-in-Short.ensures)
          (default_may (seen c.args.names.now) c.in-Short.at refl defaults
          (left_may (seen c.args.names.now) c.in-Short.is c.requires.may)).1;
      room = name_room behind c.identifier_reference_view-identifier-in-Short.ensures
          (default_behind s behind c.in-Short.at refl defaults defaulted (left_room_at s c.in-Short.is c.requires.room));
    }

pub target::lower_left-returns-clause-lowered : goal.target::lower_left-returns-clause-lowered
target::lower_left-returns-clause-lowered g t c =
    all_lowered c.args.left.now (drop_all c.parts.part-index c.args.left.now (omega (arith, c.parts-test.false)))
    c.parts.invariant.left.gives

pub target::lower_left-parts-preserved : goal.target::lower_left-parts-preserved
target::lower_left-parts-preserved g t c =
    let all : List LeftTarget = c.args.left.now in
    let index : ℕ = c.parts.part-index in
    let split : drop index all ≡ c.part-item.result ∷ drop (index + 1) all =
    drop_more all index c.part-item.result c.parts-test.true
    ∙ ap (λ (x : LeftTarget). x ∷ drop (index + 1) all) (sym c.part-item.is) in
    record {
      same_reference = c.in_ok-lower_left_part.ensures.same_reference ∙ c.parts.invariant.same_reference;
      left = next_left (state_of g.U.ReadsUnit.tables c.lower_left_part.new.builder) split c.in_ok-lower_left_part.ensures.lowered
          c.parts.invariant.left;
    }

pub target::lower_left-lower_left_part-requires : goal.target::lower_left-lower_left_part-requires
target::lower_left-lower_left_part-requires g t c =
    let all : List LeftTarget = c.args.left.now in
    let index : ℕ = c.parts.part-index in
    let loop = c.parts.invariant.left in
    let split : drop index all ≡ c.part-item.result ∷ drop (index + 1) all =
    drop_more all index c.part-item.result c.parts-test.true
    ∙ ap (λ (x : LeftTarget). x ∷ drop (index + 1) all) (sym c.part-item.is) in
    let counted : nodes_left (all_left (drop index all))
    ≡ nodes (seen_part c.part-item.result.part) + nodes_left (all_left (drop (index + 1) all)) =
    ap (λ (l : List LeftTarget). nodes_left (all_left l)) split in
    let free = first_may (seen c.args.names.now) split loop.may in
    let roomy = first_room (state_of g.U.ReadsUnit.tables c.parts.builder) split loop.room in
    λ lifetimes outlives. (omega (arith, counted, loop.fewer), (search rules, (loop.names_now, (free, roomy))))
