use Rattle.std.proofs.Common.{rules, ◌≡◌, ℕ, ◌+◌, List, ◌∷◌, Some, drop, refl, sym, ap, ◌∙◌, arith}
use Rattle.std.proofs.lemmas.List.{drop_all, drop_more}
use Rattle.rl_builder.specs.Builder.{State, state_of}
use Rattle.rl_hir.specs.declared.instruction.InstructionValue.{InstructionValue}
use Rattle.rl_hir.specs.declared.instruction.Pattern.TheVariants as patterns
use Rattle.rl_lower_parts.proofs.Derivations.{grown}
use Rattle.rl_lower_statements.proofs.PatternDerivations.{apart_named, apart_room, apart_told, array_may, behind_room, bound_may}
use Rattle.rl_lower_statements.proofs.PatternDerivations.{bound_slice, default_may, default_room, defaulted_ok, first_may, first_room}
use Rattle.rl_lower_statements.proofs.PatternDerivations.{items_room, left_done, left_fewer, left_next, left_room, left_split, name_room}
use Rattle.rl_lower_statements.proofs.PatternDerivations.{no_rest, object_may, others_room, viewed_ok}
use Rattle.rl_lower_statements.specs.Patterns.{all_left, seen_part}
use Rattle.rl_lower_statements.specs.declared.pattern_items.LeftPattern.{LeftPattern}
use Rattle.rl_lowered.proofs.Told.{told_bound}
use Rattle.rl_lowered.specs.Items.{BindsArray, BindsObject, destructured}
use Rattle.rl_lowered.specs.Promised.{nodes_left}
use Rattle.rl_names.specs.Seen.{seen}
use Rattle.rl_syntax.specs.Syntax.{nodes}
use Rattle.rl_lower_statements.proofs.pattern.+patterns.Goals as goal

-- Parts that were left, in order.

pub lower_left-lower_left_part-requires : goal.lower_left-lower_left_part-requires
lower_left-lower_left_part-requires g t c =
    let parts : List LeftPattern = c.args.parts.now in
    let index : ℕ = c.loop-part.part-index in
    let loop = c.loop-part.invariant in
    let split : drop index parts ≡ c.part-item.result ∷ drop (index + 1) parts =
    drop_more parts index c.part-item.result c.loop-part-test.true
    ∙ ap (λ (z : LeftPattern). z ∷ drop (index + 1) parts) (sym c.part-item.is) in
    let counted : nodes_left (all_left (drop index parts))
    ≡ nodes (seen_part c.part-item.result.part) + nodes_left (all_left (drop (index + 1) parts)) = left_split split in
    λ lifetimes outlives. (
      omega (arith, counted, loop.fewer),
      (
        search rules,
        (
          loop.names,
          (
            (first_may (seen c.args.names.now) split loop.may).0,
            first_room (state_of g.U.ReadsUnit.tables c.loop-part.builder) split loop.room,
          ),
        ),
      ),
    )

pub lower_left-loop-part-preserved : goal.lower_left-loop-part-preserved
lower_left-loop-part-preserved g t c =
    let parts : List LeftPattern = c.args.parts.now in
    let index : ℕ = c.loop-part.part-index in
    let loop = c.loop-part.invariant in
    let lowered = c.in_ok-lower_left_part.ensures.lowered in
    let split : drop index parts ≡ c.part-item.result ∷ drop (index + 1) parts =
    drop_more parts index c.part-item.result c.loop-part-test.true
    ∙ ap (λ (z : LeftPattern). z ∷ drop (index + 1) parts) (sym c.part-item.is) in
    let counted : nodes_left (all_left (drop index parts))
    ≡ nodes (seen_part c.part-item.result.part) + nodes_left (all_left (drop (index + 1) parts)) = left_split split in
    record {
      same_reference = c.in_ok-lower_left_part.ensures.same_reference ∙ loop.same_reference;
      names = lowered.named loop.names;
      may = (first_may (seen c.args.names.now) split loop.may).1;
      room = others_room (state_of g.U.ReadsUnit.tables c.loop-part.builder) _ split lowered loop.room;
      fewer = omega (arith, counted, loop.fewer);
      lowers = λ new more. loop.lowers new (left_next split lowered more);
    }

pub lower_left-returns-clause-lowered : goal.lower_left-returns-clause-lowered
lower_left-returns-clause-lowered g t c =
    told_bound (c.loop-part.invariant.lowers _
    (left_done (drop_all c.loop-part.part-index c.args.parts.now (omega (arith, c.loop-part-test.false)))))

-- A pattern.

pub lower_pattern-store_declared-requires-clause-room : goal.lower_pattern-store_declared-requires-clause-room
lower_pattern-store_declared-requires-clause-room g t c =
    name_room (state_of g.U.ReadsUnit.tables c.args.builder.now) (c.binding_identifier_view-bind.ensures ∙ c.in-Identifier.ensures)
    c.requires.room

pub lower_pattern-returns-in-Identifier-clause-lowered : goal.lower_pattern-returns-in-Identifier-clause-lowered
lower_pattern-returns-in-Identifier-clause-lowered g t c =
    viewed_ok (seen c.args.names.now) c.args.again c.args.kind c.args.at c.args.value _ _ c.store_declared.result
    (c.binding_identifier_view-bind.ensures ∙ c.in-Identifier.ensures) c.store_declared.ensures.lowered

pub lower_pattern-bind_elements-requires-clause-may : goal.lower_pattern-bind_elements-requires-clause-may
lower_pattern-bind_elements-requires-clause-may g t c =
    (array_may (seen c.args.names.now) c.in-Array.ensures c.requires.may).0

pub lower_pattern-bind_elements-requires-clause-may_rest : goal.lower_pattern-bind_elements-requires-clause-may_rest
lower_pattern-bind_elements-requires-clause-may_rest g t c =
    (array_may (seen c.args.names.now) c.in-Array.ensures c.requires.may).1

pub lower_pattern-bind_elements-requires-clause-room : goal.lower_pattern-bind_elements-requires-clause-room
lower_pattern-bind_elements-requires-clause-room g t c =
    items_room (state_of g.U.ReadsUnit.tables c.args.builder.now) c.in-Array.ensures c.requires.room

pub lower_pattern-take_apart-requires : goal.lower_pattern-take_apart-requires
lower_pattern-take_apart-requires g t c =
    record {
      room = apart_room (state_of g.U.ReadsUnit.tables c.args.builder.now) c.in-Array.ensures c.requires.room
          c.in_ok-bound-in-Array.bound.left c.in_ok-bound-in-Array.ensures.bound;
    }

pub lower_pattern-lower_left-requires : goal.lower_pattern-lower_left-requires
lower_pattern-lower_left-requires g t c =
    let s : State = state_of g.U.ReadsUnit.tables c.args.builder.now in
    let bound = bound_slice {names = seen c.args.names.now} c.as_slice.ensures c.in_ok-bound-in-Array.ensures.bound in
    let taken : InstructionValue = destructured c.args.kind (patterns.Array c.in_ok-bound-in-Array.bound.items) c.args.value in
    λ lifetimes outlives. (
      omega (arith, left_fewer s c.in-Array.ensures c.requires.room bound),
      (
        search rules,
        (
          apart_named taken (Some c.args.at) c.in_ok-place-in-Array.ensures.state bound c.requires.names,
          (
            bound_may bound (array_may (seen c.args.names.now) c.in-Array.ensures c.requires.may).0
                (λ of_array. (array_may (seen c.args.names.now) c.in-Array.ensures c.requires.may).1),
            left_room s c.in-Array.ensures c.requires.room c.as_slice.result.now
                (state_of g.U.ReadsUnit.tables c.take_apart.new.builder) bound
                (grown (state_of g.U.ReadsUnit.tables c.bind_elements.new.builder) (state_of g.U.ReadsUnit.tables c.take_apart.new.builder)
                taken (Some c.args.at) c.in_ok-place-in-Array.ensures.state),
          ),
        ),
      ),
    )

pub lower_pattern-returns-in_ok-lower_left-in-Array-clause-lowered
    : goal.lower_pattern-returns-in_ok-lower_left-in-Array-clause-lowered
lower_pattern-returns-in_ok-lower_left-in-Array-clause-lowered g t c =
    apart_told (patterns.Array c.in_ok-bound-in-Array.bound.items) BindsArray c.in-Array.ensures
    (bound_slice {names = seen c.args.names.now} c.as_slice.ensures c.in_ok-bound-in-Array.ensures.bound) refl
    c.in_ok-place-in-Array.ensures.state c.in_ok-place-in-Array.ensures.place c.in_ok-lower_left-in-Array.ensures.lowered

pub lower_pattern-bind_properties-requires-clause-may : goal.lower_pattern-bind_properties-requires-clause-may
lower_pattern-bind_properties-requires-clause-may g t c =
    (object_may (seen c.args.names.now) c.in-Object.ensures c.requires.may).0

pub lower_pattern-bind_properties-requires-clause-may_rest
    : goal.lower_pattern-bind_properties-requires-clause-may_rest
lower_pattern-bind_properties-requires-clause-may_rest g t c =
    (object_may (seen c.args.names.now) c.in-Object.ensures c.requires.may).1

pub lower_pattern-bind_properties-requires-clause-room : goal.lower_pattern-bind_properties-requires-clause-room
lower_pattern-bind_properties-requires-clause-room g t c =
    items_room (state_of g.U.ReadsUnit.tables c.args.builder.now) c.in-Object.ensures c.requires.room

pub lower_pattern-take_apart-requires-in-Object : goal.lower_pattern-take_apart-requires-in-Object
lower_pattern-take_apart-requires-in-Object g t c =
    record {
      room = apart_room (state_of g.U.ReadsUnit.tables c.args.builder.now) c.in-Object.ensures c.requires.room
          c.in_ok-bound-in-Object.bound.left c.in_ok-bound-in-Object.ensures.bound;
    }

pub lower_pattern-lower_left-requires-in-Object : goal.lower_pattern-lower_left-requires-in-Object
lower_pattern-lower_left-requires-in-Object g t c =
    let s : State = state_of g.U.ReadsUnit.tables c.args.builder.now in
    let bound = bound_slice {names = seen c.args.names.now} c.as_slice-in-Object.ensures c.in_ok-bound-in-Object.ensures.bound in
    let taken : InstructionValue = destructured c.args.kind (patterns.Object c.in_ok-bound-in-Object.bound.properties) c.args.value in
    λ lifetimes outlives. (
      omega (arith, left_fewer s c.in-Object.ensures c.requires.room bound),
      (
        search rules,
        (
          apart_named taken (Some c.args.at) c.in_ok-place-in-Object.ensures.state bound c.requires.names,
          (
            bound_may bound (object_may (seen c.args.names.now) c.in-Object.ensures c.requires.may).0 no_rest,
            left_room s c.in-Object.ensures c.requires.room c.as_slice-in-Object.result.now
                (state_of g.U.ReadsUnit.tables c.take_apart-in-Object.new.builder) bound
                (grown (state_of g.U.ReadsUnit.tables c.bind_properties.new.builder)
                (state_of g.U.ReadsUnit.tables c.take_apart-in-Object.new.builder)
                taken (Some c.args.at) c.in_ok-place-in-Object.ensures.state),
          ),
        ),
      ),
    )

pub lower_pattern-returns-in_ok-lower_left-in-Object-clause-lowered
    : goal.lower_pattern-returns-in_ok-lower_left-in-Object-clause-lowered
lower_pattern-returns-in_ok-lower_left-in-Object-clause-lowered g t c =
    apart_told (patterns.Object c.in_ok-bound-in-Object.bound.properties) BindsObject c.in-Object.ensures
    (bound_slice {names = seen c.args.names.now} c.as_slice-in-Object.ensures c.in_ok-bound-in-Object.ensures.bound) refl
    c.in_ok-place-in-Object.ensures.state c.in_ok-place-in-Object.ensures.place c.in_ok-lower_left-in-Object.ensures.lowered

-- A pattern that may have a default.

pub lower_maybe_default-lower_pattern-requires : goal.lower_maybe_default-lower_pattern-requires
lower_maybe_default-lower_pattern-requires g t c =
    λ lifetimes outlives. (search rules, (search rules, (search rules, (search rules, search rules))))

pub lower_maybe_default-returns-in-Pattern-clause-lowered
    : goal.lower_maybe_default-returns-in-Pattern-clause-lowered
lower_maybe_default-returns-in-Pattern-clause-lowered g t c =
    viewed_ok (seen c.args.names.now) c.args.again c.args.kind c.args.at c.args.value _ _ c.lower_pattern.result c.in-Pattern.ensures
    c.lower_pattern.ensures.lowered

pub lower_maybe_default-lower_default-requires-clause-may : goal.lower_maybe_default-lower_default-requires-clause-may
lower_maybe_default-lower_default-requires-clause-may g t c =
    (default_may (seen c.args.names.now) c.in-Default.ensures c.requires.may).1

pub lower_maybe_default-lower_default-requires-clause-room
    : goal.lower_maybe_default-lower_default-requires-clause-room
lower_maybe_default-lower_default-requires-clause-room g t c =
    default_room (state_of g.U.ReadsUnit.tables c.args.builder.now) c.in-Default.ensures c.in-Default.pattern.fit c.requires.room

pub lower_maybe_default-lower_pattern-requires-in-Default : goal.lower_maybe_default-lower_pattern-requires-in-Default
lower_maybe_default-lower_pattern-requires-in-Default g t c =
    λ lifetimes outlives. (
      search rules,
      (
        search rules,
        (
          c.in_ok-value-in-Default.ensures.defaulted.named,
          (
            (default_may (seen c.args.names.now) c.in-Default.ensures c.requires.may).0,
            behind_room (state_of g.U.ReadsUnit.tables c.args.builder.now) _ c.in-Default.ensures
                c.in_ok-value-in-Default.ensures.defaulted c.requires.room,
          ),
        ),
      ),
    )

pub lower_maybe_default-returns-in_ok-value-in-Default-clause-lowered
    : goal.lower_maybe_default-returns-in_ok-value-in-Default-clause-lowered
lower_maybe_default-returns-in_ok-value-in-Default-clause-lowered g t c =
    defaulted_ok c.args.again c.args.kind c.args.at c.lower_pattern-in-Default.result _ c.in-Default.ensures
    c.in_ok-value-in-Default.ensures.defaulted
    c.lower_pattern-in-Default.ensures.lowered
