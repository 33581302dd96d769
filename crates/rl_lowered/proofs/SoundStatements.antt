-- Lowering a statement or a body keeps places known and parts writable.
use Rattle.std.proofs.Common.{ℕ, true, false, List, [], ◌∷◌, length, Some, None, refl, arith, All, Option}
use Rattle.std.proofs.lemmas.List.Elements.{All-cons, All-head, All-tail, All-nil}
use Rattle.rl_base.specs.declared.row.Row.TheVariants as row
use Rattle.rl_base.specs.declared.variable_kind.VariableKind.{VariableKind}
use Rattle.rl_base.specs.declared.variable_kind.VariableKind.TheVariants as kinds
use Rattle.rl_base.specs.Diagnostics.{diagnostic_at}
use Rattle.rl_base.specs.VariableKinds.{variable_text}
use Rattle.rl_builder.specs.Builder.{completed_by, new_block, recorded, reserved}
use Rattle.rl_builder.specs.Temporaries.{temporary, with_value}
use Rattle.rl_frames.specs.Frames.{do_while_bodied, for_after, for_after_init, for_after_update, for_at, for_bodied, for_ended}
use Rattle.rl_frames.specs.Frames.{for_inited, for_updated, if_after_consequent, if_alternate, if_at, if_consequent, if_ended, if_shut}
use Rattle.rl_frames.specs.Frames.{label_at, label_ended, while_after, while_at, while_bodied, while_ended}
use Rattle.rl_frames.specs.Parts.{for_begun, forin_begun, forof_begun, if_begun, label_begun, while_begun}
use Rattle.rl_frames.specs.Rounds.{forin_at, forin_headed, forin_key, forin_righted, forof_after, forof_at, forof_bodied, forof_ended}
use Rattle.rl_frames.specs.Rounds.{forof_item, forof_iterator, forof_righted, forof_shut, forof_tested, rounds_bodied, rounds_ended}
use Rattle.rl_frames.specs.Rounds.{rounds_opened, rounds_shut}
use Rattle.rl_frames.specs.SwitchParts.{switch_begun}
use Rattle.rl_hir.specs.declared.function.BlockKind.TheVariants as blocks
use Rattle.rl_hir.specs.declared.instruction.InstructionKind.{InstructionKind}
use Rattle.rl_hir.specs.declared.instruction.InstructionValue.TheVariants as values
use Rattle.rl_hir.specs.declared.instruction.PrimitiveValue.TheVariants as primitives
use Rattle.rl_hir.specs.declared.terminal.Case.{Case}
use Rattle.rl_hir.specs.declared.terminal.ReturnVariant.TheVariants as returns
use Rattle.rl_hir.specs.Listing as listing
use Rattle.rl_lowered.proofs.Common.{At, Diagnostic, End, Names, Node, Pieces, Place, Said, Span, State, Syntax, Then}
use Rattle.rl_lowered.proofs.Sound.{expression_sound}
use Rattle.rl_lowered.proofs.SoundAssignments.{undefined_sound}
use Rattle.rl_lowered.proofs.SoundCatches.{IsSoundCase, IsSoundTest, bound_tree_sound, case_tree_sound, switch_tree_sound}
use Rattle.rl_lowered.proofs.SoundCatches.{throw_tree_sound, try_tree_sound}
use Rattle.rl_lowered.proofs.SoundForms.{debugger_writable}
use Rattle.rl_lowered.proofs.SoundFrames.{if_else_sound, if_then_sound}
use Rattle.rl_lowered.proofs.SoundHeads.{head_sound}
use Rattle.rl_lowered.proofs.SoundListing.{boolean_writable, declared_writable, initialized_writable, span_optional, span_writable}
use Rattle.rl_lowered.proofs.SoundListing.{undefined_writable}
use Rattle.rl_lowered.proofs.SoundLoops.{break_sound, continue_sound, do_while_sound, for_plain_sound, for_sound, label_sound}
use Rattle.rl_lowered.proofs.SoundLoops.{while_sound}
use Rattle.rl_lowered.proofs.SoundMoves.{empty_writable, none_known, place_made, place_next, place_weaker, sound_next, sound_recorded}
use Rattle.rl_lowered.proofs.SoundMoves.{sound_refl, sound_reserved, sound_return, sound_returned, sound_then, sound_value, sound_weaker}
use Rattle.rl_lowered.proofs.SoundMoves.{value_place}
use Rattle.rl_lowered.proofs.SoundNames.{sound_found}
use Rattle.rl_lowered.proofs.SoundPatterns.{pattern_sound}
use Rattle.rl_lowered.proofs.SoundRounds.{forin_sound, forof_sound}
use Rattle.rl_lowered.proofs.SoundTrees.{each_small, span_small}
use Rattle.rl_lowered.proofs.SoundValues.{IsSound, one_place, over_sound, variable_place}
use Rattle.rl_lowered.proofs.Spanned.{place_spanned}
use Rattle.rl_lowered.specs.Lowered.{AwaitRefused, Block, Break, CaseMoved, CaseTested, Continue, Debugger, DeclaredInit, DoWhile, Empty}
use Rattle.rl_lowered.specs.Lowered.{Expression, Finalized, ForIn, ForOf, ForPlain, ForUpdated, IfElse, IfThen, Labeled, LabeledLoop}
use Rattle.rl_lowered.specs.Lowered.{LoweredBody, LoweredCaseTest, LoweredCases, LoweredDeclarators, LoweredInit, LoweredLoop}
use Rattle.rl_lowered.specs.Lowered.{LoweredStatement, LoweredStatements, LoweredTest, NextCase, NextDeclared, NextInitialized}
use Rattle.rl_lowered.specs.Lowered.{NextTakenApart, NextUntaken}
use Rattle.rl_lowered.specs.Lowered.{NextStatement, NoCase, NoCaseTest, NoDeclarator, NoInit, NoStatement, NoTest, RefusedInit, Return}
use Rattle.rl_lowered.specs.Lowered.{ReturnNothing, Statements, Switch, Tested, Throw, TryBound, TryPlain, Uncaught, Unlabeled, Value}
use Rattle.rl_lowered.specs.Lowered.{Variables, While, With, declaring, label_part, part_span}
use Rattle.rl_lowered.specs.Named.{found}
use Rattle.rl_lowered.specs.Sound.{AreSmallTrees, HasSmallSpans, IsSmallTree, IsSoundPlace, StaysSound}
use Rattle.rl_model.specs.Actions.{Label}
use Rattle.rl_promises.specs.Locals.{IsSmallSpan, KnowsNames}
use Rattle.rl_promises.specs.Moved.{type_name}
use Rattle.rl_promises.specs.Rows.{refusal}
use Rattle.rl_runs.proofs.Moves.{value_made}
use Rattle.rl_runs.specs.Moves.{return_of, returned_from}
use Rattle.rl_syntax.specs.declared.word.Word.TheVariants as word
use Rattle.rl_syntax.specs.Syntax.{Absent, Flag, Listed, span_of}
use Rattle.rl_text.specs.Notation.{IsWritable}

return_sound : (at : At) (e : Syntax) (s t : State) (p : Place) → IsSound (IsSmallTree e) s t p
    → StaysSound (IsSmallTree (Node at word.Return (Then e End))) s (returned_from t (Some at.span) returns.Explicit p blocks.Block)
return_sound at e s t p inner =
    sound_next small s t _ (sound_weaker (IsSmallTree e) small s t part_small inner.0)
    (sound_returned small t (Some at.span) returns.Explicit p blocks.Block (λ holds. span_writable at.span holds.0.0)
    (place_weaker (IsSmallTree e) small t p part_small inner.1))
  where
    small : Type 0
    small = IsSmallTree (Node at word.Return (Then e End))

    part_small : small → IsSmallTree e
    part_small holds = (holds.0.1.0, holds.1.1.0)

return_nothing_sound : (at : At) (s : State) → StaysSound (IsSmallTree (Node at word.Return (Then Absent End))) s
    (returned_from (with_value s (values.Primitive primitives.Undefined) None) (Some at.span) returns.Explicit (temporary s None)
    blocks.Block)
return_nothing_sound at s =
    sound_next small s undefined _
    (sound_value small s (values.Primitive primitives.Undefined) None (none_known (length s.env.identifiers))
    (λ holds fits. undefined_writable) (λ holds. tt))
    (sound_returned small undefined (Some at.span) returns.Explicit (temporary s None) blocks.Block
    (λ holds. span_writable at.span holds.0.0)
    (value_place small s (values.Primitive primitives.Undefined) None (none_known (length s.env.identifiers))
    (λ holds fits. undefined_writable) (λ holds. tt)))
  where
    small : Type 0
    small = IsSmallTree (Node at word.Return (Then Absent End))

    undefined : State
    undefined = with_value s (values.Primitive primitives.Undefined) None

if_then_tree_sound : (at : At) (test consequent : Syntax) (s s2 s3 : State) (p : Place)
    → StaysSound (IsSmallTree consequent) (if_begun s) s2
    → IsSound (IsSmallTree test) (if_consequent (if_at s at.span false) s2 (span_of consequent)) s3 p
    → StaysSound (IsSmallTree (Node at word.If (Then test (Then consequent (Then Absent End))))) s
    (if_ended (if_after_consequent (if_at s at.span false) s2) s3 p)
if_then_tree_sound at test consequent s s2 s3 p first second =
    if_then_sound small s s2 s3 at.span (span_of consequent) p (λ holds. holds.0.0)
    (λ holds. span_small consequent (consequent_small holds).0)
    (sound_weaker (IsSmallTree consequent) small _ s2 consequent_small first)
    (sound_weaker (IsSmallTree test) small _ s3 test_small second.0) (place_weaker (IsSmallTree test) small s3 p test_small second.1)
  where
    small : Type 0
    small = IsSmallTree (Node at word.If (Then test (Then consequent (Then Absent End))))

    test_small : small → IsSmallTree test
    test_small holds = (holds.0.1.0, holds.1.1.0)

    consequent_small : small → IsSmallTree consequent
    consequent_small holds = (holds.0.1.1.0, holds.1.1.1.0)

if_else_tree_sound : (at : At) (test consequent alternate : Syntax) (s s2 s3 s4 : State) (p : Place)
    → StaysSound (IsSmallTree consequent) (if_begun s) s2
    → StaysSound (IsSmallTree alternate) (if_consequent (if_at s at.span true) s2 (span_of consequent)) s3
    → IsSound (IsSmallTree test) (if_alternate (if_after_consequent (if_at s at.span true) s2) s3 (span_of alternate)) s4 p
    → StaysSound (IsSmallTree (Node at word.If (Then test (Then consequent (Then alternate End))))) s
    (if_ended (if_shut (if_after_consequent (if_at s at.span true) s2)) s4 p)
if_else_tree_sound at test consequent alternate s s2 s3 s4 p first second third =
    if_else_sound small s s2 s3 s4 at.span (span_of consequent) (span_of alternate) p (λ holds. holds.0.0)
    (λ holds. span_small consequent (consequent_small holds).0) (λ holds. span_small alternate (alternate_small holds).0)
    (sound_weaker (IsSmallTree consequent) small _ s2 consequent_small first)
    (sound_weaker (IsSmallTree alternate) small _ s3 alternate_small second)
    (sound_weaker (IsSmallTree test) small _ s4 test_small third.0) (place_weaker (IsSmallTree test) small s4 p test_small third.1)
  where
    small : Type 0
    small = IsSmallTree (Node at word.If (Then test (Then consequent (Then alternate End))))

    test_small : small → IsSmallTree test
    test_small holds = (holds.0.1.0, holds.1.1.0)

    consequent_small : small → IsSmallTree consequent
    consequent_small holds = (holds.0.1.1.0, holds.1.1.1.0)

    alternate_small : small → IsSmallTree alternate
    alternate_small holds = (holds.0.1.1.1.0, holds.1.1.1.1.0)

-- Loops and labelled statements

while_tree_sound : (at : At) (test body : Syntax) (own : Label) (s s2 s3 : State) (p : Place)
    → StaysSound (IsSmallTree body) (while_begun s own) s2
    → IsSound (IsSmallTree test) (while_bodied (while_at s at.span) s2 (span_of body)) s3 p
    → StaysSound (IsSmallTree (Node at word.While (Then test (Then body End)))) s (while_ended (while_after (while_at s at.span)) s3 p)
while_tree_sound at test body own s s2 s3 p first second =
    while_sound small s s2 s3 own at.span (span_of body) p (λ holds. holds.0.0) (λ holds. span_small body (body_small holds).0)
    (sound_weaker (IsSmallTree body) small _ s2 body_small first) (sound_weaker (IsSmallTree test) small _ s3 test_small second.0)
    (place_weaker (IsSmallTree test) small s3 p test_small second.1)
  where
    small : Type 0
    small = IsSmallTree (Node at word.While (Then test (Then body End)))

    test_small : small → IsSmallTree test
    test_small holds = (holds.0.1.0, holds.1.1.0)

    body_small : small → IsSmallTree body
    body_small holds = (holds.0.1.1.0, holds.1.1.1.0)

do_while_tree_sound : (at : At) (test body : Syntax) (own : Label) (s s2 s3 : State) (p : Place)
    → StaysSound (IsSmallTree body) (while_begun s own) s2
    → IsSound (IsSmallTree test) (do_while_bodied (while_at s at.span) s2 (span_of body)) s3 p
    → StaysSound (IsSmallTree (Node at word.Dowhile (Then body (Then test End)))) s (while_ended (while_after (while_at s at.span)) s3 p)
do_while_tree_sound at test body own s s2 s3 p first second =
    do_while_sound small s s2 s3 own at.span (span_of body) p (λ holds. holds.0.0) (λ holds. span_small body (body_small holds).0)
    (sound_weaker (IsSmallTree body) small _ s2 body_small first) (sound_weaker (IsSmallTree test) small _ s3 test_small second.0)
    (place_weaker (IsSmallTree test) small s3 p test_small second.1)
  where
    small : Type 0
    small = IsSmallTree (Node at word.Dowhile (Then body (Then test End)))

    body_small : small → IsSmallTree body
    body_small holds = (holds.0.1.0, holds.1.1.0)

    test_small : small → IsSmallTree test
    test_small holds = (holds.0.1.1.0, holds.1.1.1.0)

label_tree_sound : (at : At) (label : List ℕ) (body : Syntax) (s s2 : State) → StaysSound (IsSmallTree body) (label_begun s label) s2
    → StaysSound (IsSmallTree (Node at word.Labeled (Then (Said label) (Then body End)))) s
    (label_ended (label_at s at.span) s2 (span_of body))
label_tree_sound at label body s s2 first =
    label_sound small s s2 label at.span (span_of body) (λ holds. holds.0.0) (λ holds. span_small body (body_small holds).0)
    (sound_weaker (IsSmallTree body) small _ s2 body_small first)
  where
    small : Type 0
    small = IsSmallTree (Node at word.Labeled (Then (Said label) (Then body End)))

    body_small : small → IsSmallTree body
    body_small holds = (holds.0.1.1.0, holds.1.1.1.0)

-- `for` loops

-- A part of the head, which may be absent.
abbrev IsSmallPart : (loop : Span) → Syntax → Type 0
IsSmallPart loop e = IsSmallSpan loop × IsSmallTree e

part_small : (loop : Span) (e : Syntax) → IsSmallSpan loop → HasSmallSpans e → IsSmallSpan (part_span loop e)
part_small loop Absent own small = own
part_small loop (Node at w parts) own small = small.0
part_small loop _ own small = (omega arith, omega arith)

test_sound : {names : Names} {at : Span} {e : Syntax} {s t : State} {p : Place} → KnowsNames names → LoweredTest names at e s t p
    → IsSound (IsSmallPart at e) s t p
test_sound {at} knows (NoTest s) =
    let small : Type 0 = IsSmallPart at Absent in
    let noted : State = recorded s (refusal row.F32 at) in (
      sound_next small s noted _ (sound_recorded small s (refusal row.F32 at))
          (sound_value small noted (values.Primitive (primitives.Boolean true)) (Some at) (none_known (length noted.env.identifiers))
          (λ holds fits. boolean_writable true) (λ holds. span_writable at holds.0)),
      value_place small noted (values.Primitive (primitives.Boolean true)) (Some at) (none_known (length noted.env.identifiers))
          (λ holds fits. boolean_writable true) (λ holds. span_writable at holds.0),
    )
test_sound {at} knows (Tested e s t p by) =
    let inner = expression_sound knows by in (
      sound_weaker (IsSmallTree e) (IsSmallPart at e) s t (λ small. small.1) inner.0,
      place_weaker (IsSmallTree e) (IsSmallPart at e) t p (λ small. small.1) inner.1,
    )

for_tree_sound : (at : At) (init test update body : Syntax) (own : Label) (s s2 s3 s4 s5 : State) (u p : Place)
    → StaysSound (IsSmallPart at.span init) (for_begun s) s2
    → IsSound (IsSmallTree update) (for_inited (for_at s at.span own true) s2 (part_span at.span init)) s3 u
    → StaysSound (IsSmallTree body) (for_updated (for_after_init (for_at s at.span own true) s2) s3 (span_of update)) s4
    → IsSound (IsSmallPart at.span test)
    (for_bodied (for_after_update (for_after_init (for_at s at.span own true) s2) s3) s4 (span_of body)) s5 p
    → StaysSound (IsSmallTree (Node at word.For (Then init (Then test (Then update (Then body End)))))) s
    (for_ended (for_after (for_after_update (for_after_init (for_at s at.span own true) s2) s3)) s5 p)
for_tree_sound at init test update body own s s2 s3 s4 s5 u p first third fourth second =
    for_sound small s s2 s3 s4 s5 own at.span (part_span at.span init) (span_of update) (span_of body) p (λ holds. holds.0.0)
    (λ holds. part_small at.span init holds.0.0 (init_small holds).1.0) (λ holds. span_small update (update_small holds).0)
    (λ holds. span_small body (body_small holds).0)
    (sound_weaker (IsSmallPart at.span init) small _ s2 init_small first)
    (sound_weaker (IsSmallTree update) small _ s3 update_small third.0)
    (sound_weaker (IsSmallTree body) small _ s4 body_small fourth)
    (sound_weaker (IsSmallPart at.span test) small _ s5 test_small second.0)
    (place_weaker (IsSmallPart at.span test) small s5 p test_small second.1)
  where
    small : Type 0
    small = IsSmallTree (Node at word.For (Then init (Then test (Then update (Then body End)))))

    init_small : small → IsSmallPart at.span init
    init_small holds = (holds.0.0, (holds.0.1.0, holds.1.1.0))

    test_small : small → IsSmallPart at.span test
    test_small holds = (holds.0.0, (holds.0.1.1.0, holds.1.1.1.0))

    update_small : small → IsSmallTree update
    update_small holds = (holds.0.1.1.1.0, holds.1.1.1.1.0)

    body_small : small → IsSmallTree body
    body_small holds = (holds.0.1.1.1.1.0, holds.1.1.1.1.1.0)

for_plain_tree_sound : (at : At) (init test body : Syntax) (own : Label) (s s2 s3 s4 : State) (p : Place)
    → StaysSound (IsSmallPart at.span init) (for_begun s) s2
    → StaysSound (IsSmallTree body) (for_inited (for_at s at.span own false) s2 (part_span at.span init)) s3
    → IsSound (IsSmallPart at.span test) (for_bodied (for_after_init (for_at s at.span own false) s2) s3 (span_of body)) s4 p
    → StaysSound (IsSmallTree (Node at word.For (Then init (Then test (Then Absent (Then body End)))))) s
    (for_ended (for_after (for_after_init (for_at s at.span own false) s2)) s4 p)
for_plain_tree_sound at init test body own s s2 s3 s4 p first third second =
    for_plain_sound small s s2 s3 s4 own at.span (part_span at.span init) (span_of body) p (λ holds. holds.0.0)
    (λ holds. part_small at.span init holds.0.0 (init_small holds).1.0) (λ holds. span_small body (body_small holds).0)
    (sound_weaker (IsSmallPart at.span init) small _ s2 init_small first)
    (sound_weaker (IsSmallTree body) small _ s3 body_small third)
    (sound_weaker (IsSmallPart at.span test) small _ s4 test_small second.0)
    (place_weaker (IsSmallPart at.span test) small s4 p test_small second.1)
  where
    small : Type 0
    small = IsSmallTree (Node at word.For (Then init (Then test (Then Absent (Then body End)))))

    init_small : small → IsSmallPart at.span init
    init_small holds = (holds.0.0, (holds.0.1.0, holds.1.1.0))

    test_small : small → IsSmallPart at.span test
    test_small holds = (holds.0.0, (holds.0.1.1.0, holds.1.1.1.0))

    body_small : small → IsSmallTree body
    body_small holds = (holds.0.1.1.1.1.0, holds.1.1.1.1.1.0)

-- Loops over keys or values

forin_tree_sound : (at : At) (head right body : Syntax) (own : Label) (s s2 s3 s4 : State) (collection p : Place)
    → StaysSound (IsSmallTree body) (forin_begun s own) s2
    → IsSound (IsSmallTree right) (rounds_bodied (forin_at s at.span) s2 (span_of body)) s3 collection
    → IsSound (IsSmallTree head) (forin_righted (rounds_shut (forin_at s at.span)) s3 (span_of head) collection) s4 p
    → StaysSound (IsSmallTree (Node at word.Forin (Then head (Then right (Then body End))))) s
    (rounds_ended (rounds_opened (rounds_shut (forin_at s at.span))) s4 p)
forin_tree_sound at head right body own s s2 s3 s4 collection p first second third =
    forin_sound small s s2 s3 s4 own at.span (span_of body) (span_of head) collection p (λ holds. holds.0.0)
    (λ holds. span_small body (body_small holds).0) (λ holds. span_small head (head_small holds).0)
    (sound_weaker (IsSmallTree body) small _ s2 body_small first) (sound_weaker (IsSmallTree right) small _ s3 right_small second.0)
    (place_weaker (IsSmallTree right) small s3 collection right_small second.1)
    (sound_weaker (IsSmallTree head) small _ s4 head_small third.0) (place_weaker (IsSmallTree head) small s4 p head_small third.1)
  where
    small : Type 0
    small = IsSmallTree (Node at word.Forin (Then head (Then right (Then body End))))

    head_small : small → IsSmallTree head
    head_small holds = (holds.0.1.0, holds.1.1.0)

    right_small : small → IsSmallTree right
    right_small holds = (holds.0.1.1.0, holds.1.1.1.0)

    body_small : small → IsSmallTree body
    body_small holds = (holds.0.1.1.1.0, holds.1.1.1.1.0)

forof_tree_sound : (at : At) (head right body : Syntax) (own : Label) (s s2 s3 s4 : State) (collection p : Place)
    → (IsSmallTree right → IsWritable (listing.optional listing.span collection.span))
    → StaysSound (IsSmallTree body) (forof_begun s own) s2
    → IsSound (IsSmallTree right) (forof_bodied (forof_at s at.span) s2 (span_of body)) s3 collection
    → IsSound (IsSmallTree head) (forof_righted (forof_shut (forof_at s at.span)) s3 (span_of head) collection) s4 p
    → StaysSound (IsSmallTree (Node at word.Forof (Then (Flag false) (Then head (Then right (Then body End)))))) s
    (forof_ended (forof_after (forof_shut (forof_at s at.span))) s4 p)
forof_tree_sound at head right body own s s2 s3 s4 collection p from_at first second third =
    forof_sound small s s2 s3 s4 own at.span (span_of body) (span_of head) collection p (λ holds. holds.0.0)
    (λ holds. span_small body (body_small holds).0) (λ holds. span_small head (head_small holds).0) (λ holds. from_at (right_small holds))
    (sound_weaker (IsSmallTree body) small _ s2 body_small first) (sound_weaker (IsSmallTree right) small _ s3 right_small second.0)
    (place_weaker (IsSmallTree right) small s3 collection right_small second.1)
    (sound_weaker (IsSmallTree head) small _ s4 head_small third.0) (place_weaker (IsSmallTree head) small s4 p head_small third.1)
  where
    small : Type 0
    small = IsSmallTree (Node at word.Forof (Then (Flag false) (Then head (Then right (Then body End)))))

    head_small : small → IsSmallTree head
    head_small holds = (holds.0.1.1.0, holds.1.1.1.0)

    right_small : small → IsSmallTree right
    right_small holds = (holds.0.1.1.1.0, holds.1.1.1.1.0)

    body_small : small → IsSmallTree body
    body_small holds = (holds.0.1.1.1.1.0, holds.1.1.1.1.1.0)

-- The place of the key, and that of the value, which the head takes.

key_place : (head : Syntax) (s s3 : State) (span : Span) (collection : Place)
    → IsSoundPlace (IsSmallTree head) (forin_righted (rounds_shut (forin_at s span)) s3 (span_of head) collection)
    (forin_key (rounds_shut (forin_at s span)) s3 (span_of head))
key_place head s s3 span collection =
    let headed : State = forin_headed (rounds_shut (forin_at s span)) s3 in
    place_made (IsSmallTree head) (forin_righted (rounds_shut (forin_at s span)) s3 (span_of head) collection)
    (length headed.env.identifiers) (span_of head)
    (value_made headed (values.NextPropertyOf collection) (Some (span_of head))) (λ holds. span_small head holds.0)

item_place : (head : Syntax) (s s3 : State) (span : Span) (collection : Place)
    → IsSoundPlace (IsSmallTree head) (forof_righted (forof_shut (forof_at s span)) s3 (span_of head) collection)
    (forof_item (forof_shut (forof_at s span)) s3 (span_of head) collection)
item_place head s s3 span collection =
    let tested : State = forof_tested (forof_shut (forof_at s span)) s3 collection in
    let iterator : Place = forof_iterator (forof_shut (forof_at s span)) s3 collection in
    place_made (IsSmallTree head) (forof_righted (forof_shut (forof_at s span)) s3 (span_of head) collection)
    (length tested.env.identifiers) (span_of head)
    (value_made tested (values.IteratorNext iterator collection) (Some (span_of head))) (λ holds. span_small head holds.0)

-- Declarations of variables

declarators_sound : {names : Names} {at : Span} {k : InstructionKind} {es : Pieces} {s t : State} → KnowsNames names
    → LoweredDeclarators names at k es s t → StaysSound (IsSmallSpan at × AreSmallTrees es) s t
declarators_sound {at} knows (NoDeclarator s) = sound_refl (IsSmallSpan at × AreSmallTrees End) s
declarators_sound {names} {at} {k} knows (NextDeclared there bind name type more symbol identifier s u annotated is f rest) =
    let bound : Syntax = Node bind word.Bind (Then (Said name) (Then type End)) in
    let declarator : Syntax = Node there word.Declarator (Then bound (Then Absent End)) in
    let small : Type 0 = IsSmallSpan at × AreSmallTrees (Then declarator more) in
    let variable : Place = record { identifier = record { 0 = identifier }; span = Some bind.span } in
    let mid : State = found names s symbol bind.span in
    let first = over_sound small s mid (values.DeclareLocal k variable) bind.span (variable ∷ [])
    (sound_found small names s symbol bind.span identifier f (λ holds. holds.1.0.0.1.0.0))
    (one_place small mid variable (variable_place small names s symbol bind.span bind.span identifier f (λ holds. holds.1.0.0.1.0.0))) refl
    (λ holds fits all. declared_writable k variable (All-head (λ (q : Place). IsWritable (listing.place q)) variable [] all))
    (λ holds. holds.1.0.0.1.0.0) in
    sound_then small (IsSmallSpan at × AreSmallTrees more) small s
    (with_value mid (values.DeclareLocal k variable) (Some bind.span)) u (λ holds. holds)
    (λ holds. (holds.0, (holds.1.0.1, holds.1.1.1))) first.0 (declarators_sound knows rest)
declarators_sound {names} {at} {k} knows (NextInitialized there bind name type init more symbol identifier s t u p annotated is by f rest) =
    let declarator : Syntax = Node there word.Declarator (Then (Node bind word.Bind (Then (Said name) (Then type End))) (Then init End)) in
    let small : Type 0 = IsSmallSpan at × AreSmallTrees (Then declarator more) in
    let part : small → IsSmallTree init = λ holds. (holds.1.0.0.1.1.0, holds.1.1.0.1.1.0) in
    let variable : Place = record { identifier = record { 0 = identifier }; span = Some at } in
    let mid : State = found names t symbol bind.span in
    let inner = expression_sound knows by in
    let looked : StaysSound small t mid = sound_found small names t symbol bind.span identifier f (λ holds. holds.1.0.0.1.0.0) in
    let first = over_sound small s mid (values.StoreLocal k variable p) at (variable ∷ p ∷ [])
    (sound_next small s t mid (sound_weaker (IsSmallTree init) small s t part inner.0) looked)
    (All-cons (IsSoundPlace small mid) variable (p ∷ [])
    (variable_place small names t symbol bind.span at identifier f (λ holds. holds.0))
    (one_place small mid p (place_next small t mid p looked (place_weaker (IsSmallTree init) small t p part inner.1)))) refl
    (λ holds fits all. initialized_writable k variable p
    (All-head (λ (q : Place). IsWritable (listing.place q)) variable (p ∷ []) all)
    (All-head (λ (q : Place). IsWritable (listing.place q)) p []
    (All-tail (λ (q : Place). IsWritable (listing.place q)) variable (p ∷ []) all)))
    (λ holds. holds.0) in
    sound_then small (IsSmallSpan at × AreSmallTrees more) small s (with_value mid (values.StoreLocal k variable p) (Some at)) u
    (λ holds. holds) (λ holds. (holds.0, (holds.1.0.1, holds.1.1.1))) first.0 (declarators_sound knows rest)
declarators_sound {at} {k} knows (NextTakenApart there pattern init more s t u v p q is present by bound rest) =
    let small : Type 0 = IsSmallSpan at × AreSmallTrees (Then (Node there word.Declarator (Then pattern (Then init End))) more) in
    let part : small → IsSmallTree init = λ holds. (holds.1.0.0.1.1.0, holds.1.1.0.1.1.0) in
    let inner = expression_sound knows by in
    let first = pattern_sound small knows bound (λ holds. (holds.1.0.0.1.0, holds.1.1.0.1.0)) (λ holds. holds.0)
    (place_weaker (IsSmallTree init) small t p part inner.1) in
    sound_then small (IsSmallSpan at × AreSmallTrees more) small s u v (λ holds. holds) (λ holds. (holds.0, (holds.1.0.1, holds.1.1.1)))
    (sound_next small s t u (sound_weaker (IsSmallTree init) small s t part inner.0) first.0) (declarators_sound knows rest)
declarators_sound {at} {k} knows (NextUntaken there pattern more s u v q is bound rest) =
    let small : Type 0 = IsSmallSpan at × AreSmallTrees (Then (Node there word.Declarator (Then pattern (Then Absent End))) more) in
    let made : State = with_value s (values.Primitive primitives.Undefined) (Some at) in
    let undefined : IsSound small s made (temporary s (Some at)) = undefined_sound small s s at (sound_refl small s) (λ holds. holds.0) in
    let first = pattern_sound small knows bound (λ holds. (holds.1.0.0.1.0, holds.1.1.0.1.0)) (λ holds. holds.0) undefined.1 in
    sound_then small (IsSmallSpan at × AreSmallTrees more) small s u v (λ holds. holds) (λ holds. (holds.0, (holds.1.0.1, holds.1.1.1)))
    (sound_next small s made u undefined.0 first.0) (declarators_sound knows rest)

declaring_sound : (small : Type 0) (s : State) (k : VariableKind) (at : Span) → StaysSound small s (declaring s k at)
declaring_sound small s kinds.Var at = sound_recorded small s (refusal row.F39 at)
declaring_sound small s _ at = sound_refl small s

-- The test of a case, and a `try` statement whose finalizer is left out

case_test_sound : {names : Names} {e : Syntax} {s t : State} {p : Option Place} → KnowsNames names → LoweredCaseTest names e s t p
    → StaysSound (IsSmallTree e) s t × IsSoundTest (IsSmallTree e) t p
case_test_sound knows (NoCaseTest s) = (sound_refl (IsSmallTree Absent) s, tt)
case_test_sound knows (CaseTested e s t p is by) = expression_sound knows by
case_test_sound knows (CaseMoved at w fields s t p is by) =
    let small : Type 0 = IsSmallTree (Node at w fields) in
    let noted : Diagnostic = diagnostic_at row.F29 (type_name w) at.span in
    let inner = expression_sound knows by in
    (sound_next small s (recorded s noted) t (sound_recorded small s noted) inner.0, inner.1)

finalized_sound : (at there : At) (block param body finalizer : Syntax) (s t : State)
    → StaysSound
    (IsSmallTree (Node at word.Try (Then block (Then (Node there word.Catch (Then param (Then body End))) (Then Absent End)))))
    (recorded s (refusal row.F35 at.span)) t
    → StaysSound
    (IsSmallTree (Node at word.Try (Then block (Then (Node there word.Catch (Then param (Then body End))) (Then finalizer End))))) s t
finalized_sound at there block param body finalizer s t inner =
    sound_next small s noted t (sound_recorded small s (refusal row.F35 at.span))
    (sound_weaker _ small noted t
    (λ holds. ((holds.0.0, (holds.0.1.0, (holds.0.1.1.0, (tt, tt)))), (holds.1.0, (holds.1.1.0, (holds.1.1.1.0, (tt, tt)))))) inner)
  where
    small : Type 0
    small = IsSmallTree (Node at word.Try (Then block (Then (Node there word.Catch (Then param (Then body End))) (Then finalizer End))))

    noted : State
    noted = recorded s (refusal row.F35 at.span)

mutual
  pub statement_sound : {names : Names} {e : Syntax} {s t : State} → KnowsNames names → LoweredStatement names e s t
      → StaysSound (IsSmallTree e) s t
  statement_sound knows (Empty at s) = sound_refl (IsSmallTree (Node at word.Empty End)) s
  statement_sound knows (Expression at e s t p by) =
      sound_weaker (IsSmallTree e) (IsSmallTree (Node at word.Expr (Then e End))) s t (λ small. (small.0.1.0, small.1.1.0))
      (expression_sound knows by).0
  statement_sound knows (Debugger at s) =
      let small : Type 0 = IsSmallTree (Node at word.Debugger End) in
      sound_value small s values.Debugger (Some at.span) (none_known (length s.env.identifiers)) (λ holds fits. debugger_writable)
      (λ holds. span_writable at.span holds.0.0)
  statement_sound knows (Variables at k declarators s t all) =
      let small : Type 0 = IsSmallTree (Node at word.Var (Then (Said (variable_text k)) (Then (Listed declarators) End))) in
      sound_next small s (declaring s k at.span) t (declaring_sound small s k at.span)
      (sound_weaker (IsSmallSpan at.span × AreSmallTrees declarators) small (declaring s k at.span) t
      (λ holds. (holds.0.0, (holds.0.1.1.0, holds.1.1.1.0))) (declarators_sound knows all))
  statement_sound knows (ReturnNothing at s) = return_nothing_sound at s
  statement_sound knows (Return at e s t p by) = return_sound at e s t p (expression_sound knows by)
  statement_sound knows (Block at statements s t all) =
      sound_weaker (AreSmallTrees statements) (IsSmallTree (Node at word.Block (Then (Listed statements) End))) s t
      (λ small. (small.0.1.0, small.1.1.0)) (statements_sound knows all)
  statement_sound knows (IfThen at test consequent s s2 s3 p first second) =
      if_then_tree_sound at test consequent s s2 s3 p (statement_sound knows first) (expression_sound knows second)
  statement_sound knows (IfElse at test consequent alternate s s2 s3 s4 p first second third) =
      if_else_tree_sound at test consequent alternate s s2 s3 s4 p (statement_sound knows first) (statement_sound knows second)
      (expression_sound knows third)
  statement_sound knows (Unlabeled loop s t by) = loop_sound knows by
  statement_sound knows (LabeledLoop at label loop s t by) =
      sound_weaker (IsSmallTree loop) (IsSmallTree (Node at word.Labeled (Then (Said label) (Then loop End)))) s t
      (λ small. (small.0.1.1.0, small.1.1.1.0)) (loop_sound knows by)
  statement_sound knows (Labeled at label body s s2 other by) = label_tree_sound at label body s s2 (statement_sound knows by)
  statement_sound knows (Break at label target s is) =
      break_sound (IsSmallTree (Node at word.Break (Then (label_part label) End))) s label target at.span (λ holds. holds.0.0) is
  statement_sound knows (Continue at label target s is) =
      continue_sound (IsSmallTree (Node at word.Continue (Then (label_part label) End))) s label target at.span (λ holds. holds.0.0) is
  statement_sound knows (Throw at e s t p by) = throw_tree_sound at e s t p (expression_sound knows by)
  statement_sound knows (Switch at value cases ks s t u p all by) =
      switch_tree_sound at value cases ks s t u p (cases_sound knows all) (expression_sound knows by)
  statement_sound knows (TryPlain at there block body s s2 s3 first second) =
      try_tree_sound at there block body s s2 s3 (statement_sound knows first) (statement_sound knows second)
  statement_sound knows (TryBound at there bind name type block body symbol identifier s s2 s3 annotated is f first second) =
      bound_tree_sound at there bind name type block body symbol identifier s s2 s3 f (statement_sound knows first)
      (statement_sound knows second)
  statement_sound knows (Finalized at there block param body finalizer s t is by) =
      finalized_sound at there block param body finalizer s t (statement_sound knows by)
  statement_sound knows (Uncaught at block finalizer s) = sound_recorded _ s (refusal row.F34 at.span)
  statement_sound knows (With at fields s) = sound_recorded _ s (refusal row.F36 at.span)

  cases_sound : {names : Names} {s : State} {es : Pieces} {ks : List Case} {t : State} → KnowsNames names → LoweredCases names s es ks t
      → StaysSound (AreSmallTrees es) (switch_begun s) t × All (IsSoundCase (AreSmallTrees es) t) ks
  cases_sound knows (NoCase s) =
      (sound_refl (AreSmallTrees End) (switch_begun s), All-nil (IsSoundCase (AreSmallTrees End) (switch_begun s)))
  cases_sound knows (NextCase at test statements cases ks s x y z p all l tested) =
      case_tree_sound at test statements cases ks s x y z p (cases_sound knows all) (statements_sound knows l)
      (case_test_sound knows tested)

  pub loop_sound : {names : Names} {own : Label} {e : Syntax} {s t : State} → KnowsNames names → LoweredLoop names own e s t
      → StaysSound (IsSmallTree e) s t
  loop_sound {own} knows (While at test body s s2 s3 p first second) =
      while_tree_sound at test body own s s2 s3 p (statement_sound knows first) (expression_sound knows second)
  loop_sound {own} knows (DoWhile at test body s s2 s3 p first second) =
      do_while_tree_sound at test body own s s2 s3 p (statement_sound knows first) (expression_sound knows second)
  loop_sound {own} knows (ForUpdated at init test update body s s2 s3 s4 s5 u p first third fourth second) =
      for_tree_sound at init test update body own s s2 s3 s4 s5 u p (init_sound knows first) (expression_sound knows third)
      (statement_sound knows fourth) (test_sound knows second)
  loop_sound {own} knows (ForPlain at init test body s s2 s3 s4 p first third second) =
      for_plain_tree_sound at init test body own s s2 s3 s4 p (init_sound knows first) (statement_sound knows third)
      (test_sound knows second)
  loop_sound {own} knows (ForIn at head right body s s2 s3 s4 collection p first second third) =
      forin_tree_sound at head right body own s s2 s3 s4 collection p (statement_sound knows first) (expression_sound knows second)
      (head_sound knows third (key_place head s s3 at.span collection))
  loop_sound {own} knows (ForOf at head right body s s2 s3 s4 collection p first second third) =
      forof_tree_sound at head right body own s s2 s3 s4 collection p
      (λ small. span_optional collection.span (place_spanned IsSmallSpan second (each_small right small.0)))
      (statement_sound knows first) (expression_sound knows second) (head_sound knows third (item_place head s s3 at.span collection))
  loop_sound knows (AwaitRefused at head right body s) = sound_recorded _ s (refusal row.F33 at.span)

  init_sound : {names : Names} {at : Span} {e : Syntax} {s t : State} → KnowsNames names → LoweredInit names at e s t
      → StaysSound (IsSmallPart at e) s t
  init_sound {at} knows (NoInit s) =
      sound_value (IsSmallPart at Absent) s (values.Primitive primitives.Undefined) (Some at) (none_known (length s.env.identifiers))
      (λ holds fits. undefined_writable) (λ holds. span_writable at holds.0)
  init_sound {at} knows (DeclaredInit there fields s t by) =
      sound_weaker (IsSmallTree (Node there word.Var fields)) (IsSmallPart at (Node there word.Var fields)) s t (λ small. small.1)
      (statement_sound knows by)
  init_sound {at} knows (RefusedInit e s t p by) =
      sound_next (IsSmallPart at e) s (recorded s (refusal row.F31 at)) t (sound_recorded (IsSmallPart at e) s (refusal row.F31 at))
      (sound_weaker (IsSmallTree e) (IsSmallPart at e) (recorded s (refusal row.F31 at)) t (λ small. small.1) (expression_sound knows by).0)

  pub statements_sound : {names : Names} {es : Pieces} {s t : State} → KnowsNames names → LoweredStatements names es s t
      → StaysSound (AreSmallTrees es) s t
  statements_sound knows (NoStatement s) = sound_refl (AreSmallTrees End) s
  statements_sound knows (NextStatement e es s t u first rest) =
      sound_then (IsSmallTree e) (AreSmallTrees es) (AreSmallTrees (Then e es)) s t u (λ small. (small.0.0, small.1.0))
      (λ small. (small.0.1, small.1.1)) (statement_sound knows first) (statements_sound knows rest)

-- Bodies

value_body_sound : (e : Syntax) (s t : State) (p : Place)
    → StaysSound (IsSmallTree e) (reserved s) t × IsSoundPlace (IsSmallTree e) t p
    → StaysSound (IsSmallTree e) s (completed_by t (return_of None returns.Implicit p) (new_block s.env.next_block blocks.Block))
value_body_sound e s t p inner =
    let grow = inner.0.counters in
    sound_next (IsSmallTree e) s (reserved s) _ (sound_reserved (IsSmallTree e) s)
    (sound_next (IsSmallTree e) (reserved s) t _ inner.0
    (sound_return (IsSmallTree e) t None returns.Implicit p (new_block s.env.next_block blocks.Block) (λ small. tt) inner.1
    (λ fits. empty_writable s.env.next_block blocks.Block (omega (arith, grow.blocks, fits.blocks)))))

pub body_sound : {names : Names} {b : Syntax} {s t : State} → KnowsNames names → LoweredBody names b s t
    → StaysSound (IsSmallTree b) s t
body_sound knows (Statements at directives statements s t said all) =
    sound_weaker (AreSmallTrees statements)
    (IsSmallTree (Node at word.Body (Then (Listed directives) (Then (Listed statements) End)))) s t
    (λ small. (small.0.1.1.0, small.1.1.1.0)) (statements_sound knows all)
body_sound knows (Value e s t p by) = value_body_sound e s t p (expression_sound knows by)
