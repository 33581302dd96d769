-- Derivations of loops, labels and jumps, from the moves of their lowering, and the room, the names and the statements around in their
-- holes.
use Rattle.std.proofs.Common.{◌≡◌, ℕ, ◌+◌, ◌<◌, ◌≤◌, true, false, Bool, if◌then◌else◌, List, [], ◌∷◌, ◌++◌, length, Option, Some, None}
use Rattle.std.proofs.Common.{Result, Ok, Err, IfOk, OnOk}
use Rattle.std.proofs.Common.{option_map, length-append, refl, ap, sym, ◌∙◌, subst, arith}
use Rattle.std.specs.Borrow.{Bor}
use Rattle.rl_base.specs.declared.ids.BlockId.{BlockId}
use Rattle.rl_base.specs.declared.span.Span.{Span}
use Rattle.rl_base.specs.declared.stop.Stop.{Stop}
use Rattle.rl_builder.specs.Builder.{State, recorded}
use Rattle.rl_builder.specs.Jumps.{lookup_break, lookup_continue}
use Rattle.rl_builder.specs.Temporaries.{temporary, with_value}
use Rattle.rl_builder.specs.declared.jumps.JumpError.{JumpError}
use Rattle.rl_builder.specs.declared.jumps.JumpScope.{JumpScope}
use Rattle.rl_frames.specs.Frames.{ForParts, IfParts, LabelParts, WhileParts, do_while_bodied, for_after, for_after_init, for_after_update}
use Rattle.rl_frames.specs.Frames.{for_at, if_at, if_consequent}
use Rattle.rl_frames.specs.Frames.{for_bodied, for_ended, for_inited, for_inited_by, for_updated, label_at, label_ended, while_after}
use Rattle.rl_frames.specs.Frames.{while_at, while_bodied, while_ended}
use Rattle.rl_frames.specs.Parts.{for_begun, for_scope, label_begun, while_begun}
use Rattle.rl_grammar.specs.Fields.{maybe}
use Rattle.rl_grammar.specs.Grammar.{fits}
use Rattle.rl_grammar.specs.declared.kind.Field.TheVariants as field
use Rattle.rl_grammar.specs.declared.kind.Kind.TheVariants as kind
use Rattle.rl_hir.specs.declared.function.BlockKind.TheVariants as blocks
use Rattle.rl_hir.specs.declared.instruction.InstructionValue.TheVariants as values
use Rattle.rl_hir.specs.declared.instruction.Place.{Place}
use Rattle.rl_hir.specs.declared.instruction.PrimitiveValue.TheVariants as primitives
use Rattle.rl_hir.specs.declared.terminal.GotoVariant.TheVariants as gotos
use Rattle.rl_lowered.proofs.Arounds.{arounds_in, arounds_in_label, arounds_in_loop, arounds_kept, break_found, continue_found}
use Rattle.rl_lowered.proofs.Blocks.{init_blocks, statement_blocks}
use Rattle.rl_lowered.proofs.Names.{names_same}
use Rattle.rl_lowered.proofs.Told.{told_init, told_loop, told_statement, told_test}
use Rattle.rl_lowered.specs.Arounds.{arounds}
use Rattle.rl_lowered.specs.Lowered as lowered
use Rattle.rl_lowered.specs.Lowered.{Lowered, LoweredInit, LoweredLoop, LoweredStatement, LoweredTest, label_part, part_span}
use Rattle.rl_lowered.specs.Named.{IsNamed, KeepsNames}
use Rattle.rl_lowered.specs.Promised.{HasRoom, LowersExpression, LowersInit, LowersLoop, LowersStatement, LowersTest}
use Rattle.rl_model.specs.Actions.{Label}
use Rattle.rl_names.specs.Names.{Names}
use Rattle.rl_promises.specs.Jumps.{Around, InLabeled, InLoop, is_loop, own_label, stop_of_break, stop_of_continue, within_label}
use Rattle.rl_promises.specs.Lowerable.{IsLowerableIn}
use Rattle.rl_promises.specs.Rows.{refusal}
use Rattle.rl_base.specs.declared.row.Row.TheVariants as row
use Rattle.rl_runs.specs.Blocks.{size_of}
use Rattle.rl_runs.specs.Moves.{block_id, next_hole}
use Rattle.rl_syntax.specs.declared.numbered.At.{At}
use Rattle.rl_syntax.specs.declared.word.Word.TheVariants as word
use Rattle.rl_syntax.specs.Syntax.{Syntax, Node, Listed, Said, Count, Flag, Absent, End, Then, span_of}
use Rattle.rl_lower_parts.proofs.Derivations.{room_after}
use Rattle.rl_lower_statements.proofs.StatementDerivations.{statement_derived}

-- Jumps.

pub break_may : (names : Names) (around : List Around) {tree : Syntax} (at : At) (label : Option (Bor (List ℕ)))
    → Node at word.Break (Then (maybe label (λ t. Said t.now)) End) ≡ tree → IsLowerableIn names around None tree
    → stop_of_break (option_map (λ t. t.now) label) at.span around ≡ None
break_may names around at None is may = subst (IsLowerableIn names around None) (sym is) may
break_may names around at (Some label) is may = subst (IsLowerableIn names around None) (sym is) may

pub continue_may : (names : Names) (around : List Around) {tree : Syntax} (at : At) (label : Option (Bor (List ℕ)))
    → Node at word.Continue (Then (maybe label (λ t. Said t.now)) End) ≡ tree → IsLowerableIn names around None tree
    → stop_of_continue (option_map (λ t. t.now) label) at.span around ≡ None
continue_may names around at None is may = subst (IsLowerableIn names around None) (sym is) may
continue_may names around at (Some label) is may = subst (IsLowerableIn names around None) (sym is) may

-- The label of a jump as the lowering has it, and as its node shows it.
label_parts : (label : Option (Bor (List ℕ))) → label_part (option_map (λ t. t.now) label) ≡ maybe label (λ t. Said t.now)
label_parts None = refl
label_parts (Some label) = refl

pub break_ok : (at : At) (label : Option (Bor (List ℕ))) {target : BlockId} (s new : State) (r : Result (Unit {0}) Stop)
    → lookup_break s.scopes (option_map (λ t. t.now) label) ≡ Ok target
    → OnOk r (new ≡ next_hole s target.0 gotos.Break at.span blocks.Block)
    → OnOk r ((names : Names) → LowersStatement names (Node at word.Break (Then (maybe label (λ t. Said t.now)) End)) s new)
break_ok at label {target} s new (Ok x) found moved = λ names.
    statement_derived {names = names} _ _ s _ new (ap (λ (p : Syntax). Node at word.Break (Then p End)) (label_parts label)) moved
    (lowered.Break at (option_map (λ t. t.now) label) target s found)
break_ok at label s new (Err e) found moved = tt

pub continue_ok : (at : At) (label : Option (Bor (List ℕ))) {target : BlockId} (s new : State) (r : Result (Unit {0}) Stop)
    → lookup_continue s.scopes (option_map (λ t. t.now) label) ≡ Ok target
    → OnOk r (new ≡ next_hole s target.0 gotos.Continue at.span blocks.Block)
    → OnOk r ((names : Names) → LowersStatement names (Node at word.Continue (Then (maybe label (λ t. Said t.now)) End)) s new)
continue_ok at label {target} s new (Ok x) found moved = λ names.
    statement_derived {names = names} _ _ s _ new (ap (λ (p : Syntax). Node at word.Continue (Then p End)) (label_parts label)) moved
    (lowered.Continue at (option_map (λ t. t.now) label) target s found)
continue_ok at label s new (Err e) found moved = tt

-- Of any names, of the names and the tree at hand.
pub jump_ok : (names : Names) {tree shown : Syntax} (s new : State) (r : Result (Unit {0}) Stop) → shown ≡ tree
    → OnOk r ((any : Names) → LowersStatement any shown s new) → OnOk r (LowersStatement names tree s new)
jump_ok names s new (Ok x) is l = subst (λ (t : Syntax). LowersStatement names t s new) is (l names)
jump_ok names s new (Err e) is l = tt

-- A jump that nothing stops has a target.

pub break_goes : {r : Result BlockId JumpError} {e : JumpError} (s : State) (jump : Label) (at : Span)
    → stop_of_break jump at (arounds s) ≡ None → r ≡ lookup_break s.scopes jump → r ≡ Err e → ⊥
break_goes {r} {e} s jump at may is failed =
    let never : ◌≡◌ {A = Result BlockId JumpError} (Ok (break_found s jump at may).0) (Err e) =
    sym (break_found s jump at may).1 ∙ sym is ∙ failed in
    cc

pub continue_goes : {r : Result BlockId JumpError} {e : JumpError} (s : State) (jump : Label) (at : Span)
    → stop_of_continue jump at (arounds s) ≡ None → r ≡ lookup_continue s.scopes jump → r ≡ Err e → ⊥
continue_goes {r} {e} s jump at may is failed =
    let never : ◌≡◌ {A = Result BlockId JumpError} (Ok (continue_found s jump at may).0) (Err e) =
    sym (continue_found s jump at may).1 ∙ sym is ∙ failed in
    cc

-- Loops.

pub loop_derived : {names : Names} {own : Label} (tree e : Syntax) (s t new : State) → e ≡ tree → new ≡ t → LoweredLoop names own e s t
    → LowersLoop names own tree s new
loop_derived {names} {own} tree e s t new is moved by =
    told_loop (subst (λ (n : Syntax). LoweredLoop names own n s new) is (subst (λ (n : State). LoweredLoop names own e s n) (sym moved) by))

pub while_told : {names : Names} {at : At} {own label : Label} {test body : Syntax} {s b1 s2 b2 s3 : State} {p : Place} {f : WhileParts}
    {first : Span} (f2 : WhileParts) (new : State) → label ≡ own → first ≡ span_of body → f ≡ while_at s at.span → b1 ≡ while_begun s label
    → LowersStatement names body b1 s2 → b2 ≡ while_bodied f s2 first → f2 ≡ while_after f → LowersExpression names test b2 s3 p
    → new ≡ while_ended f2 s3 p → LowersLoop names own (Node at word.While (Then test (Then body End))) s new
while_told {names} {at} {own} {label} {test} {body} {s} {b1} {s2} {b2} {s3} {p} {f} {first} f2 new labels firsts framed begun l_body parted
    after l_test moved =
    loop_derived _ (Node at word.While (Then test (Then body End))) s _ new refl
    (moved ∙ ap (λ (q : WhileParts). while_ended q s3 p) (after ∙ ap while_after framed))
    (lowered.While at test body s s2 s3 p
    (subst (λ (o : State). LoweredStatement names body o s2) (begun ∙ ap (λ (x : Label). while_begun s x) labels) l_body.by)
    (subst (λ (o : State). Lowered names test o s3 p)
    (parted ∙ ap (λ (q : WhileParts). while_bodied q s2 first) framed
    ∙ ap (λ (x : Span). while_bodied (while_at s at.span) s2 x) firsts) l_test.by))

pub do_while_told : {names : Names} {at : At} {own label : Label} {test body : Syntax} {s b1 s2 b2 s3 : State} {p : Place} {f : WhileParts}
    {first : Span} (f2 : WhileParts) (new : State) → label ≡ own → first ≡ span_of body → f ≡ while_at s at.span → b1 ≡ while_begun s label
    → LowersStatement names body b1 s2 → b2 ≡ do_while_bodied f s2 first → f2 ≡ while_after f → LowersExpression names test b2 s3 p
    → new ≡ while_ended f2 s3 p → LowersLoop names own (Node at word.Dowhile (Then body (Then test End))) s new
do_while_told {names} {at} {own} {label} {test} {body} {s} {b1} {s2} {b2} {s3} {p} {f} {first} f2 new labels firsts framed begun l_body
    parted
    after l_test moved =
    loop_derived _ (Node at word.Dowhile (Then body (Then test End))) s _ new refl
    (moved ∙ ap (λ (q : WhileParts). while_ended q s3 p) (after ∙ ap while_after framed))
    (lowered.DoWhile at test body s s2 s3 p
    (subst (λ (o : State). LoweredStatement names body o s2) (begun ∙ ap (λ (x : Label). while_begun s x) labels) l_body.by)
    (subst (λ (o : State). Lowered names test o s3 p)
    (parted ∙ ap (λ (q : WhileParts). do_while_bodied q s2 first) framed
    ∙ ap (λ (x : Span). do_while_bodied (while_at s at.span) s2 x) firsts) l_test.by))

-- Heads of `for` loops.

pub no_init_told : {names : Names} {at : Span} {s new : State} → new ≡ with_value s (values.Primitive primitives.Undefined) (Some at)
    → LowersInit names at Absent s new
no_init_told {names} {at} {s} {new} moved =
    told_init (subst (λ (n : State). LoweredInit names at Absent s n) (sym moved) (lowered.NoInit s))

pub refused_init_told : {names : Names} {at : Span} {tree : Syntax} {s b new : State} {p : Place} → b ≡ recorded s (refusal row.F31 at)
    → LowersExpression names tree b new p → LowersInit names at tree s new
refused_init_told {names} {at} {tree} {s} {b} {new} {p} noted l =
    told_init (lowered.RefusedInit tree s new p (subst (λ (o : State). Lowered names tree o new p) noted l.by))

pub tested_told : {names : Names} {at : Span} {tree : Syntax} {s new : State} {p : Place} → LowersExpression names tree s new p
    → LowersTest names at tree s new p
tested_told {names} {at} {tree} {s} {new} {p} l = told_test (lowered.Tested tree s new p l.by)

pub no_test_told : {names : Names} {at : Span} {s b new : State} {p : Place} → b ≡ recorded s (refusal row.F32 at)
    → new ≡ with_value b (values.Primitive (primitives.Boolean true)) (Some at) → p ≡ temporary b (Some at)
    → LowersTest names at Absent s new p
no_test_told {names} {at} {s} {b} {new} {p} noted moved placed =
    told_test
    (subst (λ (q : Place). LoweredTest names at Absent s new q)
    (sym (placed ∙ ap (λ (o : State). temporary o (Some at)) noted))
    (subst (λ (n : State). LoweredTest names at Absent s n (temporary (recorded s (refusal row.F32 at)) (Some at)))
    (sym (moved ∙ ap (λ (o : State). with_value o (values.Primitive (primitives.Boolean true)) (Some at)) noted)) (lowered.NoTest s)))

pub tested_ok : (names : Names) (at : Span) {tree shown : Syntax} (s new : State) (r : Result Place Stop) → tree ≡ shown
    → IfOk r (λ p. LowersExpression names tree s new p) → IfOk r (λ p. LowersTest names at shown s new p)
tested_ok names at {tree} {shown} s new (Ok p) is l = subst (λ (t : Syntax). LowersTest names at t s new p) is (tested_told l)
tested_ok names at s new (Err e) is l = tt

pub no_test_ok : (names : Names) (at : Span) {shown : Syntax} (s b new : State) (r : Result Place Stop) → Absent ≡ shown
    → b ≡ recorded s (refusal row.F32 at)
    → OnOk r (new ≡ with_value b (values.Primitive (primitives.Boolean true)) (Some at)) → IfOk r (λ p. p ≡ temporary b (Some at))
    → IfOk r (λ p. LowersTest names at shown s new p)
no_test_ok names at {shown} s b new (Ok p) is noted moved placed =
    subst (λ (t : Syntax). LowersTest names at t s new p) is (no_test_told noted moved placed)
no_test_ok names at s b new (Err e) is noted moved placed = tt

pub head_ok : (names : Names) (at : Span) {tree shown : Syntax} (s new : State) (r : Result (Unit {0}) Stop) → tree ≡ shown
    → OnOk r ((any : Span) → LowersInit names any tree s new) → OnOk r (LowersInit names at shown s new)
head_ok names at s new (Ok x) is l = subst (λ (t : Syntax). LowersInit names at t s new) is (l at)
head_ok names at s new (Err e) is l = tt

-- The span of a part that is there.
pub part_there : (at : Span) (tree : Syntax) → fits (field.One kind.ForInit) tree ≡ true → span_of tree ≡ part_span at tree
part_there at (Node there word parts) fit = refl
part_there at (Listed parts) fit = refl
part_there at (Said text) fit = refl
part_there at (Count number) fit = refl
part_there at (Flag flag) fit = refl
part_there at Absent fit = absurd (cc)

-- `for` loops.

pub for_updated_told : {names : Names} {at : At} {own label : Label} {init test update body : Syntax}
    {s b1 s2 b2 s3 b3 s4 b4 s5 : State} {u p : Place} {f f2 f3 : ForParts} {part first second : Span} (f4 : ForParts) (new : State)
    → label ≡ own → part ≡ part_span at.span init → first ≡ span_of update → second ≡ span_of body
    → f ≡ for_at s at.span label true → b1 ≡ for_begun s → LowersInit names at.span init b1 s2
    → b2 ≡ for_inited f s2 part → f2 ≡ for_after_init f s2 → LowersExpression names update b2 s3 u
    → b3 ≡ for_updated f2 s3 first → f3 ≡ for_after_update f2 s3 → LowersStatement names body b3 s4
    → b4 ≡ for_bodied f3 s4 second → f4 ≡ for_after f3 → LowersTest names at.span test b4 s5 p
    → new ≡ for_ended f4 s5 p
    → LowersLoop names own (Node at word.For (Then init (Then test (Then update (Then body End))))) s new
for_updated_told {names} {at} {own} {label} {init} {test} {update} {body} {s} {b1} {s2} {b2} {s3} {b3} {s4} {b4} {s5} {u} {p} {f} {f2} {f3}
    {part} {first} {second} f4 new labels parts firsts seconds framed begun l_init inited after l_update updated again l_body bodied shut
    l_test moved =
    loop_derived _ (Node at word.For (Then init (Then test (Then update (Then body End))))) s _ new refl
    (moved ∙ ap (λ (q : ForParts). for_ended q s5 p) (shut ∙ ap for_after whole3))
    (lowered.ForUpdated at init test update body s s2 s3 s4 s5 u p
    (subst (λ (o : State). LoweredInit names at.span init o s2) begun l_init.by)
    (subst (λ (o : State). Lowered names update o s3 u)
    (inited ∙ ap (λ (q : ForParts). for_inited q s2 part) whole
    ∙ ap (λ (x : Span). for_inited (for_at s at.span own true) s2 x) parts) l_update.by)
    (subst (λ (o : State). LoweredStatement names body o s4)
    (updated ∙ ap (λ (q : ForParts). for_updated q s3 first) whole2
    ∙ ap (λ (x : Span). for_updated (for_after_init (for_at s at.span own true) s2) s3 x) firsts) l_body.by)
    (subst (λ (o : State). LoweredTest names at.span test o s5 p)
    (bodied ∙ ap (λ (q : ForParts). for_bodied q s4 second) whole3
    ∙ ap (λ (x : Span). for_bodied (for_after_update (for_after_init (for_at s at.span own true) s2) s3) s4 x) seconds) l_test.by))
  where
    whole : f ≡ for_at s at.span own true
    whole = framed ∙ ap (λ (x : Label). for_at s at.span x true) labels

    whole2 : f2 ≡ for_after_init (for_at s at.span own true) s2
    whole2 = after ∙ ap (λ (q : ForParts). for_after_init q s2) whole

    whole3 : f3 ≡ for_after_update (for_after_init (for_at s at.span own true) s2) s3
    whole3 = again ∙ ap (λ (q : ForParts). for_after_update q s3) whole2

pub for_plain_told : {names : Names} {at : At} {own label : Label} {init test body : Syntax} {s b1 s2 b2 s3 b3 s4 : State} {p : Place}
    {f f2 : ForParts} {part second : Span} (f3 : ForParts) (new : State)
    → label ≡ own → part ≡ part_span at.span init → second ≡ span_of body
    → f ≡ for_at s at.span label false → b1 ≡ for_begun s → LowersInit names at.span init b1 s2
    → b2 ≡ for_inited f s2 part → f2 ≡ for_after_init f s2 → LowersStatement names body b2 s3
    → b3 ≡ for_bodied f2 s3 second → f3 ≡ for_after f2 → LowersTest names at.span test b3 s4 p
    → new ≡ for_ended f3 s4 p
    → LowersLoop names own (Node at word.For (Then init (Then test (Then Absent (Then body End))))) s new
for_plain_told {names} {at} {own} {label} {init} {test} {body} {s} {b1} {s2} {b2} {s3} {b3} {s4} {p} {f} {f2} {part} {second} f3 new labels
    parts seconds framed begun l_init inited after l_body bodied shut l_test moved =
    loop_derived _ (Node at word.For (Then init (Then test (Then Absent (Then body End))))) s _ new refl
    (moved ∙ ap (λ (q : ForParts). for_ended q s4 p) (shut ∙ ap for_after whole2))
    (lowered.ForPlain at init test body s s2 s3 s4 p
    (subst (λ (o : State). LoweredInit names at.span init o s2) begun l_init.by)
    (subst (λ (o : State). LoweredStatement names body o s3)
    (inited ∙ ap (λ (q : ForParts). for_inited q s2 part) whole
    ∙ ap (λ (x : Span). for_inited (for_at s at.span own false) s2 x) parts) l_body.by)
    (subst (λ (o : State). LoweredTest names at.span test o s4 p)
    (bodied ∙ ap (λ (q : ForParts). for_bodied q s3 second) whole2
    ∙ ap (λ (x : Span). for_bodied (for_after_init (for_at s at.span own false) s2) s3 x) seconds) l_test.by))
  where
    whole : f ≡ for_at s at.span own false
    whole = framed ∙ ap (λ (x : Label). for_at s at.span x false) labels

    whole2 : f2 ≡ for_after_init (for_at s at.span own false) s2
    whole2 = after ∙ ap (λ (q : ForParts). for_after_init q s2) whole

-- Statements with a label.

pub labeled_loop_ok : (names : Names) (at : At) (label : List ℕ) (body : Syntax) (s new : State) (r : Result (Unit {0}) Stop)
    → OnOk r (LowersLoop names (Some label) body s new)
    → OnOk r (LowersStatement names (Node at word.Labeled (Then (Said label) (Then body End))) s new)
labeled_loop_ok names at label body s new (Ok x) l = told_statement (lowered.LabeledLoop at label body s new l.by)
labeled_loop_ok names at label body s new (Err e) l = tt

pub unlabeled_loop_ok : (names : Names) (tree : Syntax) (s new : State) (r : Result (Unit {0}) Stop)
    → OnOk r (LowersLoop names None tree s new) → OnOk r (LowersStatement names tree s new)
unlabeled_loop_ok names tree s new (Ok x) l = told_statement (lowered.Unlabeled tree s new l.by)
unlabeled_loop_ok names tree s new (Err e) l = tt

pub labeled_told : {names : Names} {at : At} {own label : List ℕ} {body : Syntax} {s b s2 : State} {f : LabelParts} {part : Span}
    (new : State)
    → label ≡ own → part ≡ span_of body → is_loop body ≡ false → f ≡ label_at s at.span → b ≡ label_begun s label
    → LowersStatement names body b s2 → new ≡ label_ended f s2 part
    → LowersStatement names (Node at word.Labeled (Then (Said own) (Then body End))) s new
labeled_told {names} {at} {own} {label} {body} {s} {b} {s2} {f} {part} new labels parts other framed begun l moved =
    statement_derived _ (Node at word.Labeled (Then (Said own) (Then body End))) s _ new refl
    (moved ∙ ap (λ (q : LabelParts). label_ended q s2 part) framed ∙ ap (λ (x : Span). label_ended (label_at s at.span) s2 x) parts)
    (lowered.Labeled at own body s s2 other
    (subst (λ (o : State). LoweredStatement names body o s2) (begun ∙ ap (λ (x : List ℕ). label_begun s x) labels) l.by))

-- The statement behind a label: a loop has it itself.

pub labeled_loop_may : (names : Names) (around : List Around) (label : List ℕ) (body : Syntax) → is_loop body ≡ true
    → IsLowerableIn names (within_label label body around) (own_label label body) body → IsLowerableIn names around (Some label) body
labeled_loop_may names around label body is may =
    subst (λ (b : Bool). IsLowerableIn names (if b then around else (InLabeled label ∷ around)) (if b then Some label else None) body) is
    may

pub labeled_may : (names : Names) (around : List Around) (label : List ℕ) (body : Syntax) → is_loop body ≡ false
    → IsLowerableIn names (within_label label body around) (own_label label body) body
    → IsLowerableIn names (InLabeled label ∷ around) None body
labeled_may names around label body is may =
    subst (λ (b : Bool). IsLowerableIn names (if b then around else (InLabeled label ∷ around)) (if b then Some label else None) body) is
    may

-- The statements around in the holes.

pub inside : (names : Names) (body : Syntax) (s t : State) → arounds t ≡ arounds s → IsLowerableIn names (arounds s) None body
    → IsLowerableIn names (arounds t) None body
inside names body s t same may = subst (λ (a : List Around). IsLowerableIn names a None body) (sym same) may

pub inside_loop : (names : Names) {own : Label} (body : Syntax) (s t : State) → arounds t ≡ InLoop own ∷ arounds s
    → IsLowerableIn names (InLoop own ∷ arounds s) None body → IsLowerableIn names (arounds t) None body
inside_loop names {own} body s t same may = subst (λ (a : List Around). IsLowerableIn names a None body) (sym same) may

pub inside_label : (names : Names) {own label : List ℕ} (body : Syntax) (s b : State) → label ≡ own → b ≡ label_begun s label
    → IsLowerableIn names (InLabeled own ∷ arounds s) None body → IsLowerableIn names (arounds b) None body
inside_label names {own} {label} body s b labels begun may =
    subst (λ (a : List Around). IsLowerableIn names a None body)
    (sym (ap arounds begun ∙ arounds_in_label s label ∙ ap (λ (l : List ℕ). InLabeled l ∷ arounds s) labels)) may

pub while_begun_arounds : {own label : Label} (s b : State) → label ≡ own → b ≡ while_begun s label → arounds b ≡ InLoop own ∷ arounds s
while_begun_arounds {own} {label} s b labels begun =
    ap arounds begun ∙ arounds_in_loop s label ∙ ap (λ (l : Label). InLoop l ∷ arounds s) labels

-- Behind the init: the hole of the update, or that of the body.

pub for_begun_arounds : (s b : State) → b ≡ for_begun s → arounds b ≡ arounds s
for_begun_arounds s b begun = ap arounds begun

pub for_inited_arounds : {label : Label} {at : Span} {f : ForParts} (part : Span) (s0 s b : State) → f ≡ for_at s0 at label true
    → b ≡ for_inited f s part → arounds b ≡ arounds s
for_inited_arounds {label} {at} {f} part s0 s b framed moved =
    ap arounds (moved ∙ ap (λ (q : ForParts). for_inited q s part) framed)

pub opened_plain : {label : Label} {at : Span} {f : ForParts} (part : Span) (s0 s b : State) → f ≡ for_at s0 at label false
    → b ≡ for_inited f s part
    → b.scopes ≡ s.scopes ++ for_scope s0.env.next_block label (block_id s0.env.next_block) ∷ []
opened_plain {label} {at} {f} part s0 s b framed moved =
    ap (λ (o : State). o.scopes) (moved ∙ ap (λ (q : ForParts). for_inited q s part) framed)

pub opened_updated : {label : Label} {at : Span} {f f2 : ForParts} (part : Span) (s0 s2 s b : State) → f ≡ for_at s0 at label true
    → f2 ≡ for_after_init f s2 → b ≡ for_updated f2 s part
    → b.scopes ≡ s.scopes ++ for_scope s0.env.next_block label (block_id s2.env.next_block) ∷ []
opened_updated {label} {at} {f} {f2} part s0 s2 s b framed after moved =
    ap (λ (o : State). o.scopes) (moved ∙ ap (λ (q : ForParts). for_updated q s part)
    (after ∙ ap (λ (q : ForParts). for_after_init q s2) framed))

pub for_plain_arounds : {own label : Label} {at : Span} {f : ForParts} (part : Span) (s0 s b : State) → label ≡ own
    → f ≡ for_at s0 at label false
    → b ≡ for_inited f s part → arounds b ≡ InLoop own ∷ arounds s
for_plain_arounds {own} {label} part s0 s b labels framed moved =
    arounds_in s b (for_scope s0.env.next_block label (block_id s0.env.next_block)) (opened_plain part s0 s b framed moved)
    ∙ ap (λ (l : Label). InLoop l ∷ arounds s) labels

pub for_updated_arounds : {own label : Label} {at : Span} {f f2 : ForParts} (part : Span) (s0 s2 s b : State) → label ≡ own
    → f ≡ for_at s0 at label true → f2 ≡ for_after_init f s2 → b ≡ for_updated f2 s part → arounds b ≡ InLoop own ∷ arounds s
for_updated_arounds {own} {label} part s0 s2 s b labels framed after moved =
    arounds_in s b (for_scope s0.env.next_block label (block_id s2.env.next_block)) (opened_updated part s0 s2 s b framed after moved)
    ∙ ap (λ (l : Label). InLoop l ∷ arounds s) labels

pub init_arounds : {names : Names} {at : Span} {e : Syntax} {s t : State} → LowersInit names at e s t → arounds t ≡ arounds s
init_arounds {s = s} {t = t} l = arounds_kept s t (init_blocks l.by)

-- Behind the consequent of an `if` statement that has an alternate.
pub if_consequent_arounds : {at : Span} {f : IfParts} (part : Span) (s0 s b : State) → f ≡ if_at s0 at true → b ≡ if_consequent f s part
    → arounds b ≡ arounds s
if_consequent_arounds {at} {f} part s0 s b framed moved =
    ap arounds (moved ∙ ap (λ (q : IfParts). if_consequent q s part) framed)

-- A scope that was opened is there behind the body.

pub scope_kept : {names : Names} {body : Syntax} (s b t : State) (x : JumpScope) → b.scopes ≡ s.scopes ++ x ∷ []
    → LowersStatement names body b t → 0 < length t.scopes
scope_kept s b t x opened l =
    let kept : t.scopes ≡ s.scopes ++ x ∷ [] = (statement_blocks l.by).extends.scopes ∙ opened in
    let longer : length t.scopes ≡ length (s.scopes ++ x ∷ []) = ap (λ (l : List JumpScope). length l) kept in
    omega (arith, longer, length-append s.scopes (x ∷ []))

-- Names and room in the holes.

pub moved_named : {names : Names} (s t b : State) → b ≡ t → KeepsNames names s t → IsNamed names s → IsNamed names b
moved_named {names} s t b is keeps named = subst (IsNamed names) (sym is) (keeps.named named)

pub moved_room : (s t b : State) (grown more all : ℕ) → b ≡ t → size_of t ≤ size_of s + grown → grown + more ≤ all → HasRoom s all
    → HasRoom b more
moved_room s t b grown more all is size fits room =
    subst (λ (o : State). HasRoom o more) (sym is) (room_after s t grown more all size fits room)

pub while_begun_size : (s : State) (label : Label) → size_of (while_begun s label) ≤ size_of s + 3
while_begun_size s label = omega arith

pub while_bodied_size : (f : WhileParts) (s : State) (part : Span) → size_of (while_bodied f s part) ≤ size_of s + 0
while_bodied_size f s part = omega arith

pub do_while_bodied_size : (f : WhileParts) (s : State) (part : Span) → size_of (do_while_bodied f s part) ≤ size_of s + 0
do_while_bodied_size f s part = omega arith

pub label_begun_size : (s : State) (label : List ℕ) → size_of (label_begun s label) ≤ size_of s + 2
label_begun_size s label = omega arith

pub for_begun_size : (s : State) → size_of (for_begun s) ≤ size_of s + 3
for_begun_size s = omega arith

inited_size : (b : Bool) (f : ForParts) (s : State) (part : Span) → size_of (for_inited_by b f s part) ≤ size_of s + 1
inited_size true f s part = omega arith
inited_size false f s part = omega arith

pub for_inited_size : (f : ForParts) (s : State) (part : Span) → size_of (for_inited f s part) ≤ size_of s + 1
for_inited_size f s part = inited_size f.has_update f s part

pub for_updated_size : (f : ForParts) (s : State) (part : Span) → size_of (for_updated f s part) ≤ size_of s + 1
for_updated_size f s part = omega arith

pub for_bodied_size : (f : ForParts) (s : State) (part : Span) → size_of (for_bodied f s part) ≤ size_of s + 0
for_bodied_size f s part = omega arith

inited_names : {names : Names} (b : Bool) (f : ForParts) (s : State) (part : Span) → KeepsNames names s (for_inited_by b f s part)
inited_names true f s part = names_same s (for_inited_by true f s part) refl
inited_names false f s part = names_same s (for_inited_by false f s part) refl

pub for_inited_names : {names : Names} (f : ForParts) (s : State) (part : Span) → KeepsNames names s (for_inited f s part)
for_inited_names f s part = inited_names f.has_update f s part
