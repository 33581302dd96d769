-- Live instructions of statements stand in reached blocks. Targets of their jumps are reached, and so are handlers around those that act.
use Rattle.std.proofs.Common.{◌≡◌, ℕ, ◌+◌, ◌++◌, ◌||◌, Bool, true, false, if◌then◌else◌, List, [], ◌∷◌, Option, Some, None, Ok, refl}
use Rattle.std.proofs.Common.{sym, ap, ◌∙◌, is_some, subst, append-nil}
use Rattle.std.proofs.lemmas.List.{append_assoc}
use Rattle.rl_base.proofs.Bools.{or_true}
use Rattle.rl_base.specs.VariableKinds.{variable_text}
use Rattle.rl_builder.specs.Builder.{completed_by, innermost, new_block, reserved}
use Rattle.rl_builder.specs.Jumps.{lookup_break, lookup_continue}
use Rattle.rl_builder.specs.Temporaries.{temporary, with_value}
use Rattle.rl_frames.proofs.ForFronts.{init_comes}
use Rattle.rl_frames.proofs.ForLives.{for_leaves, for_leaves_plain, for_lives, for_lives_plain}
use Rattle.rl_frames.proofs.LabelFrames.{label_leaves, label_lives}
use Rattle.rl_frames.proofs.Lives.{if_leaves, if_lives, if_then_leaves}
use Rattle.rl_frames.proofs.LoopLives.{do_while_leaves, do_while_lives, while_leaves, while_lives}
use Rattle.rl_frames.proofs.RoundLives.{forin_leaves, forin_lives, forof_leaves, forof_lives}
use Rattle.rl_frames.proofs.SwitchLives.{LivesCases, lives_more, lives_then as lives_in_front, outs_before, switch_begun_lives}
use Rattle.rl_frames.proofs.SwitchLives.{switch_leaves, switch_lives}
use Rattle.rl_frames.proofs.TryBlocks.{at_body, block_comes, bound_blocks, cover2, cover4, handler_comes, try_leaves, try_leaves_calm}
use Rattle.rl_frames.proofs.TryBlocks.{try_lives, try_lives_calm}
use Rattle.rl_frames.proofs.ValueLives.{if_then_lives}
use Rattle.rl_frames.specs.Parts.{try_bound, try_finished, try_handler, try_started}
use Rattle.rl_frames.specs.SwitchParts.{case_ended, fall_of, switch_finished}
use Rattle.rl_hir.specs.declared.function.BlockKind.TheVariants as blocks
use Rattle.rl_hir.specs.declared.instruction.InstructionKind.TheVariants as variables
use Rattle.rl_hir.specs.declared.instruction.InstructionValue.TheVariants as values
use Rattle.rl_hir.specs.declared.instruction.PrimitiveValue.TheVariants as primitives
use Rattle.rl_hir.specs.declared.terminal.Case.{Case}
use Rattle.rl_hir.specs.declared.terminal.GotoVariant.{GotoVariant}
use Rattle.rl_hir.specs.declared.terminal.GotoVariant.TheVariants as gotos
use Rattle.rl_hir.specs.declared.terminal.ReturnVariant.TheVariants as returns
use Rattle.rl_lowered.proofs.Blocks.{blocks_caught, case_test_blocks, cases_blocks, expression_blocks, expression_passes, head_blocks}
use Rattle.rl_lowered.proofs.Blocks.{head_passes, init_blocks, init_passes, loop_is, statement_blocks, statements_blocks, test_blocks}
use Rattle.rl_lowered.proofs.Blocks.{test_passes}
use Rattle.rl_lowered.proofs.Catches.{blocks_throwing, stores_caught}
use Rattle.rl_lowered.proofs.Clean.{declared_pattern_clean}
use Rattle.rl_lowered.proofs.Clean.{among_clean, branches_clean_at, case_clean, constant_head_never, finalizer_never, first_none, for_clean}
use Rattle.rl_lowered.proofs.Clean.{lost_head_never, member_head_clean, moved_never, never, rounds_clean, second_none, switch_clean}
use Rattle.rl_lowered.proofs.Clean.{throw_clean, try_clean, while_clean}
use Rattle.rl_lowered.proofs.Common.{At, BlockId, End, InstructionValue, Names, Node, Pieces, Place, Said, Span, State, Syntax, Then}
use Rattle.rl_lowered.proofs.HeldItems.{declared_pattern_held, pattern_stored}
use Rattle.rl_lowered.proofs.HeldParts.{bind_held, declared_head_held, member_held}
use Rattle.rl_lowered.proofs.LiveFrames.{lives_left, row_lives, value_keyless}
use Rattle.rl_lowered.proofs.Living.{all_lives, declaring_lives, expression_lives, falls_same, found_lives, lives_behind, lives_same}
use Rattle.rl_lowered.proofs.Living.{target_lives}
use Rattle.rl_lowered.proofs.PatternLives.{declarators_lives, pattern_lives}
use Rattle.rl_lowered.proofs.Plain.{init_said, is_operand, lowered_plain}
use Rattle.rl_lowered.proofs.TargetForms.{pattern_head_refuses}
use Rattle.rl_lowered.proofs.Throws.{Throws, ThrowsIf, declarators_throw, declaring_throws, do_while_throws_by, expression_throws}
use Rattle.rl_lowered.proofs.Throws.{for_throws, forin_throws, forof_throws, handler_kept, if_throws, label_throws, row_throws}
use Rattle.rl_lowered.proofs.Throws.{switch_throws, throws_behind, throws_on, updated_comes, value_throws, while_throws}
use Rattle.rl_lowered.specs.Forms.{store_of}
use Rattle.rl_lowered.specs.Items.{caught, found_again, promoted}
use Rattle.rl_lowered.specs.Lowered.{DeclaredPattern, StoredPattern}
use Rattle.rl_lowered.specs.Lowered.{AwaitRefused, Block, Break, CaseMoved, CaseTested, Continue, Debugger, Declared, DeclaredInit, DoWhile}
use Rattle.rl_lowered.specs.Lowered.{Empty, Expression, Finalized, ForIn, ForOf, ForPlain, ForUpdated, IfElse, IfThen, Labeled, LabeledLoop}
use Rattle.rl_lowered.specs.Lowered.{Lost, LoweredBody, LoweredCaseTest, LoweredCases, LoweredHead, LoweredInit, LoweredLoop}
use Rattle.rl_lowered.specs.Lowered.{LoweredStatement, LoweredStatements, LoweredTest, NextCase, NextStatement, NoCase, NoCaseTest, NoInit}
use Rattle.rl_lowered.specs.Lowered.{NoStatement, NoTest, Reassigned, ReassignedConstant, RefusedInit, Return, ReturnNothing, Statements}
use Rattle.rl_lowered.specs.Lowered.{StoredGlobal, StoredMember, Switch, Tested, Throw, TryBound, TryPlain, Uncaught, Unlabeled, Value}
use Rattle.rl_lowered.specs.Lowered.{Variables, While, With, catch_begun, catch_bound, label_part, part_span}
use Rattle.rl_lowered.specs.Lowered.{throwing}
use Rattle.rl_lowered.specs.Promised.{body_falls, held_by}
use Rattle.rl_machine.specs.Machine.{Code, default_case}
use Rattle.rl_model.specs.Actions.{Label}
use Rattle.rl_model.specs.Dead.{Lives as DeadLives, Outs, declares, either, goes_on, has_default, is_broken, lives, lives_all, lives_cases}
use Rattle.rl_model.specs.Dead.{lives_in_try, loop_outs, switch_outs}
use Rattle.rl_promises.specs.Jumps.{is_loop}
use Rattle.rl_promises.specs.Live.{Held, held_among, held_in, live_all, live_cases, live_in, live_in_body}
use Rattle.rl_promises.specs.Moved.{said_of_moved}
use Rattle.rl_promises.specs.Rows.{refusals, refusals_among, refusals_at, refusals_at_head, refusals_in, refusals_in_body}
use Rattle.rl_promises.specs.Rows.{refusals_in_cases, said_of_init, said_of_test}
use Rattle.rl_runs.proofs.Holes.{last_added}
use Rattle.rl_runs.proofs.Leaving.{by_either, leaves_behind, leaves_broken, leaves_continued, leaves_none, leaves_row, outs_by}
use Rattle.rl_runs.proofs.Living.{lives_none, lives_refl, lives_then}
use Rattle.rl_runs.proofs.Moves.{extends_completed, extends_then, extends_value}
use Rattle.rl_runs.proofs.Preserving.{blocks_then}
use Rattle.rl_runs.proofs.Statements.{extends_returned, extends_threw}
use Rattle.rl_runs.specs.Blocks.{IsLedTo, Leaves, Lives, PreservesBlocks}
use Rattle.rl_runs.specs.Facts.{Extends, IsContainedIn}
use Rattle.rl_runs.specs.Moves.{block_id, next_hole, return_of, returned_from}
use Rattle.rl_syntax.specs.declared.word.Word.TheVariants as word
use Rattle.rl_syntax.specs.Syntax.{Absent, Listed, span_of}

-- A statement with these exits: where it is reached, its live instructions stand in reached blocks, the targets of its jumps are reached,
-- and so is the handler around it if it acts.
pub record LivesWith (live : List Held) (outs : Outs) (acts : Bool) (old new : State) : Type 0 where
  pub lives : Lives held_by live outs.falls old new
  pub leaves : Leaves outs old new
  pub throws : ThrowsIf acts old new

-- A statement that does not act.
never_throws : (s t : State) → ThrowsIf false s t
never_throws s t is = let never : false ≡ true = is in absurd (cc)

-- A statement without jumps.
jumpless : {live : List Held} (falls acts : Bool) (s t : State) → Lives held_by live falls s t → ThrowsIf acts s t
    → LivesWith live (record { falls = falls; breaks = []; continues = [] }) acts s t
jumpless falls acts s t l throws = record { lives = l; leaves = leaves_none falls s t; throws = throws }

-- The test of a `for` loop.
test_lives : {names : Names} {at : Span} {e : Syntax} {s t : State} {p : Place} → LoweredTest names at e s t p → said_of_test at e ≡ []
    → refusals names e ≡ [] → Lives held_by (held_in names e) true s t
test_lives (NoTest s) unsaid none = absurd (never unsaid)
test_lives (Tested e s t p d) unsaid none = expression_lives d none

test_throws : {names : Names} {at : Span} {e : Syntax} {s t : State} {p : Place} → LoweredTest names at e s t p → said_of_test at e ≡ []
    → (h : BlockId) → innermost s.handlers ≡ Some h → Throws h s t
test_throws (NoTest s) unsaid h on = absurd (never unsaid)
test_throws (Tested e s t p d) unsaid h on = expression_throws d h on

-- The head of a loop over keys or values.
head_lives : {names : Names} {value : Place} {e : Syntax} {s t : State} {p : Place} → LoweredHead names value e s t p
    → refusals_at_head names e ≡ [] → Lives held_by (held_in names e) true s t
head_lives {names} {value} (Declared at there bind kind name type symbol identifier s annotated is f) none =
    let v : InstructionValue =
    values.StoreLocal variables.Let (record { identifier = record { 0 = identifier }; span = Some at.span }) value in
    let l = value_keyless held_by (found_again names s symbol identifier bind.span) v (Some at.span) in
    lives_same (declared_head_held names at there bind kind name type annotated) (record { onward = l.onward; stands = l.stands })
head_lives {names} {value} (Reassigned at name symbol identifier s is mutable f) none =
    found_lives names s symbol at.span
    (values.StoreLocal variables.Reassign (record { identifier = record { 0 = identifier }; span = Some at.span }) value) (Some at.span)
head_lives {names} (ReassignedConstant at name symbol identifier s is constant f) none =
    absurd (constant_head_never names at name symbol is constant none)
head_lives {value} (StoredGlobal at name binding s is) none = value_keyless held_by s (values.StoreGlobal name value) (Some at.span)
head_lives {names} {value} (StoredMember at w fields parts pieces object key s t is d) none =
    let v : InstructionValue = store_of object key value in
    lives_same (member_held names is at)
    (lives_behind s (extends_value t v (Some at.span)) (value_keyless held_by t v (Some at.span))
    (all_lives d (member_head_clean is names at none)))
head_lives {names} (DeclaredPattern at there kind pattern s t p is d) none =
    lives_same (declared_pattern_held names at there kind pattern)
    (pattern_lives d (declared_pattern_clean names at there kind pattern none))
head_lives {names} (StoredPattern at w fields s t p is d) none =
    lives_same (sym (ap (λ (l : List Held). l ++ held_in names (Node at w fields)) (pattern_stored (Node at w fields) at.span is)))
    (target_lives d (sym (pattern_head_refuses names at w fields is) ∙ none))
head_lives {names} (Lost at w fields s is) none = absurd (lost_head_never names at w fields is none)

-- A jump does not complete.
jump_lives : (names : Names) (s : State) (target : BlockId) (variant : GotoVariant) (span : Span) (label : Label)
    → Lives held_by (held_in names (label_part label) ++ []) false s (next_hole s target.0 variant span blocks.Block)
jump_lives names s target variant span None =
    lives_none held_by s (next_hole s target.0 variant span blocks.Block) false (λ is. absurd (cc))
jump_lives names s target variant span (Some label) =
    lives_none held_by s (next_hole s target.0 variant span blocks.Block) false (λ is. absurd (cc))

broken_lives : (names : Names) (at : At) (label : Label) (target : BlockId) (s : State) → lookup_break s.scopes label ≡ Ok target
    → LivesWith (live_in names None (Node at word.Break (Then (label_part label) End)))
    (lives None (Node at word.Break (Then (label_part label) End))).outs
    (lives None (Node at word.Break (Then (label_part label) End))).acts s (next_hole s target.0 gotos.Break at.span blocks.Block)
broken_lives names at None target s is = record {
  lives = jump_lives names s target gotos.Break at.span None;
  leaves = leaves_broken s None target at.span blocks.Block is;
  throws = never_throws s (next_hole s target.0 gotos.Break at.span blocks.Block);
}
broken_lives names at (Some label) target s is = record {
  lives = jump_lives names s target gotos.Break at.span (Some label);
  leaves = leaves_broken s (Some label) target at.span blocks.Block is;
  throws = never_throws s (next_hole s target.0 gotos.Break at.span blocks.Block);
}

continued_lives : (names : Names) (at : At) (label : Label) (target : BlockId) (s : State) → lookup_continue s.scopes label ≡ Ok target
    → LivesWith (live_in names None (Node at word.Continue (Then (label_part label) End)))
    (lives None (Node at word.Continue (Then (label_part label) End))).outs
    (lives None (Node at word.Continue (Then (label_part label) End))).acts s (next_hole s target.0 gotos.Continue at.span blocks.Block)
continued_lives names at None target s is = record {
  lives = jump_lives names s target gotos.Continue at.span None;
  leaves = leaves_continued s None target at.span blocks.Block is;
  throws = never_throws s (next_hole s target.0 gotos.Continue at.span blocks.Block);
}
continued_lives names at (Some label) target s is = record {
  lives = jump_lives names s target gotos.Continue at.span (Some label);
  leaves = leaves_continued s (Some label) target at.span blocks.Block is;
  throws = never_throws s (next_hole s target.0 gotos.Continue at.span blocks.Block);
}

-- A label in front of a statement that is no loop is not its own.

abbrev LivesAlike : Names → (own : Label) → Syntax → Type 0
LivesAlike names own e =
    (live_in names own e ≡ live_in names None e) × ((lives own e).outs ≡ (lives None e).outs) × ((lives own e).acts ≡ (lives None e).acts)

jump_alike : (names : Names) (own label : Label) (at : At)
    → LivesAlike names own (Node at word.Break (Then (label_part label) End))
    × LivesAlike names own (Node at word.Continue (Then (label_part label) End))
jump_alike names own None at = ((refl, refl, refl), (refl, refl, refl))
jump_alike names own (Some label) at = ((refl, refl, refl), (refl, refl, refl))

unowned_lives : {names : Names} {e : Syntax} {s t : State} → LoweredStatement names e s t → is_loop e ≡ false → (own : Label)
    → LivesAlike names own e
unowned_lives (Unlabeled loop s t d) other own = let never : false ≡ true = sym other ∙ loop_is d in absurd (cc)
unowned_lives {names} (Break at label target s is) other own = (jump_alike names own label at).0
unowned_lives {names} (Continue at label target s is) other own = (jump_alike names own label at).1
unowned_lives _ other own = (refl, refl, refl)

alike_lives : (names : Names) (e : Syntax) {s t : State} (own : Label) → LivesAlike names own e
    → LivesWith (live_in names None e) (lives None e).outs (lives None e).acts s t
    → LivesWith (live_in names own e) (lives own e).outs (lives own e).acts s t
alike_lives names e {s} {t} own alike l =
    subst (λ (live : List Held). LivesWith live (lives own e).outs (lives own e).acts s t) (sym alike.0)
    (subst (λ (outs : Outs). LivesWith (live_in names None e) outs (lives own e).acts s t) (sym alike.1)
    (subst (λ (acts : Bool). LivesWith (live_in names None e) (lives None e).outs acts s t) (sym alike.2) l))

-- A loop whose test is in front may complete.
under_true : (own : Label) (body : Outs) → (outs_by own (loop_outs own true body)).falls ≡ true
under_true None body = refl
under_true (Some label) body = refl

-- A `switch` has a case without a test where its derivation has one.

default_other : (at : At) (e : Syntax) (parts cases : Pieces) → is_operand e ≡ true
    → has_default (Then (Node at word.Case (Then e parts)) cases) ≡ has_default cases
default_other at Absent parts cases is = absurd (cc)
default_other at _ parts cases is = refl

test_default : {names : Names} {e : Syntax} {s t : State} {p : Option Place} → LoweredCaseTest names e s t p → (at : At)
    → (parts cases : Pieces) (block : BlockId) (ks : List Case) → has_default cases ≡ is_some (default_case ks)
    → has_default (Then (Node at word.Case (Then e parts)) cases) ≡ is_some (default_case (record { test = p; block = block } ∷ ks))
test_default (NoCaseTest s) at parts cases block ks is = refl
test_default (CaseTested e s t p unmoved d) at parts cases block ks is = default_other at e parts cases (lowered_plain d).node ∙ is
test_default (CaseMoved there w fields s t p unmoved d) at parts cases block ks is = is

cases_default : {names : Names} {s : State} {es : Pieces} {ks : List Case} {t : State} → LoweredCases names s es ks t
    → has_default es ≡ is_some (default_case ks)
cases_default (NoCase s) = refl
cases_default (NextCase at test statements cases ks s x y z p all d tested) =
    test_default tested at (Then (Listed statements) End) cases (block_id x.env.next_block) ks (cases_default all)

-- The exits of the last case are its own.
cases_outs : {names : Names} {s : State} {cases : Pieces} {ks : List Case} {t : State} → LoweredCases names s cases ks t → (at : At)
    → (test : Syntax) (statements : Pieces)
    → (lives_cases (Then (Node at word.Case (Then test (Then (Listed statements) End))) cases)).outs
    ≡ outs_before (lives_all statements).outs ks (lives_cases cases).outs
cases_outs (NoCase s) at test statements = refl
cases_outs (NextCase there other others cases ks s x y z p all d tested) at test statements = refl

cases_same : {live others : List Held} {outs other : Outs} {s : State} {ks : List Case} {t : State} → others ≡ live → other ≡ outs
    → LivesCases held_by live outs None s ks t → LivesCases held_by others other None s ks t
cases_same {live} {others} {outs} {other} {s} {ks} {t} is same l =
    subst (λ (keys : List Held). LivesCases held_by keys other None s ks t) (sym is)
    (subst (λ (o : Outs). LivesCases held_by live o None s ks t) (sym same) l)

-- The test of a case.
case_test_lives : {names : Names} {e : Syntax} {s t : State} {p : Option Place} → LoweredCaseTest names e s t p
    → said_of_moved names e ≡ [] → refusals names e ≡ [] → Lives held_by (held_in names e) true s t
case_test_lives (NoCaseTest s) unsaid none = lives_refl held_by s
case_test_lives (CaseTested e s t p is d) unsaid none = expression_lives d none
case_test_lives {names} (CaseMoved at w fields s t p is d) unsaid none = absurd (moved_never names at w fields is unsaid)

-- A handler behind the parameter of its `catch`.
bound_lives : (names : Names) {live : List Held} {outs : Outs} {acts : Bool} {s t u : State} (param : Syntax) → Extends s t → Extends t u
    → Lives held_by (held_in names param) true s t → LivesWith live outs acts t u → LivesWith (held_in names param ++ live) outs acts s u
bound_lives names {live} {outs} {acts} {s} {t} {u} param g g2 first l = record {
  lives = lives_then held_by s t u (held_in names param) live true outs.falls g2 refl first l.lives;
  leaves = leaves_behind outs s t u g2 g.scopes (first.onward refl) l.leaves;
  throws = λ is h on. throws_behind h s g2 (first.onward refl) (l.throws is h (handler_kept h g on));
}

-- The exits of a `try` statement whose handler is live where the block acts.
abbrev pub tried_by : (acts : Bool) → DeadLives → DeadLives → DeadLives
tried_by acts a b = if acts then record { outs = either a.outs b.outs; acts = b.acts } else record { outs = a.outs; acts = false }

-- A `try` statement, from its block and its handler.
module _ (s s2 s4 : State) (binding : Option Place) (span part other : Span) (bh : PreservesBlocks (try_started s binding) s2)
    (bb : PreservesBlocks (try_handler s2 s.env.next_block (try_bound (reserved s) binding).env.next_block part) s4) where
  abbrev handler : ℕ
  handler = (try_bound (reserved s) binding).env.next_block

  abbrev ended : State
  ended = try_finished s4 s.env.next_block handler s2.env.next_block binding span (try_bound (reserved s) binding).current other

  -- The handler is reached where the block is, if that acts.
  caught_in : (acts : Bool) → ThrowsIf acts (try_handler s2 s.env.next_block (try_bound (reserved s) binding).env.next_block part) s4
      → acts ≡ true → (c : Code)
      → IsContainedIn (try_finished s4 s.env.next_block (try_bound (reserved s) binding).env.next_block s2.env.next_block binding span
      (try_bound (reserved s) binding).current other) c
      → (entry : ℕ) → IsLedTo c entry s2.env.next_block → IsLedTo c entry (try_bound (reserved s) binding).env.next_block
  caught_in acts throws is c cover entry led =
      throws is (block_id handler) (last_added s2.handlers (block_id handler)) c
      (cover4 s s2 s4 binding span part other bh bb c cover) entry led

  tried_lives : (in_block in_handler : List Held) (a b : DeadLives)
      → LivesWith in_block a.outs a.acts (try_handler s2 s.env.next_block (try_bound (reserved s) binding).env.next_block part) s4
      → LivesWith in_handler b.outs b.acts (try_started s binding) s2
      → LivesWith ((in_block ++ (if a.acts then in_handler else [])) ++ []) (lives_in_try a b).outs (lives_in_try a b).acts s
      (try_finished s4 s.env.next_block (try_bound (reserved s) binding).env.next_block s2.env.next_block binding span
      (try_bound (reserved s) binding).current other)
  tried_lives in_block in_handler a b block l = by_acts a.acts refl
    where
      behind_block : a.outs.falls ≡ true → (c : Code) → IsContainedIn ended c → (entry : ℕ) → IsLedTo c entry s2.env.next_block
          → IsLedTo c entry s.env.next_block
      behind_block falls c cover entry led =
          block_comes s s2 s4 binding span part other bh bb (block.lives.onward falls) c cover entry led

      thrown : a.acts ≡ true → (c : Code) → IsContainedIn ended c → (entry : ℕ) → IsLedTo c entry s2.env.next_block
          → IsLedTo c entry handler
      thrown is c cover entry led = caught_in a.acts block.throws is c cover entry led

      comes : a.acts ≡ true → (a.outs.falls || b.outs.falls) ≡ true → (c : Code) → IsContainedIn ended c → (entry : ℕ)
          → IsLedTo c entry s2.env.next_block → IsLedTo c entry s.env.next_block
      comes acts is c cover entry led =
          by_either a.outs.falls b.outs.falls (IsLedTo c entry s.env.next_block) (λ falls. behind_block falls c cover entry led)
          (λ falls. handler_comes s s2 s4 binding span part other bh bb (l.lives.onward falls) c cover entry
          (thrown acts c cover entry led)) is

      by_acts : (acts : Bool) → a.acts ≡ acts
          → LivesWith ((in_block ++ (if acts then in_handler else [])) ++ []) (tried_by acts a b).outs (tried_by acts a b).acts s ended
      by_acts true is = record {
        lives = lives_same (append-nil (in_block ++ in_handler))
            (try_lives s s2 s4 binding span part other bh bb held_by in_block in_handler b.outs.falls a.outs.falls
            (a.outs.falls || b.outs.falls) (thrown is) (comes is) l.lives block.lives);
        leaves = try_leaves s s2 s4 binding span part other bh bb a.outs b.outs (thrown is) block.leaves l.leaves;
        throws = λ acts h on c cover entry led.
            l.throws acts h (handler_kept h (bound_blocks (reserved s) binding).extends on) c
            (cover2 s s2 s4 binding span part other bh bb c cover) entry
            (thrown is c cover entry (at_body s s2 s4 binding span part other bh bb c cover entry led));
      }
      by_acts false is = record {
        lives = lives_same (append-nil (in_block ++ []) ∙ append-nil in_block)
            (try_lives_calm s s2 s4 binding span part other bh bb held_by in_block a.outs.falls a.outs.falls behind_block block.lives);
        leaves = try_leaves_calm s s2 s4 binding span part other bh bb a.outs block.leaves;
        throws = never_throws s ended;
      }

mutual
  pub statement_lives : {names : Names} {e : Syntax} {s t : State} → LoweredStatement names e s t → (tried : Bool)
      → refusals_at names tried e ≡ [] → LivesWith (live_in names None e) (lives None e).outs (lives None e).acts s t
  statement_lives (Empty at s) tried none = jumpless true false s s (lives_refl held_by s) (never_throws s s)
  statement_lives {names} (Expression at e s t p d) tried none =
      jumpless true true s t (lives_same (append-nil (held_in names e)) (expression_lives d (first_none (refusals names e) [] none)))
      (λ acts h on. expression_throws d h on)
  statement_lives (Debugger at s) tried none =
      jumpless true true s _ (value_keyless held_by s values.Debugger (Some at.span))
      (λ acts h on. value_throws h s values.Debugger (Some at.span) on)
  statement_lives {names} (Variables at k declarators s t d) tried none =
      jumpless true (declares (Then (Said (variable_text k)) (Then (Listed declarators) End))) s t
      (lives_same (append-nil (held_among names declarators))
      (declaring_lives s t k at.span (declarators_lives d (second_none _ (refusals_in names declarators) none))))
      (λ acts h on. declaring_throws h s t k at.span (λ there. declarators_throw d (Said (variable_text k)) acts h there) on)
  statement_lives (ReturnNothing at s) tried none =
      let undefined : State = with_value s (values.Primitive primitives.Undefined) None in
      jumpless false true s _
      (lives_none held_by s (returned_from undefined (Some at.span) returns.Explicit (temporary s None) blocks.Block) false
      (λ is. absurd (cc)))
      (λ acts h on. throws_on h s (extends_returned undefined (Some at.span) returns.Explicit (temporary s None) blocks.Block)
      (value_throws h s (values.Primitive primitives.Undefined) None on))
  statement_lives {names} (Return at e s t p d) tried none =
      jumpless false true s _
      (lives_same (append-nil (held_in names e))
      (lives_left held_by s (extends_returned t (Some at.span) returns.Explicit p blocks.Block)
      (expression_lives d (first_none (refusals names e) [] none))))
      (λ acts h on. throws_on h s (extends_returned t (Some at.span) returns.Explicit p blocks.Block) (expression_throws d h on))
  statement_lives {names} (Block at statements s t d) tried none =
      statements_lives d tried none
  statement_lives {names} (IfThen at test consequent s s2 s3 p dc dt) tried none =
      let clean = branches_clean_at names tried consequent Absent test none in
      let c = statement_lives dc tried clean.0 in
      let outs : Outs = (lives None consequent).outs in record {
        lives = falls_same (or_true outs.falls)
            (lives_same (append-nil (held_in names test ++ live_in names None consequent))
            (if_then_lives held_by s s2 s3 p at.span (span_of consequent) (held_in names test) (live_in names None consequent) outs.falls
            (expression_blocks dt).extends c.lives (expression_lives dt clean.2)));
        leaves = if_then_leaves s s2 s3 p at.span (span_of consequent) outs (expression_blocks dt).extends (expression_passes dt) c.leaves;
        throws = λ acts h on.
            if_throws h s s3 s.env.next_block (s.env.next_block + 1) s.env.next_block p at.span
            (expression_throws dt h (handler_kept h (statement_blocks dc).extends on));
      }
  statement_lives {names} (IfElse at test consequent alternate s s2 s3 s4 p dc da dt) tried none =
      let clean = branches_clean_at names tried consequent alternate test none in
      let c = statement_lives dc tried clean.0 in
      let a = statement_lives da tried clean.1 in
      let first : Outs = (lives None consequent).outs in
      let second : Outs = (lives None alternate).outs in record {
        lives = lives_same (append_assoc (held_in names test) (live_in names None consequent) (live_in names None alternate))
            (if_lives held_by s s2 s3 s4 p at.span (span_of consequent) (span_of alternate) (held_in names test)
            (live_in names None consequent)
            (live_in names None alternate) first.falls second.falls
            (statement_blocks dc).extends (statement_blocks da).extends (expression_blocks dt).extends c.lives a.lives
            (expression_lives dt clean.2));
        leaves = if_leaves s s2 s3 s4 p at.span (span_of consequent) (span_of alternate)
            (statement_blocks dc).extends (statement_blocks da).extends (expression_blocks dt).extends (expression_passes dt) first second
            c.leaves a.leaves;
        throws = λ acts h on.
            if_throws h s s4 s.env.next_block (s.env.next_block + 1) s2.env.next_block p at.span
            (expression_throws dt h
            (handler_kept h (statement_blocks da).extends (handler_kept h (statement_blocks dc).extends on)));
      }
  statement_lives (Unlabeled loop s t d) tried none = loop_lives d tried none
  statement_lives {names} (LabeledLoop at label loop s t d) tried none = loop_lives d tried none
  statement_lives {names} (Labeled at label body s s2 other d) tried none =
      let l = alike_lives names body (Some label) (unowned_lives d other (Some label))
      (statement_lives d tried none) in
      let outs : Outs = (lives (Some label) body).outs in record {
        lives = label_lives s s2 label at.span (span_of body) (statement_blocks d) held_by (live_in names (Some label) body) outs l.lives
            l.leaves;
        leaves = label_leaves s s2 label at.span (span_of body) (statement_blocks d) outs l.leaves;
        throws = λ acts h on. label_throws h s s2 label at.span (span_of body) (l.throws acts h on);
      }
  statement_lives {names} (Break at label target s is) tried none = broken_lives names at label target s is
  statement_lives {names} (Continue at label target s is) tried none = continued_lives names at label target s is
  statement_lives {names} (Throw at e s t p d) tried none =
      let g = extends_then (blocks_throwing t at.span).extends (extends_threw (throwing t at.span) at.span p blocks.Block) in
      jumpless false true s _
      (lives_same (append-nil (held_in names e)) (lives_left held_by s g (expression_lives d (throw_clean names tried at.span e none).0)))
      (λ acts h on. throws_on h s g (expression_throws d h on))
  statement_lives {names} (Switch at value cases ks s t u p all d) tried none =
      let clean = switch_clean names tried value cases none in
      let outs : Outs = (lives_cases cases).outs in
      let live : List Held = held_in names value ++ live_cases names cases in
      let before : LivesCases held_by (live_cases names cases) outs None s ks t = cases_live all tried clean.0 in
      let l : LivesCases held_by live outs None s ks u =
      lives_in_front held_by None s t u ks (live_cases names cases) (held_in names value) outs (expression_blocks d).extends
      (expression_lives d clean.1) before in
      let ended : State = switch_finished u s.env.next_block ks p at.span in record {
        lives = falls_same (ap (λ (b : Bool). (switch_outs b outs).falls) (cases_default all))
            (switch_lives None s u ks p at.span held_by live outs l);
        leaves = subst (λ (b : Bool). Leaves (switch_outs b outs) s ended) (sym (cases_default all))
            (switch_leaves None s u ks p at.span held_by live outs l);
        throws = λ acts h on.
            switch_throws h s t u ks p at.span (expression_blocks d).extends before.passes
            (expression_throws d h (handler_kept h (cases_blocks all).extends on));
      }
  statement_lives {names} (TryPlain at there block body s s2 s3 first second) tried none =
      let clean = try_clean names tried Absent body block none in
      tried_lives s s2 s3 None at.span there.span (span_of block) (statement_blocks first) (statement_blocks second)
      (live_in names None block) (live_in names None body) (lives None block) (lives None body) (statement_lives second true clean.2)
      (statement_lives first tried clean.1)
  statement_lives {names} (TryBound at there bind name type block body symbol identifier s s2 s3 annotated is f first second) tried none =
      let param : Syntax = Node bind word.Bind (Then (Said name) (Then type End)) in
      let clean = try_clean names tried param body block none in
      let begun : State = catch_begun s bind.span in
      let bound : State = catch_bound names s symbol identifier bind.span in
      let l = tried_lives (promoted s bind.span) s2 s3 (Some (caught s bind.span)) at.span there.span (span_of block)
      (blocks_then begun bound s2 (blocks_caught names s symbol identifier bind.span f) (statement_blocks first)) (statement_blocks second)
      (live_in names None block) (held_in names param ++ live_in names None body) (lives None block) (lives None body)
      (statement_lives second true clean.2)
      (bound_lives names param (blocks_caught names s symbol identifier bind.span f).extends (statement_blocks first).extends
      (lives_same (bind_held names bind name type annotated)
      (found_lives names begun symbol bind.span (stores_caught s identifier bind.span) (Some bind.span)))
      (statement_lives first tried clean.1)) in record {
        lives = record { onward = l.lives.onward; stands = l.lives.stands };
        leaves = record { breaks = l.leaves.breaks; continues = l.leaves.continues };
        throws = l.throws;
      }
  statement_lives {names} (Finalized at there block param body finalizer s t is d) tried none =
      absurd (finalizer_never names tried at there block param body finalizer is none)
  statement_lives (Uncaught at block finalizer s) tried none = absurd (never none)
  statement_lives (With at fields s) tried none = absurd (never none)

  cases_live : {names : Names} {s : State} {es : Pieces} {ks : List Case} {t : State} → LoweredCases names s es ks t → (tried : Bool)
      → refusals_in_cases names tried es ≡ [] → LivesCases held_by (live_cases names es) (lives_cases es).outs None s ks t
  cases_live (NoCase s) tried none = switch_begun_lives held_by None s
  cases_live {names} (NextCase at test statements cases ks s x y z p all d tested) tried none =
      let clean = case_clean names tried test statements cases none in
      let own = statements_lives d tried clean.body in
      let k : Case = record { test = p; block = block_id x.env.next_block } in
      let outs : Outs = outs_before (lives_all statements).outs ks (lives_cases cases).outs in
      let more : LivesCases held_by (live_all names statements ++ live_cases names cases) outs None s (k ∷ ks)
      (case_ended y (fall_of s.env.next_block ks) x.current at.span) =
      lives_more held_by None s x y ks at.span p (cases_blocks all).extends (statements_blocks d).extends (live_cases names cases)
      (live_all names statements) (lives_all statements).outs (lives_cases cases).outs own.lives own.leaves
      (cases_live all tried clean.behind) in
      cases_same (append_assoc (held_in names test) (live_all names statements) (live_cases names cases))
      (cases_outs all at test statements)
      (lives_in_front held_by None s (case_ended y (fall_of s.env.next_block ks) x.current at.span) z (k ∷ ks)
      (live_all names statements ++ live_cases names cases) (held_in names test) outs (case_test_blocks tested).extends
      (case_test_lives tested clean.moved clean.condition) more)

  pub loop_lives : {names : Names} {own : Label} {e : Syntax} {s t : State} → LoweredLoop names own e s t → (tried : Bool)
      → refusals_at names tried e ≡ [] → LivesWith (live_in names own e) (outs_by own (lives own e).outs) (lives own e).acts s t
  loop_lives {names} {own} (While at test body s s2 s3 p d dt) tried none =
      let clean = while_clean names tried test body none in
      let l = statement_lives d tried clean.0 in
      let outs : Outs = (lives None body).outs in record {
        lives = falls_same (under_true own outs)
            (while_lives held_by s s2 s3 own p at.span (span_of body) (held_in names test) (live_in names None body) outs.falls
            (statement_blocks d).extends (expression_blocks dt).extends l.lives (expression_lives dt clean.1));
        leaves = while_leaves s s2 s3 own p at.span (span_of body) outs (expression_blocks dt).extends (expression_passes dt)
            l.leaves;
        throws = λ acts h on.
            while_throws h s s2 s3 p at.span (span_of body) (expression_blocks dt).extends
            (expression_throws dt h (handler_kept h (statement_blocks d).extends on));
      }
  loop_lives {names} {own} (DoWhile at test body s s2 s3 p d dt) tried none =
      let clean = while_clean names tried test body none in
      let l = statement_lives d tried clean.0 in
      let outs : Outs = (lives None body).outs in record {
        lives = do_while_lives held_by s s2 s3 own p at.span (span_of body) outs (expression_blocks dt).extends l.leaves
            (held_in names test)
            (live_in names None body) l.lives (expression_lives dt clean.1);
        leaves = do_while_leaves s s2 s3 own p at.span (span_of body) outs (expression_blocks dt).extends l.leaves
            (goes_on own outs || is_broken outs);
        throws = λ acts h on.
            do_while_throws_by h s s2 s3 own p at.span (span_of body) (lives None body).acts outs (expression_blocks dt).extends l.leaves
            l.lives.onward (λ one. l.throws one h on)
            (expression_throws dt h (handler_kept h (statement_blocks d).extends on)) acts;
      }
  loop_lives {names} {own} (ForUpdated at init test update body s s2 s3 s4 s5 u p di du d dt) tried none =
      let clean = for_clean names tried at.span init test update body none in
      let l = statement_lives d tried clean.body in
      let outs : Outs = (lives None body).outs in record {
        lives = falls_same (under_true own outs)
            (for_lives s s2 s3 s4 s5 own p at.span (part_span at.span init) (span_of update) (span_of body) outs (init_blocks di).extends
            (expression_blocks du).extends (statement_blocks d).extends (test_blocks dt).extends (init_passes di) (test_passes dt) l.leaves
            held_by (held_in names init) (held_in names test) (held_in names update) (live_in names None body)
            (init_lives di clean.init_said clean.init)
            (expression_lives du clean.update) l.lives (test_lives dt clean.test_said clean.test));
        leaves = for_leaves s s2 s3 s4 s5 own p at.span (part_span at.span init) (span_of update) (span_of body) outs
            (init_blocks di).extends (expression_blocks du).extends (statement_blocks d).extends (test_blocks dt).extends (init_passes di)
            (test_passes dt) l.leaves;
        throws = λ acts h on.
            for_throws h s s3 s4 s5 own (block_id s2.env.next_block) (Some (block_id s2.env.next_block)) p at.span (span_of update)
            (span_of body) (statement_blocks d).extends (test_blocks dt).extends
            (updated_comes s s2 s3 (part_span at.span init) (span_of update) (expression_blocks du).extends (init_passes di))
            (test_passes dt)
            (test_throws dt clean.test_said h
            (handler_kept h (statement_blocks d).extends
            (handler_kept h (expression_blocks du).extends (handler_kept h (init_blocks di).extends on))));
      }
  loop_lives {names} {own} (ForPlain at init test body s s2 s3 s4 p di d dt) tried none =
      let clean = for_clean names tried at.span init test Absent body none in
      let l = statement_lives d tried clean.body in
      let outs : Outs = (lives None body).outs in record {
        lives = falls_same (under_true own outs)
            (for_lives_plain s s2 s3 s4 own p at.span (part_span at.span init) (span_of body) outs (init_blocks di).extends
            (statement_blocks d).extends (test_blocks dt).extends (init_passes di) (test_passes dt) held_by (held_in names init)
            (held_in names test)
            (live_in names None body) (init_lives di clean.init_said clean.init) l.lives (test_lives dt clean.test_said clean.test));
        leaves = for_leaves_plain s s2 s3 s4 own p at.span (part_span at.span init) (span_of body) outs (init_blocks di).extends
            (statement_blocks d).extends (test_blocks dt).extends (init_passes di) (test_passes dt) l.leaves;
        throws = λ acts h on.
            for_throws h s s2 s3 s4 own (block_id s.env.next_block) None p at.span (part_span at.span init) (span_of body)
            (statement_blocks d).extends (test_blocks dt).extends
            (init_comes s s2 (part_span at.span init) (init_passes di)) (test_passes dt)
            (test_throws dt clean.test_said h
            (handler_kept h (statement_blocks d).extends (handler_kept h (init_blocks di).extends on)));
      }
  loop_lives {names} {own} (ForIn at head right body s s2 s3 s4 collection p d dr dp) tried none =
      let clean = rounds_clean names tried head right body none in
      let l = statement_lives d tried clean.0 in
      let outs : Outs = (lives None body).outs in record {
        lives = falls_same (under_true own outs)
            (forin_lives s s2 s3 s4 own collection p at.span (span_of head) (span_of body) (expression_blocks dr).extends
            (head_blocks dp).extends (expression_passes dr) (head_passes dp) held_by (held_in names head) (held_in names right)
            (live_in names None body)
            outs.falls l.lives (expression_lives dr clean.1) (head_lives dp clean.2));
        leaves = forin_leaves s s2 s3 s4 own collection p at.span (span_of head) (span_of body) (expression_blocks dr).extends
            (head_blocks dp).extends (expression_passes dr) (head_passes dp) outs l.leaves;
        throws = λ acts h on.
            forin_throws h s s2 s3 s4 own collection p at.span (span_of head) (span_of body) (head_blocks dp).extends
            (expression_throws dr h (handler_kept h (statement_blocks d).extends on));
      }
  loop_lives {names} {own} (ForOf at head right body s s2 s3 s4 collection p d dr dp) tried none =
      let clean = rounds_clean names tried head right body none in
      let l = statement_lives d tried clean.0 in
      let outs : Outs = (lives None body).outs in record {
        lives = falls_same (under_true own outs)
            (forof_lives s s2 s3 s4 own collection p at.span (span_of head) (span_of body) (expression_blocks dr).extends
            (head_blocks dp).extends (expression_passes dr) (head_passes dp) held_by (held_in names head) (held_in names right)
            (live_in names None body)
            outs.falls l.lives (expression_lives dr clean.1) (head_lives dp clean.2));
        leaves = forof_leaves s s2 s3 s4 own collection p at.span (span_of head) (span_of body) (expression_blocks dr).extends
            (head_blocks dp).extends (expression_passes dr) (head_passes dp) outs l.leaves;
        throws = λ acts h on.
            forof_throws h s s2 s3 s4 own collection p at.span (span_of head) (span_of body) (head_blocks dp).extends
            (expression_throws dr h (handler_kept h (statement_blocks d).extends on));
      }
  loop_lives (AwaitRefused at head right body s) tried none = absurd (never none)

  init_lives : {names : Names} {at : Span} {e : Syntax} {s t : State} → LoweredInit names at e s t → said_of_init at e ≡ []
      → refusals names e ≡ [] → Lives held_by (held_in names e) true s t
  init_lives {at} (NoInit s) unsaid none = value_keyless held_by s (values.Primitive primitives.Undefined) (Some at)
  init_lives (DeclaredInit there fields s t d) unsaid none = (statement_lives d false none).lives
  init_lives {at} (RefusedInit e s t p d) unsaid none = absurd (never (sym (init_said e (lowered_plain d).node at) ∙ unsaid))

  pub statements_lives : {names : Names} {es : Pieces} {s t : State} → LoweredStatements names es s t → (tried : Bool)
      → refusals_among names tried es ≡ [] → LivesWith (live_all names es) (lives_all es).outs (lives_all es).acts s t
  statements_lives (NoStatement s) tried none = jumpless true false s s (lives_refl held_by s) (never_throws s s)
  statements_lives {names} (NextStatement e es s t u d ds) tried none =
      let clean = among_clean names tried e es none in
      let l = statement_lives d tried clean.0 in
      let m = statements_lives ds tried clean.1 in record {
        lives = row_lives held_by (lives None e).outs (lives_all es).outs (live_in names None e) (live_all names es) s t u
            (statements_blocks ds).extends l.lives m.lives;
        leaves = leaves_row (lives None e).outs (lives_all es).outs s t u (statement_blocks d).extends (statements_blocks ds).extends
            l.lives.onward l.leaves m.leaves;
        throws = row_throws (lives None e) (lives_all es) s t u (statement_blocks d).extends (statements_blocks ds).extends l.lives.onward
            l.throws m.throws;
      }

pub body_lives : {names : Names} {b : Syntax} {s t : State} → LoweredBody names b s t → refusals_in_body names b ≡ []
    → Lives held_by (live_in_body names b) (body_falls b) s t
body_lives {names} (Statements at directives statements s t texts d) none =
    (statements_lives d false none).lives
body_lives {names} (Value e s t p d) none =
    let last : State = completed_by t (return_of None returns.Implicit p) (new_block s.env.next_block blocks.Block) in
    let l : Lives held_by (held_in names e) false (reserved s) last =
    lives_left held_by (reserved s)
    (extends_completed t (return_of None returns.Implicit p) (new_block s.env.next_block blocks.Block) (λ none. refl))
    (expression_lives d (sym ((lowered_plain d).refused names) ∙ none)) in
    let m : Lives held_by (held_in names e) false s last = record { onward = l.onward; stands = l.stands } in
    lives_same (sym ((lowered_plain d).alone names)) (falls_same (lowered_plain d).ends m)
