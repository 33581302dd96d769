-- The table has an instruction for each call, construction, await and store of a statement, where nothing of it was refused.
use Rattle.std.proofs.Common.{◌≡◌, ℕ, ◌+◌, ◌++◌, Bool, true, false, List, [], Option, Some, None, refl}
use Rattle.std.proofs.Common.{sym, ap, ◌∙◌, arith, subst}
use Rattle.rl_base.specs.declared.variable_kind.VariableKind.{VariableKind}
use Rattle.rl_base.specs.VariableKinds.{variable_text}
use Rattle.rl_builder.specs.Builder.{reserved}
use Rattle.rl_frames.specs.Rounds.{ForOfParts, RoundsParts, forin_at, forin_headed, forof_at, forof_headed, forof_iterator, forof_shut}
use Rattle.rl_frames.specs.Rounds.{forof_tested, rounds_shut}
use Rattle.rl_hir.specs.declared.instruction.Instruction.{Instruction}
use Rattle.rl_hir.specs.declared.instruction.InstructionValue.TheVariants as values
use Rattle.rl_hir.specs.declared.instruction.PrimitiveValue.TheVariants as primitives
use Rattle.rl_hir.specs.declared.terminal.Case.{Case}
use Rattle.rl_lowered.proofs.Blocks.{declares_of}
use Rattle.rl_lowered.proofs.Catches.{declares_caught, stores_caught}
use Rattle.rl_lowered.proofs.Clean.{among_clean, branches_clean_at, case_clean}
use Rattle.rl_lowered.proofs.Clean.{constant_head_never, finalizer_never, first_none}
use Rattle.rl_lowered.proofs.Clean.{for_clean, lost_head_never, member_head_clean}
use Rattle.rl_lowered.proofs.Clean.{moved_never, never}
use Rattle.rl_lowered.proofs.Clean.{rounds_clean, second_none}
use Rattle.rl_lowered.proofs.Clean.{switch_clean, throw_clean, try_clean}
use Rattle.rl_lowered.proofs.Clean.{while_clean}
use Rattle.rl_lowered.proofs.Common.{At, End, Names, Node, Pieces, Place, Said, Span, State, Syntax, Then}
use Rattle.rl_lowered.proofs.HeldParts.{declared_head_held}
use Rattle.rl_lowered.proofs.HeldParts.{member_held, member_unstored, bind_held}
use Rattle.rl_lowered.proofs.Plain.{init_said, lowered_plain}
use Rattle.rl_lowered.proofs.Sums.{added_behind, added_body, added_bound_try, added_branch, added_branches}
use Rattle.rl_lowered.proofs.Sums.{added_case, added_declared}
use Rattle.rl_lowered.proofs.Sums.{added_do, added_for, added_inner, added_iterated, added_jump}
use Rattle.rl_lowered.proofs.Sums.{added_labeled, added_leaf, added_loop}
use Rattle.rl_lowered.proofs.Sums.{added_plain_for, added_rounds, added_row, added_same, added_stored, added_try}
use Rattle.rl_lowered.proofs.Sums.{added_unstored, none_more}
use Rattle.rl_lowered.specs.Forms.{store_of}
use Rattle.rl_lowered.specs.Items.{found_again, promoted}
use Rattle.rl_lowered.specs.Lowered.{AwaitRefused, Block, Break, CaseMoved, CaseTested}
use Rattle.rl_lowered.specs.Lowered.{Continue, Debugger, Declared}
use Rattle.rl_lowered.specs.Lowered.{DeclaredInit, DoWhile, Empty, Expression, Finalized, ForIn, ForOf, ForPlain, ForUpdated}
use Rattle.rl_lowered.specs.Lowered.{IfElse, IfThen, Labeled, LabeledLoop, Lost, LoweredBody}
use Rattle.rl_lowered.specs.Lowered.{LoweredCaseTest, LoweredCases, LoweredDeclarators, LoweredHead, LoweredInit, LoweredLoop}
use Rattle.rl_lowered.specs.Lowered.{LoweredStatement, LoweredStatements, LoweredTest, NextCase}
use Rattle.rl_lowered.specs.Lowered.{NextStatement, NoCase, NoCaseTest, NoInit, NoStatement, NoTest}
use Rattle.rl_lowered.specs.Lowered.{Reassigned, ReassignedConstant}
use Rattle.rl_lowered.specs.Lowered.{RefusedInit, Return, ReturnNothing, Statements, Switch, Throw, StoredGlobal}
use Rattle.rl_lowered.specs.Lowered.{StoredMember, Tested, TryBound, TryPlain, Uncaught, Unlabeled}
use Rattle.rl_lowered.specs.Lowered.{Value, Variables, While, With, assigned_to, catch_begun, declaring}
use Rattle.rl_lowered.specs.Lowered.{kind_of, label_part}
use Rattle.rl_lowered.specs.Named.{found}
use Rattle.rl_model.specs.Actions.{Label}
use Rattle.rl_model.specs.Counted.{Counted}
use Rattle.rl_promises.specs.Held.{times}
use Rattle.rl_promises.specs.Live.{Held, held_in}
use Rattle.rl_promises.specs.Moved.{said_of_moved}
use Rattle.rl_promises.specs.Rows.{refusals, refusals_among, refusals_at, refusals_at_head, refusals_in, refusals_in_body}
use Rattle.rl_promises.specs.Rows.{refusals_in_cases, said_of_init, said_of_test}
use Rattle.rl_promises.specs.Tallies.{IsHeldKind}
use Rattle.rl_promises.specs.Tallies.{store_word, tallied}
use Rattle.rl_promises.specs.Tallies.{tallied_among}
use Rattle.rl_syntax.specs.declared.word.Word.TheVariants as word
use Rattle.rl_syntax.specs.Syntax.{Absent, Listed, span_of}
use Rattle.rl_lowered.proofs.Clean.{declared_pattern_clean}
use Rattle.rl_lowered.proofs.HeldItems.{declared_pattern_held, pattern_stored, pattern_unstored}
use Rattle.rl_lowered.proofs.PatternTallies.{declarators_tallies, pattern_tallies}
use Rattle.rl_lowered.proofs.TalliedMoves.{declared_kind, declaring_table, global_weight, row_tallied, same_tallied, store_unheld}
use Rattle.rl_lowered.proofs.TalliedMoves.{store_weight, tally_by, texts_tallied, throwing_table, unheld_tallies, value_tallies, weighed}
use Rattle.rl_lowered.proofs.Tallies.{all_tallies, expression_tallies, target_tallies}
use Rattle.rl_lowered.proofs.TargetForms.{pattern_head_refuses}
use Rattle.rl_lowered.specs.Lowered.{DeclaredPattern, StoredPattern}
use Rattle.rl_promises.specs.Tallies.{tally_of}

module _ (names : Names) (key : Counted) (held : IsHeldKind key.kinds) where
  test_tallies : {at : Span} {e : Syntax} {s t : State} {p : Place} → LoweredTest names at e s t p
      → said_of_test at e ≡ [] → refusals names e ≡ [] → times key t.table ≡ times key s.table + tallied names key e
  test_tallies (NoTest s) unsaid none = absurd (never unsaid)
  test_tallies (Tested e s t p d) unsaid none = expression_tallies names key held d none

  -- The head of a loop over keys or values.
  head_tallies : {value : Place} {e : Syntax} {s t : State} {p : Place} → LoweredHead names value e s t p
      → refusals_at_head names e ≡ []
      → times key t.table ≡ times key s.table + (tally_by key (store_word e) (span_of e) + tallied names key e)
  head_tallies {e = e} (Declared at there bind kind name type symbol identifier s annotated is f) none =
      added_leaf _ _ _ (none_more _ (same_tallied names key e Absent (declared_head_held names at there bind kind name type annotated)))
      (unheld_tallies key held (found_again names s symbol identifier bind.span) _ (Some at.span) refl)
  head_tallies {value} (Reassigned at name symbol identifier s is mutable f) none =
      added_stored _ _ _ _ (store_weight key held identifier at.span value at.span)
      (value_tallies key held (found names s symbol at.span) (assigned_to identifier at.span value) (Some at.span))
  head_tallies (ReassignedConstant at name symbol identifier s is constant f) none =
      absurd (constant_head_never names at name symbol is constant none)
  head_tallies {value} (StoredGlobal at name binding s is) none =
      added_stored _ _ _ _ (global_weight key held name value at.span) (value_tallies key held s (values.StoreGlobal name value)
      (Some at.span))
  head_tallies {value} (StoredMember at w fields parts pieces object k s t is d) none =
      added_unstored _ _ _ _ (ap (λ (o : Option (List ℕ)). tally_by key o at.span) (member_unstored is at))
      (added_same _ _ _ _ (row_tallied names key (Node at w fields) parts (member_held names is at))
      (added_behind _ _ _ _ (all_tallies names key held d (member_head_clean is names at none))
      (unheld_tallies key held t (store_of object k value) (Some at.span) (store_unheld object k value))))
  head_tallies {e = e} (DeclaredPattern at there kind pattern s t p is d) none =
      added_unstored _ _ _ _ refl
      (added_same _ _ _ _ (same_tallied names key e pattern (declared_pattern_held names at there kind pattern))
      (pattern_tallies names key held d refl (declared_pattern_clean names at there kind pattern none)))
  head_tallies (StoredPattern at w fields s t p is d) none =
      let e : Syntax = Node at w fields in
      added_unstored _ _ _ _ (ap (λ (o : Option (List ℕ)). tally_by key o at.span) (pattern_unstored e is))
      (added_same _ _ _ _
      (weighed names key e ∙ ap (λ (l : List Held). tally_of key (l ++ held_in names e)) (sym (pattern_stored e at.span is)))
      (target_tallies names key held d (sym (pattern_head_refuses names at w fields is) ∙ none)))
  head_tallies (Lost at w fields s is) none = absurd (lost_head_never names at w fields is none)

  jump_tallied : (label : Label) → tallied names key (label_part label) ≡ 0
  jump_tallied None = refl
  jump_tallied (Some label) = refl

  case_test_tallies : {e : Syntax} {s t : State} {p : Option Place} → LoweredCaseTest names e s t p
      → said_of_moved names e ≡ [] → refusals names e ≡ [] → times key t.table ≡ times key s.table + tallied names key e
  case_test_tallies (NoCaseTest s) unsaid none = omega arith
  case_test_tallies (CaseTested e s t p is d) unsaid none = expression_tallies names key held d none
  case_test_tallies (CaseMoved at w fields s t p is d) unsaid none = absurd (moved_never names at w fields is unsaid)

  variables_tallies : (at : At) (k : VariableKind) (declarators : Pieces) (s t : State)
      → LoweredDeclarators names at.span (kind_of k) declarators (declaring s k at.span) t
      → refusals names (Node at word.Var (Then (Said (variable_text k)) (Then (Listed declarators) End))) ≡ []
      → times key t.table
      ≡ times key s.table + tallied names key (Node at word.Var (Then (Said (variable_text k)) (Then (Listed declarators) End)))
  variables_tallies at k declarators s t d none =
      added_declared _ _ _
      (declarators_tallies names key held d (declared_kind k) (second_none _ (refusals_in names declarators) none)
      ∙ ap (λ (l : List Instruction). times key l + tallied_among names key declarators) (declaring_table s k at.span))

  init_tallies : {at : Span} {e : Syntax} {s t : State} → LoweredInit names at e s t → said_of_init at e ≡ []
      → refusals names e ≡ [] → times key t.table ≡ times key s.table + tallied names key e
  init_tallies {at} (NoInit s) unsaid none = unheld_tallies key held s (values.Primitive primitives.Undefined) (Some at) refl
  init_tallies (DeclaredInit there fields s1 t1 d) unsaid none =
      let v = declares_of d in
      subst (λ (f : Pieces). times key t1.table ≡ times key s1.table + tallied names key (Node there word.Var f)) v.are
      (variables_tallies there v.kind v.declarators s1 t1 v.by
      (ap (λ (f : Pieces). refusals names (Node there word.Var f)) v.are ∙ none))
  init_tallies {at} (RefusedInit e s t p d) unsaid none =
      absurd (never (sym (init_said e (lowered_plain d).node at) ∙ unsaid))

  mutual
    pub statement_tallies : {e : Syntax} {s t : State} → LoweredStatement names e s t → (tried : Bool)
        → refusals_at names tried e ≡ []
        → times key t.table ≡ times key s.table + tallied names key e
    statement_tallies (Empty at s) tried none = omega arith
    statement_tallies (Expression at e s t p d) tried none =
        added_inner _ _ _ _ refl (expression_tallies names key held d (first_none (refusals names e) [] none))
    statement_tallies (Debugger at s) tried none = added_leaf _ _ _ refl (unheld_tallies key held s values.Debugger (Some at.span) refl)
    statement_tallies (Variables at k declarators s t d) tried none = variables_tallies at k declarators s t d none
    statement_tallies (ReturnNothing at s) tried none =
        added_leaf _ _ _ refl (unheld_tallies key held s (values.Primitive primitives.Undefined) None refl)
    statement_tallies (Return at e s t p d) tried none =
        added_inner _ _ _ _ refl (expression_tallies names key held d (first_none (refusals names e) [] none))
    statement_tallies (Block at statements s t d) tried none =
        added_inner _ _ _ _ refl (statements_tallies d tried none)
    statement_tallies (IfThen at test consequent s s2 s3 p dc dt) tried none =
        let clean = branches_clean_at names tried consequent Absent test none in
        added_branch _ _ _ _ _ (statement_tallies dc tried clean.0) (expression_tallies names key held dt clean.2)
    statement_tallies (IfElse at test consequent alternate s s2 s3 s4 p dc da dt) tried none =
        let clean = branches_clean_at names tried consequent alternate test none in
        added_branches _ _ _ _ _ _ _ (statement_tallies dc tried clean.0) (statement_tallies da tried clean.1)
        (expression_tallies names key held dt clean.2)
    statement_tallies (Unlabeled loop s t d) tried none = loop_tallies d tried none
    statement_tallies (LabeledLoop at label loop s t d) tried none =
        added_labeled _ _ _ (loop_tallies d tried none)
    statement_tallies (Labeled at label body s s2 other d) tried none =
        added_labeled _ _ _ (statement_tallies d tried none)
    statement_tallies (Break at label target s is) tried none = added_jump _ _ (jump_tallied label)
    statement_tallies (Continue at label target s is) tried none = added_jump _ _ (jump_tallied label)
    statement_tallies (Throw at e s t p d) tried none =
        ap (λ (l : List Instruction). times key l) (throwing_table t at.span)
        ∙ added_inner _ _ _ _ refl (expression_tallies names key held d (throw_clean names tried at.span e none).0)
    statement_tallies (Switch at value cases ks s t u p all d) tried none =
        let clean = switch_clean names tried value cases none in
        added_loop _ _ _ _ _ (cases_tallies all tried clean.0) (expression_tallies names key held d clean.1)
    statement_tallies (TryPlain at there block body s s2 s3 first second) tried none =
        let clean = try_clean names tried Absent body block none in
        added_try _ _ _ _ _ (statement_tallies first tried clean.1) (statement_tallies second true clean.2)
    statement_tallies (TryBound at there bind name type block body symbol identifier s s2 s3 annotated is f first second) tried
        none =
        let param : Syntax = Node bind word.Bind (Then (Said name) (Then type End)) in
        let clean = try_clean names tried param body block none in
        added_bound_try _ _ _ _ _ _ _ _ (same_tallied names key param Absent (bind_held names bind name type annotated))
        (unheld_tallies key held (reserved (promoted s bind.span)) (declares_caught s bind.span) (Some bind.span) refl)
        (unheld_tallies key held (found names (catch_begun s bind.span) symbol bind.span) (stores_caught s identifier bind.span)
        (Some bind.span)
        refl)
        (statement_tallies first tried clean.1) (statement_tallies second true clean.2)
    statement_tallies (Finalized at there block param body finalizer s t is d) tried none =
        absurd (finalizer_never names tried at there block param body finalizer is none)
    statement_tallies (Uncaught at block finalizer s) tried none = absurd (never none)
    statement_tallies (With at fields s) tried none = absurd (never none)

    cases_tallies : {s : State} {es : Pieces} {ks : List Case} {t : State} → LoweredCases names s es ks t → (tried : Bool)
        → refusals_in_cases names tried es ≡ [] → times key t.table ≡ times key s.table + tallied_among names key es
    cases_tallies (NoCase s) tried none = omega arith
    cases_tallies (NextCase at test statements cases ks s x y z p all d tested) tried none =
        let clean = case_clean names tried test statements cases none in
        added_case _ _ _ _ _ _ _ (cases_tallies all tried clean.behind) (statements_tallies d tried clean.body)
        (case_test_tallies tested clean.moved clean.condition)

    pub loop_tallies : {own : Label} {e : Syntax} {s t : State} → LoweredLoop names own e s t → (tried : Bool)
        → refusals_at names tried e ≡ []
        → times key t.table ≡ times key s.table + tallied names key e
    loop_tallies (While at test body s s2 s3 p d dt) tried none =
        let clean = while_clean names tried test body none in
        added_loop _ _ _ _ _ (statement_tallies d tried clean.0) (expression_tallies names key held dt clean.1)
    loop_tallies (DoWhile at test body s s2 s3 p d dt) tried none =
        let clean = while_clean names tried test body none in
        added_do _ _ _ _ _ (statement_tallies d tried clean.0) (expression_tallies names key held dt clean.1)
    loop_tallies (ForUpdated at init test update body s s2 s3 s4 s5 u p di du d dt) tried none =
        let clean = for_clean names tried at.span init test update body none in
        added_for _ _ _ _ _ _ _ _ _ (init_tallies di clean.init_said clean.init) (expression_tallies names key held du clean.update)
        (statement_tallies d tried clean.body) (test_tallies dt clean.test_said clean.test)
    loop_tallies (ForPlain at init test body s s2 s3 s4 p di d dt) tried none =
        let clean = for_clean names tried at.span init test Absent body none in
        added_plain_for _ _ _ _ _ _ _ (init_tallies di clean.init_said clean.init) (statement_tallies d tried clean.body)
        (test_tallies dt clean.test_said clean.test)
    loop_tallies (ForIn at head right body s s2 s3 s4 collection p d dr dp) tried none =
        let f : RoundsParts = rounds_shut (forin_at s at.span) in
        let clean = rounds_clean names tried head right body none in
        added_rounds _ _ _ _ _ _ _ _ _ (statement_tallies d tried clean.0) (expression_tallies names key held dr clean.1)
        (unheld_tallies key held (forin_headed f s3) (values.NextPropertyOf collection) (Some (span_of head)) refl)
        (head_tallies dp clean.2)
    loop_tallies (ForOf at head right body s s2 s3 s4 collection p d dr dp) tried none =
        let f : ForOfParts = forof_shut (forof_at s at.span) in
        let clean = rounds_clean names tried head right body none in
        added_iterated _ _ _ _ _ _ _ _ _ _ (statement_tallies d tried clean.0) (expression_tallies names key held dr clean.1)
        (unheld_tallies key held (forof_headed f s3) (values.GetIterator collection) collection.span refl)
        (unheld_tallies key held (forof_tested f s3 collection) (values.IteratorNext (forof_iterator f s3 collection) collection)
        (Some (span_of head)) refl) (head_tallies dp clean.2)
    loop_tallies (AwaitRefused at head right body s) tried none = absurd (never none)

    pub statements_tallies : {es : Pieces} {s t : State} → LoweredStatements names es s t → (tried : Bool)
        → refusals_among names tried es ≡ []
        → times key t.table ≡ times key s.table + tallied_among names key es
    statements_tallies (NoStatement s) tried none = omega arith
    statements_tallies (NextStatement e es s t u d ds) tried none =
        let clean = among_clean names tried e es none in
        added_row _ _ _ _ _ (statement_tallies d tried clean.0) (statements_tallies ds tried clean.1)

  pub body_tallies : {b : Syntax} {s t : State} → LoweredBody names b s t → refusals_in_body names b ≡ []
      → times key t.table ≡ times key s.table + tallied names key b
  body_tallies (Statements at directives statements s t texts d) none =
      added_body _ _ _ _ (texts_tallied names key directives texts)
      (statements_tallies d false none)
  body_tallies (Value e s t p d) none = expression_tallies names key held d (sym ((lowered_plain d).refused names) ∙ none)
