-- Lowered statements and bodies have the runs of the source, where nothing of them was refused.
use Rattle.std.proofs.Common.{◌++◌}
use Rattle.std.proofs.Common.{◌≡◌, ℕ, ◌||◌, Bool, true, false, true≢false, List, [], ◌∷◌, length, codes, Option, Some, None, refl, sym}
use Rattle.std.proofs.Common.{ap, if◌then◌else◌, ◌∙◌, subst, arith}
use Rattle.std.proofs.lemmas.Bool.{or_parts}
use Rattle.rl_base.specs.declared.variable_kind.VariableKind.{VariableKind}
use Rattle.rl_base.specs.declared.variable_kind.VariableKind.TheVariants as kinds
use Rattle.rl_base.specs.VariableKinds.{variable_text}
use Rattle.rl_builder.specs.Builder.{completed_by, innermost, new_block, reserved}
use Rattle.rl_builder.specs.declared.blocks.WipBlock.{WipBlock}
use Rattle.rl_builder.specs.Temporaries.{temporary, with_value}
use Rattle.rl_frames.proofs.Enumerations.{forin_runs}
use Rattle.rl_frames.proofs.ForRuns.{for_runs, for_runs_plain}
use Rattle.rl_frames.proofs.Ifs.{if_runs, if_then_runs}
use Rattle.rl_frames.proofs.Iterations.{forof_runs}
use Rattle.rl_frames.proofs.LabelFrames.{label_runs}
use Rattle.rl_frames.proofs.Loops.{do_while_runs, while_runs}
use Rattle.rl_frames.proofs.Meant.{do_while_meant, for_meant, forin_meant, forof_meant, if_meant, while_meant}
use Rattle.rl_frames.proofs.SwitchMeant.{CaseParts, case_meaning, case_meanings, switch_meant}
use Rattle.rl_frames.proofs.SwitchRuns.{case_runs_more, switch_begun_runs, switch_runs}
use Rattle.rl_frames.proofs.Tries.{try_runs}
use Rattle.rl_frames.specs.Parts.{label_begun, try_started}
use Rattle.rl_frames.specs.SwitchParts.{switch_finished}
use Rattle.rl_hir.specs.declared.function.BlockKind.TheVariants as blocks
use Rattle.rl_hir.specs.declared.instruction.InstructionKind.{InstructionKind}
use Rattle.rl_hir.specs.declared.instruction.InstructionValue.TheVariants as values
use Rattle.rl_hir.specs.declared.instruction.PrimitiveValue.TheVariants as primitives
use Rattle.rl_hir.specs.declared.terminal.Case.{Case}
use Rattle.rl_hir.specs.declared.terminal.GotoVariant.TheVariants as gotos
use Rattle.rl_hir.specs.declared.terminal.ReturnVariant.{ReturnVariant}
use Rattle.rl_hir.specs.declared.terminal.ReturnVariant.TheVariants as returns
use Rattle.rl_lowered.proofs.Blocks.{blocks_caught, case_test_blocks, cases_blocks, declarators_blocks, declares_of, expression_blocks}
use Rattle.rl_lowered.proofs.Blocks.{pattern_blocks}
use Rattle.rl_lowered.proofs.Blocks.{head_blocks, init_blocks, loop_is, statement_blocks, statements_blocks, test_blocks}
use Rattle.rl_lowered.proofs.Catches.{catch_declared, extends_promoted, length_promoted}
use Rattle.rl_lowered.proofs.CatchRuns.{CasesRun, case_test_runs, caught_meaning, caught_runs, no_handler, plain_handler, unthrown}
use Rattle.rl_lowered.proofs.Clean.{among_clean, branches_clean_at, case_clean, finalizer_never, first_none, for_clean, never}
use Rattle.rl_lowered.proofs.Clean.{second_none}
use Rattle.rl_lowered.proofs.Clean.{rounds_clean, row_clean, switch_clean, throw_clean, try_clean, while_clean}
use Rattle.rl_lowered.proofs.Common.{At, BlockId, End, Names, Node, Pieces, Place, Said, Span, State, SymbolId, Syntax, Then}
use Rattle.rl_lowered.proofs.HeadRuns.{head_runs}
use Rattle.rl_lowered.proofs.PatternRuns.{binding_runs, taken_jumpless}
use Rattle.rl_lowered.proofs.Plain.{declared_meant, init_said, lowered_plain, operand_there, undeclared_meant}
use Rattle.rl_lowered.proofs.Refused.{IsTried, bound_handlers, tried_in, tried_none, tried_on}
use Rattle.rl_lowered.proofs.Runs.{expression_runs}
use Rattle.rl_lowered.specs.Items.{caught, promoted}
use Rattle.rl_lowered.specs.Lowered.{NextTakenApart, NextUntaken}
use Rattle.rl_lowered.specs.Lowered.{AwaitRefused, Block, Break, Continue, Debugger, DeclaredInit, DoWhile, Empty, Expression, Finalized}
use Rattle.rl_lowered.specs.Lowered.{ForIn, ForOf, ForPlain, ForUpdated, IfElse, IfThen, Labeled, LabeledLoop, Literal, Lowered}
use Rattle.rl_lowered.specs.Lowered.{LoweredBody, LoweredCases, LoweredDeclarators, LoweredInit, LoweredLoop, LoweredStatement}
use Rattle.rl_lowered.specs.Lowered.{LoweredStatements, LoweredTest, NextCase, NextDeclared, NextInitialized, NextStatement, NoCase}
use Rattle.rl_lowered.specs.Lowered.{NoDeclarator, NoInit, NoStatement, NoTest, RefusedInit, Return, ReturnNothing, Statements, Switch}
use Rattle.rl_lowered.specs.Lowered.{Tested, Throw, TryBound, TryPlain, Uncaught, Unlabeled, Value as OfValue, Variables, While, With}
use Rattle.rl_lowered.specs.Lowered.{catch_bound, declaring, kind_of, label_part, part_span}
use Rattle.rl_lowered.specs.Named.{found}
use Rattle.rl_lowered.specs.Params.{TakesEarly}
use Rattle.rl_lowered.specs.Promised.{exec_before_end}
use Rattle.rl_machine.specs.Acts.{Computes, declared}
use Rattle.rl_machine.specs.declared.trace.Answer.{Answer}
use Rattle.rl_machine.specs.declared.trace.Assignment.{Assignment}
use Rattle.rl_machine.specs.declared.trace.Value.{Value}
use Rattle.rl_machine.specs.declared.trace.Value.TheVariants as value
use Rattle.rl_machine.specs.Ends.{Notes}
use Rattle.rl_machine.specs.Machine.{Code, Ends}
use Rattle.rl_machine.specs.Traces.{Store, World, returned}
use Rattle.rl_model.specs.Actions.{Action, Label, break_to, continue_to, done, give, return_with, ◌>>=◌}
use Rattle.rl_model.specs.Events.{event}
use Rattle.rl_model.specs.Expressions.{eval}
use Rattle.rl_model.specs.Patterns.{declare}
use Rattle.rl_model.specs.Patterns as patterns
use Rattle.rl_model.specs.Scene.{Scene}
use Rattle.rl_model.specs.Statements.{declare_all, declare_one, eval_optional, exec, exec_all, has_meaning, take_head}
use Rattle.rl_model.specs.Shapes.{is_absent}
use Rattle.rl_promises.specs.Jumps.{is_loop}
use Rattle.rl_promises.specs.Rows.{refusals, refusals_among, refusals_at, refusals_in, refusals_in_body, refusals_in_cases, said_of_init}
use Rattle.rl_promises.specs.Rows.{said_of_test}
use Rattle.rl_promises.specs.Stops.{has_using, have_using}
use Rattle.rl_runs.proofs.Expressions.{literal_runs}
use Rattle.rl_runs.proofs.Holes.{use_expression}
use Rattle.rl_runs.proofs.Jumpless.{jumpless_same, evaluated_jumpless, jumpless_runs, none_jumpless, order_jumpless, variable_declared}
use Rattle.rl_runs.proofs.Jumpless.{variable_initialized}
use Rattle.rl_runs.proofs.Moves.{contained_before, extends_completed, extends_refl, extends_reserved, extends_resolved, extends_then}
use Rattle.rl_runs.proofs.Moves.{extends_value, inside, terminal_met}
use Rattle.rl_runs.proofs.Shared.{kept_same}
use Rattle.rl_runs.proofs.Statements.{break_runs, continue_runs, does_same, evaluated_runs, event_runs, nothing_runs, order_runs}
use Rattle.rl_runs.proofs.Statements.{return_runs, throw_runs}
use Rattle.rl_runs.proofs.Steps.{comes_at_once, since_start, steps_on}
use Rattle.rl_runs.specs.Continuations.{Agrees, SharesVariables, TracesFrom, kept_in}
use Rattle.rl_runs.specs.Exits.{labeled_by}
use Rattle.rl_runs.specs.Facts.{Extends, IsContainedIn}
use Rattle.rl_runs.specs.Moves.{next_hole, return_of, returned_from, threw_from}
use Rattle.rl_runs.specs.Simulation.{RunsExpression, RunsJumpless, RunsStatement}
use Rattle.rl_syntax.specs.declared.word.Word.TheVariants as word
use Rattle.rl_syntax.specs.Syntax.{Absent, Listed, span_of}

-- The place of an identifier at a span.
abbrev there_at : ℕ → Span → Place
there_at identifier span = record { identifier = record { 0 = identifier }; span = Some span }

-- A return of a lowered expression returns its value.
returned_meant : {names : Names} {e : Syntax} {s t : State} {p : Place} → Lowered names e s t p → (scene : Scene) (own : Label) (at : At)
    → exec scene own (Node at word.Return (Then e End)) ≡ (eval scene e >>= (λ v. return_with scene returns.Explicit v))
returned_meant (Literal there w fields p s is) scene own at = refl
returned_meant _ scene own at = refl

-- Nothing of a node is a declaration by `using`.

branches_unused : (test consequent alternate : Syntax) → has_using test || (has_using consequent || (has_using alternate || false)) ≡ false
    → (has_using consequent ≡ false) × (has_using alternate ≡ false)
branches_unused test consequent alternate is =
    let rest = or_parts (has_using consequent) (has_using alternate || false) (or_parts (has_using test) _ is).1 in
    (rest.0, (or_parts (has_using alternate) false rest.1).0)

head_unused : (init test update body : Syntax)
    → has_using init || (has_using test || (has_using update || (has_using body || false))) ≡ false
    → (has_using init ≡ false) × (has_using body ≡ false)
head_unused init test update body is =
    let first = or_parts (has_using init) _ is in
    let second = or_parts (has_using test) _ first.1 in
    let third = or_parts (has_using update) _ second.1 in
    (first.0, (or_parts (has_using body) false third.1).0)

rounds_unused : (head right body : Syntax) → has_using head || (has_using right || (has_using body || false)) ≡ false
    → (has_using head ≡ false) × (has_using body ≡ false)
rounds_unused head right body is =
    let first = or_parts (has_using head) _ is in
    let second = or_parts (has_using right) _ first.1 in
    (first.0, (or_parts (has_using body) false second.1).0)

switch_unused : (value : Syntax) (cases : Pieces) → has_using value || (have_using cases || false) ≡ false → have_using cases ≡ false
switch_unused value cases is = (or_parts (have_using cases) false (or_parts (has_using value) _ is).1).0

-- Of a case and of the cases behind it.
case_unused : (test : Syntax) (statements cases : Pieces)
    → (has_using test || (have_using statements || false)) || have_using cases ≡ false
    → (have_using statements ≡ false) × (have_using cases ≡ false)
case_unused test statements cases is =
    let both = or_parts (has_using test || (have_using statements || false)) (have_using cases) is in
    ((or_parts (have_using statements) false (or_parts (has_using test) _ both.0).1).0, both.1)

-- Of the block of a `try` statement, and of the body of its `catch`.
try_unused : (block param body : Syntax) → has_using block || ((has_using param || (has_using body || false)) || false) ≡ false
    → (has_using block ≡ false) × (has_using body ≡ false)
try_unused block param body is =
    let both = or_parts (has_using block) _ is in
    let inside = or_parts (has_using param || (has_using body || false)) false both.1 in
    (both.0, (or_parts (has_using body) false (or_parts (has_using param) _ inside.0).1).0)

-- Declarations of variables.

initialized_meant : {names : Names} {init : Syntax} {s t : State} {p : Place} → Lowered names init s t p → (scene : Scene) (there bind : At)
    (name : List ℕ) (type : Syntax)
    → (eval scene init >>= (λ v. declare (scene.names.declared bind.id.0) v))
    ≡ declare_one scene
    (Node there word.Declarator (Then (Node bind word.Bind (Then (Said name) (Then type End))) (Then init End)))
initialized_meant (Literal at w fields p s is) scene there bind name type = refl
initialized_meant _ scene there bind name type = refl

declares : (scene : Scene) (names : Names) (bind : ℕ) (symbol : SymbolId) → scene.names ≡ names → names.declared bind ≡ Some symbol
    → scene.names.declared bind ≡ Some symbol
declares scene names bind symbol same is = ap (λ (n : Names). n.declared bind) same ∙ is

initialized_apart : (scene : Scene) (there : At) (pattern init : Syntax) → is_absent init ≡ false
    → (eval scene init >>= (λ v. patterns.bind scene false pattern v))
    ≡ declare_one scene (Node there word.Declarator (Then pattern (Then init End)))
initialized_apart scene there pattern Absent present = absurd (true≢false present)
initialized_apart scene there pattern _ present = refl

row_apart : (names : Names) (init pattern : Syntax) → refusals names init ++ refusals names pattern ≡ []
    → (refusals names init ≡ []) × (refusals names pattern ≡ [])
row_apart names init pattern none =
    (first_none (refusals names init) (refusals names pattern) none, second_none (refusals names init) (refusals names pattern) none)

-- Variables of the kind are undefined at first.
abbrev IsUndefined : InstructionKind → Type 0
IsUndefined k = (variable : ℕ) → declared k variable ≡ Computes value.Undefined (variable ∷ [])

declarators_runs : {names : Names} {at : Span} {k : InstructionKind} {es : Pieces} {s t : State} → LoweredDeclarators names at k es s t
    → IsUndefined k → refusals_in names es ≡ [] → (scene : Scene) → scene.names ≡ names → scene.ported ≡ true → TakesEarly scene
    → RunsJumpless scene.world (declare_all scene es) s t
declarators_runs (NoDeclarator s) undefined none scene same ported takes = none_jumpless scene.world s
declarators_runs {names} {at} {k} (NextDeclared there bind name type more symbol identifier s u annotated is f d) undefined none scene same
    ported takes =
    subst (λ (o : Option SymbolId). RunsJumpless scene.world (λ ways onward. declare o value.Undefined ways
    (λ end. declare_all scene more ways onward)) s u) (sym (declares scene names bind.id.0 symbol same is))
    (order_jumpless scene.world s _ u (declare (Some symbol) value.Undefined) (declare_all scene more)
    (extends_then (extends_resolved s (names.name symbol.0) symbol.0 (Some bind.span) f.agree)
    (extends_value (found names s symbol bind.span) (values.DeclareLocal k (there_at identifier bind.span)) (Some bind.span)))
    (declarators_blocks d).extends
    (variable_declared scene.world s (names.name symbol.0) symbol.0 (Some bind.span) k (there_at identifier bind.span) (Some bind.span) f.agree
    f.bound (undefined identifier))
    (declarators_runs d undefined (row_clean names (Node there word.Declarator (Then (Node bind word.Bind (Then (Said name) (Then type End)))
    (Then Absent End))) more none).1 scene same ported takes))
declarators_runs {names} {at} {k} (NextInitialized there bind name type init more symbol identifier s t u p annotated is by f d) undefined
    none scene same ported takes =
    let pattern : Syntax = Node bind word.Bind (Then (Said name) (Then type End)) in
    let clean = row_clean names (Node there word.Declarator (Then pattern (Then init End))) more none in
    subst (λ (one : Action (Unit {0})). RunsJumpless scene.world (λ ways onward. one ways (λ end. declare_all scene more ways onward)) s u)
    (initialized_meant by scene there bind name type)
    (subst (λ (o : Option SymbolId). RunsJumpless scene.world (λ ways onward. eval scene init ways (λ v. declare o v ways
    (λ end. declare_all scene more ways onward))) s u) (sym (declares scene names bind.id.0 symbol same is))
    (order_jumpless scene.world s _ u (eval scene init >>= (λ v. declare (Some symbol) v)) (declare_all scene more)
    (extends_then (expression_blocks by).extends
    (extends_then (extends_resolved t (names.name symbol.0) symbol.0 (Some bind.span) f.agree)
    (extends_value (found names t symbol bind.span) (values.StoreLocal k (there_at identifier at) p) (Some at))))
    (declarators_blocks d).extends
    (variable_initialized scene.world s t (eval scene init) (names.name symbol.0) symbol.0 (Some bind.span) k (there_at identifier at) p (Some at)
    (expression_blocks by).extends f.agree f.bound
    (expression_runs by (first_none (refusals names init) (refusals names pattern) clean.0) scene same ported))
    (declarators_runs d undefined clean.1 scene same ported takes)))
declarators_runs {names} {at} (NextTakenApart there pattern init more s t u v p q is present by dp d) undefined none scene same ported takes =
    let clean = row_clean names (Node there word.Declarator (Then pattern (Then init End))) more none in
    let parts = row_apart names init pattern clean.0 in
    order_jumpless scene.world s u v (declare_one scene (Node there word.Declarator (Then pattern (Then init End)))) (declare_all scene more)
    (extends_then (expression_blocks by).extends (pattern_blocks dp).extends) (declarators_blocks d).extends
    (jumpless_same scene.world s u
    (λ ways normal source answers. ap (λ (a : Action (Unit {0})). a ways (λ end. normal) source answers)
    (initialized_apart scene there pattern init present))
    (taken_jumpless scene.world s t u (eval scene init) (patterns.bind scene false pattern) p.identifier.0 (expression_blocks by).extends
    (pattern_blocks dp).extends (expression_runs by parts.0 scene same ported) (binding_runs dp parts.1 scene same ported takes false)))
    (declarators_runs d undefined clean.1 scene same ported takes)
declarators_runs {names} {at} (NextUntaken there pattern more s u v q is dp d) undefined none scene same ported takes =
    let clean = row_clean names (Node there word.Declarator (Then pattern (Then Absent End))) more none in
    let made : State = with_value s (values.Primitive primitives.Undefined) (Some at) in
    let g = extends_value s (values.Primitive primitives.Undefined) (Some at) in
    order_jumpless scene.world s u v (patterns.bind scene false pattern value.Undefined) (declare_all scene more)
    (extends_then g (pattern_blocks dp).extends) (declarators_blocks d).extends
    (taken_jumpless scene.world s made u (give value.Undefined) (patterns.bind scene false pattern) (length s.env.identifiers) g
    (pattern_blocks dp).extends
    (literal_runs scene.world s (give value.Undefined) primitives.Undefined (Some at) (λ ways k source answers. refl))
    (binding_runs dp clean.0 scene same ported takes false))
    (declarators_runs d undefined clean.1 scene same ported takes)

-- A declaration without refusals is one by `let` or `const`.
variables_runs : {names : Names} (at : At) (k : VariableKind) (declarators : Pieces) (s t : State)
    → LoweredDeclarators names at.span (kind_of k) declarators (declaring s k at.span) t
    → refusals names (Node at word.Var (Then (Said (variable_text k)) (Then (Listed declarators) End))) ≡ []
    → has_using (Node at word.Var (Then (Said (variable_text k)) (Then (Listed declarators) End))) ≡ false
    → (scene : Scene) → scene.names ≡ names → scene.ported ≡ true → TakesEarly scene → (own : Label)
    → RunsJumpless scene.world (exec scene own (Node at word.Var (Then (Said (variable_text k)) (Then (Listed declarators) End)))) s t
variables_runs at kinds.Let declarators s t d none unused scene same ported takes own =
    declarators_runs d (λ variable. refl) none scene same ported takes
variables_runs at kinds.Const declarators s t d none unused scene same ported takes own =
    declarators_runs d (λ variable. refl) none scene same ported takes
variables_runs {names} at kinds.Var declarators s t d none unused scene same ported takes own =
    absurd (never none)
variables_runs at kinds.Using declarators s t d none unused scene same ported takes own = absurd (true≢false unused)
variables_runs at kinds.AwaitUsing declarators s t d none unused scene same ported takes own = absurd (true≢false unused)

-- The head of a `for` loop.

init_runs : {names : Names} {at : Span} {e : Syntax} {s t : State} → LoweredInit names at e s t → said_of_init at e ≡ []
    → refusals names e ≡ [] → has_using e ≡ false → (scene : Scene) → scene.names ≡ names → scene.ported ≡ true → TakesEarly scene
    → RunsJumpless scene.world (exec scene None e) s t
init_runs {at} (NoInit s) unsaid none unused scene same ported takes =
    evaluated_jumpless scene.world s (with_value s (values.Primitive primitives.Undefined) (Some at)) (give value.Undefined)
    (length s.env.identifiers)
    (literal_runs scene.world s (give value.Undefined) primitives.Undefined (Some at) (λ ways k source answers. refl))
init_runs {names} (DeclaredInit there fields s t d) unsaid none unused scene same ported takes =
    let v = declares_of d in
    let whole : Pieces = Then (Said (variable_text v.kind)) (Then (Listed v.declarators) End) in
    subst (λ (f : Pieces). RunsJumpless scene.world (exec scene None (Node there word.Var f)) s t) v.are
    (variables_runs there v.kind v.declarators s t v.by
    (ap (λ (f : Pieces). refusals names (Node there word.Var f)) v.are ∙ none)
    (ap (λ (f : Pieces). has_using (Node there word.Var f)) v.are ∙ unused) scene same ported takes None)
init_runs {at} (RefusedInit e s t p d) unsaid none unused scene same ported takes =
    absurd (never (sym (init_said e (lowered_plain d).node at) ∙ unsaid))

test_runs : {names : Names} {at : Span} {e : Syntax} {s t : State} {p : Place} → LoweredTest names at e s t p → said_of_test at e ≡ []
    → refusals names e ≡ [] → (scene : Scene) → scene.names ≡ names → scene.ported ≡ true
    → RunsExpression scene.world (eval scene e) s t p.identifier.0
test_runs (NoTest s) unsaid none scene same ported = absurd (never unsaid)
test_runs (Tested e s t p d) unsaid none scene same ported = expression_runs d none scene same ported

head_means : {names : Names} {at : Span} {init test : Syntax} {s t u v : State} {p : Place} → LoweredInit names at init s t
    → LoweredTest names at test u v p → said_of_init at init ≡ [] → said_of_test at test ≡ [] → has_meaning init test ≡ true
head_means first (NoTest s) unsaid untold = absurd (never untold)
head_means (NoInit s) (Tested e u v p d) unsaid untold = undeclared_meant e (lowered_plain d).node
head_means (DeclaredInit there fields s t by) (Tested e u v p d) unsaid untold = declared_meant there fields e (lowered_plain d).node
head_means {at} (RefusedInit e s t p by) (Tested f u v q d) unsaid untold =
    absurd (never (sym (init_said e (lowered_plain by).node at) ∙ unsaid))

-- An update whose value is dropped.
update_runs : {names : Names} {e : Syntax} {s t : State} {p : Place} → Lowered names e s t p → refusals names e ≡ [] → (scene : Scene)
    → scene.names ≡ names → scene.ported ≡ true → RunsJumpless scene.world (eval_optional scene e) s t
update_runs {e = e} {s = s} {t = t} {p = p} d none scene same ported =
    subst (λ (b : Bool). RunsJumpless scene.world (if b then done else (eval scene e >>= (λ v. done))) s t)
    (sym (operand_there e (lowered_plain d).node))
    (evaluated_jumpless scene.world s t (eval scene e) p.identifier.0 (expression_runs d none scene same ported))

-- Jumps, and statements under a label that is not their own.

break_meant : (scene : Scene) (own : Label) (at : At) (label : Label)
    → exec scene own (Node at word.Break (Then (label_part label) End)) ≡ break_to label
break_meant scene own at None = refl
break_meant scene own at (Some label) = refl

continue_meant : (scene : Scene) (own : Label) (at : At) (label : Label)
    → exec scene own (Node at word.Continue (Then (label_part label) End)) ≡ continue_to label
continue_meant scene own at None = refl
continue_meant scene own at (Some label) = refl

unowned_meant : {names : Names} {e : Syntax} {s t : State} → LoweredStatement names e s t → is_loop e ≡ false → (scene : Scene)
    (own : Label) → exec scene own e ≡ exec scene None e
unowned_meant (Unlabeled loop s t d) other scene own = let never : false ≡ true = sym other ∙ loop_is d in absurd (cc)
unowned_meant (Return at e s t p by) other scene own = returned_meant by scene own at ∙ sym (returned_meant by scene None at)
unowned_meant (Break at label target s is) other scene own = break_meant scene own at label ∙ sym (break_meant scene None at label)
unowned_meant (Continue at label target s is) other scene own =
    continue_meant scene own at label ∙ sym (continue_meant scene None at label)
unowned_meant _ other scene own = refl

mutual
  pub statement_runs : {names : Names} {e : Syntax} {s t : State} → LoweredStatement names e s t → (tried : Bool)
      → IsTried tried s → refusals_at names tried e ≡ [] → has_using e ≡ false → (scene : Scene) → scene.names ≡ names → scene.ported ≡ true → TakesEarly scene
      → RunsStatement scene.world (exec scene None e) s t
  statement_runs (Empty at s) tried h none unused scene same ported takes = nothing_runs scene.world s
  statement_runs {names} (Expression at e s t p by) tried h none unused scene same ported takes =
      evaluated_runs scene.world s t (eval scene e) p.identifier.0 (expression_runs by (first_none (refusals names e) [] none) scene same ported)
  statement_runs (Debugger at s) tried h none unused scene same ported takes =
      event_runs scene.world s values.Debugger (Some at.span) (event (codes "debugger") [] []) (λ store. refl)
  statement_runs (Variables at k declarators s t d) tried h none unused scene same ported takes =
      jumpless_runs (variables_runs at k declarators s t d none unused scene same ported takes None)
  statement_runs (ReturnNothing at s) tried h none unused scene same ported takes =
      return_runs scene.world s (with_value s (values.Primitive primitives.Undefined) None) (give value.Undefined) (temporary s None)
      (Some at.span) returns.Explicit blocks.Block
      (literal_runs scene.world s (give value.Undefined) primitives.Undefined None (λ ways k source answers. refl))
  statement_runs {names} (Return at e s t p by) tried h none unused scene same ported takes =
      subst (λ (d : Action (Unit {0})). RunsStatement scene.world d s (returned_from t (Some at.span) returns.Explicit p blocks.Block))
      (sym (returned_meant by scene None at))
      (return_runs scene.world s t (eval scene e) p (Some at.span) returns.Explicit blocks.Block
      (expression_runs by (first_none (refusals names e) [] none) scene same ported))
  statement_runs {names} (Block at statements s t by) tried h none unused scene same ported takes =
      statements_runs by tried h none (or_parts (have_using statements) false unused).0 scene same ported takes
  statement_runs {names} (IfThen at test consequent s s2 s3 p by_consequent by_test) tried h none unused scene same ported takes =
      does_same scene.world s _
      (λ ways normal source answers. sym (if_meant scene None at test consequent Absent ways normal source answers))
      (if_then_runs s s2 s3 p at.span (span_of consequent) (statement_blocks by_consequent).extends (expression_blocks by_test).extends
      scene.world (eval scene test) (exec scene None consequent)
      (statement_runs by_consequent tried h (branches_clean_at names tried consequent Absent test none).0
      (branches_unused test consequent Absent unused).0 scene same ported takes)
      (expression_runs by_test (branches_clean_at names tried consequent Absent test none).2 scene same ported))
  statement_runs {names} (IfElse at test consequent alternate s s2 s3 s4 p by_consequent by_alternate by_test) tried h none unused scene
      same ported takes =
      does_same scene.world s _
      (λ ways normal source answers. sym (if_meant scene None at test consequent alternate ways normal source answers))
      (if_runs s s2 s3 s4 p at.span (span_of consequent) (span_of alternate)
      (statement_blocks by_consequent).extends (statement_blocks by_alternate).extends (expression_blocks by_test).extends
      scene.world (eval scene test) (exec scene None consequent) (exec scene None alternate)
      (statement_runs by_consequent tried h (branches_clean_at names tried consequent alternate test none).0
      (branches_unused test consequent alternate unused).0 scene same ported takes)
      (statement_runs by_alternate tried (tried_on s s2 (statement_blocks by_consequent).extends.handlers h)
      (branches_clean_at names tried consequent alternate test none).1
      (branches_unused test consequent alternate unused).1 scene same ported takes)
      (expression_runs by_test (branches_clean_at names tried consequent alternate test none).2 scene same ported))
  statement_runs (Unlabeled loop s t by) tried h none unused scene same ported takes = loop_runs by tried h none unused scene same ported takes
  statement_runs {names} (LabeledLoop at label loop s t by) tried h none unused scene same ported takes =
      loop_runs by tried h none (or_parts (has_using loop) false unused).0 scene same ported takes
  statement_runs {names} (Labeled at label body s s2 other by) tried h none unused scene same ported takes =
      label_runs s s2 label at.span (span_of body) (statement_blocks by).extends scene.world (exec scene (Some label) body)
      (subst (λ (d : Action (Unit {0})). RunsStatement scene.world d (label_begun s label) s2)
      (sym (unowned_meant by other scene (Some label)))
      (statement_runs by tried h none (or_parts (has_using body) false unused).0 scene same ported takes))
  statement_runs (Break at label target s is) tried h none unused scene same ported takes =
      subst (λ (d : Action (Unit {0})). RunsStatement scene.world d s (next_hole s target.0 gotos.Break at.span blocks.Block))
      (sym (break_meant scene None at label)) (break_runs scene.world s label target at.span blocks.Block is)
  statement_runs (Continue at label target s is) tried h none unused scene same ported takes =
      subst (λ (d : Action (Unit {0})). RunsStatement scene.world d s (next_hole s target.0 gotos.Continue at.span blocks.Block))
      (sym (continue_meant scene None at label)) (continue_runs scene.world s label target at.span blocks.Block is)
  statement_runs {names} (Throw at e s t p by) tried h none unused scene same ported takes =
      let clean = throw_clean names tried at.span e none in
      let unhandled : innermost s.handlers ≡ None = no_handler (innermost s.handlers) (h ∙ clean.1) in
      subst
      (λ (x : State). RunsStatement scene.world (exec scene None (Node at word.Throw (Then e End))) s (threw_from x at.span p blocks.Block))
      (sym (unthrown t at.span (ap (λ (l : List BlockId). innermost l) (expression_blocks by).extends.handlers ∙ unhandled)))
      (throw_runs scene.world s t (eval scene e) p at.span blocks.Block unhandled (expression_runs by clean.0 scene same ported))
  statement_runs {names} (Switch at value cases ks s t u p all by) tried h none unused scene same ported takes =
      let clean = switch_clean names tried value cases none in
      let bare = switch_unused value cases unused in
      let c = cases_run all tried h clean.0 bare scene same ported takes in
      subst (λ (es : Pieces). RunsStatement scene.world (exec scene None (Node at word.Switch (Then value (Then (Listed es) End)))) s
      (switch_finished u s.env.next_block ks p at.span)) c.are
      (does_same scene.world s _
      (λ ways normal source answers. sym (switch_meant scene None at value c.parts ported ways normal source answers))
      (switch_runs s t u None ks p at.span (cases_blocks all).extends (expression_blocks by).extends scene.world
      (case_meanings scene c.parts) (eval scene value) c.runs (expression_runs by clean.1 scene same ported)))
  statement_runs {names} (TryPlain at there block body s s2 s3 first second) tried h none unused scene same ported takes =
      let clean = try_clean names tried Absent body block none in
      let bare = try_unused block Absent body unused in
      try_runs s s s2 s3 None at.span there.span (span_of block) (extends_refl s) (statement_blocks first).extends
      (statement_blocks second).extends refl refl tt scene.world (exec scene None block) (caught_meaning scene Absent body)
      (plain_handler scene.world (try_started s None) s2 (exec scene None body)
      (statement_runs first tried h clean.1 bare.1 scene same ported takes))
      (statement_runs second true (tried_in s2 s.env.next_block (reserved s).env.next_block there.span) clean.2 bare.0 scene same ported takes)
  statement_runs {names} (TryBound at there bind name type block body symbol identifier s s2 s3 annotated is f first second) tried h none
      unused scene same ported takes =
      let param : Syntax = Node bind word.Bind (Then (Said name) (Then type End)) in
      let clean = try_clean names tried param body block none in
      let bare = try_unused block param body unused in
      let made : State = promoted s bind.span in
      let stored : State = catch_bound names s symbol identifier bind.span in
      try_runs s made s2 s3 (Some (caught s bind.span)) at.span there.span (span_of block) (extends_promoted s bind.span)
      (extends_then (blocks_caught names s symbol identifier bind.span f).extends (statement_blocks first).extends)
      (statement_blocks second).extends refl refl (omega arith, omega (arith, length_promoted s bind.span)) scene.world
      (exec scene None block)
      (caught_meaning scene param body)
      (caught_runs scene s s2 bind name type body symbol identifier f (declares scene names bind.id.0 symbol same is)
      (blocks_caught names s symbol identifier bind.span f).extends (statement_blocks first).extends
      (statement_runs first tried (tried_on s stored (bound_handlers s symbol identifier bind.span f) h) clean.1 bare.1 scene same ported takes))
      (statement_runs second true (tried_in s2 s.env.next_block (catch_declared s bind.span).env.next_block there.span) clean.2 bare.0
      scene same ported takes)
  statement_runs {names} (Finalized at there block param body finalizer s t is by) tried h none unused scene same ported takes =
      absurd (finalizer_never names tried at there block param body finalizer is none)
  statement_runs (Uncaught at block finalizer s) tried h none unused scene same ported takes = absurd (never none)
  statement_runs (With at fields s) tried h none unused scene same ported takes = absurd (never none)

  -- The cases of a `switch`: their parts, and their runs.
  cases_run : {names : Names} {s : State} {es : Pieces} {ks : List Case} {t : State} → LoweredCases names s es ks t → (tried : Bool)
      → IsTried tried s → refusals_in_cases names tried es ≡ [] → have_using es ≡ false → (scene : Scene) → scene.names ≡ names
      → scene.ported ≡ true → TakesEarly scene → CasesRun scene s es ks t
  cases_run (NoCase s) tried h none unused scene same ported takes =
      record { parts = []; are = refl; runs = switch_begun_runs scene.world None s }
  cases_run {names} (NextCase at test statements cases ks s x y z p all by tested) tried h none unused scene same ported takes =
      let clean = case_clean names tried test statements cases none in
      let bare = case_unused test statements cases unused in
      let c = cases_run all tried h clean.behind bare.1 scene same ported takes in
      let part : CaseParts = record { at = at; condition = test; statements = statements } in record {
        parts = part ∷ c.parts;
        are = ap (λ (rest : Pieces). Then (Node at word.Case (Then test (Then (Listed statements) End))) rest) c.are;
        runs = case_runs_more s x y None ks at.span (cases_blocks all).extends (statements_blocks by).extends z
            (case_test_blocks tested).extends scene.world (case_meanings scene c.parts) (case_meaning scene part) p c.runs
            (statements_runs by tried (tried_on s x (cases_blocks all).extends.handlers h) clean.body bare.0 scene same ported takes)
            (case_test_runs tested clean.moved clean.condition scene same ported);
      }

  -- With the label that is its own.
  pub loop_runs : {names : Names} {own : Label} {e : Syntax} {s t : State} → LoweredLoop names own e s t → (tried : Bool)
      → IsTried tried s → refusals_at names tried e ≡ [] → has_using e ≡ false → (scene : Scene) → scene.names ≡ names → scene.ported ≡ true → TakesEarly scene
      → RunsStatement scene.world (labeled_by own (exec scene own e)) s t
  loop_runs {names} {own} (While at test body s s2 s3 p by by_test) tried h none unused scene same ported takes =
      let clean = while_clean names tried test body none in
      does_same scene.world s _ (λ ways normal source answers. sym (while_meant scene own at test body ways normal source answers))
      (while_runs s s2 s3 own p at.span (span_of body) (statement_blocks by).extends (expression_blocks by_test).extends scene.world
      (eval scene test) (exec scene None body)
      (statement_runs by tried h clean.0 (or_parts (has_using body) false (or_parts (has_using test) _ unused).1).0 scene same ported takes)
      (expression_runs by_test clean.1 scene same ported))
  loop_runs {names} {own} (DoWhile at test body s s2 s3 p by by_test) tried h none unused scene same ported takes =
      let clean = while_clean names tried test body none in
      does_same scene.world s _ (λ ways normal source answers. sym (do_while_meant scene own at test body ways normal source answers))
      (do_while_runs s s2 s3 own p at.span (span_of body) (statement_blocks by).extends (expression_blocks by_test).extends scene.world
      (eval scene test) (exec scene None body)
      (statement_runs by tried h clean.0 (or_parts (has_using body) _ unused).0 scene same ported takes)
      (expression_runs by_test clean.1 scene same ported))
  loop_runs {names} {own} (ForUpdated at init test update body s s2 s3 s4 s5 u p by_init by_update by by_test) tried h none unused scene
      same ported takes =
      let clean = for_clean names tried at.span init test update body none in
      let bare = head_unused init test update body unused in
      does_same scene.world s _
      (λ ways normal source answers. sym (for_meant scene own at init test update body
      (head_means by_init by_test clean.init_said clean.test_said) ways normal source answers))
      (for_runs s s2 s3 s4 s5 own p at.span (part_span at.span init) (span_of update) (span_of body) (init_blocks by_init).extends
      (expression_blocks by_update).extends (statement_blocks by).extends (test_blocks by_test).extends scene.world
      (exec scene None init) (eval scene test) (eval_optional scene update) (exec scene None body)
      (init_runs by_init clean.init_said clean.init bare.0 scene same ported takes) (update_runs by_update clean.update scene same ported)
      (statement_runs by tried
      (tried_on s s3 ((expression_blocks by_update).extends.handlers ∙ (init_blocks by_init).extends.handlers) h) clean.body bare.1 scene
      same ported takes) (test_runs by_test clean.test_said clean.test scene same ported))
  loop_runs {names} {own} (ForPlain at init test body s s2 s3 s4 p by_init by by_test) tried h none unused scene same ported takes =
      let clean = for_clean names tried at.span init test Absent body none in
      let bare = head_unused init test Absent body unused in
      does_same scene.world s _
      (λ ways normal source answers. sym (for_meant scene own at init test Absent body
      (head_means by_init by_test clean.init_said clean.test_said) ways normal source answers))
      (for_runs_plain s s2 s3 s4 own p at.span (part_span at.span init) (span_of body) (init_blocks by_init).extends
      (statement_blocks by).extends (test_blocks by_test).extends scene.world (exec scene None init) (eval scene test)
      (exec scene None body) (init_runs by_init clean.init_said clean.init bare.0 scene same ported takes)
      (statement_runs by tried (tried_on s s2 (init_blocks by_init).extends.handlers h) clean.body bare.1 scene same ported takes)
      (test_runs by_test clean.test_said clean.test scene same ported))
  loop_runs {names} {own} (ForIn at head right body s s2 s3 s4 collection p by by_right by_head) tried h none unused scene same ported takes =
      let clean = rounds_clean names tried head right body none in
      let bare = rounds_unused head right body unused in
      does_same scene.world s _ (λ ways normal source answers. sym (forin_meant scene own at head right body ways normal source answers))
      (forin_runs s s2 s3 s4 own collection p at.span (span_of head) (span_of body) (statement_blocks by).extends
      (expression_blocks by_right).extends (head_blocks by_head).extends scene.world (eval scene right) (take_head scene head)
      (exec scene None body) (statement_runs by tried h clean.0 bare.1 scene same ported takes)
      (expression_runs by_right clean.1 scene same ported)
      (head_runs by_head clean.2 bare.0 scene same ported takes))
  loop_runs {names} {own} (ForOf at head right body s s2 s3 s4 collection p by by_right by_head) tried h none unused scene same ported takes =
      let clean = rounds_clean names tried head right body none in
      let bare = rounds_unused head right body unused in
      does_same scene.world s _ (λ ways normal source answers. sym (forof_meant scene own at head right body ways normal source answers))
      (forof_runs s s2 s3 s4 own collection p at.span (span_of head) (span_of body) (statement_blocks by).extends
      (expression_blocks by_right).extends (head_blocks by_head).extends scene.world (eval scene right) (take_head scene head)
      (exec scene None body) (statement_runs by tried h clean.0 bare.1 scene same ported takes)
      (expression_runs by_right clean.1 scene same ported)
      (head_runs by_head clean.2 bare.0 scene same ported takes))
  loop_runs (AwaitRefused at head right body s) tried h none unused scene same ported takes = absurd (never none)

  pub statements_runs : {names : Names} {es : Pieces} {s t : State} → LoweredStatements names es s t → (tried : Bool) → IsTried tried s
      → refusals_among names tried es ≡ [] → have_using es ≡ false → (scene : Scene) → scene.names ≡ names → scene.ported ≡ true → TakesEarly scene
      → RunsStatement scene.world (exec_all scene es) s t
  statements_runs (NoStatement s) tried h none unused scene same ported takes = nothing_runs scene.world s
  statements_runs {names} (NextStatement e es s t u by all) tried h none unused scene same ported takes =
      let clean = among_clean names tried e es none in
      let bare = or_parts (has_using e) (have_using es) unused in
      order_runs scene.world s t u (exec scene None e) (exec_all scene es) (statement_blocks by).extends (statements_blocks all).extends
      (statement_runs by tried h clean.0 bare.0 scene same ported takes)
      (statements_runs all tried (tried_on s t (statement_blocks by).extends.handlers h) clean.1 bare.1 scene same ported takes)

-- A body that is an expression returns its value at its end.

-- A block that ends by a return ends the run with the value, whatever block goes on.
value_ends : (world : World) (t : State) (variant : ReturnVariant) (place : Place) (next : WipBlock) (c : Code)
    → IsContainedIn (completed_by t (return_of None variant place) next) c → SharesVariables c.ident world c.world
    → (v : Value) (source store : Store) (notes : Notes) (answers : List Answer) → Agrees c.ident source store
    → store place.identifier.0 ≡ v
    → TracesFrom c t store notes answers (returned (kept_in world source) variant v)
value_ends world t variant place next c cover shares v source store notes answers a is =
    steps_on c t.current.id.0 (length t.current.instructions) store notes answers (Ends (return_of None variant place))
    (returned (kept_in world source) variant v) (terminal_met t (return_of None variant place) next c cover)
    (comes_at_once c _ _ (λ stuck onward. ap (λ (kept : List Assignment). returned kept variant (store place.identifier.0)) (kept_same c world source store a shares)
    ∙ ap (λ w. returned (kept_in world source) variant w) is))

-- The value of an expression is returned, and the block behind was numbered first.
value_runs : (world : World) (s t : State) (d : Action Value) (place : Place) (variant : ReturnVariant) (next : WipBlock)
    → Extends (reserved s) t
    → RunsExpression world d (reserved s) t place.identifier.0
    → RunsStatement world (λ ways onward. d ways (λ v source answers. returned (kept_in world source) variant v)) s
    (completed_by t (return_of None variant place) next)
value_runs world s t d place variant next g r = record {
  runs = λ c cover sound shares ways normal source store notes answers a throws jumps onward.
      use_expression ways (λ v after rest. returned (kept_in world after) variant v) r (contained_before ends cover) sound shares
      (inside (extends_reserved s) ends) throws (since_start a)
      (λ v source1 store1 notes1 answers1 t1 u is.
      value_ends world t variant place next c cover shares v source1 store1 notes1 answers1 t1.agrees is);
}
  where
    ends : Extends t (completed_by t (return_of None variant place) next)
    ends = extends_completed t (return_of None variant place) next (λ none. refl)

pub body_runs : {names : Names} {b : Syntax} {s t : State} → s.handlers ≡ [] → LoweredBody names b s t → refusals_in_body names b ≡ []
    → has_using b ≡ false → (scene : Scene) → scene.names ≡ names → scene.ported ≡ true → TakesEarly scene
    → RunsStatement scene.world (exec_before_end scene b) s t
body_runs {s = s} unhandled (Statements at directives statements s1 t texts by) none unused scene same ported takes =
    statements_runs by false (tried_none s unhandled) none
    (or_parts (have_using statements) false (or_parts (have_using directives) (have_using statements || false) unused).1).0 scene same ported takes
body_runs {names} unhandled (OfValue e s t p by) none unused scene same ported takes =
    subst
    (λ (d : Action (Unit {0})). RunsStatement scene.world d s (completed_by t (return_of None returns.Implicit p) (new_block s.env.next_block blocks.Block)))
    (sym ((lowered_plain by).last scene))
    (value_runs scene.world s t (eval scene e) p returns.Implicit (new_block s.env.next_block blocks.Block) (expression_blocks by).extends
    (expression_runs by (sym ((lowered_plain by).refused names) ∙ none) scene same ported))
