-- A covered function that is orderly runs alike as it is written and as it is ported: it has none of the parts for which the port differs.
use Rattle.std.proofs.Common.{◌≡◌, ℕ, Bool, true, false, true≢false, if◌then◌else◌, List, [], ◌∷◌, ◌++◌, length, Option, Some, None, refl}
use Rattle.std.proofs.Common.{sym, ap, subst, ◌∙◌}
use Rattle.rl_ast.specs.FunctionTrees.{is_function}
use Rattle.rl_base.specs.declared.ids.SymbolId.{SymbolId}
use Rattle.rl_bindings.specs.Tables.{symbols_in}
use Rattle.rl_grammar.proofs.Viewing.{arity_four, arity_six, four_fit, six_fit}
use Rattle.rl_grammar.specs.Grammar.{fits, each}
use Rattle.rl_grammar.specs.declared.kind.Field.{Field}
use Rattle.rl_grammar.specs.declared.kind.Field.TheVariants as field
use Rattle.rl_grammar.specs.declared.kind.Kind.TheVariants as kind
use Rattle.rl_hir.specs.declared.function.Pair.{Pair}
use Rattle.rl_hir.specs.declared.terminal.ReturnVariant.TheVariants as returns
use Rattle.rl_machine.specs.Traces.{World, matches, truthy, unset, waiting}
use Rattle.rl_machine.specs.declared.trace.Answer.{Answer}
use Rattle.rl_machine.specs.declared.trace.Assignment.{Assignment}
use Rattle.rl_machine.specs.declared.trace.Event.{Event}
use Rattle.rl_machine.specs.declared.trace.Value.{Value}
use Rattle.rl_machine.specs.declared.trace.Value.TheVariants as value
use Rattle.rl_base.specs.declared.diagnostic.Diagnostic.{Diagnostic}
use Rattle.rl_promises.proofs.Accepted.{AreAccepted, are_accepted, nil_parts}
use Rattle.rl_promises.proofs.EarlyNames.{IsEarly}
use Rattle.rl_promises.proofs.FormedParts.{HasFormedParts, IsFormed, IsHead, IsWhole, formed_in}
use Rattle.rl_promises.proofs.FunctionParts.{four_form, six_form}
use Rattle.rl_promises.proofs.KeptVariables.{eval_keeps}
use Rattle.rl_promises.proofs.SteadyTests.{AreSteady, steady, switched}
use Rattle.rl_promises.specs.Moved.{said_of_moved}
use Rattle.rl_promises.specs.Rows.{refusals, refusals_among, refusals_at, refusals_at_head, refusals_in, refusals_in_body, refusals_in_case}
use Rattle.rl_promises.specs.Rows.{refusals_in_cases, refusals_of, said_of_finalizer, said_of_init, said_of_test, said_of_throw}
use Rattle.rl_promises.proofs.CoveredWorlds.{SharesNothing, source_alone}
use Rattle.rl_promises.proofs.OrderlyCalls as orderly
use Rattle.rl_promises.proofs.OrderlyCalls.{assigned_of, function_lends}
use Rattle.rl_promises.proofs.OrderlyPatterns.{HasOrderly, HaveOrderly, function_orderly}
use Rattle.rl_promises.proofs.Quiet.{AreAlike, alike_bind, alike_body, alike_breakable, alike_catching, alike_if, alike_labeled, alike_loop}
use Rattle.rl_promises.proofs.Quiet.{alike_of, alike_row, alike_self, alike_then, alike_while, alike_with}
use Rattle.rl_model.specs.Actions.{Action, ◌>>=◌, ◌>>◌, ask, body_of_loop, breakable, done, give, loop, next, no_meaning, raise}
use Rattle.rl_model.specs.Actions.{return_with, test}
use Rattle.rl_model.specs.Code.{is_open, world_of}
use Rattle.rl_promises.specs.Headline.{SameRuns}
use Rattle.rl_promises.specs.Covered.{IsCoveredFunction}
use Rattle.rl_model.specs.Events.{get_iterator, next_key, next_of}
use Rattle.rl_model.specs.Expressions.{assign_to, eval}
use Rattle.rl_model.specs.Functions.{outside, run_body, run_function, set_all, take_params}
use Rattle.rl_model.specs.Marked.{marked}
use Rattle.rl_model.specs.Orderly.{is_orderly_pattern}
use Rattle.rl_model.specs.Patterns.{bind}
use Rattle.rl_model.specs.PortedScenes.{ported_scene}
use Rattle.rl_model.specs.Scene.{Scene}
use Rattle.rl_model.specs.Scenes.{written_scene}
use Rattle.rl_model.specs.Shapes as shapes
use Rattle.rl_model.specs.Source.{is_orderly}
use Rattle.rl_model.specs.Statements.{declare_all, declare_one, eval_optional, eval_tests, exec, exec_all, exec_cases, exec_default}
use Rattle.rl_model.specs.Statements.{first_test, has_meaning, holds, is_using, known_or, later_tests, take_head, try_cases, turn_while}
use Rattle.rl_model.specs.Statements.{turn_with}
use Rattle.rl_model.specs.Units.{names_of}
use Rattle.rl_model.specs.Worlds.{Function}
use Rattle.rl_names.specs.Functions.{body_in, params_in}
use Rattle.rl_syntax.specs.Syntax.{Syntax, Node, Listed, Said, Count, Flag, Absent, Pieces, End, Then}
use Rattle.rl_syntax.specs.declared.numbered.At.{At}
use Rattle.rl_syntax.specs.declared.word.Word.TheVariants as word
use Rattle.rl_promises.proofs.AlikeExpressions.{as_ported, eval_alike, id_takes, index_takes, member_takes, take_alike}
use Rattle.rl_promises.proofs.AlikeParams.{params_alike}
use Rattle.rl_promises.proofs.AlikePatterns.{whole_alike}

-- `s` runs as the port does, `t` as the function is written.
module _ (t : Scene) (stored : ℕ → Option SymbolId) (assigned : List ℕ) (closed : (symbol : ℕ) → t.world.opens symbol ≡ false)
    (written : t.ported ≡ false) (late : (everywhere : Bool) (bind : ℕ) → t.takes_early everywhere bind ≡ false) (opens : ℕ → Bool) where
  abbrev s : Scene
  s = as_ported t stored

  abbrev LendsAlike : Syntax → Type 0
  LendsAlike = orderly.LendsAlike t.names assigned

  abbrev LendAlike : Pieces → Type 0
  LendAlike = orderly.LendAlike t.names assigned

  abbrev Orderly : (tried : Bool) → Syntax → Type 0
  Orderly = HasOrderly t.names opens

  abbrev AllOrderly : (tried : Bool) → Pieces → Type 0
  AllOrderly = HaveOrderly t.names opens

  value_alike : (e : Syntax) → LendsAlike e → refusals t.names e ≡ [] → eval s e ≡ eval t e
  value_alike e covered none = eval_alike t stored assigned closed written e covered none

  -- A value that is returned by a `return` statement.
  abbrev explicitly : Scene → Action Value → Action (Unit {0})
  explicitly scene action = do
    v ← action
    return_with scene returns.Explicit v

  explicitly_alike : (e : Syntax) → LendsAlike e → refusals t.names e ≡ [] → explicitly s (eval s e) ≡ explicitly t (eval t e)
  explicitly_alike e covered none = λ i. explicitly t (value_alike e covered none i)

  return_alike : (own : Option (List ℕ)) (at : At) (parts : Pieces) → LendAlike parts → AreAccepted t.names parts
      → exec s own (Node at word.Return parts) ≡ exec t own (Node at word.Return parts)
  return_alike own at (Then Absent End) covered accepted = refl
  return_alike own at (Then (Node there w parts) End) covered accepted = explicitly_alike (Node there w parts) covered.0 accepted.0
  return_alike own at (Then (Listed parts) End) covered accepted = explicitly_alike (Listed parts) covered.0 accepted.0
  return_alike own at (Then (Said text) End) covered accepted = explicitly_alike (Said text) covered.0 accepted.0
  return_alike own at (Then (Count number) End) covered accepted = explicitly_alike (Count number) covered.0 accepted.0
  return_alike own at (Then (Flag flag) End) covered accepted = explicitly_alike (Flag flag) covered.0 accepted.0
  return_alike own at _ covered accepted = refl

  throw_alike : (own : Option (List ℕ)) (tried : Bool) (at : At) (parts : Pieces) → LendAlike parts
      → refusals_at t.names tried (Node at word.Throw parts) ≡ []
      → exec s own (Node at word.Throw parts) ≡ exec t own (Node at word.Throw parts)
  throw_alike own tried at (Then expression End) covered none =
      let told = (nil_parts (refusals t.names expression) (said_of_throw tried at.span) none).0 in λ i. (do
        v ← value_alike expression covered.0 told i
        raise v)
  throw_alike own tried at _ covered none = refl

  expression_alike : (own : Option (List ℕ)) (at : At) (parts : Pieces) → LendAlike parts → AreAccepted t.names parts
      → exec s own (Node at word.Expr parts) ≡ exec t own (Node at word.Expr parts)
  expression_alike own at (Then expression End) covered accepted = λ i. (do
    value_alike expression covered.0 accepted.0 i
    done)
  expression_alike own at _ covered accepted = refl

  empty_alike : (own : Option (List ℕ)) (at : At) (parts : Pieces)
      → exec s own (Node at word.Empty parts) ≡ exec t own (Node at word.Empty parts)
  empty_alike own at End = refl
  empty_alike own at _ = refl

  debugger_alike : (own : Option (List ℕ)) (at : At) (parts : Pieces)
      → exec s own (Node at word.Debugger parts) ≡ exec t own (Node at word.Debugger parts)
  debugger_alike own at End = refl
  debugger_alike own at _ = refl

  -- A binding pattern takes its value alike.
  pattern_alike : (tried everywhere : Bool) (pattern : Syntax) (v : Value) → IsWhole pattern → LendsAlike pattern
      → refusals t.names pattern ≡ [] → is_orderly_pattern t.names opens tried pattern ≡ true
      → AreAlike tried (bind s everywhere pattern v) (bind t everywhere pattern v)
  pattern_alike tried everywhere pattern v whole covered none orderly =
      whole_alike t stored assigned closed written late everywhere tried opens pattern v whole covered none orderly

  -- A pattern and its initializer.
  bound_alike : (tried : Bool) (pattern init : Syntax) → IsWhole pattern → LendsAlike pattern → LendsAlike init
      → refusals t.names init ++ refusals t.names pattern ≡ [] → is_orderly_pattern t.names opens tried pattern ≡ true
      → AreAlike tried (eval s init >>= (λ v. bind s false pattern v)) (eval t init >>= (λ v. bind t false pattern v))
  bound_alike tried pattern init whole covered given none orderly =
      let both = nil_parts (refusals t.names init) (refusals t.names pattern) none in
      alike_bind tried (eval s init) (eval t init) (λ v. bind s false pattern v) (λ v. bind t false pattern v)
      (alike_of tried (eval s init) (eval t init) (value_alike init given both.0))
      (λ v. pattern_alike tried false pattern v whole covered both.1 orderly)

  declarator_alike : (tried : Bool) (at : At) (parts : Pieces) → HasFormedParts word.Declarator parts → LendAlike parts
      → Orderly tried (Node at word.Declarator parts) → refusals t.names (Node at word.Declarator parts) ≡ []
      → AreAlike tried (declare_one s (Node at word.Declarator parts)) (declare_one t (Node at word.Declarator parts))
  declarator_alike tried at (Then pattern (Then Absent End)) whole covered orderly none =
      pattern_alike tried false pattern value.Undefined whole covered.0 none orderly.0
  declarator_alike tried at (Then pattern (Then (Node there w parts) End)) whole covered orderly none =
      bound_alike tried pattern (Node there w parts) whole covered.0 covered.1.0 none orderly.0
  declarator_alike tried at (Then pattern (Then (Listed parts) End)) whole covered orderly none =
      bound_alike tried pattern (Listed parts) whole covered.0 covered.1.0 none orderly.0
  declarator_alike tried at (Then pattern (Then (Said text) End)) whole covered orderly none =
      bound_alike tried pattern (Said text) whole covered.0 covered.1.0 none orderly.0
  declarator_alike tried at (Then pattern (Then (Count number) End)) whole covered orderly none =
      bound_alike tried pattern (Count number) whole covered.0 covered.1.0 none orderly.0
  declarator_alike tried at (Then pattern (Then (Flag flag) End)) whole covered orderly none =
      bound_alike tried pattern (Flag flag) whole covered.0 covered.1.0 none orderly.0
  declarator_alike tried at _ whole covered orderly none = alike_self _

  declare_one_alike : (tried : Bool) (declarator : Syntax) → LendsAlike declarator → Orderly tried declarator
      → refusals t.names declarator ≡ [] → AreAlike tried (declare_one s declarator) (declare_one t declarator)
  declare_one_alike tried (Node at word.Declarator parts) covered orderly none =
      declarator_alike tried at parts covered.1.formed covered.2 orderly none
  declare_one_alike tried _ covered orderly none = alike_self _

  declare_alike : (tried : Bool) (declarators : Pieces) → LendAlike declarators → AllOrderly tried declarators
      → refusals_in t.names declarators ≡ [] → AreAlike tried (declare_all s declarators) (declare_all t declarators)
  declare_alike tried End covered orderly none = alike_self _
  declare_alike tried (Then declarator declarators) covered orderly none =
      let both = nil_parts (refusals t.names declarator) (refusals_in t.names declarators) none in
      alike_row tried (declare_one s declarator) (declare_one t declarator) (declare_all s declarators) (declare_all t declarators)
      (declare_one_alike tried declarator covered.0 orderly.0 both.0) (declare_alike tried declarators covered.1 orderly.1 both.1)

  var_alike : (own : Option (List ℕ)) (tried : Bool) (at : At) (parts : Pieces) → LendAlike parts → AllOrderly tried parts
      → refusals t.names (Node at word.Var parts) ≡ []
      → AreAlike tried (exec s own (Node at word.Var parts)) (exec t own (Node at word.Var parts))
  var_alike own tried at (Then (Said kind) (Then (Listed declarators) End)) covered orderly none =
      let told = (nil_parts _ (refusals_in t.names declarators) none).1 in
      alike_if tried (is_using kind) no_meaning no_meaning (declare_all s declarators) (declare_all t declarators) (alike_self _)
      (declare_alike tried declarators covered.1.0 orderly.1.0 told)
  var_alike own tried at _ covered orderly none = alike_self _

  -- The head of a loop takes a value.

  target_alike : (target : Syntax) (v : Value) → IsHead target → LendsAlike target → refusals_at_head t.names target ≡ []
      → assign_to s target v ≡ assign_to t target v
  target_alike (Node at word.Id parts) v whole covered none = id_takes t stored assigned closed written at parts v
  target_alike (Node at word.Member parts) v whole covered none =
      member_takes t stored assigned closed written at parts v covered.2 (are_accepted t.names parts none)
  target_alike (Node at word.Index parts) v whole covered none =
      index_takes t stored assigned closed written at parts v covered.2 (are_accepted t.names parts none)
  target_alike (Node at word.Arraytarget parts) v whole covered none =
      take_alike t stored assigned closed written (Node at word.Arraytarget parts) v covered refl none
  target_alike (Node at word.Objecttarget parts) v whole covered none =
      take_alike t stored assigned closed written (Node at word.Objecttarget parts) v covered refl none
  target_alike (Node at word.Default parts) v whole covered none = absurd whole
  target_alike (Node at word.Short parts) v whole covered none = absurd whole
  target_alike (Node at word.Keyed parts) v whole covered none = absurd whole
  target_alike (Node at word.Rest parts) v whole covered none = absurd whole
  target_alike _ v whole covered none = refl

  -- The pattern of a declarator without refusals has none.
  pattern_none : (at : At) (pattern : Syntax) (parts : Pieces) → refusals t.names (Node at word.Declarator (Then pattern parts)) ≡ []
      → refusals t.names pattern ≡ []
  pattern_none at pattern (Then init End) none = (nil_parts (refusals t.names init) (refusals t.names pattern) none).1
  pattern_none at pattern parts none = (nil_parts (refusals t.names pattern) (refusals_in t.names parts) none).0

  head_alike : (tried : Bool) (head : Syntax) (v : Value) → IsHead head → LendsAlike head → Orderly tried head
      → refusals_at_head t.names head ≡ [] → AreAlike tried (take_head s head v) (take_head t head v)
  head_alike tried (Node at word.Var (Then (Said kind) (Then (Listed (Then (Node there word.Declarator (Then p ps)) End)) End))) v whole
      covered orderly none =
      let declarator : Syntax = Node there word.Declarator (Then p ps) in
      let told = (nil_parts (refusals t.names declarator) [] (nil_parts (refusals_in t.names (Then declarator End)) [] none).0).0 in
      alike_if tried (is_using kind) no_meaning no_meaning (bind s true p v) (bind t true p v) (alike_self _)
      (pattern_alike tried true p v covered.2.1.0.0.1.formed covered.2.1.0.0.2.0 (pattern_none there p ps told) orderly.1.0.0.0)
  head_alike tried (Node at word.Var parts) v whole covered orderly none = alike_self _
  head_alike tried head v whole covered orderly none =
      alike_of tried (take_head s head v) (take_head t head v) (target_alike head v whole covered none)

  -- The test of an `if` or of a loop.
  holds_alike : (condition : Syntax) → LendsAlike condition → refusals t.names condition ≡ [] → holds s condition ≡ holds t condition
  holds_alike condition covered none = λ i. (do
    v ← value_alike condition covered none i
    test t (truthy v))

  optional_alike : (e : Syntax) → LendsAlike e → refusals t.names e ≡ [] → eval_optional s e ≡ eval_optional t e
  optional_alike e covered none = λ i. if shapes.is_absent e then done else (do
    value_alike e covered none i
    done)

  break_alike : (own : Option (List ℕ)) (at : At) (parts : Pieces)
      → exec s own (Node at word.Break parts) ≡ exec t own (Node at word.Break parts)
  break_alike own at (Then Absent End) = refl
  break_alike own at (Then (Said label) End) = refl
  break_alike own at _ = refl

  continue_alike : (own : Option (List ℕ)) (at : At) (parts : Pieces)
      → exec s own (Node at word.Continue parts) ≡ exec t own (Node at word.Continue parts)
  continue_alike own at (Then Absent End) = refl
  continue_alike own at (Then (Said label) End) = refl
  continue_alike own at _ = refl

  -- A declaration or nothing stands in front of a `for` loop that has a meaning.
  init_alike : (tried : Bool) (init condition : Syntax) → LendsAlike init → Orderly tried init → refusals t.names init ≡ []
      → has_meaning init condition ≡ true → AreAlike tried (exec s None init) (exec t None init)
  init_alike tried init Absent covered orderly none meant = absurd (true≢false (sym meant))
  init_alike tried Absent condition covered orderly none meant = alike_self _
  init_alike tried (Node at word.Var parts) condition covered orderly none meant = var_alike None tried at parts covered.2 orderly none
  init_alike tried _ condition covered orderly none meant = absurd (true≢false (sym meant))

  -- A `for` loop by its parts.
  abbrev for_by : Scene → (init condition update body : Syntax) → Option (List ℕ) → Action (Unit {0})
  for_by scene init condition update body own = do
    exec scene None init
    breakable (loop (turn_while (holds scene condition) (do
      body_of_loop own (exec scene None body)
      eval_optional scene update)))

  meant_alike : (tried meant : Bool) (init condition update body : Syntax) (own : Option (List ℕ)) → has_meaning init condition ≡ meant
      → LendsAlike init → LendsAlike condition → LendsAlike update → Orderly tried init
      → refusals t.names init ≡ [] → refusals t.names condition ≡ [] → refusals t.names update ≡ []
      → AreAlike tried (exec s None body) (exec t None body)
      → AreAlike tried (if meant then for_by s init condition update body own else no_meaning)
      (if meant then for_by t init condition update body own else no_meaning)
  meant_alike tried true init condition update body own is begins tests updates orderly first second third same =
      alike_row tried (exec s None init) (exec t None init) _ _ (init_alike tried init condition begins orderly first is)
      (alike_breakable tried _ _ (alike_loop tried _ _ (alike_while tried (holds s condition) (holds t condition) _ _
      (alike_of tried _ _ (holds_alike condition tests second))
      (alike_row tried _ _ (eval_optional s update) (eval_optional t update)
      (alike_body tried own (exec s None body) (exec t None body) same)
      (alike_of tried _ _ (optional_alike update updates third))))))
  meant_alike tried false init condition update body own is begins tests updates orderly first second third same = alike_self no_meaning

  -- The parts of a loop without refusals have none.

  for_none : (tried : Bool) (at : At) (init condition update body : Syntax)
      → refusals_at t.names tried (Node at word.For (Then init (Then condition (Then update (Then body End))))) ≡ []
      → (refusals t.names init ≡ []) × (refusals t.names condition ≡ []) × (refusals t.names update ≡ [])
      × (refusals_at t.names tried body ≡ [])
  for_none tried at init condition update body none =
      let begun : List Diagnostic = said_of_init at.span init ++ refusals t.names init in
      let ahead : List Diagnostic = begun ++ refusals t.names update in
      let tested : List Diagnostic = ahead ++ refusals_at t.names tried body ++ said_of_test at.span condition in
      let first = nil_parts tested (refusals t.names condition) none in
      let second = nil_parts (ahead ++ refusals_at t.names tried body) (said_of_test at.span condition) first.0 in
      let third = nil_parts ahead (refusals_at t.names tried body) second.0 in
      let fourth = nil_parts begun (refusals t.names update) third.0 in
      ((nil_parts (said_of_init at.span init) (refusals t.names init) fourth.0).1, first.1, fourth.1, third.1)

  turn_none : (tried : Bool) (head right body : Syntax)
      → refusals_at t.names tried body ++ refusals t.names right ++ refusals_at_head t.names head ≡ []
      → (refusals_at t.names tried body ≡ []) × (refusals t.names right ≡ []) × (refusals_at_head t.names head ≡ [])
  turn_none tried head right body none =
      let first = nil_parts (refusals_at t.names tried body ++ refusals t.names right) (refusals_at_head t.names head) none in
      let second = nil_parts (refusals_at t.names tried body) (refusals t.names right) first.0 in (second.0, second.1, first.1)

  -- The tests of cases: expressions.

  abbrev IsTest : Syntax → Type 0
  IsTest Absent = Unit {0}
  IsTest (Node at w parts) = Unit {0}
  IsTest _ = ⊥

  no_test : (condition : Syntax) → fits (field.Maybe kind.Expression) condition ≡ true → IsTest condition
  no_test Absent formed = tt
  no_test (Node at w parts) formed = tt
  no_test _ formed = absurd (true≢false (sym formed))

  -- The statements and the test of a case without refusals have none.
  case_none : (tried : Bool) (condition : Syntax) (statements : Pieces)
      → refusals_among t.names tried statements ++ said_of_moved t.names condition ++ refusals t.names condition ≡ []
      → (refusals_among t.names tried statements ≡ []) × (refusals t.names condition ≡ [])
  case_none tried condition statements none =
      let own : List Diagnostic = refusals_among t.names tried statements in
      let moved : List Diagnostic = said_of_moved t.names condition in
      let both = nil_parts (own ++ moved) (refusals t.names condition) none in ((nil_parts own moved both.0).0, both.1)

  test_none : (tried : Bool) (at : At) (condition : Syntax) (parts : Pieces)
      → refusals_in_case t.names tried (Node at word.Case (Then condition parts)) ≡ [] → refusals t.names condition ≡ []
  test_none tried at condition (Then (Listed statements) End) none = (case_none tried condition statements none).1
  test_none tried at condition parts none = (nil_parts (refusals t.names condition) (refusals_in t.names parts) none).0

  cases_none : (tried : Bool) (case : Syntax) (cases : Pieces) → refusals_in_cases t.names tried (Then case cases) ≡ []
      → (refusals_in_cases t.names tried cases ≡ []) × (refusals_in_case t.names tried case ≡ [])
  cases_none tried case cases none = nil_parts (refusals_in_cases t.names tried cases) (refusals_in_case t.names tried case) none

  tests_alike : (tried : Bool) (cases : Pieces) → LendAlike cases → refusals_in_cases t.names tried cases ≡ []
      → eval_tests s cases ≡ eval_tests t cases
  tests_alike tried (Then (Node at word.Case (Then Absent parts)) cases) covered none =
      let both = cases_none tried (Node at word.Case (Then Absent parts)) cases none in λ i. (do
        vs ← tests_alike tried cases covered.1 both.0 i
        give (None ∷ vs))
  tests_alike tried (Then (Node at word.Case (Then (Node there w ps) parts)) cases) covered none =
      let both = cases_none tried (Node at word.Case (Then (Node there w ps) parts)) cases none in λ i. (do
        vs ← tests_alike tried cases covered.1 both.0 i
        v ← value_alike (Node there w ps) covered.0.2.0 (test_none tried at (Node there w ps) parts both.1) i
        give (Some v ∷ vs))
  tests_alike tried (Then (Node at word.Case (Then (Listed ps) parts)) cases) covered none = absurd (no_test (Listed ps) covered.0.1.formed)
  tests_alike tried (Then (Node at word.Case (Then (Said text) parts)) cases) covered none = absurd (no_test (Said text) covered.0.1.formed)
  tests_alike tried (Then (Node at word.Case (Then (Count number) parts)) cases) covered none =
      absurd (no_test (Count number) covered.0.1.formed)
  tests_alike tried (Then (Node at word.Case (Then (Flag flag) parts)) cases) covered none = absurd (no_test (Flag flag) covered.0.1.formed)
  tests_alike tried _ covered none = refl

  cases_steady : (tried : Bool) (cases : Pieces) → LendAlike cases → refusals_in_cases t.names tried cases ≡ []
      → AreSteady t assigned closed cases
  cases_steady tried (Then (Node at word.Case (Then Absent parts)) cases) covered none =
      cases_steady tried cases covered.1 (cases_none tried (Node at word.Case (Then Absent parts)) cases none).0
  cases_steady tried (Then (Node at word.Case (Then (Node there w ps) parts)) cases) covered none =
      let both = cases_none tried (Node at word.Case (Then (Node there w ps) parts)) cases none in (
        steady t assigned closed (Node there w ps) covered.0.1.orderly covered.0.1.formed
            (test_none tried at (Node there w ps) parts both.1),
        cases_steady tried cases covered.1 both.0,
      )
  cases_steady tried (Then (Node at word.Case (Then (Listed ps) parts)) cases) covered none = no_test (Listed ps) covered.0.1.formed
  cases_steady tried (Then (Node at word.Case (Then (Said text) parts)) cases) covered none = no_test (Said text) covered.0.1.formed
  cases_steady tried (Then (Node at word.Case (Then (Count number) parts)) cases) covered none = no_test (Count number) covered.0.1.formed
  cases_steady tried (Then (Node at word.Case (Then (Flag flag) parts)) cases) covered none = no_test (Flag flag) covered.0.1.formed
  cases_steady tried _ covered none = tt

  -- A turn of a loop over a collection.
  turn_alike : (tried : Bool) (own : Option (List ℕ)) (head body : Syntax) (event : Event)
      → ((v : Value) → AreAlike tried (take_head s head v) (take_head t head v)) → AreAlike tried (exec s None body) (exec t None body)
      → AreAlike tried (next s event >>= (λ taken. turn_with taken (λ v. take_head s head v >> body_of_loop own (exec s None body))))
      (next t event >>= (λ taken. turn_with taken (λ v. take_head t head v >> body_of_loop own (exec t None body))))
  turn_alike tried own head body event heads same =
      alike_bind tried (next s event) (next t event) _ _ (alike_self _) (λ taken.
      alike_with tried taken (λ v. take_head s head v >> body_of_loop own (exec s None body))
      (λ v. take_head t head v >> body_of_loop own (exec t None body))
      (λ v. alike_row tried (take_head s head v) (take_head t head v) _ _ (heads v)
      (alike_body tried own (exec s None body) (exec t None body) same)))

  mutual
    exec_alike : (own : Option (List ℕ)) (tried : Bool) (statement : Syntax) → LendsAlike statement → Orderly tried statement
        → refusals_at t.names tried statement ≡ [] → AreAlike tried (exec s own statement) (exec t own statement)
    exec_alike own tried (Node at word.Empty parts) covered orderly none = alike_of tried _ _ (empty_alike own at parts)
    exec_alike own tried (Node at word.Expr parts) covered orderly none =
        alike_of tried _ _ (expression_alike own at parts covered.2 (are_accepted t.names parts none))
    exec_alike own tried (Node at word.Return parts) covered orderly none =
        alike_of tried _ _ (return_alike own at parts covered.2 (are_accepted t.names parts none))
    exec_alike own tried (Node at word.Block parts) covered orderly none = block_alike own tried at parts covered.2 orderly none
    exec_alike own tried (Node at word.If parts) covered orderly none = if_alike own tried at parts covered.2 orderly none
    exec_alike own tried (Node at word.While parts) covered orderly none = while_alike own tried at parts covered.2 orderly none
    exec_alike own tried (Node at word.Dowhile parts) covered orderly none = dowhile_alike own tried at parts covered.2 orderly none
    exec_alike own tried (Node at word.For parts) covered orderly none = for_alike own tried at parts covered.2 orderly none
    exec_alike own tried (Node at word.Forin parts) covered orderly none =
        forin_alike own tried at parts covered.1.formed covered.2 orderly none
    exec_alike own tried (Node at word.Forof parts) covered orderly none =
        forof_alike own tried at parts covered.1.formed covered.2 orderly none
    exec_alike own tried (Node at word.Switch parts) covered orderly none = switch_alike own tried at parts covered.2 orderly none
    exec_alike own tried (Node at word.Try parts) covered orderly none = try_alike own tried at parts covered.2 orderly none
    exec_alike own tried (Node at word.Throw parts) covered orderly none =
        alike_of tried _ _ (throw_alike own tried at parts covered.2 none)
    exec_alike own tried (Node at word.With parts) covered orderly none = alike_self _
    exec_alike own tried (Node at word.Case parts) covered orderly none = alike_self _
    exec_alike own tried (Node at word.Catch parts) covered orderly none = alike_self _
    exec_alike own tried (Node at word.Labeled parts) covered orderly none = labeled_alike own tried at parts covered.2 orderly none
    exec_alike own tried (Node at word.Break parts) covered orderly none = alike_of tried _ _ (break_alike own at parts)
    exec_alike own tried (Node at word.Continue parts) covered orderly none = alike_of tried _ _ (continue_alike own at parts)
    exec_alike own tried (Node at word.Params parts) covered orderly none = alike_self _
    exec_alike own tried (Node at word.Param parts) covered orderly none = alike_self _
    exec_alike own tried (Node at word.Body parts) covered orderly none = alike_self _
    exec_alike own tried (Node at word.Bind parts) covered orderly none = alike_self _
    exec_alike own tried (Node at word.Id parts) covered orderly none = alike_self _
    exec_alike own tried (Node at word.Hole parts) covered orderly none = alike_self _
    exec_alike own tried (Node at word.Null parts) covered orderly none = alike_self _
    exec_alike own tried (Node at word.Bool parts) covered orderly none = alike_self _
    exec_alike own tried (Node at word.Num parts) covered orderly none = alike_self _
    exec_alike own tried (Node at word.Str parts) covered orderly none = alike_self _
    exec_alike own tried (Node at word.Regexp parts) covered orderly none = alike_self _
    exec_alike own tried (Node at word.Array parts) covered orderly none = alike_self _
    exec_alike own tried (Node at word.Unary parts) covered orderly none = alike_self _
    exec_alike own tried (Node at word.Binary parts) covered orderly none = alike_self _
    exec_alike own tried (Node at word.Logical parts) covered orderly none = alike_self _
    exec_alike own tried (Node at word.Cond parts) covered orderly none = alike_self _
    exec_alike own tried (Node at word.Seq parts) covered orderly none = alike_self _
    exec_alike own tried (Node at word.New parts) covered orderly none = alike_self _
    exec_alike own tried (Node at word.Assign parts) covered orderly none = alike_self _
    exec_alike own tried (Node at word.Await parts) covered orderly none = alike_self _
    exec_alike own tried (Node at word.Importmeta parts) covered orderly none = alike_self _
    exec_alike own tried (Node at word.Paren parts) covered orderly none = alike_self _
    exec_alike own tried (Node at word.Nonnull parts) covered orderly none = alike_self _
    exec_alike own tried (Node at word.Member parts) covered orderly none = alike_self _
    exec_alike own tried (Node at word.Chain parts) covered orderly none = alike_self _
    exec_alike own tried (Node at word.Index parts) covered orderly none = alike_self _
    exec_alike own tried (Node at word.Call parts) covered orderly none = alike_self _
    exec_alike own tried (Node at word.Template parts) covered orderly none = alike_self _
    exec_alike own tried (Node at word.Quasi parts) covered orderly none = alike_self _
    exec_alike own tried (Node at word.Spread parts) covered orderly none = alike_self _
    exec_alike own tried (Node at word.Debugger parts) covered orderly none = alike_of tried _ _ (debugger_alike own at parts)
    exec_alike own tried (Node at word.Var parts) covered orderly none = var_alike own tried at parts covered.2 orderly none
    exec_alike own tried (Node at word.Declarator parts) covered orderly none = alike_self _
    exec_alike own tried (Node at word.Type parts) covered orderly none = alike_self _
    exec_alike own tried (Node at word.Name parts) covered orderly none = alike_self _
    exec_alike own tried (Node at word.Private parts) covered orderly none = alike_self _
    exec_alike own tried (Node at word.Bigint parts) covered orderly none = alike_self _
    exec_alike own tried (Node at word.Tagged parts) covered orderly none = alike_self _
    exec_alike own tried (Node at word.Object parts) covered orderly none = alike_self _
    exec_alike own tried (Node at word.Update parts) covered orderly none = alike_self _
    exec_alike own tried (Node at word.Privatein parts) covered orderly none = alike_self _
    exec_alike own tried (Node at word.Yield parts) covered orderly none = alike_self _
    exec_alike own tried (Node at word.Newtarget parts) covered orderly none = alike_self _
    exec_alike own tried (Node at word.Super parts) covered orderly none = alike_self _
    exec_alike own tried (Node at word.This parts) covered orderly none = alike_self _
    exec_alike own tried (Node at word.Importcall parts) covered orderly none = alike_self _
    exec_alike own tried (Node at word.As parts) covered orderly none = alike_self _
    exec_alike own tried (Node at word.Satisfies parts) covered orderly none = alike_self _
    exec_alike own tried (Node at word.Assert parts) covered orderly none = alike_self _
    exec_alike own tried (Node at word.Instantiate parts) covered orderly none = alike_self _
    exec_alike own tried (Node at word.Privatemember parts) covered orderly none = alike_self _
    exec_alike own tried (Node at word.Prop parts) covered orderly none = alike_self _
    exec_alike own tried (Node at word.Default parts) covered orderly none = alike_self _
    exec_alike own tried (Node at word.Rest parts) covered orderly none = alike_self _
    exec_alike own tried (Node at word.Arraypat parts) covered orderly none = alike_self _
    exec_alike own tried (Node at word.Objectpat parts) covered orderly none = alike_self _
    exec_alike own tried (Node at word.Defaultpat parts) covered orderly none = alike_self _
    exec_alike own tried (Node at word.Keyedpat parts) covered orderly none = alike_self _
    exec_alike own tried (Node at word.Arraytarget parts) covered orderly none = alike_self _
    exec_alike own tried (Node at word.Objecttarget parts) covered orderly none = alike_self _
    exec_alike own tried (Node at word.Short parts) covered orderly none = alike_self _
    exec_alike own tried (Node at word.Keyed parts) covered orderly none = alike_self _
    exec_alike own tried (Listed parts) covered orderly none = alike_self _
    exec_alike own tried (Said text) covered orderly none = alike_self _
    exec_alike own tried (Count number) covered orderly none = alike_self _
    exec_alike own tried (Flag flag) covered orderly none = alike_self _
    exec_alike own tried Absent covered orderly none = alike_self _
    exec_alike own tried _ covered orderly none = absurd (true≢false (sym covered.0))

    block_alike : (own : Option (List ℕ)) (tried : Bool) (at : At) (parts : Pieces) → LendAlike parts → AllOrderly tried parts
        → refusals_at t.names tried (Node at word.Block parts) ≡ []
        → AreAlike tried (exec s own (Node at word.Block parts)) (exec t own (Node at word.Block parts))
    block_alike own tried at (Then (Listed statements) End) covered orderly none =
        statements_alike tried statements covered.0 orderly.0 none
    block_alike own tried at _ covered orderly none = alike_self _

    if_alike : (own : Option (List ℕ)) (tried : Bool) (at : At) (parts : Pieces) → LendAlike parts → AllOrderly tried parts
        → refusals_at t.names tried (Node at word.If parts) ≡ []
        → AreAlike tried (exec s own (Node at word.If parts)) (exec t own (Node at word.If parts))
    if_alike own tried at (Then condition (Then consequent (Then alternate End))) covered orderly none =
        let branches : List Diagnostic = refusals_at t.names tried consequent ++ refusals_at t.names tried alternate in
        let first = nil_parts branches (refusals t.names condition) none in
        let both = nil_parts (refusals_at t.names tried consequent) (refusals_at t.names tried alternate) first.0 in
        alike_bind tried (holds s condition) (holds t condition) (λ met. if met then exec s None consequent else exec s None alternate)
        (λ met. if met then exec t None consequent else exec t None alternate)
        (alike_of tried _ _ (holds_alike condition covered.0 first.1))
        (λ met. alike_if tried met _ _ _ _ (exec_alike None tried consequent covered.1.0 orderly.1.0 both.0)
        (exec_alike None tried alternate covered.1.1.0 orderly.1.1.0 both.1))
    if_alike own tried at _ covered orderly none = alike_self _

    while_alike : (own : Option (List ℕ)) (tried : Bool) (at : At) (parts : Pieces) → LendAlike parts → AllOrderly tried parts
        → refusals_at t.names tried (Node at word.While parts) ≡ []
        → AreAlike tried (exec s own (Node at word.While parts)) (exec t own (Node at word.While parts))
    while_alike own tried at (Then condition (Then body End)) covered orderly none =
        let both = nil_parts (refusals_at t.names tried body) (refusals t.names condition) none in
        alike_breakable tried _ _ (alike_loop tried _ _ (alike_while tried (holds s condition) (holds t condition) _ _
        (alike_of tried _ _ (holds_alike condition covered.0 both.1))
        (alike_body tried own (exec s None body) (exec t None body) (exec_alike None tried body covered.1.0 orderly.1.0 both.0))))
    while_alike own tried at _ covered orderly none = alike_self _

    dowhile_alike : (own : Option (List ℕ)) (tried : Bool) (at : At) (parts : Pieces) → LendAlike parts → AllOrderly tried parts
        → refusals_at t.names tried (Node at word.Dowhile parts) ≡ []
        → AreAlike tried (exec s own (Node at word.Dowhile parts)) (exec t own (Node at word.Dowhile parts))
    dowhile_alike own tried at (Then body (Then condition End)) covered orderly none =
        let both = nil_parts (refusals_at t.names tried body) (refusals t.names condition) none in
        alike_breakable tried _ _ (alike_loop tried _ _ (alike_row tried _ _ (holds s condition) (holds t condition)
        (alike_body tried own (exec s None body) (exec t None body) (exec_alike None tried body covered.0 orderly.0 both.0))
        (alike_of tried _ _ (holds_alike condition covered.1.0 both.1))))
    dowhile_alike own tried at _ covered orderly none = alike_self _

    for_alike : (own : Option (List ℕ)) (tried : Bool) (at : At) (parts : Pieces) → LendAlike parts → AllOrderly tried parts
        → refusals_at t.names tried (Node at word.For parts) ≡ []
        → AreAlike tried (exec s own (Node at word.For parts)) (exec t own (Node at word.For parts))
    for_alike own tried at (Then init (Then condition (Then update (Then body End)))) covered orderly none =
        let all = for_none tried at init condition update body none in
        meant_alike tried (has_meaning init condition) init condition update body own refl covered.0 covered.1.0 covered.1.1.0 orderly.0
        all.0 all.1 all.2 (exec_alike None tried body covered.1.1.1.0 orderly.1.1.1.0 all.3)
    for_alike own tried at _ covered orderly none = alike_self _

    forin_alike : (own : Option (List ℕ)) (tried : Bool) (at : At) (parts : Pieces) → HasFormedParts word.Forin parts → LendAlike parts
        → AllOrderly tried parts → refusals_at t.names tried (Node at word.Forin parts) ≡ []
        → AreAlike tried (exec s own (Node at word.Forin parts)) (exec t own (Node at word.Forin parts))
    forin_alike own tried at (Then head (Then right (Then body End))) whole covered orderly none =
        let turn = turn_none tried head right body none in
        alike_bind tried (eval s right) (eval t right) _ _ (alike_of tried _ _ (value_alike right covered.1.0 turn.1)) (λ collection.
        alike_breakable tried _ _ (alike_loop tried _ _
        (turn_alike tried own head body (next_key collection) (λ v. head_alike tried head v whole covered.0 orderly.0 turn.2)
        (exec_alike None tried body covered.1.1.0 orderly.1.1.0 turn.0))))
    forin_alike own tried at _ whole covered orderly none = alike_self _

    forof_alike : (own : Option (List ℕ)) (tried : Bool) (at : At) (parts : Pieces) → HasFormedParts word.Forof parts → LendAlike parts
        → AllOrderly tried parts → refusals_at t.names tried (Node at word.Forof parts) ≡ []
        → AreAlike tried (exec s own (Node at word.Forof parts)) (exec t own (Node at word.Forof parts))
    forof_alike own tried at (Then (Flag false) (Then head (Then right (Then body End)))) whole covered orderly none =
        let turn = turn_none tried head right body none in
        alike_bind tried (eval s right) (eval t right) _ _ (alike_of tried _ _ (value_alike right covered.1.1.0 turn.1)) (λ collection.
        alike_bind tried (ask s (get_iterator collection)) (ask t (get_iterator collection)) _ _ (alike_self _) (λ iterator.
        alike_breakable tried _ _ (alike_loop tried _ _
        (turn_alike tried own head body (next_of iterator collection)
        (λ v. head_alike tried head v whole covered.1.0 orderly.1.0 turn.2)
        (exec_alike None tried body covered.1.1.1.0 orderly.1.1.1.0 turn.0)))))
    forof_alike own tried at _ whole covered orderly none = alike_self _

    labeled_alike : (own : Option (List ℕ)) (tried : Bool) (at : At) (parts : Pieces) → LendAlike parts → AllOrderly tried parts
        → refusals_at t.names tried (Node at word.Labeled parts) ≡ []
        → AreAlike tried (exec s own (Node at word.Labeled parts)) (exec t own (Node at word.Labeled parts))
    labeled_alike own tried at (Then (Said label) (Then body End)) covered orderly none =
        alike_labeled tried label (exec s (Some label) body) (exec t (Some label) body)
        (exec_alike (Some label) tried body covered.1.0 orderly.1.0 none)
    labeled_alike own tried at _ covered orderly none = alike_self _

    statements_alike : (tried : Bool) (statements : Pieces) → LendAlike statements → AllOrderly tried statements
        → refusals_among t.names tried statements ≡ [] → AreAlike tried (exec_all s statements) (exec_all t statements)
    statements_alike tried End covered orderly none = alike_self _
    statements_alike tried (Then statement statements) covered orderly none =
        let both = nil_parts (refusals_at t.names tried statement) (refusals_among t.names tried statements) none in
        alike_row tried (exec s None statement) (exec t None statement) (exec_all s statements) (exec_all t statements)
        (exec_alike None tried statement covered.0 orderly.0 both.0) (statements_alike tried statements covered.1 orderly.1 both.1)

    try_alike : (own : Option (List ℕ)) (tried : Bool) (at : At) (parts : Pieces) → LendAlike parts → Orderly tried (Node at word.Try parts)
        → refusals_at t.names tried (Node at word.Try parts) ≡ []
        → AreAlike tried (exec s own (Node at word.Try parts)) (exec t own (Node at word.Try parts))
    try_alike own tried at (Then block (Then (Node there word.Catch (Then param (Then body End))) (Then finalizer End))) covered orderly
        none =
        let ahead : List Diagnostic = said_of_finalizer at.span finalizer ++ refusals t.names param in
        let first = nil_parts (ahead ++ refusals_at t.names tried body) (refusals_at t.names true block) none in
        let second = nil_parts ahead (refusals_at t.names tried body) first.0 in
        let third = nil_parts (said_of_finalizer at.span finalizer) (refusals t.names param) second.0 in
        alike_if tried (shapes.is_absent finalizer) _ _ no_meaning no_meaning
        (alike_catching tried (exec s None block) (exec t None block) (λ v. bind s true param v >> exec s None body)
        (λ v. bind t true param v >> exec t None body) (exec_alike None true block covered.0 orderly.0 first.1) (λ v.
        alike_row tried (bind s true param v) (bind t true param v) (exec s None body) (exec t None body)
        (pattern_alike tried true param v covered.1.0.1.formed covered.1.0.2.0 third.1 orderly.1.0.0)
        (exec_alike None tried body covered.1.0.2.1.0 orderly.1.0.1.0 second.1)))
        (alike_self no_meaning)
    try_alike own tried at _ covered orderly none = alike_self _

    switch_alike : (own : Option (List ℕ)) (tried : Bool) (at : At) (parts : Pieces) → LendAlike parts → AllOrderly tried parts
        → refusals_at t.names tried (Node at word.Switch parts) ≡ []
        → AreAlike tried (exec s own (Node at word.Switch parts)) (exec t own (Node at word.Switch parts))
    switch_alike own tried at (Then discriminant (Then (Listed cases) End)) covered orderly none =
        let told = nil_parts (refusals_in_cases t.names tried cases) (refusals t.names discriminant) none in
        let accepted = told.0 in
        alike_then
        (alike_bind tried (eval_tests s cases) (eval_tests t cases) _ _ (alike_of tried _ _ (tests_alike tried cases covered.1.0 accepted))
        (λ vs. alike_bind tried (eval s discriminant) (eval t discriminant) _ _
        (alike_of tried _ _ (value_alike discriminant covered.0 told.1))
        (λ v. alike_breakable tried _ _ (compared_alike tried cases covered.1.0 orderly.1.0 accepted v vs _ _
        (default_alike tried cases covered.1.0 orderly.1.0 accepted)))))
        (alike_of tried _ _ (switched t assigned closed discriminant cases (cases_steady tried cases covered.1.0 accepted)
        (eval_keeps t assigned closed discriminant covered.0) (exec_default t cases)
        ∙ sym (ap (λ (ported : Bool).
        if ported then (do
          vs ← eval_tests t cases
          v ← eval t discriminant
          breakable (try_cases t cases v vs (exec_default t cases)))
        else (do
          v ← eval t discriminant
          breakable (try_cases t cases v [] (exec_default t cases)))) written)))
    switch_alike own tried at _ covered orderly none = alike_self _

    -- The statements of a case and of all behind it.
    cases_alike : (tried : Bool) (cases : Pieces) → LendAlike cases → AllOrderly tried cases → refusals_in_cases t.names tried cases ≡ []
        → AreAlike tried (exec_cases s cases) (exec_cases t cases)
    cases_alike tried (Then (Node at word.Case (Then condition (Then (Listed statements) End))) cases) covered orderly none =
        let both = nil_parts (refusals_in_cases t.names tried cases)
        (refusals_among t.names tried statements ++ said_of_moved t.names condition ++ refusals t.names condition) none in
        let own = case_none tried condition statements both.1 in
        alike_row tried (exec_all s statements) (exec_all t statements) (exec_cases s cases) (exec_cases t cases)
        (statements_alike tried statements covered.0.2.1.0 orderly.0.1.0 own.0) (cases_alike tried cases covered.1 orderly.1 both.0)
    cases_alike tried _ covered orderly none = alike_self _

    default_alike : (tried : Bool) (cases : Pieces) → LendAlike cases → AllOrderly tried cases
        → refusals_in_cases t.names tried cases ≡ [] → AreAlike tried (exec_default s cases) (exec_default t cases)
    default_alike tried (Then (Node at word.Case (Then Absent (Then (Listed statements) End))) cases) covered orderly none =
        let both = nil_parts (refusals_in_cases t.names tried cases) (refusals_among t.names tried statements ++ [] ++ []) none in
        let own = case_none tried Absent statements both.1 in
        alike_row tried (exec_all s statements) (exec_all t statements) (exec_cases s cases) (exec_cases t cases)
        (statements_alike tried statements covered.0.2.1.0 orderly.0.1.0 own.0) (cases_alike tried cases covered.1 orderly.1 both.0)
    default_alike tried (Then case cases) covered orderly none =
        default_alike tried cases covered.1 orderly.1
        (nil_parts (refusals_in_cases t.names tried cases) (refusals_in_case t.names tried case) none).0
    default_alike tried End covered orderly none = alike_self _

    -- A value is compared with the tests.
    compared_alike : (tried : Bool) (cases : Pieces) → LendAlike cases → AllOrderly tried cases
        → refusals_in_cases t.names tried cases ≡ [] → (v : Value) (vs : List (Option Value)) (other more : Action (Unit {0}))
        → AreAlike tried other more → AreAlike tried (try_cases s cases v vs other) (try_cases t cases v vs more)
    compared_alike tried (Then (Node at word.Case (Then Absent parts)) cases) covered orderly none v vs other more same =
        compared_alike tried cases covered.1 orderly.1 (cases_none tried (Node at word.Case (Then Absent parts)) cases none).0 v
        (later_tests vs) other more same
    compared_alike tried (Then (Node at word.Case (Then (Node there w ps) (Then (Listed statements) End))) cases) covered orderly none v vs
        other more same =
        let both = nil_parts (refusals_in_cases t.names tried cases)
        (refusals_among t.names tried statements ++ said_of_moved t.names (Node there w ps) ++ refusals t.names (Node there w ps)) none in
        let own = case_none tried (Node there w ps) statements both.1 in
        alike_bind tried (known_or (first_test vs) (eval s (Node there w ps))) (known_or (first_test vs) (eval t (Node there w ps))) _ _
        (alike_of tried _ _ (λ i. known_or (first_test vs) (value_alike (Node there w ps) covered.0.2.0 own.1 i))) (λ x.
        alike_bind tried (test s (matches v x)) (test t (matches v x))
        (λ met. if met then (exec_all s statements >> exec_cases s cases) else try_cases s cases v (later_tests vs) other)
        (λ met. if met then (exec_all t statements >> exec_cases t cases) else try_cases t cases v (later_tests vs) more) (alike_self _)
        (λ met. alike_if tried met _ _ _ _
        (alike_row tried (exec_all s statements) (exec_all t statements) (exec_cases s cases) (exec_cases t cases)
        (statements_alike tried statements covered.0.2.1.0 orderly.0.1.0 own.0) (cases_alike tried cases covered.1 orderly.1 both.0))
        (compared_alike tried cases covered.1 orderly.1 both.0 v (later_tests vs) other more same)))
    compared_alike tried (Then (Node at word.Case (Then (Listed ps) parts)) cases) covered orderly none v vs other more same =
        absurd (no_test (Listed ps) covered.0.1.formed)
    compared_alike tried (Then (Node at word.Case (Then (Said text) parts)) cases) covered orderly none v vs other more same =
        absurd (no_test (Said text) covered.0.1.formed)
    compared_alike tried (Then (Node at word.Case (Then (Count number) parts)) cases) covered orderly none v vs other more same =
        absurd (no_test (Count number) covered.0.1.formed)
    compared_alike tried (Then (Node at word.Case (Then (Flag flag) parts)) cases) covered orderly none v vs other more same =
        absurd (no_test (Flag flag) covered.0.1.formed)
    compared_alike tried _ covered orderly none v vs other more same = same

  -- The body of an arrow function that is an expression: its value is returned.
  abbrev given_back : Scene → Action Value → Action (Unit {0})
  given_back scene action = do
    v ← action
    return_with scene returns.Implicit v

  returned_alike : (e : Syntax) → LendsAlike e → refusals t.names e ≡ [] → given_back s (eval s e) ≡ given_back t (eval t e)
  returned_alike e covered none = λ i. given_back t (value_alike e covered none i)

  body_alike : (e : Syntax) → LendsAlike e → Orderly false e → refusals_in_body t.names e ≡ []
      → AreAlike false (run_body s e) (run_body t e)
  body_alike (Node at word.Body (Then directives (Then (Listed statements) End))) covered orderly none =
      alike_row false (exec_all s statements) (exec_all t statements) (return_with s returns.Void value.Undefined)
      (return_with t returns.Void value.Undefined) (statements_alike false statements covered.2.1.0 orderly.1.0 none) (alike_self _)
  body_alike e covered orderly none = alike_of false _ _ (returned_alike e covered none)

  function_alike : (f : Syntax) → LendsAlike (params_in f) → LendsAlike (body_in f)
      → is_orderly_pattern t.names opens false (params_in f) ≡ true → Orderly false (body_in f) → refusals t.names (params_in f) ≡ []
      → refusals_in_body t.names (body_in f) ≡ [] → (start : List Assignment) (arguments : List Value) (answers : List Answer)
      → run_function s f start arguments answers ≡ run_function t f start arguments answers
  function_alike f params body first second none also start arguments answers = λ i.
      (alike_row false (take_params s (params_in f) arguments) (take_params t (params_in f) arguments) (run_body s (body_in f))
      (run_body t (body_in f))
      (params_alike t stored assigned closed written late opens (params_in f) arguments params none first)
      (body_alike (body_in f) body second also)).same i outside (λ end store answers. waiting) (set_all start unset) answers

-- Two worlds that share nothing are one.
one_world : (a b : World) → SharesNothing a → SharesNothing b → a ≡ b
one_world a b none_a none_b = λ i. record {
  opens = λ symbol. (none_a.opens symbol ∙ sym (none_b.opens symbol)) i;
  keeps = (none_a.keeps ∙ sym none_b.keeps) i;
}

-- The parameters of a function that fits the grammar.

abbrev flag : Field
flag = field.One kind.Flag

abbrev name : Field
name = field.Maybe kind.BindingIdentifier

abbrev params : Field
params = field.One kind.FormalParameters

abbrev arrow_body : Field
arrow_body = field.One kind.ArrowBody

abbrev body : Field
body = field.Maybe kind.FunctionBody

abbrev given_body : Field
given_body = field.One kind.FunctionBody

arrow_params : (at : At) (ps : Pieces) → each (Some (flag ∷ flag ∷ params ∷ arrow_body ∷ [])) ps ≡ true
    → fits params (params_in (Node at word.Arrow ps)) ≡ true
arrow_params at ps h =
    let form = four_form ps (arity_four flag flag params arrow_body ps h) in
    let fit = four_fit ps form.0 form.1 form.2 form.3 form.4 flag flag params arrow_body h in
    subst (λ (ps : Pieces). fits params (params_in (Node at word.Arrow ps)) ≡ true) (sym form.4) fit.2

declaration_params : (at : At) (ps : Pieces) → each (Some (flag ∷ flag ∷ flag ∷ name ∷ params ∷ body ∷ [])) ps ≡ true
    → fits params (params_in (Node at word.Fundecl ps)) ≡ true
declaration_params at ps h =
    let form = six_form ps (arity_six flag flag flag name params body ps h) in
    let fit = six_fit ps form.0 form.1 form.2 form.3 form.4 form.5 form.6 flag flag flag name params body h in
    subst (λ (ps : Pieces). fits params (params_in (Node at word.Fundecl ps)) ≡ true) (sym form.6) fit.4

expression_params : (at : At) (ps : Pieces) → each (Some (flag ∷ flag ∷ flag ∷ name ∷ params ∷ given_body ∷ [])) ps ≡ true
    → fits params (params_in (Node at word.Funexpr ps)) ≡ true
expression_params at ps h =
    let form = six_form ps (arity_six flag flag flag name params given_body ps h) in
    let fit = six_fit ps form.0 form.1 form.2 form.3 form.4 form.5 form.6 flag flag flag name params given_body h in
    subst (λ (ps : Pieces). fits params (params_in (Node at word.Funexpr ps)) ≡ true) (sym form.6) fit.4

params_fit : (f : Syntax) → is_function f ≡ true → IsCoveredFunction f → fits params (params_in f) ≡ true
params_fit (Node at word.Arrow ps) h covered = arrow_params at ps h
params_fit (Node at word.Fundecl ps) h covered = declaration_params at ps h
params_fit (Node at word.Funexpr ps) h covered = expression_params at ps h
params_fit _ h covered = absurd covered

body_fits : (f : Syntax) → is_function f ≡ true → IsCoveredFunction f → IsFormed (body_in f)
body_fits (Node at word.Arrow ps) h covered =
    let form = four_form ps (arity_four flag flag params arrow_body ps h) in
    let fit = four_fit ps form.0 form.1 form.2 form.3 form.4 flag flag params arrow_body h in
    subst (λ (ps : Pieces). IsFormed (body_in (Node at word.Arrow ps))) (sym form.4) (formed_in arrow_body form.3 fit.3)
body_fits (Node at word.Fundecl ps) h covered =
    let form = six_form ps (arity_six flag flag flag name params body ps h) in
    let fit = six_fit ps form.0 form.1 form.2 form.3 form.4 form.5 form.6 flag flag flag name params body h in
    subst (λ (ps : Pieces). IsFormed (body_in (Node at word.Fundecl ps))) (sym form.6) (formed_in body form.5 fit.5)
body_fits (Node at word.Funexpr ps) h covered =
    let form = six_form ps (arity_six flag flag flag name params given_body ps h) in
    let fit = six_fit ps form.0 form.1 form.2 form.3 form.4 form.5 form.6 flag flag flag name params given_body h in
    subst (λ (ps : Pieces). IsFormed (body_in (Node at word.Funexpr ps))) (sym form.6) (formed_in given_body form.5 fit.5)
body_fits _ h covered = absurd covered

-- The marked function of a unit has one trace as it is ported and as it is written, if it is covered and orderly, and has no refusals: the
-- test of a `switch` that is no whole number has no meaning, so a run would wait where it meets the test.
pub runs_alike : (u : Syntax) (pick : (bind : ℕ) → Option SymbolId) → is_function (marked u) ≡ true → IsCoveredFunction (marked u)
    → IsEarly (ported_scene u pick (marked u)) → refusals_of (names_of u) (marked u) ≡ [] → is_orderly u None ≡ true
    → (start : List Assignment) (arguments : List Value) (answers : List Answer)
    → run_function (ported_scene u pick (marked u)) (marked u) start arguments answers
    ≡ run_function (written_scene u (marked u)) (marked u) start arguments answers
runs_alike u pick h covered early accepted orderly start arguments answers =
    let f : Syntax = marked u in
    let t : Scene = written_scene u f in
    let count = length (symbols_in u) in
    let own = source_alone (names_of u) count (names_of u).declared f covered in
    let worlds : world_of (names_of u) count pick f f ≡ world_of (names_of u) count (names_of u).declared f f =
    one_world _ _ (source_alone (names_of u) count pick f covered) own in
    let none = nil_parts (refusals (names_of u) (params_in f)) (refusals_in_body (names_of u) (body_in f)) accepted in
    let lends = function_lends u covered (formed_in params (params_in f) (params_fit f h covered)) (body_fits f h covered) orderly in
    let fine = function_orderly u orderly in
    let first : (everywhere : Bool) (bind : ℕ) → (ported_scene u pick f).takes_early everywhere bind ≡ true = early in
    (λ i. run_function
    (record t { world = worlds i; stored = pick; ported = true; takes_early = λ everywhere bind. first everywhere bind i })
    f start arguments answers)
    ∙ function_alike t pick (assigned_of u) own.opens refl (λ everywhere bind. refl) (is_open (names_of u) f f) f lends.0 lends.1
    fine.0 fine.1 none.0 none.1 start arguments answers

-- A graph with the port's run of such a function has the run as it is written.
pub same_as_written : (u : Syntax) (pick : (bind : ℕ) → Option SymbolId) → is_function (marked u) ≡ true → IsCoveredFunction (marked u)
    → IsEarly (ported_scene u pick (marked u)) → refusals_of (names_of u) (marked u) ≡ []
    → (world : World) (f : Function) (pairs : List Pair) → SameRuns (ported_scene u pick (marked u)) (marked u) world f pairs
    → is_orderly u None ≡ true → SameRuns (written_scene u (marked u)) (marked u) world f pairs
same_as_written u pick h covered early accepted world f pairs same orderly start arguments answers =
    same start arguments answers ∙ runs_alike u pick h covered early accepted orderly start arguments answers
