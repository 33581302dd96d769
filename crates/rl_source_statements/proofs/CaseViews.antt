-- The cases of a `switch`, by the views of the first.
use Rattle.std.proofs.Common.{◌≡◌, true, if◌then◌else◌, None, [], refl, ap, sym, ◌∙◌}
use Rattle.rl_ast.specs.StatementPartViews.{seen_switch_case}
use Rattle.rl_ast.specs.declared.statement_part.SwitchCase.{SwitchCase}
use Rattle.rl_grammar.specs.Fields.{maybe}
use Rattle.rl_grammar.specs.Grammar.{fits}
use Rattle.rl_grammar.specs.declared.kind.Field.TheVariants as field
use Rattle.rl_grammar.specs.declared.kind.Kind.TheVariants as kind
use Rattle.rl_machine.specs.Traces.{matches}
use Rattle.rl_machine.specs.declared.trace.Value.{Value}
use Rattle.rl_model.specs.Actions.{Action, ◌>>=◌, ◌>>◌, test}
use Rattle.rl_model.specs.Expressions.{eval}
use Rattle.rl_model.specs.Scene.{Scene}
use Rattle.rl_model.specs.Statements.{exec_all, exec_cases, exec_default, try_cases}
use Rattle.rl_source_stack.specs.Parts.{among}
use Rattle.rl_syntax.specs.Syntax.{Syntax, Node, Listed, Absent, Pieces, End, Then, syntax}
use Rattle.rl_syntax.specs.declared.numbered.At.{At}
use Rattle.rl_syntax.specs.declared.word.Word.TheVariants as word

abbrev case_with : At → (test : Syntax) → (statements : Pieces) → Syntax
case_with at test statements = Node at word.Case (Then test (Then (Listed statements) End))

-- A case with a test, in the search for the one without.
default_test : (scene : Scene) (at : At) (x : Syntax) (statements cases : Pieces) → fits (field.One kind.Expression) x ≡ true
    → exec_default scene (Then (case_with at x statements) cases) ≡ exec_default scene cases
default_test scene at Absent statements cases h = absurd (cc)
default_test scene at _ statements cases h = refl

-- A case with a test, in the search for the first that matches, and the cases behind it.
abbrev pub trying_test : Scene → (x : Syntax) → (statements cases : Pieces) → Value → (other : Action (Unit {0})) → Action (Unit {0})
trying_test scene x statements cases v other = do
  w ← eval scene x
  same ← test scene (matches v w)
  if same then (do exec_all scene statements; exec_cases scene cases) else try_cases scene cases v [] other

try_test : (scene : Scene) (at : At) (x : Syntax) (statements cases : Pieces) (v : Value) (other : Action (Unit {0}))
    → fits (field.One kind.Expression) x ≡ true
    → try_cases scene (Then (case_with at x statements) cases) v [] other ≡ trying_test scene x statements cases v other
try_test scene at Absent statements cases v other h = absurd (cc)
try_test scene at _ statements cases v other h = refl

abbrev seen_with : SwitchCase → (test : Syntax) → Syntax
seen_with case test = case_with case.at test (among case.consequent.trees.now)

pub default_found : (scene : Scene) (case : SwitchCase) (all left : Pieces) (first : Syntax) → all ≡ Then first left
    → seen_switch_case case ≡ first → case.test ≡ None
    → exec_default scene all ≡ (do exec_all scene (among case.consequent.trees.now); exec_cases scene left)
default_found scene case all left first split is none =
    ap (exec_default scene) split
    ∙ ap (λ t. exec_default scene (Then t left)) (sym is)
    ∙ ap (λ o. exec_default scene (Then (seen_with case (maybe o (λ t. syntax t.tree.now))) left)) none

pub default_later : (scene : Scene) (case : SwitchCase) (all left : Pieces) (first x : Syntax) → all ≡ Then first left
    → seen_switch_case case ≡ first → maybe case.test (λ t. syntax t.tree.now) ≡ x → fits (field.One kind.Expression) x ≡ true
    → exec_default scene all ≡ exec_default scene left
default_later scene case all left first x split is some h =
    ap (exec_default scene) split
    ∙ ap (λ t. exec_default scene (Then t left)) (sym is)
    ∙ ap (λ t. exec_default scene (Then (seen_with case t) left)) some
    ∙ default_test scene case.at x (among case.consequent.trees.now) left h

pub try_default : (scene : Scene) (case : SwitchCase) (all left : Pieces) (first : Syntax) (v : Value) (other : Action (Unit {0}))
    → all ≡ Then first left → seen_switch_case case ≡ first → case.test ≡ None
    → try_cases scene all v [] other ≡ try_cases scene left v [] other
try_default scene case all left first v other split is none =
    ap (λ ps. try_cases scene ps v [] other) split
    ∙ ap (λ t. try_cases scene (Then t left) v [] other) (sym is)
    ∙ ap (λ o. try_cases scene (Then (seen_with case (maybe o (λ t. syntax t.tree.now))) left) v [] other) none

pub try_first : (scene : Scene) (case : SwitchCase) (all left : Pieces) (first x : Syntax) (v : Value) (other : Action (Unit {0}))
    → all ≡ Then first left → seen_switch_case case ≡ first → maybe case.test (λ t. syntax t.tree.now) ≡ x
    → fits (field.One kind.Expression) x ≡ true
    → try_cases scene all v [] other ≡ trying_test scene x (among case.consequent.trees.now) left v other
try_first scene case all left first x v other split is some h =
    ap (λ ps. try_cases scene ps v [] other) split
    ∙ ap (λ t. try_cases scene (Then t left) v [] other) (sym is)
    ∙ ap (λ t. try_cases scene (Then (seen_with case t) left) v [] other) some
    ∙ try_test scene case.at x (among case.consequent.trees.now) left v other h

pub cases_first : (scene : Scene) (case : SwitchCase) (all left : Pieces) (first : Syntax) → all ≡ Then first left
    → seen_switch_case case ≡ first
    → exec_cases scene all ≡ (do exec_all scene (among case.consequent.trees.now); exec_cases scene left)
cases_first scene case all left first split is = ap (exec_cases scene) split ∙ ap (λ t. exec_cases scene (Then t left)) (sym is)
