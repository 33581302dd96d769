-- Heads of loops.
use Rattle.std.proofs.Common.{◌≡◌, Bool, true, false, if◌then◌else◌, List, ℕ, refl, ap, sym, ◌∙◌}
use Rattle.rl_ast.specs.StatementPartViews.{seen_variable_declaration}
use Rattle.rl_ast.specs.declared.statement_part.VariableDeclaration.{VariableDeclaration}
use Rattle.rl_base.specs.VariableKinds.{variable_text}
use Rattle.rl_grammar.specs.Grammar.{fits}
use Rattle.rl_grammar.specs.declared.kind.Field.TheVariants as field
use Rattle.rl_grammar.specs.declared.kind.Kind.TheVariants as kind
use Rattle.rl_machine.specs.declared.trace.Value.{Value}
use Rattle.rl_model.specs.Actions.{no_meaning}
use Rattle.rl_model.specs.Expressions.{assign_to}
use Rattle.rl_model.specs.Patterns.{bind}
use Rattle.rl_model.specs.Scene.{Scene}
use Rattle.rl_model.specs.Statements.{has_meaning, is_using, take_head}
use Rattle.rl_source_stack.specs.Parts.{among}
use Rattle.rl_syntax.specs.Syntax.{Syntax, Node, Said, Listed, Absent, Pieces, End, Then}
use Rattle.rl_syntax.specs.declared.numbered.At.{At}
use Rattle.rl_syntax.specs.declared.word.Word.TheVariants as word

-- A target in the head of a loop.
pub head_target : (scene : Scene) (t : Syntax) (v : Value) → fits (field.One kind.AssignmentTarget) t ≡ true
    → take_head scene t v ≡ assign_to scene t v
head_target scene (Node at word.Var parts) v h = absurd (cc)
head_target scene _ v h = refl

abbrev heading : At → (kind : List ℕ) → (declarators : Pieces) → Syntax
heading at kind declarators = Node at word.Var (Then (Said kind) (Then (Listed declarators) End))

-- A declaration in the head of a loop, by its declarators.
head_by : (scene : Scene) (v : Value) (d : VariableDeclaration) (declarators : Pieces) (t : Syntax)
    → seen_variable_declaration d ≡ t → among d.declarators.trees.now ≡ declarators
    → take_head scene t v ≡ take_head scene (heading d.at (variable_text d.kind) declarators) v
head_by scene v d declarators t is split =
    ap (λ t. take_head scene t v) (sym is) ∙ ap (λ ps. take_head scene (heading d.at (variable_text d.kind) ps) v) split

more : (scene : Scene) (v : Value) (at : At) (kind : List ℕ) (x y : Syntax) (rest : Pieces)
    → take_head scene (heading at kind (Then x (Then y rest))) v ≡ no_meaning
more scene v at kind (Node there word.Declarator (Then pattern parts)) y rest = refl
more scene v at kind _ y rest = refl

pub head_more : (d : VariableDeclaration) (t x y : Syntax) (left rest : Pieces) → seen_variable_declaration d ≡ t
    → among d.declarators.trees.now ≡ Then x left → left ≡ Then y rest
    → (scene : Scene) (v : Value) → take_head scene t v ≡ no_meaning
head_more d t x y left rest is split again scene v =
    head_by scene v d (Then x (Then y rest)) t is (split ∙ ap (Then x) again) ∙ more scene v d.at (variable_text d.kind) x y rest

using : (scene : Scene) (v : Value) (at : At) (kind : List ℕ) (x : Syntax) → is_using kind ≡ true
    → take_head scene (heading at kind (Then x End)) v ≡ no_meaning
using scene v at kind (Node there word.Declarator (Then pattern parts)) is =
    ap (λ (b : Bool). if b then no_meaning else bind scene true pattern v) is
using scene v at kind _ is = refl

pub head_using : (d : VariableDeclaration) (t x : Syntax) (left : Pieces) → seen_variable_declaration d ≡ t
    → among d.declarators.trees.now ≡ Then x left → left ≡ End → is_using (variable_text d.kind) ≡ true
    → (scene : Scene) (v : Value) → take_head scene t v ≡ no_meaning
head_using d t x left is split ends used scene v =
    head_by scene v d (Then x End) t is (split ∙ ap (Then x) ends) ∙ using scene v d.at (variable_text d.kind) x used

pub meaning_bare : (condition : Syntax) → fits (field.One kind.Expression) condition ≡ true → has_meaning Absent condition ≡ true
meaning_bare Absent h = absurd (cc)
meaning_bare _ h = refl

pub meaning_variables : (t condition : Syntax) → fits (field.One kind.VariableDeclaration) t ≡ true
    → fits (field.One kind.Expression) condition ≡ true → has_meaning t condition ≡ true
meaning_variables t Absent h g = absurd (cc)
meaning_variables (Node at word.Var parts) _ h g = refl
meaning_variables _ _ h g = absurd (cc)

pub meaning_expression : (t condition : Syntax) → fits (field.One kind.Expression) t ≡ true
    → fits (field.One kind.Expression) condition ≡ true → has_meaning t condition ≡ false
meaning_expression t Absent h g = absurd (cc)
meaning_expression Absent _ h g = absurd (cc)
meaning_expression (Node at word.Var parts) _ h g = absurd (cc)
meaning_expression _ _ h g = refl
