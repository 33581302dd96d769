-- Tests of cases that may not be evaluated in another place (row F29): the lowering evaluates each as if in front of the `switch`.
use Rattle.std.specs.Prelude.{ℕ, Bool, true, false, if◌then◌else◌, List, [], ◌∷◌, codes}
use Rattle.rl_base.specs.Diagnostics.{diagnostic_at}
use Rattle.rl_base.specs.declared.diagnostic.Diagnostic.{Diagnostic}
use Rattle.rl_base.specs.declared.row.Row.TheVariants as row
use Rattle.rl_model.specs.Applied.{Facts}
use Rattle.rl_model.specs.Supported.{is_reorderable}
use Rattle.rl_names.specs.Names.{Names}
use Rattle.rl_syntax.specs.Syntax.{Syntax, Node}
use Rattle.rl_syntax.specs.declared.word.Word.{Word}
use Rattle.rl_syntax.specs.declared.word.Word.TheVariants as word

-- The names of a unit, as the properties of names of which `is_reorderable` asks `is_module` alone. The others are false of all names.
abbrev pub module_facts : Names → Facts
module_facts names = record {
  names = names;
  is_const = λ symbol. false;
  is_context = λ node symbol. false;
  is_global = λ reference. false;
  is_variable = λ bind. false;
  is_lost = λ bind. false;
  is_bound = λ name. false;
  is_module = names.is_module;
  is_dead = λ node. false;
}

-- True of an expression that may be evaluated in another place; local names may stand in it. True where it is absent.
abbrev pub may_move : Names → Syntax → Bool
may_move names expression = is_reorderable (module_facts names) true expression

-- The type of an expression, as row F29 names it, by the expression's word. Empty where an expression of the word always may move.
abbrev pub type_name : Word → List ℕ
type_name word.Member = codes "MemberExpression"
type_name word.Index = codes "MemberExpression"
type_name word.Privatemember = codes "MemberExpression"
type_name word.Chain = codes "OptionalMemberExpression"
type_name word.Binary = codes "BinaryExpression"
type_name word.Privatein = codes "BinaryExpression"
type_name word.Importcall = codes "Import"
type_name word.Importmeta = codes "MetaProperty"
type_name word.Newtarget = codes "MetaProperty"
type_name word.Cond = codes "ConditionalExpression"
type_name word.Seq = codes "SequenceExpression"
type_name word.Assign = codes "AssignmentExpression"
type_name word.Template = codes "TemplateLiteral"
type_name word.Tagged = codes "TaggedTemplateExpression"
type_name word.Arrow = codes "ArrowFunctionExpression"
type_name word.Funexpr = codes "FunctionExpression"
type_name word.Classexpr = codes "ClassExpression"
type_name word.Super = codes "Super"
type_name word.This = codes "ThisExpression"
type_name word.Paren = codes "ParenthesizedExpression"
type_name word.Element = codes "JSXElement"
type_name word.Fragment = codes "JSXFragment"
type_name word.As = codes "TSAsExpression"
type_name word.Satisfies = codes "TSSatisfiesExpression"
type_name word.Assert = codes "TSTypeAssertion"
type_name word.Nonnull = codes "TSNonNullExpression"
type_name word.Instantiate = codes "TSInstantiationExpression"
type_name word.Call = codes "CallExpression"
type_name word.New = codes "NewExpression"
type_name word.Array = codes "ArrayExpression"
type_name word.Object = codes "ObjectExpression"
type_name word.Unary = codes "UnaryExpression"
type_name word.Update = codes "UpdateExpression"
type_name word.Logical = codes "LogicalExpression"
type_name word.Await = codes "AwaitExpression"
type_name word.Yield = codes "YieldExpression"
type_name _ = []

-- The diagnostics of the test of a case by itself, which may be absent: F29 where it may not be evaluated in another place.
abbrev pub said_of_moved : Names → (condition : Syntax) → List Diagnostic
said_of_moved names (Node at w parts) =
    if may_move names (Node at w parts) then [] else diagnostic_at row.F29 (type_name w) at.span ∷ []
said_of_moved names condition = []
