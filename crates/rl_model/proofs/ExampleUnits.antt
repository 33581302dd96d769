-- The parts of small units on which the definitions are tried, and what the definitions say of their marked functions.
use Rattle.std.proofs.Common.{ℕ, ◌+◌, true, false, List, [], ◌∷◌, map, codes}
use Rattle.rl_base.specs.declared.span.Span.{Span}
use Rattle.rl_machine.specs.declared.trace.Answer.{Answer}
use Rattle.rl_machine.specs.declared.trace.AnswerKind.{AnswerKind}
use Rattle.rl_machine.specs.declared.trace.Assignment.{Assignment}
use Rattle.rl_machine.specs.declared.trace.Event.{Event}
use Rattle.rl_machine.specs.declared.trace.Trace.{Trace}
use Rattle.rl_machine.specs.declared.trace.Value.{Value}
use Rattle.rl_machine.specs.declared.trace.Value.TheVariants as value
use Rattle.rl_model.specs.Events.{event, global}
use Rattle.rl_model.specs.Functions.{run_function}
use Rattle.rl_model.specs.Marked.{marked}
use Rattle.rl_model.specs.Scenes.{written_scene}
use Rattle.rl_syntax.specs.Syntax.{Syntax, Node, Listed, Said, Flag, Absent, Pieces, End, Then, is_reference, nodes, nodes_of, one_if, pieces_of, references, scopes}
use Rattle.rl_syntax.specs.Words.{makes_scope}
use Rattle.rl_syntax.specs.declared.word.Word.{Word}
use Rattle.rl_syntax.specs.declared.word.Word.TheVariants as word

abbrev pub span : (start : ℕ) → Span
span start = record { start = start; end = start + 1 }

-- A node that stands at a byte, and has no ids yet.
abbrev pub node : (start : ℕ) → Word → List Syntax → Syntax
node start w parts = Node (record { id = record { 0 = start }; end = record { 0 = start + 1 }; scope = record { 0 = 0 }; reference = record { 0 = 0 }; span = span start }) w (pieces_of parts)

abbrev pub name : (start : ℕ) (text : List ℕ) → Syntax
name start text = node start word.Id (Said text ∷ [])

abbrev pub called : (start : ℕ) (callee : Syntax) (given : List Syntax) → Syntax
called start callee given = node start word.Call (Flag false ∷ callee ∷ Listed (pieces_of given) ∷ [])

abbrev pub param : (name : List ℕ) → Syntax
param name = node 5 word.Param (node 6 word.Bind (Said name ∷ Absent ∷ []) ∷ Absent ∷ [])

abbrev pub params : (names : List (List ℕ)) → Syntax
params names = node 4 word.Params (Listed (pieces_of (map param names)) ∷ Absent ∷ [])

abbrev pub body : (directives : List (List ℕ)) (statements : List Syntax) → Syntax
body directives statements = node 10 word.Body (Listed (pieces_of (map (λ text. Said text) directives)) ∷ Listed (pieces_of statements) ∷ [])

-- A marked arrow function, of a body of any form, and of statements.
abbrev pub arrow : (names : List (List ℕ)) (body : Syntax) → Syntax
arrow names body = node 3 word.Arrow (Flag true ∷ Flag false ∷ params names ∷ body ∷ [])

abbrev pub function : (names : List (List ℕ)) (statements : List Syntax) → Syntax
function names statements = arrow names (body [] statements)

abbrev mutual
  -- A tree whose nodes, scopes and references have ids from the given ones on.
  pub numbered : (id scope reference : ℕ) → Syntax → Syntax
  numbered n s r (Node at w parts) = Node (record { id = record { 0 = n }; end = record { 0 = n + nodes_of parts + 1 }; scope = record { 0 = s }; reference = record { 0 = r }; span = at.span }) w (numbered_all (n + 1) (s + one_if makes_scope w) (r + one_if is_reference w) parts)
  numbered n s r (Listed parts) = Listed (numbered_all n s r parts)
  numbered n s r part = part

  pub numbered_all : (id scope reference : ℕ) → Pieces → Pieces
  numbered_all n s r End = End
  numbered_all n s r (Then p ps) = Then (numbered n s r p) (numbered_all (n + nodes p) (s + scopes p) (r + references p) ps)

-- A unit of the given statements.
abbrev pub unit : List Syntax → Syntax
unit statements = numbered 0 0 0 (node 0 word.Unit (Listed End ∷ node 1 word.Program (Listed (pieces_of statements) ∷ []) ∷ []))

-- The unit in which a function is the only statement.
abbrev pub unit_of : Syntax → Syntax
unit_of f = unit (node 2 word.Expr (f ∷ []) ∷ [])

-- The trace of the marked function of a unit.
abbrev pub trace_of : Syntax → List Assignment → List Value → List Answer → Trace
trace_of u start arguments answers = run_function (written_scene u (marked u)) (marked u) start arguments answers

abbrev pub given : (number : ℕ) → Value
given number = value.Given number

abbrev pub answer : AnswerKind → (number : ℕ) → Answer
answer kind number = record { kind = kind; value = given number; pieces = []; assignments = [] }

-- Calls a function: the shape of each argument, the callee, and the arguments.
abbrev pub call : List (List ℕ) → Value → List Value → Event
call shape f arguments = event (codes "call") shape (f ∷ arguments)

-- The read of the global `f`, and the call of value 2 with value 1.

abbrev pub loads : Event
loads = global (codes "f" ∷ [])

abbrev pub calls : Event
calls = call (codes "place" ∷ []) (given 2) (given 1 ∷ [])
