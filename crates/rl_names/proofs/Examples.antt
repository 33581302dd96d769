-- The definitions, tried on a small unit: the names and the parameters of its marked function.
use Rattle.std.proofs.Common.{◌≡◌, ℕ, ◌+◌, None, Some, List, [], ◌∷◌, false, true, codes, map, refl}
use Rattle.rl_ast.specs.Marked.{first, marked_functions}
use Rattle.rl_bindings.specs.Tables.{scopes_in, symbols_in}
use Rattle.rl_hir.specs.declared.instruction.NonLocalBinding.TheVariants.{Global}
use Rattle.rl_semantic.specs.Rules.{least_broken}
use Rattle.rl_syntax.specs.Syntax.{Syntax, Node, Listed, Said, Flag, Absent, pieces_of}
use Rattle.rl_syntax.specs.declared.numbered.At.{At}
use Rattle.rl_syntax.specs.declared.word.Word.TheVariants as word
use Rattle.rl_names.specs.Functions.{parameters_of}
use Rattle.rl_names.specs.Names.{Names, at_of, function_names, is_local}
use Rattle.rl_names.specs.declared.names.Meaning.TheVariants.{Local, Outer}

-- Ids of a node: its own, that behind its last, and those of the next scope and the next reference. Spans are empty here.
abbrev at : (id end scope reference : ℕ) → At
at id end scope reference = record { id = record { 0 = id }; end = record { 0 = end }; scope = record { 0 = scope }; reference = record { 0 = reference }; span = record { start = 0; end = 0 } }

abbrev param : (id : ℕ) → (name : List ℕ) → Syntax
param id name = Node (at id (id + 2) 2 0) word.Param (pieces_of (Node (at (id + 1) (id + 2) 2 0) word.Bind (pieces_of (Said name ∷ Absent ∷ [])) ∷ Absent ∷ []))

abbrev call : (id reference : ℕ) → (name : List ℕ) → Syntax
call id reference name = Node (at id (id + 2) 2 reference) word.Expr (pieces_of (Node (at (id + 1) (id + 2) 2 reference) word.Id (pieces_of (Said name ∷ [])) ∷ []))

-- `function f(x, y) { y; f; g }`, marked.
abbrev function : Syntax
function = Node (at 2 16 1 0) word.Fundecl (pieces_of (Flag true ∷ Flag false ∷ Flag false ∷ Node (at 3 4 2 0) word.Bind (pieces_of (Said (codes "f") ∷ Absent ∷ []))
    ∷ Node (at 4 9 2 0) word.Params (pieces_of (Listed (pieces_of (param 5 (codes "x") ∷ param 7 (codes "y") ∷ [])) ∷ Absent ∷ []))
    ∷ Node (at 9 16 2 0) word.Body (pieces_of (Listed (pieces_of []) ∷ Listed (pieces_of (call 10 0 (codes "y") ∷ call 12 1 (codes "f") ∷ call 14 2 (codes "g") ∷ [])) ∷ [])) ∷ []))

abbrev unit : Syntax
unit = Node (at 0 16 0 0) word.Unit (pieces_of (Listed (pieces_of []) ∷ Node (at 1 16 0 0) word.Program (pieces_of (Listed (pieces_of (function ∷ [])) ∷ [])) ∷ []))

abbrev names : Names
names = function_names unit function

marked : first (marked_functions unit) ≡ Some function
marked = refl

kept : least_broken unit ≡ None
kept = refl

-- A parameter, the function's own name (symbol 0), and a name that nothing declares.
parameter : names.meaning 0 (codes "y") ≡ Local (record { 0 = 2 })
parameter = refl

own_name : is_local (at_of function) (scopes_in unit) (symbols_in unit) 0 ≡ false
own_name = refl

global : names.meaning 2 (codes "g") ≡ Outer (Global (codes "g"))
global = refl

symbols : map (λ p. p.symbol.0) (parameters_of names function) ≡ 1 ∷ 2 ∷ []
symbols = refl

texts : map (λ p. p.name) (parameters_of names function) ≡ codes "x" ∷ codes "y" ∷ []
texts = refl

names_of_symbols : map (λ p. names.name p.symbol.0) (parameters_of names function) ≡ codes "x" ∷ codes "y" ∷ []
names_of_symbols = refl

-- The name of the function is declared around it: it is no local variable.
pub declared : map (λ p. names.declared p) (3 ∷ 6 ∷ 8 ∷ 9 ∷ []) ≡ Some (record { 0 = 0 }) ∷ Some (record { 0 = 1 }) ∷ Some (record { 0 = 2 }) ∷ None ∷ []
declared = refl

-- The parameter's name is declared below the program's scope; the function's own name in it, and the last one nowhere.
in_module : map names.is_module (0 ∷ 1 ∷ 2 ∷ []) ≡ false ∷ true ∷ true ∷ []
in_module = refl
