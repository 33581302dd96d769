-- The nodes of a function that its graph holds once each.
use Rattle.std.specs.Prelude.{ℕ, if◌then◌else◌, List, [], ◌∷◌, codes}
use Rattle.std.specs.Str.{bytes_eq}
use Rattle.rl_base.specs.declared.span.Span.{Span}
use Rattle.rl_names.specs.Names.{at_of}
use Rattle.rl_model.specs.Code.{code_of, contains, flat}
use Rattle.rl_syntax.specs.Syntax.{Syntax, Node, Said, End, Then}
use Rattle.rl_syntax.specs.declared.word.Word.TheVariants as word

-- A node that is counted: the kinds that its instruction may have, and the span.
pub record Counted : Type 0 where
  pub node : ℕ
  pub kinds : List (List ℕ)
  pub span : Span

abbrev pub counted_as : (node : ℕ) → List (List ℕ) → Span → List Counted
counted_as node kinds span = record { node = node; kinds = kinds; span = span } ∷ []

-- The function of a method, a getter or a setter.
abbrev pub method_at : Syntax → List ℕ
method_at (Node at word.Method (Then computed (Then key (Then function End)))) = (at_of function).id.0 ∷ []
method_at (Node at word.Get (Then computed (Then key (Then function End)))) = (at_of function).id.0 ∷ []
method_at (Node at word.Set (Then computed (Then key (Then function End)))) = (at_of function).id.0 ∷ []
method_at _ = []

-- `=` has the span of its target, a compound assignment that of its own.
abbrev pub counted_at : (methods : List ℕ) → Syntax → List Counted
counted_at methods (Node at word.Call parts) = counted_as at.id.0 (codes "call" ∷ codes "methodcall" ∷ []) at.span
counted_at methods (Node at word.New parts) = counted_as at.id.0 (codes "new" ∷ []) at.span
counted_at methods (Node at word.Await parts) = counted_as at.id.0 (codes "await" ∷ []) at.span
counted_at methods (Node at word.Element parts) = counted_as at.id.0 (codes "jsx" ∷ []) at.span
counted_at methods (Node at word.Fragment parts) = counted_as at.id.0 (codes "jsxfragment" ∷ []) at.span
counted_at methods (Node at word.Arrow parts) = counted_as at.id.0 (codes "function" ∷ []) at.span
counted_at methods (Node at word.Fundecl parts) = counted_as at.id.0 (codes "function" ∷ []) at.span
counted_at methods (Node at word.Method (Then computed (Then key (Then function End)))) =
    counted_as (at_of function).id.0 (codes "objectmethod" ∷ []) at.span
counted_at methods (Node at word.Get (Then computed (Then key (Then function End)))) =
    counted_as (at_of function).id.0 (codes "objectmethod" ∷ []) at.span
counted_at methods (Node at word.Set (Then computed (Then key (Then function End)))) =
    counted_as (at_of function).id.0 (codes "objectmethod" ∷ []) at.span
counted_at methods (Node at word.Assign (Then (Said operator) (Then (Node there word.Id parts) rest))) =
    counted_as at.id.0 (codes "storeglobal" ∷ codes "storelocal" ∷ codes "storecontext" ∷ [])
    (if bytes_eq operator (codes "=") then there.span else at.span)
counted_at methods (Node at word.Funexpr parts) =
    if contains methods at.id.0 then [] else counted_as at.id.0 (codes "function" ∷ []) at.span
counted_at methods _ = []

abbrev pub counted_in : (function : Syntax) → List Counted
counted_in function = flat (counted_at (flat method_at (code_of function))) (code_of function)
