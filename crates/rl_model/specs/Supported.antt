-- Supported functions: no row applies in them.
use Rattle.std.specs.Prelude.{ℕ, nat_le, Bool, true, false, ◌&&◌, ◌||◌, not, is_some, List, []}
use Rattle.std.specs.Prelude.{◌∷◌, ◌++◌}
use Rattle.std.specs.Prelude.{codes}
use Rattle.std.specs.List.{list_all, list_any}
use Rattle.std.specs.Str.{bytes_eq}
use Rattle.rl_names.specs.Functions.{body_in, params_in}
use Rattle.rl_model.specs.Code.{code_of, lowered_functions}
use Rattle.rl_context.specs.Sites.{sites_in}
use Rattle.rl_context.specs.Wrapped.{first_wrapped}
use Rattle.rl_model.specs.Dead.{dead_parts}
use Rattle.rl_model.specs.Fbt.{keeps_fbt}
use Rattle.rl_model.specs.Applied.{Facts, Which, rows_in, top}
use Rattle.rl_syntax.specs.Syntax.{Syntax, Node, Listed, Said, Flag, Absent, Pieces, End, Then}
use Rattle.rl_syntax.specs.declared.word.Word.TheVariants as word

abbrev mutual
  -- An expression that may be evaluated in another place (row F29); `locals` is true where local names may stand in it.
  pub is_reorderable : Facts → (locals : Bool) → Syntax → Bool
  is_reorderable f locals Absent = true
  is_reorderable f locals (Node at word.Null parts) = true
  is_reorderable f locals (Node at word.Bool parts) = true
  is_reorderable f locals (Node at word.Num parts) = true
  is_reorderable f locals (Node at word.Str parts) = true
  is_reorderable f locals (Node at word.Bigint parts) = true
  is_reorderable f locals (Node at word.Regexp parts) = true
  is_reorderable f locals (Node at word.Id parts) = f.is_module at.reference.0 || locals
  is_reorderable f locals (Node at word.Unary (Then (Said operator) (Then argument End))) =
      (bytes_eq operator (codes "!") || bytes_eq operator (codes "+") || bytes_eq operator (codes "-")) && is_reorderable f locals argument
  is_reorderable f locals (Node at word.Logical (Then operator (Then left (Then right End)))) =
      is_reorderable f locals left && is_reorderable f locals right
  is_reorderable f locals (Node at word.Cond (Then condition (Then consequent (Then alternate End)))) =
      is_reorderable f locals condition && is_reorderable f locals consequent && is_reorderable f locals alternate
  is_reorderable f locals (Node at word.Paren (Then expression End)) = is_reorderable f locals expression
  is_reorderable f locals (Node at word.As (Then expression parts)) = is_reorderable f locals expression
  is_reorderable f locals (Node at word.Satisfies (Then expression parts)) = is_reorderable f locals expression
  is_reorderable f locals (Node at word.Assert (Then type (Then expression End))) = is_reorderable f locals expression
  is_reorderable f locals (Node at word.Nonnull (Then expression End)) = is_reorderable f locals expression
  is_reorderable f locals (Node at word.Instantiate (Then expression parts)) = is_reorderable f locals expression
  is_reorderable f locals (Node at word.Array (Then (Listed items) End)) = are_reorderable f locals items
  is_reorderable f locals (Node at word.Object (Then (Listed properties) End)) = are_reorderable f locals properties
  is_reorderable f locals (Node at word.Prop (Then (Flag computed) (Then key (Then expression End)))) =
      not computed && is_reorderable f locals expression
  is_reorderable f locals (Node at word.Member (Then optional (Then object parts))) = is_module_path f object
  is_reorderable f locals (Node at word.Index (Then optional (Then object parts))) = is_module_path f object
  is_reorderable f locals (Node at word.Privatemember (Then optional (Then object parts))) = is_module_path f object
  is_reorderable f locals
      (Node at word.Arrow
      (Then marked (Then is_async (Then params (Then (Node there word.Body (Then directives (Then (Listed End) End))) End))))) = true
  is_reorderable f locals (Node at word.Arrow (Then marked (Then is_async (Then params (Then (Node there word.Body parts) End))))) = false
  is_reorderable f locals (Node at word.Arrow (Then marked (Then is_async (Then params (Then body End))))) = is_reorderable f false body
  is_reorderable f locals (Node at word.Call (Then optional (Then callee (Then (Listed arguments) End)))) =
      is_reorderable f locals callee && are_reorderable f locals arguments
  is_reorderable f locals (Node at word.New (Then callee (Then (Listed arguments) End))) =
      is_reorderable f locals callee && are_reorderable f locals arguments
  is_reorderable f locals _ = false

  pub are_reorderable : Facts → (locals : Bool) → Pieces → Bool
  are_reorderable f locals End = true
  are_reorderable f locals (Then part parts) = is_reorderable f locals part && are_reorderable f locals parts

  -- A name of the module, or a property of such a path.
  pub is_module_path : Facts → Syntax → Bool
  is_module_path f (Node at word.Id parts) = f.is_module at.reference.0
  is_module_path f (Node at word.Member (Then optional (Then object parts))) = is_module_path f object
  is_module_path f (Node at word.Index (Then optional (Then object parts))) = is_module_path f object
  is_module_path f (Node at word.Privatemember (Then optional (Then object parts))) = is_module_path f object
  is_module_path f _ = false

-- Row F29 does not apply to the default or the test of a node.
abbrev pub stays : Facts → Syntax → Bool
stays f (Node at word.Param (Then pattern (Then default End))) = is_reorderable f true default
stays f (Node at word.Defaultpat (Then pattern (Then default End))) = is_reorderable f true default
stays f (Node at word.Default (Then target (Then default End))) = is_reorderable f true default
stays f (Node at word.Short (Then name (Then default End))) = is_reorderable f true default
stays f (Node at word.Case (Then condition parts)) = is_reorderable f true condition
stays f _ = true

-- A link or a `!` on the spine of a chain, with an optional link from there on.
abbrev pub has_optional : Syntax → Bool
has_optional (Node at word.Member (Then (Flag optional) (Then object parts))) = optional || has_optional object
has_optional (Node at word.Index (Then (Flag optional) (Then object parts))) = optional || has_optional object
has_optional (Node at word.Privatemember (Then (Flag optional) (Then object parts))) = optional || has_optional object
has_optional (Node at word.Call (Then (Flag optional) (Then callee parts))) = optional || has_optional callee
has_optional (Node at word.Nonnull (Then expression End)) = has_optional expression
has_optional _ = false

-- Row F44 does not apply on the spine of a chain: no `!` below a link has an optional link on its own spine.
abbrev pub is_unbroken : (below : Bool) → Syntax → Bool
is_unbroken below (Node at word.Member (Then optional (Then object parts))) = is_unbroken true object
is_unbroken below (Node at word.Index (Then optional (Then object parts))) = is_unbroken true object
is_unbroken below (Node at word.Privatemember (Then optional (Then object parts))) = is_unbroken true object
is_unbroken below (Node at word.Call (Then optional (Then callee parts))) = is_unbroken true callee
is_unbroken below (Node at word.Nonnull (Then expression End)) = not (below && has_optional expression) && is_unbroken below expression
is_unbroken below _ = true

abbrev pub is_whole_chain : Syntax → Bool
is_whole_chain (Node at word.Chain (Then expression End)) = is_unbroken false expression
is_whole_chain _ = true

abbrev pub is_none : List Which → Bool
is_none [] = true
is_none (row ∷ rows) = false

-- True of a function with a wrapped target in a target of an assignment (row S3), classes aside.
abbrev pub has_wrapped_target : (marked : Syntax) → Bool
has_wrapped_target marked = is_some (first_wrapped (sites_in marked))

-- True of a marked function to which no row applies, nor in its inner functions.
abbrev pub is_supported_by : Facts → (marked : Syntax) → Bool
is_supported_by f marked =
    is_none (rows_in f top (params_in marked) ++ rows_in f top (body_in marked)) && not (has_wrapped_target marked)
    && list_all (λ function. list_all (λ node. stays f node && is_whole_chain node && keeps_fbt node) (code_of function))
    (lowered_functions marked)

abbrev pub is_among : ℕ → Syntax → Bool
is_among id (Node at w parts) = nat_le at.id.0 id && not (nat_le at.end.0 id)
is_among id _ = false

-- An inner function of a lowered function that stands in a dead part.
abbrev pub is_dead_function : (marked : Syntax) → (node : ℕ) → Bool
is_dead_function marked node = list_any (λ function. list_any (is_among node) (dead_parts (body_in function))) (lowered_functions marked)
