-- The code of a function, from that of its parts.
use Rattle.std.proofs.Common.{◌≡◌, List, [], ◌++◌, Some, None, ap, sym, ◌∙◌}
use Rattle.rl_code.specs.Parts.{parts_of_function}
use Rattle.rl_code.proofs.FunctionParts.{parts_are, no_parts}
use Rattle.rl_model.specs.Code.{code}
use Rattle.rl_model.specs.Code.{code_of as code_of_function}
use Rattle.rl_names.specs.Functions.{params_in}
use Rattle.rl_syntax.specs.Syntax.{Syntax}

pub code_some : (f params body : Syntax) (out o1 o2 : List Syntax) → out ≡ [] → Some (params, body) ≡ parts_of_function f
    → o1 ≡ out ++ code params → o2 ≡ o1 ++ code body → o2 ≡ code_of_function f
code_some f params body out o1 o2 empty is e1 e2 =
    let both = parts_are f params body is in
    e2 ∙ ap (λ l. l ++ code body) (e1 ∙ ap (λ l. l ++ code params) empty)
    ∙ ap (λ s. code s ++ code body) (sym both.0)
    ∙ ap (λ s. code (params_in f) ++ code s) (sym both.1)

pub code_none : (f : Syntax) (out : List Syntax) → out ≡ [] → None ≡ parts_of_function f → out ≡ code_of_function f
code_none f out empty none =
    let both = no_parts f none in
    empty
    ∙ ap (λ s. code s ++ []) (sym both.0)
    ∙ ap (λ s. code (params_in f) ++ code s) (sym both.1)

pub ruleset code_of = (code_some, code_none)
