-- Parameters and body of a function are its parts.
use Rattle.std.proofs.Common.{◌≡◌, Some, None, ap, sym, refl}
use Rattle.rl_code.proofs.Smaller.{unpacked}
use Rattle.rl_code.specs.Parts.{parts_of_function}
use Rattle.rl_names.specs.Functions.{body_in, params_in}
use Rattle.rl_syntax.specs.Syntax.{Syntax, Node, Absent, End, Then}
use Rattle.rl_syntax.specs.declared.word.Word.TheVariants as word

apart : (q r : Syntax × Syntax) → Some q ≡ Some r → (r.0 ≡ q.0) × (r.1 ≡ q.1)
apart q r is =
    let same = unpacked q r is in
    (sym (ap (λ (q : Syntax × Syntax). q.0) same), sym (ap (λ (q : Syntax × Syntax). q.1) same))

pub parts_are : (f params body : Syntax) → Some (params, body) ≡ parts_of_function f → (params_in f ≡ params) × (body_in f ≡ body)
parts_are (Node at word.Arrow (Then marked (Then is_async (Then p (Then b End))))) params body is = apart (params, body) (p, b) is
parts_are (Node at word.Fundecl (Then marked (Then is_async (Then generator (Then name (Then p (Then b End))))))) params body is =
    apart (params, body) (p, b) is
parts_are (Node at word.Funexpr (Then marked (Then is_async (Then generator (Then name (Then p (Then b End))))))) params body is =
    apart (params, body) (p, b) is
parts_are _ params body is = absurd (cc)

pub no_parts : (f : Syntax) → None ≡ parts_of_function f → (params_in f ≡ Absent) × (body_in f ≡ Absent)
no_parts (Node at word.Arrow (Then marked (Then is_async (Then p (Then b End))))) none = absurd (cc)
no_parts (Node at word.Fundecl (Then marked (Then is_async (Then generator (Then name (Then p (Then b End))))))) none = absurd (cc)
no_parts (Node at word.Funexpr (Then marked (Then is_async (Then generator (Then name (Then p (Then b End))))))) none = absurd (cc)
no_parts _ none = (refl, refl)
