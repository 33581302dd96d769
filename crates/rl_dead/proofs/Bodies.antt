-- The dead parts of bodies and of functions.
use Rattle.std.proofs.Common.{◌≡◌, ℕ, true, ◌||◌, Some, None, List, [], ◌∷◌, ap, sym, refl, ◌∙◌}
use Rattle.std.specs.List.{list_any}
use Rattle.std.proofs.Math.Path.{subst}
use Rattle.rl_code.proofs.FunctionParts.{no_parts, parts_are}
use Rattle.rl_code.specs.Parts.{parts_of_function}
use Rattle.rl_dead.proofs.Covering.{adds_none, or_assoc, or_none}
use Rattle.rl_dead.specs.Functions.{body_statements, is_dead_in}
use Rattle.rl_dead.specs.Ranges.{Adds, is_covered}
use Rattle.rl_dead.specs.Walks.{WalkedStatements}
use Rattle.rl_dead.specs.declared.flow.Flow.{Flow}
use Rattle.rl_dead.specs.declared.jumps.Jumps.{Jumps}
use Rattle.rl_dead.specs.declared.ranges.Range.{Range}
use Rattle.rl_model.specs.Dead.{dead_among, dead_parts}
use Rattle.rl_names.specs.Functions.{body_in}
use Rattle.rl_syntax.specs.Syntax.{Syntax, Node, Listed, Pieces, End, Then}
use Rattle.rl_syntax.specs.declared.word.Word.TheVariants as word

body_is : (body : Syntax) (statements : Pieces) → Some statements ≡ body_statements body → dead_among true statements ≡ dead_parts body
body_is (Node at word.Body (Then directives (Then (Listed items) End))) statements is =
    let same : statements ≡ items = cc in ap (dead_among true) same
body_is _ statements is = absurd (cc)

body_is_none : (body : Syntax) → None ≡ body_statements body → [] ≡ dead_parts body
body_is_none (Node at word.Body (Then directives (Then (Listed items) End))) none = absurd (cc)
body_is_none _ none = refl

pub body_walked : (j k : Jumps) (d e : List Range) (f : Flow) (body : Syntax) (statements : Pieces) → Some statements ≡ body_statements body
    → WalkedStatements j k d e f statements → Adds d e (dead_parts body)
body_walked j k d e f body statements is q = subst (Adds d e) (body_is body statements is) q.walked.dead

pub no_body : (d : List Range) (body : Syntax) → None ≡ body_statements body → Adds d d (dead_parts body)
no_body d body none = subst (Adds d d) (body_is_none body none) (adds_none d)

pub ruleset bodies = (body_walked, no_body)

pub function_walked : (d e : List Range) (function params body : Syntax) → Some (params, body) ≡ parts_of_function function
    → Adds d e (dead_parts body) → Adds d e (dead_parts (body_in function))
function_walked d e function params body is q =
    let both = parts_are function params body is in subst (λ b. Adds d e (dead_parts b)) (sym both.1) q

pub no_function : (d : List Range) (function : Syntax) → None ≡ parts_of_function function → Adds d d (dead_parts (body_in function))
no_function d function none =
    let both = no_parts function none in subst (λ b. Adds d d (dead_parts b)) (sym both.1) (adds_none d)

pub ruleset functions = (function_walked, no_function)

-- The functions that are left, behind those walked.
pub more_functions : (d e : List Range) (function : Syntax) (rest all : List Syntax)
    → ((n : ℕ) → (is_covered d n || list_any (is_dead_in n) (function ∷ rest)) ≡ list_any (is_dead_in n) all)
    → Adds d e (dead_parts (body_in function)) → (n : ℕ) → (is_covered e n || list_any (is_dead_in n) rest) ≡ list_any (is_dead_in n) all
more_functions d e function rest all so q n =
    ap (λ b. b || list_any (is_dead_in n) rest) (q.covers n)
    ∙ or_assoc (is_covered d n) (is_dead_in n function) (list_any (is_dead_in n) rest) ∙ so n

pub no_functions : (d : List Range) (all : List Syntax)
    → ((n : ℕ) → (is_covered d n || list_any (is_dead_in n) []) ≡ list_any (is_dead_in n) all) → (n : ℕ)
    → is_covered d n ≡ list_any (is_dead_in n) all
no_functions d all so n = or_none (is_covered d n) ∙ so n

pub ruleset all_functions = (more_functions, no_functions)
