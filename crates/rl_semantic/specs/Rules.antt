-- The nine binding rules of a unit.
use Rattle.std.specs.Prelude.{ℕ, Bool, if◌then◌else◌, Option, Some, None}
use Rattle.rl_bindings.specs.Tables as names
use Rattle.rl_rules.specs.Chains.{keeps_chains}
use Rattle.rl_rules.specs.Declarations.{keeps_declarations}
use Rattle.rl_rules.specs.Forms.{keeps_forms}
use Rattle.rl_rules.specs.Marks.{keeps_mark}
use Rattle.rl_rules.specs.Variables.{keeps_variables}
use Rattle.rl_syntax.specs.Syntax.{Syntax}

-- The least rule that is broken: B1 if it is not kept as `marked` says, else the rule `named` on names, else the rule `formed`
-- on forms.
abbrev pub least : (marked : Bool) → (named formed : Option ℕ) → Option ℕ
least marked named formed = if marked then (elim named as (λ _. Option ℕ) [ Some rule ↦ Some rule | None ↦ formed ]) else Some 1

-- The least of the rules B6 to B9 that is broken, if each is kept or not as the arguments say.
abbrev pub least_form : (chains variables declarations forms : Bool) → Option ℕ
least_form chains variables declarations forms = if chains then (if variables then (if declarations then (if forms then None else Some 9) else Some 8) else Some 7) else Some 6

-- The least of the rules B6 to B9 that a tree breaks. A namespace outside the program's list breaks `keeps_declarations` too;
-- it breaks B5, which comes first.
abbrev pub least_broken_form : Syntax → Option ℕ
least_broken_form tree = least_form (keeps_chains tree) (keeps_variables tree) (keeps_declarations tree) (keeps_forms tree)

-- The least of the rules B1 to B9 that a tree breaks. None if it keeps them all.
abbrev pub least_broken : Syntax → Option ℕ
least_broken tree = least (keeps_mark tree) (names.least_broken tree) (least_broken_form tree)
