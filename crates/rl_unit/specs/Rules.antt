-- The error of a unit that breaks a rule.
use Rattle.std.specs.Prelude.{◌≡◌}
use Rattle.rl_semantic.specs.declared.semantic.RuleError.{RuleError}
use Rattle.rl_semantic.specs.declared.semantic.RuleError.TheVariants as rules
use Rattle.rl_unit.specs.declared.unit.LowerError.{LowerError}
use Rattle.rl_unit.specs.declared.unit.LowerError.TheVariants as errors

abbrev pub error_of : RuleError → LowerError
error_of (rules.Malformed rule) = errors.Malformed
error_of rules.OutOfMemory = errors.OutOfMemory

abbrev pub IsOfRule : RuleError → LowerError → Type 0
IsOfRule e error = error ≡ error_of e
