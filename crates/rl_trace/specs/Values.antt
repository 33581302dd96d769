-- The values that those of a run stand for.
use Rattle.rl_machine.specs.declared.trace.Value.{Value}
use Rattle.rl_machine.specs.declared.trace.Value.TheVariants as value
use Rattle.rl_trace.specs.declared.value.Val.{Val}
use Rattle.rl_trace.specs.declared.value.Val.TheVariants as val

abbrev pub shown : Val → Value
shown val.Undefined = value.Undefined
shown val.Null = value.Null
shown (val.Bool flag) = value.Bool flag
shown (val.Number number) = value.Number number
shown (val.Text text) = value.Text text.now
shown (val.Given number) = value.Given number
