-- Names behind an instruction that was added.
use Rattle.std.proofs.Common.{◌≡◌, Option, sym, subst}
use Rattle.rl_base.specs.declared.span.Span.{Span}
use Rattle.rl_builder.specs.Builder.{State}
use Rattle.rl_builder.specs.Temporaries.{with_value}
use Rattle.rl_hir.specs.declared.instruction.InstructionValue.{InstructionValue}
use Rattle.rl_lowered.proofs.Names.{names_value}
use Rattle.rl_lowered.specs.Named.{IsNamed}
use Rattle.rl_names.specs.Names.{Names}

pub named_behind : {names : Names} (s t : State) (v : InstructionValue) (span : Option Span) → t ≡ with_value s v span → IsNamed names s
    → IsNamed names t
named_behind {names} s t v span moved n = subst (IsNamed names) (sym moved) ((names_value s v span).named n)
