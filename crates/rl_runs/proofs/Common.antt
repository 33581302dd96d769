-- The types that most proofs here name.
pub use Rattle.rl_base.specs.declared.ids.BlockId.{BlockId}
pub use Rattle.rl_base.specs.declared.span.Span.{Span}
pub use Rattle.rl_builder.specs.Builder.{State}
pub use Rattle.rl_hir.specs.declared.instruction.Instruction.{Instruction}
pub use Rattle.rl_machine.specs.Machine.{Code}
pub use Rattle.rl_machine.specs.Traces.{Store, World}
pub use Rattle.rl_machine.specs.declared.trace.Answer.{Answer}
pub use Rattle.rl_machine.specs.declared.trace.Value.{Value}
