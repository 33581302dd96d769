-- The types that most proofs here name.
pub use Rattle.rl_base.specs.declared.ids.BlockId.{BlockId}
pub use Rattle.rl_base.specs.declared.span.Span.{Span}
pub use Rattle.rl_builder.specs.Builder.{State}
pub use Rattle.rl_hir.specs.declared.instruction.Place.{Place}
pub use Rattle.rl_machine.specs.Machine.{Code}
pub use Rattle.rl_model.specs.Actions.{Label}
pub use Rattle.rl_runs.specs.Blocks.{IsLedTo}
pub use Rattle.rl_runs.specs.Facts.{Extends, IsContainedIn}
