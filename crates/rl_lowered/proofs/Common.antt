-- The types that most proofs here name.
pub use Rattle.rl_base.specs.declared.diagnostic.Diagnostic.{Diagnostic}
pub use Rattle.rl_base.specs.declared.ids.BlockId.{BlockId}
pub use Rattle.rl_base.specs.declared.ids.SymbolId.{SymbolId}
pub use Rattle.rl_base.specs.declared.span.Span.{Span}
pub use Rattle.rl_builder.specs.Builder.{State}
pub use Rattle.rl_hir.specs.Pieces.{Piece}
pub use Rattle.rl_hir.specs.declared.instruction.InstructionValue.{InstructionValue}
pub use Rattle.rl_hir.specs.declared.instruction.Place.{Place}
pub use Rattle.rl_names.specs.Names.{Names}
pub use Rattle.rl_syntax.specs.Syntax.{End, Node, Pieces, Said, Syntax, Then}
pub use Rattle.rl_syntax.specs.declared.numbered.At.{At}
