-- The room and the size of what is lowered, for those that call `lower`.
pub use Rattle.rl_lowered.specs.Promised.{HasRoom, share}
pub use Rattle.rl_lowered.specs.Sound.{AreSmallTrees, HasSmallSpans, HasSmallSymbol, HaveSmallSpans, IsSmallTree}
