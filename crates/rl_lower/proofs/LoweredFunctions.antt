-- The parameters of a function and its body, lowered one behind the other from a fresh builder on.
use Rattle.std.proofs.Common.{◌≡◌, ℕ, ◌+◌, ◌≤◌, List, [], ◌∙◌, arith}
use Rattle.rl_builder.specs.Builder.{State}
use Rattle.rl_hir.specs.declared.function.Param.{Param}
use Rattle.rl_lowered.proofs.ListingMoves.{lists_then}
use Rattle.rl_lowered.proofs.Names.{names_then}
use Rattle.rl_lowered.proofs.SoundMoves.{sound_then}
use Rattle.rl_lowered.proofs.StepMoves.{apart_then}
use Rattle.rl_lowered.proofs.UnreadMoves.{unreads_then}
use Rattle.rl_lowered.specs.Listing.{ListsSince}
use Rattle.rl_lowered.specs.Named.{KeepsNames}
use Rattle.rl_lowered.specs.Promised.{LowersBody, LowersParams, share}
use Rattle.rl_lowered.specs.Sound.{AreSmallTrees, IsSmallTree, StaysSound}
use Rattle.rl_lowered.specs.Steps.{KeepsStepsApart}
use Rattle.rl_names.specs.Names.{Names}
use Rattle.rl_runs.proofs.Preserving.{blocks_then}
use Rattle.rl_runs.specs.Blocks.{PreservesBlocks, size_of}
use Rattle.rl_runs.specs.ReadNotes.{KeepsUnread}
use Rattle.rl_syntax.specs.Syntax.{Syntax, Pieces, nodes, nodes_of}

-- Parts with so many nodes were lowered from the first state to the second: all that the graph which ends there is proved by, but its runs
-- and the instructions that are counted. `small` says that the parts are small.
pub record LowersFunction (names : Names) (small : Type 0) (count : ℕ) (begun s : State) : Type 0 where
  pub names_kept : KeepsNames names begun s
  pub size : size_of s ≤ size_of begun + share (count + 1)
  pub blocks : PreservesBlocks begun s
  pub lists : ListsSince begun s
  pub unread : KeepsUnread begun s
  pub steps : KeepsStepsApart begun s
  pub sound : StaysSound small begun s

-- The parameters, the rest and the body are small.
abbrev pub AreSmall : (items : Pieces) → (rest body : Syntax) → Type 0
AreSmall items rest body = (AreSmallTrees items × IsSmallTree rest) × IsSmallTree body

abbrev pub nodes_in : (items : Pieces) → (rest body : Syntax) → ℕ
nodes_in items rest body = nodes_of items + nodes rest + nodes body

pub lowered_both : {names : Names} {items : Pieces} {rest body : Syntax} {begun given s : State} {params : List Param}
    → LowersParams names items rest begun given params → LowersBody names body given s
    → LowersFunction names (AreSmall items rest body) (nodes_in items rest body) begun s
lowered_both {names} {items} {rest} {body} {begun} {given} {s} p b = record {
  names_kept = names_then begun given s p.names_kept b.names_kept;
  size = omega (arith, p.size, b.size);
  blocks = blocks_then begun given s p.blocks b.blocks;
  lists = lists_then begun given s p.lists b.lists;
  unread = (unreads_then begun given s (record { grows = p.blocks.extends.blocks; handlers = p.blocks.extends.handlers; keeps = p.unread })
      (record { grows = b.blocks.extends.blocks; handlers = b.blocks.extends.handlers; keeps = b.unread })).keeps;
  steps = apart_then begun given s p.steps b.steps;
  sound = sound_then (AreSmallTrees items × IsSmallTree rest) (IsSmallTree body) (AreSmall items rest body) begun given s (λ small. small.0)
      (λ small. small.1) p.sound b.sound;
}

-- No handler is open behind the parameters, if none is before them.
pub params_unhandled : {names : Names} {items : Pieces} {rest : Syntax} {begun given : State} {params : List Param}
    → LowersParams names items rest begun given params → begun.handlers ≡ [] → given.handlers ≡ []
params_unhandled p none = p.blocks.extends.handlers ∙ none
