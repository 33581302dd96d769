-- Properties whose object and computed key were lowered.
use Rattle.std.specs.Prelude.{◌+◌, ◌≤◌, List}
use Rattle.rl_builder.specs.Builder.{State}
use Rattle.rl_hir.specs.Pieces.{Piece}
use Rattle.rl_lower_expressions.specs.declared.member.LoweredMember.{LoweredMember}
use Rattle.rl_lower_expressions.specs.declared.member.MemberProperty.{MemberProperty}
use Rattle.rl_lower_expressions.specs.declared.member.MemberProperty.TheVariants as properties
use Rattle.rl_lowered.specs.Forms.{IsMember, MemberKey, Fixed, Computed}
use Rattle.rl_lowered.specs.Lowered.{LoweredAll}
use Rattle.rl_lowered.specs.Named.{IsNamed}
use Rattle.rl_lowered.specs.Promised.{share}
use Rattle.rl_names.specs.Names.{Names}
use Rattle.rl_runs.specs.Blocks.{size_of}
use Rattle.rl_syntax.specs.declared.word.Word.{Word}
use Rattle.rl_syntax.specs.Syntax.{Pieces, nodes_of}

-- The key of a property, as derivations have it.
abbrev pub key_of : MemberProperty → MemberKey
key_of (properties.Literal key) = Fixed key
key_of (properties.Computed place) = Computed place

-- The parts of a property with this word and these fields were lowered from left to right.
pub record LowersMember (names : Names) (w : Word) (fields : Pieces) (old new : State) (lowered : LoweredMember) : Type 0 where
  pub parts : Pieces
  pub pieces : List Piece
  pub member : IsMember w fields parts pieces lowered.object (key_of lowered.property)
  pub by : LoweredAll names parts old new pieces
  pub named : IsNamed names old → IsNamed names new
  pub size : size_of new ≤ size_of old + share (nodes_of fields)
