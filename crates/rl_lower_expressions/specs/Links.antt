-- Keys, objects and callees of links of chains that were lowered.
use Rattle.std.specs.Prelude.{◌≡◌, ◌+◌, ◌≤◌, Bool, true, false, Option, List}
use Rattle.rl_base.specs.declared.ids.BlockId.{BlockId}
use Rattle.rl_base.specs.declared.row.Row.TheVariants as row
use Rattle.rl_base.specs.declared.span.Span.{Span}
use Rattle.rl_builder.specs.Builder.{State, recorded}
use Rattle.rl_hir.specs.Pieces.{Piece}
use Rattle.rl_lower_expressions.specs.declared.chain.Front as fronts
use Rattle.rl_lower_expressions.specs.declared.chain.Front.TheVariants as front
use Rattle.rl_lower_expressions.specs.declared.chain.OpenLink.{OpenLink}
use Rattle.rl_lower_expressions.specs.declared.member.MemberProperty.{MemberProperty}
use Rattle.rl_lower_expressions.specs.Members.{key_of}
use Rattle.rl_lowered.specs.Forms.{Alone, Front, IsLinkKey, Lent, tested_front}
use Rattle.rl_lowered.specs.Lowered.{LoweredAll, LoweredFront}
use Rattle.rl_lowered.specs.Named.{IsNamed}
use Rattle.rl_lowered.specs.Promised.{share}
use Rattle.rl_names.specs.Names.{Names}
use Rattle.rl_optional_frames.specs.Frames.{link_after, link_at, link_objected, link_of}
use Rattle.rl_optional_frames.specs.Parts.{link_opened}
use Rattle.rl_promises.specs.Chains.{Below, Spine, Top}
use Rattle.rl_promises.specs.Rows.{refusal}
use Rattle.rl_runs.specs.Blocks.{size_of}
use Rattle.rl_syntax.specs.declared.word.Word.{Word}
use Rattle.rl_syntax.specs.Syntax.{Syntax, Pieces, nodes, nodes_of}

-- The object or callee of a link, as derivations have it.
abbrev pub front_of : fronts.Front → Front
front_of (front.Alone place) = Alone place
front_of (front.Method receiver property) = Lent receiver property

-- The place of the spine of a chain that is below a link of another chain, or not.
abbrev pub spine_of : (below : Bool) → Spine
spine_of true = Below
spine_of false = Top

-- The state behind `!`, which is refused below a link of a chain (row F44).
abbrev pub refused_below : (below : Bool) → State → (at : Span) → State
refused_below true s at = recorded s (refusal row.F44 at)
refused_below false s at = s

-- The key of a link with this word, whose parts behind the object these are, was lowered.
pub record LowersKey (names : Names) (w : Word) (rest : Pieces) (old new : State) (lowered : MemberProperty) : Type 0 where
  pub parts : Pieces
  pub pieces : List Piece
  pub key : IsLinkKey w rest parts pieces (key_of lowered)
  pub by : LoweredAll names parts old new pieces
  pub named : IsNamed names old → IsNamed names new
  pub size : size_of new ≤ size_of old + share (nodes_of rest)

-- The object or callee of a link was lowered, and the hole of the link is open.
pub record OpensLink (names : Names) (alternate : Option BlockId) (span : Span) (optional called : Bool) (e : Syntax) (old new : State)
    (opened : OpenLink) : Type 0 where
  pub between : State
  pub by : LoweredFront names (link_at old span optional alternate).alternate called e (link_opened alternate old span) between
      (front_of opened.front)
  pub moved : new ≡ link_objected (link_at old span optional alternate) between (tested_front (front_of opened.front))
  pub frame : link_of opened.link ≡ link_after (link_at old span optional alternate)
  pub named : IsNamed names old → IsNamed names new
  pub size : size_of new ≤ size_of old + (14 + share (nodes e))
