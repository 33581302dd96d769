-- The parts that frames hold between their calls, the states that the calls leave, and what a frame makes of the runs of its holes.
use Rattle.std.specs.Prelude.{◌≡◌, ℕ, ◌+◌, Bool, Option, Some, None, List, unwrap_or}
use Rattle.rl_base.specs.declared.ids.BlockId.{BlockId}
use Rattle.rl_base.specs.declared.span.Span.{Span}
use Rattle.rl_builder.specs.Builder.{State, completed_by, new_block, placeholder}
use Rattle.rl_builder.specs.declared.blocks.WipBlock.{WipBlock}
use Rattle.rl_builder.specs.Temporaries.{temporary}
use Rattle.rl_frames.specs.Parts.{chain_reserved}
use Rattle.rl_hir.specs.declared.function.BlockKind.TheVariants as block
use Rattle.rl_hir.specs.declared.instruction.Place.{Place}
use Rattle.rl_hir.specs.declared.terminal.GotoVariant.TheVariants as gotos
use Rattle.rl_hir.specs.declared.terminal.TerminalKind.TheVariants as kinds
use Rattle.rl_machine.specs.declared.trace.Value.{Value}
use Rattle.rl_machine.specs.declared.trace.Value.TheVariants as trace
use Rattle.rl_machine.specs.Traces.{World}
use Rattle.rl_model.specs.Actions.{Action, chained}
use Rattle.rl_optional_frames.specs.declared.chain_link.ChainLink.{ChainLink}
use Rattle.rl_optional_frames.specs.declared.default_value.DefaultValue.{DefaultValue}
use Rattle.rl_optional_frames.specs.Links.{LinkBlocks, RunsOnAll}
use Rattle.rl_optional_frames.specs.Meanings.{defaulted, handed, linked_over, linked_values, tested_of}
use Rattle.rl_optional_frames.specs.Parts.{compared, comparison, default_begins, default_begun, default_given, default_other, early_block}
use Rattle.rl_optional_frames.specs.Parts.{link_opened, link_reserved}
use Rattle.rl_runs.specs.Blocks.{PreservesBlocks}
use Rattle.rl_runs.specs.Moves.{block_id, branch, ends_by, last_hole, stored_in}
use Rattle.rl_runs.specs.Simulation.{RunsExpression, RunsLinks, RunsOn}

-- The parts of a `DefaultValue`.
pub record DefaultParts : Type 0 where
  pub span : Span
  pub value : Place
  pub place : Place
  pub test : WipBlock
  pub behind : WipBlock
  pub consequent : ℕ
  pub outer : WipBlock

abbrev pub default_of : DefaultValue → DefaultParts
default_of f = record {
  span = f.span;
  value = f.value;
  place = f.place;
  test = f.test;
  behind = f.behind;
  consequent = f.consequent.0;
  outer = f.outer.block;
}

abbrev pub default_at : State → (span : Span) → (value : Place) → DefaultParts
default_at s span value = record {
  span = span;
  value = value;
  place = temporary s (Some span);
  test = new_block s.env.next_block block.Value;
  behind = new_block (s.env.next_block + 1) s.current.kind;
  consequent = s.env.next_block + 1 + 1;
  outer = s.current;
}

-- The hole of the default ends, the value is stored in the other block, and the test begins.
abbrev pub default_tested : DefaultParts → State → (default : Place) → State
default_tested f s default =
    default_begins (default_given s f.behind.id.0 f.place default f.span) f.test f.behind.id.0 f.place f.value f.span f.outer

-- The value is compared with undefined, and the block behind the whole goes on.
abbrev pub default_ended : DefaultParts → State → (default : Place) → State
default_ended f s default =
    completed_by (compared (default_tested f s default) f.value f.span)
    (branch (comparison (default_tested f s default) f.span) f.consequent (default_other s f.place default f.span) f.behind.id.0 f.span)
    f.behind

-- From any begin, and whatever the hole means.
pub record DefaultComposes (f : DefaultParts) (old new : State) (default : Place) : Type 0 where
  pub all : (s : State) (span : Span) (value : Place) (world : World) (d : Action Value) → f ≡ default_at s span value
      → PreservesBlocks (default_begun s span) old → RunsExpression world d (default_begun s span) old default.identifier.0
      → PreservesBlocks s new × RunsOn world (defaulted world d) s new value.identifier.0 f.place.identifier.0

-- The parts of a `ChainLink`.
pub record LinkParts : Type 0 where
  pub span : Span
  pub optional : Bool
  pub place : Place
  pub behind : WipBlock
  pub alternate : BlockId
  pub test : ℕ
  pub link : Option WipBlock
  pub outer : WipBlock

abbrev pub link_of : ChainLink → LinkParts
link_of f = record {
  span = f.span;
  optional = f.optional;
  place = f.place;
  behind = f.behind;
  alternate = f.alternate;
  test = f.test.0;
  link = f.link;
  outer = f.outer.block;
}

abbrev pub link_at : State → (span : Span) → (optional : Bool) → (alternate : Option BlockId) → LinkParts
link_at s span optional alternate = record {
  span = span;
  optional = optional;
  place = temporary s (Some span);
  behind = new_block s.env.next_block s.current.kind;
  alternate = early_block alternate (chain_reserved s span);
  test = (link_reserved alternate s span).env.next_block;
  link = Some (new_block (s.env.next_block + 1) block.Value);
  outer = s.current;
}

-- The block of the link; a placeholder once its hole is open.
abbrev pub link_block : LinkParts → WipBlock
link_block f = unwrap_or f.link placeholder

-- The hole of the object or callee ends, and that of the link opens.
abbrev pub link_objected : LinkParts → State → (object : Place) → State
link_objected f s object =
    completed_by s (branch object (link_block f).id.0 f.alternate.0 f.behind.id.0 f.span) (link_block f)

abbrev pub link_after : LinkParts → LinkParts
link_after f = record f { link = None }

-- The hole of the link ends, and the block behind it goes on.
abbrev pub link_ended : LinkParts → State → (value : Place) → State
link_ended f s value =
    completed_by (last_hole (stored_in s f.place value f.span) f.behind.id.0 gotos.Break f.span f.outer)
    (ends_by (kinds.Optional f.optional (block_id f.test) f.behind.id) (Some f.span)) f.behind

-- From any begin, and whatever the holes mean. A link inside a chain hands on its early end; the outermost one makes a chain an
-- expression. The link tests its object, or its callee behind the object that this lends.
pub record LinkComposes (f : LinkParts) (old new : State) (value : Place) : Type 0 where
  pub inner : (s s2 : State) (span : Span) (optional lends : Bool) (alternate : BlockId) (objects : List ℕ) (object : Place)
      (world : World) (dobj : Action (List Value)) (dk : List Value → Action Value)
      → f ≡ link_after (link_at s span optional (Some alternate)) → tested_of objects ≡ Some object.identifier.0
      → LinkBlocks alternate.0 (link_opened (Some alternate) s span) s2
      → PreservesBlocks (link_objected (link_at s span optional (Some alternate)) s2 object) old
      → RunsLinks world dobj (link_opened (Some alternate) s span) s2 alternate.0 objects
      → RunsOnAll world dk (link_objected (link_at s span optional (Some alternate)) s2 object) old objects value.identifier.0
      → LinkBlocks alternate.0 s new
      × RunsLinks world (linked_values world optional lends dobj dk) s new alternate.0 (handed lends objects f.place.identifier.0)
  pub outer : (s s2 : State) (span : Span) (optional : Bool) (objects : List ℕ) (object : Place) (world : World)
      (dobj : Action (List Value)) (dk : List Value → Action Value)
      → f ≡ link_after (link_at s span optional None) → tested_of objects ≡ Some object.identifier.0
      → LinkBlocks f.alternate.0 (link_opened None s span) s2
      → PreservesBlocks (link_objected (link_at s span optional None) s2 object) old
      → RunsLinks world dobj (link_opened None s span) s2 f.alternate.0 objects
      → RunsOnAll world dk (link_objected (link_at s span optional None) s2 object) old objects value.identifier.0
      → PreservesBlocks s new
      × RunsExpression world (chained trace.Undefined (linked_over world optional dobj dk)) s new f.place.identifier.0
