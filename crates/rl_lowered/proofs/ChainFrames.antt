-- Links of optional chains as frames, inside a chain or around it: their blocks, and that they complete.
use Rattle.std.proofs.Common.{◌≡◌, ℕ, ◌+◌, ◌++◌, Bool, true, List, Option, Some, None, refl, arith}
use Rattle.rl_builder.specs.Temporaries.{temporary}
use Rattle.rl_frames.specs.Parts.{chain_begun, chain_reserved, link_object}
use Rattle.rl_hir.specs.declared.instruction.Instruction.{Instruction}
use Rattle.rl_hir.specs.declared.instruction.InstructionKind.TheVariants as variables
use Rattle.rl_hir.specs.declared.instruction.InstructionValue.TheVariants as values
use Rattle.rl_lowered.proofs.Common.{BlockId, Place, Span, State}
use Rattle.rl_optional_frames.proofs.LinkBlocks.{link_blocks, link_extends}
use Rattle.rl_optional_frames.proofs.LinkStarts.{early_below, early_extends, inner_starts, outer_starts}
use Rattle.rl_optional_frames.proofs.Lives.{link_lives}
use Rattle.rl_optional_frames.proofs.Reaching.{blocks_of_link}
use Rattle.rl_optional_frames.specs.Frames.{link_after, link_at, link_ended, link_objected}
use Rattle.rl_optional_frames.specs.Links.{LinkBlocks}
use Rattle.rl_optional_frames.specs.Parts.{link_opened}
use Rattle.rl_runs.proofs.Preserving.{blocks_then, blocks_value}
use Rattle.rl_runs.specs.Blocks.{Lives, PreservesBlocks}
use Rattle.rl_runs.specs.Facts.{Extends}
use Rattle.rl_runs.specs.Moves.{stored_in}

-- A link inside a chain may name the block in which that ends early; the outermost one makes that block.
abbrev pub BlocksTo : (alternate : Option BlockId) → State → State → Type 0
BlocksTo None s t = PreservesBlocks s t
BlocksTo (Some alternate) s t = LinkBlocks alternate.0 s t

-- The state behind a link whose holes left these.
abbrev pub linked_state : (alternate : Option BlockId) → State → Span → (optional : Bool) → State → (value : Place) → State
linked_state alternate s span optional s4 value = link_ended (link_after (link_at s span optional alternate)) s4 value

-- The link's value goes into its place.
stores : (s4 : State) (place value : Place) (span : Span) → PreservesBlocks s4 (stored_in s4 place value span)
stores s4 place value span = blocks_value s4 (values.StoreLocal variables.Const place value) (Some span)

pub linked_blocks : (alternate : Option BlockId) (s s2 s4 : State) (span : Span) (optional : Bool) (object value : Place)
    → LinkBlocks (link_at s span optional alternate).alternate.0 (link_opened alternate s span) s2
    → PreservesBlocks (link_objected (link_at s span optional alternate) s2 object) s4
    → BlocksTo alternate s (linked_state alternate s span optional s4 value)
linked_blocks (Some alternate) s s2 s4 span optional object value bo bk =
    link_blocks s (chain_reserved s span) s2 (stored_in s4 (temporary s (Some span)) value span) optional object s.env.next_block
    (s.env.next_block + 1) alternate.0 s.current.kind span (inner_starts s span) bo
    (blocks_then (link_object s2 s.env.next_block (s.env.next_block + 1) alternate.0 span object) s4 _ bk
    (stores s4 (temporary s (Some span)) value span))
linked_blocks None s s2 s4 span optional object value bo bk =
    blocks_of_link a s (linked_state None s span optional s4 value) (omega arith) (omega (arith, early_below s span, from_begun.blocks))
    (link_blocks s x s2 s5 optional object s.env.next_block (s.env.next_block + 1) a s.current.kind span (outer_starts s span) bo both)
  where
    a : ℕ
    a = s.env.next_block + 1 + 1

    x : State
    x = chain_begun s span

    s5 : State
    s5 = stored_in s4 (temporary s (Some span)) value span

    both : PreservesBlocks (link_object s2 s.env.next_block (s.env.next_block + 1) a span object) s5
    both =
        blocks_then (link_object s2 s.env.next_block (s.env.next_block + 1) a span object) s4 s5 bk
        (stores s4 (temporary s (Some span)) value span)

    from_begun : Extends x (linked_state None s span optional s4 value)
    from_begun =
        link_extends s x s2 s5 optional object s.env.next_block (s.env.next_block + 1) a s.current.kind span (outer_starts s span) bo both

-- The handlers are the same where the first hole opens.
pub opened_handlers : (alternate : Option BlockId) (s : State) (span : Span) → (link_opened alternate s span).handlers ≡ s.handlers
opened_handlers (Some alternate) s span = refl
opened_handlers None s span = (early_extends s span).handlers

-- Live instructions of a link, from those of its holes.
pub linked_lives : {K : Type 0} (key_of : Instruction → Option K) (alternate : Option BlockId) (s s2 s4 : State) (span : Span)
    (optional : Bool) (object value : Place) (in_object in_link : List K)
    → Extends (link_opened alternate s span) s2 → Extends (link_objected (link_at s span optional alternate) s2 object) s4
    → Lives key_of in_object true (link_opened alternate s span) s2
    → Lives key_of in_link true (link_objected (link_at s span optional alternate) s2 object) s4
    → Lives key_of (in_object ++ in_link) true s (linked_state alternate s span optional s4 value)
linked_lives key_of (Some alternate) s s2 s4 span optional object value in_object in_link go gk lo lk =
    link_lives key_of s (chain_reserved s span) s2 s4 optional object (temporary s (Some span)) value s.env.next_block
    (s.env.next_block + 1) alternate.0 s.current.kind span in_object in_link refl go gk lo lk
linked_lives key_of None s s2 s4 span optional object value in_object in_link go gk lo lk =
    link_lives key_of s (chain_begun s span) s2 s4 optional object (temporary s (Some span)) value s.env.next_block
    (s.env.next_block + 1) (s.env.next_block + 1 + 1) s.current.kind span in_object in_link refl go gk lo lk
