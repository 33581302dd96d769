-- Chains of links: all of them share the block in which the chain ends early.
use Rattle.std.proofs.Common.{◌≡◌, ℕ, Bool, List, Some, None, refl}
use Rattle.rl_base.specs.declared.ids.BlockId.{BlockId}
use Rattle.rl_base.specs.declared.span.Span.{Span}
use Rattle.rl_builder.specs.Builder.{State}
use Rattle.rl_hir.specs.declared.instruction.Place.{Place}
use Rattle.rl_machine.specs.declared.trace.Value.{Value}
use Rattle.rl_machine.specs.declared.trace.Value.TheVariants.{Undefined}
use Rattle.rl_machine.specs.Traces.{World}
use Rattle.rl_model.specs.Actions.{Action, chained}
use Rattle.rl_optional_frames.proofs.Composes.{link_composes}
use Rattle.rl_optional_frames.proofs.Reaching.{link_of_blocks}
use Rattle.rl_optional_frames.specs.Chains.{IsChain, Links, Starts}
use Rattle.rl_optional_frames.specs.Frames.{LinkComposes, LinkParts, link_after, link_at, link_ended, link_objected}
use Rattle.rl_optional_frames.specs.Links.{LinkBlocks, RunsOnAll}
use Rattle.rl_optional_frames.specs.Meanings.{linked_over, tested_of}
use Rattle.rl_optional_frames.specs.Parts.{link_opened}
use Rattle.rl_runs.specs.Blocks.{PreservesBlocks}
use Rattle.rl_runs.specs.Simulation.{RunsAll, RunsExpression, RunsLinks}

-- Values that never end a chain.
pub links_plain : (world : World) (old new : State) (d : Action (List Value)) (alternate : ℕ) (identifiers : List ℕ)
    → RunsAll world d old new identifiers → RunsLinks world d old new alternate identifiers
links_plain world old new d alternate identifiers r = record {
  fresh = r.fresh;
  made = r.made;
  free = r.free;
  runs = λ c cover sound shares ways k source store notes answers a throws early onward.
      r.runs c cover sound shares ways k source store notes answers a throws onward;
}

-- A link has the blocks and the runs that its frame says, whatever stands in front of it.
pub chain_composes : {world : World} {alternate : BlockId} {d : Action (List Value)} {old new : State} {identifiers : List ℕ}
    → IsChain world alternate d old new identifiers
    → LinkBlocks alternate.0 old new × RunsLinks world d old new alternate.0 identifiers
chain_composes {world} {alternate} (Starts d old new identifiers b r) =
    (link_of_blocks alternate.0 old new b, links_plain world old new d alternate.0 identifiers r)
chain_composes {world} {alternate} (Links s s2 s4 span optional lends objects object value dobj dk chain tests bk rk) =
    let front = chain_composes chain in
    let f : LinkParts = link_after (link_at s span optional (Some alternate)) in
    let ends : LinkComposes f s4 (link_ended f s4 value) value = link_composes f s4 (link_ended f s4 value) value refl in
    ends.inner s s2 span optional lends alternate objects object world dobj dk refl tests front.0 bk front.1 rk

-- The outermost link, whose frame has made the block in which the chain ends early: an expression.
pub whole_chain : (s s2 s4 : State) (span : Span) (optional : Bool) (objects : List ℕ) (object value : Place) (world : World)
    (dobj : Action (List Value)) (dk : List Value → Action Value)
    → IsChain world (link_at s span optional None).alternate dobj (link_opened None s span) s2 objects
    → tested_of objects ≡ Some object.identifier.0
    → PreservesBlocks (link_objected (link_at s span optional None) s2 object) s4
    → RunsOnAll world dk (link_objected (link_at s span optional None) s2 object) s4 objects value.identifier.0
    → PreservesBlocks s (link_ended (link_after (link_at s span optional None)) s4 value)
    × RunsExpression world (chained Undefined (linked_over world optional dobj dk)) s
    (link_ended (link_after (link_at s span optional None)) s4 value) (link_at s span optional None).place.identifier.0
whole_chain s s2 s4 span optional objects object value world dobj dk chain tests bk rk =
    let front = chain_composes chain in
    let f : LinkParts = link_after (link_at s span optional None) in
    let ends : LinkComposes f s4 (link_ended f s4 value) value = link_composes f s4 (link_ended f s4 value) value refl in
    ends.outer s s2 span optional objects object world dobj dk refl tests front.0 bk front.1 rk
