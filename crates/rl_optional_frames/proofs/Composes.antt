-- The frames' clauses: what each makes of the runs of its holes.
use Rattle.std.proofs.Common.{◌≡◌, ℕ, ◌+◌, ◌<◌, Bool, false, List, length, length-append, Some, None, refl, sym, ap, ◌∙◌, subst, arith}
use Rattle.rl_base.specs.declared.ids.BlockId.{BlockId}
use Rattle.rl_base.specs.declared.span.Span.{Span}
use Rattle.rl_builder.specs.Builder.{State, completed_by}
use Rattle.rl_builder.specs.Temporaries.{temporary}
use Rattle.rl_frames.proofs.Links.{chain_runs}
use Rattle.rl_frames.specs.Parts.{chain_begun, chain_reserved, link_begun, link_finished, link_object}
use Rattle.rl_hir.specs.declared.instruction.InstructionKind.TheVariants as variables
use Rattle.rl_hir.specs.declared.instruction.InstructionValue.TheVariants as values
use Rattle.rl_hir.specs.declared.instruction.Place.{Place}
use Rattle.rl_hir.specs.declared.terminal.Terminal.{Terminal}
use Rattle.rl_hir.specs.declared.terminal.TerminalKind.TheVariants as kinds
use Rattle.rl_machine.specs.declared.trace.Value.{Value}
use Rattle.rl_machine.specs.declared.trace.Value.TheVariants.{Undefined}
use Rattle.rl_machine.specs.Machine.{Code}
use Rattle.rl_machine.specs.Traces.{World}
use Rattle.rl_model.specs.Actions.{Action, chained}
use Rattle.rl_optional_frames.proofs.DefaultBlocks.{default_blocks}
use Rattle.rl_optional_frames.proofs.DefaultRuns.{default_runs}
use Rattle.rl_optional_frames.proofs.LinkBlocks.{link_blocks, link_extends}
use Rattle.rl_optional_frames.proofs.LinkRuns.{links_run}
use Rattle.rl_optional_frames.proofs.LinkStarts.{StartsLink, early_below, early_extends, inner_starts, outer_starts}
use Rattle.rl_optional_frames.proofs.LinkValues.{one_link}
use Rattle.rl_optional_frames.proofs.Reaching.{blocks_of_link}
use Rattle.rl_optional_frames.specs.Frames.{DefaultComposes, DefaultParts, LinkComposes, LinkParts, default_at, default_ended, link_after}
use Rattle.rl_optional_frames.specs.Frames.{link_at, link_ended}
use Rattle.rl_optional_frames.specs.Links.{LinkBlocks, RunsOnAll}
use Rattle.rl_optional_frames.specs.Meanings.{defaulted, handed, linked_over, linked_values, tested_of}
use Rattle.rl_optional_frames.specs.Parts.{compared, comparison, default_begins, default_given, default_other}
use Rattle.rl_runs.proofs.FinalNames.{nobody_fresh}
use Rattle.rl_runs.proofs.Moves.{contained_before, extends_refl}
use Rattle.rl_runs.proofs.Preserving.{blocks_then, blocks_value}
use Rattle.rl_runs.specs.Blocks.{PreservesBlocks}
use Rattle.rl_runs.specs.Facts.{Extends, HasSoundNames, IsContainedIn, Nobody}
use Rattle.rl_runs.specs.Moves.{block_id, branch, ends_by, stored_in}
use Rattle.rl_runs.specs.Simulation.{RunsExpression, RunsLink, RunsLinks, RunsOn}

pub default_composes : (f : DefaultParts) (old new : State) (default : Place) → new ≡ default_ended f old default
    → DefaultComposes f old new default
default_composes f old new default ended = record {
  all = λ s span value world d is b r.
      let at : new ≡ default_ended (default_at s span value) old default =
      ended ∙ ap (λ (g : DefaultParts). default_ended g old default) is in
      subst (λ (p : ℕ). PreservesBlocks s new × RunsOn world (defaulted world d) s new value.identifier.0 p)
      (sym (ap (λ (g : DefaultParts). g.place.identifier.0) is))
      (subst (λ (z : State). PreservesBlocks s z × RunsOn world (defaulted world d) s z value.identifier.0 (length s.env.identifiers))
      (sym at)
      (default_blocks s old default value span b, default_runs s old default value span b.extends world d r));
}

-- A link, from a state in which it may begin.
module _ (s x s2 s4 : State) (optional : Bool) (object value : Place) (objects : List ℕ) (a : ℕ) (span : Span)
    (st : StartsLink s x s.env.next_block (s.env.next_block + 1))
    (named : (c : Code) → IsContainedIn x c → HasSoundNames s → Nobody c.ident (length s.env.identifiers))
    (below : length s.env.identifiers < length x.env.identifiers) (tests : tested_of objects ≡ Some object.identifier.0) where
  abbrev n : ℕ
  n = s.env.next_block

  abbrev place : Place
  place = temporary s (Some span)

  abbrev pub last : State
  last = link_finished s4 n x.env.next_block optional s.current.kind span place value x.current

  module _ (bo : LinkBlocks a (link_begun x) s2)
      (bk : PreservesBlocks (link_object s2 s.env.next_block (s.env.next_block + 1) a span object) s4) where
    pub whole_blocks : LinkBlocks a s last
    whole_blocks =
        link_blocks s x s2 (stored_in s4 place value span) optional object n (n + 1) a s.current.kind span st bo
        (blocks_then (link_object s2 n (n + 1) a span object) s4 (stored_in s4 place value span) bk
        (blocks_value s4 (values.StoreLocal variables.Const place value) (Some span)))

    pub whole_runs : (lends : Bool) (world : World) (dobj : Action (List Value)) (dk : List Value → Action Value)
        → RunsLinks world dobj (link_begun x) s2 a objects
        → RunsOnAll world dk (link_object s2 s.env.next_block (s.env.next_block + 1) a span object) s4 objects value.identifier.0
        → RunsLinks world (linked_values world optional lends dobj dk) s last a (handed lends objects (length s.env.identifiers))
    whole_runs lends world dobj dk ro rk =
        links_run s x s2 s4 optional lends place object value objects n (n + 1) a s.current.kind span st.extends st.position named
        st.behind_since st.behind_below (omega arith) below tests bo.extends bk.extends world dobj dk ro rk

-- The place of a link is made before its hole opens.

made_place : (s : State) (span : Span) → length (chain_reserved s span).env.identifiers ≡ length s.env.identifiers + 1
made_place s span = simp length-append (omega arith)

place_free : (s x : State) (span : Span) → Extends (chain_reserved s span) x → (c : Code) → IsContainedIn x c → HasSoundNames s
    → Nobody c.ident (length s.env.identifiers)
place_free s x span g c cover sound =
    nobody_fresh s (length (chain_reserved s span).env.identifiers) c.ident (length s.env.identifiers) sound
    (contained_before g cover).names (omega arith) (omega (arith, made_place s span))

at_inner : (s : State) (span : Span) → length s.env.identifiers < length (chain_reserved s span).env.identifiers
at_inner s span = omega (arith, made_place s span)

-- A link inside a chain: the state in which it begins is that in which its blocks are numbered.
inner_composes : (s s2 s4 : State) (span : Span) (optional lends : Bool) (alternate : BlockId) (objects : List ℕ) (object value : Place)
    (world : World) (dobj : Action (List Value)) (dk : List Value → Action Value)
    → tested_of objects ≡ Some object.identifier.0
    → LinkBlocks alternate.0 (link_begun (chain_reserved s span)) s2
    → PreservesBlocks (link_object s2 s.env.next_block (s.env.next_block + 1) alternate.0 span object) s4
    → RunsLinks world dobj (link_begun (chain_reserved s span)) s2 alternate.0 objects
    → RunsOnAll world dk (link_object s2 s.env.next_block (s.env.next_block + 1) alternate.0 span object) s4 objects value.identifier.0
    → LinkBlocks alternate.0 s
    (link_ended (link_after (link_at s span optional (Some alternate))) s4 value)
    × RunsLinks world (linked_values world optional lends dobj dk) s
    (link_ended (link_after (link_at s span optional (Some alternate))) s4 value) alternate.0
    (handed lends objects (length s.env.identifiers))
inner_composes s s2 s4 span optional lends alternate objects object value world dobj dk tests bo bk ro rk = (
  whole_blocks s (chain_reserved s span) s2 s4 optional object value objects alternate.0 span (inner_starts s span) named
      (at_inner s span) tests bo bk,
  whole_runs s (chain_reserved s span) s2 s4 optional object value objects alternate.0 span (inner_starts s span) named
      (at_inner s span) tests bo bk lends world dobj dk ro rk,
)
  where
    named : (c : Code) → IsContainedIn (chain_reserved s span) c → HasSoundNames s → Nobody c.ident (length s.env.identifiers)
    named c cover sound = place_free s (chain_reserved s span) span (extends_refl (chain_reserved s span)) c cover sound

-- The outermost link.
outer_composes : (s s2 s4 : State) (span : Span) (optional : Bool) (objects : List ℕ) (object value : Place) (world : World)
    (dobj : Action (List Value)) (dk : List Value → Action Value)
    → tested_of objects ≡ Some object.identifier.0
    → LinkBlocks (s.env.next_block + 1 + 1) (link_begun (chain_begun s span)) s2
    → PreservesBlocks (link_object s2 s.env.next_block (s.env.next_block + 1) (s.env.next_block + 1 + 1) span object) s4
    → RunsLinks world dobj (link_begun (chain_begun s span)) s2 (s.env.next_block + 1 + 1) objects
    → RunsOnAll world dk (link_object s2 s.env.next_block (s.env.next_block + 1) (s.env.next_block + 1 + 1) span object) s4 objects
    value.identifier.0
    → PreservesBlocks s (link_ended (link_after (link_at s span optional None)) s4 value)
    × RunsExpression world (chained Undefined (linked_over world optional dobj dk)) s
    (link_ended (link_after (link_at s span optional None)) s4 value) (length s.env.identifiers)
outer_composes s s2 s4 span optional objects object value world dobj dk tests bo bk ro rk =
    (blocks_of_link a s ended (omega arith) below_end blocks, chain_runs s ended span from_begun world link refl runs)
  where
    link : Action Value
    link = linked_over world optional dobj dk

    x : State
    x = chain_begun s span

    a : ℕ
    a = s.env.next_block + 1 + 1

    ended : State
    ended = link_ended (link_after (link_at s span optional None)) s4 value

    starts : StartsLink s x s.env.next_block (s.env.next_block + 1)
    starts = outer_starts s span

    from_reserved : Extends (chain_reserved s span) x
    from_reserved = early_extends s span

    named : (c : Code) → IsContainedIn x c → HasSoundNames s → Nobody c.ident (length s.env.identifiers)
    named c cover sound = place_free s x span from_reserved c cover sound

    below : length s.env.identifiers < length x.env.identifiers
    below = omega (arith, made_place s span, from_reserved.identifiers)

    blocks : LinkBlocks a s ended
    blocks = whole_blocks s x s2 s4 optional object value objects a span starts named below tests bo bk

    runs : RunsLink world link s ended a (length s.env.identifiers)
    runs =
        one_link world s ended link a (length s.env.identifiers)
        (whole_runs s x s2 s4 optional object value objects a span starts named below tests bo bk false world dobj dk ro rk)

    from_begun : Extends x ended
    from_begun =
        link_extends s x s2 (stored_in s4 (temporary s (Some span)) value span) optional object s.env.next_block
        (s.env.next_block + 1) a s.current.kind span starts bo
        (blocks_then (link_object s2 s.env.next_block (s.env.next_block + 1) a span object) s4 _ bk
        (blocks_value s4 (values.StoreLocal variables.Const (temporary s (Some span)) value) (Some span)))

    below_end : a < ended.env.next_block
    below_end = omega (arith, early_below s span, from_begun.blocks)

pub link_composes : (f : LinkParts) (old new : State) (value : Place) → new ≡ link_ended f old value → LinkComposes f old new value
link_composes f old new value ended = record {
  inner = λ s s2 span optional lends alternate objects object world dobj dk is tests bo bk ro rk.
      let at : new ≡ link_ended (link_after (link_at s span optional (Some alternate))) old value =
      ended ∙ ap (λ (g : LinkParts). link_ended g old value) is in
      subst (λ (p : ℕ). LinkBlocks alternate.0 s new
      × RunsLinks world (linked_values world optional lends dobj dk) s new alternate.0 (handed lends objects p))
      (sym (ap (λ (g : LinkParts). g.place.identifier.0) is))
      (subst (λ (z : State). LinkBlocks alternate.0 s z
      × RunsLinks world (linked_values world optional lends dobj dk) s z alternate.0 (handed lends objects (length s.env.identifiers)))
      (sym at)
      (inner_composes s s2 old span optional lends alternate objects object value world dobj dk tests bo bk ro rk));
  outer = λ s s2 span optional objects object world dobj dk is tests bo bk ro rk.
      let at : new ≡ link_ended (link_after (link_at s span optional None)) old value =
      ended ∙ ap (λ (g : LinkParts). link_ended g old value) is in
      let block : f.alternate.0 ≡ s.env.next_block + 1 + 1 = ap (λ (g : LinkParts). g.alternate.0) is in
      subst (λ (p : ℕ). PreservesBlocks s new × RunsExpression world (chained Undefined (linked_over world optional dobj dk)) s new p)
      (sym (ap (λ (g : LinkParts). g.place.identifier.0) is))
      (subst (λ (z : State). PreservesBlocks s z
      × RunsExpression world (chained Undefined (linked_over world optional dobj dk)) s z (length s.env.identifiers)) (sym at)
      (outer_composes s s2 old span optional objects object value world dobj dk tests
      (subst (λ (b : ℕ). LinkBlocks b (link_begun (chain_begun s span)) s2) block bo) bk
      (subst (λ (b : ℕ). RunsLinks world dobj (link_begun (chain_begun s span)) s2 b objects) block ro) rk));
}

-- As the moves of `DefaultValue::finish` say it, one after the other.
pub default_closed : (f : DefaultParts) (old given begun met new : State) (default test : Place) (other : BlockId) (end : Terminal)
    → given ≡ default_given old f.behind.id.0 f.place default f.span → other ≡ block_id (default_other old f.place default f.span)
    → begun ≡ default_begins given f.test f.behind.id.0 f.place f.value f.span f.outer
    → met ≡ compared begun f.value f.span → test ≡ comparison begun f.span
    → end ≡ ends_by (kinds.Branch test (block_id f.consequent) other f.behind.id) (Some f.span) → new ≡ completed_by met end f.behind
    → new ≡ default_ended f old default
default_closed f old given begun met new default test other end gives others begins meets tests ends closes =
    closes
    ∙ ap (λ (t : Terminal). completed_by met t f.behind)
    (ends ∙ ap (λ (p : Place). ends_by (kinds.Branch p (block_id f.consequent) other f.behind.id) (Some f.span)) tests
    ∙ ap (λ (b : BlockId). ends_by (kinds.Branch (comparison begun f.span) (block_id f.consequent) b f.behind.id) (Some f.span)) others)
    ∙ ap (λ (z : State). completed_by z
    (branch (comparison begun f.span) f.consequent (default_other old f.place default f.span) f.behind.id.0 f.span) f.behind) meets
    ∙ ap (λ (y : State). completed_by (compared y f.value f.span)
    (branch (comparison y f.span) f.consequent (default_other old f.place default f.span) f.behind.id.0 f.span) f.behind)
    (begins ∙ ap (λ (x : State). default_begins x f.test f.behind.id.0 f.place f.value f.span f.outer) gives)
