-- The frames' clauses: what each makes of the runs of its holes.
use Rattle.std.proofs.Common.{◌≡◌, ℕ, ◌+◌, List, length, Some, sym, ap, ◌∙◌, subst}
use Rattle.rl_builder.specs.Builder.{completed_by, pushed, with_handler, with_scope}
use Rattle.rl_builder.specs.declared.jumps.JumpScope.{JumpScope}
use Rattle.rl_frames.proofs.Common.{BlockId, Place, Span, State}
use Rattle.rl_frames.proofs.ForBlocks.{for_blocks, for_blocks_plain}
use Rattle.rl_frames.proofs.ForRuns.{for_runs, for_runs_plain}
use Rattle.rl_frames.proofs.Ifs.{if_runs, if_then_runs}
use Rattle.rl_frames.proofs.IfThenBlocks.{if_then_blocks}
use Rattle.rl_frames.proofs.LabelFrames.{label_blocks, label_runs}
use Rattle.rl_frames.proofs.Logicals.{logical_runs}
use Rattle.rl_frames.proofs.Loops.{do_while_runs, while_runs}
use Rattle.rl_frames.proofs.Sequences.{sequence_blocks, sequence_runs}
use Rattle.rl_frames.proofs.Ternaries.{ternary_runs}
use Rattle.rl_frames.proofs.ValueFrames.{logical_blocks, ternary_blocks}
use Rattle.rl_frames.proofs.Tries.{try_runs}
use Rattle.rl_frames.proofs.TryBlocks.{try_blocks}
use Rattle.rl_frames.proofs.Wholes.{do_while_blocks, if_blocks, while_blocks}
use Rattle.rl_frames.specs.Frames.{DoWhileComposes, ForComposes, ForParts, for_ended}
use Rattle.rl_frames.specs.Frames.{IfComposes, IfParts, LabelComposes, LabelParts, LogicalComposes, LogicalParts}
use Rattle.rl_frames.specs.Frames.{SequenceComposes, SequenceParts, TernaryComposes, TernaryParts, TryComposes, TryParts, WhileComposes}
use Rattle.rl_frames.specs.Frames.{WhileParts, if_ended, label_at, label_ended, logical_after, logical_at, logical_ended}
use Rattle.rl_frames.specs.Frames.{sequence_at, sequence_ended, ternary_after, ternary_at, ternary_ended, ternary_parted, while_ended}
use Rattle.rl_frames.specs.Meanings.{chosen, connected, do_looped, for_looped, looped, selected}
use Rattle.rl_frames.specs.Frames.{try_after, try_at, try_ended}
use Rattle.rl_frames.specs.Parts.{for_finished, if_finished, loads, try_end, while_finished}
use Rattle.rl_hir.specs.declared.terminal.GotoVariant.TheVariants as gotos
use Rattle.rl_hir.specs.declared.terminal.Terminal.{Terminal}
use Rattle.rl_hir.specs.declared.terminal.TerminalKind.TheVariants as kinds
use Rattle.rl_model.specs.Actions.{catching, done, labeled}
use Rattle.rl_runs.proofs.Holes.{front_added}
use Rattle.rl_runs.proofs.Preserving.{blocks_then}
use Rattle.rl_runs.specs.Blocks.{PreservesBlocks}
use Rattle.rl_runs.specs.Moves.{block_id, branch, ends_by, goto, last_hole, stored_in, without_handler, without_scope}
use Rattle.rl_runs.specs.Simulation.{RunsExpression, RunsStatement}

pub if_composes : (f : IfParts) (old new : State) (test : Place) → new ≡ if_ended f old test → IfComposes f old new test
if_composes f old new test ended = record {
  both = λ s s2 s3 span part other world dt dc da is gc ga gt rc ra rt.
      let at : new ≡ if_finished old s.env.next_block (s.env.next_block + 1) s2.env.next_block test span = ended ∙ ap (λ (g : IfParts). if_ended g old test) is in
      subst (λ (z : State). PreservesBlocks s z × RunsStatement world (chosen world dt dc da) s z) (sym at)
      (if_blocks s s2 s3 old test span part other gc ga gt, if_runs s s2 s3 old test span part other gc.extends ga.extends gt.extends world dt dc da rc ra rt);
  one = λ s s2 span part world dt dc is gc gt rc rt.
      let at : new ≡ if_finished old s.env.next_block (s.env.next_block + 1) s.env.next_block test span = ended ∙ ap (λ (g : IfParts). if_ended g old test) is in
      subst (λ (z : State). PreservesBlocks s z × RunsStatement world (chosen world dt dc done) s z) (sym at)
      (if_then_blocks s s2 old test span part gc gt, if_then_runs s s2 old test span part gc.extends gt.extends world dt dc rc rt);
}

pub logical_composes : (f : LogicalParts) (old new : State) (value : Place) → new ≡ logical_ended f old value
    → LogicalComposes f old new value
logical_composes f old new value ended = record {
  both = λ s s2 span left part operator right_value world dl dr is br bl rr rl.
      let at : new ≡ logical_ended (logical_after (logical_at s span operator left)) old value = ended ∙ ap (λ (g : LogicalParts). logical_ended g old value) is in
      subst (λ (p : ℕ). PreservesBlocks s new × RunsExpression world (connected world operator dl dr) s new p)
      (sym (ap (λ (g : LogicalParts). g.place.identifier.0) is))
      (subst (λ (z : State). PreservesBlocks s z × RunsExpression world (connected world operator dl dr) s z (length s.env.identifiers))
      (sym at)
      (logical_blocks s s2 old operator right_value value span left part br bl, logical_runs s s2 old operator right_value value span left part br.extends bl.extends world dl dr rr rl));
}

-- As the last call of a `Logical` says it.
pub logical_finish : (f : LogicalParts) (old mid new : State) (value : Place) → mid ≡ pushed old (loads f.left value f.span)
    → new ≡ completed_by mid (branch f.left f.consequent f.alternate f.behind.id.0 f.span) f.behind → LogicalComposes f old new value
logical_finish f old mid new value loaded ended =
    logical_composes f old new value
    (ended ∙ ap (λ (s : State). completed_by s (branch f.left f.consequent f.alternate f.behind.id.0 f.span) f.behind) loaded)

pub ternary_composes : (f : TernaryParts) (old new : State) (test : Place) → new ≡ ternary_ended f old test → TernaryComposes f old new test
ternary_composes f old new test ended = record {
  both = λ s s2 s3 span part other consequent alternate world dt dc da is bc ba bt rc ra rt.
      let at : new ≡ ternary_ended (ternary_after (ternary_parted (ternary_at s span) s2 consequent part)) old test = ended ∙ ap (λ (g : TernaryParts). ternary_ended g old test) is in
      subst (λ (p : ℕ). PreservesBlocks s new × RunsExpression world (selected world dt dc da) s new p)
      (sym (ap (λ (g : TernaryParts). g.place.identifier.0) is))
      (subst (λ (z : State). PreservesBlocks s z × RunsExpression world (selected world dt dc da) s z (length s.env.identifiers)) (sym at)
      (ternary_blocks s s2 s3 old consequent alternate test span part other bc ba bt, ternary_runs s s2 s3 old consequent alternate test span part other bc.extends ba.extends bt.extends world dt dc da rc ra rt));
}

pub sequence_composes : (f : SequenceParts) (old new : State) (value : Place) (part : Span) → new ≡ sequence_ended f old value part
    → SequenceComposes f old new value
sequence_composes f old new value part ended = record {
  all = λ s span world d is b r.
      let at : new ≡ sequence_ended (sequence_at s span) old value part = ended ∙ ap (λ (g : SequenceParts). sequence_ended g old value part) is in
      subst (λ (p : ℕ). PreservesBlocks s new × RunsExpression world d s new p) (sym (ap (λ (g : SequenceParts). g.place.identifier.0) is))
      (subst (λ (z : State). PreservesBlocks s z × RunsExpression world d s z (length s.env.identifiers)) (sym at)
      (sequence_blocks s old value span part b, sequence_runs s old value span part b.extends world d r));
}

-- As the last call of a `SequenceFrame` says it.
pub sequence_finish : (f : SequenceParts) (old mid shut new : State) (end : Terminal) (value : Place) (part : Span)
    → mid ≡ stored_in old f.place value part → end ≡ goto f.behind.id.0 gotos.Break part → shut ≡ completed_by mid end f.outer
    → new ≡ completed_by shut (ends_by (kinds.Sequence (record { 0 = f.block }) f.behind.id) (Some f.span)) f.behind
    → SequenceComposes f old new value
sequence_finish f old mid shut new end value part stored goes left ended =
    sequence_composes f old new value part
    (ended ∙ ap (λ (s : State). completed_by s (ends_by (kinds.Sequence (record { 0 = f.block }) f.behind.id) (Some f.span)) f.behind)
    (left ∙ ap (λ (t : Terminal). completed_by mid t f.outer) goes
    ∙ ap (λ (s : State). last_hole s f.behind.id.0 gotos.Break part f.outer) stored))

pub while_composes : (f : WhileParts) (old new : State) (value : Place) → new ≡ while_ended f old value → WhileComposes f old new value
while_composes f old new value ended = record {
  both = λ s s2 span part label world dt db is gb gt pt rb rt.
      let at : new ≡ while_finished old s.env.next_block span value = ended ∙ ap (λ (g : WhileParts). while_ended g old value) is in
      subst (λ (z : State). PreservesBlocks s z × RunsStatement world (looped world label dt db) s z) (sym at)
      (while_blocks s s2 old label value span part gb gt pt, while_runs s s2 old label value span part gb.extends gt.extends world dt db rb rt);
}

pub do_while_composes : (f : WhileParts) (old new : State) (value : Place) → new ≡ while_ended f old value → DoWhileComposes f old new value
do_while_composes f old new value ended = record {
  both = λ s s2 span part label world dt db is gb gt rb rt.
      let at : new ≡ while_finished old s.env.next_block span value = ended ∙ ap (λ (g : WhileParts). while_ended g old value) is in
      subst (λ (z : State). PreservesBlocks s z × RunsStatement world (do_looped world label dt db) s z) (sym at)
      (do_while_blocks s s2 old label value span part gb gt, do_while_runs s s2 old label value span part gb.extends gt.extends world dt db rb rt);
}

pub for_composes : (f : ForParts) (old new : State) (value : Place) → new ≡ for_ended f old value → ForComposes f old new value
for_composes f old new value ended = record {
  both = λ s s2 s3 s4 span part other last label world di dt du db is bi bu bb bt pi pt ri ru rb rt.
      let at : new ≡ for_finished old s.env.next_block s3.env.next_block span value = ended ∙ ap (λ (g : ForParts). for_ended g old value) is in
      subst (λ (z : State). PreservesBlocks s z × RunsStatement world (for_looped world label di dt du db) s z) (sym at) (
        for_blocks s s2 s3 s4 old label value span part other last bi bu bb bt pi pt,
        for_runs s s2 s3 s4 old label value span part other last bi.extends bu.extends bb.extends bt.extends world di dt du db ri ru rb rt,
      );
  one = λ s s2 s3 span part last label world di dt db is bi bb bt pi pt ri rb rt.
      let at : new ≡ for_finished old s.env.next_block s2.env.next_block span value = ended ∙ ap (λ (g : ForParts). for_ended g old value) is in
      subst (λ (z : State). PreservesBlocks s z × RunsStatement world (for_looped world label di dt done db) s z) (sym at) (
        for_blocks_plain s s2 s3 old label value span part last bi bb bt pi pt,
        for_runs_plain s s2 s3 old label value span part last bi.extends bb.extends bt.extends world di dt db ri rb rt,
      );
}

pub label_composes : (f : LabelParts) (old new : State) (part : Span) → new ≡ label_ended f old part → LabelComposes f old new
label_composes f old new part ended = record {
  all = λ s span own world d is b r.
      let at : new ≡ label_ended (label_at s span) old part = ended ∙ ap (λ (g : LabelParts). label_ended g old part) is in
      subst (λ (z : State). PreservesBlocks s z × RunsStatement world (labeled own d) s z) (sym at)
      (label_blocks s old own span part b, label_runs s old own span part b.extends world d r);
}

-- The innermost scope was closed.
pub closed_scope : (old mid : State) → (scope : JumpScope) × (old ≡ with_scope mid scope) → mid ≡ without_scope old
closed_scope old mid last =
    sym (ap without_scope last.1 ∙ ap (λ (l : List JumpScope). record mid { scopes = l }) (front_added mid.scopes last.0))

-- As the last call of a `LabelFrame` says it.
pub label_finish : (f : LabelParts) (old mid shut new : State) (end : Terminal) (part : Span)
    → (scope : JumpScope) × (old ≡ with_scope mid scope) → end ≡ goto f.behind.id.0 gotos.Break part → shut ≡ completed_by mid end f.outer
    → new ≡ completed_by shut (ends_by (kinds.Label (block_id f.block) f.behind.id) (Some f.span)) f.behind → LabelComposes f old new
label_finish f old mid shut new end part closed goes left ended =
    label_composes f old new part
    (ended ∙ ap (λ (s : State). completed_by s (ends_by (kinds.Label (block_id f.block) f.behind.id) (Some f.span)) f.behind)
    (left ∙ ap (λ (t : Terminal). completed_by mid t f.outer) goes
    ∙ ap (λ (s : State). last_hole s f.behind.id.0 gotos.Break part f.outer) (closed_scope old mid closed)))

pub try_composes : (f : TryParts) (old new : State) (part : Span) → new ≡ try_ended f old part → TryComposes f old new
try_composes f old new other ended = record {
  both = λ z s s2 span part binding world db dh is bz position pairs fresh bh bb rh rb.
      let at : new ≡ try_ended (try_after (try_at s span binding) s2) old other = ended ∙ ap (λ (g : TryParts). try_ended g old other) is in
      subst (λ (y : State). PreservesBlocks z y × RunsStatement world (catching db dh) z y) (sym at) (
        blocks_then z s _ bz
            (try_blocks s s2 old binding span part other bh bb),
        try_runs z s s2 old binding span part other bz.extends bh.extends bb.extends position pairs fresh world db dh rh rb,
      );
}

-- The innermost handler was closed.
pub closed_handler : (old mid : State) → (handler : BlockId) × (old ≡ with_handler mid handler) → mid ≡ without_handler old
closed_handler old mid last =
    sym (ap without_handler last.1 ∙ ap (λ (l : List BlockId). record mid { handlers = l }) (front_added mid.handlers last.0))

-- As the last call of a `TryFrame` says it.
pub try_finish : (f : TryParts) (old mid shut new : State) (end : Terminal) (part : Span)
    → (handler : BlockId) × (old ≡ with_handler mid handler) → end ≡ goto f.behind.id.0 gotos.Try part → shut ≡ completed_by mid end f.outer
    → new ≡ completed_by shut (try_end f.behind.id.0 f.handler f.body f.binding f.span) f.behind → TryComposes f old new
try_finish f old mid shut new end part closed goes left ended =
    try_composes f old new part
    (ended ∙ ap (λ (s : State). completed_by s (try_end f.behind.id.0 f.handler f.body f.binding f.span) f.behind)
    (left ∙ ap (λ (t : Terminal). completed_by mid t f.outer) goes
    ∙ ap (λ (s : State). last_hole s f.behind.id.0 gotos.Try part f.outer) (closed_handler old mid closed)))
