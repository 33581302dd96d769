-- The moves that lowering is made of preserve the blocks.
use Rattle.std.proofs.Common.{◌≡◌, ℕ, inl, inr, List, [], Option, Some, Ok, refl, sym, subst, arith}
use Rattle.rl_base.specs.declared.diagnostic.Diagnostic.{Diagnostic}
use Rattle.rl_builder.specs.Builder.{ended_by, new_block, pushed, recorded, reserved, with_temporary}
use Rattle.rl_builder.specs.declared.jumps.JumpScope.{JumpScope}
use Rattle.rl_builder.specs.Jumps.{lookup_break, lookup_continue}
use Rattle.rl_builder.specs.Names.{NamesAgree, resolved}
use Rattle.rl_builder.specs.Temporaries.{temporary, unordered, with_value}
use Rattle.rl_hir.specs.declared.function.BlockKind.{BlockKind}
use Rattle.rl_hir.specs.declared.instruction.InstructionValue.{InstructionValue}
use Rattle.rl_hir.specs.declared.instruction.Place.{Place}
use Rattle.rl_hir.specs.declared.terminal.GotoVariant.{GotoVariant}
use Rattle.rl_hir.specs.declared.terminal.ReturnVariant.{ReturnVariant}
use Rattle.rl_hir.specs.declared.terminal.TerminalKind.TheVariants as ends
use Rattle.rl_model.specs.Actions.{Label}
use Rattle.rl_runs.proofs.BlockIds.{ids_fresh, ids_pushed, ids_refl, ids_then}
use Rattle.rl_runs.proofs.Common.{BlockId, Instruction, Span, State}
use Rattle.rl_runs.proofs.Moves.{contained_before, extends_completed, extends_pushed, extends_recorded, extends_refl, extends_reserved}
use Rattle.rl_runs.proofs.Moves.{extends_resolved, extends_temporary, extends_then}
use Rattle.rl_runs.proofs.Naming.{break_is_target, continue_is_target, named_ended, named_first, named_none, named_pushed, named_refl}
use Rattle.rl_runs.proofs.Naming.{named_then, same_targets}
use Rattle.rl_runs.proofs.Points.{empty_settles, settle_completed, settle_goto, settle_pushed, settle_returned, settle_threw}
use Rattle.rl_runs.proofs.Statements.{extends_returned, extends_threw}
use Rattle.rl_runs.proofs.Used.{ends_more, ends_pushed, looped_ended, looped_pushed, notes_back, straight_below, straight_fresh}
use Rattle.rl_runs.proofs.Used.{straight_pushed, straight_then, used_fresh, used_pushed, used_refl, used_then}
use Rattle.rl_runs.specs.Blocks.{IsLedTo, IsTarget, JumpsSettle, PreservesBlocks}
use Rattle.rl_runs.specs.Moves.{ends_by, goto, next_hole, return_of, returned_from, threw_from}

pub blocks_refl : (s : State) → PreservesBlocks s s
blocks_refl s = record {
  extends = extends_refl s;
  ids = ids_refl s.completed s.current.id.0 s.env.next_block;
  used = used_refl s;
  named = named_refl s;
  ended = λ all. all;
  straight = λ id n. inl n;
  settle = λ c cover own below jumps old. old;
  looped = λ c cover entry old. old;
}

-- A part behind another.
pub blocks_then : (a b d : State) → PreservesBlocks a b → PreservesBlocks b d → PreservesBlocks a d
blocks_then a b d first second = record {
  extends = extends_then first.extends second.extends;
  ids = ids_then first.ids second.ids;
  used = used_then a second.extends first.used second.used;
  named =
      named_then a b d first.extends.blocks second.extends.blocks
      (same_targets a b d.env.next_block first.extends.handlers first.extends.scopes) first.named second.named;
  ended = λ all. second.ended (first.ended all);
  straight = straight_then a b d first.extends.blocks second.extends.blocks first.straight second.straight;
  settle = λ c cover own below jumps old.
      second.settle c cover
      (notes_back c a b d d own first.extends.blocks (omega arith) (λ id n. inl n))
      (straight_below a b first.extends.blocks first.straight below)
      (subst (λ (l : List JumpScope). JumpsSettle c l) (sym first.extends.scopes) jumps)
      (first.settle c (contained_before second.extends cover)
      (notes_back c a a b d own (omega arith) second.extends.blocks second.straight) below jumps old);
  looped = λ c cover entry old. second.looped c cover entry (first.looped c (contained_before second.extends cover) entry old);
}

-- Moves that complete no block.

pub blocks_temporary : (s : State) (span : Option Span) → PreservesBlocks s (with_temporary s span)
blocks_temporary s span = record {
  extends = extends_temporary s span;
  ids = ids_refl s.completed s.current.id.0 s.env.next_block;
  used = λ id above below. used_refl s id above below;
  named = named_refl s;
  ended = λ all. all;
  straight = λ id n. inl n;
  settle = λ c cover own below jumps old. old;
  looped = λ c cover entry old. old;
}

pub blocks_recorded : (s : State) (d : Diagnostic) → PreservesBlocks s (recorded s d)
blocks_recorded s d = record {
  extends = extends_recorded s d;
  ids = ids_refl s.completed s.current.id.0 s.env.next_block;
  used = λ id above below. used_refl s id above below;
  named = named_refl s;
  ended = λ all. all;
  straight = λ id n. inl n;
  settle = λ c cover own below jumps old. old;
  looped = λ c cover entry old. old;
}

pub blocks_resolved : (s : State) (name : List ℕ) (symbol : ℕ) (given : Option Span)
    → (NamesAgree s → NamesAgree (resolved s name symbol given)) → PreservesBlocks s (resolved s name symbol given)
blocks_resolved s name symbol given agrees = record {
  extends = extends_resolved s name symbol given agrees;
  ids = ids_refl s.completed s.current.id.0 s.env.next_block;
  used = λ id above below. used_refl s id above below;
  named = named_refl s;
  ended = λ all. all;
  straight = λ id n. inl n;
  settle = λ c cover own below jumps old. old;
  looped = λ c cover entry old. old;
}

-- An instruction, under the innermost handler.
pub blocks_pushed : (s : State) (i : Instruction) → PreservesBlocks s (pushed s i)
blocks_pushed s i = record {
  extends = extends_pushed s i;
  ids = ids_pushed s i;
  used = used_pushed s i;
  named = named_pushed s i;
  ended = ends_pushed s i;
  straight = straight_pushed s i;
  settle = λ c cover own below jumps old. settle_pushed s i c cover old;
  looped = λ c cover entry old. looped_pushed (IsLedTo c entry) s i old;
}

pub blocks_value : (s : State) (value : InstructionValue) (span : Option Span) → PreservesBlocks s (with_value s value span)
blocks_value s value span =
    blocks_then s (with_temporary s span) (with_value s value span) (blocks_temporary s span)
    (blocks_pushed (with_temporary s span) (unordered (temporary s span) value span))

-- A return, behind which a fresh block goes on.
pub blocks_returned : (s : State) (span : Option Span) (variant : ReturnVariant) (place : Place) (kind : BlockKind)
    → PreservesBlocks s (returned_from s span variant place kind)
blocks_returned s span variant place kind = record {
  extends = extends_returned s span variant place kind;
  ids = ids_fresh s (return_of span variant place) kind;
  used = used_fresh s (return_of span variant place) kind;
  named =
      named_ended s (reserved s) (return_of span variant place) (new_block s.env.next_block kind) (λ b one. inl one)
      (λ id is. absurd (named_none id is));
  ended = λ all. ends_more s.completed (ended_by s.current (return_of span variant place)) refl all;
  straight = straight_fresh s (return_of span variant place) kind (λ id n. n);
  settle = λ c cover own below jumps old behind. settle_returned (reserved s) span variant place s.env.next_block kind c cover old;
  looped = λ c cover entry old. looped_ended (IsLedTo c entry) (reserved s) (return_of span variant place) (new_block s.env.next_block kind)
      (λ r. tt) old;
}

-- A throw, behind which a fresh block goes on.
pub blocks_threw : (s : State) (span : Span) (place : Place) (kind : BlockKind) → PreservesBlocks s (threw_from s span place kind)
blocks_threw s span place kind = record {
  extends = extends_threw s span place kind;
  ids = ids_fresh s (ends_by (ends.Throw place) (Some span)) kind;
  used = used_fresh s (ends_by (ends.Throw place) (Some span)) kind;
  named =
      named_ended s (reserved s) (ends_by (ends.Throw place) (Some span)) (new_block s.env.next_block kind) (λ b one. inl one)
      (λ id is. absurd (named_none id is));
  ended = λ all. ends_more s.completed (ended_by s.current (ends_by (ends.Throw place) (Some span))) refl all;
  straight = straight_fresh s (ends_by (ends.Throw place) (Some span)) kind (λ id n. n);
  settle = λ c cover own below jumps old behind. settle_threw (reserved s) span place s.env.next_block kind c cover old;
  looped = λ c cover entry old. looped_ended (IsLedTo c entry) (reserved s) (ends_by (ends.Throw place) (Some span))
      (new_block s.env.next_block kind) (λ r. tt) old;
}

-- A jump to a target, behind which a fresh block goes on.
pub blocks_jumped : (s : State) (target : ℕ) (variant : GotoVariant) (span : Span) (kind : BlockKind)
    → ((handlers : List BlockId) → IsTarget handlers s.scopes target) → PreservesBlocks s (next_hole s target variant span kind)
blocks_jumped s target variant span kind to = record {
  extends =
      extends_then (extends_reserved s)
      (extends_completed (reserved s) (goto target variant span) (new_block s.env.next_block kind) (λ none. refl));
  ids = ids_fresh s (goto target variant span) kind;
  used = used_fresh s (goto target variant span) kind;
  named = named_ended s (reserved s) (goto target variant span) (new_block s.env.next_block kind) (λ b one. inl one)
      (λ id is. elim (named_first id (record { 0 = target }) [] is) [
        | inl e ↦ inr (subst (λ (n : ℕ). IsTarget s.handlers s.scopes n) (sym e) (to s.handlers))
        | inr never ↦ absurd (named_none id never)
      ]);
  ended = λ all. ends_more s.completed (ended_by s.current (goto target variant span)) refl all;
  straight = straight_fresh s (goto target variant span) kind (λ id n. n);
  settle = λ c cover own below jumps old behind.
      settle_completed (reserved s) (goto target variant span) (new_block s.env.next_block kind) c
      (settle_goto (reserved s) target variant span (new_block s.env.next_block kind) c cover (jumps target (to []))) old
      (empty_settles c s.env.next_block);
  looped = λ c cover entry old. looped_ended (IsLedTo c entry) (reserved s) (goto target variant span) (new_block s.env.next_block kind)
      (λ r. tt) old;
}

pub blocks_broken : (s : State) (label : Label) (target : BlockId) (variant : GotoVariant) (span : Span) (kind : BlockKind)
    → lookup_break s.scopes label ≡ Ok target
    → PreservesBlocks s (next_hole s target.0 variant span kind)
blocks_broken s label target variant span kind is =
    blocks_jumped s target.0 variant span kind (λ handlers. break_is_target handlers s.scopes label target is)

pub blocks_continued : (s : State) (label : Label) (target : BlockId) (variant : GotoVariant) (span : Span) (kind : BlockKind)
    → lookup_continue s.scopes label ≡ Ok target
    → PreservesBlocks s (next_hole s target.0 variant span kind)
blocks_continued s label target variant span kind is =
    blocks_jumped s target.0 variant span kind (λ handlers. continue_is_target handlers s.scopes label target is)
