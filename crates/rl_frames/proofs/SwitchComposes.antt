-- The frame of a `switch`: its parts behind one more case, and its last clause.
use Rattle.std.proofs.Common.{◌≡◌, ◌||◌, is_some, List, [], ◌∷◌, reverse, Option, Some, None, refl, sym, ap, ◌∙◌, subst}
use Rattle.std.proofs.lemmas.List.{reverse-append, reverse-reverse}
use Rattle.rl_builder.specs.Builder.{completed_by, new_block}
use Rattle.rl_frames.proofs.Common.{Label, Place, Span, State}
use Rattle.rl_frames.proofs.SwitchBlocks.{cases_then, switch_blocks}
use Rattle.rl_frames.proofs.SwitchRuns.{switch_runs}
use Rattle.rl_frames.specs.SwitchCases.{SwitchComposes}
use Rattle.rl_frames.specs.SwitchMeanings.{selecting}
use Rattle.rl_frames.specs.SwitchParts.{SwitchParts, is_default, switch_after_done, switch_after_enter, switch_after_leave, switch_at}
use Rattle.rl_frames.specs.SwitchParts.{switch_ended, switch_finished, with_default}
use Rattle.rl_hir.specs.declared.function.BlockKind.TheVariants as block
use Rattle.rl_hir.specs.declared.terminal.Case.{Case}
use Rattle.rl_hir.specs.declared.terminal.TerminalKind.TheVariants as kinds
use Rattle.rl_machine.specs.Machine.{default_case, or_default}
use Rattle.rl_runs.specs.Blocks.{PreservesBlocks}
use Rattle.rl_runs.specs.Moves.{block_id, ends_by}
use Rattle.rl_runs.specs.Simulation.{RunsStatement}

-- The parts behind one more case.
pub switch_at_more : (s x : State) (span : Span) (own : Label) (cases : List Case) (test : Option Place)
    → switch_after_done (switch_after_leave (switch_after_enter (switch_at s span own cases) x)) test
    ≡ switch_at s span own (record { test = test; block = block_id x.env.next_block } ∷ cases)
switch_at_more s x span own cases test =
    ap (λ (l : List Case). record (switch_at s span own (more ∷ cases)) { cases = l; has_default = is_default test || is_some (default_case cases) })
    (sym (reverse-append (more ∷ []) cases))
    ∙ ap (λ b. record (switch_at s span own (more ∷ cases)) { has_default = b }) (known test)
  where
    more : Case
    more = record { test = test; block = block_id x.env.next_block }

    known : (t : Option Place) → (is_default t || is_some (default_case cases)) ≡ is_some (or_default t more.block (default_case cases))
    known None = refl
    known (Some place) = refl

-- The state behind the value.
pub switch_ended_at : (s old : State) (span : Span) (own : Label) (cases : List Case) (value : Place)
    → switch_ended (switch_at s span own cases) old value ≡ switch_finished old s.env.next_block cases value span
switch_ended_at s old span own cases value =
    ap (λ (l : List Case). completed_by old
    (ends_by (kinds.Switch value (with_default (is_some (default_case cases)) l s.env.next_block) (block_id s.env.next_block)) (Some span))
    (new_block s.env.next_block block.Block)) (reverse-reverse cases)

pub switch_composes : (f : SwitchParts) (old new : State) (value : Place) → new ≡ switch_ended f old value
    → SwitchComposes f old new value
switch_composes f old new value ended = record {
  all = λ s x span own cases world ms d is px rx b r.
      let at : new ≡ switch_finished old s.env.next_block cases value span = ended ∙ ap (λ (g : SwitchParts). switch_ended g old value) is ∙ switch_ended_at s old span own cases value in
      subst (λ (z : State). PreservesBlocks s z × RunsStatement world (selecting world own ms d) s z) (sym at)
      (switch_blocks s old cases value span (cases_then s x old cases px b), switch_runs s x old own cases value span px.extends b.extends world ms d rx r);
}

-- As the last call of a `SwitchFrame` says it.
pub switch_finish : (f : SwitchParts) (old new : State) (value : Place) (listed : List Case)
    → listed ≡ with_default f.has_default (reverse f.cases) f.behind.id.0
    → new ≡ completed_by old (ends_by (kinds.Switch value listed f.behind.id) (Some f.span)) f.behind → SwitchComposes f old new value
switch_finish f old new value listed are ended =
    switch_composes f old new value
    (ended ∙ ap (λ (l : List Case). completed_by old (ends_by (kinds.Switch value l f.behind.id) (Some f.span)) f.behind) are)
