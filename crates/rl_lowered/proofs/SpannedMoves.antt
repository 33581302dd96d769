-- The moves of the builder give no span that is none of the tree's.
use Rattle.std.proofs.Common.{◌≡◌, ℕ, List, [], ◌∷◌, Option, Some, None, unwrap_or, refl}
use Rattle.std.specs.Prelude.{IfSome}
use Rattle.std.specs.Option.{option_or}
use Rattle.std.proofs.lemmas.List.Elements.{All-cons, All-nil, All-push}
use Rattle.rl_builder.specs.Builder.{completed_by, ended_by, entered, innermost, maybe_throw, new_block}
use Rattle.rl_builder.specs.Builder.{plainly_pushed, pushed, pushed_under, recorded, reserved, with_temporary, with_type}
use Rattle.rl_builder.specs.Names.{fresh_identifier, new_span, resolved, resolved_by}
use Rattle.rl_builder.specs.Temporaries.{temporary, unordered, with_value}
use Rattle.rl_builder.specs.declared.blocks.WipBlock.{WipBlock}
use Rattle.rl_builder.specs.declared.jumps.JumpScope.{JumpScope}
use Rattle.rl_context.specs.Index.{declaration_span}
use Rattle.rl_hir.specs.Blocks.{Pair as BlockPair}
use Rattle.rl_hir.specs.Identifiers.{with_span}
use Rattle.rl_hir.specs.Pairs.{identifier_of}
use Rattle.rl_hir.specs.declared.function.BlockKind.{BlockKind}
use Rattle.rl_hir.specs.declared.function.Identifier.{Identifier}
use Rattle.rl_hir.specs.declared.instruction.Instruction.{Instruction}
use Rattle.rl_hir.specs.declared.instruction.InstructionKind.TheVariants as variables
use Rattle.rl_hir.specs.declared.instruction.InstructionValue.TheVariants as values
use Rattle.rl_hir.specs.declared.terminal.GotoVariant.{GotoVariant}
use Rattle.rl_hir.specs.declared.terminal.ReturnVariant.{ReturnVariant}
use Rattle.rl_hir.specs.declared.terminal.Terminal.{Terminal}
use Rattle.rl_lowered.proofs.Common.{BlockId, Diagnostic, InstructionValue, Names, Place, Span, State, SymbolId}
use Rattle.rl_lowered.proofs.Redeclared.{all_changed}
use Rattle.rl_lowered.specs.Items.{redeclared}
use Rattle.rl_lowered.specs.Named.{found}
use Rattle.rl_lowered.specs.Spanned.{KeepsSpans}
use Rattle.rl_model.specs.WellFormed.{value_places}
use Rattle.rl_promises.specs.Spans.{AreSpanned, IsSpannedInstruction, IsSpannedTerminal, type_span}
use Rattle.rl_runs.specs.Moves.{goto, last_hole, next_hole, return_of, returned_from, stored_in}
use Rattle.rl_used_names.specs.Choosing.{chosen}

module _ (P : Span → Type 0) where
  -- Places

  pub none_spanned : AreSpanned P []
  none_spanned = All-nil (λ (p : Place). IfSome p.span P)

  pub more_spanned : (p : Place) (places : List Place) → IfSome p.span P → AreSpanned P places → AreSpanned P (p ∷ places)
  more_spanned p places first rest = All-cons (λ (q : Place). IfSome q.span P) p places first rest

  pub one_spanned : (p : Place) → IfSome p.span P → AreSpanned P (p ∷ [])
  one_spanned p first = more_spanned p [] first none_spanned

  -- A fact on a span, where there is one, and on another that stands for it where there is none, is one on the span that is taken.
  pub span_or : (span : Option Span) (other : Span) → IfSome span P → P other → P (unwrap_or span other)
  span_or None other first second = second
  span_or (Some span) other first second = first

  -- A block's number, diagnostics, a type variable, and another current block

  pub reserved_spans : (s : State) → KeepsSpans P s (reserved s)
  reserved_spans s h =
      record { table = h.table; terminals = h.terminals; identifiers = h.identifiers; declarations = h.declarations }

  pub recorded_spans : (s : State) (d : Diagnostic) → KeepsSpans P s (recorded s d)
  recorded_spans s d h =
      record { table = h.table; terminals = h.terminals; identifiers = h.identifiers; declarations = h.declarations }

  pub type_spans : (s : State) → KeepsSpans P s (with_type s)
  type_spans s h =
      record { table = h.table; terminals = h.terminals; identifiers = h.identifiers; declarations = h.declarations }

  pub entered_spans : (s : State) (wip : WipBlock) → KeepsSpans P s (entered s wip)
  entered_spans s wip h =
      record { table = h.table; terminals = h.terminals; identifiers = h.identifiers; declarations = h.declarations }

  -- A fresh identifier

  pub temporary_spans : (s : State) (span : Option Span) → IfSome span P → KeepsSpans P s (with_temporary s span)
  temporary_spans s span at h = record {
    table = h.table;
    terminals = h.terminals;
    identifiers = All-push (λ (i : Identifier). IfSome i.span P) s.env.identifiers
        (record { name = None; span = span; type_id = record { 0 = s.env.next_type } }) h.identifiers at;
    declarations = h.declarations;
  }

  -- Other scopes
  pub scopes_spans : (s : State) (scopes : List JumpScope) → KeepsSpans P s (record s { scopes = scopes })
  scopes_spans s scopes h =
      record { table = h.table; terminals = h.terminals; identifiers = h.identifiers; declarations = h.declarations }

  -- The end of a block

  pub completed_spans : (s : State) (t : Terminal) (next : WipBlock) → IsSpannedTerminal P t → KeepsSpans P s (completed_by s t next)
  completed_spans s t next ends h = record {
    table = h.table;
    terminals = All-push (λ (b : BlockPair). IsSpannedTerminal P b.1.terminal) s.completed (ended_by s.current t) h.terminals ends;
    identifiers = h.identifiers;
    declarations = h.declarations;
  }

  -- An instruction

  plainly_spans : (s : State) (i : Instruction) → IsSpannedInstruction P i → KeepsSpans P s (plainly_pushed s i)
  plainly_spans s i is h = record {
    table = All-push (IsSpannedInstruction P) s.table i h.table is;
    terminals = h.terminals;
    identifiers = h.identifiers;
    declarations = h.declarations;
  }

  under_spans : (handler : Option BlockId) (s : State) (i : Instruction) → IsSpannedInstruction P i
      → KeepsSpans P s (pushed_under handler s i)
  under_spans None s i is h = plainly_spans s i is h
  under_spans (Some handler) s i is h =
      completed_spans (reserved (plainly_pushed s i)) (maybe_throw s.env.next_block handler i.span)
      (new_block s.env.next_block s.current.kind) (record { own = is.own; places = none_spanned })
      (reserved_spans (plainly_pushed s i) (plainly_spans s i is h))

  pub pushed_spans : (s : State) (i : Instruction) → IsSpannedInstruction P i → KeepsSpans P s (pushed s i)
  pushed_spans s i is h = under_spans (innermost s.handlers) s i is h

  -- A value in a fresh identifier
  pub value_spans : (s : State) (v : InstructionValue) (span : Option Span) → IfSome span P → IfSome (type_span v) P
      → AreSpanned P (value_places v) → KeepsSpans P s (with_value s v span)
  value_spans s v span at cast places h =
      pushed_spans (with_temporary s span) (unordered (temporary s span) v span)
      (record { own = at; cast = cast; places = more_spanned (temporary s span) (value_places v) at places })
      (temporary_spans s span at h)

  -- A value goes into a place that was made before
  pub stored_spans : (s : State) (place value : Place) (span : Span) → IfSome place.span P → IfSome value.span P → P span
      → KeepsSpans P s (stored_in s place value span)
  stored_spans s place value span first second at h =
      value_spans s (values.StoreLocal variables.Const place value) (Some span) at tt
      (more_spanned place (value ∷ []) first (one_spanned value second)) h

  -- A return of a place, behind which a block goes on

  pub return_spans : (s : State) (span : Option Span) (variant : ReturnVariant) (p : Place) (next : WipBlock) → IfSome span P
      → IfSome p.span P → KeepsSpans P s (completed_by s (return_of span variant p) next)
  return_spans s span variant p next at place h =
      completed_spans s (return_of span variant p) next (record { own = at; places = one_spanned p place }) h

  pub returned_spans : (s : State) (span : Option Span) (variant : ReturnVariant) (p : Place) (kind : BlockKind) → IfSome span P
      → IfSome p.span P → KeepsSpans P s (returned_from s span variant p kind)
  returned_spans s span variant p kind at place h =
      return_spans (reserved s) span variant p (new_block s.env.next_block kind) at place (reserved_spans s h)

  -- A hole ends with a jump

  pub last_hole_spans : (s : State) (behind : ℕ) (variant : GotoVariant) (part : Span) (outer : WipBlock) → P part
      → KeepsSpans P s (last_hole s behind variant part outer)
  last_hole_spans s behind variant part outer at h =
      completed_spans s (goto behind variant part) outer (record { own = at; places = none_spanned }) h

  pub next_hole_spans : (s : State) (behind : ℕ) (variant : GotoVariant) (part : Span) (kind : BlockKind) → P part
      → KeepsSpans P s (next_hole s behind variant part kind)
  next_hole_spans s behind variant part kind at h =
      last_hole_spans (reserved s) behind variant part (new_block s.env.next_block kind) at (reserved_spans s h)

  -- The look-up of a variable

  span_new : (given : Span) (declared : Option Span) → ((span : Span) → declared ≡ Some span → P span) → P given
      → IfSome (option_or declared (Some given)) P
  span_new given None each at = at
  span_new given (Some span) each at = each span refl

  resolved_by_spans : (known : Option ℕ) (s : State) (name : List ℕ) (symbol : ℕ) (given : Span) → P given
      → KeepsSpans P s (resolved_by known s name symbol (Some given))
  resolved_by_spans None s name symbol given at h = record {
    table = h.table;
    terminals = h.terminals;
    identifiers = All-push (λ (i : Identifier). IfSome i.span P) s.env.identifiers
        (fresh_identifier (chosen s.used_names symbol name) (new_span s symbol (Some given)) s.env.next_type) h.identifiers
        (span_new given (declaration_span s.sites s.semantic.bindings.symbols symbol) (h.declarations symbol) at);
    declarations = h.declarations;
  }
  resolved_by_spans (Some known) s name symbol given at h =
      record { table = h.table; terminals = h.terminals; identifiers = h.identifiers; declarations = h.declarations }

  pub resolved_spans : (s : State) (name : List ℕ) (symbol : ℕ) (given : Span) → P given
      → KeepsSpans P s (resolved s name symbol (Some given))
  resolved_spans s name symbol given at h =
      resolved_by_spans (identifier_of s.bindings symbol) s name symbol given at h

  pub found_spans : (names : Names) (s : State) (symbol : SymbolId) (at : Span) → P at → KeepsSpans P s (found names s symbol at)
  found_spans names s symbol at here h = resolved_spans s (names.name symbol.0) symbol.0 at here h

  -- An identifier gets another span.
  pub redeclared_spans : (s : State) (identifier : ℕ) (span : Span) → P span → KeepsSpans P s (redeclared s identifier span)
  redeclared_spans s identifier span at h = record {
    table = h.table;
    terminals = h.terminals;
    identifiers = all_changed (λ (i : Identifier). IfSome i.span P) (with_span span) identifier s.env.identifiers (λ i old. at)
        h.identifiers;
    declarations = h.declarations;
  }
