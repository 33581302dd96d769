-- The states in front of a `throw`, and in front of the handler of a `try` statement whose parameter is a variable.
use Rattle.std.proofs.Common.{◌≡◌, ℕ, ◌+◌, ◌≤◌, inl, inr, ◌∷◌, [], Option, Some, None, length, length-append, refl, arith}
use Rattle.rl_base.specs.declared.row.Row.TheVariants as row
use Rattle.rl_builder.specs.Builder.{innermost, reserved}
use Rattle.rl_builder.specs.Temporaries.{with_value}
use Rattle.rl_hir.specs.declared.instruction.InstructionKind.TheVariants as kinds
use Rattle.rl_hir.specs.declared.instruction.InstructionValue.TheVariants as values
use Rattle.rl_lowered.proofs.Common.{BlockId, InstructionValue, Span, State}
use Rattle.rl_lowered.specs.Items.{caught, promoted, promoted_identifier}
use Rattle.rl_lowered.specs.Lowered.{throwing, throwing_under}
use Rattle.rl_promises.specs.Rows.{refusal}
use Rattle.rl_runs.proofs.BlockIds.{ids_refl}
use Rattle.rl_runs.proofs.FinalNames.{names_refl, sound_more}
use Rattle.rl_runs.proofs.Naming.{named_refl}
use Rattle.rl_runs.proofs.Preserving.{blocks_recorded, blocks_refl}
use Rattle.rl_runs.proofs.Used.{used_refl}
use Rattle.rl_runs.specs.Blocks.{PreservesBlocks, size_of}
use Rattle.rl_runs.specs.Facts.{Extends}

-- The declaration of the place that takes the caught value.
abbrev pub declares_caught : State → (param : Span) → InstructionValue
declares_caught s param = values.DeclareLocal kinds.Catch (caught s param)

-- The store of the caught value to the variable.
abbrev pub stores_caught : State → (identifier : ℕ) → (param : Span) → InstructionValue
stores_caught s identifier param =
    values.StoreLocal kinds.Catch (record { identifier = record { 0 = identifier }; span = Some param }) (caught s param)

-- The state behind that declaration, in front of the handler's block.
abbrev pub catch_declared : State → (param : Span) → State
catch_declared s param = with_value (reserved (promoted s param)) (declares_caught s param) (Some param)

-- A further identifier with a name of its own.

pub length_promoted : (s : State) (span : Span) → length (promoted s span).env.identifiers ≡ length s.env.identifiers + 1
length_promoted s span =
    length-append s.env.identifiers (promoted_identifier (length s.env.identifiers) s.env.next_type span ∷ [])

pub size_promoted : (s : State) (span : Span) → size_of (promoted s span) ≡ size_of s + 2
size_promoted s span = omega (arith, length_promoted s span)

pub extends_promoted : (s : State) (span : Span) → Extends s (promoted s span)
extends_promoted s span = record {
  done = λ id f d. record { place = d.place; block = d.block; found = d.found; named = d.named; holds = d.holds };
  wip = λ id f w. inr (record { named = w.named; holds = w.holds });
  table = λ number i is. is;
  completed = λ id k. k;
  current = inl refl;
  entry = refl;
  handlers = refl;
  scopes = refl;
  blocks = omega arith;
  identifiers = omega (arith, length_promoted s span);
  names = names_refl s.env.pairs (length s.env.identifiers);
  sound = λ q. sound_more s.bindings s.used_names s.env.identifiers _ s.env.pairs q;
}

pub blocks_promoted : (s : State) (span : Span) → PreservesBlocks s (promoted s span)
blocks_promoted s span = record {
  extends = extends_promoted s span;
  ids = ids_refl s.completed s.current.id.0 s.env.next_block;
  used = λ id above below. used_refl s id above below;
  named = named_refl s;
  ended = λ all. all;
  straight = λ id n. inl n;
  settle = λ c cover own below jumps old. old;
  looped = λ c cover entry old. old;
}

-- The diagnostic of a `throw` under a handler.

blocks_throwing_under : (handler : Option BlockId) (s : State) (at : Span) → PreservesBlocks s (throwing_under handler s at)
blocks_throwing_under None s at = blocks_refl s
blocks_throwing_under (Some handler) s at = blocks_recorded s (refusal row.F30 at)

pub blocks_throwing : (s : State) (at : Span) → PreservesBlocks s (throwing s at)
blocks_throwing s at = blocks_throwing_under (innermost s.handlers) s at

size_throwing_under : (handler : Option BlockId) (s : State) (at : Span) → size_of (throwing_under handler s at) ≤ size_of s
size_throwing_under None s at = omega arith
size_throwing_under (Some handler) s at = omega arith

pub size_throwing : (s : State) (at : Span) → size_of (throwing s at) ≤ size_of s
size_throwing s at = size_throwing_under (innermost s.handlers) s at
