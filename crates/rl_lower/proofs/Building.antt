-- The end of a body: what blocks list behind it, its size, its names, and its sound parts.
use Rattle.std.proofs.Common.{◌≡◌, ℕ, ◌+◌, ◌-◌, ◌≤◌, ◌^◌, List, [], Option, None, length, slice_get, Some}
use Rattle.std.proofs.Common.{refl, ap, ◌∙◌, arith}
use Rattle.rl_base.specs.declared.ids.BlockId.{BlockId}
use Rattle.rl_builder.specs.Builder.{State, completed_by, innermost, placeholder, pushed_under, with_temporary}
use Rattle.rl_builder.specs.Temporaries.{temporary, unordered}
use Rattle.rl_builder.specs.declared.blocks.WipBlock.{WipBlock}
use Rattle.rl_hir.specs.declared.function.BlockKind.TheVariants as kinds
use Rattle.rl_hir.specs.declared.function.Identifier.{Identifier}
use Rattle.rl_hir.specs.declared.instruction.Instruction.{Instruction}
use Rattle.rl_hir.specs.declared.instruction.InstructionValue.TheVariants as values
use Rattle.rl_hir.specs.declared.instruction.PrimitiveValue.TheVariants as primitives
use Rattle.rl_hir.specs.declared.terminal.ReturnVariant.TheVariants as returns
use Rattle.rl_hir.specs.declared.terminal.Terminal.{Terminal}
use Rattle.rl_lower.specs.Endings.{closed_off, with_undefined}
use Rattle.rl_lowered.proofs.Listed.{lists_whole}
use Rattle.rl_lowered.proofs.Names.{names_same, names_then, names_value}
use Rattle.rl_lowered.proofs.SoundListing.{instruction_writable, place_writable, undefined_writable}
use Rattle.rl_lowered.proofs.SoundMoves.{empty_writable, identifiers_longer, none_known, one_known, place_next}
use Rattle.rl_lowered.proofs.SoundMoves.{place_temporary, sound_next, sound_pushed, sound_return, sound_value}
use Rattle.rl_lowered.specs.Listing.{ListsSince}
use Rattle.rl_lowered.specs.Named.{KeepsNames}
use Rattle.rl_lowered.specs.Sound.{StaysSound}
use Rattle.rl_names.specs.Names.{Names}
use Rattle.rl_runs.proofs.Listed.{listed_completed, listed_value}
use Rattle.rl_runs.proofs.Sizes.{size_value}
use Rattle.rl_runs.proofs.Steps.{get_more}
use Rattle.rl_runs.specs.Blocks.{size_of}
use Rattle.rl_runs.specs.Listed.{IsListed}
use Rattle.rl_runs.specs.Moves.{return_of}

-- A builder with no complete block, no instruction and nothing open, whose block has the last number.
pub record IsFresh (s : State) : Type 0 where
  pub completed : s.completed ≡ []
  pub instructions : s.current.instructions ≡ []
  pub table : s.table ≡ []
  pub entry : s.entry.0 ≡ s.current.id.0
  pub last : s.env.next_block ≡ s.current.id.0 + 1
  pub handlers : s.handlers ≡ []
  pub scopes : s.scopes ≡ []

pub closed_listed : (begun s : State) → IsFresh begun → ListsSince begun s → IsListed (closed_off s)
closed_listed begun s fresh l =
    listed_completed (with_undefined s) (return_of None returns.Void (temporary s None)) placeholder refl
    (listed_value s (values.Primitive primitives.Undefined) None refl
    (lists_whole begun s fresh.completed fresh.instructions fresh.table l))

-- The end of a body adds four numbers at most.
pub size_closed : (s : State) → size_of (closed_off s) ≤ size_of s + 4
size_closed s = size_value s (values.Primitive primitives.Undefined) None

-- The last moves change no name.
names_ended : {names : Names} (s : State) (t : Terminal) (next : WipBlock) → KeepsNames names s (completed_by s t next)
names_ended s t next = names_same s (completed_by s t next) refl

pub names_closed : {names : Names} (s : State) → KeepsNames names s (closed_off s)
names_closed s =
    names_then s (with_undefined s) (closed_off s) (names_value s (values.Primitive primitives.Undefined) None)
    (names_ended (with_undefined s) (return_of None returns.Void (temporary s None)) placeholder)

pub sound_closed : (small : Type 0) (s : State) → StaysSound small s (closed_off s)
sound_closed small s =
    sound_next small s (with_undefined s) (closed_off s)
    (sound_value small s (values.Primitive primitives.Undefined) None (none_known (length s.env.identifiers))
    (λ holds fits. undefined_writable) (λ holds. tt))
    (sound_return small (with_undefined s) None returns.Void (temporary s None) placeholder (λ holds. tt)
    (place_next small new (with_undefined s) (temporary s None) pushing (place_temporary small s None (λ holds. tt)))
    (λ fits. empty_writable (2 ^ 32 - 1) kinds.Block (omega arith)))
  where
    new : State
    new = with_temporary s None

    made : Instruction
    made = unordered (temporary s None) (values.Primitive primitives.Undefined) None

    pushing : StaysSound small new (with_undefined s)
    pushing =
        sound_pushed small new made (one_known (length new.env.identifiers) (temporary s None) (omega (arith, identifiers_longer s None)))
        (λ holds fits. instruction_writable made (omega arith)
        (place_writable (temporary s None) (omega (arith, identifiers_longer s None, fits.identifiers)) tt) tt undefined_writable)

diagnostics_under : (o : Option BlockId) (s : State) (i : Instruction) → (pushed_under o s i).env.diagnostics ≡ s.env.diagnostics
diagnostics_under None s i = refl
diagnostics_under (Some handler) s i = refl

-- The end of a body refuses nothing.
pub diagnostics_closed : (s : State) → (closed_off s).env.diagnostics ≡ s.env.diagnostics
diagnostics_closed s =
    diagnostics_under (innermost s.handlers) (with_temporary s None)
    (unordered (temporary s None) (values.Primitive primitives.Undefined) None)

identifiers_under : (o : Option BlockId) (s : State) (i : Instruction) → (pushed_under o s i).env.identifiers ≡ s.env.identifiers
identifiers_under None s i = refl
identifiers_under (Some handler) s i = refl

-- Identifiers stay behind the end of a body.
pub identifiers_closed : (s : State) (identifier : ℕ) (known : Identifier) → slice_get s.env.identifiers identifier ≡ Some known
    → slice_get (closed_off s).env.identifiers identifier ≡ Some known
identifiers_closed s identifier known there =
    ap (λ (l : List Identifier). slice_get l identifier)
    (identifiers_under (innermost s.handlers) (with_temporary s None)
    (unordered (temporary s None) (values.Primitive primitives.Undefined) None))
    ∙ get_more s.env.identifiers _ identifier known there
