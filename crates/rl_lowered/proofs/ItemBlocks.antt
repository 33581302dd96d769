-- Look-ups, temporaries and diagnostics of the items of patterns preserve the blocks, and the builder stays in its block.
use Rattle.std.proofs.Common.{◌≡◌, ℕ, Bool, true, false, [], List, Option, Some, None, refl, sym, ◌∙◌, subst}
use Rattle.rl_base.specs.declared.row.Row.TheVariants as row
use Rattle.rl_base.specs.Diagnostics.{diagnostic_at}
use Rattle.rl_builder.specs.Builder.{recorded}
use Rattle.rl_builder.specs.declared.blocks.WipBlock.{WipBlock}
use Rattle.rl_lowered.proofs.Catches.{blocks_promoted}
use Rattle.rl_lowered.proofs.Common.{Diagnostic, Names, Piece, Pieces, Span, State, SymbolId, Syntax}
use Rattle.rl_lowered.proofs.Names.{found_within}
use Rattle.rl_lowered.proofs.Redeclared.{blocks_redeclared}
use Rattle.rl_lowered.specs.Items.{BoundItems, Later, LoweredAhead, TakenItems, found_again, fraction_met, key_met, met, promoted}
use Rattle.rl_lowered.specs.Items as items
use Rattle.rl_lowered.specs.Named.{IsFound, found}
use Rattle.rl_promises.specs.Patterns.{fraction_in, lost_item, lost_rest, target_under}
use Rattle.rl_runs.proofs.Preserving.{blocks_recorded, blocks_refl, blocks_resolved, blocks_then}
use Rattle.rl_runs.specs.Blocks.{IsLedTo, Passes, PreservesBlocks}
use Rattle.rl_syntax.specs.Syntax.{span_of}

-- The blocks are preserved, and the builder stands where it stood: no block and no instruction was made.
pub record Stays (s t : State) : Type 0 where
  pub blocks : PreservesBlocks s t
  pub current : t.current ≡ s.current
  pub completed : t.completed ≡ s.completed
  pub table : t.table ≡ s.table
  pub numbered : t.env.next_block ≡ s.env.next_block

pub stays_then : (s t u : State) → Stays s t → Stays t u → Stays s u
stays_then s t u a b = record {
  blocks = blocks_then s t u a.blocks b.blocks;
  current = b.current ∙ a.current;
  completed = b.completed ∙ a.completed;
  table = b.table ∙ a.table;
  numbered = b.numbered ∙ a.numbered;
}

pub stays_passes : {s t : State} → Stays s t → Passes s t
stays_passes {s} {t} a c cover entry led = subst (λ (w : WipBlock). IsLedTo c entry w.id.0) (sym a.current) led

stays_refl : (s : State) → Stays s s
stays_refl s = record { blocks = blocks_refl s; current = refl; completed = refl; table = refl; numbered = refl }

stays_recorded : (s : State) (d : Diagnostic) → Stays s (recorded s d)
stays_recorded s d = record { blocks = blocks_recorded s d; current = refl; completed = refl; table = refl; numbered = refl }

stays_promoted : (s : State) (span : Span) → Stays s (promoted s span)
stays_promoted s span = record { blocks = blocks_promoted s span; current = refl; completed = refl; table = refl; numbered = refl }

-- Look-ups.

pub blocks_found : (names : Names) (s : State) (symbol : SymbolId) (at : Span) (identifier : ℕ) → IsFound names s symbol at identifier
    → PreservesBlocks s (found names s symbol at)
blocks_found names s symbol at identifier f = blocks_resolved s (names.name symbol.0) symbol.0 (Some at) f.agree

pub blocks_found_again : (names : Names) (s : State) (symbol : SymbolId) (at : Span) (identifier : ℕ)
    → IsFound names s symbol at identifier → PreservesBlocks s (found_again names s symbol identifier at)
blocks_found_again names s symbol at identifier f =
    blocks_then s (found names s symbol at) _ (blocks_found names s symbol at identifier f)
    (blocks_redeclared (found names s symbol at) identifier at (found_within s symbol at identifier f))

stays_found : (names : Names) (s : State) (symbol : SymbolId) (at : Span) (identifier : ℕ) → IsFound names s symbol at identifier
    → Stays s (found names s symbol at)
stays_found names s symbol at identifier f = record { blocks = blocks_found names s symbol at identifier f; current = refl; completed = refl; table = refl; numbered = refl }

pub stays_met : (again : Bool) (names : Names) (s : State) (symbol : SymbolId) (at : Span) (identifier : ℕ)
    → IsFound names s symbol at identifier → Stays s (met again names s symbol identifier at)
stays_met true names s symbol at identifier f =
    record { blocks = blocks_found_again names s symbol at identifier f; current = refl; completed = refl; table = refl; numbered = refl }
stays_met false names s symbol at identifier f = stays_found names s symbol at identifier f

stays_fraction : (s : State) (o : Option Span) → Stays s (fraction_met s o)
stays_fraction s None = stays_refl s
stays_fraction s (Some at) = stays_recorded s (diagnostic_at row.F43 [] at)

pub stays_key : (s : State) (item : Syntax) → Stays s (key_met s item)
stays_key s item = stays_fraction s (fraction_in item)

-- A key, and then a look-up, or a temporary.

pub stays_key_met : (again : Bool) (names : Names) (s : State) (item : Syntax) (symbol : SymbolId) (at : Span) (identifier : ℕ)
    → IsFound names (key_met s item) symbol at identifier → Stays s (met again names (key_met s item) symbol identifier at)
stays_key_met again names s item symbol at identifier f =
    stays_then s (key_met s item) _ (stays_key s item) (stays_met again names (key_met s item) symbol at identifier f)

pub stays_key_promoted : (s : State) (item : Syntax) (span : Span) → Stays s (promoted (key_met s item) span)
stays_key_promoted s item span =
    stays_then s (key_met s item) _ (stays_key s item) (stays_promoted (key_met s item) span)

-- The items of a target.

pub ahead_stays : {names : Names} {es : Pieces} {rest : Syntax} {s t : State} {forced : Bool} → LoweredAhead names es rest s t forced
    → Stays s t
ahead_stays (items.NoLook es rest s is) = stays_refl s
ahead_stays (items.LookEnds s) = stays_refl s
ahead_stays (items.LookOther item es s is) = stays_refl s
ahead_stays {names} (items.LookLocal item es symbol identifier s t forced is f d) =
    stays_then s (found names s symbol (span_of (target_under item))) t
    (stays_found names s symbol (span_of (target_under item)) identifier f) (ahead_stays d)

pub taken_stays : {names : Names} {of_object forced : Bool} {es : Pieces} {rest : Syntax} {s t : State} {pieces : List Piece}
    {later : List Later} → TakenItems names of_object forced es rest s t pieces later → Stays s t
taken_stays (items.NoItem s) = stays_refl s
taken_stays (items.RestTaken there target s is) = stays_promoted s there.span
taken_stays (items.RestLost rest s is) = stays_recorded s (lost_rest rest)
taken_stays (items.ItemHole there es rest s t pieces later d) = taken_stays d
taken_stays (items.ItemLost item es rest s t pieces later shaped is d) =
    stays_then s (recorded s (lost_item item)) t (stays_recorded s (lost_item item)) (taken_stays d)
taken_stays {names}
    (items.ItemVariable item es rest there name symbol identifier s t key pieces later is means kept mutable f d) =
    stays_then s _ t (stays_key_met false names s item symbol there.span identifier f) (taken_stays d)
taken_stays {names}
    (items.ItemConstant item es rest there name symbol identifier s t key pieces later is means kept constant f d) =
    let noted : Diagnostic = diagnostic_at row.F6 (names.name symbol.0) there.span in
    let first : State = found names (key_met s item) symbol there.span in
    stays_then s first t (stays_key_met false names s item symbol there.span identifier f)
    (stays_then first (recorded first noted) t (stays_recorded first noted) (taken_stays d))
taken_stays (items.ItemLater item part es rest s t key pieces later is kept d) =
    stays_then s (promoted (key_met s item) (span_of part)) t (stays_key_promoted s item (span_of part)) (taken_stays d)

-- The items of a binding pattern.
pub bound_stays : {names : Names} {again of_object : Bool} {es : Pieces} {rest : Syntax} {s t : State} {pieces : List Piece}
    {later : List Later} → BoundItems names again of_object es rest s t pieces later → Stays s t
bound_stays (items.NoBound s) = stays_refl s
bound_stays {names} {again} (items.RestNamed there bind name type symbol identifier s annotated is f) =
    stays_met again names s symbol bind.span identifier f
bound_stays (items.RestNested there pattern s is) = stays_promoted s there.span
bound_stays (items.RestUnbound rest s is) = stays_recorded s (lost_rest rest)
bound_stays (items.BoundHole there es rest s t pieces later d) = bound_stays d
bound_stays (items.BoundLost item es rest s t pieces later shaped is d) =
    stays_then s (recorded s (lost_item item)) t (stays_recorded s (lost_item item)) (bound_stays d)
bound_stays {names} {again}
    (items.BoundVariable item es rest bind name type symbol identifier s t key pieces later is annotated kept declared f d) =
    stays_then s _ t (stays_key_met again names s item symbol bind.span identifier f) (bound_stays d)
bound_stays (items.BoundLater item part es rest s t key pieces later is kept behind d) =
    stays_then s (promoted (key_met s item) (span_of part)) t (stays_key_promoted s item (span_of part)) (bound_stays d)
