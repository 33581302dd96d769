-- Lowering the head of a loop over keys or values keeps places known and parts writable.
use Rattle.std.proofs.Common.{true, length}
use Rattle.rl_base.specs.Diagnostics.{diagnostic_at}
use Rattle.rl_base.specs.declared.row.Row.TheVariants as row
use Rattle.rl_builder.specs.Builder.{recorded}
use Rattle.rl_hir.specs.declared.instruction.InstructionKind.TheVariants as variables
use Rattle.rl_hir.specs.declared.instruction.InstructionValue.TheVariants as values
use Rattle.rl_lowered.proofs.Common.{Diagnostic, Names, Place, State, Syntax}
use Rattle.rl_lowered.proofs.Sound.{all_sound, target_sound}
use Rattle.rl_lowered.proofs.SoundForms.{global_store_writable, member_small}
use Rattle.rl_lowered.proofs.SoundItems.{met_below, sound_met, target_by}
use Rattle.rl_lowered.proofs.SoundMoves.{one_known, place_next, sound_next, sound_recorded, sound_refl, sound_weaker}
use Rattle.rl_lowered.proofs.SoundNames.{found_below, sound_found}
use Rattle.rl_lowered.proofs.SoundPatterns.{pattern_sound}
use Rattle.rl_lowered.proofs.SoundValues.{IsSound, places_weaker, property_stored, value_sound, variable_stored}
use Rattle.rl_lowered.specs.Forms.{places_in}
use Rattle.rl_lowered.specs.Items.{found_again}
use Rattle.rl_lowered.specs.Lowered.{Declared, DeclaredPattern, Lost, LoweredHead, Reassigned, ReassignedConstant, StoredGlobal}
use Rattle.rl_lowered.specs.Lowered.{StoredMember, StoredPattern}
use Rattle.rl_lowered.specs.Named.{found}
use Rattle.rl_lowered.specs.Sound.{AreSmallTrees, IsSmallTree, IsSoundPlace, StaysSound}
use Rattle.rl_promises.specs.Locals.{KnowsNames}
use Rattle.rl_promises.specs.Rows.{refusal, row_of_head}

-- Names are UTF-8, and spans of declarations are small.
pub head_sound : {names : Names} {value : Place} {e : Syntax} {s t : State} {p : Place} → KnowsNames names
    → LoweredHead names value e s t p → IsSoundPlace (IsSmallTree e) s value → IsSound (IsSmallTree e) s t p
head_sound {names} {value} {e} knows (Declared at there bind kind name type symbol identifier s annotated is f) given =
    variable_stored (IsSmallTree e) s (found_again names s symbol identifier bind.span) variables.Let identifier at.span at.span value
    (sound_met (IsSmallTree e) true names s symbol bind.span identifier f (λ holds. holds.0.1.1.0.0.1.0.0))
    (met_below true names s symbol bind.span identifier f) given (λ holds. holds.0.0) (λ holds. holds.0.0)
head_sound {names} {value} {e} knows (Reassigned at name symbol identifier s is mutable f) given =
    let small : Type 0 = IsSmallTree e in
    variable_stored small s (found names s symbol at.span) variables.Reassign identifier at.span at.span value
    (sound_found small names s symbol at.span identifier f (λ holds. holds.0.0)) (found_below names s symbol at.span identifier f) given
    (λ holds. holds.0.0) (λ holds. holds.0.0)
head_sound {names} {value} {e} knows (ReassignedConstant at name symbol identifier s is constant f) given =
    let small : Type 0 = IsSmallTree e in
    let first : State = found names s symbol at.span in
    let d : Diagnostic = diagnostic_at row.F6 (names.name symbol.0) at.span in
    let noted : StaysSound small s (recorded first d) =
    sound_next small s first (recorded first d) (sound_found small names s symbol at.span identifier f (λ holds. holds.0.0))
    (sound_recorded small first d) in
    (noted, place_next small s (recorded first d) value noted given)
head_sound {value} {e} knows (StoredGlobal at name binding s is) given =
    value_sound (IsSmallTree e) s s (values.StoreGlobal name value) at.span (sound_refl (IsSmallTree e) s)
    (one_known (length s.env.identifiers) value given.known)
    (λ holds fits. global_store_writable name value holds.1.1.0 (given.writable holds fits)) (λ holds. holds.0.0)
head_sound {value} {e} knows (StoredMember at w fields parts pieces object key s t is all) given =
    let small : Type 0 = IsSmallTree e in
    let inner = all_sound knows all in
    let parts_small : small → AreSmallTrees parts = λ holds. member_small is at holds in
    let before : StaysSound small s t = sound_weaker (AreSmallTrees parts) small s t parts_small inner.0 in
    property_stored small s t at value is before (places_weaker (AreSmallTrees parts) small t (places_in pieces) parts_small inner.1)
    (place_next small s t value before given) (λ holds. holds)
head_sound {e} knows (DeclaredPattern at there kind pattern s t p is by) given =
    pattern_sound (IsSmallTree e) knows by (λ holds. (holds.0.1.1.0.0.1.0, holds.1.1.1.0.0.1.0)) (λ holds. holds.0.0) given
head_sound {value} {e} knows (StoredPattern at w fields s t p is by) given =
    target_by (IsSmallTree e) at.span value e s t p (λ holds. holds) (λ holds. holds.0.0) given (λ below. target_sound knows by below)
head_sound {value} {e} knows (Lost at w fields s is) given =
    let d : Diagnostic = refusal (row_of_head w) at.span in
    (sound_recorded (IsSmallTree e) s d, place_next (IsSmallTree e) s (recorded s d) value (sound_recorded (IsSmallTree e) s d) given)
