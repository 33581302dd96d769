-- Writes to the entries of notes.
use Rattle.std.proofs.Common.{◌≡◌, ◌<◌, arith, ℕ, zero, suc, nat_eq, if◌then◌else◌, Option, Some, None}
use Rattle.std.proofs.Common.{List, [], ◌∷◌, ◌++◌, length, slice_get, slice_set, refl, ap, sym, ◌∙◌}
use Rattle.std.proofs.Math.Dec.{eqb-suc-zero, eqb-zero-suc, eqb-suc-suc}
use Rattle.rl_base.specs.declared.ids.BlockId.{BlockId}
use Rattle.rl_machine.specs.Ends.{noted}
use Rattle.rl_graph_steps.specs.Notes.{note_at, note_of, notes_in}
use Rattle.rl_graph_steps.specs.declared.note.Note.{Note}

entry_set : (entries : List (Option Note)) (index : ℕ) (n : Note) → index < length entries → (other : ℕ)
    → note_at (slice_get (slice_set entries index (Some n)) other)
    ≡ (if nat_eq other index then Some (note_of n) else note_at (slice_get entries other))
entry_set [] index n bound other = absurd (omega arith)
entry_set (w ∷ entries) zero n bound zero = refl
entry_set (w ∷ entries) zero n bound (suc other) =
    sym (ap (λ c. if◌then◌else◌ c (Some (note_of n)) (note_at (slice_get entries other))) (eqb-suc-zero other))
entry_set (w ∷ entries) (suc index) n bound zero =
    sym (ap (λ c. if◌then◌else◌ c (Some (note_of n)) (note_at (Some w))) (eqb-zero-suc index))
entry_set (w ∷ entries) (suc index) n bound (suc other) =
    entry_set entries index n (omega arith) other
    ∙ sym (ap (λ c. if◌then◌else◌ c (Some (note_of n)) (note_at (slice_get entries other))) (eqb-suc-suc other index))

pub notes_set : (entries : List (Option Note)) (block : BlockId) (n : Note) → block.0 < length entries
    → notes_in (slice_set entries block.0 (Some n)) ≡ noted (notes_in entries) block (note_of n)
notes_set entries block n bound = λ i other. entry_set entries block.0 n bound other i

entry_more : (entries : List (Option Note)) (other : ℕ)
    → note_at (slice_get (entries ++ None ∷ []) other) ≡ note_at (slice_get entries other)
entry_more [] zero = refl
entry_more [] (suc other) = refl
entry_more (w ∷ entries) zero = refl
entry_more (w ∷ entries) (suc other) = entry_more entries other

pub notes_more : (entries : List (Option Note)) → notes_in (entries ++ None ∷ []) ≡ notes_in entries
notes_more entries = λ i other. entry_more entries other i
