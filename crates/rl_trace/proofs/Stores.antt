-- Writes to variables are writes to their stores.
use Rattle.std.proofs.Common.{◌≡◌, ◌<◌, ◌≤◌, arith, ℕ, zero, suc, nat_eq, if◌then◌else◌, List}
use Rattle.std.proofs.Common.{[], ◌∷◌, ◌++◌, length, slice_get, slice_set, refl, ap, sym, ◌∙◌}
use Rattle.std.proofs.Math.Dec.{eqb-suc-zero, eqb-zero-suc, eqb-suc-suc}
use Rattle.rl_machine.specs.Traces.{set}
use Rattle.rl_machine.specs.declared.trace.Value.{Value}
use Rattle.rl_machine.specs.declared.trace.Value.TheVariants as value
use Rattle.rl_trace.specs.Values.{shown}
use Rattle.rl_trace.specs.Variables.{far_value, near_value, store_in}
use Rattle.rl_trace.specs.declared.value.Val.{Val}
use Rattle.rl_trace.specs.declared.variables.Far.{Far}

near_set : (near : List Val) (far : Value) (index : ℕ) (v : Val) → index < length near → (number : ℕ)
    → near_value (slice_get (slice_set near index v) number) far
    ≡ (if nat_eq number index then shown v else near_value (slice_get near number) far)
near_set [] far index v bound number = absurd (omega arith)
near_set (w ∷ near) far zero v bound zero = refl
near_set (w ∷ near) far zero v bound (suc number) =
    sym (ap (λ c. if◌then◌else◌ c (shown v) (near_value (slice_get near number) far)) (eqb-suc-zero number))
near_set (w ∷ near) far (suc index) v bound zero = sym (ap (λ c. if◌then◌else◌ c (shown v) (shown w)) (eqb-zero-suc index))
near_set (w ∷ near) far (suc index) v bound (suc number) =
    near_set near far index v (omega arith) number
    ∙ sym (ap (λ c. if◌then◌else◌ c (shown v) (near_value (slice_get near number) far)) (eqb-suc-suc number index))

-- A number with an entry is set in its entry.
pub store_set : (near : List Val) (far : List Far) (index : ℕ) (v : Val) → index < length near
    → store_in (slice_set near index v) far ≡ set (store_in near far) index (shown v)
store_set near far index v bound = λ i number. near_set near (far_value far number value.Undefined) index v bound number i

far_set : (far : List Far) (f : Far) (number : ℕ) (v : Value)
    → far_value (far ++ f ∷ []) number v ≡ (if nat_eq number f.number then shown f.value else far_value far number v)
far_set [] f number v = refl
far_set (g ∷ far) f number v = far_set far f number (if nat_eq number g.number then shown g.value else v)

far_near : (near : List Val) (far : ℕ) (v : Value) → length near ≤ far → (number : ℕ) (old : Value)
    → near_value (slice_get near number) (if nat_eq number far then v else old)
    ≡ (if nat_eq number far then v else near_value (slice_get near number) old)
far_near [] far v bound number old = refl
far_near (w ∷ near) zero v bound number old = absurd (omega arith)
far_near (w ∷ near) (suc far) v bound zero old = sym (ap (λ c. if◌then◌else◌ c v (shown w)) (eqb-zero-suc far))
far_near (w ∷ near) (suc far) v bound (suc number) old =
    ap (λ c. near_value (slice_get near number) (if◌then◌else◌ c v old)) (eqb-suc-suc number far)
    ∙ far_near near far v (omega arith) number old
    ∙ sym (ap (λ c. if◌then◌else◌ c v (near_value (slice_get near number) old)) (eqb-suc-suc number far))

far_step : (near : List Val) (far : List Far) (f : Far) → length near ≤ f.number → (number : ℕ)
    → store_in near (far ++ f ∷ []) number ≡ set (store_in near far) f.number (shown f.value) number
far_step near far f bound number =
    ap (near_value (slice_get near number)) (far_set far f number value.Undefined)
    ∙ far_near near f.number (shown f.value) bound number (far_value far number value.Undefined)

-- A number without an entry is listed.
pub store_far : (near : List Val) (far : List Far) (f : Far) → length near ≤ f.number
    → store_in near (far ++ f ∷ []) ≡ set (store_in near far) f.number (shown f.value)
store_far near far f bound = λ i number. far_step near far f bound number i
