-- A list from an index on: its item there, and the list behind it.
use Rattle.std.proofs.Common.{◌≡◌, ℕ, zero, suc, ◌+◌, ◌<◌, Some, None, List, [], ◌∷◌, ◌++◌, length, slice_get, get_or, drop, drop-cons, refl, sym, ap, ◌∙◌, arith}

pub drop_step : {X : Type 0} (xs : List X) (i : ℕ) (x : X) → i < length xs → x ≡ get_or xs i x → drop i xs ≡ x ∷ drop (i + 1) xs
drop_step xs i x within is = drop-cons xs i x within ∙ (λ k. sym is k ∷ drop ((let e : suc i ≡ i + 1 = omega arith in e) k) xs)

-- The item at an index of a list with one more item.
pub get_pushed : {X : Type 0} {P : Type 0} (xs : List X) (x y : X) (k : ℕ) → slice_get (xs ++ x ∷ []) k ≡ Some y → (slice_get xs k ≡ Some y → P) → (k ≡ length xs → x ≡ y → P) → P
get_pushed [] x y zero got before last = last refl (let e : Some x ≡ Some y = got in cc)
get_pushed [] x y (suc k) got before last = absurd (let e : None ≡ Some y = got in cc)
get_pushed (z ∷ xs) x y zero got before last = before got
get_pushed (z ∷ xs) x y (suc k) got before last = get_pushed xs x y k got before (λ at is. last (ap suc at) is)
