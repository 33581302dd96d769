-- Trees of the notation: different ones are spelled differently, and no spelling is a prefix of another's with what follows.
use Rattle.std.proofs.Common.{◌≡◌, ℕ, false, List, ◌∷◌, ◌++◌, sym, ◌∙◌, arith}
use Rattle.std.proofs.lemmas.Bool.Decides.{nat_tests}
use Rattle.std.specs.Char.{is_ascii_digit}
use Rattle.rl_text.specs.Notation.{Tree, spelling, IsWritable, Spells}
use Rattle.rl_text.specs.Places.{Ends}
use Rattle.rl_text.proofs.Worded.{form, form_of_byte, form_at_byte, formless, worded, worded-apart, Worded-one}

pub form-from_byte : (t : Tree) (byte : ℕ) (rest u : List ℕ) → IsWritable t → byte ∷ rest ≡ spelling t ++ u → form_of_byte byte ≡ form t
form-from_byte t byte rest u p h = form_at_byte t byte rest u h

-- No tree begins with a byte of no form.
pub no-form : (t : Tree) (byte : ℕ) (rest u : List ℕ) → IsWritable t → form_of_byte byte ≡ 6 → byte ∷ rest ≡ spelling t ++ u → ⊥
no-form t byte rest u p six h = formless t byte rest u six h

pub spellings-apart : (s t : Tree) (u v : List ℕ) → IsWritable s → IsWritable t → Ends s u → Ends t v → spelling s ++ u ≡ spelling t ++ v → (s ≡ t) × (u ≡ v)
spellings-apart s t u v p q m n h = worded-apart s t u v (worded s p) (worded t q) m n h

-- Bytes spell one tree at most.
pub Spells-one : (bytes : List ℕ) (s t : Tree) → Spells bytes s → Spells bytes t → s ≡ t
Spells-one bytes s t p q = Worded-one s t (worded s p.writable) (worded t q.writable) (sym p.spelled ∙ q.spelled)

-- A byte of no form.
pub form-other : (byte : ℕ) → (byte ≡ 40 → ⊥) → (byte ≡ 91 → ⊥) → (byte ≡ 34 → ⊥) → (byte ≡ 121 → ⊥) → (byte ≡ 110 → ⊥) → (byte ≡ 45 → ⊥) → is_ascii_digit byte ≡ false → form_of_byte byte ≡ 6
form-other byte a b c d e f g = grind (arith, nat_tests)
