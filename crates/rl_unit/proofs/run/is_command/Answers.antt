use Rattle.std.proofs.Common.{◌≡◌, ℕ, List, [], ◌∷◌, codes, get_or, length, ap, sym, ◌<◌, ◌≤◌, arith}
use Rattle.std.proofs.lemmas.Slice.Eq.{bytes_eq-Decides}
use Rattle.rl_unit.proofs.run.is_command.Goals as goal

-- A list with one item and no second is that item.
alone : {X : Type 0} (items : List X) (item : X) → 1 ≤ length items → length items < 2 → item ≡ get_or items 0 item → items ≡ item ∷ []
alone [] item low high first = absurd (omega arith)
alone (other ∷ []) item low high first = ap (λ t. t ∷ []) (sym first)
alone (other ∷ more ∷ rest) item low high first = absurd (omega arith)

pub returns-in-len1 : goal.returns-in-len1
returns-in-len1 c =
    let one : c.args.words.now ≡ c.word-item.result ∷ [] = alone _ _ c.in-len1.len_at_least c.in-len1.len_below c.word-item.is in
    let decides = bytes_eq-Decides c.as_str.result.now (codes "lower") in
    rw (one, ← c.as_str.ensures.value, c.eq.ensures) (λ h. ap (λ (t : List ℕ). t ∷ []) (decides.0 h), λ h. decides.1 cc)
