use Rattle.std.proofs.Common.{◌≡◌, ℕ, List, [], ◌∷◌, codes, ap}
use Rattle.std.proofs.lemmas.Slice.Eq.{bytes_eq-Decides}
use Rattle.react_lower.proofs.Words.{alone}
use Rattle.react_lower.proofs.run.is_lint.Goals as goal

pub returns-in-len1 : goal.returns-in-len1
returns-in-len1 c =
    let one : c.args.words.now ≡ c.word-item.result ∷ [] = alone _ _ c.in-len1.len_at_least c.in-len1.len_below c.word-item.is in
    let decides = bytes_eq-Decides c.as_str.result.now (codes "lint") in
    rw (one, ← c.as_str.ensures.value, c.eq.ensures) (λ h. ap (λ (t : List ℕ). t ∷ []) (decides.0 h), λ h. decides.1 cc)
