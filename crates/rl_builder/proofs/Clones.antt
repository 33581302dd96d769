-- Clones of maps and sets of symbols have the items of what they are made of.
use Rattle.std.proofs.Common.{◌≡◌, List, [], ◌∷◌, refl}
use Rattle.std.specs.List.{AllZip}
use Rattle.rl_base.specs.declared.ids.SymbolId.{SymbolId}
use Rattle.rl_base.specs.declared.span.Span.{Span}

pub symbols_cloned : (xs ys : List SymbolId) → AllZip (λ x y. y ≡ x) xs ys → ys ≡ xs
symbols_cloned [] [] zip = refl
symbols_cloned [] (y ∷ ys) zip = absurd zip
symbols_cloned (x ∷ xs) [] zip = absurd zip
symbols_cloned (x ∷ xs) (y ∷ ys) zip = λ i. zip.0 i ∷ symbols_cloned xs ys zip.1 i

pub spans_cloned : (es fs : List (SymbolId × Span)) → AllZip (λ p q. (q.0 ≡ p.0) × (q.1 ≡ p.1)) es fs → fs ≡ es
spans_cloned [] [] zip = refl
spans_cloned [] (f ∷ fs) zip = absurd zip
spans_cloned (e ∷ es) [] zip = absurd zip
spans_cloned (e ∷ es) (f ∷ fs) zip = λ i. (zip.0.0 i, zip.0.1 i) ∷ spans_cloned es fs zip.1 i
