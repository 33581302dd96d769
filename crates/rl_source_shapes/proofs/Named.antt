-- Names in patterns, and parts without one.
use Rattle.std.proofs.Common.{◌≡◌, ℕ, Some, None, List, [], ◌∷◌, ◌++◌, ap, codes, refl}
use Rattle.std.specs.Option.{unwrap_or}
use Rattle.rl_source_shapes.specs.Keys.{only_text, short_shape}
use Rattle.rl_syntax.specs.Syntax.{Node, Said, Pieces, End, Then}
use Rattle.rl_syntax.specs.declared.numbered.At.{At}
use Rattle.rl_syntax.specs.declared.word.Word.TheVariants as word

pub no_name : (at : At) (names ps : Pieces) → only_text names ≡ None → short_shape (Then (Node at word.Id names) ps) ≡ codes "place" ∷ []
no_name at (Then (Said name) End) ps none = absurd (cc)
no_name at _ ps none = refl

pub a_name : (at : At) (names ps : Pieces) (name : List ℕ) → only_text names ≡ Some name
    → short_shape (Then (Node at word.Id names) ps) ≡ (codes "." ++ name) ∷ codes "place" ∷ []
a_name at (Then (Said said) End) ps name is = ap (λ o. (codes "." ++ unwrap_or o []) ∷ codes "place" ∷ []) is
a_name at _ ps name is = absurd (cc)

pub ruleset unnamed = (no_name, a_name)
