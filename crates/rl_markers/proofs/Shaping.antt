-- Parts that are no list.
use Rattle.std.proofs.Common.{◌≡◌, false, None, refl}
use Rattle.rl_markers.specs.Parts.{only_list}
use Rattle.rl_syntax.specs.Shapes.{is_list}
use Rattle.rl_syntax.specs.Syntax.{Syntax, Listed, End, Then}

pub no_list : (a : Syntax) → is_list a ≡ false → None ≡ only_list (Then a End)
no_list (Listed items) none = absurd (cc)
no_list _ none = refl
