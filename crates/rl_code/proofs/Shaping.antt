-- Parts that do not have the form wanted.
use Rattle.std.proofs.Common.{◌≡◌, false, None, refl}
use Rattle.rl_code.specs.Parts.{both, items_and_rest, only, said_only}
use Rattle.rl_syntax.specs.Shapes.{is_list, is_text}
use Rattle.rl_syntax.specs.Syntax.{Syntax, Listed, Said, Pieces, End, Then}

pub no_both : (parts : Pieces) → both parts ≡ None → None ≡ items_and_rest parts
no_both (Then (Listed items) (Then rest End)) none = absurd (cc)
no_both _ none = refl

pub no_list : (parts : Pieces) (a b : Syntax) → parts ≡ Then a (Then b End) → is_list a ≡ false → None ≡ items_and_rest parts
no_list (Then (Listed items) (Then rest End)) a b is none = absurd (cc)
no_list _ a b is none = refl

pub ruleset no_items = (no_both, no_list)

pub no_only : (parts : Pieces) → only parts ≡ None → None ≡ said_only parts
no_only (Then (Said text) End) none = absurd (cc)
no_only _ none = refl

pub no_text : (parts : Pieces) (a : Syntax) → parts ≡ Then a End → is_text a ≡ false → None ≡ said_only parts
no_text (Then (Said text) End) a is none = absurd (cc)
no_text _ a is none = refl

pub ruleset no_said = (no_only, no_text)
