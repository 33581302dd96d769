-- Parts that do not have the form wanted, and defaults.
use Rattle.std.proofs.Common.{◌≡◌, true≢false, true, false, ◌||◌, None, Some, ℕ, List, refl, sym, ap, ◌∙◌}
use Rattle.rl_dead.proofs.Pairs.{first_of, second_of}
use Rattle.rl_dead.specs.Parts.{both, is_default, labeled_of, only_list, second_list}
use Rattle.rl_model.specs.Dead.{declares, has_default}
use Rattle.rl_syntax.specs.Shapes.{is_list, is_text}
use Rattle.rl_syntax.specs.Syntax.{Syntax, Node, Listed, Said, Absent, Pieces, End, Then}
use Rattle.rl_syntax.specs.declared.word.Word.TheVariants as word

pub no_list : (a : Syntax) → is_list a ≡ false → None ≡ only_list (Then a End)
no_list (Listed items) none = absurd (cc)
no_list _ none = refl

pub no_both : (parts : Pieces) → None ≡ both parts → None ≡ labeled_of parts
no_both (Then (Said label) (Then body End)) none = absurd (cc)
no_both _ none = refl

pub no_text : (parts : Pieces) (a b : Syntax) → Some (a, b) ≡ both parts → is_text a ≡ false → None ≡ labeled_of parts
no_text (Then (Said label) (Then body End)) a b is none =
    absurd (true≢false (sym (ap is_text (first_of (a, b) (Said label, body) is)) ∙ none))
no_text _ a b is none = refl

pub some_text : (parts : Pieces) (a b : Syntax) (label : List ℕ) → Some (a, b) ≡ both parts → a ≡ Said label → Some (label, b) ≡ labeled_of parts
some_text (Then c (Then body End)) a b label is text =
    ap (λ t. Some (label, t)) (second_of (a, b) (c, body) is)
    ∙ ap (λ t. labeled_of (Then t (Then body End))) (sym text ∙ first_of (a, b) (c, body) is)
some_text _ a b label is text = absurd (cc)

pub ruleset labels = (no_both, no_text, some_text)

-- Declarations with and without declarators.
pub some_declared : (parts items rest : Pieces) (a : Syntax) → Some items ≡ second_list parts → items ≡ Then a rest → true ≡ declares parts
some_declared (Then kind (Then (Listed End) End)) items rest a is more = absurd (cc)
some_declared _ items rest a is more = refl

pub none_declared : (parts items : Pieces) → Some items ≡ second_list parts → items ≡ End → false ≡ declares parts
none_declared (Then kind (Then (Listed End) End)) items is none = refl
none_declared (Then kind (Then (Listed (Then item more)) End)) items is none = absurd (cc)
none_declared (Then kind (Then (Listed declarators) (Then another others))) items is none = absurd (cc)
none_declared _ items is none = absurd (cc)

pub no_declarators : (parts : Pieces) → None ≡ second_list parts → true ≡ declares parts
no_declarators (Then kind (Then (Listed End) End)) none = absurd (cc)
no_declarators _ none = refl

pub ruleset declarators = (some_declared, none_declared, no_declarators)

-- A default stands first, or behind the first case.
pub default_behind : (c : Syntax) (rest : Pieces) → has_default (Then c rest) ≡ (is_default c || has_default rest)
default_behind (Node at word.Case (Then Absent parts)) rest = refl
default_behind _ rest = refl

pub default_first : (c : Syntax) (rest : Pieces) → is_default c ≡ true → true ≡ has_default (Then c rest)
default_first c rest is = sym (default_behind c rest ∙ ap (λ b. b || has_default rest) is)

pub default_later : (c : Syntax) (rest : Pieces) → is_default c ≡ false → has_default rest ≡ has_default (Then c rest)
default_later c rest is_not = sym (default_behind c rest ∙ ap (λ b. b || has_default rest) is_not)

pub ruleset defaults = (default_behind, default_first, default_later)
