-- The rows of expressions by the forms of their parts.
use Rattle.std.proofs.Common.{◌≡◌, ℕ, Bool, true, List, None, ap, sym, refl, ◌∙◌}
use Rattle.rl_code.specs.Parts.{both, three}
use Rattle.rl_row_forms.specs.Targets.{clear_assigned, clear_assigned_in, clear_spaced_pair, clear_spaced_tag, clear_tagged, clear_template}
use Rattle.rl_syntax.specs.Syntax.{Syntax, Node, Listed, Said, Pieces, End, Then}
use Rattle.rl_syntax.specs.declared.word.Word.TheVariants as word

assigned_is : (operator : List ℕ) (a b c : Syntax) → clear_assigned operator b ≡ clear_assigned_in operator (Then a (Then b (Then c End)))
assigned_is operator a (Node there word.Privatemember parts) c = refl
assigned_is operator a (Node there word.Arraytarget parts) c = refl
assigned_is operator a (Node there word.Objecttarget parts) c = refl
assigned_is operator a _ c = refl

pub assigned_some : (operator : List ℕ) (ps : Pieces) (a b c : Syntax) (r : Bool) → ps ≡ Then a (Then b (Then c End))
    → r ≡ clear_assigned operator b → r ≡ clear_assigned_in operator ps
assigned_some operator ps a b c r is e = e ∙ assigned_is operator a b c ∙ ap (clear_assigned_in operator) (sym is)

pub assigned_none : (operator : List ℕ) (ps : Pieces) → three ps ≡ None → true ≡ clear_assigned_in operator ps
assigned_none operator (Then a (Then (Node there word.Privatemember parts) (Then right End))) is = absurd (cc)
assigned_none operator (Then a (Then (Node there word.Arraytarget parts) (Then right End))) is = absurd (cc)
assigned_none operator (Then a (Then (Node there word.Objecttarget parts) (Then right End))) is = absurd (cc)
assigned_none operator _ is = refl

pub ruleset assigned = (assigned_some, assigned_none)

tagged_is : (a b : Syntax) → clear_template b ≡ clear_tagged (Then a (Then b End))
tagged_is a (Node there word.Template (Then (Listed quasis) parts)) = refl
tagged_is a _ = refl

pub tagged_some : (ps : Pieces) (a b : Syntax) (r : Bool) → ps ≡ Then a (Then b End) → r ≡ clear_template b → r ≡ clear_tagged ps
tagged_some ps a b r is e = e ∙ tagged_is a b ∙ ap clear_tagged (sym is)

pub tagged_none : (ps : Pieces) → both ps ≡ None → true ≡ clear_tagged ps
tagged_none (Then a (Then (Node there word.Template (Then (Listed quasis) parts)) End)) is = absurd (cc)
tagged_none _ is = refl

pub ruleset tagged = (tagged_some, tagged_none)

spaced_is : (a b : Syntax) → clear_spaced_pair a b ≡ clear_spaced_tag (Then a (Then b End))
spaced_is (Said namespace) (Said name) = refl
spaced_is (Said namespace) _ = refl
spaced_is _ b = refl

pub spaced_some : (ps : Pieces) (a b : Syntax) (r : Bool) → ps ≡ Then a (Then b End) → r ≡ clear_spaced_pair a b → r ≡ clear_spaced_tag ps
spaced_some ps a b r is e = e ∙ spaced_is a b ∙ ap clear_spaced_tag (sym is)

pub spaced_none : (ps : Pieces) → both ps ≡ None → true ≡ clear_spaced_tag ps
spaced_none (Then (Said namespace) (Then (Said name) End)) is = absurd (cc)
spaced_none _ is = refl

pub ruleset spaced = (spaced_some, spaced_none)
