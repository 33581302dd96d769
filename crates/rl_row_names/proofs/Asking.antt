-- Demands by the forms of parts.
use Rattle.std.proofs.Common.{◌≡◌, Bool, false, Option, None, ap, sym, refl, ◌∙◌}
use Rattle.rl_code.specs.Parts.{both, only, three}
use Rattle.rl_row_forms.specs.Shaped.{is_empty_list}
use Rattle.rl_row_names.specs.Orders.{call_asked, call_order, if_list, is_empty_body, items_asked, items_order, new_asked, new_order}
use Rattle.rl_row_names.specs.declared.order.Order.{Order}
use Rattle.rl_syntax.specs.Syntax.{Syntax, Listed, Pieces, End, Then}

items_is : (a : Syntax) → if_list items_asked a ≡ items_order (Then a End)
items_is (Listed items) = refl
items_is _ = refl

pub items_some : (ps : Pieces) (a : Syntax) (r : Option Order) → ps ≡ Then a End → r ≡ if_list items_asked a → r ≡ items_order ps
items_some ps a r is e = e ∙ items_is a ∙ ap items_order (sym is)

pub items_none : (ps : Pieces) → only ps ≡ None → None ≡ items_order ps
items_none (Then (Listed items) End) is = absurd (cc)
items_none _ is = refl

pub ruleset items = (items_some, items_none)

body_is : (a b : Syntax) → is_empty_list b ≡ is_empty_body (Then a (Then b End))
body_is a (Listed End) = refl
body_is a _ = refl

pub body_some : (ps : Pieces) (a b : Syntax) (r : Bool) → ps ≡ Then a (Then b End) → r ≡ is_empty_list b → r ≡ is_empty_body ps
body_some ps a b r is e = e ∙ body_is a b ∙ ap is_empty_body (sym is)

pub body_none : (ps : Pieces) → both ps ≡ None → false ≡ is_empty_body ps
body_none (Then a (Then (Listed End) End)) is = absurd (cc)
body_none _ is = refl

pub ruleset bodies = (body_some, body_none)

call_is : (a b c : Syntax) → if_list call_asked c ≡ call_order (Then a (Then b (Then c End)))
call_is a b (Listed items) = refl
call_is a b _ = refl

pub call_some : (ps : Pieces) (a b c : Syntax) (r : Option Order) → ps ≡ Then a (Then b (Then c End)) → r ≡ if_list call_asked c
    → r ≡ call_order ps
call_some ps a b c r is e = e ∙ call_is a b c ∙ ap call_order (sym is)

pub call_none : (ps : Pieces) → three ps ≡ None → None ≡ call_order ps
call_none (Then a (Then b (Then (Listed items) End))) is = absurd (cc)
call_none _ is = refl

pub ruleset calls = (call_some, call_none)

new_is : (a b : Syntax) → if_list new_asked b ≡ new_order (Then a (Then b End))
new_is a (Listed items) = refl
new_is a _ = refl

pub new_some : (ps : Pieces) (a b : Syntax) (r : Option Order) → ps ≡ Then a (Then b End) → r ≡ if_list new_asked b → r ≡ new_order ps
new_some ps a b r is e = e ∙ new_is a b ∙ ap new_order (sym is)

pub new_none : (ps : Pieces) → both ps ≡ None → None ≡ new_order ps
new_none (Then a (Then (Listed items) End)) is = absurd (cc)
new_none _ is = refl

pub ruleset news = (new_some, new_none)
