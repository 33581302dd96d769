-- The rows of `break` and `continue` by the forms of their parts.
use Rattle.std.proofs.Common.{◌≡◌, ℕ, Bool, true, List, None, ap, sym, refl, ◌∙◌}
use Rattle.rl_code.specs.Parts.{only}
use Rattle.rl_row_forms.specs.Statements.{clear_break, clear_break_label, clear_continue, clear_continue_label}
use Rattle.rl_syntax.specs.Syntax.{Syntax, Said, Absent, Pieces, End, Then}

break_is : (breaks : Bool) (labels : List (List ℕ × Bool)) (a : Syntax)
    → clear_break_label breaks labels a ≡ clear_break breaks labels (Then a End)
break_is breaks labels Absent = refl
break_is breaks labels (Said label) = refl
break_is breaks labels _ = refl

pub break_some : (breaks : Bool) (labels : List (List ℕ × Bool)) (ps : Pieces) (a : Syntax) (r : Bool) → ps ≡ Then a End
    → r ≡ clear_break_label breaks labels a → r ≡ clear_break breaks labels ps
break_some breaks labels ps a r is e = e ∙ break_is breaks labels a ∙ ap (clear_break breaks labels) (sym is)

pub break_none : (breaks : Bool) (labels : List (List ℕ × Bool)) (ps : Pieces) → only ps ≡ None → true ≡ clear_break breaks labels ps
break_none breaks labels (Then Absent End) is = absurd (cc)
break_none breaks labels (Then (Said label) End) is = absurd (cc)
break_none breaks labels _ is = refl

pub ruleset breaks = (break_some, break_none)

continue_is : (continues : Bool) (labels : List (List ℕ × Bool)) (a : Syntax)
    → clear_continue_label continues labels a ≡ clear_continue continues labels (Then a End)
continue_is continues labels Absent = refl
continue_is continues labels (Said label) = refl
continue_is continues labels _ = refl

pub continue_some : (continues : Bool) (labels : List (List ℕ × Bool)) (ps : Pieces) (a : Syntax) (r : Bool) → ps ≡ Then a End
    → r ≡ clear_continue_label continues labels a → r ≡ clear_continue continues labels ps
continue_some continues labels ps a r is e = e ∙ continue_is continues labels a ∙ ap (clear_continue continues labels) (sym is)

pub continue_none : (continues : Bool) (labels : List (List ℕ × Bool)) (ps : Pieces) → only ps ≡ None
    → true ≡ clear_continue continues labels ps
continue_none continues labels (Then Absent End) is = absurd (cc)
continue_none continues labels (Then (Said label) End) is = absurd (cc)
continue_none continues labels _ is = refl

pub ruleset continues = (continue_some, continue_none)
