-- A value by the form of parts.
use Rattle.std.proofs.Common.{◌≡◌, ℕ, Bool, List, Option, Some, None, ap, sym, refl, ◌∙◌}
use Rattle.rl_code.specs.Parts.{both, only, three}
use Rattle.rl_row_forms.specs.Shaped.{flag_in, flag_of_three, said_in, said_of_three, said_pair, with_said}
use Rattle.rl_semantic.specs.Items.{of_item}
use Rattle.rl_syntax.specs.Syntax.{Syntax, Said, Flag, Pieces, End, Then}

pub by_some : {X Y : Type 0} (other : Y) (f : X → Y) (o : Option X) (x : X) (r : Y) → Some x ≡ o → r ≡ f x → r ≡ of_item other f o
by_some other f o x r is e = e ∙ ap (of_item other f) is

pub by_none : {X Y : Type 0} (other : Y) (f : X → Y) (o : Option X) → None ≡ o → other ≡ of_item other f o
by_none other f o is = ap (of_item other f) is

pub by_no : {X Y : Type 0} (other : Y) (f : X → Y) (o : Option X) → o ≡ None → other ≡ of_item other f o
by_no other f o is = ap (of_item other f) (sym is)

pub by_only : {Y : Type 0} (other : Y) (f : Syntax → Y) (ps : Pieces) (a : Syntax) (r : Y) → ps ≡ Then a End → r ≡ f a
    → r ≡ of_item other f (only ps)
by_only other f ps a r is e = e ∙ ap (λ q. of_item other f (only q)) (sym is)

pub by_both : {Y : Type 0} (other : Y) (f : Syntax × Syntax → Y) (ps : Pieces) (a b : Syntax) (r : Y) → ps ≡ Then a (Then b End)
    → r ≡ f (a, b) → r ≡ of_item other f (both ps)
by_both other f ps a b r is e = e ∙ ap (λ q. of_item other f (both q)) (sym is)

pub by_three : {Y : Type 0} (other : Y) (f : Syntax × (Syntax × Syntax) → Y) (ps : Pieces) (a b c : Syntax) (r : Y)
    → ps ≡ Then a (Then b (Then c End)) → r ≡ f (a, (b, c)) → r ≡ of_item other f (three ps)
by_three other f ps a b c r is e = e ∙ ap (λ q. of_item other f (three q)) (sym is)

pub ruleset by_item = (by_some, by_none, by_no, by_only, by_both, by_three)

flag_is : (a b c : Syntax) → flag_in a ≡ flag_of_three (Then a (Then b (Then c End)))
flag_is (Flag flag) b c = refl
flag_is _ b c = refl

pub three_flag : (ps : Pieces) (a b c : Syntax) (r : Option Bool) → ps ≡ Then a (Then b (Then c End)) → r ≡ flag_in a
    → r ≡ flag_of_three ps
three_flag ps a b c r is e = e ∙ flag_is a b c ∙ ap flag_of_three (sym is)

pub three_no_flag : (ps : Pieces) → three ps ≡ None → None ≡ flag_of_three ps
three_no_flag (Then (Flag flag) (Then b (Then c End))) is = absurd (cc)
three_no_flag _ is = refl

pub ruleset by_flag = (three_flag, three_no_flag)

text_is : (a b c : Syntax) → said_in a ≡ said_of_three (Then a (Then b (Then c End)))
text_is (Said text) b c = refl
text_is _ b c = refl

pub three_text : (ps : Pieces) (a b c : Syntax) (r : Option (List ℕ)) → ps ≡ Then a (Then b (Then c End)) → r ≡ said_in a
    → r ≡ said_of_three ps
three_text ps a b c r is e = e ∙ text_is a b c ∙ ap said_of_three (sym is)

pub three_no_text : (ps : Pieces) → three ps ≡ None → None ≡ said_of_three ps
three_no_text (Then (Said text) (Then b (Then c End))) is = absurd (cc)
three_no_text _ is = refl

pub ruleset by_text = (three_text, three_no_text)

pair_is : (a b : Syntax) → with_said a b ≡ said_pair (Then a (Then b End))
pair_is (Said text) b = refl
pair_is _ b = refl

pub two_pair : (ps : Pieces) (a b : Syntax) (r : Option (List ℕ × Syntax)) → ps ≡ Then a (Then b End) → r ≡ with_said a b → r ≡ said_pair ps
two_pair ps a b r is e = e ∙ pair_is a b ∙ ap said_pair (sym is)

pub two_no_pair : (ps : Pieces) → both ps ≡ None → None ≡ said_pair ps
two_no_pair (Then (Said text) (Then b End)) is = absurd (cc)
two_no_pair _ is = refl

pub ruleset by_pair = (two_pair, two_no_pair)
