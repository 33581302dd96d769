-- Parts that do not have the form wanted.
use Rattle.std.proofs.Common.{◌≡◌, false, Some, None, ap, refl, sym}
use Rattle.rl_promises.specs.PartForms.{is_flag_and_three, is_flag_and_trees, is_text_ahead, is_text_alone, is_text_and_tree, jump_label, list_alone, list_and_tree, second_list, tree_and_list, two_lists, two_trees}
use Rattle.rl_syntax.specs.Shapes.{is_flag, is_four, is_list, is_one, is_text, is_three, is_two}
use Rattle.rl_syntax.specs.Syntax.{Syntax, Listed, Said, Flag, Pieces, End, Then}

pub no_text_ahead : (ps rest : Pieces) (t : Syntax) → ps ≡ Then t rest → is_text t ≡ false → is_text_ahead ps ≡ false
no_text_ahead (Then (Said text) parts) rest t is none = absurd (cc)
no_text_ahead _ rest t is none = refl

pub not_alone : (ps : Pieces) → is_text_ahead ps ≡ false → is_text_alone ps ≡ false
not_alone (Then (Said text) End) none = absurd (cc)
not_alone _ none = refl

pub not_with_tree : (ps : Pieces) → is_text_ahead ps ≡ false → is_text_and_tree ps ≡ false
not_with_tree (Then (Said text) (Then tree End)) none = absurd (cc)
not_with_tree _ none = refl

pub ruleset texts = (no_text_ahead, not_alone, not_with_tree)

pub not_three : (ps : Pieces) → is_three ps ≡ false → is_flag_and_trees ps ≡ false
not_three (Then (Flag flag) (Then tree (Then another End))) none = absurd (cc)
not_three _ none = refl

pub no_flag : (ps : Pieces) (a b c : Syntax) → ps ≡ Then a (Then b (Then c End)) → is_flag a ≡ false → is_flag_and_trees ps ≡ false
no_flag (Then (Flag flag) (Then tree (Then another End))) a b c is none = absurd (cc)
no_flag _ a b c is none = refl

pub not_four : (ps : Pieces) → is_four ps ≡ false → is_flag_and_three ps ≡ false
not_four (Then (Flag flag) (Then a (Then b (Then c End)))) none = absurd (cc)
not_four _ none = refl

pub no_flag_of_four : (ps : Pieces) (a b c d : Syntax) → ps ≡ Then a (Then b (Then c (Then d End))) → is_flag a ≡ false
    → is_flag_and_three ps ≡ false
no_flag_of_four (Then (Flag flag) (Then x (Then y (Then z End)))) a b c d is none = absurd (cc)
no_flag_of_four _ a b c d is none = refl

pub ruleset flags = (not_three, no_flag, not_four, no_flag_of_four)

pub not_two : (ps : Pieces) → is_two ps ≡ false → None ≡ two_lists ps
not_two (Then (Listed items) (Then (Listed others) End)) none = absurd (cc)
not_two _ none = refl

pub no_list : (ps : Pieces) (a b : Syntax) → ps ≡ Then a (Then b End) → is_list a ≡ false → None ≡ two_lists ps
no_list (Then (Listed items) (Then (Listed others) End)) a b is none = absurd (cc)
no_list _ a b is none = refl

pub no_second_list : (ps : Pieces) (a b : Syntax) → ps ≡ Then a (Then b End) → is_list b ≡ false → None ≡ two_lists ps
no_second_list (Then (Listed items) (Then (Listed others) End)) a b is none = absurd (cc)
no_second_list _ a b is none = refl

pub ruleset lists = (not_two, no_list, no_second_list)

pub not_one : (ps : Pieces) → is_one ps ≡ false → None ≡ list_alone ps
not_one (Then (Listed items) End) none = absurd (cc)
not_one _ none = refl

pub no_list_alone : (ps : Pieces) (a : Syntax) → ps ≡ Then a End → is_list a ≡ false → None ≡ list_alone ps
no_list_alone (Then (Listed items) End) a is none = absurd (cc)
no_list_alone _ a is none = refl

pub ruleset alone = (not_one, no_list_alone)

pub not_a_label : (ps : Pieces) → is_one ps ≡ false → None ≡ jump_label ps
not_a_label (Then label End) none = absurd (cc)
not_a_label _ none = refl

pub ruleset labels = (not_a_label)

pub not_two_parts : (ps : Pieces) → is_two ps ≡ false → None ≡ second_list ps
not_two_parts (Then first (Then (Listed items) End)) none = absurd (cc)
not_two_parts _ none = refl

pub no_list_behind : (ps : Pieces) (a b : Syntax) → ps ≡ Then a (Then b End) → is_list b ≡ false → None ≡ second_list ps
no_list_behind (Then first (Then (Listed items) End)) a b is none = absurd (cc)
no_list_behind _ a b is none = refl

pub ruleset seconds = (not_two_parts, no_list_behind)

pub not_tree_and_list : (ps : Pieces) → is_two ps ≡ false → None ≡ tree_and_list ps
not_tree_and_list (Then tree (Then (Listed items) End)) none = absurd (cc)
not_tree_and_list _ none = refl

pub no_list_behind_tree : (ps : Pieces) (a b : Syntax) → ps ≡ Then a (Then b End) → is_list b ≡ false → None ≡ tree_and_list ps
no_list_behind_tree (Then tree (Then (Listed items) End)) a b is none = absurd (cc)
no_list_behind_tree _ a b is none = refl

pub ruleset behind = (not_tree_and_list, no_list_behind_tree)

pub not_two_trees : (ps : Pieces) → is_two ps ≡ false → None ≡ two_trees ps
not_two_trees (Then tree (Then another End)) none = absurd (cc)
not_two_trees _ none = refl

pub two_are_trees : (ps : Pieces) (a b : Syntax) → ps ≡ Then a (Then b End) → Some (a, b) ≡ two_trees ps
two_are_trees ps a b is = ap two_trees (sym is)

pub ruleset caught = (not_two_trees, two_are_trees)

pub not_list_and_tree : (ps : Pieces) → is_two ps ≡ false → None ≡ list_and_tree ps
not_list_and_tree (Then (Listed items) (Then tree End)) none = absurd (cc)
not_list_and_tree _ none = refl

pub no_list_in_front : (ps : Pieces) (a b : Syntax) → ps ≡ Then a (Then b End) → is_list a ≡ false → None ≡ list_and_tree ps
no_list_in_front (Then (Listed items) (Then tree End)) a b is none = absurd (cc)
no_list_in_front _ a b is none = refl

pub ruleset in_front = (not_list_and_tree, no_list_in_front)
