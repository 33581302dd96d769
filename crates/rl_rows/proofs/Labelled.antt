-- Labels as a list, by their forms.
use Rattle.std.proofs.Common.{◌≡◌, ℕ, Bool, List, [], ◌∷◌, Bor, rules, ap, ◌∙◌}
use Rattle.rl_model.specs.Applied.{Facts, rows_in}
use Rattle.rl_model.specs.Supported.{is_none}
use Rattle.rl_row_forms.specs.Aboves.{seen}
use Rattle.rl_row_forms.specs.Labels.{labels_of}
use Rattle.rl_row_forms.specs.declared.above.Above.{Above}
use Rattle.rl_row_forms.specs.declared.labels.Labels.{Labels, Nothing, Inside, the_lemmas}
use Rattle.rl_rows.specs.Clear.{clear_among}
use Rattle.rl_syntax.specs.Syntax.{Syntax, Pieces}

pub no_labels : labels_of Nothing ≡ []
no_labels = search (rules, the_lemmas)

pub more_labels : (outer : Bor Labels) (name : Bor (List ℕ)) (is_loop : Bool)
    → labels_of (Inside outer name is_loop) ≡ (name.now, is_loop) ∷ labels_of outer.now
more_labels outer name is_loop = search (rules, the_lemmas)

pub tree_outside : (f : Facts) (a : Above) (tree : Syntax) (r : Bool) → r ≡ is_none (rows_in f (seen a (labels_of Nothing)) tree)
    → r ≡ is_none (rows_in f (seen a []) tree)
tree_outside f a tree r e = e ∙ ap (λ ls. is_none (rows_in f (seen a ls) tree)) no_labels

pub trees_outside : (f : Facts) (a : Above) (parts : Pieces) (r : Bool) → r ≡ clear_among f (seen a (labels_of Nothing)) parts
    → r ≡ clear_among f (seen a []) parts
trees_outside f a parts r e = e ∙ ap (λ ls. clear_among f (seen a ls) parts) no_labels

pub ruleset outside = (tree_outside, trees_outside)

pub tree_inside : (f : Facts) (a : Above) (outer : Bor Labels) (name : Bor (List ℕ)) (is_loop : Bool) (tree : Syntax) (r : Bool)
    → r ≡ is_none (rows_in f (seen a (labels_of (Inside outer name is_loop))) tree)
    → r ≡ is_none (rows_in f (seen a ((name.now, is_loop) ∷ labels_of outer.now)) tree)
tree_inside f a outer name is_loop tree r e = e ∙ ap (λ ls. is_none (rows_in f (seen a ls) tree)) (more_labels outer name is_loop)

pub ruleset inside = (tree_inside)
