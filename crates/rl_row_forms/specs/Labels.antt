-- Labels around a node, as a list.
use Rattle.std.specs.Prelude.{ℕ, Bool, List, [], ◌∷◌}
use Rattle.rl_row_forms.specs.declared.labels.Labels.{Labels, fold-Labels}
use Rattle.rl_row_forms.specs.declared.labels.Labels.TheOpen.{Labels-F}

abbrev pub label_step : Labels-F (List (List ℕ × Bool)) → List (List ℕ × Bool)
label_step Labels-F.Nothing = []
label_step (Labels-F.Inside outer name is_loop) = (name.now, is_loop) ∷ outer.now

-- The labels, the innermost first, each with whether it is right in front of a loop.
abbrev pub labels_of : Labels → List (List ℕ × Bool)
labels_of = fold-Labels (List (List ℕ × Bool)) label_step
