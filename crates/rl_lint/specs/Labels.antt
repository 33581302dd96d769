-- Labels that were seen.
use Rattle.std.specs.Prelude.{◌≡◌, ℕ, Bool, false, not, ◌&&◌, ◌||◌, List, ◌++◌}
use Rattle.std.specs.BTreeMap.{BTreeMap, get_by_text}
use Rattle.std.specs.declared.alloc.Global.{Global}
use Rattle.std.specs.declared.string.String.{String}
use Rattle.std.specs.Str.{bytes_eq}
use Rattle.rl_lint.specs.Rules.{refers, refers_among, refers_at}
use Rattle.rl_lint.specs.declared.finding.Finding.{Finding}
use Rattle.rl_semantic.specs.Imports.{first_text}
use Rattle.rl_semantic.specs.Items.{of_item}
use Rattle.rl_syntax.specs.Syntax.{Syntax, Pieces}
use Rattle.rl_syntax.specs.declared.word.Word.{Word}

-- True of a label that the map says was seen.
abbrev pub has : BTreeMap (String Global) Bool → (label : List ℕ) → Bool
has seen label = of_item false (λ (b : Bool). b) (get_by_text seen label)

-- The labels that were seen before, and those that `told` is true of, are those that were seen after.
pub record Sees (before after : BTreeMap (String Global) Bool) (told : List ℕ → Bool) : Type 0 where
  pub at : (label : List ℕ) → has after label ≡ (has before label || told label)

-- A walk over labels: the findings `found` were appended to `before`, which gives `after`, and the labels that `told` is true of were seen.
pub record Walked (before after : List Finding) (seen later : BTreeMap (String Global) Bool) (found : List Finding)
    (told : List ℕ → Bool) : Type 0 where
  pub found_are : after ≡ before ++ found
  pub seen_are : Sees seen later told

-- The labels that a labelled statement refers to are those that its parts do, its own aside.
abbrev pub told_labeled : (own : List ℕ) → Pieces → (label : List ℕ) → Bool
told_labeled own parts label = not (bytes_eq own label) && refers_among label parts

-- The labels that a `break` or `continue` refers to: its own. Its parts refer to none.
abbrev pub told_jump : (own : List ℕ) → Pieces → (label : List ℕ) → Bool
told_jump own parts label = bytes_eq own label || refers_among label parts

abbrev pub told_parts : Pieces → (label : List ℕ) → Bool
told_parts parts label = refers_among label parts

abbrev pub told_none : (label : List ℕ) → Bool
told_none label = false

abbrev pub told_node : Word → Pieces → (label : List ℕ) → Bool
told_node w parts label = refers_at label w (first_text parts) (refers_among label parts)

abbrev pub told_tree : Syntax → (label : List ℕ) → Bool
told_tree tree label = refers label tree
