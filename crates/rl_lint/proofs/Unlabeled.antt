-- Rules that find nothing in a unit, by its tables.
use Rattle.std.proofs.Common.{◌≡◌, Bool, true, false, if◌then◌else◌, Option, Some, None, List, [], ◌++◌}
use Rattle.std.proofs.Common.{append-nil, refl, sym, ap, ◌∙◌}
use Rattle.std.proofs.lemmas.Bool.{or_parts}
use Rattle.std.proofs.lemmas.List.Folds.{list_any-append}
use Rattle.std.specs.List.{list_any}
use Rattle.rl_base.specs.declared.ids.NodeId.{NodeId}
use Rattle.rl_lint.specs.Clear.{FindsNone}
use Rattle.rl_lint.specs.Rules.{findings, is_labeled, shadowing, taken, unused, unused_among, unused_at, unused_label}
use Rattle.rl_lint.specs.Sites.{sites_in}
use Rattle.rl_lint.specs.Tables.{Tables}
use Rattle.rl_lint.specs.declared.finding.Finding.{Finding}
use Rattle.rl_lint_hints.specs.Hints.{any_labeled, is_labeled_word}
use Rattle.rl_semantic.specs.Imports.{first_text}
use Rattle.rl_semantic.specs.Items.{of_item}
use Rattle.rl_syntax.specs.Nodes.{entries, entries_among, entries_under}
use Rattle.rl_syntax.specs.Syntax.{Syntax, Node, Listed, Said, Count, Flag, Absent, Pieces, End, Then}
use Rattle.rl_syntax.specs.declared.nodes.NodeEntry.{NodeEntry}
use Rattle.rl_syntax.specs.declared.word.Word.{Word}
use Rattle.rl_syntax.specs.declared.word.Word.TheVariants as word

abbrev labels_one : NodeEntry → Bool
labels_one e = is_labeled_word e.word

unlabeled_word : (w : Word) → is_labeled_word w ≡ false → is_labeled w ≡ false
unlabeled_word word.Labeled none = none
unlabeled_word _ none = refl

mutual
  none_unused : (parent : Option NodeId) (t : Syntax) → list_any labels_one (entries_under parent t) ≡ false → unused t ≡ []
  none_unused parent (Node at w ps) none =
      let parts = or_parts (is_labeled_word w) (list_any labels_one (entries_among (Some at.id) ps)) none in
      ap (λ l. l ++ unused_at at w ps) (none_among (Some at.id) ps parts.1)
      ∙ ap (λ (c : Bool). if c then of_item [] (λ label. unused_label at label ps) (first_text ps) else [])
      (unlabeled_word w parts.0)
  none_unused parent (Listed ps) none = none_among parent ps none
  none_unused parent (Said text) none = refl
  none_unused parent (Count number) none = refl
  none_unused parent (Flag flag) none = refl
  none_unused parent Absent none = refl

  none_among : (parent : Option NodeId) (ps : Pieces) → list_any labels_one (entries_among parent ps) ≡ false → unused_among ps ≡ []
  none_among parent End none = refl
  none_among parent (Then t ps) none =
      let parts = or_parts (list_any labels_one (entries_under parent t)) (list_any labels_one (entries_among parent ps))
      (sym (list_any-append labels_one (entries_under parent t) (entries_among parent ps)) ∙ none) in
      ap (λ l. l ++ unused_among ps) (none_unused parent t parts.0) ∙ none_among parent ps parts.1

-- L3 finds nothing without labelled statements.
pub unlabeled : (out : List Finding) (nodes : List NodeEntry) (tree : Syntax) (labeled : Bool) → nodes ≡ entries tree
    → labeled ≡ any_labeled nodes → labeled ≡ false → out ≡ out ++ unused tree
unlabeled out nodes tree labeled is told none =
    sym (append-nil out) ∙ ap (λ l. out ++ l) (sym (none_unused None tree (ap any_labeled (sym is) ∙ sym told ∙ none)))

pub ruleset by_table = (unlabeled)

-- L2 and L3 find all in a unit that is clear.
pub all_in_clear : (b : Tables) (tree : Syntax) (clear : Bool) (start shadowed found : List Finding)
    → (clear ≡ true → FindsNone b tree) → clear ≡ true → start ≡ [] → shadowed ≡ start ++ shadowing b b.symbols
    → found ≡ shadowed ++ unused tree → found ≡ findings b tree
all_in_clear b tree clear start shadowed found finds is none first all =
    let kept = finds is in
    all ∙ ap (λ l. l ++ unused tree) (first ∙ ap (λ l. l ++ shadowing b b.symbols) none)
    ∙ ap (λ l. shadowing b b.symbols ++ l) (sym (append-nil (unused tree)) ∙ ap (λ l. unused tree ++ l) (sym kept.none_taken))
    ∙ ap (λ l. l ++ (shadowing b b.symbols ++ (unused tree ++ taken b (sites_in tree)))) (sym kept.none_early)

pub ruleset in_clear = (all_in_clear)
