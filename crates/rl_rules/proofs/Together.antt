-- A tree keeps two rules together if it keeps the one and the other.
use Rattle.std.proofs.Common.{◌≡◌, ℕ, ◌+◌, Bool, true, false, ◌&&◌, refl, ap, ◌∙◌}
use Rattle.rl_syntax.specs.Syntax.{Syntax, Node, Listed, Said, Count, Flag, Absent, Pieces, End, Then}
use Rattle.rl_syntax.specs.declared.word.Word.{Word}
use Rattle.rl_rules.specs.Both.{both_pass, both_below}
use Rattle.rl_rules.specs.Walks.{passes, parts_pass, items_pass}

-- Four results in two pairs, paired the other way.
paired : (a b c d : Bool) → ((a && b) && (c && d)) ≡ ((a && c) && (b && d))
paired false b c d = refl
paired true true c d = refl
paired true false true d = refl
paired true false false d = refl

split : (a b c d left right : Bool) → left ≡ (a && b) → right ≡ (c && d) → (left && right) ≡ ((a && c) && (b && d))
split a b c d left right first second = ap (λ x. x && right) first ∙ ap (λ x. (a && b) && x) second ∙ paired a b c d

module _ {A B : Type 0} (test : A → Word → Pieces → Bool) (below : A → Word → ℕ → A) (other : B → Word → Pieces → Bool) (under : B → Word → ℕ → B) where
  mutual
    pub passes_both : (a : A) (b : B) (tree : Syntax) → passes (both_pass test other) (both_below below under) (a, b) tree ≡ (passes test below a tree && passes other under b tree)
    passes_both a b (Node at w parts) = split (test a w parts) (other b w parts) (parts_pass test below a w 0 parts) (parts_pass other under b w 0 parts) _ _ refl (parts_both a b w 0 parts)
    passes_both a b (Listed parts) = items_both a b parts
    passes_both a b (Said text) = refl
    passes_both a b (Count number) = refl
    passes_both a b (Flag flag) = refl
    passes_both a b Absent = refl

    parts_both : (a : A) (b : B) (w : Word) (index : ℕ) (parts : Pieces) → parts_pass (both_pass test other) (both_below below under) (a, b) w index parts ≡ (parts_pass test below a w index parts && parts_pass other under b w index parts)
    parts_both a b w index End = refl
    parts_both a b w index (Then piece pieces) = split (passes test below (below a w index) piece) (passes other under (under b w index) piece) (parts_pass test below a w (index + 1) pieces) (parts_pass other under b w (index + 1) pieces) _ _ (passes_both (below a w index) (under b w index) piece) (parts_both a b w (index + 1) pieces)

    items_both : (a : A) (b : B) (parts : Pieces) → items_pass (both_pass test other) (both_below below under) (a, b) parts ≡ (items_pass test below a parts && items_pass other under b parts)
    items_both a b End = refl
    items_both a b (Then piece pieces) = split (passes test below a piece) (passes other under b piece) (items_pass test below a pieces) (items_pass other under b pieces) _ _ (passes_both a b piece) (items_both a b pieces)
