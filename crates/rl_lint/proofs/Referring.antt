-- Labels that were seen, behind a walk.
use Rattle.std.proofs.Common.{◌≡◌, ℕ, Bool, true, false, not, ◌&&◌, ◌||◌, if◌then◌else◌, Option, Some, None}
use Rattle.std.proofs.Common.{List, [], ◌∷◌, ◌++◌, map, append_assoc, append-nil, string_bytes, refl, sym, ap, subst, ◌∙◌}
use Rattle.std.proofs.lemmas.Map.Text.{btree_map_updates_text}
use Rattle.std.proofs.lemmas.Slice.Eq.{bytes_eq-Decides}
use Rattle.std.specs.BTreeMap.{BTreeMap, Updates, get_by_text}
use Rattle.std.specs.String.{string_cmp}
use Rattle.std.specs.Str.{bytes_eq}
use Rattle.std.specs.declared.alloc.Global.{Global}
use Rattle.std.specs.declared.string.String.{String}
use Rattle.rl_base.proofs.Bools.{or_assoc, or_false}
use Rattle.rl_lint.specs.Findings.{finding}
use Rattle.rl_lint.specs.Labels.{has, told_jump, told_labeled, told_node, told_none, told_parts, told_tree, Walked}
use Rattle.rl_lint.specs.Rules.{is_jump, is_labeled, is_label, refers, refers_among}
use Rattle.rl_lint.specs.Rules.{refers_at, unused, unused_among, unused_at, unused_label}
use Rattle.rl_lint.specs.declared.finding.Finding.{Finding}
use Rattle.rl_lint.specs.declared.finding.LintRule.TheVariants as rule
use Rattle.rl_resolver.specs.Inside.{is_function_word}
use Rattle.rl_semantic.specs.Imports.{first_text}
use Rattle.rl_semantic.specs.Items.{of_item}
use Rattle.rl_syntax.specs.Syntax.{Syntax, Said, Count, Flag, Absent, Pieces, pieces_of, syntax}
use Rattle.rl_syntax.specs.declared.numbered.At.{At}
use Rattle.rl_syntax.specs.declared.numbered.Numbered.{Numbered}
use Rattle.rl_syntax.specs.declared.numbered.Numbered.TheVariants as numbered
use Rattle.rl_syntax.specs.declared.word.Word.{Word}
use Rattle.rl_syntax.specs.declared.word.Word.TheVariants as word
use Rattle.rl_syntax.proofs.Layers.{syntax_node, syntax_list, syntax_text, syntax_number, syntax_flag, syntax_absent}

abbrev Map : Type 0
Map = BTreeMap (String Global) Bool

-- Nothing was seen.
pub walked_none : (out : List Finding) (seen : Map) → Walked out out seen seen [] told_none
walked_none out seen = record { found_are = sym (append-nil out); seen_are = record { at = λ label. sym (or_false (has seen label)) } }

-- The findings and the labels of equal trees.
pub as_tree : (before after : List Finding) (seen later : Map) (t u : Syntax) → t ≡ u
    → Walked before after seen later (unused t) (told_tree t)
    → Walked before after seen later (unused u) (told_tree u)
as_tree before after seen later t u is w = subst (λ (t : Syntax). Walked before after seen later (unused t) (told_tree t)) is w

pub node_tree : (before after : List Finding) (seen later : Map) (at : At) (w : Word) (parts : List Numbered)
    → Walked before after seen later (unused_among (pieces_of (map syntax parts)) ++ unused_at at w (pieces_of (map syntax parts)))
    (told_node w (pieces_of (map syntax parts)))
    → Walked before after seen later (unused (syntax (numbered.Node at w parts))) (told_tree (syntax (numbered.Node at w parts)))
node_tree before after seen later at w parts walked = as_tree before after seen later _ _ (sym (syntax_node at w parts)) walked

pub list_tree : (before after : List Finding) (seen later : Map) (items : List Numbered)
    → Walked before after seen later (unused_among (pieces_of (map syntax items))) (told_parts (pieces_of (map syntax items)))
    → Walked before after seen later (unused (syntax (numbered.List items))) (told_tree (syntax (numbered.List items)))
list_tree before after seen later items walked = as_tree before after seen later _ _ (sym (syntax_list items)) walked

pub text_tree : (out : List Finding) (seen : Map) (text : List ℕ)
    → Walked out out seen seen (unused (syntax (numbered.Text text))) (told_tree (syntax (numbered.Text text)))
text_tree out seen text = as_tree out out seen seen (Said text) _ (sym (syntax_text text)) (walked_none out seen)

pub number_tree : (out : List Finding) (seen : Map) (number : ℕ)
    → Walked out out seen seen (unused (syntax (numbered.Number number))) (told_tree (syntax (numbered.Number number)))
number_tree out seen number = as_tree out out seen seen (Count number) _ (sym (syntax_number number)) (walked_none out seen)

pub flag_tree : (out : List Finding) (seen : Map) (flag : Bool)
    → Walked out out seen seen (unused (syntax (numbered.Flag flag))) (told_tree (syntax (numbered.Flag flag)))
flag_tree out seen flag = as_tree out out seen seen (Flag flag) _ (sym (syntax_flag flag)) (walked_none out seen)

pub absent_tree : (out : List Finding) (seen : Map)
    → Walked out out seen seen (unused (syntax numbered.Absent)) (told_tree (syntax numbered.Absent))
absent_tree out seen = as_tree out out seen seen Absent _ (sym syntax_absent) (walked_none out seen)

-- A tree without parts.
pub as_leaf : (out : List Finding) (seen : Map) (t form : Numbered) → t ≡ form
    → Walked out out seen seen (unused (syntax form)) (told_tree (syntax form))
    → Walked out out seen seen (unused (syntax t)) (told_tree (syntax t))
as_leaf out seen t form is = subst (λ (u : Numbered). Walked out out seen seen (unused (syntax u)) (told_tree (syntax u))) (sym is)

pub ruleset by_form = (node_tree, list_tree, text_tree, number_tree, flag_tree, absent_tree)

-- Nodes by their words.

function_unlabeled : (w : Word) → is_function_word w ≡ true → is_labeled w ≡ false
function_unlabeled word.Labeled is = absurd (cc)
function_unlabeled _ is = refl

no_finding : (at : At) (w : Word) (ps : Pieces) → is_labeled w ≡ false → unused_at at w ps ≡ []
no_finding at w ps is = ap (λ (b : Bool). if b then of_item [] (λ label. unused_label at label ps) (first_text ps) else []) is

none_both : (b : Bool) (found : List Finding) → found ≡ [] → (if b then found else []) ≡ []
none_both true found none = none
none_both false found none = refl

nameless : (at : At) (w : Word) (ps : Pieces) → first_text ps ≡ None → unused_at at w ps ≡ []
nameless at w ps is =
    none_both (is_labeled w) (of_item [] (λ label. unused_label at label ps) (first_text ps))
    (ap (of_item [] (λ label. unused_label at label ps)) is)

-- A walk over parts is one over their node, if that adds no findings and tells the same of each label.
same_walk : (before after : List Finding) (seen later : Map) (parts own : List Finding) (told also : List ℕ → Bool) → own ≡ []
    → ((label : List ℕ) → told label ≡ also label)
    → Walked before after seen later parts told → Walked before after seen later (parts ++ own) also
same_walk before after seen later parts own told also none same w = record {
  found_are = w.found_are ∙ ap (λ l. before ++ l) (sym (append-nil parts) ∙ ap (λ l. parts ++ l) (sym none));
  seen_are = record { at = λ label. w.seen_are.at label ∙ ap (λ b. has seen label || b) (same label) };
}

module _ (w : Word) (label : List ℕ) (text : Option (List ℕ)) (inside : Bool) where
  told_function : is_function_word w ≡ true → false ≡ refers_at label w text inside
  told_function is = ap (λ (f : Bool). not f
      && (not (is_labeled w && is_label label text) && ((is_jump w && is_label label text) || inside))) (sym is)

  told_plain : is_function_word w ≡ false → is_labeled w ≡ false → is_jump w ≡ false → inside ≡ refers_at label w text inside
  told_plain f l j = λ i. not (sym f i) && (not (sym l i && is_label label text) && ((sym j i && is_label label text) || inside))

told_unnamed : (w : Word) (label : List ℕ) (inside : Bool) → is_function_word w ≡ false → inside ≡ refers_at label w None inside
told_unnamed w label inside f = by_case (is_labeled w) (is_jump w)
    ∙ ap (λ (b : Bool). not b && (not (is_labeled w && false) && ((is_jump w && false) || inside))) (sym f)
  where
    by_case : (l j : Bool) → inside ≡ (not (l && false) && ((j && false) || inside))
    by_case true true = refl
    by_case true false = refl
    by_case false true = refl
    by_case false false = refl

told_own : (w : Word) (label own : List ℕ) (inside : Bool) → is_function_word w ≡ false → is_labeled w ≡ true
    → (not (bytes_eq own label) && inside) ≡ refers_at label w (Some own) inside
told_own w label own inside f l = by_case (bytes_eq own label) (is_jump w)
    ∙ (λ i. not (sym f i) && (not (sym l i && bytes_eq own label) && ((is_jump w && bytes_eq own label) || inside)))
  where
    by_case : (b j : Bool) → (not b && inside) ≡ (not b && ((j && b) || inside))
    by_case true j = refl
    by_case false true = refl
    by_case false false = refl

told_goal : (w : Word) (label own : List ℕ) (inside : Bool) → is_function_word w ≡ false → is_labeled w ≡ false → is_jump w ≡ true
    → (bytes_eq own label || inside) ≡ refers_at label w (Some own) inside
told_goal w label own inside f l j = λ i. not (sym f i)
    && (not (sym l i && bytes_eq own label) && ((sym j i && bytes_eq own label) || inside))

pub function_node : (before after : List Finding) (seen : Map) (at : At) (w : Word) (ps : Pieces) → is_function_word w ≡ true
    → after ≡ before ++ unused_among ps → Walked before after seen seen (unused_among ps ++ unused_at at w ps) (told_node w ps)
function_node before after seen at w ps is e =
    same_walk before after seen seen (unused_among ps) (unused_at at w ps) told_none (told_node w ps)
    (no_finding at w ps (function_unlabeled w is))
    (λ label. told_function w label (first_text ps) (refers_among label ps) is)
    (record { found_are = e; seen_are = record { at = λ label. sym (or_false (has seen label)) } })

pub labeled_node : (before after : List Finding) (seen later : Map) (at : At) (w : Word) (ps : Pieces) (own : List ℕ)
    → is_function_word w ≡ false → is_labeled w ≡ true
    → first_text ps ≡ Some own → Walked before after seen later (unused_among ps ++ unused_label at own ps) (told_labeled own ps)
    → Walked before after seen later (unused_among ps ++ unused_at at w ps) (told_node w ps)
labeled_node before after seen later at w ps own f l text walked = record {
  found_are = walked.found_are
      ∙ (λ i. before ++ (unused_among ps ++ (if sym l i then of_item [] (λ label. unused_label at label ps) (sym text i) else [])));
  seen_are = record {
    at = λ label. walked.seen_are.at label ∙ ap (λ b. has seen label || b)
        (told_own w label own (refers_among label ps) f l
        ∙ ap (λ o. refers_at label w o (refers_among label ps)) (sym text));
  };
}

pub jump_node : (before after : List Finding) (seen later : Map) (at : At) (w : Word) (ps : Pieces) (own : List ℕ)
    → is_function_word w ≡ false → is_labeled w ≡ false
    → is_jump w ≡ true → first_text ps ≡ Some own → Walked before after seen later (unused_among ps) (told_jump own ps)
    → Walked before after seen later (unused_among ps ++ unused_at at w ps) (told_node w ps)
jump_node before after seen later at w ps own f l j text walked =
    same_walk before after seen later (unused_among ps) (unused_at at w ps) (told_jump own ps) (told_node w ps) (no_finding at w ps l)
    (λ label. told_goal w label own (refers_among label ps) f l j ∙ ap (λ o. refers_at label w o (refers_among label ps))
    (sym text)) walked

pub plain_node : (before after : List Finding) (seen later : Map) (at : At) (w : Word) (ps : Pieces) → is_function_word w ≡ false
    → is_labeled w ≡ false
    → is_jump w ≡ false → Walked before after seen later (unused_among ps) (told_parts ps)
    → Walked before after seen later (unused_among ps ++ unused_at at w ps) (told_node w ps)
plain_node before after seen later at w ps f l j walked =
    same_walk before after seen later (unused_among ps) (unused_at at w ps) (told_parts ps) (told_node w ps) (no_finding at w ps l)
    (λ label. told_plain w label (first_text ps) (refers_among label ps) f l j) walked

pub unnamed_node : (before after : List Finding) (seen later : Map) (at : At) (w : Word) (ps : Pieces) → is_function_word w ≡ false
    → first_text ps ≡ None
    → Walked before after seen later (unused_among ps) (told_parts ps)
    → Walked before after seen later (unused_among ps ++ unused_at at w ps) (told_node w ps)
unnamed_node before after seen later at w ps f text walked =
    same_walk before after seen later (unused_among ps) (unused_at at w ps) (told_parts ps) (told_node w ps) (nameless at w ps text)
    (λ label. told_unnamed w label (refers_among label ps) f ∙ ap (λ o. refers_at label w o (refers_among label ps)) (sym text)) walked

pub ruleset by_word = (function_node, labeled_node, jump_node, plain_node, unnamed_node)

-- A label that was not seen before, and one that was.

has_set : (found old : Option Bool) (b is : Bool) → found ≡ (if b then Some is else old)
    → of_item false (λ (b : Bool). b) found ≡ (if b then is else of_item false (λ (b : Bool). b) old)
has_set found old true is e = ap (of_item false (λ (b : Bool). b)) e
has_set found old false is e = ap (of_item false (λ (b : Bool). b)) e

-- A map that was changed at one label.
abbrev pub Sets : (old new : Map) → (own : List ℕ) → (is : Bool) → Type 0
Sets old new own is = (label : List ℕ) → has new label ≡ (if bytes_eq own label then is else has old label)

pub sets_label : (old new : Map) (key : String Global) (own : List ℕ) (is : Bool) → string_bytes key ≡ own
    → Updates string_cmp old new key (Some is) → Sets old new own is
sets_label old new key own is same updated label =
    has_set (get_by_text new label) (get_by_text old label) (bytes_eq own label) is
    (btree_map_updates_text (string_bytes key) old new (Some is) updated label ∙ ap
    (λ (k : List ℕ). if bytes_eq k label then Some is else get_by_text old label) same)

pub ruleset by_set = (sets_label)

pub walked_jump : (before after : List Finding) (s0 s1 s2 : Map) (own : List ℕ) (ps : Pieces) → Sets s0 s1 own true
    → Walked before after s1 s2 (unused_among ps) (told_parts ps) → Walked before after s0 s2 (unused_among ps) (told_jump own ps)
walked_jump before after s0 s1 s2 own ps set walked = record {
  found_are = walked.found_are;
  seen_are = record {
    at = λ label. walked.seen_are.at label ∙ ap (λ b. b || refers_among label ps) (set label) ∙ by_case
        (bytes_eq own label) (has s0 label) (refers_among label ps);
  };
}
  where
    by_case : (b h r : Bool) → ((if b then true else h) || r) ≡ (h || (b || r))
    by_case true true r = refl
    by_case true false r = refl
    by_case false h r = refl

pub ruleset by_jump = (walked_jump)

-- A loop over trees: what it has done, and what is left, are what it does in all.
pub record Going (before now : List Finding) (seen later : Map) (all left : List Numbered) : Type 0 where
  pub found_are : now ++ unused_among (pieces_of (map syntax left)) ≡ before ++ unused_among (pieces_of (map syntax all))
  pub seen_are : (label : List ℕ)
      → (has later label || refers_among label (pieces_of (map syntax left)))
      ≡ (has seen label || refers_among label (pieces_of (map syntax all)))

pub going_start : (out : List Finding) (seen : Map) (all : List Numbered) → Going out out seen seen all all
going_start out seen all = record { found_are = refl; seen_are = λ label. refl }

pub going_on : (before now then_are : List Finding) (seen later last : Map) (all left rest : List Numbered) (t : Numbered)
    → left ≡ t ∷ rest
    → Going before now seen later all left → Walked now then_are later last (unused (syntax t)) (told_tree (syntax t))
    → Going before then_are seen last all rest
going_on before now then_are seen later last all left rest t split g w =
    let ps = pieces_of (map syntax rest) in
    record {
      found_are = ap (λ l. l ++ unused_among ps) w.found_are ∙ append_assoc now (unused (syntax t)) (unused_among ps)
          ∙ ap (λ l. now ++ unused_among (pieces_of (map syntax l))) (sym split) ∙ g.found_are;
      seen_are = λ label. ap (λ b. b || refers_among label ps) (w.seen_are.at label)
          ∙ or_assoc (has later label) (refers label (syntax t)) (refers_among label ps)
          ∙ ap (λ l. has later label || refers_among label (pieces_of (map syntax l))) (sym split) ∙ g.seen_are label;
    }

pub going_end : (before now : List Finding) (seen later : Map) (all left : List Numbered) → left ≡ []
    → Going before now seen later all left
    → Walked before now seen later (unused_among (pieces_of (map syntax all))) (told_parts (pieces_of (map syntax all)))
going_end before now seen later all left none g = record {
  found_are = sym (append-nil now) ∙ ap (λ l. now ++ unused_among (pieces_of (map syntax l))) (sym none) ∙ g.found_are;
  seen_are = record {
    at = λ label. sym (or_false (has later label)) ∙ ap
        (λ l. has later label || refers_among label (pieces_of (map syntax l))) (sym none) ∙ g.seen_are label;
  };
}

pub ruleset by_parts = (going_start, going_on, going_end)

-- A labelled statement: its label is set aside, and set back.
pub walked_label : (before middle after : List Finding) (s0 s1 s2 s3 : Map) (at : At) (own : List ℕ) (ps : Pieces) (was is : Bool)
    → was ≡ has s0 own
    → Sets s0 s1 own false → Walked before middle s1 s2 (unused_among ps) (told_parts ps) → is ≡ has s2 own → Sets s2 s3 own was
    → after ≡ middle ++ (if is then [] else finding rule.L3 at.span own None ∷ [])
    → Walked before after s0 s3 (unused_among ps ++ unused_label at own ps) (told_labeled own ps)
walked_label before middle after s0 s1 s2 s3 at own ps was is was_is aside walked is_is back e =
    let same : bytes_eq own own ≡ true = (bytes_eq-Decides own own).1 refl in
    let is_told : is ≡ refers_among own ps = is_is ∙ walked.seen_are.at own
    ∙ ap (λ b. b || refers_among own ps) (aside own ∙ ap (λ (b : Bool). if b then false else has s0 own) same) in
    record {
      found_are = e ∙ ap (λ l. l ++ (if is then [] else finding rule.L3 at.span own None ∷ [])) walked.found_are
          ∙ append_assoc before (unused_among ps) _
          ∙ ap (λ (b : Bool). before ++ (unused_among ps ++ (if b then [] else finding rule.L3 at.span own None ∷ []))) is_told;
      seen_are = record { at = λ label. back label ∙ by_test (bytes_eq own label) label refl };
    }
  where
    by_test : (b : Bool) (label : List ℕ) → bytes_eq own label ≡ b
        → (if b then was else has s2 label) ≡ (has s0 label || (not b && refers_among label ps))
    by_test true label is_own = was_is ∙ ap (has s0) ((bytes_eq-Decides own label).0 is_own) ∙ sym (or_false (has s0 label))
    by_test false label other = walked.seen_are.at label
        ∙ ap (λ b. b || refers_among label ps) (aside label ∙ ap (λ (b : Bool). if b then false else has s0 label) other)

pub ruleset by_label = (walked_label)
