-- The state of a walk that tests the rules that do not speak of names, by the tree's form.
use Rattle.std.proofs.Common.{◌≡◌, ℕ, zero, suc, ◌+◌, Bool, true, Option, List, [], ◌∷◌, length, map, take, drop, ap, sym, refl, ◌∙◌, arith}
use Rattle.rl_rules.specs.Following.{Context, followed, node_passes, part_below}
use Rattle.rl_rules.specs.Marks.{body_of, bodies, bodies_among}
use Rattle.rl_rules.specs.Walks.{passes, parts_pass, items_pass}
use Rattle.rl_rules.proofs.KeptOn.{followed_none, followed_then}
use Rattle.rl_syntax.specs.Syntax.{Syntax, Node, pieces_of, syntax}
use Rattle.rl_syntax.specs.declared.numbered.At.{At}
use Rattle.rl_syntax.specs.declared.numbered.Numbered.{Numbered}
use Rattle.rl_syntax.specs.declared.word.Word.{Word}

-- The states behind a tree, and behind parts in a row.
abbrev pub behind_tree : Option Bool → Context → Syntax → Option Bool
behind_tree kept c tree = followed kept (passes node_passes part_below c tree) (bodies tree)

abbrev pub behind_parts : Option Bool → Context → Word → (start : ℕ) → List Numbered → Option Bool
behind_parts kept c w start parts = followed kept (parts_pass node_passes part_below c w start (pieces_of (map syntax parts))) (bodies_among (pieces_of (map syntax parts)))

abbrev pub behind_items : Option Bool → Context → List Numbered → Option Bool
behind_items kept c items = followed kept (items_pass node_passes part_below c (pieces_of (map syntax items))) (bodies_among (pieces_of (map syntax items)))

-- Parts in a row, by the first of them.
part_kept : (k0 k1 : Option Bool) (c inner : Context) (w : Word) (at next : ℕ) (part : Numbered) (more : List Numbered) → inner ≡ part_below c w at → at + 1 ≡ next → k1 ≡ behind_tree k0 inner (syntax part) → behind_parts k1 c w next more ≡ behind_parts k0 c w at (part ∷ more)
part_kept k0 k1 c inner w at next part more is_inner is_next is =
    (λ i. followed ((is ∙ ap (λ x. behind_tree k0 x (syntax part)) is_inner) i) (parts_pass node_passes part_below c w (sym is_next i) (pieces_of (map syntax more))) (bodies_among (pieces_of (map syntax more))))
    ∙ followed_then k0 (passes node_passes part_below (part_below c w at) (syntax part)) (parts_pass node_passes part_below c w (at + 1) (pieces_of (map syntax more))) (bodies (syntax part)) (bodies_among (pieces_of (map syntax more)))

pub part_on : (k0 k1 k2 : Option Bool) (c inner : Context) (w : Word) (start i next : ℕ) (part : Numbered) (all rest more : List Numbered) → inner ≡ part_below c w (start + i) → start + i + 1 ≡ next → rest ≡ part ∷ more
    → behind_parts k1 c w (start + i) rest ≡ behind_parts k0 c w start all
    → k2 ≡ behind_tree k1 inner (syntax part)
    → behind_parts k2 c w next more ≡ behind_parts k0 c w start all
part_on k0 k1 k2 c inner w start i next part all rest more is_inner is_next are same is =
    part_kept k1 k2 c inner w (start + i) next part more is_inner is_next is ∙ sym (ap (behind_parts k1 c w (start + i)) are) ∙ same

pub item_on : (k0 k1 k2 : Option Bool) (c : Context) (item : Numbered) (all rest more : List Numbered) → rest ≡ item ∷ more
    → behind_items k1 c rest ≡ behind_items k0 c all
    → k2 ≡ behind_tree k1 c (syntax item)
    → behind_items k2 c more ≡ behind_items k0 c all
item_on k0 k1 k2 c item all rest more are same is =
    ap (λ k. behind_items k c more) is
    ∙ followed_then k1 (passes node_passes part_below c (syntax item)) (items_pass node_passes part_below c (pieces_of (map syntax more))) (bodies (syntax item)) (bodies_among (pieces_of (map syntax more)))
    ∙ sym (ap (behind_items k1 c) are) ∙ same

-- No more parts.
pub parts_end : (k0 k1 : Option Bool) (c : Context) (w : Word) (start at : ℕ) (all rest : List Numbered) → rest ≡ [] → behind_parts k1 c w at rest ≡ behind_parts k0 c w start all → k1 ≡ behind_parts k0 c w start all
parts_end k0 k1 c w start at all rest none same = sym (ap (behind_parts k1 c w at) none ∙ followed_none k1) ∙ same

pub items_end : (k0 k1 : Option Bool) (c : Context) (all rest : List Numbered) → rest ≡ [] → behind_items k1 c rest ≡ behind_items k0 c all → k1 ≡ behind_items k0 c all
items_end k0 k1 c all rest none same = sym (ap (behind_items k1 c) none ∙ followed_none k1) ∙ same

-- A node, by its own test and its parts.
pub node_kept : (tree : Syntax) (at : At) (w : Word) (parts : List Numbered) (c : Context) (k0 k1 k2 : Option Bool) → tree ≡ Node at w (pieces_of (map syntax parts))
    → k1 ≡ followed k0 (node_passes c w (pieces_of (map syntax parts))) (body_of w (pieces_of (map syntax parts)))
    → k2 ≡ behind_parts k1 c w 0 parts
    → k2 ≡ behind_tree k0 c tree
node_kept tree at w parts c k0 k1 k2 is tested others =
    others ∙ ap (λ k. behind_parts k c w 0 parts) tested
    ∙ followed_then k0 (node_passes c w (pieces_of (map syntax parts))) (parts_pass node_passes part_below c w 0 (pieces_of (map syntax parts))) (body_of w (pieces_of (map syntax parts))) (bodies_among (pieces_of (map syntax parts)))
    ∙ sym (ap (behind_tree k0 c) is)

-- The first `n` of parts in a row, and then the others.
parts_then : (k : Option Bool) (c : Context) (w : Word) (start : ℕ) (n : ℕ) (parts : List Numbered) → behind_parts (behind_parts k c w start (take n parts)) c w (start + length (take n parts)) (drop n parts) ≡ behind_parts k c w start parts
parts_then k c w start zero parts =
    let nothing : start + 0 ≡ start = omega arith in
    (λ i. behind_parts (followed_none k i) c w (nothing i) parts)
parts_then k c w start (suc n) [] = followed_none (followed k true []) ∙ followed_none k ∙ sym (followed_none k)
parts_then k c w start (suc n) (part ∷ parts) =
    let next : start + suc (length (take n parts)) ≡ start + 1 + length (take n parts) = omega arith in
    (λ i. behind_parts (sym (part_kept k (behind_tree k (part_below c w start) (syntax part)) c (part_below c w start) w start (start + 1) part (take n parts) refl refl refl) i) c w (next i) (drop n parts))
    ∙ parts_then (behind_tree k (part_below c w start) (syntax part)) c w (start + 1) n parts
    ∙ part_kept k (behind_tree k (part_below c w start) (syntax part)) c (part_below c w start) w start (start + 1) part parts refl refl refl

pub split_kept : (k0 k1 k2 : Option Bool) (c : Context) (w : Word) (n start : ℕ) (parts ahead behind : List Numbered) → ahead ≡ take n parts → behind ≡ drop n parts → start ≡ length ahead
    → k1 ≡ behind_parts k0 c w 0 ahead → k2 ≡ behind_parts k1 c w start behind → k2 ≡ behind_parts k0 c w 0 parts
split_kept k0 k1 k2 c w n start parts ahead behind is_ahead is_behind is_start first last =
    let from : start ≡ 0 + length (take n parts) = (let e : start ≡ length (take n parts) = is_start ∙ ap length is_ahead in omega (arith, e)) in
    last ∙ (λ i. behind_parts ((first ∙ ap (behind_parts k0 c w 0) is_ahead) i) c w (from i) (is_behind i)) ∙ parts_then k0 c w 0 n parts
