-- The tree that each form of `Raw` stands for, and its height.
use Rattle.std.proofs.Common.{◌≡◌, ℕ, ◌≤◌, Bool, true, false, List, [], ◌∷◌, ◌++◌, length, map, refl, sym, ap, ◌∙◌, arith, length-append, append_assoc}
use Rattle.rl_text.specs.Notation.{Tree, Node, Listed, Said, Count, Flag, Absent, Parts, End, Then, spelling, spelled_on, height, height_of}
use Rattle.rl_text.specs.Raw.{tree, layer, parts_of}
use Rattle.rl_text.specs.Places.{spelled_parts}
use Rattle.rl_text.specs.declared.raw.Raw.{Raw}
use Rattle.rl_text.specs.declared.raw.Raw.TheVariants as V
use Rattle.rl_text.specs.declared.raw.Raw.TheOpen as O
use Rattle.rl_text.specs.declared.raw.Raw.TheFolds.{fold-Raw, fold-roll-Raw}

pub tree-Node : (word : List ℕ) (parts : List Raw) → tree (V.Node word parts) ≡ Node word (parts_of (map tree parts))
unfolding tree
tree-Node word parts = ap (λ q. fold-Raw Tree layer q) (sym (V.rolls-Node word parts)) ∙ fold-roll-Raw Tree layer (O.Node word parts)

pub tree-List : (parts : List Raw) → tree (V.List parts) ≡ Listed (parts_of (map tree parts))
unfolding tree
tree-List parts = ap (λ q. fold-Raw Tree layer q) (sym (V.rolls-List parts)) ∙ fold-roll-Raw Tree layer (O.List parts)

pub tree-Text : (text : List ℕ) → tree (V.Text text) ≡ Said text
unfolding tree
tree-Text text = ap (λ q. fold-Raw Tree layer q) (sym (V.rolls-Text text)) ∙ fold-roll-Raw Tree layer (O.Text text)

pub tree-Number : (number : ℕ) → tree (V.Number number) ≡ Count number
unfolding tree
tree-Number number = ap (λ q. fold-Raw Tree layer q) (sym (V.rolls-Number number)) ∙ fold-roll-Raw Tree layer (O.Number number)

pub tree-Flag : (flag : Bool) → tree (V.Flag flag) ≡ Flag flag
unfolding tree
tree-Flag flag = ap (λ q. fold-Raw Tree layer q) (sym (V.rolls-Flag flag)) ∙ fold-roll-Raw Tree layer (O.Flag flag)

pub tree-Absent : tree V.Absent ≡ Absent
unfolding tree
tree-Absent = ap (λ q. fold-Raw Tree layer q) (sym V.rolls-Absent) ∙ fold-roll-Raw Tree layer O.Absent

-- A list's parts behind its bracket.
pub spelling-Listed : (parts : Parts) → spelling (Listed parts) ≡ 91 ∷ spelled_parts false 93 parts
spelling-Listed End = refl
spelling-Listed (Then part parts) = refl

pub ruleset tree_forms = (tree-Node, tree-List, tree-Text, tree-Number, tree-Flag, tree-Absent, spelling-Listed)

-- A bracket, a word and parts were written in a row.
pub node-written : (raw : Raw) (word : List ℕ) (parts : List Raw) (out opened worded written : List ℕ) → raw ≡ V.Node word parts → opened ≡ out ++ 40 ∷ [] → worded ≡ opened ++ word → written ≡ worded ++ spelled_parts true 41 (parts_of (map tree parts)) → written ≡ out ++ spelling (tree raw)
node-written raw word parts out opened worded written r o w e =
    rw (r, tree-Node word parts, e, w, o) (append_assoc (out ++ 40 ∷ []) word (spelled_on 41 (parts_of (map tree parts))) ∙ append_assoc out (40 ∷ []) (word ++ spelled_on 41 (parts_of (map tree parts))))

-- A bracket and parts were written.
pub list-written : (raw : Raw) (parts : List Raw) (out opened written : List ℕ) → raw ≡ V.List parts → opened ≡ out ++ 91 ∷ [] → written ≡ opened ++ spelled_parts false 93 (parts_of (map tree parts)) → written ≡ out ++ spelling (tree raw)
list-written raw parts out opened written r o e =
    rw (r, tree-List parts, e, o, spelling-Listed (parts_of (map tree parts))) (append_assoc out (91 ∷ []) (spelled_parts false 93 (parts_of (map tree parts))))

mutual
  -- A tree is no higher than its text is long.
  pub height-le-length : (t : Tree) → height t ≤ length (spelling t)
  height-le-length (Node word parts) = omega (arith, height_of-le-length 41 parts, length-append word (spelled_on 41 parts))
  height-le-length (Listed End) = omega arith
  height-le-length (Listed (Then part parts)) = omega (arith, height-le-length part, height_of-le-length 93 parts, length-append (spelling part) (spelled_on 93 parts))
  height-le-length (Said text) = omega arith
  height-le-length (Count number) = omega arith
  height-le-length (Flag flag) = omega arith
  height-le-length Absent = omega arith

  pub height_of-le-length : (close : ℕ) (parts : Parts) → height_of parts ≤ length (spelled_on close parts)
  height_of-le-length close End = omega arith
  height_of-le-length close (Then part parts) = omega (arith, height-le-length part, height_of-le-length close parts, length-append (spelling part) (spelled_on close parts))
