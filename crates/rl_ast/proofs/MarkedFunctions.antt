-- The marked functions of a tree: the first of them, where it stands, and the form that the grammar gives to it.
use Rattle.std.proofs.Common.{◌≡◌, ℕ, ◌+◌, ◌≤◌, Bool, true, false, ◌&&◌, ◌⊎◌, inl, inr, if◌then◌else◌, Option, Some, None, List, [], ◌∷◌, ◌++◌, refl, ap, sym, subst, ◌∙◌, arith}
use Rattle.std.proofs.lemmas.Bool.{and_parts}
use Rattle.rl_grammar.proofs.Functions.{arrow_fits, declaration_fits, expression_fits}
use Rattle.rl_grammar.specs.Grammar.{fits, each, every}
use Rattle.rl_grammar.specs.Rules.{rule}
use Rattle.rl_syntax.specs.Shapes.{is_node}
use Rattle.rl_syntax.specs.Syntax.{Syntax, Node, Listed, Said, Count, Flag, Absent, Pieces, End, Then, IsPlaced, ArePlaced, behind, inside, next_byte, is_item, nodes, nodes_of}
use Rattle.rl_ast.specs.Marked.{first, is_marked, marked_among, marked_functions}
use Rattle.rl_ast.specs.FunctionTrees.{is_function}
use Rattle.rl_grammar.specs.declared.kind.Field.{Field}
use Rattle.rl_grammar.specs.declared.kind.Field.TheVariants as field
use Rattle.rl_grammar.specs.declared.kind.Kind.{Kind}
use Rattle.rl_grammar.specs.declared.kind.Kind.TheVariants as kind
use Rattle.rl_syntax.specs.declared.numbered.At.{At}
use Rattle.rl_syntax.specs.declared.numbered.Position.{Position}
use Rattle.rl_syntax.specs.declared.word.Word.{Word}
use Rattle.rl_syntax.specs.declared.word.Word.TheVariants as word

-- The first item of two lists in a row.
pub first_behind : {X : Type 0} (xs ys : List X) → first xs ≡ None → first (xs ++ ys) ≡ first ys
first_behind [] ys none = refl
first_behind (x ∷ xs) ys none = absurd (cc)

pub first_before : {X : Type 0} (xs ys : List X) (x : X) → first xs ≡ Some x → first (xs ++ ys) ≡ Some x
first_before [] ys x some = absurd (cc)
first_before (y ∷ xs) ys x some = some

first_split : {X : Type 0} (xs ys : List X) (x : X) → first (xs ++ ys) ≡ Some x → (first xs ≡ Some x) ⊎ (first ys ≡ Some x)
first_split [] ys x some = inr some
first_split (y ∷ xs) ys x some = inl some

pub first_none : {X : Type 0} (xs : List X) → first xs ≡ None → xs ≡ []
first_none [] none = refl
first_none (x ∷ xs) none = absurd (cc)

-- The first marked function of a node.
pub marked_itself : (at : At) (w : Word) (parts : Pieces) → is_marked w parts ≡ true → first (marked_functions (Node at w parts)) ≡ Some (Node at w parts)
marked_itself at w parts marked = rw marked refl

pub marked_inside : (at : At) (w : Word) (parts : Pieces) → is_marked w parts ≡ false → first (marked_functions (Node at w parts)) ≡ first (marked_among parts)
marked_inside at w parts unmarked = rw unmarked refl

pub ruleset finding = (first_behind, first_before, marked_itself, marked_inside)

-- A node with a mark.
pub record IsMarked (f : Syntax) : Type 0 where
  pub at : At
  pub word : Word
  pub parts : Pieces
  pub is : f ≡ Node at word parts
  pub marked : is_marked word parts ≡ true

-- A node is the first marked function of its own tree, or that stands in its parts.
own_first : (at : At) (w : Word) (parts : Pieces) (mark : Bool) (f : Syntax) → is_marked w parts ≡ mark → first ((if mark then Node at w parts ∷ [] else []) ++ marked_among parts) ≡ Some f → ((f ≡ Node at w parts) × IsMarked f) ⊎ (first (marked_among parts) ≡ Some f)
own_first at w parts true f is found = let same : f ≡ Node at w parts = cc in inl (same, record { at = at; word = w; parts = parts; is = same; marked = is })
own_first at w parts false f is found = inr found

abbrev mutual
  -- `f` is the tree itself, or a tree inside it.
  pub Inside : (f : Syntax) → Syntax → Type 0
  Inside f (Node at w parts) = (f ≡ Node at w parts) ⊎ InsideOf f parts
  Inside f (Listed parts) = InsideOf f parts
  Inside f (Said text) = ⊥
  Inside f (Count number) = ⊥
  Inside f (Flag flag) = ⊥
  Inside f Absent = ⊥

  -- As `Inside`, for parts in a row.
  pub InsideOf : (f : Syntax) → Pieces → Type 0
  InsideOf f End = ⊥
  InsideOf f (Then piece pieces) = Inside f piece ⊎ InsideOf f pieces

mutual
  -- The first marked function stands in the tree, and has a mark.
  pub first_found : (t f : Syntax) → first (marked_functions t) ≡ Some f → Inside f t × IsMarked f
  first_found (Node at w parts) f found = elim (own_first at w parts (is_marked w parts) f refl found) [
    | inl itself ↦ (inl itself.0, itself.1)
    | inr more ↦ (let part = first_found_among parts f more in (inr part.0, part.1))
  ]
  first_found (Listed parts) f found = first_found_among parts f found
  first_found (Said text) f found = absurd (cc)
  first_found (Count number) f found = absurd (cc)
  first_found (Flag flag) f found = absurd (cc)
  first_found Absent f found = absurd (cc)

  first_found_among : (ps : Pieces) (f : Syntax) → first (marked_among ps) ≡ Some f → InsideOf f ps × IsMarked f
  first_found_among End f found = absurd (cc)
  first_found_among (Then p ps) f found = elim (first_split (marked_functions p) (marked_among ps) f found) [
    | inl here ↦ (let part = first_found p f here in (inl part.0, part.1))
    | inr there ↦ (let part = first_found_among ps f there in (inr part.0, part.1))
  ]

-- A marked function fits the grammar, wherever it stands.
node_function : (k : Kind) (at : At) (w : Word) (parts : Pieces) → is_marked w parts ≡ true → each (rule k w) parts ≡ true → is_function (Node at w parts) ≡ true
node_function k at word.Arrow parts marked h = arrow_fits k parts h
node_function k at word.Fundecl parts marked h = declaration_fits k parts h
node_function k at word.Funexpr parts marked h = expression_fits k parts h
node_function k at _ parts marked h = absurd (cc)

itself_function : (k : Kind) (at : At) (w : Word) (parts : Pieces) (f : Syntax) → each (rule k w) parts ≡ true → f ≡ Node at w parts → IsMarked f → is_function f ≡ true
itself_function k at w parts f h same m =
    let words : w ≡ m.word = cc in
    let pieces : parts ≡ m.parts = cc in
    ap is_function same ∙ node_function k at w parts (rw (words, pieces) m.marked) h

mutual
  inside_function : (x : Field) (t f : Syntax) → fits x t ≡ true → IsMarked f → Inside f t → is_function f ≡ true
  inside_function (field.One k) (Node at w parts) f h m (inl same) = itself_function k at w parts f h same m
  inside_function (field.One k) (Node at w parts) f h m (inr more) = each_function (rule k w) parts f h m more
  inside_function (field.Maybe k) (Node at w parts) f h m (inl same) = itself_function k at w parts f h same m
  inside_function (field.Maybe k) (Node at w parts) f h m (inr more) = each_function (rule k w) parts f h m more
  inside_function (field.Many k) (Node at w parts) f h m i = absurd (cc)
  inside_function (field.Many k) (Listed parts) f h m i = every_function k parts f h m i
  inside_function (field.One k) (Listed parts) f h m i = absurd (cc)
  inside_function (field.Maybe k) (Listed parts) f h m i = absurd (cc)
  inside_function x (Said text) f h m i = absurd i
  inside_function x (Count number) f h m i = absurd i
  inside_function x (Flag flag) f h m i = absurd i
  inside_function x Absent f h m i = absurd i

  each_function : (fields : Option (List Field)) (ps : Pieces) (f : Syntax) → each fields ps ≡ true → IsMarked f → InsideOf f ps → is_function f ≡ true
  each_function fields End f h m i = absurd i
  each_function None (Then p ps) f h m i = absurd (cc)
  each_function (Some []) (Then p ps) f h m i = absurd (cc)
  each_function (Some (x ∷ fields)) (Then p ps) f h m (inl here) = inside_function x p f (and_parts (fits x p) (each (Some fields) ps) h).0 m here
  each_function (Some (x ∷ fields)) (Then p ps) f h m (inr there) = each_function (Some fields) ps f (and_parts (fits x p) (each (Some fields) ps) h).1 m there

  every_function : (k : Kind) (ps : Pieces) (f : Syntax) → every k ps ≡ true → IsMarked f → InsideOf f ps → is_function f ≡ true
  every_function k End f h m i = absurd i
  every_function k (Then p ps) f h m (inl here) =
      let whole = and_parts (is_item p && fits (field.One k) p) (every k ps) h in
      inside_function (field.One k) p f (and_parts (is_item p) (fits (field.One k) p) whole.0).1 m here
  every_function k (Then p ps) f h m (inr there) =
      let whole = and_parts (is_item p && fits (field.One k) p) (every k ps) h in
      every_function k ps f whole.1 m there

pub marked_fits : (u f : Syntax) → first (marked_functions u) ≡ Some f → fits (field.One kind.Unit) u ≡ true → is_function f ≡ true
marked_fits u f found h = let there = first_found u f found in inside_function (field.One kind.Unit) u f h there.1 there.0

-- A function that fits the grammar is a node.
pub function_node : (t : Syntax) → is_function t ≡ true → is_node t ≡ true
function_node (Node at w parts) h = refl
function_node _ h = absurd (cc)

pub ruleset viewing = (function_node)

mutual
  -- A tree inside another has at most its nodes.
  pub inside_few : (t f : Syntax) → Inside f t → nodes f ≤ nodes t
  inside_few (Node at w parts) f (inl same) = let few : nodes f ≡ nodes (Node at w parts) = ap nodes same in omega (arith, few)
  inside_few (Node at w parts) f (inr more) = let few : nodes f ≤ nodes_of parts = inside_few_of parts f more in omega (arith, few)
  inside_few (Listed parts) f i = inside_few_of parts f i
  inside_few (Said text) f i = absurd i
  inside_few (Count number) f i = absurd i
  inside_few (Flag flag) f i = absurd i
  inside_few Absent f i = absurd i

  inside_few_of : (ps : Pieces) (f : Syntax) → InsideOf f ps → nodes f ≤ nodes_of ps
  inside_few_of End f i = absurd i
  inside_few_of (Then p ps) f (inl here) = let few : nodes f ≤ nodes p = inside_few p f here in omega (arith, few)
  inside_few_of (Then p ps) f (inr there) = let few : nodes f ≤ nodes_of ps = inside_few_of ps f there in omega (arith, few)

-- The tree `f` is placed, and its nodes have ids from `low` to before `high`.
pub record StandsIn (f : Syntax) (low high : ℕ) : Type 0 where
  pub from : Position
  pub placed : IsPlaced from f
  pub first : low ≤ from.node
  pub last : from.node + nodes f ≤ high

widened : (f : Syntax) (low high lower higher : ℕ) → lower ≤ low → high ≤ higher → StandsIn f low high → StandsIn f lower higher
widened f low high lower higher below above s = record { from = s.from; placed = s.placed; first = omega (arith, s.first); last = omega (arith, s.last) }

mutual
  pub inside_placed : (t f : Syntax) (from : Position) → IsPlaced from t → Inside f t → StandsIn f from.node (from.node + nodes t)
  inside_placed (Node at w parts) f from placed (inl same) = record {
    from = from;
    placed = subst (λ s. IsPlaced from s) (sym same) placed;
    first = omega arith;
    last = (let few : nodes f ≡ nodes (Node at w parts) = ap nodes same in omega (arith, few));
  }
  inside_placed (Node at w parts) f from placed (inr more) = widened f _ _ _ _ (omega arith) (omega arith) (inside_placed_of parts f (inside from w) placed.1 more)
  inside_placed (Listed parts) f from placed i = inside_placed_of parts f from placed i
  inside_placed (Said text) f from placed i = absurd i
  inside_placed (Count number) f from placed i = absurd i
  inside_placed (Flag flag) f from placed i = absurd i
  inside_placed Absent f from placed i = absurd i

  inside_placed_of : (ps : Pieces) (f : Syntax) (from : Position) → ArePlaced from ps → InsideOf f ps → StandsIn f from.node (from.node + nodes_of ps)
  inside_placed_of End f from placed i = absurd i
  inside_placed_of (Then p ps) f from placed (inl here) = widened f _ _ _ _ (omega arith) (omega arith) (inside_placed p f (next_byte from) placed.0 here)
  inside_placed_of (Then p ps) f from placed (inr there) = widened f _ _ _ _ (omega arith) (omega arith) (inside_placed_of ps f (behind (next_byte from) p) placed.1 there)
