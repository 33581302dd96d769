-- The scopes whose nodes stand inside a function: its own, and those that its parts make.
use Rattle.std.proofs.Common.{◌≡◌, ℕ, ◌+◌, ◌≤◌, ◌<◌, zero, suc, Bool, true, false, nat_le, nat_lt, leb-true, ltb-true, if◌then◌else◌, true≢false, ◌⊎◌, inl, inr, Option, Some, None, List, [], ◌∷◌, ◌++◌, map, filter, refl, sym, ap, subst, ◌∙◌, arith}
use Rattle.std.specs.List.{AllByRecursion, range_with_len}
use Rattle.rl_base.specs.declared.ids.NodeId.{NodeId}
use Rattle.rl_ast.proofs.MarkedFunctions.{Inside, InsideOf, StandsIn, inside_placed}
use Rattle.rl_bindings.specs.Tables.{scopes_in}
use Rattle.rl_bindings.specs.declared.event.ScopeEntry.{ScopeEntry}
use Rattle.rl_bindings.proofs.TableIds.{scopes_listed}
use Rattle.rl_syntax.specs.Nodes.{entries_under, entries_among, entries}
use Rattle.rl_syntax.specs.Syntax.{Syntax, Node, Listed, Said, Count, Flag, Absent, Pieces, End, Then, nodes, nodes_of, scopes, inside, next_byte, behind, outset, IsPlaced, ArePlaced}
use Rattle.rl_syntax.specs.Words.{makes_scope}
use Rattle.rl_syntax.specs.declared.nodes.NodeEntry.{NodeEntry}
use Rattle.rl_syntax.specs.declared.numbered.At.{At}
use Rattle.rl_syntax.specs.declared.numbered.Position.{Position}
use Rattle.rl_syntax.specs.declared.word.Word.{Word}
use Rattle.rl_syntax.proofs.Numbers.{scopes_numbered}
use Rattle.rl_names.specs.Names.{is_inside, is_scope_inside}
use Rattle.rl_bindings.proofs.SymbolTables.{both_left, both_right}
use Rattle.rl_names.proofs.Items.{each-append, each_weaker}
use Rattle.rl_promises.proofs.VariableTrees.{HasInner, InnerScope}

-- Entries of nodes whose ids are in the range from `low` on, `count` of them.
abbrev AreFrom : (low count : ℕ) → List NodeEntry → Type 0
AreFrom low count es = AllByRecursion (λ e. (low ≤ e.at.id.0) × (e.at.id.0 < low + count)) es

from_wider : (low count lower more : ℕ) (es : List NodeEntry) → lower ≤ low → low + count ≤ lower + more → AreFrom low count es
    → AreFrom lower more es
from_wider low count lower more [] down up all = tt
from_wider low count lower more (e ∷ es) down up all = (
  (let first = all.0.0 in omega (arith, down, first), let last = all.0.1 in omega (arith, up, last)),
  from_wider low count lower more es down up all.1,
)

from-append : (low count : ℕ) (es fs : List NodeEntry) → AreFrom low count es → AreFrom low count fs → AreFrom low count (es ++ fs)
from-append low count es fs first second = each-append (λ e. (low ≤ e.at.id.0) × (e.at.id.0 < low + count)) es fs first second

mutual
  -- The nodes of a placed tree have ids in its range.
  in_range : (parent : Option NodeId) (t : Syntax) (from : Position) → IsPlaced from t
      → AreFrom from.node (nodes t) (entries_under parent t)
  in_range parent (Node at w ps) from placed =
      let is = placed.0.number in (
        (omega (arith, is), omega (arith, is)),
        from_wider (from.node + 1) (nodes_of ps) from.node (nodes (Node at w ps)) (entries_among (Some at.id) ps) (omega arith)
            (omega arith) (in_range_among (Some at.id) ps (inside from w) placed.1),
      )
  in_range parent (Listed ps) from placed = in_range_among parent ps from placed
  in_range parent (Said text) from placed = tt
  in_range parent (Count number) from placed = tt
  in_range parent (Flag flag) from placed = tt
  in_range parent Absent from placed = tt

  in_range_among : (parent : Option NodeId) (ps : Pieces) (from : Position) → ArePlaced from ps
      → AreFrom from.node (nodes_of ps) (entries_among parent ps)
  in_range_among parent End from placed = tt
  in_range_among parent (Then p ps) from placed =
      from-append from.node (nodes_of (Then p ps)) (entries_under parent p) (entries_among parent ps)
      (from_wider from.node (nodes p) from.node (nodes_of (Then p ps)) (entries_under parent p) (omega arith) (omega arith)
      (in_range parent p (next_byte from) placed.0))
      (from_wider (from.node + nodes p) (nodes_of ps) from.node (nodes_of (Then p ps)) (entries_among parent ps) (omega arith)
      (omega arith) (in_range_among parent ps (behind (next_byte from) p) placed.1))

-- The ids of a function in a range of ids.
record Ranged (at : At) (low count : ℕ) : Type 0 where
  first : low ≤ at.id.0
  last : at.end.0 ≤ low + count

module _ (at : At) (w : Word) (ps : Pieces) where
  ranged : (low high : ℕ) (count : ℕ) → high ≡ low + count → StandsIn (Node at w ps) low high → Ranged at low count
  ranged low high count is s =
      let number = s.placed.0.number in
      let end = s.placed.0.last in
      let first = s.first in
      let last = s.last in
      record { first = omega (arith, number, first); last = omega (arith, end, last, is) }

  ranged_tree : (t : Syntax) (from : Position) → IsPlaced from t → Inside (Node at w ps) t → Ranged at from.node (nodes t)
  ranged_tree t from placed i = ranged from.node (from.node + nodes t) (nodes t) refl (inside_placed t (Node at w ps) from placed i)

  ranged_parts : (qs : Pieces) (from : Position) → ArePlaced from qs → InsideOf (Node at w ps) qs → Ranged at from.node (nodes_of qs)
  ranged_parts qs from placed i = ranged_tree (Listed qs) from placed i

  -- A property of all entries that stand beside the function, and of those of the function.
  record Given (P : NodeEntry → Type 0) : Type 0 where
    before : (e : NodeEntry) → e.at.id.0 < at.id.0 → P e
    after : (e : NodeEntry) → at.end.0 ≤ e.at.id.0 → P e
    itself : (parent : Option NodeId) → AllByRecursion P (entries_under parent (Node at w ps))

  each_before : (P : NodeEntry → Type 0) (low count : ℕ) (es : List NodeEntry) → Given P → low + count ≤ at.id.0 → AreFrom low count es
      → AllByRecursion P es
  each_before P low count [] given less all = tt
  each_before P low count (e ∷ es) given less all =
      (given.before e (let last = all.0.1 in omega (arith, less, last)), each_before P low count es given less all.1)

  each_after : (P : NodeEntry → Type 0) (low count : ℕ) (es : List NodeEntry) → Given P → at.end.0 ≤ low → AreFrom low count es
      → AllByRecursion P es
  each_after P low count [] given more all = tt
  each_after P low count (e ∷ es) given more all =
      (given.after e (let first = all.0.0 in omega (arith, more, first)), each_after P low count es given more all.1)

  mutual
    -- Such a property is one of all entries of a tree around the function.
    around : (P : NodeEntry → Type 0) (parent : Option NodeId) (t : Syntax) (from : Position) → IsPlaced from t → Inside (Node at w ps) t
        → Given P → AllByRecursion P (entries_under parent t)
    around P parent (Node bt v qs) from placed (inl same) given =
        subst (λ s. AllByRecursion P (entries_under parent s)) same (given.itself parent)
    around P parent (Node bt v qs) from placed (inr more) given =
        let r = ranged_parts qs (inside from v) placed.1 more in
        let number = placed.0.number in
        let first = r.first in (
          given.before (record { word = v; parent = parent; at = bt }) (omega (arith, number, first)),
          around_among P (Some bt.id) qs (inside from v) placed.1 more given,
        )
    around P parent (Listed qs) from placed more given = around_among P parent qs from placed more given
    around P parent (Said text) from placed more given = absurd more
    around P parent (Count number) from placed more given = absurd more
    around P parent (Flag flag) from placed more given = absurd more
    around P parent Absent from placed more given = absurd more

    around_among : (P : NodeEntry → Type 0) (parent : Option NodeId) (qs : Pieces) (from : Position) → ArePlaced from qs
        → InsideOf (Node at w ps) qs → Given P → AllByRecursion P (entries_among parent qs)
    around_among P parent End from placed more given = absurd more
    around_among P parent (Then q qs) from placed (inl here) given =
        let r = ranged_tree q (next_byte from) placed.0 here in
        each-append P (entries_under parent q) (entries_among parent qs)
        (around P parent q (next_byte from) placed.0 here given)
        (each_after P (from.node + nodes q) (nodes_of qs) (entries_among parent qs) given r.last
        (in_range_among parent qs (behind (next_byte from) q) placed.1))
    around_among P parent (Then q qs) from placed (inr there) given =
        let r = ranged_parts qs (behind (next_byte from) q) placed.1 there in
        each-append P (entries_under parent q) (entries_among parent qs)
        (each_before P from.node (nodes q) (entries_under parent q) given r.first (in_range parent q (next_byte from) placed.0))
        (around_among P parent qs (behind (next_byte from) q) placed.1 there given)

-- The scope is that of the node with the ids `at`, or an inner one of its parts.
abbrev pub IsOwnOrInner : At → Pieces → (scope : ℕ) → Type 0
IsOwnOrInner at ps scope = (scope ≡ at.scope.0) ⊎ InnerScope scope ps

-- A node that makes a scope, and is the one with the ids `at` or inside it, makes such a scope.
abbrev MakesOwn : At → Pieces → NodeEntry → Type 0
MakesOwn at ps e = makes_scope e.word ≡ true → is_inside at e.at.id ≡ true → IsOwnOrInner at ps e.at.scope.0

inside_range : (at : At) (node : NodeId) → is_inside at node ≡ true → (at.id.0 ≤ node.0) × (node.0 < at.end.0)
inside_range at node is = (
  leb-true at.id.0 node.0 (both_left (nat_le at.id.0 node.0) (nat_lt node.0 at.end.0) is),
  ltb-true node.0 at.end.0 (both_right (nat_le at.id.0 node.0) (nat_lt node.0 at.end.0) is),
)

given_own : (at : At) (w : Word) (ps : Pieces)
    → ((parent : Option NodeId) → AllByRecursion (HasInner ps) (entries_among parent ps)) → Given at w ps (MakesOwn at ps)
given_own at w ps scopes = record {
  before = λ e less maker within. absurd (let range = (inside_range at e.at.id within).0 in omega (arith, less, range));
  after = λ e more maker within. absurd (let range = (inside_range at e.at.id within).1 in omega (arith, more, range));
  itself = λ parent. (
    (λ maker within. inl refl),
    each_weaker (HasInner ps) (MakesOwn at ps) (entries_among (Some at.id) ps) (λ e h maker within. inr (h maker)) (scopes (Some at.id)),
  );
}

-- Of the nodes that make a scope, those inside the function make such scopes.
abbrev IsOwn : At → Pieces → NodeEntry → Type 0
IsOwn at ps e = is_inside at e.at.id ≡ true → IsOwnOrInner at ps e.at.scope.0

own_among : (at : At) (ps : Pieces) (es : List NodeEntry) → AllByRecursion (MakesOwn at ps) es
    → AllByRecursion (IsOwn at ps) (filter (λ e. makes_scope e.word) es)
own_among at ps [] all = tt
own_among at ps (e ∷ es) all = step (makes_scope e.word) refl (own_among at ps es all.1)
  where
    step : (b : Bool) → makes_scope e.word ≡ b → AllByRecursion (IsOwn at ps) (filter (λ x. makes_scope x.word) es)
        → AllByRecursion (IsOwn at ps) (if b then e ∷ filter (λ x. makes_scope x.word) es else filter (λ x. makes_scope x.word) es)
    step true maker more = (all.0 maker, more)
    step false plain more = more

-- Scopes by their nodes, whose ids count from `first`: one whose node stands inside the function is such a scope.
at_index : (at : At) (ps : Pieces) (scopes : List ScopeEntry) (es : List NodeEntry) (first count : ℕ)
    → map (λ s. s.node) scopes ≡ map (λ e. e.at.id) es → map (λ e. e.at.scope.0) es ≡ range_with_len first count
    → AllByRecursion (IsOwn at ps) es → (scope : ℕ) → is_scope_inside at scopes scope ≡ true → IsOwnOrInner at ps (first + scope)
at_index at ps [] es first count nodes numbers all scope within = absurd (true≢false (sym within))
at_index at ps (s ∷ scopes) [] first count nodes numbers all scope within = absurd (cc)
at_index at ps (s ∷ scopes) (e ∷ es) first zero nodes numbers all scope within = absurd (cc)
at_index at ps (s ∷ scopes) (e ∷ es) first (suc count) nodes numbers all zero within =
    let node : s.node ≡ e.at.id = cc in
    let number : e.at.scope.0 ≡ first = cc in
    subst (IsOwnOrInner at ps) (number ∙ omega arith) (all.0 (ap (is_inside at) (sym node) ∙ within))
at_index at ps (s ∷ scopes) (e ∷ es) first (suc count) nodes numbers all (suc scope) within =
    subst (IsOwnOrInner at ps) (omega arith) (at_index at ps scopes es (first + 1) count (cc) (cc) all.1 scope within)

-- A scope of a unit whose node stands inside a function is the function's own, or an inner one.
pub scope_in_function : (u : Syntax) (at : At) (w : Word) (ps : Pieces) → IsPlaced outset u → Inside (Node at w ps) u
    → ((parent : Option NodeId) → AllByRecursion (HasInner ps) (entries_among parent ps)) → (scope : ℕ)
    → is_scope_inside at (scopes_in u) scope ≡ true → IsOwnOrInner at ps scope
scope_in_function u at w ps placed i inner scope within =
    subst (IsOwnOrInner at ps) (omega arith)
    (at_index at ps (scopes_in u) (filter (λ e. makes_scope e.word) (entries u)) 0 (scopes u) (scopes_listed u) (scopes_numbered u placed)
    (own_among at ps (entries u) (around at w ps (MakesOwn at ps) None u outset placed i (given_own at w ps inner))) scope within)
