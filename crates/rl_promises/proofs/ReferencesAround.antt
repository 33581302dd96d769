-- The references of a tree around a function, by their numbers: those of the function, and the others.
use Rattle.std.proofs.Common.{◌≡◌, ℕ, ◌+◌, ◌≤◌, ◌<◌, zero, suc, true, ◌⊎◌, inl, inr, List, ◌∷◌, ◌++◌, length, refl, sym, ap, subst, ◌∙◌, append_assoc, arith}
use Rattle.std.specs.List.{AllByRecursion}
use Rattle.rl_ast.proofs.MarkedFunctions.{Inside, InsideOf}
use Rattle.rl_base.specs.declared.ids.NodeId.{NodeId}
use Rattle.rl_base.specs.declared.ids.ScopeId.{ScopeId}
use Rattle.rl_bindings.specs.Roles.{below, outside, parts_ahead, role_of}
use Rattle.rl_bindings.specs.Standing.{inside, references, standing, stands_ahead, stands_within}
use Rattle.rl_bindings.specs.Symbols.{resolve}
use Rattle.rl_bindings.specs.declared.event.Bound.{Bound}
use Rattle.rl_bindings.specs.declared.names.Name.{Name}
use Rattle.rl_bindings.specs.declared.resolve.Reference.{Reference}
use Rattle.rl_bindings.specs.declared.role.Above.{Above}
use Rattle.rl_names.proofs.FunctionScopes.{scope_inside_parts}
use Rattle.rl_promises.proofs.ReferenceRanges.{AreUsed, ahead_none, good_inside, node_used, parts_used, reference_counts, references-append}
use Rattle.rl_promises.proofs.ReferenceRanges.{scope_counts, tree_used, used_behind}
use Rattle.rl_syntax.specs.Syntax as syntax
use Rattle.rl_syntax.specs.Syntax.{Syntax, Node, Listed, Said, Count, Flag, Absent, Pieces, End, Then, scopes, next_byte, behind}
use Rattle.rl_syntax.specs.Syntax.{IsPlaced, ArePlaced}
use Rattle.rl_syntax.specs.Tallies.{references_of, scopes_of}
use Rattle.rl_syntax.specs.Words.{makes_scope}
use Rattle.rl_syntax.specs.declared.numbered.At.{At}
use Rattle.rl_syntax.specs.declared.numbered.Position.{Position}
use Rattle.rl_syntax.specs.declared.word.Word.{Word}

-- The references of a tree without scopes all stand under the scopes around it.
pub scopeless_used : (names : List Name) (symbols : List Bound) (Q : ℕ → Reference → Type 0) (t : Syntax) (a : Above) (ss : List ScopeId)
    (from : Position) → IsPlaced from t → scopes t ≡ 0
    → ((n : ℕ) (node : NodeId) (name : ℕ) → from.reference ≤ n → n < from.reference + syntax.references t
    → Q n (record { node = node; name = name; symbol = resolve symbols ss name }))
    → AreUsed Q from.reference (syntax.references t) (references (standing names symbols a ss t))
scopeless_used names symbols Q t a ss from placed none given =
    tree_used names symbols Q (λ (ts : List ScopeId). ts ≡ ss) from.reference (from.reference + syntax.references t) from.scope from.scope
    (λ n node name ts same first last.
    subst (λ us. Q n (record { node = node; name = name; symbol = resolve symbols us name })) (sym same) (given n node name first last))
    (λ s ts same low high. absurd (omega (arith, low, high))) t a ss from placed refl (omega arith) (omega arith) (omega arith)
    (omega (arith, none))

-- The references of a function, by those of its parameters: `before` of them stand in front.
pub record UsesParams (names : List Name) (symbols : List Bound) (a : Above) (ss : List ScopeId) (from : Position) (f : Syntax) (at : At)
    (params : Syntax) (before : ℕ) : Type 0 where
  pub over : Above
  pub position : Position
  pub ahead : List Reference
  pub after : List Reference
  pub is : references (standing names symbols a ss f) ≡ ahead ++ (references (standing names symbols over (at.scope ∷ ss) params) ++ after)
  pub placed : IsPlaced position params
  pub starts : position.reference ≡ from.reference + before
  pub long : length ahead ≡ before

-- A tree has as many references as nodes that are one.
pub counted_uses : (names : List Name) (symbols : List Bound) (t : Syntax) (a : Above) (ss : List ScopeId) (from : Position)
    → IsPlaced from t → length (references (standing names symbols a ss t)) ≡ syntax.references t
counted_uses names symbols t a ss from placed =
    (tree_used names symbols (λ n r. Unit {0}) (λ ts. Unit {0}) from.reference (from.reference + syntax.references t) from.scope
    (from.scope + scopes t) (λ n node name ts good first last. tt) (λ s ts good low high. tt) t a ss from placed tt (omega arith)
    (omega arith) (omega arith) (omega arith)).long

-- The numbers from `low` on, `count` of them, are among those from `first` on, `all` of them.
pub record AreAmong (low count first all : ℕ) : Type 0 where
  pub above : first ≤ low
  pub below : low + count ≤ first + all

module _ (at : At) (w : Word) (ps : Pieces) where
  mutual
    -- The references of a node inside a placed tree are among the tree's.
    pub uses_inside : (t : Syntax) (from : Position) → IsPlaced from t → Inside (Node at w ps) t
        → AreAmong at.reference.0 (syntax.references (Node at w ps)) from.reference (syntax.references t)
    uses_inside (Node bt v qs) from placed (inl same) =
        let ids : at ≡ bt = cc in
        let here : at.reference.0 ≡ bt.reference.0 = ap (λ x. x.reference.0) ids in
        let count : syntax.references (Node at w ps) ≡ syntax.references (Node bt v qs) = ap syntax.references same in
        let is = placed.0.reference in
        record { above = omega (arith, here, is); below = omega (arith, here, is, count) }
    uses_inside (Node bt v qs) from placed (inr more) =
        let i = uses_inside_parts qs (syntax.inside from v) placed.1 more in
        let above = i.above in
        let below = i.below in
        record { above = omega (arith, above); below = omega (arith, below) }
    uses_inside (Listed qs) from placed more = uses_inside_parts qs from placed more
    uses_inside (Said text) from placed more = absurd more
    uses_inside (Count number) from placed more = absurd more
    uses_inside (Flag flag) from placed more = absurd more
    uses_inside Absent from placed more = absurd more

    pub uses_inside_parts : (qs : Pieces) (from : Position) → ArePlaced from qs → InsideOf (Node at w ps) qs
        → AreAmong at.reference.0 (syntax.references (Node at w ps)) from.reference (references_of qs)
    uses_inside_parts End from placed more = absurd more
    uses_inside_parts (Then q qs) from placed (inl here) =
        let i = uses_inside q (next_byte from) placed.0 here in
        let below = i.below in
        record { above = i.above; below = omega (arith, below) }
    uses_inside_parts (Then q qs) from placed (inr there) =
        let i = uses_inside_parts qs (behind (next_byte from) q) placed.1 there in
        let above = i.above in
        let below = i.below in
        record { above = omega (arith, above); below = omega (arith, below) }

-- A property of all references that are not those of the function, and of those under scopes around it.
module _ (names : List Name) (symbols : List Bound) (Q : ℕ → Reference → Type 0) (at : At) (w : Word) (ps : Pieces)
    (maker : makes_scope w ≡ true)
    (apart : (n : ℕ) (r : Reference) → (n < at.reference.0) ⊎ (at.reference.0 + syntax.references (Node at w ps) ≤ n) → Q n r)
    (itself : (over : Above) (ss : List ScopeId) (from : Position) → IsPlaced from (Node at w ps)
    → AllByRecursion (λ (s : ScopeId). s.0 < at.scope.0) ss
    → AreUsed Q from.reference (syntax.references (Node at w ps)) (references (standing names symbols over ss (Node at w ps)))) where
  -- The scopes were made before the function's.
  abbrev AreOuter : List ScopeId → Type 0
  AreOuter ss = AllByRecursion (λ (s : ScopeId). s.0 < at.scope.0) ss

  abbrev AreApart : (first count : ℕ) → Type 0
  AreApart first count =
      (n : ℕ) → first ≤ n → n < first + count → (n < at.reference.0) ⊎ (at.reference.0 + syntax.references (Node at w ps) ≤ n)

  apart_tree : (t : Syntax) (a : Above) (ss : List ScopeId) (from : Position) → IsPlaced from t
      → AreApart from.reference (syntax.references t)
      → AreUsed Q from.reference (syntax.references t) (references (standing names symbols a ss t))
  apart_tree t a ss from placed other =
      tree_used names symbols Q (λ ss. Unit {0}) from.reference (from.reference + syntax.references t) from.scope (from.scope + scopes t)
      (λ n node name ss good first last. apart n _ (other n first last)) (λ s ss good first last. tt) t a ss from placed tt
      (omega arith) (omega arith) (omega arith) (omega arith)

  apart_parts : (qs : Pieces) (n : ℕ) (a b : Above) (ss ts : List ScopeId) (from : Position) → ArePlaced from qs
      → AreApart from.reference (references_of qs)
      → AreUsed Q from.reference (references_of qs)
      (references (stands_ahead names symbols n a ss qs) ++ references (stands_within names symbols n b ts qs))
  apart_parts qs n a b ss ts from placed other =
      parts_used names symbols Q (λ ss. Unit {0}) from.reference (from.reference + references_of qs) from.scope (from.scope + scopes_of qs)
      (λ n node name ss good first last. apart n _ (other n first last)) (λ s ss good first last. tt) qs n a b ss ts from placed tt tt
      (omega arith) (omega arith) (omega arith) (omega arith)

  -- The references of the first part, and of the others.
  first_within : (q : Syntax) (qs : Pieces) (a b : Above) (ss ts : List ScopeId) (from : Position)
      → AreUsed Q from.reference (syntax.references q) (references (standing names symbols b ts q))
      → AreUsed Q (from.reference + syntax.references q) (references_of qs)
      (references (stands_ahead names symbols zero a ss qs) ++ references (stands_within names symbols zero b ts qs))
      → AreUsed Q from.reference (references_of (Then q qs)) (references (stands_within names symbols zero b ts (Then q qs)))
  first_within q qs a b ss ts from one more =
      let within = stands_within names symbols zero b ts qs in
      subst (λ rs. AreUsed Q from.reference (references_of (Then q qs)) rs)
      (sym (references-append (standing names symbols b ts q) within))
      (used_behind Q from.reference (syntax.references q) (references_of qs) (references_of (Then q qs))
      (references (standing names symbols b ts q)) (references within) one
      (subst (λ l. AreUsed Q (from.reference + syntax.references q) (references_of qs) (references l ++ references within))
      (ahead_none names symbols a ss qs) more) (omega arith))

  first_ahead : (q : Syntax) (qs : Pieces) (n : ℕ) (a b : Above) (ss ts : List ScopeId) (from : Position)
      → AreUsed Q from.reference (syntax.references q) (references (standing names symbols a ss q))
      → AreUsed Q (from.reference + syntax.references q) (references_of qs)
      (references (stands_ahead names symbols n a ss qs) ++ references (stands_within names symbols n b ts qs))
      → AreUsed Q from.reference (references_of (Then q qs))
      (references (stands_ahead names symbols (suc n) a ss (Then q qs))
      ++ references (stands_within names symbols (suc n) b ts (Then q qs)))
  first_ahead q qs n a b ss ts from one more =
      let ahead = stands_ahead names symbols n a ss qs in
      let within = stands_within names symbols n b ts qs in
      subst (λ rs. AreUsed Q from.reference (references_of (Then q qs)) rs)
      (sym (ap (λ rs. rs ++ references within) (references-append (standing names symbols a ss q) ahead)
      ∙ append_assoc (references (standing names symbols a ss q)) (references ahead) (references within)))
      (used_behind Q from.reference (syntax.references q) (references_of qs) (references_of (Then q qs))
      (references (standing names symbols a ss q)) (references ahead ++ references within) one more (omega arith))

  mutual
    pub used_around : (t : Syntax) (a : Above) (ss : List ScopeId) (from : Position) → IsPlaced from t → AreOuter ss
        → Inside (Node at w ps) t → AreUsed Q from.reference (syntax.references t) (references (standing names symbols a ss t))
    used_around (Node bt v qs) a ss from placed outer (inl same) =
        subst (λ s. AreUsed Q from.reference (syntax.references s) (references (standing names symbols a ss s))) same
        (itself a ss from (subst (λ s. IsPlaced from s) (sym same) placed) outer)
    used_around (Node bt v qs) a ss from placed outer (inr more) =
        let i = uses_inside_parts at w ps qs (syntax.inside from v) placed.1 more in
        let low = i.above in
        let k = scope_inside_parts at w ps maker qs (syntax.inside from v) placed.1 more in
        let high = k.above in
        let is = placed.0.scope in
        node_used names symbols Q v a bt qs ss from
        (λ uses. apart from.reference _ (inl (let one = reference_counts v uses in omega (arith, low, one))))
        (used_around_parts qs (parts_ahead v) (outside a v) (below a bt v qs) ss (inside (role_of v) bt ss) (syntax.inside from v) placed.1
        outer (good_inside AreOuter v bt ss outer (λ makes. let one = scope_counts v makes in (omega (arith, high, is, one), outer))) more)
    used_around (Listed qs) a ss from placed outer more =
        subst (λ l. AreUsed Q from.reference (references_of qs) (references l ++ references (stands_within names symbols zero a ss qs)))
        (ahead_none names symbols a ss qs) (used_around_parts qs zero a a ss ss from placed outer outer more)
    used_around (Said text) a ss from placed outer more = absurd more
    used_around (Count number) a ss from placed outer more = absurd more
    used_around (Flag flag) a ss from placed outer more = absurd more
    used_around Absent a ss from placed outer more = absurd more

    used_around_parts : (qs : Pieces) (n : ℕ) (a b : Above) (ss ts : List ScopeId) (from : Position) → ArePlaced from qs → AreOuter ss
        → AreOuter ts → InsideOf (Node at w ps) qs
        → AreUsed Q from.reference (references_of qs)
        (references (stands_ahead names symbols n a ss qs) ++ references (stands_within names symbols n b ts qs))
    used_around_parts End n a b ss ts from placed outer inner more = absurd more
    used_around_parts (Then q qs) zero a b ss ts from placed outer inner (inl here) =
        let i = uses_inside at w ps q (next_byte from) placed.0 here in
        let last = i.below in
        first_within q qs a b ss ts from (used_around q b ts (next_byte from) placed.0 inner here)
        (apart_parts qs zero a b ss ts (behind (next_byte from) q) placed.1 (λ n first behind. inr (omega (arith, first, last))))
    used_around_parts (Then q qs) zero a b ss ts from placed outer inner (inr there) =
        let i = uses_inside_parts at w ps qs (behind (next_byte from) q) placed.1 there in
        let low = i.above in
        first_within q qs a b ss ts from
        (apart_tree q b ts (next_byte from) placed.0 (λ n first last. inl (omega (arith, last, low))))
        (used_around_parts qs zero a b ss ts (behind (next_byte from) q) placed.1 outer inner there)
    used_around_parts (Then q qs) (suc n) a b ss ts from placed outer inner (inl here) =
        let i = uses_inside at w ps q (next_byte from) placed.0 here in
        let last = i.below in
        first_ahead q qs n a b ss ts from (used_around q a ss (next_byte from) placed.0 outer here)
        (apart_parts qs n a b ss ts (behind (next_byte from) q) placed.1 (λ n first behind. inr (omega (arith, first, last))))
    used_around_parts (Then q qs) (suc n) a b ss ts from placed outer inner (inr there) =
        let i = uses_inside_parts at w ps qs (behind (next_byte from) q) placed.1 there in
        let low = i.above in
        first_ahead q qs n a b ss ts from
        (apart_tree q a ss (next_byte from) placed.0 (λ n first last. inl (omega (arith, last, low))))
        (used_around_parts qs n a b ss ts (behind (next_byte from) q) placed.1 outer inner there)
