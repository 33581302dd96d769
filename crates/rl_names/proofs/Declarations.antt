-- The declarations of a tree by one recursion over its nodes, in the order of these.
use Rattle.std.proofs.Common.{◌≡◌, ℕ, ◌+◌, ◌≤◌, zero, suc, List, [], ◌∷◌, ◌++◌, length, append_assoc, append-nil, refl, sym, ap, ◌∙◌, arith}
use Rattle.rl_bindings.specs.Events.{events, lead, trail, sign, front, back, bound_of}
use Rattle.rl_bindings.specs.Roles.{role_of, parts_ahead, outside, below}
use Rattle.rl_bindings.specs.Symbols.{bounds}
use Rattle.rl_bindings.specs.declared.event.Bound.{Bound}
use Rattle.rl_bindings.specs.declared.event.Event.{Event}
use Rattle.rl_bindings.specs.declared.event.Event.TheVariants as event
use Rattle.rl_bindings.specs.declared.names.Name.{Name}
use Rattle.rl_bindings.specs.declared.role.Above.{Above}
use Rattle.rl_bindings.specs.declared.role.Role.{Role}
use Rattle.rl_bindings.specs.declared.role.Role.TheVariants as role
use Rattle.rl_syntax.specs.Syntax.{Syntax, Node, Listed, Said, Count, Flag, Absent, Pieces, End, Then, nodes, nodes_of, inside, next_byte, behind, IsPlaced, ArePlaced}
use Rattle.rl_syntax.specs.declared.numbered.At.{At}
use Rattle.rl_syntax.specs.declared.numbered.Position.{Position}
use Rattle.rl_syntax.specs.declared.word.Word.{Word}
use Rattle.rl_syntax.specs.declared.word.Word.TheVariants as word

-- The declaration that a node itself is. One if it is a `bind`, else none.
abbrev pub own : List Name → Role → Above → At → Pieces → List Bound
own names role.Binder a at parts = bound_of names a at parts ∷ []
own names _ a at parts = []

abbrev mutual
  -- The declarations of a tree, by what stands above it.
  pub declares : List Name → Above → Syntax → List Bound
  declares names a (Node at w parts) = own names (role_of w) a at parts ++ declares_among names (parts_ahead w) (outside a w) (below a at w parts) parts
  declares names a (Listed parts) = declares_among names zero a a parts
  declares names a (Said text) = []
  declares names a (Count number) = []
  declares names a (Flag flag) = []
  declares names a Absent = []

  -- As `declares`, for parts in a row: `ahead` stands above the first `n` of them, and `within` above the others.
  pub declares_among : List Name → (n : ℕ) → (ahead within : Above) → Pieces → List Bound
  declares_among names n ahead within End = []
  declares_among names zero ahead within (Then piece pieces) = declares names within piece ++ declares_among names zero ahead within pieces
  declares_among names (suc n) ahead within (Then piece pieces) = declares names ahead piece ++ declares_among names n ahead within pieces

bounds-append : (es fs : List Event) → bounds (es ++ fs) ≡ bounds es ++ bounds fs
bounds-append [] fs = refl
bounds-append (event.Scope s ∷ es) fs = bounds-append es fs
bounds-append (event.Open s ∷ es) fs = bounds-append es fs
bounds-append (event.Close ∷ es) fs = bounds-append es fs
bounds-append (event.Bind b ∷ es) fs = ap (λ l. b ∷ l) (bounds-append es fs)
bounds-append (event.Use node name ∷ es) fs = bounds-append es fs

signs_nothing : (r : Role) (a : Above) (at : At) (w : Word) → bounds (sign r a at w) ≡ []
signs_nothing role.Maker a at w = refl
signs_nothing role.Binder a at w = refl
signs_nothing role.User a at w = refl
signs_nothing role.Plain a at w = refl

module _ (names : List Name) where
  -- The events of a node itself hold its own declaration alone.
  front_own : (r : Role) (a : Above) (at : At) (ps : Pieces) (es : List Event) → bounds (front names r a at ps ++ (es ++ back r)) ≡ own names r a at ps ++ bounds es
  front_own role.Maker a at ps es = bounds-append es (event.Close ∷ []) ∙ append-nil (bounds es)
  front_own role.Binder a at ps es = ap (λ l. bound_of names a at ps ∷ bounds l) (append-nil es)
  front_own role.User a at ps es = ap bounds (append-nil es)
  front_own role.Plain a at ps es = ap bounds (append-nil es)

  lead_none : (a : Above) (ps : Pieces) → bounds (lead names zero a ps) ≡ []
  lead_none a End = refl
  lead_none a (Then p ps) = refl

  -- No part of a `bind` stands before it.
  own_first : (w : Word) (a b : Above) (at : At) (ps : Pieces) (bs : List Bound)
      → bounds (lead names (parts_ahead w) b ps) ++ (own names (role_of w) a at ps ++ bs) ≡ own names (role_of w) a at ps ++ (bounds (lead names (parts_ahead w) b ps) ++ bs)
  own_first word.Bind a b at ps bs = ap (λ l. l ++ (bound_of names a at ps ∷ bs)) (lead_none b ps) ∙ sym (ap (λ l. bound_of names a at ps ∷ (l ++ bs)) (lead_none b ps))
  own_first _ a b at ps bs = refl

  mutual
    -- The declarations among the events of a tree are those of its nodes.
    pub declared_by_nodes : (t : Syntax) (a : Above) → bounds (events names a t) ≡ declares names a t
    declared_by_nodes (Node at w ps) a =
        let l = lead names (parts_ahead w) (outside a w) ps in
        let t = trail names (parts_ahead w) (below a at w ps) ps in
        bounds-append (sign (role_of w) a at w) (l ++ (front names (role_of w) a at ps ++ (t ++ back (role_of w))))
        ∙ (λ i. signs_nothing (role_of w) a at w i ++ bounds-append l (front names (role_of w) a at ps ++ (t ++ back (role_of w))) i)
        ∙ ap (λ m. bounds l ++ m) (front_own (role_of w) a at ps t)
        ∙ own_first w a (outside a w) at ps (bounds t)
        ∙ ap (λ m. own names (role_of w) a at ps ++ m) (declared_by_parts ps (parts_ahead w) (outside a w) (below a at w ps))
    declared_by_nodes (Listed ps) a = ap (λ m. m ++ bounds (trail names zero a ps)) (sym (lead_none a ps)) ∙ declared_by_parts ps zero a a
    declared_by_nodes (Said text) a = refl
    declared_by_nodes (Count number) a = refl
    declared_by_nodes (Flag flag) a = refl
    declared_by_nodes Absent a = refl

    declared_by_parts : (ps : Pieces) (n : ℕ) (a b : Above) → bounds (lead names n a ps) ++ bounds (trail names n b ps) ≡ declares_among names n a b ps
    declared_by_parts End n a b = refl
    declared_by_parts (Then p ps) zero a b =
        bounds-append (events names b p) (trail names zero b ps)
        ∙ (λ i. declared_by_nodes p b i ++ (sym (lead_none a ps) i ++ bounds (trail names zero b ps)))
        ∙ ap (λ m. declares names b p ++ m) (declared_by_parts ps zero a b)
    declared_by_parts (Then p ps) (suc n) a b =
        (λ i. bounds-append (events names a p) (lead names n a ps) i ++ bounds (trail names n b ps))
        ∙ append_assoc (bounds (events names a p)) (bounds (lead names n a ps)) (bounds (trail names n b ps))
        ∙ (λ i. declared_by_nodes p a i ++ declared_by_parts ps n a b i)

-- Declarations in the order of their nodes, whose ids are in the range from `low` to before `high`.
abbrev pub Ascends : (low high : ℕ) → List Bound → Type 0
Ascends low high [] = low ≤ high
Ascends low high (b ∷ bs) = (low ≤ b.node.0) × Ascends (b.node.0 + 1) high bs

ascends_wider : (low high lower higher : ℕ) (bs : List Bound) → lower ≤ low → high ≤ higher → Ascends low high bs → Ascends lower higher bs
ascends_wider low high lower higher [] down up rises = omega (arith, down, up, rises)
ascends_wider low high lower higher (b ∷ bs) down up rises = ((let first : low ≤ b.node.0 = rises.0 in omega (arith, down, first)), ascends_wider (b.node.0 + 1) high (b.node.0 + 1) higher bs (omega arith) up rises.1)

ascends-append : (low between high : ℕ) (bs cs : List Bound) → Ascends low between bs → Ascends between high cs → Ascends low high (bs ++ cs)
ascends-append low between high [] cs first second = ascends_wider between high low high cs first (omega arith) second
ascends-append low between high (b ∷ bs) cs first second = (first.0, ascends-append (b.node.0 + 1) between high bs cs first.1 second)

module _ (names : List Name) where
  own_ascends : (r : Role) (a : Above) (at : At) (ps : Pieces) (node : ℕ) → at.id.0 ≡ node → Ascends node (node + 1) (own names r a at ps)
  own_ascends role.Binder a at ps node is = (omega (arith, is), omega (arith, is))
  own_ascends role.Maker a at ps node is = omega arith
  own_ascends role.User a at ps node is = omega arith
  own_ascends role.Plain a at ps node is = omega arith

  joined : (p : Syntax) (ps : Pieces) (from : Position) (bs cs : List Bound) → Ascends from.node (from.node + nodes p) bs → Ascends (from.node + nodes p) (from.node + nodes p + nodes_of ps) cs → Ascends from.node (from.node + (nodes p + nodes_of ps)) (bs ++ cs)
  joined p ps from bs cs first second =
      ascends-append from.node (from.node + nodes p) (from.node + (nodes p + nodes_of ps)) bs cs first
      (ascends_wider (from.node + nodes p) (from.node + nodes p + nodes_of ps) (from.node + nodes p) (from.node + (nodes p + nodes_of ps)) cs (omega arith) (omega arith) second)

  mutual
    -- The declarations of a placed tree stand in the order of their nodes.
    pub ascending : (t : Syntax) (a : Above) (from : Position) → IsPlaced from t → Ascends from.node (from.node + nodes t) (declares names a t)
    ascending (Node at w ps) a from placed =
        ascends-append from.node (from.node + 1) (from.node + nodes (Node at w ps)) (own names (role_of w) a at ps) (declares_among names (parts_ahead w) (outside a w) (below a at w ps) ps)
        (own_ascends (role_of w) a at ps from.node placed.0.number)
        (ascends_wider (from.node + 1) (from.node + 1 + nodes_of ps) (from.node + 1) (from.node + nodes (Node at w ps)) _ (omega arith) (omega arith) (ascending_among ps (parts_ahead w) (outside a w) (below a at w ps) (inside from w) placed.1))
    ascending (Listed ps) a from placed = ascending_among ps zero a a from placed
    ascending (Said text) a from placed = omega arith
    ascending (Count number) a from placed = omega arith
    ascending (Flag flag) a from placed = omega arith
    ascending Absent a from placed = omega arith

    ascending_among : (ps : Pieces) (n : ℕ) (a b : Above) (from : Position) → ArePlaced from ps → Ascends from.node (from.node + nodes_of ps) (declares_among names n a b ps)
    ascending_among End n a b from placed = omega arith
    ascending_among (Then p ps) zero a b from placed = joined p ps from (declares names b p) (declares_among names zero a b ps) (ascending p b (next_byte from) placed.0) (ascending_among ps zero a b (behind (next_byte from) p) placed.1)
    ascending_among (Then p ps) (suc n) a b from placed = joined p ps from (declares names a p) (declares_among names n a b ps) (ascending p a (next_byte from) placed.0) (ascending_among ps n a b (behind (next_byte from) p) placed.1)

pub ascends_end : (low high : ℕ) (bs : List Bound) → Ascends low high bs → low ≤ high
ascends_end low high [] rises = rises
ascends_end low high (b ∷ bs) rises = let first = rises.0 in let rest = ascends_end (b.node.0 + 1) high bs rises.1 in omega (arith, first, rest)

-- There are at most as many declarations as ids in the range.
pub ascends_few : (low high : ℕ) (bs : List Bound) → Ascends low high bs → low + length bs ≤ high
ascends_few low high [] rises = omega (arith, rises)
ascends_few low high (b ∷ bs) rises = let first = rises.0 in let rest = ascends_few (b.node.0 + 1) high bs rises.1 in omega (arith, first, rest)
