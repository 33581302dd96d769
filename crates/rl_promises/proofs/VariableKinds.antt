-- Declarations in trees that declare variables alone: their kinds, and the tree that a declaration stands in, by its node.
use Rattle.std.proofs.Common.{◌≡◌, ◌≤◌, ◌<◌, ◌+◌, ℕ, zero, suc, Bool, true, false, true≢false, if◌then◌else◌, inl, inr, List, [], ◌∷◌}
use Rattle.std.proofs.Common.{codes, refl, sym, ap, subst, arith}
use Rattle.std.specs.List.{AllByRecursion}
use Rattle.std.specs.Str.{bytes_eq}
use Rattle.rl_ast.proofs.MarkedFunctions.{Inside, InsideOf, StandsIn, inside_placed}
use Rattle.rl_bindings.specs.Names.{said}
use Rattle.rl_bindings.specs.Roles.{below, outside, parts_ahead, role_of, text_kind, texts_kind}
use Rattle.rl_bindings.specs.declared.event.BindKind.{BindKind}
use Rattle.rl_bindings.specs.declared.event.BindKind.TheVariants as kind
use Rattle.rl_bindings.specs.declared.event.Bound.{Bound}
use Rattle.rl_bindings.specs.declared.names.Name.{Name}
use Rattle.rl_bindings.specs.declared.role.Above.{Above}
use Rattle.rl_bindings.specs.declared.role.Role.{Role}
use Rattle.rl_bindings.specs.declared.role.Role.TheVariants as role
use Rattle.rl_names.proofs.Declarations.{Ascends, ascending, ascends_end, declares, declares_among, own}
use Rattle.rl_names.proofs.Items.{Has, each-append, has_cases}
use Rattle.rl_promises.proofs.VariableTrees.{HasVariables, HaveVariables, is_named, may_stand}
use Rattle.rl_syntax.specs.Syntax.{Syntax, Node, Listed, Said, Count, Flag, Absent, Pieces, End, Then, IsPlaced, ArePlaced, behind, inside}
use Rattle.rl_syntax.specs.Syntax.{next_byte, nodes, nodes_of}
use Rattle.rl_syntax.specs.declared.numbered.At.{At}
use Rattle.rl_syntax.specs.declared.numbered.Position.{Position}
use Rattle.rl_syntax.specs.declared.word.Word.{Word}
use Rattle.rl_syntax.specs.declared.word.Word.TheVariants as word

-- The kinds of variables that such trees declare.
abbrev pub is_plain_kind : BindKind → Bool
is_plain_kind kind.Var = true
is_plain_kind kind.Let = true
is_plain_kind kind.Const = true
is_plain_kind kind.Param = true
is_plain_kind kind.Catch = true
is_plain_kind _ = false

abbrev pub IsPlainKind : Bound → Type 0
IsPlainKind b = is_plain_kind b.kind ≡ true

text_plain : (text : List ℕ) → is_plain_kind (text_kind text) ≡ true
text_plain text = chosen (bytes_eq text (codes "var")) (bytes_eq text (codes "let"))
  where
    chosen : (a b : Bool) → is_plain_kind (if a then kind.Var else (if b then kind.Let else kind.Const)) ≡ true
    chosen true b = refl
    chosen false true = refl
    chosen false false = refl

texts_plain : (said : List (List ℕ)) → is_plain_kind (texts_kind said) ≡ true
texts_plain [] = refl
texts_plain (text ∷ texts) = text_plain text

below_plain : (named : Bool) (w : Word) (a : Above) (at : At) (ps : Pieces) → (named ≡ true → is_plain_kind a.kind ≡ true)
    → is_named named w ≡ true → is_plain_kind (below a at w ps).kind ≡ true
below_plain named word.Var a at ps given is = texts_plain (said ps)
below_plain named word.Params a at ps given is = refl
below_plain named word.Catch a at ps given is = refl
below_plain named word.Declarator a at ps given is = given is
below_plain named word.Param a at ps given is = given is
below_plain named word.Rest a at ps given is = given is
below_plain named word.Arraypat a at ps given is = given is
below_plain named word.Objectpat a at ps given is = given is
below_plain named word.Keyedpat a at ps given is = given is
below_plain named word.Defaultpat a at ps given is = given is
below_plain named _ a at ps given is = absurd (true≢false (sym is))

none_ahead : (named : Bool) (w : Word) → is_named named w ≡ true → parts_ahead w ≡ 0
none_ahead named word.Switch is = absurd (true≢false (sym is))
none_ahead named word.Classdecl is = absurd (true≢false (sym is))
none_ahead named word.Fundecl is = absurd (true≢false (sym is))
none_ahead named _ is = refl

module _ (names : List Name) where
  own_plain : (named : Bool) (w : Word) (a : Above) (at : At) (ps : Pieces) → (named ≡ true → is_plain_kind a.kind ≡ true)
      → may_stand named w ≡ true → AllByRecursion IsPlainKind (own names (role_of w) a at ps)
  own_plain named word.Bind a at ps given is = (given is, tt)
  own_plain named _ a at ps given is = tt

  mutual
    -- A tree that declares variables alone declares them by these kinds.
    pub only_plain : (named : Bool) (t : Syntax) (a : Above) → (named ≡ true → is_plain_kind a.kind ≡ true) → HasVariables named t
        → AllByRecursion IsPlainKind (declares names a t)
    only_plain named (Node at w ps) a given v =
        each-append IsPlainKind (own names (role_of w) a at ps) (declares_among names (parts_ahead w) (outside a w) (below a at w ps) ps)
        (own_plain named w a at ps given v.0)
        (plain_among (is_named named w) ps (parts_ahead w) (outside a w) (below a at w ps) (none_ahead named w)
        (below_plain named w a at ps given) v.1)
    only_plain named (Listed ps) a given v = plain_among named ps zero a a (λ is. refl) given v
    only_plain named (Said text) a given v = tt
    only_plain named (Count number) a given v = tt
    only_plain named (Flag flag) a given v = tt
    only_plain named Absent a given v = tt

    pub plain_among : (named : Bool) (ps : Pieces) (n : ℕ) (a b : Above) → (named ≡ true → n ≡ 0)
        → (named ≡ true → is_plain_kind b.kind ≡ true) → HaveVariables named ps
        → AllByRecursion IsPlainKind (declares_among names n a b ps)
    plain_among named End n a b none given v = tt
    plain_among named (Then p ps) zero a b none given v =
        each-append IsPlainKind (declares names b p) (declares_among names zero a b ps)
        (only_plain named p b given v.0) (plain_among named ps zero a b none given v.1)
    plain_among named (Then p ps) (suc n) a b none given v =
        each-append IsPlainKind (declares names a p) (declares_among names n a b ps)
        (only_plain named p a (λ is. absurd (let e : suc n ≡ 0 = none is in cc)) v.0)
        (plain_among named ps n a b (λ is. absurd (let e : suc n ≡ 0 = none is in cc)) given v.1)

-- A declaration in a list that ascends has its node in the range.
ascends_range : (low high : ℕ) (bs : List Bound) (b : Bound) → Ascends low high bs → Has bs b → (low ≤ b.node.0) × (b.node.0 < high)
ascends_range low high [] b rises has = absurd has
ascends_range low high (c ∷ bs) b rises (inl is) =
    let node : b.node.0 ≡ c.node.0 = ap (λ (d : Bound). d.node.0) is in
    let first = rises.0 in
    let end = ascends_end (c.node.0 + 1) high bs rises.1 in (omega (arith, node, first), omega (arith, node, end))
ascends_range low high (c ∷ bs) b rises (inr more) =
    let first = rises.0 in
    let range = ascends_range (c.node.0 + 1) high bs b rises.1 more in
    let above = range.0 in (omega (arith, first, above), range.1)

own_node : (names : List Name) (r : Role) (a : Above) (at : At) (ps : Pieces) (b : Bound) → Has (own names r a at ps) b
    → b.node.0 ≡ at.id.0
own_node names role.Binder a at ps b (inl is) = ap (λ (d : Bound). d.node.0) is
own_node names role.Binder a at ps b (inr none) = absurd none
own_node names role.Maker a at ps b has = absurd has
own_node names role.User a at ps b has = absurd has
own_node names role.Plain a at ps b has = absurd has

-- A node in a tree, and a declaration of the tree whose node is in its range: the node declares it.
module _ (at : At) (w : Word) (ps : Pieces) (names : List Name) where
  pub record Declares (b : Bound) : Type 0 where
    pub over : Above
    pub has : Has (declares names over (Node at w ps)) b

  -- The node with the ids stands in the range.
  record IsRanged (low high : ℕ) : Type 0 where
    first : low ≤ at.id.0
    last : at.end.0 ≤ high

  ranged : (low high : ℕ) → StandsIn (Node at w ps) low high → IsRanged low high
  ranged low high s =
      let number = s.placed.0.number in
      let end = s.placed.0.last in
      let first = s.first in
      let last = s.last in record { first = omega (arith, number, first); last = omega (arith, end, last) }

  ranged_tree : (t : Syntax) (from : Position) → IsPlaced from t → Inside (Node at w ps) t → IsRanged from.node (from.node + nodes t)
  ranged_tree t from placed i = ranged from.node (from.node + nodes t) (inside_placed t (Node at w ps) from placed i)

  ranged_parts : (qs : Pieces) (from : Position) → ArePlaced from qs → InsideOf (Node at w ps) qs
      → IsRanged from.node (from.node + nodes_of qs)
  ranged_parts qs from placed i = ranged_tree (Listed qs) from placed i

  abbrev InRange : Bound → Type 0
  InRange b = (at.id.0 ≤ b.node.0) × (b.node.0 < at.end.0)

  -- The declarations of a tree in front of the node, and behind it.

  before_none : (q : Syntax) (a : Above) (from : Position) (b : Bound) → IsPlaced from q → Has (declares names a q) b → InRange b
      → from.node + nodes q ≤ at.id.0 → ⊥
  before_none q a from b placed has in_range less =
      let range = ascends_range from.node (from.node + nodes q) (declares names a q) b (ascending names q a from placed) has in
      let high = range.1 in
      let low = in_range.0 in omega (arith, high, low, less)

  after_none : (q : Syntax) (a : Above) (from : Position) (b : Bound) → IsPlaced from q → Has (declares names a q) b → InRange b
      → at.end.0 ≤ from.node → ⊥
  after_none q a from b placed has in_range more =
      let range = ascends_range from.node (from.node + nodes q) (declares names a q) b (ascending names q a from placed) has in
      let low = range.0 in
      let high = in_range.1 in omega (arith, high, low, more)

  behind_none : (qs : Pieces) (n : ℕ) (a c : Above) (from : Position) (b : Bound) → ArePlaced from qs
      → Has (declares_among names n a c qs) b → InRange b → at.end.0 ≤ from.node → ⊥
  behind_none End n a c from b placed has in_range more = has
  behind_none (Then q qs) zero a c from b placed has in_range more =
      elim (has_cases (declares names c q) (declares_among names zero a c qs) b has) [
        | inl own ↦ after_none q c (next_byte from) b placed.0 own in_range more
        | inr later ↦ behind_none qs zero a c (behind (next_byte from) q) b placed.1 later in_range (omega (arith, more))
      ]
  behind_none (Then q qs) (suc n) a c from b placed has in_range more =
      elim (has_cases (declares names a q) (declares_among names n a c qs) b has) [
        | inl own ↦ after_none q a (next_byte from) b placed.0 own in_range more
        | inr later ↦ behind_none qs n a c (behind (next_byte from) q) b placed.1 later in_range (omega (arith, more))
      ]

  mutual
    pub declared_within : (t : Syntax) (a : Above) (from : Position) (b : Bound) → IsPlaced from t → Inside (Node at w ps) t
        → Has (declares names a t) b → InRange b → Declares b
    declared_within (Node bt v qs) a from b placed (inl same) has in_range =
        record { over = a; has = subst (λ s. Has (declares names a s) b) (sym same) has }
    declared_within (Node bt v qs) a from b placed (inr more) has in_range =
        elim (has_cases (own names (role_of v) a bt qs) (declares_among names (parts_ahead v) (outside a v) (below a bt v qs) qs) b has) [
          | inl itself ↦ absurd (
              let range = ranged_parts qs (inside from v) placed.1 more in
              let node = own_node names (role_of v) a bt qs b itself in
              let number = placed.0.number in
              let first = range.first in
              let low = in_range.0 in omega (arith, node, number, first, low))
          | inr among ↦ within_parts qs (parts_ahead v) (outside a v) (below a bt v qs) (inside from v) b placed.1 more among in_range
        ]
    declared_within (Listed qs) a from b placed more has in_range = within_parts qs zero a a from b placed more has in_range
    declared_within (Said text) a from b placed more has in_range = absurd more
    declared_within (Count number) a from b placed more has in_range = absurd more
    declared_within (Flag flag) a from b placed more has in_range = absurd more
    declared_within Absent a from b placed more has in_range = absurd more

    within_parts : (qs : Pieces) (n : ℕ) (a c : Above) (from : Position) (b : Bound) → ArePlaced from qs → InsideOf (Node at w ps) qs
        → Has (declares_among names n a c qs) b → InRange b → Declares b
    within_parts End n a c from b placed more has in_range = absurd more
    within_parts (Then q qs) zero a c from b placed (inl here) has in_range =
        elim (has_cases (declares names c q) (declares_among names zero a c qs) b has) [
          | inl own ↦ declared_within q c (next_byte from) b placed.0 here own in_range
          | inr later ↦ absurd (behind_none qs zero a c (behind (next_byte from) q) b placed.1 later in_range
              (ranged_tree q (next_byte from) placed.0 here).last)
        ]
    within_parts (Then q qs) zero a c from b placed (inr there) has in_range =
        elim (has_cases (declares names c q) (declares_among names zero a c qs) b has) [
          | inl own ↦ absurd (before_none q c (next_byte from) b placed.0 own in_range
              (ranged_parts qs (behind (next_byte from) q) placed.1 there).first)
          | inr later ↦ within_parts qs zero a c (behind (next_byte from) q) b placed.1 there later in_range
        ]
    within_parts (Then q qs) (suc n) a c from b placed (inl here) has in_range =
        elim (has_cases (declares names a q) (declares_among names n a c qs) b has) [
          | inl own ↦ declared_within q a (next_byte from) b placed.0 here own in_range
          | inr later ↦ absurd (behind_none qs n a c (behind (next_byte from) q) b placed.1 later in_range
              (ranged_tree q (next_byte from) placed.0 here).last)
        ]
    within_parts (Then q qs) (suc n) a c from b placed (inr there) has in_range =
        elim (has_cases (declares names a q) (declares_among names n a c qs) b has) [
          | inl own ↦ absurd (before_none q a (next_byte from) b placed.0 own in_range
              (ranged_parts qs (behind (next_byte from) q) placed.1 there).first)
          | inr later ↦ within_parts qs n a c (behind (next_byte from) q) b placed.1 there later in_range
        ]
