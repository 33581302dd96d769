-- The symbol that a node declares, by a row of declarations in order.
use Rattle.std.proofs.Common.{◌≡◌, ◌≤◌, arith, ℕ, zero, suc, ◌+◌, Bool, true, false, if◌then◌else◌}
use Rattle.std.proofs.Common.{nat_eq, nat_le, Some, slice_get, List, [], ◌∷◌, sym, ap, ◌∙◌, leb-true, eqb-true, eq-eqb}
use Rattle.std.proofs.lemmas.Bool.{and_parts, false_from_ne_true}
use Rattle.std.proofs.lemmas.Option.{same_Some}
use Rattle.rl_bindings.specs.declared.resolve.Declaration.{Declaration}
use Rattle.rl_lint.specs.Lates.{are_ordered}
use Rattle.rl_lint.specs.Rules.{declared}

-- Of declarations in order, each has an id of at least `least`.
least_first : (least : ℕ) (ds : List Declaration) (row : ℕ) (d : Declaration) → are_ordered least ds ≡ true
    → slice_get ds row ≡ Some d → least ≤ d.node.0
least_first least [] row d ordered is = absurd (cc)
least_first least (e ∷ ds) zero d ordered is =
    let le = leb-true least e.node.0 (and_parts (nat_le least e.node.0) (are_ordered (e.node.0 + 1) ds) ordered).0 in
    let same : e.node.0 ≡ d.node.0 = ap (λ (d : Declaration). d.node.0) (same_Some e d is) in
    omega (arith, le, same)
least_first least (e ∷ ds) (suc row) d ordered is =
    let parts = and_parts (nat_le least e.node.0) (are_ordered (e.node.0 + 1) ds) ordered in
    let le = leb-true least e.node.0 parts.0 in
    let more = least_first (e.node.0 + 1) ds row d parts.1 is in
    omega (arith, le, more)

row_declared : (least : ℕ) (ds : List Declaration) (row : ℕ) (d : Declaration) → are_ordered least ds ≡ true
    → slice_get ds row ≡ Some d → d.symbol ≡ declared ds d.node.0
row_declared least [] row d ordered is = absurd (cc)
row_declared least (e ∷ ds) zero d ordered is =
    let same : e ≡ d = same_Some e d is in
    ap (λ (d : Declaration). d.symbol) (sym same)
    ∙ sym (ap (λ (c : Bool). if c then e.symbol else declared ds d.node.0)
    (eq-eqb e.node.0 d.node.0 (ap (λ (d : Declaration). d.node.0) same)))
row_declared least (e ∷ ds) (suc row) d ordered is =
    let parts = and_parts (nat_le least e.node.0) (are_ordered (e.node.0 + 1) ds) ordered in
    let more = least_first (e.node.0 + 1) ds row d parts.1 is in
    let other : nat_eq e.node.0 d.node.0 ≡ false = false_from_ne_true (nat_eq e.node.0 d.node.0)
    (λ eq. let same = eqb-true e.node.0 d.node.0 eq in omega (arith, more, same)) in
    row_declared (e.node.0 + 1) ds row d parts.1 is
    ∙ sym (ap (λ (c : Bool). if c then e.symbol else declared ds d.node.0) other)

-- A declaration at an index, in a list that was found to be in order.
pub found_declared : (ds : List Declaration) (row node : ℕ) (d : Declaration) (in_order : Bool) → in_order ≡ are_ordered 0 ds
    → in_order ≡ true → Some d ≡ slice_get ds row → d.node.0 ≡ node → d.symbol ≡ declared ds node
found_declared ds row node d in_order told is there same =
    row_declared 0 ds row d (sym told ∙ is) (sym there) ∙ ap (declared ds) same
