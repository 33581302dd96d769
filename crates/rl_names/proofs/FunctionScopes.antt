-- The declarations of a tree that bind in the scope of a function inside it: they stand inside the function.
use Rattle.std.proofs.Common.{◌≡◌, ◌≢◌, ℕ, ◌+◌, ◌≤◌, ◌<◌, zero, suc, Bool, true, if◌then◌else◌, inl, inr, List, [], ◌++◌, append_assoc, append-nil, refl, sym, ap, subst, ◌∙◌, arith}
use Rattle.std.specs.List.{AllByRecursion}
use Rattle.rl_base.specs.declared.ids.ScopeId.{ScopeId}
use Rattle.rl_ast.proofs.MarkedFunctions.{Inside, InsideOf}
use Rattle.rl_bindings.specs.Roles.{role_of, parts_ahead, outside, below, kind_scope}
use Rattle.rl_bindings.specs.declared.event.BindKind.{BindKind}
use Rattle.rl_bindings.specs.declared.event.BindKind.TheVariants as kind
use Rattle.rl_bindings.specs.declared.event.Bound.{Bound}
use Rattle.rl_bindings.specs.declared.names.Name.{Name}
use Rattle.rl_bindings.specs.declared.role.Above.{Above}
use Rattle.rl_bindings.specs.declared.role.Role.{Role}
use Rattle.rl_bindings.specs.declared.role.Role.TheVariants as role
use Rattle.rl_syntax.specs.Syntax.{Syntax, Node, Listed, Said, Count, Flag, Absent, Pieces, End, Then, scopes, one_if, inside, next_byte, behind, IsPlaced, ArePlaced}
use Rattle.rl_syntax.specs.Tallies.{scopes_of}
use Rattle.rl_syntax.specs.Words.{makes_scope}
use Rattle.rl_syntax.specs.declared.numbered.At.{At}
use Rattle.rl_syntax.specs.declared.numbered.Position.{Position}
use Rattle.rl_syntax.specs.declared.word.Word.{Word}
use Rattle.rl_syntax.specs.declared.word.Word.TheVariants as word
use Rattle.rl_names.proofs.Declarations.{own, declares, declares_among}
use Rattle.rl_names.proofs.Items.{each-append}

-- The scope `k` is neither the innermost above nor the innermost there that takes `var`.
pub record IsOther (k : ℕ) (a : Above) : Type 0 where
  pub scope : a.scope.0 ≢ k
  pub function : a.function.0 ≢ k

-- The number `k` is none of the numbers from `low` on, `count` of them.
pub record IsClear (k low count : ℕ) : Type 0 where
  pub apart : (i : ℕ) → low ≤ i → i < low + count → i ≢ k

-- The number `k` is one of the numbers from `low` on, `count` of them.
pub record IsAmong (k low count : ℕ) : Type 0 where
  pub above : low ≤ k
  pub below : k < low + count

narrowed : (k low count : ℕ) (more fewer : ℕ) → low ≤ more → more + fewer ≤ low + count → IsClear k low count → IsClear k more fewer
narrowed k low count more fewer down up clear = record { apart = λ i first last. clear.apart i (omega (arith, down, first)) (omega (arith, up, last)) }

clear_before : (k low count : ℕ) → low + count ≤ k → IsClear k low count
clear_before k low count before = record { apart = λ i first last same. absurd (omega (arith, before, first, last, same)) }

clear_behind : (k low count : ℕ) → k < low → IsClear k low count
clear_behind k low count behind = record { apart = λ i first last same. absurd (omega (arith, behind, first, last, same)) }

one_scope : (w : Word) → makes_scope w ≡ true → one_if makes_scope w ≡ 1
one_scope w maker = ap (λ (b : Bool). if b then 1 else 0) maker

module _ (k : ℕ) where
  outside_other : (w : Word) (a : Above) → IsOther k a → IsOther k (outside a w)
  outside_other word.Fundecl a other = record { scope = other.scope; function = other.function }
  outside_other word.Classdecl a other = record { scope = other.scope; function = other.function }
  outside_other _ a other = record { scope = other.scope; function = other.function }

  below_other : (w : Word) (a : Above) (at : At) (ps : Pieces) → IsOther k a → (makes_scope w ≡ true → at.scope.0 ≢ k) → IsOther k (below a at w ps)
  below_other word.Program a at ps other here = record { scope = here refl; function = here refl }
  below_other word.Static a at ps other here = record { scope = here refl; function = here refl }
  below_other word.Arrow a at ps other here = record { scope = here refl; function = here refl }
  below_other word.Fundecl a at ps other here = record { scope = here refl; function = here refl }
  below_other word.Funexpr a at ps other here = record { scope = here refl; function = here refl }
  below_other word.Classexpr a at ps other here = record { scope = here refl; function = other.function }
  below_other word.Catch a at ps other here = record { scope = here refl; function = other.function }
  below_other word.Classdecl a at ps other here = record { scope = here refl; function = other.function }
  below_other word.Block a at ps other here = record { scope = here refl; function = other.function }
  below_other word.For a at ps other here = record { scope = here refl; function = other.function }
  below_other word.Forin a at ps other here = record { scope = here refl; function = other.function }
  below_other word.Forof a at ps other here = record { scope = here refl; function = other.function }
  below_other word.Switch a at ps other here = record { scope = here refl; function = other.function }
  below_other _ a at ps other here = record { scope = other.scope; function = other.function }

  pub kind_other : (b : BindKind) (scope function : ScopeId) → scope.0 ≢ k → function.0 ≢ k → (kind_scope b scope function).0 ≢ k
  kind_other kind.Var scope function one other = other
  kind_other _ scope function one other = one

  -- The declarations bind in other scopes than `k`.
  abbrev pub AreElsewhere : List Bound → Type 0
  AreElsewhere bs = AllByRecursion (λ b. b.scope.0 ≢ k) bs

  elsewhere-append : (bs cs : List Bound) → AreElsewhere bs → AreElsewhere cs → AreElsewhere (bs ++ cs)
  elsewhere-append bs cs first second = each-append (λ b. b.scope.0 ≢ k) bs cs first second

  -- Some declarations among others, which bind in other scopes than `k`.
  pub record Splits (all some : List Bound) : Type 0 where
    pub before : List Bound
    pub after : List Bound
    pub is : all ≡ before ++ (some ++ after)
    pub apart_before : AreElsewhere before
    pub apart_after : AreElsewhere after

  pub splits_itself : (bs : List Bound) → Splits bs bs
  splits_itself bs = record { before = []; after = []; is = sym (append-nil bs); apart_before = tt; apart_after = tt }

  pub splits_before : (more all some : List Bound) → AreElsewhere more → Splits all some → Splits (more ++ all) some
  splits_before more all some apart s = record {
    before = more ++ s.before;
    after = s.after;
    is = ap (λ l. more ++ l) s.is ∙ sym (append_assoc more s.before (some ++ s.after));
    apart_before = elsewhere-append more s.before apart s.apart_before;
    apart_after = s.apart_after;
  }

  pub splits_after : (more all some : List Bound) → AreElsewhere more → Splits all some → Splits (all ++ more) some
  splits_after more all some apart s = record {
    before = s.before;
    after = s.after ++ more;
    is = ap (λ l. l ++ more) s.is ∙ append_assoc s.before (some ++ s.after) more ∙ ap (λ l. s.before ++ l) (append_assoc some s.after more);
    apart_before = s.apart_before;
    apart_after = elsewhere-append s.after more s.apart_after apart;
  }

  module _ (names : List Name) where
    own_elsewhere : (r : Role) (a : Above) (at : At) (ps : Pieces) → IsOther k a → AreElsewhere (own names r a at ps)
    own_elsewhere role.Binder a at ps other = (kind_other a.kind a.scope a.function other.scope other.function, tt)
    own_elsewhere role.Maker a at ps other = tt
    own_elsewhere role.User a at ps other = tt
    own_elsewhere role.Plain a at ps other = tt

    mutual
      -- A placed tree whose scopes, and those above it, are others than `k`, declares nothing in `k`.
      pub elsewhere : (t : Syntax) (a : Above) (from : Position) → IsPlaced from t → IsOther k a → IsClear k from.scope (scopes t) → AreElsewhere (declares names a t)
      elsewhere (Node at w ps) a from placed other clear =
          elsewhere-append (own names (role_of w) a at ps) (declares_among names (parts_ahead w) (outside a w) (below a at w ps) ps)
          (own_elsewhere (role_of w) a at ps other)
          (elsewhere_among ps (parts_ahead w) (outside a w) (below a at w ps) (inside from w) placed.1 (outside_other w a other)
          (below_other w a at ps other (λ maker. let one = one_scope w maker in let is = placed.0.scope in λ same. clear.apart from.scope (omega arith) (omega (arith, one)) (sym is ∙ same)))
          (narrowed k from.scope (scopes (Node at w ps)) (from.scope + one_if makes_scope w) (scopes_of ps) (omega arith) (omega arith) clear))
      elsewhere (Listed ps) a from placed other clear = elsewhere_among ps zero a a from placed other other clear
      elsewhere (Said text) a from placed other clear = tt
      elsewhere (Count number) a from placed other clear = tt
      elsewhere (Flag flag) a from placed other clear = tt
      elsewhere Absent a from placed other clear = tt

      elsewhere_among : (ps : Pieces) (n : ℕ) (a b : Above) (from : Position) → ArePlaced from ps → IsOther k a → IsOther k b → IsClear k from.scope (scopes_of ps) → AreElsewhere (declares_among names n a b ps)
      elsewhere_among End n a b from placed other_a other_b clear = tt
      elsewhere_among (Then p ps) zero a b from placed other_a other_b clear =
          elsewhere-append (declares names b p) (declares_among names zero a b ps)
          (elsewhere p b (next_byte from) placed.0 other_b (narrowed k from.scope (scopes_of (Then p ps)) from.scope (scopes p) (omega arith) (omega arith) clear))
          (elsewhere_among ps zero a b (behind (next_byte from) p) placed.1 other_a other_b (narrowed k from.scope (scopes_of (Then p ps)) (from.scope + scopes p) (scopes_of ps) (omega arith) (omega arith) clear))
      elsewhere_among (Then p ps) (suc n) a b from placed other_a other_b clear =
          elsewhere-append (declares names a p) (declares_among names n a b ps)
          (elsewhere p a (next_byte from) placed.0 other_a (narrowed k from.scope (scopes_of (Then p ps)) from.scope (scopes p) (omega arith) (omega arith) clear))
          (elsewhere_among ps n a b (behind (next_byte from) p) placed.1 other_a other_b (narrowed k from.scope (scopes_of (Then p ps)) (from.scope + scopes p) (scopes_of ps) (omega arith) (omega arith) clear))

-- A function inside a tree: a node that makes a scope.
module _ (at : At) (w : Word) (ps : Pieces) (maker : makes_scope w ≡ true) where
  mutual
    -- The number of the scope of a function inside a placed tree is one of the tree's.
    pub scope_inside : (t : Syntax) (from : Position) → IsPlaced from t → Inside (Node at w ps) t → IsAmong at.scope.0 from.scope (scopes t)
    scope_inside (Node bt v qs) from placed (inl same) =
        let here : at.scope.0 ≡ bt.scope.0 = (let ids : at ≡ bt = cc in ap (λ x. x.scope.0) ids) in
        let one : one_if makes_scope v ≡ 1 = (let words : w ≡ v = cc in ap (one_if makes_scope) (sym words) ∙ one_scope w maker) in
        let is = placed.0.scope in
        record { above = omega (arith, here, is); below = omega (arith, here, is, one) }
    scope_inside (Node bt v qs) from placed (inr more) =
        let i = scope_inside_parts qs (inside from v) placed.1 more in
        record { above = omega (arith, i.above); below = omega (arith, i.below) }
    scope_inside (Listed qs) from placed more = scope_inside_parts qs from placed more
    scope_inside (Said text) from placed more = absurd more
    scope_inside (Count number) from placed more = absurd more
    scope_inside (Flag flag) from placed more = absurd more
    scope_inside Absent from placed more = absurd more

    pub scope_inside_parts : (qs : Pieces) (from : Position) → ArePlaced from qs → InsideOf (Node at w ps) qs → IsAmong at.scope.0 from.scope (scopes_of qs)
    scope_inside_parts End from placed more = absurd more
    scope_inside_parts (Then q qs) from placed (inl here) = let i = scope_inside q (next_byte from) placed.0 here in record { above = i.above; below = omega (arith, i.below) }
    scope_inside_parts (Then q qs) from placed (inr there) = let i = scope_inside_parts qs (behind (next_byte from) q) placed.1 there in record { above = omega (arith, i.above); below = omega (arith, i.below) }

  module _ (names : List Name) where
    -- The declarations of the function are some of `all`, and the others bind in other scopes than the function's.
    pub record Found (all : List Bound) : Type 0 where
      pub over : Above
      pub other : IsOther at.scope.0 over
      pub splits : Splits at.scope.0 all (declares names over (Node at w ps))

    found_before : (more all : List Bound) → AreElsewhere at.scope.0 more → Found all → Found (more ++ all)
    found_before more all apart f = record { over = f.over; other = f.other; splits = splits_before at.scope.0 more all (declares names f.over (Node at w ps)) apart f.splits }

    found_after : (more all : List Bound) → AreElsewhere at.scope.0 more → Found all → Found (all ++ more)
    found_after more all apart f = record { over = f.over; other = f.other; splits = splits_after at.scope.0 more all (declares names f.over (Node at w ps)) apart f.splits }

    mutual
      -- A tree around a function declares in the function's scope what the function itself declares there.
      pub found : (t : Syntax) (a : Above) (from : Position) → IsPlaced from t → IsOther at.scope.0 a → Inside (Node at w ps) t → Found (declares names a t)
      found (Node bt v qs) a from placed other (inl same) = record {
        over = a;
        other = other;
        splits = subst (λ s. Splits at.scope.0 (declares names a s) (declares names a (Node at w ps))) same (splits_itself at.scope.0 (declares names a (Node at w ps)));
      }
      found (Node bt v qs) a from placed other (inr more) =
          let i = scope_inside_parts qs (inside from v) placed.1 more in
          found_before (own names (role_of v) a bt qs) (declares_among names (parts_ahead v) (outside a v) (below a bt v qs) qs)
          (own_elsewhere at.scope.0 names (role_of v) a bt qs other)
          (found_among qs (parts_ahead v) (outside a v) (below a bt v qs) (inside from v) placed.1 (outside_other at.scope.0 v a other)
          (below_other at.scope.0 v a bt qs other (λ makes. let one = one_scope v makes in let is = placed.0.scope in λ same. absurd (omega (arith, one, is, same, i.above))))
          more)
      found (Listed qs) a from placed other more = found_among qs zero a a from placed other other more
      found (Said text) a from placed other more = absurd more
      found (Count number) a from placed other more = absurd more
      found (Flag flag) a from placed other more = absurd more
      found Absent a from placed other more = absurd more

      found_among : (qs : Pieces) (n : ℕ) (a b : Above) (from : Position) → ArePlaced from qs → IsOther at.scope.0 a → IsOther at.scope.0 b → InsideOf (Node at w ps) qs → Found (declares_among names n a b qs)
      found_among End n a b from placed other_a other_b more = absurd more
      found_among (Then q qs) zero a b from placed other_a other_b (inl here) =
          let i = scope_inside q (next_byte from) placed.0 here in
          found_after (declares_among names zero a b qs) (declares names b q)
          (elsewhere_among at.scope.0 names qs zero a b (behind (next_byte from) q) placed.1 other_a other_b (clear_behind at.scope.0 (from.scope + scopes q) (scopes_of qs) i.below))
          (found q b (next_byte from) placed.0 other_b here)
      found_among (Then q qs) zero a b from placed other_a other_b (inr there) =
          let i = scope_inside_parts qs (behind (next_byte from) q) placed.1 there in
          found_before (declares names b q) (declares_among names zero a b qs)
          (elsewhere at.scope.0 names q b (next_byte from) placed.0 other_b (clear_before at.scope.0 from.scope (scopes q) i.above))
          (found_among qs zero a b (behind (next_byte from) q) placed.1 other_a other_b there)
      found_among (Then q qs) (suc n) a b from placed other_a other_b (inl here) =
          let i = scope_inside q (next_byte from) placed.0 here in
          found_after (declares_among names n a b qs) (declares names a q)
          (elsewhere_among at.scope.0 names qs n a b (behind (next_byte from) q) placed.1 other_a other_b (clear_behind at.scope.0 (from.scope + scopes q) (scopes_of qs) i.below))
          (found q a (next_byte from) placed.0 other_a here)
      found_among (Then q qs) (suc n) a b from placed other_a other_b (inr there) =
          let i = scope_inside_parts qs (behind (next_byte from) q) placed.1 there in
          found_before (declares names a q) (declares_among names n a b qs)
          (elsewhere at.scope.0 names q a (next_byte from) placed.0 other_a (clear_before at.scope.0 from.scope (scopes q) i.above))
          (found_among qs n a b (behind (next_byte from) q) placed.1 other_a other_b there)
