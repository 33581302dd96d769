-- Walks outwards from a scope, one scope on.
use Rattle.std.proofs.Common.{◌≡◌, ◌<◌, ◌≤◌, arith, ℕ, zero, suc, ◌-◌, Bool, true, false}
use Rattle.std.proofs.Common.{if◌then◌else◌, nat_le, Option, Some, None, List, [], ◌∷◌, refl, sym, ap, ◌∙◌}
use Rattle.std.proofs.lemmas.Bool.{le-leb, leb-false, leb-true, lt-leb}
use Rattle.std.proofs.lemmas.Slice.Eq.{bytes_eq-Decides}
use Rattle.std.specs.Str.{bytes_eq}
use Rattle.rl_base.specs.declared.ids.ScopeId.{ScopeId}
use Rattle.rl_bindings.specs.Symbols.{binding, option_or, resolve}
use Rattle.rl_bindings.specs.declared.event.Bound.{Bound}
use Rattle.rl_bindings.specs.declared.event.ScopeEntry.{ScopeEntry}
use Rattle.rl_lint.specs.Rules.{least, other_among, other_at, other_named, taken_by}
use Rattle.rl_lint.specs.Stems.{stem}
use Rattle.rl_lint.specs.Tables.{Tables}
use Rattle.rl_resolver.specs.Around.{ancestors, outward}
use Rattle.rl_resolver.specs.Lookups.{scope_parent}

pub out_step : (scopes : List ScopeEntry) (left : ℕ) (next : Option ScopeId) (scope : ScopeId) → 0 < left → next ≡ Some scope
    → outward scopes left next ≡ scope ∷ outward scopes (left - 1) (scope_parent scopes scope.0)
out_step scopes zero next scope some is = absurd (omega (arith, some))
out_step scopes (suc left) next scope some is = let less : left ≡ suc left - 1 = omega arith in
    ap (outward scopes (suc left)) is ∙ ap (λ n. scope ∷ outward scopes n (scope_parent scopes scope.0)) less

pub out_end : (scopes : List ScopeEntry) (left : ℕ) (next : Option ScopeId) → next ≡ None → outward scopes left next ≡ []
out_end scopes zero next is = refl
out_end scopes (suc left) next is = ap (outward scopes (suc left)) is

-- The search goes on past a scope that does not bind the name.
pub next_scope : (symbols : List Bound) (scopes : List ScopeEntry) (left : ℕ) (next : Option ScopeId) (scope : ScopeId) (name : ℕ)
    → 0 < left → next ≡ Some scope
    → None ≡ binding symbols scope.0 name
    → resolve symbols (outward scopes (left - 1) (scope_parent scopes scope.0)) name ≡ resolve symbols (outward scopes left next) name
next_scope symbols scopes left next scope name some is none =
    ap (λ o. option_or o (resolve symbols (outward scopes (left - 1) (scope_parent scopes scope.0)) name)) none
    ∙ ap (λ ss. resolve symbols ss name) (sym (out_step scopes left next scope some is))

pub found_scope : (symbols : List Bound) (scopes : List ScopeEntry) (left : ℕ) (next : Option ScopeId) (scope : ScopeId)
    (name symbol : ℕ) → 0 < left → next ≡ Some scope
    → Some symbol ≡ binding symbols scope.0 name → Some symbol ≡ resolve symbols (outward scopes left next) name
found_scope symbols scopes left next scope name symbol some is found =
    ap (λ o. option_or o (resolve symbols (outward scopes (left - 1) (scope_parent scopes scope.0)) name)) found
    ∙ ap (λ ss. resolve symbols ss name) (sym (out_step scopes left next scope some is))

pub last_scope : (symbols : List Bound) (scopes : List ScopeEntry) (left : ℕ) (next : Option ScopeId) (name : ℕ) → next ≡ None
    → None ≡ resolve symbols (outward scopes left next) name
last_scope symbols scopes left next name is = ap (λ ss. resolve symbols ss name) (sym (out_end scopes left next is))

pub no_scope : (symbols : List Bound) (scopes : List ScopeEntry) (left : ℕ) (next : Option ScopeId) (name : ℕ) → left ≤ 0
    → None ≡ resolve symbols (outward scopes left next) name
no_scope symbols scopes zero next name is = refl
no_scope symbols scopes (suc left) next name is = absurd (omega (arith, is))

pub ruleset steps = (next_scope, found_scope, last_scope, no_scope)

-- The smaller of three numbers.

smaller : (x y z : ℕ) (a b : Bool) → nat_le x y ≡ a → nat_le y z ≡ b
    → least (if a then Some x else Some y) (Some z) ≡ least (Some x) (if b then Some y else Some z)
smaller x y z true true le more =
    ap (λ (c : Bool). if c then Some x else Some z)
    (le-leb x z (let p : x ≤ y = leb-true x y le in let q : y ≤ z = leb-true y z more in omega (arith, p, q)))
    ∙ sym (ap (λ (c : Bool). if c then Some x else Some y) le)
smaller x y z true false le more = refl
smaller x y z false true le more =
    ap (λ (c : Bool). if c then Some y else Some z) more ∙ sym (ap (λ (c : Bool). if c then Some x else Some y) le)
smaller x y z false false le more =
    ap (λ (c : Bool). if c then Some y else Some z) more
    ∙ sym (ap (λ (c : Bool). if c then Some x else Some z)
    (lt-leb x z (let p : y < x = leb-false x y le in let q : z < y = leb-false y z more in omega (arith, p, q))))

least-none : (a : Option ℕ) → least a None ≡ a
least-none None = refl
least-none (Some x) = refl

pub least-assoc : (a b c : Option ℕ) → least (least a b) c ≡ least a (least b c)
least-assoc None b c = refl
least-assoc (Some x) None c = refl
least-assoc (Some x) (Some y) None = least-none (least (Some x) (Some y))
least-assoc (Some x) (Some y) (Some z) = smaller x y z (nat_le x y) (nat_le y z) refl refl

module _ (symbols : List Bound) (scopes : List ScopeEntry) (own name : ℕ) where
  -- The search goes on with the next scope.
  pub least_next : (left : ℕ) (next : Option ScopeId) (scope : ScopeId) (found new at : Option ℕ) → 0 < left → next ≡ Some scope
      → at ≡ other_at symbols own name scope → new ≡ least found at
      → least new (other_among symbols own name (outward scopes (left - 1) (scope_parent scopes scope.0)))
      ≡ least found (other_among symbols own name (outward scopes left next))
  least_next left next scope found new at some is there e =
      ap (λ o. least o (other_among symbols own name (outward scopes (left - 1) (scope_parent scopes scope.0))))
      (e ∙ ap (least found) there)
      ∙ least-assoc found (other_at symbols own name scope) _
      ∙ ap (λ ss. least found (other_among symbols own name ss)) (sym (out_step scopes left next scope some is))

  pub least_last : (left : ℕ) (next : Option ScopeId) (found : Option ℕ) → next ≡ None
      → found ≡ least found (other_among symbols own name (outward scopes left next))
  least_last left next found is = sym (least-none found)
      ∙ ap (λ ss. least found (other_among symbols own name ss)) (sym (out_end scopes left next is))

  pub least_end : (left : ℕ) (next : Option ScopeId) (found : Option ℕ) → left ≤ 0
      → found ≡ least found (other_among symbols own name (outward scopes left next))
  least_end zero next found is = sym (least-none found)
  least_end (suc left) next found is = absurd (omega (arith, is))

pub ruleset least_steps = (least_next, least_last, least_end)

-- A name that is its own stem is looked for once.

least-same : (a : Option ℕ) → least a a ≡ a
least-same None = refl
least-same (Some x) = by_case (nat_le x x)
  where
    by_case : (b : Bool) → (if b then Some x else Some x) ≡ Some x
    by_case true = refl
    by_case false = refl

pub same_stem : (b : Tables) (own : ℕ) (scope : ScopeId) (text less : List ℕ) (found : Option ℕ) → less ≡ stem text
    → bytes_eq less text ≡ true
    → found ≡ other_named b own (ancestors b.scopes scope) text → found ≡ taken_by b own scope text
same_stem b own scope text less found is same e =
    let whole : stem text ≡ text = sym is ∙ (bytes_eq-Decides less text).0 same in
    e ∙ sym (least-same (other_named b own (ancestors b.scopes scope) text))
    ∙ ap (λ t. least (other_named b own (ancestors b.scopes scope) text) (other_named b own (ancestors b.scopes scope) t)) (sym whole)

pub ruleset by_stem = (same_stem)
