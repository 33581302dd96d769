-- A symbol that an inner function assigns is assigned, and named by an inner function.
use Rattle.std.proofs.Common.{◌≡◌, ℕ, Bool, true, false, ◌&&◌, ◌||◌, true≢false, List, [], ◌∷◌, refl, sym}
use Rattle.std.specs.List.{list_any}
use Rattle.rl_base.proofs.Bools.{or_true}
use Rattle.rl_bindings.specs.declared.bindings.Bindings.{Bindings}
use Rattle.rl_context.specs.Context.{assigns, captures, is_context}
use Rattle.rl_context.specs.declared.site.Site.{Site}

-- If some item passes two tests, some item passes each.
any_both : (p q : Site → Bool) (ss : List Site) → list_any (λ s. p s && q s) ss ≡ true → (list_any p ss && list_any q ss) ≡ true
any_both p q [] some = some
any_both p q (s ∷ ss) some = step (p s) (q s) (list_any p ss) (list_any q ss) (list_any (λ t. p t && q t) ss) (any_both p q ss) some
  where
    step : (a b c d e : Bool) → (e ≡ true → (c && d) ≡ true) → ((a && b) || e) ≡ true → ((a || c) && (b || d)) ≡ true
    step true true c d e more some = refl
    step true false c true e more some = refl
    step true false true false e more some = more some
    step true false false false e more some = more some
    step false b true true e more some = or_true b
    step false b true false e more some = absurd (true≢false (sym (more some)))
    step false b false d e more some = absurd (true≢false (sym (more some)))

either : (both one : Bool) → (both ≡ true → one ≡ true) → one ≡ (both || one)
either true one more = more refl
either false one more = refl

pub both_context : (b : Bindings) (ss : List Site) (symbol : ℕ) → (list_any (assigns b symbol) ss && list_any (captures b symbol) ss) ≡ is_context b ss symbol
both_context b ss symbol =
    either (list_any (λ s. assigns b symbol s && captures b symbol s) ss) (list_any (assigns b symbol) ss && list_any (captures b symbol) ss)
    (any_both (assigns b symbol) (captures b symbol) ss)
