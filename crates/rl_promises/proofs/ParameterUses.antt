-- The references in the parameters of a function of a unit: each is resolved under the function's scope.
use Rattle.std.proofs.Common.{◌≡◌, ℕ, ◌+◌, ◌≤◌, ◌<◌, Some, List, [], ◌∷◌, ◌++◌, inl, inr, length, slice_get, refl, sym, ap, subst, ◌∙◌, arith}
use Rattle.std.specs.List.{AllByRecursion}
use Rattle.rl_ast.proofs.MarkedFunctions.{Inside, inside_placed}
use Rattle.rl_base.specs.declared.ids.ScopeId.{ScopeId}
use Rattle.rl_bindings.specs.Events.{top}
use Rattle.rl_bindings.specs.Standing.{references, standing}
use Rattle.rl_bindings.specs.Symbols.{resolve}
use Rattle.rl_bindings.specs.declared.event.Bound.{Bound}
use Rattle.rl_bindings.specs.declared.names.Name.{Name}
use Rattle.rl_bindings.specs.declared.resolve.Reference.{Reference}
use Rattle.rl_bindings.specs.declared.role.Above.{Above}
use Rattle.rl_names.specs.Functions.{params_in}
use Rattle.rl_promises.proofs.CalmTrees.{calm_scopes_of}
use Rattle.rl_promises.proofs.FunctionParts.{FunctionParts}
use Rattle.rl_promises.proofs.ReferenceRanges.{AllFrom, AreUsed, from_at, used_behind}
use Rattle.rl_promises.proofs.ReferencesAround.{counted_uses, scopeless_used, used_around}
use Rattle.rl_syntax.specs.Syntax as syntax
use Rattle.rl_syntax.specs.Syntax.{Syntax, Node, Listed, Then, IsPlaced, outset, scopes}
use Rattle.rl_syntax.specs.declared.numbered.Position.{Position}
use Rattle.rl_syntax.specs.declared.word.Word.TheVariants as word

-- Of references whose numbers have the property anyway, each has it.
vacant : (Q : ℕ → Reference → Type 0) (first : ℕ) (rs : List Reference)
    → ((n : ℕ) → first ≤ n → n < first + length rs → (r : Reference) → Q n r) → AllFrom Q first rs
vacant Q first [] all = tt
vacant Q first (r ∷ rs) all = (
  all first (omega arith) (omega arith) r,
  vacant Q (first + 1) rs (λ n low high x. all n (omega (arith, low)) (omega (arith, high)) x),
)

-- References in front of some and behind them.
around_used : (Q : ℕ → Reference → Type 0) (first a b : ℕ) (ahead some after : List Reference) → length ahead ≡ a
    → AreUsed Q (first + a) b some → ((n : ℕ) → n < first + a → (r : Reference) → Q n r)
    → ((n : ℕ) → first + a + b ≤ n → (r : Reference) → Q n r)
    → AreUsed Q first (a + (b + length after)) (ahead ++ (some ++ after))
around_used Q first a b ahead some after long used front back =
    used_behind Q first a (b + length after) (a + (b + length after)) ahead (some ++ after)
    (record { long = long; all = vacant Q first ahead (λ n low high r. front n (omega (arith, high, long)) r) })
    (used_behind Q (first + a) b (length after) (b + length after) some after used
    (record { long = refl; all = vacant Q (first + a + b) after (λ n low high r. back n low r) }) refl)
    refl

module _ (names : List Name) (symbols : List Bound) (f : Syntax) (p : FunctionParts f) where
  abbrev function : Syntax
  function = Node p.at p.w p.parts

  -- The numbers of the references in the parameters.

  abbrev pub low : ℕ
  low = p.at.reference.0 + p.before

  abbrev pub high : ℕ
  high = p.at.reference.0 + p.before + syntax.references (params_in f)

  -- The reference is resolved under the scope of the function, and those around it.
  pub record IsResolved (r : Reference) : Type 0 where
    pub outer : List ScopeId
    pub below : AllByRecursion (λ (s : ScopeId). s.0 < p.at.scope.0) outer
    pub is : r.symbol ≡ resolve symbols (p.at.scope ∷ outer) r.name

  abbrev pub Resolves : ℕ → Reference → Type 0
  Resolves n r = low ≤ n → n < high → IsResolved r

  no_scopes : scopes (params_in f) ≡ 0
  no_scopes =
      let items = calm_scopes_of p.items p.calm in
      let rest = calm_scopes_of p.rest p.calm_rest in
      let all : scopes (Node p.pat word.Params (Then (Listed p.items) p.rest)) ≡ 0 = omega (arith, items, rest) in
      ap scopes p.params ∙ all

  itself : (over : Above) (ss : List ScopeId) (from : Position) → IsPlaced from function
      → AllByRecursion (λ (s : ScopeId). s.0 < p.at.scope.0) ss
      → AreUsed Resolves from.reference (syntax.references function) (references (standing names symbols over ss function))
  itself over ss from placed below =
      let s = p.uses names symbols over ss from (subst (λ t. IsPlaced from t) (sym p.is) placed) in
      let start = placed.0.reference in
      let first = s.starts in
      let middle = scopeless_used names symbols Resolves (params_in f) s.over (p.at.scope ∷ ss) s.position s.placed no_scopes
      (λ n node name one two in_low in_high. record { outer = ss; below = below; is = refl }) in
      let some = references (standing names symbols s.over (p.at.scope ∷ ss) (params_in f)) in
      let used = around_used Resolves from.reference p.before (syntax.references (params_in f)) s.ahead some s.after s.long
      (subst (λ n. AreUsed Resolves n (syntax.references (params_in f)) some) first middle)
      (λ n less r in_low in_high. absurd (omega (arith, less, in_low, start)))
      (λ n more r in_low in_high. absurd (omega (arith, more, in_high, start))) in
      record {
        long = counted_uses names symbols function over ss from placed;
        all = subst (λ rs. AllFrom Resolves from.reference rs)
            (sym (ap (λ t. references (standing names symbols over ss t)) (sym p.is) ∙ s.is)) used.all;
      }

  -- The references of the parameters are among those of the function.
  params_fit : (from : Position) → IsPlaced from function → p.before + syntax.references (params_in f) ≤ syntax.references function
  params_fit from placed =
      let s = p.uses names symbols top [] from (subst (λ t. IsPlaced from t) (sym p.is) placed) in
      let some = references (standing names symbols s.over (p.at.scope ∷ []) (params_in f)) in
      let used = around_used (λ n r. Unit {0}) from.reference p.before (syntax.references (params_in f)) s.ahead some s.after s.long
      (subst (λ n. AreUsed (λ n r. Unit {0}) n (syntax.references (params_in f)) some) s.starts
      (scopeless_used names symbols (λ n r. Unit {0}) (params_in f) s.over (p.at.scope ∷ []) s.position s.placed no_scopes
      (λ n node name one two. tt))) (λ n less r. tt) (λ n more r. tt) in
      let all : length (s.ahead ++ (some ++ s.after)) ≡ syntax.references function =
      ap length (sym (ap (λ t. references (standing names symbols top [] t)) (sym p.is) ∙ s.is))
      ∙ counted_uses names symbols function top [] from placed in
      let long = used.long in
      omega (arith, all, long)

  -- In a unit, each reference with a number in that range is resolved so.
  pub uses_resolved : (u : Syntax) → IsPlaced outset u → Inside function u → (k : ℕ) (r : Reference)
      → slice_get (references (standing names symbols top [] u)) k ≡ Some r → low ≤ k → k < high → IsResolved r
  uses_resolved u placed there k r is in_low in_high =
      let stands = inside_placed u function outset placed there in
      let fit = params_fit stands.from stands.placed in
      let used = used_around names symbols Resolves p.at p.w p.parts p.maker
      (λ n x side. elim side [
        | inl before ↦ λ first last. absurd (omega (arith, before, first))
        | inr behind ↦ λ first last. absurd (omega (arith, behind, last, fit))
      ]) itself u top [] outset placed tt there in
      let number : 0 + k ≡ k = omega arith in
      subst (λ n. Resolves n r) number (from_at Resolves 0 (references (standing names symbols top [] u)) used.all k r is) in_low in_high
