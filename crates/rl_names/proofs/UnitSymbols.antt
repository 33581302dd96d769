-- The symbols of a unit that the declarations of a function's parameters have, and those that are local variables of the
-- function.
use Rattle.std.proofs.Common.{◌≡◌, ◌≢◌, ℕ, ◌+◌, ◌≤◌, ◌<◌, Bool, true, false, if◌then◌else◌, nat_le, nat_lt, le-leb, lt-ltb, inl, inr, Option, Some, None, is_some, List, [], ◌++◌, length, map, refl, sym, ap, subst, ◌∙◌, arith}
use Rattle.std.proofs.lemmas.List.Elements.{recursion_from_All}
use Rattle.std.proofs.lemmas.Option.{slice_get_within}
use Rattle.rl_base.specs.declared.ids.SymbolId.{SymbolId}
use Rattle.rl_bindings.specs.Events.{top}
use Rattle.rl_bindings.specs.NameRules.{least}
use Rattle.rl_bindings.specs.Names.{names_in}
use Rattle.rl_bindings.specs.Symbols.{bounds}
use Rattle.rl_bindings.specs.Tables.{declarations_in, declared_by, events_in, references_in, scopes_in, symbols_in}
use Rattle.rl_bindings.specs.declared.event.Bound.{Bound}
use Rattle.rl_bindings.specs.declared.event.ScopeEntry.{ScopeEntry}
use Rattle.rl_bindings.proofs.Declarations.{each_declared}
use Rattle.rl_semantic.specs.Buckets.{those}
use Rattle.rl_resolver.specs.Listed.{declaration_pair, of_first}
use Rattle.rl_resolver.specs.Lookups.{symbol_id}
use Rattle.rl_syntax.specs.Nodes.{entries}
use Rattle.rl_syntax.specs.Syntax.{Syntax, nodes, outset, IsPlaced}
use Rattle.rl_syntax.specs.declared.numbered.At.{At}
use Rattle.rl_syntax.proofs.Numbers.{table_length}
use Rattle.rl_semantic.specs.Imports.{imports_in}
use Rattle.rl_semantic.specs.declared.imports.ImportBindingData.{ImportBindingData}
use Rattle.rl_names.specs.Names.{Names, is_local, meaning_of, names_by, symbol_binding}
use Rattle.rl_names.specs.declared.names.Meaning.TheVariants.{Local, Outer}
use Rattle.rl_names.proofs.Declarations.{Ascends, ascends_few, ascending, declared_by_nodes}
use Rattle.rl_names.proofs.FunctionScopes.{Splits}
use Rattle.rl_names.proofs.ParameterNames.{IsTold}
use Rattle.rl_names.proofs.SymbolNumbers.{ascends_within, declared_at, few_symbols, number_of_bound, symbol_of}
use Rattle.rl_bindings.proofs.LookUps.{by_test}
use Rattle.rl_names.proofs.Items.{Has, has_cases, has_left, has_right, has_map, each_has}

-- Some declarations among others are of those.
pub has_split : (k : ℕ) (all some : List Bound) (b : Bound) → Splits k all some → Has some b → Has all b
has_split k all some b s has = subst (λ l. Has l b) (sym s.is) (has_right s.before (some ++ s.after) b (has_left some s.after b has))

-- A declaration that binds in the scope is one of them.
pub split_has : (k : ℕ) (all some : List Bound) (b : Bound) → Splits k all some → b.scope.0 ≡ k → Has all b → Has some b
split_has k all some b s is has = elim (has_cases s.before (some ++ s.after) b (subst (λ l. Has l b) s.is has)) [
  | inl early ↦ absurd (each_has (λ c. c.scope.0 ≢ k) s.before b s.apart_before early is)
  | inr more ↦ elim (has_cases some s.after b more) [
    | inl here ↦ here
    | inr late ↦ absurd (each_has (λ c. c.scope.0 ≢ k) s.after b s.apart_after late is)
  ]
]

-- The names of a unit in the lowering of the function with these ids.
abbrev pub unit_names : Syntax → At → Names
unit_names u at = names_by at (entries u) (imports_in u) (names_in u) (scopes_in u) (symbols_in u) (declarations_in u) (references_in u)

module _ (u : Syntax) (at : At) (placed : IsPlaced outset u) where
  rising : Ascends 0 (0 + nodes u) (bounds (events_in u))
  rising = subst (λ l. Ascends 0 (0 + nodes u) l) (sym (declared_by_nodes (names_in u) u top)) (ascending (names_in u) u top outset placed)

  known : (b : Bound) → Has (bounds (events_in u)) b → is_some (number_of_bound (symbols_in u) b) ≡ true
  known b has =
      each_has (λ d. is_some d.symbol ≡ true) (declarations_in u) (declared_by (symbols_in u) b)
      (recursion_from_All (λ d. is_some d.symbol ≡ true) (declarations_in u) (each_declared (events_in u)))
      (has_map (declared_by (symbols_in u)) (bounds (events_in u)) b has)

  -- A declaration's node declares the symbol of the declaration.
  pub told : nodes u ≤ 65536 → (b : Bound) → Has (bounds (events_in u)) b → IsTold (names_in u) (symbols_in u) (unit_names u at) at b
  told few b has =
      let s = symbol_of (symbols_in u) b (known b has) in
      let within = (ascends_within 0 (0 + nodes u) (bounds (events_in u)) b rising has).1 in
      let length_is = table_length u placed in
      let below : nat_lt b.node.0 (length (entries u)) ≡ true = lt-ltb b.node.0 (length (entries u)) (omega (arith, within, length_is)) in
      let index : s.number < length (symbols_in u) = slice_get_within (symbols_in u) s.number s.first s.there in
      let symbols : length (symbols_in u) ≤ length (bounds (events_in u)) = few_symbols (bounds (events_in u)) in
      let declarations = ascends_few 0 (0 + nodes u) (bounds (events_in u)) rising in
      let small : nat_le s.number 4294967295 ≡ true = le-leb s.number 4294967295 (omega (arith, index, symbols, declarations, few)) in
      record {
        symbol = s;
        declared = ap (λ (x : Bool). of_first (if x then those b.node.0 (map declaration_pair (declarations_in u)) else [])) below
            ∙ declared_at (symbols_in u) 0 (0 + nodes u) (bounds (events_in u)) b rising has
            ∙ ap symbol_id s.is
            ∙ ap (λ (x : Bool). if x then Some (record { 0 = s.number }) else None) small;
      }

-- A name that stands for a local variable resolves to one.
pub meaning_local : (import_data : ℕ → Option ImportBindingData) (at : At) (scopes : List ScopeEntry) (symbols : List Bound) (resolved : Option SymbolId) (name : List ℕ) (symbol : SymbolId) → meaning_of import_data at scopes symbols resolved name ≡ Local symbol → is_local at scopes symbols symbol.0 ≡ true
meaning_local import_data at scopes symbols None name symbol is = absurd (cc)
meaning_local import_data at scopes symbols (Some s) name symbol is = by_test (is_local at scopes symbols s.0)
    (λ local. let found : Local s ≡ Local symbol = sym (ap (λ (x : Bool). if x then Local s else Outer (symbol_binding import_data symbols s.0 name)) local) ∙ is in
    let same : s ≡ symbol = cc in
    subst (λ x. is_local at scopes symbols x.0 ≡ true) same local)
    (λ other. absurd (let found : Outer (symbol_binding import_data symbols s.0 name) ≡ Local symbol = sym (ap (λ (x : Bool). if x then Local s else Outer (symbol_binding import_data symbols s.0 name)) other) ∙ is in cc))

-- Names that break no rule have no two parameters of one name.
pub not_repeated : (clashed passing repeated shared : Bool) → least clashed passing repeated shared ≡ None → repeated ≡ false
not_repeated true passing repeated shared none = absurd (cc)
not_repeated false true repeated shared none = absurd (cc)
not_repeated false false true shared none = absurd (cc)
not_repeated false false false shared none = refl
