-- The names that the parameters of a function of a unit use and declare: the scope of the function binds each to its symbol, so that no two
-- symbols of them have one name.
use Rattle.std.proofs.Common.{◌≡◌, ℕ, zero, suc, ◌≤◌, ◌<◌, ◌+◌, Bool, true, false, true≢false, ◌&&◌, if◌then◌else◌, nat_le, eqb-true, inl, inr, Option, Some, None, is_some, unwrap_or, List, [], ◌∷◌, slice_get, refl, sym, ap, subst, ◌∙◌, arith}
use Rattle.std.proofs.lemmas.Slice.Eq.{bytes_eq-Decides}
use Rattle.std.specs.List.{AllByRecursion}
use Rattle.rl_ast.proofs.MarkedFunctions.{Inside, inside_placed}
use Rattle.rl_base.specs.NameTables.{index_from}
use Rattle.rl_base.specs.declared.ids.ScopeId.{ScopeId}
use Rattle.rl_base.specs.declared.ids.SymbolId.{SymbolId}
use Rattle.rl_bindings.proofs.SymbolTables.{both_right}
use Rattle.rl_bindings.specs.Events.{top}
use Rattle.rl_bindings.specs.Names.{names_in, number_of, numbered, said}
use Rattle.rl_bindings.specs.Roles.{below, outside, parts_ahead, role_of}
use Rattle.rl_bindings.specs.Symbols.{binding, bounds, is_own, number_at, option_or, resolve}
use Rattle.rl_bindings.specs.Tables.{events_in, references_in, scopes_in, symbols_in}
use Rattle.rl_bindings.specs.declared.event.BindKind.TheVariants as kind
use Rattle.rl_bindings.specs.declared.event.Bound.{Bound}
use Rattle.rl_bindings.specs.declared.event.Place.TheVariants as place
use Rattle.rl_bindings.specs.declared.event.ScopeEntry.{ScopeEntry}
use Rattle.rl_bindings.specs.declared.names.Name.{Name}
use Rattle.rl_bindings.specs.declared.resolve.Reference.{Reference}
use Rattle.rl_bindings.specs.declared.role.Above.{Above}
use Rattle.rl_bindings.specs.declared.role.Role.{Role}
use Rattle.rl_bindings.specs.declared.role.Role.TheVariants as role
use Rattle.rl_names.proofs.Declarations.{declared_by_nodes, declares, declares_among, own}
use Rattle.rl_names.proofs.Items.{Has, each-append, each_has, each_weaker}
use Rattle.rl_names.proofs.NameTexts.{numbered_text}
use Rattle.rl_names.proofs.ParameterNames.{IsParam, IsTold}
use Rattle.rl_names.proofs.PlainParameters.{param_above}
use Rattle.rl_names.proofs.SymbolNumbers.{symbol_declared, symbol_of}
use Rattle.rl_names.proofs.UnitSymbols.{meaning_local, unit_names}
use Rattle.rl_names.specs.Functions.{params_in}
use Rattle.rl_names.specs.Names.{is_local, is_scope_inside, is_variable, meaning_of, symbol_binding}
use Rattle.rl_names.specs.declared.names.Meaning.TheVariants.{Local, Outer}
use Rattle.rl_promises.proofs.FunctionParts.{FunctionParts}
use Rattle.rl_promises.proofs.InnerScopes.{scope_in_function}
use Rattle.rl_promises.proofs.Mentioned.{Either, mentioned}
use Rattle.rl_promises.proofs.ParameterDeclarations.{all_bounds}
use Rattle.rl_promises.proofs.ParameterUses.{uses_resolved}
use Rattle.rl_promises.proofs.VariableTrees.{InnerScope}
use Rattle.rl_promises.specs.Locals.{AreToldApart, Mentions}
use Rattle.rl_resolver.specs.Imported.{import_data}
use Rattle.rl_resolver.specs.Lookups.{is_number, name_text, symbol_id, symbol_of_reference}
use Rattle.rl_semantic.specs.Imports.{imports_in}
use Rattle.rl_semantic.specs.Items.{of_item}
use Rattle.rl_semantic.specs.declared.imports.ImportBindingData.{ImportBindingData}
use Rattle.rl_syntax.specs.Nodes.{entries}
use Rattle.rl_syntax.specs.Syntax as syntax
use Rattle.rl_syntax.specs.Syntax.{Syntax, Node, Listed, Said, Count, Flag, Absent, Pieces, End, Then, IsPlaced, outset}
use Rattle.rl_syntax.specs.declared.numbered.At.{At}

-- The numbers that a table gives to names: equal texts have equal numbers.

first_number : (n : Name) (names : List Name) → number_of (n ∷ names) n.text ≡ Some 0
first_number n names =
    ap (λ (b : Bool). if b then Some 0 else number_from) ((bytes_eq-Decides n.text n.text).1 refl)
  where
    number_from : Option ℕ
    number_from = index_from (λ (m : Name). m.text) 1 names n.text

own_number : (n : Name) (names : List Name) (texts : List (List ℕ))
    → number_of (n ∷ names) (name_text (n ∷ names) (numbered (n ∷ names) texts)) ≡ Some (numbered (n ∷ names) texts)
own_number n names [] = first_number n names
own_number n names (text ∷ texts) = by_number (number_of (n ∷ names) text) refl
  where
    by_number : (o : Option ℕ) → number_of (n ∷ names) text ≡ o
        → number_of (n ∷ names) (name_text (n ∷ names) (unwrap_or o 0)) ≡ Some (unwrap_or o 0)
    by_number None is = first_number n names
    by_number (Some number) is = ap (number_of (n ∷ names)) (numbered_text (n ∷ names) text number is) ∙ is

no_number : (texts : List (List ℕ)) → numbered [] texts ≡ 0
no_number [] = refl
no_number (text ∷ texts) = refl

same_number : (table : List Name) (one other : List (List ℕ))
    → name_text table (numbered table one) ≡ name_text table (numbered table other) → numbered table one ≡ numbered table other
same_number [] one other same = no_number one ∙ sym (no_number other)
same_number (n ∷ names) one other same =
    let both : Some (numbered (n ∷ names) one) ≡ Some (numbered (n ∷ names) other) =
    sym (own_number n names one) ∙ ap (number_of (n ∷ names)) same ∙ own_number n names other in
    cc

-- The name of the declaration has the number that the table gives to what its node says.
record IsSaid (table : List Name) (b : Bound) : Type 0 where
  texts : List (List ℕ)
  is : b.name ≡ numbered table texts

module _ (table : List Name) where
  own_said : (r : Role) (a : Above) (at : At) (ps : Pieces) → AllByRecursion (IsSaid table) (own table r a at ps)
  own_said role.Binder a at ps = (record { texts = said ps; is = refl }, tt)
  own_said role.Maker a at ps = tt
  own_said role.User a at ps = tt
  own_said role.Plain a at ps = tt

  mutual
    all_said : (t : Syntax) (a : Above) → AllByRecursion (IsSaid table) (declares table a t)
    all_said (Node at w ps) a =
        each-append (IsSaid table) (own table (role_of w) a at ps)
        (declares_among table (parts_ahead w) (outside a w) (below a at w ps) ps) (own_said (role_of w) a at ps)
        (all_said_among ps (parts_ahead w) (outside a w) (below a at w ps))
    all_said (Listed ps) a = all_said_among ps zero a a
    all_said (Said text) a = tt
    all_said (Count number) a = tt
    all_said (Flag flag) a = tt
    all_said Absent a = tt

    all_said_among : (ps : Pieces) (n : ℕ) (a b : Above) → AllByRecursion (IsSaid table) (declares_among table n a b ps)
    all_said_among End n a b = tt
    all_said_among (Then p ps) zero a b =
        each-append (IsSaid table) (declares table b p) (declares_among table zero a b ps) (all_said p b) (all_said_among ps zero a b)
    all_said_among (Then p ps) (suc n) a b =
        each-append (IsSaid table) (declares table a p) (declares_among table n a b ps) (all_said p a) (all_said_among ps n a b)

-- A symbol that a name stands for under some scopes is declared in one of them.
module _ (symbols : List Bound) (name : ℕ) where
  -- A declaration that binds the name in a scope, as an own name or otherwise.
  abbrev binds_in : (own : Bool) → (scope : ℕ) → Bound
  binds_in own scope = record {
    node = record { 0 = 0 };
    span = record { start = 0; end = 0 };
    name = name;
    scope = record { 0 = scope };
    kind = if own then kind.FunctionExpression else kind.Var;
    place = place.Inner;
  }

  number_scope : (own : Bool) (scope k : ℕ) (b : Bound) → number_at own scope name symbols ≡ Some k → slice_get symbols k ≡ Some b
      → is_own (binds_in own scope).kind ≡ own → b.scope.0 ≡ scope
  number_scope own scope k b is there form =
      let known : number_at (is_own (binds_in own scope).kind) scope name symbols ≡ Some k =
      ap (λ (o : Bool). number_at o scope name symbols) form ∙ is in
      let s = symbol_of symbols (binds_in own scope) (ap is_some known) in
      let numbers : Some s.number ≡ Some k = sym s.is ∙ known in
      let number : s.number ≡ k = cc in
      let firsts : Some b ≡ Some s.first = sym there ∙ ap (slice_get symbols) (sym number) ∙ s.there in
      let first : b ≡ s.first = cc in
      ap (λ (x : Bound). x.scope.0) first ∙ s.same_scope

  binding_scope : (scope k : ℕ) (b : Bound) → binding symbols scope name ≡ Some k → slice_get symbols k ≡ Some b → b.scope.0 ≡ scope
  binding_scope scope k b is there = by_number (number_at false scope name symbols) refl is
    where
      by_number : (o : Option ℕ) → number_at false scope name symbols ≡ o → option_or o (number_at true scope name symbols) ≡ Some k
          → b.scope.0 ≡ scope
      by_number None none own = number_scope true scope k b own there refl
      by_number (Some n) found is = number_scope false scope k b (found ∙ is) there refl

  resolved_scope : (most : ℕ) (ss : List ScopeId) (k : ℕ) (b : Bound) → AllByRecursion (λ (s : ScopeId). s.0 ≤ most) ss
      → resolve symbols ss name ≡ Some k → slice_get symbols k ≡ Some b → b.scope.0 ≤ most
  resolved_scope most [] k b few is there = absurd (cc)
  resolved_scope most (s ∷ ss) k b few is there =
      by_binding (binding symbols s.0 name) refl (λ later. resolved_scope most ss k b few.1 later there) is
    where
      by_binding : (o : Option ℕ) → binding symbols s.0 name ≡ o → (resolve symbols ss name ≡ Some k → b.scope.0 ≤ most)
          → option_or o (resolve symbols ss name) ≡ Some k → b.scope.0 ≤ most
      by_binding None none more later = more later
      by_binding (Some n) found more here =
          let same = binding_scope s.0 k b (found ∙ here) there in
          let small = few.0 in
          omega (arith, same, small)

number_is : (k : ℕ) (o : Option ℕ) → is_number k o ≡ true → o ≡ Some k
number_is k None is = absurd (true≢false (sym is))
number_is k (Some n) is = ap Some (eqb-true n k is)

-- A name that stands for a local variable resolves to it.
meaning_symbol : (import_data : ℕ → Option ImportBindingData) (at : At) (scopes : List ScopeEntry) (symbols : List Bound)
    (resolved : Option SymbolId) (name : List ℕ) (symbol : SymbolId)
    → meaning_of import_data at scopes symbols resolved name ≡ Local symbol → resolved ≡ Some symbol
meaning_symbol import_data at scopes symbols None name symbol is = absurd (cc)
meaning_symbol import_data at scopes symbols (Some s) name symbol is = by_local (is_local at scopes symbols s.0) is
  where
    by_local : (b : Bool) → (if b then Local s else Outer (symbol_binding import_data symbols s.0 name)) ≡ Local symbol
        → Some s ≡ Some symbol
    by_local true is = let same : s ≡ symbol = cc in ap Some same
    by_local false is = absurd (cc)

-- The reference of such a number, which resolves to the symbol.
record HasReference (references : List Reference) (k : ℕ) (symbol : SymbolId) : Type 0 where
  reference : Reference
  there : slice_get references k ≡ Some reference
  is : reference.symbol ≡ Some symbol.0

reference_of : (references : List Reference) (k : ℕ) (symbol : SymbolId) → symbol_of_reference references k ≡ Some symbol
    → HasReference references k symbol
reference_of references k symbol is = by_reference (slice_get references k) refl is
  where
    by_size : (small : Bool) (n : ℕ) → (if small then Some (record { 0 = n }) else None) ≡ Some symbol → Some n ≡ Some symbol.0
    by_size true n is = let same : record { 0 = n } ≡ symbol = cc in ap (λ (s : SymbolId). Some s.0) same
    by_size false n is = absurd (cc)

    by_symbol : (o : Option ℕ) → symbol_id o ≡ Some symbol → o ≡ Some symbol.0
    by_symbol None is = absurd (cc)
    by_symbol (Some n) is = by_size (nat_le n 4294967295) n is

    by_reference : (o : Option Reference) → slice_get references k ≡ o
        → of_item None (λ (r : Reference). symbol_id r.symbol) o ≡ Some symbol → HasReference references k symbol
    by_reference None there is = absurd (cc)
    by_reference (Some r) there is = record { reference = r; there = there; is = by_symbol r.symbol is }

-- A function of a unit whose scope is not the program's, by its parts. Its inner scopes stand behind its own.
module _ (u f : Syntax) (placed : IsPlaced outset u) (p : FunctionParts f) (there : Inside (Node p.at p.w p.parts) u)
    (above : 0 < p.at.scope.0) (inner_above : (k : ℕ) → InnerScope k p.parts → p.at.scope.0 < k) where
  -- The scope of the function binds the symbol's name to the symbol.
  record IsBound (symbol : SymbolId) : Type 0 where
    bound : Bound
    found : slice_get (symbols_in u) symbol.0 ≡ Some bound
    is : binding (symbols_in u) p.at.scope.0 bound.name ≡ Some symbol.0

  abbrev AreKnown : List Bound → Type 0
  AreKnown bs = (b : Bound) → Has bs b
      → IsTold (names_in u) (symbols_in u) (unit_names u p.at) p.at b × IsParam (names_in u) (symbols_in u) (unit_names u p.at) p.at b

  -- The symbol of a parameter's declaration.
  declared_bound : (b : Bound) → IsTold (names_in u) (symbols_in u) (unit_names u p.at) p.at b
      → IsParam (names_in u) (symbols_in u) (unit_names u p.at) p.at b → (symbol : SymbolId)
      → (unit_names u p.at).declared b.node.0 ≡ Some symbol → IsBound symbol
  declared_bound b t form symbol is =
      let s = t.symbol in
      let symbols_are : Some (record { 0 = s.number }) ≡ Some symbol = sym t.declared ∙ is in
      let symbol_is : record { 0 = s.number } ≡ symbol = cc in
      let own_is = ap is_own form.kind_is in
      let scope_is = ap (λ (x : ScopeId). x.0) form.scope_is in
      let number : number_at false p.at.scope.0 s.first.name (symbols_in u) ≡ Some s.number =
      sym (λ i. number_at (own_is i) (scope_is i) (sym s.same_name i) (symbols_in u)) ∙ s.is in
      subst IsBound symbol_is (record {
        bound = s.first;
        found = s.there;
        is = ap (λ (o : Option ℕ). option_or o (number_at true p.at.scope.0 s.first.name (symbols_in u))) number;
      })

  abbrev chosen : Bool → Bound → ScopeId
  chosen t b = if t then b.scope else record { 0 = 0 }

  -- A local variable that stands for a name under the function's scope and those around it.
  local_bound : (symbol : SymbolId) → is_local p.at (scopes_in u) (symbols_in u) symbol.0 ≡ true
      → ((b : Bound) → slice_get (symbols_in u) symbol.0 ≡ Some b → b.scope.0 ≤ p.at.scope.0) → IsBound symbol
  local_bound symbol local outer = by_bound (slice_get (symbols_in u) symbol.0) refl local
    where
      by_number : (t : Bool) (b : Bound) → slice_get (symbols_in u) symbol.0 ≡ Some b
          → is_number symbol.0 (binding (symbols_in u) b.scope.0 b.name) ≡ t
          → is_scope_inside p.at (scopes_in u) (chosen t b).0 ≡ true → IsBound symbol
      by_number true b found number within = elim (scope_in_function u p.at p.w p.parts placed there p.scopes b.scope.0 within) [
        | inl own ↦ record {
          bound = b;
          found = found;
          is = ap (λ (k : ℕ). binding (symbols_in u) k b.name) (sym own)
              ∙ number_is symbol.0 (binding (symbols_in u) b.scope.0 b.name) number;
        }
        | inr inner ↦ absurd (let high = inner_above b.scope.0 inner in let low = outer b found in omega (arith, high, low))
      ]
      by_number false b found number within = elim (scope_in_function u p.at p.w p.parts placed there p.scopes 0 within) [
        | inl own ↦ absurd (omega (arith, above, own))
        | inr inner ↦ absurd (let high = inner_above 0 inner in omega (arith, high))
      ]

      by_bound : (o : Option Bound) → slice_get (symbols_in u) symbol.0 ≡ o
          → (of_item false (λ (b : Bound). is_variable b.kind) o && is_scope_inside p.at (scopes_in u)
          (of_item (record { 0 = 0 }) (λ (b : Bound). chosen (is_number symbol.0 (binding (symbols_in u) b.scope.0 b.name)) b) o).0) ≡ true
          → IsBound symbol
      by_bound None found within = absurd (true≢false (sym within))
      by_bound (Some b) found within =
          let number = is_number symbol.0 (binding (symbols_in u) b.scope.0 b.name) in
          by_number number b found refl (both_right (is_variable b.kind) (is_scope_inside p.at (scopes_in u) (chosen number b).0) within)

  abbrev imports : ℕ → Option ImportBindingData
  imports symbol = import_data (entries u) (imports_in u) (symbols_in u) symbol

  -- The symbol of a reference in the parameters.
  used_bound : (k : ℕ) (name : List ℕ) (symbol : SymbolId) → p.at.reference.0 + p.before ≤ k
      → k < p.at.reference.0 + p.before + syntax.references (params_in f) → (unit_names u p.at).meaning k name ≡ Local symbol
      → IsBound symbol
  used_bound k name symbol low high means =
      let resolved = symbol_of_reference (references_in u) k in
      let local = meaning_local imports p.at (scopes_in u) (symbols_in u) resolved name symbol means in
      let r = reference_of (references_in u) k symbol
      (meaning_symbol imports p.at (scopes_in u) (symbols_in u) resolved name symbol means) in
      let found = uses_resolved (names_in u) (symbols_in u) f p u placed there k r.reference r.there low high in
      local_bound symbol local (λ b is.
      resolved_scope (symbols_in u) r.reference.name p.at.scope.0 (p.at.scope ∷ found.outer) symbol.0 b
      (omega arith, each_weaker _ _ found.outer (λ s less. omega (arith, less)) found.below) (sym found.is ∙ r.is) is)

  -- A symbol that the parameters use or declare.
  mentioned_bound : AreKnown (all_bounds (names_in u) p.at p.items p.rest) → (symbol : SymbolId)
      → Mentions (unit_names u p.at) symbol (params_in f) → IsBound symbol
  mentioned_bound known symbol mentions =
      let stands = inside_placed u (Node p.at p.w p.parts) outset placed there in
      let within : IsPlaced stands.from f = subst (λ t. IsPlaced stands.from t) (sym p.is) stands.placed in
      let s = p.uses (names_in u) (symbols_in u) top [] stands.from within in
      let start = stands.placed.0.reference in
      let first = s.starts in
      by_either s.position.reference (omega (arith, start, first))
      (subst (λ bs. Either (unit_names u p.at) (names_in u) symbol s.position.reference (syntax.references (params_in f)) bs)
      (ap (declares (names_in u) (param_above p.at)) p.params)
      (mentioned (unit_names u p.at) (names_in u) symbol (params_in f) (param_above p.at) s.position s.placed mentions))
    where
      by_either : (first : ℕ) → first ≡ p.at.reference.0 + p.before
          → Either (unit_names u p.at) (names_in u) symbol first (syntax.references (params_in f))
          (all_bounds (names_in u) p.at p.items p.rest) → IsBound symbol
      by_either first start (inl used) =
          let low = used.low in
          let high = used.high in
          used_bound used.reference used.name symbol (omega (arith, start, low)) (omega (arith, start, high)) used.means
      by_either first start (inr declaration) =
          let k = known declaration.bound declaration.has in
          declared_bound declaration.bound k.0 k.1 symbol declaration.declares_it

  bound_said : (symbol : ℕ) (b : Bound) → slice_get (symbols_in u) symbol ≡ Some b → IsSaid (names_in u) b
  bound_said symbol b found =
      each_has (IsSaid (names_in u)) (bounds (events_in u)) b
      (subst (λ l. AllByRecursion (IsSaid (names_in u)) l) (sym (declared_by_nodes (names_in u) u top)) (all_said (names_in u) u top))
      (symbol_declared (bounds (events_in u)) symbol b found)

  name_of_bound : (symbol : SymbolId) (b : IsBound symbol) → (unit_names u p.at).name symbol.0 ≡ name_text (names_in u) b.bound.name
  name_of_bound symbol b = ap (λ o. of_item [] (λ (x : Bound). name_text (names_in u) x.name) o) b.found

  same_bound : (s t : SymbolId) → IsBound s → IsBound t → (unit_names u p.at).name s.0 ≡ (unit_names u p.at).name t.0 → s.0 ≡ t.0
  same_bound s t one other same =
      let table = names_in u in
      let first = bound_said s.0 one.bound one.found in
      let second = bound_said t.0 other.bound other.found in
      let texts_same : name_text table (numbered table first.texts) ≡ name_text table (numbered table second.texts) =
      ap (name_text table) (sym first.is) ∙ sym (name_of_bound s one) ∙ same ∙ name_of_bound t other ∙ ap (name_text table) second.is in
      let names_same : one.bound.name ≡ other.bound.name =
      first.is ∙ same_number table first.texts second.texts texts_same ∙ sym second.is in
      let symbols_same : Some s.0 ≡ Some t.0 =
      sym one.is ∙ ap (λ (n : ℕ). binding (symbols_in u) p.at.scope.0 n) names_same ∙ other.is in
      cc

  -- No two symbols that the parameters use or declare have one name.
  pub told_apart : AreKnown (all_bounds (names_in u) p.at p.items p.rest) → AreToldApart (unit_names u p.at) (params_in f)
  told_apart known = record {
    told = λ s t one other same. same_bound s t (mentioned_bound known s one) (mentioned_bound known t other) same;
  }
