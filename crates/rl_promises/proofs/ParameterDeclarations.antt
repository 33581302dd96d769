-- The parameters of a function that are names, among all names that its parameters declare: each has a symbol and a name of its own.
use Rattle.std.proofs.Common.{◌≡◌, ◌≢◌, ℕ, zero, Bool, true, false, ◌&&◌, if◌then◌else◌, eq-eqb, true≢false, inl, inr, Option, Some, None, is_some, unwrap_or, List, [], ◌∷◌, ◌++◌, slice_get, append_assoc, refl, sym, ap, subst, ◌∙◌}
use Rattle.std.proofs.lemmas.Bool.{or_parts}
use Rattle.std.proofs.lemmas.List.Elements.{All-from_recursion}
use Rattle.std.proofs.lemmas.Slice.Eq.{bytes_eq-Decides}
use Rattle.std.specs.List.{AllByRecursion, list_any}
use Rattle.std.specs.Option.{option_map}
use Rattle.std.specs.Str.{bytes_eq}
use Rattle.rl_base.specs.declared.span.Span.{Span}
use Rattle.rl_bindings.proofs.LookUps.{by_test}
use Rattle.rl_bindings.specs.Events.{bound_of}
use Rattle.rl_bindings.specs.NameRules.{clashes, is_param, is_repeat}
use Rattle.rl_bindings.specs.Names.{number_of, numbered, texts, texts_of}
use Rattle.rl_bindings.specs.Symbols.{is_own, same}
use Rattle.rl_bindings.specs.declared.event.BindKind.{BindKind}
use Rattle.rl_bindings.specs.declared.event.BindKind.TheVariants as kind
use Rattle.rl_bindings.specs.declared.event.Bound.{Bound}
use Rattle.rl_bindings.specs.declared.names.Name.{Name}
use Rattle.rl_bindings.specs.declared.role.Above.{Above}
use Rattle.rl_names.proofs.Declarations.{declares, declares_among}
use Rattle.rl_names.proofs.Items.{Has, each_has, each_right, each_weaker, has_left, has_right}
use Rattle.rl_names.proofs.NameTexts.{IsKnown, numbered_text}
use Rattle.rl_names.proofs.ParameterNames.{IsParam, IsTold, clashes_last}
use Rattle.rl_names.proofs.PlainParameters.{param_above}
use Rattle.rl_names.proofs.SymbolNumbers.{HasSymbol}
use Rattle.rl_names.specs.Locals.{AreApart, AreDeclared, IsApart}
use Rattle.rl_names.specs.Names.{Names, parameter_of, parameters_among}
use Rattle.rl_names.specs.declared.parameters.Parameter.{Parameter}
use Rattle.rl_promises.proofs.CalmTrees.{AreCalm, calm_among}
use Rattle.rl_promises.proofs.PlainNames.{IsOfContext}
use Rattle.rl_resolver.specs.Kinds.{has_identifier}
use Rattle.rl_resolver.specs.Lookups.{declaration_ident, identified, name_text, symbol_name}
use Rattle.rl_semantic.specs.Items.{of_item}
use Rattle.rl_syntax.specs.Syntax.{Node, Said, Pieces, End, Then}
use Rattle.rl_syntax.specs.declared.numbered.At.{At}
use Rattle.rl_syntax.specs.declared.word.Word.TheVariants as word

-- The names that parameters in a row declare, in the function with these ids.
abbrev pub row_bounds : List Name → At → Pieces → List Bound
row_bounds table at ps = declares_among table zero (param_above at) (param_above at) ps

-- Those of the parameters and of the rest.
abbrev pub all_bounds : List Name → At → (items rest : Pieces) → List Bound
all_bounds table at items rest = row_bounds table at items ++ row_bounds table at rest

-- Above the parts that stand behind others, what stands above the others does not matter.
pub same_ahead : (table : List Name) (a b within : Above) (ps : Pieces)
    → declares_among table zero a within ps ≡ declares_among table zero b within ps
same_ahead table a b within End = refl
same_ahead table a b within (Then p ps) = ap (λ bs. declares table within p ++ bs) (same_ahead table a b within ps)

-- A declaration clashes with none before all of them.

none_passes : (test : Bound → Bool) (bs : List Bound) (b : Bound) → list_any test bs ≡ false → Has bs b → test b ≡ false
none_passes test [] b none has = absurd has
none_passes test (c ∷ bs) b none (inl is) = ap test is ∙ (or_parts (test c) (list_any test bs) none).0
none_passes test (c ∷ bs) b none (inr more) = none_passes test bs b (or_parts (test c) (list_any test bs) none).1 more

no_clash : (clash : Bound → Bound → Bool) (before bs : List Bound) (b c : Bound) → clashes clash before bs ≡ false → Has before b → Has bs c
    → clash c b ≡ false
no_clash clash before [] b c none early late = absurd late
no_clash clash before (d ∷ bs) b c none early (inl is) =
    ap (λ x. clash x b) is
    ∙ none_passes (clash d) before b ((or_parts (list_any (clash d) before) (clashes clash (before ++ d ∷ []) bs) none).0) early
no_clash clash before (d ∷ bs) b c none early (inr more) =
    no_clash clash (before ++ d ∷ []) bs b c
    ((or_parts (list_any (clash d) before) (clashes clash (before ++ d ∷ []) bs) none).1) (has_left before (d ∷ []) b early) more

repeated : (b c : Bound) → b.kind ≡ kind.Param → c.kind ≡ kind.Param → b.scope.0 ≡ c.scope.0 → b.name ≡ c.name → is_repeat c b ≡ true
repeated b c one other scopes names =
    λ i. is_param (other i)
    && ((same false (is_own (one i)) && (eq-eqb b.scope.0 c.scope.0 scopes i && eq-eqb b.name c.name names i)) && is_param (one i))

-- The names of a unit: by its table of names and its symbols.
module _ (table : List Name) (symbols : List Bound) (names : Names) (at : At) where
  -- Each declaration of parameters in a row is one of a parameter.
  pub row_params : (ps : Pieces) → AreCalm ps → (b : Bound) → Has (row_bounds table at ps) b → IsParam table symbols names at b
  row_params ps calm b has =
      let all = calm_among table ps (param_above at) (param_above at) calm in
      let of = each_has (IsOfContext (param_above at)) (row_bounds table at ps) b all has in record { kind_is = of.0; scope_is = of.1 }

  abbrev pub AreTold : List Bound → Type 0
  AreTold bs = (b : Bound) → Has bs b → IsTold table symbols names at b

  -- The parameter of a `bind` node that says a name.
  abbrev parameter : At → (name : List ℕ) → (number : ℕ) → Parameter
  parameter bind name number = record { symbol = record { 0 = number }; name = name; declaration = bind.span }

  one_parameter : (pat bind : At) (name : List ℕ) (type default : Pieces) (number : ℕ)
      → names.declared bind.id.0 ≡ Some (record { 0 = number })
      → parameter_of names (Node pat word.Param (Then (Node bind word.Bind (Then (Said name) type)) default))
      ≡ parameter bind name number ∷ []
  one_parameter pat bind name type default number declared =
      ap (λ s. of_item [] (λ symbol. record { symbol = symbol; name = name; declaration = bind.span } ∷ []) s) declared

  -- Each `bind` node that is a parameter declares a symbol.
  pub all_declared : (ps : Pieces) → AreTold (row_bounds table at ps) → AreDeclared names ps
  all_declared End told = tt
  all_declared (Then (Node pat word.Param (Then (Node bind word.Bind parts) default)) ps) told =
      let t = told (bound_of table (param_above at) bind parts) (inl refl) in
      let p = Node pat word.Param (Then (Node bind word.Bind parts) default) in (
        ap is_some t.declared,
        all_declared ps (λ b has. told b (has_right (declares table (param_above at) p) (row_bounds table at ps) b has)),
      )
  all_declared (Then p ps) told =
      (tt, all_declared ps (λ b has. told b (has_right (declares table (param_above at) p) (row_bounds table at ps) b has)))

  -- The parameter has the symbol and the name of one of the declarations.
  record IsOf (bs : List Bound) (p : Parameter) : Type 0 where
    bound : Bound
    has : Has bs bound
    symbol : HasSymbol symbols bound
    number : p.symbol.0 ≡ symbol.number
    name_is : bound.name ≡ numbered table (p.name ∷ [])
    span_is : p.declaration ≡ bound.span
    known : IsKnown table p.name

  of_more : (bs cs : List Bound) → ((b : Bound) → Has bs b → Has cs b) → (p : Parameter) → IsOf bs p → IsOf cs p
  of_more bs cs more p i = record {
    bound = i.bound;
    has = more i.bound i.has;
    symbol = i.symbol;
    number = i.number;
    name_is = i.name_is;
    span_is = i.span_is;
    known = i.known;
  }

  each_of : (ps : Pieces) → AreTold (row_bounds table at ps) → AllByRecursion (IsKnown table) (texts_of ps)
      → AllByRecursion (IsOf (row_bounds table at ps)) (parameters_among names ps)
  each_of End told known = tt
  each_of (Then (Node pat word.Param (Then (Node bind word.Bind (Then (Said name) type)) default)) ps) told known =
      let p = Node pat word.Param (Then (Node bind word.Bind (Then (Said name) type)) default) in
      let own = declares table (param_above at) p in
      let bs = row_bounds table at ps in
      let b = bound_of table (param_above at) bind (Then (Said name) type) in
      let t = told b (inl refl) in
      subst (λ l. AllByRecursion (IsOf (own ++ bs)) (l ++ parameters_among names ps))
      (sym (one_parameter pat bind name type default t.symbol.number t.declared)) (
        record { bound = b; has = inl refl; symbol = t.symbol; number = refl; name_is = refl; span_is = refl; known = known.0 },
        each_weaker (IsOf bs) (IsOf (own ++ bs)) (parameters_among names ps) (of_more bs (own ++ bs) (λ c has. has_right own bs c has))
            (each_of ps (λ c has. told c (has_right own bs c has)) (each_right (IsKnown table) (texts p) (texts_of ps) known)),
      )
  each_of (Then p ps) told known =
      let own = declares table (param_above at) p in
      let bs = row_bounds table at ps in
      each_weaker (IsOf bs) (IsOf (own ++ bs)) (parameters_among names ps) (of_more bs (own ++ bs) (λ c has. has_right own bs c has))
      (each_of ps (λ c has. told c (has_right own bs c has)) (each_right (IsKnown table) (texts p) (texts_of ps) known))

  -- The number of a known name has its text.
  text_of_number : (name : List ℕ) → IsKnown table name → name_text table (numbered table (name ∷ [])) ≡ name
  text_of_number name known = told_by (number_of table name) refl known
    where
      told_by : (o : Option ℕ) → number_of table name ≡ o → is_some o ≡ true → name_text table (unwrap_or o 0) ≡ name
      told_by None is some = absurd (true≢false (sym some))
      told_by (Some n) is some = numbered_text table name n is

  name_of_symbol : (bs : List Bound) (p : Parameter) → IsOf bs p → symbol_name table symbols p.symbol.0 ≡ p.name
  name_of_symbol bs p i =
      ap (λ n. symbol_name table symbols n) i.number
      ∙ ap (λ o. of_item [] (λ b. name_text table b.name) o) i.symbol.there
      ∙ ap (name_text table) (i.symbol.same_name ∙ i.name_is)
      ∙ text_of_number p.name i.known

  -- Each parameter has the name of its symbol.
  pub row_named : (ps : Pieces) → ((s : ℕ) → names.name s ≡ symbol_name table symbols s) → AreTold (row_bounds table at ps)
      → AllByRecursion (IsKnown table) (texts_of ps)
      → AllByRecursion (λ p. names.name p.symbol.0 ≡ p.name) (parameters_among names ps)
  row_named ps is told known =
      each_weaker (IsOf (row_bounds table at ps)) (λ p. names.name p.symbol.0 ≡ p.name) (parameters_among names ps)
      (λ p i. is p.symbol.0 ∙ name_of_symbol (row_bounds table at ps) p i) (each_of ps told known)

  same_first : (b c : Bound) (s : HasSymbol symbols b) (t : HasSymbol symbols c) → s.number ≡ t.number → b.name ≡ c.name
  same_first b c s t same =
      let firsts : Some s.first ≡ Some t.first = sym s.there ∙ ap (slice_get symbols) same ∙ t.there in
      let first : s.first ≡ t.first = cc in sym s.same_name ∙ ap (λ x. x.name) first ∙ t.same_name

  two_apart : (bs cs : List Bound) (p q : Parameter) (i : IsOf bs p) (j : IsOf cs q) → i.bound.name ≢ j.bound.name → IsApart p q
  two_apart bs cs p q i j other = record {
    symbols = λ same. other (same_first i.bound j.bound i.symbol j.symbol (sym i.number ∙ same ∙ j.number));
    names = by_test (bytes_eq p.name q.name)
        (λ same. absurd (other (i.name_is ∙ ap (λ n. numbered table (n ∷ [])) ((bytes_eq-Decides p.name q.name).0 same) ∙ sym j.name_is)))
        (λ is. is);
  }

  abbrev pub AreParam : List Bound → Type 0
  AreParam bs = (b : Bound) → Has bs b → IsParam table symbols names at b

  -- A declaration of a parameter's name does not stand behind another.
  never_again : (b c : Bound) (before bs after : List Bound) → IsParam table symbols names at b → IsParam table symbols names at c
      → clashes is_repeat (before ++ b ∷ []) (bs ++ after) ≡ false → Has bs c → b.name ≡ c.name → ⊥
  never_again b c before bs after one other none has same =
      true≢false (sym (repeated b c one.kind_is other.kind_is (ap (λ s. s.0) (one.scope_is ∙ sym other.scope_is)) same)
      ∙ no_clash is_repeat (before ++ b ∷ []) (bs ++ after) b c none (has_right before (b ∷ []) b (inl refl)) (has_left bs after c has))

  -- Two declarations of one name are one.
  only_one : (bs before after : List Bound) → AreParam bs → clashes is_repeat before (bs ++ after) ≡ false → (b c : Bound) → Has bs b
      → Has bs c → b.name ≡ c.name → b ≡ c
  only_one [] before after form none b c one two same = absurd one
  only_one (d ∷ bs) before after form none b c (inl first) (inl second) same = first ∙ sym second
  only_one (d ∷ bs) before after form none b c (inl first) (inr late) one_name =
      absurd (never_again d c before bs after (form d (inl refl)) (form c (inr late))
      (or_parts (list_any (is_repeat d) before) (clashes is_repeat (before ++ d ∷ []) (bs ++ after)) none).1 late
      (ap (λ x. x.name) (sym first) ∙ one_name))
  only_one (d ∷ bs) before after form none b c (inr late) (inl second) one_name =
      absurd (never_again d b before bs after (form d (inl refl)) (form b (inr late))
      (or_parts (list_any (is_repeat d) before) (clashes is_repeat (before ++ d ∷ []) (bs ++ after)) none).1 late
      (ap (λ x. x.name) (sym second) ∙ sym one_name))
  only_one (d ∷ bs) before after form none b c (inr one) (inr two) same =
      only_one bs (before ++ d ∷ []) after (λ e has. form e (inr has))
      (or_parts (list_any (is_repeat d) before) (clashes is_repeat (before ++ d ∷ []) (bs ++ after)) none).1 b c one two same

  -- Without two parameters of one name, any two have two symbols and two names.
  pub row_apart : (ps : Pieces) (before after : List Bound) → AreParam (row_bounds table at ps) → AreTold (row_bounds table at ps)
      → AllByRecursion (IsKnown table) (texts_of ps) → clashes is_repeat before (row_bounds table at ps ++ after) ≡ false
      → AreApart (parameters_among names ps)
  row_apart End before after form told known none = tt
  row_apart (Then (Node pat word.Param (Then (Node bind word.Bind (Then (Said name) type)) default)) ps) before after form told known none =
      let param = Node pat word.Param (Then (Node bind word.Bind (Then (Said name) type)) default) in
      let own = declares table (param_above at) param in
      let b = bound_of table (param_above at) bind (Then (Said name) type) in
      let bs = row_bounds table at ps in
      let t = told b (inl refl) in
      let p = parameter bind name t.symbol.number in
      let i : IsOf (own ++ bs) p =
      record { bound = b; has = inl refl; symbol = t.symbol; number = refl; name_is = refl; span_is = refl; known = known.0 } in
      let rest = parameters_among names ps in
      let told_rest : AreTold bs = λ c has. told c (has_right own bs c has) in
      let form_rest : AreParam bs = λ c has. form c (has_right own bs c has) in
      let known_rest = each_right (IsKnown table) (texts param) (texts_of ps) known in
      let all : clashes is_repeat before (own ++ (bs ++ after)) ≡ false =
      subst (λ l. clashes is_repeat before l ≡ false) (append_assoc own bs after) none in
      let none_rest = clashes_last is_repeat before own (bs ++ after) all in
      subst (λ l. AreApart (l ++ rest)) (sym (one_parameter pat bind name type default t.symbol.number t.declared)) (
        All-from_recursion (IsApart p) rest (each_weaker (IsOf bs) (IsApart p) rest
            (λ q j. two_apart (own ++ bs) bs p q i j (λ same.
            absurd (true≢false (sym (repeated b j.bound (form b (inl refl)).kind_is (form_rest j.bound j.has).kind_is
            (ap (λ s. s.0) ((form b (inl refl)).scope_is ∙ sym (form_rest j.bound j.has).scope_is)) same)
            ∙ no_clash is_repeat (before ++ own) (bs ++ after) b j.bound none_rest (has_right before own b (inl refl))
            (has_left bs after j.bound j.has)))))
            (each_of ps told_rest known_rest)),
        row_apart ps (before ++ own) after form_rest told_rest known_rest none_rest,
      )
  row_apart (Then p ps) before after form told known none =
      let own = declares table (param_above at) p in
      let bs = row_bounds table at ps in
      let all : clashes is_repeat before (own ++ (bs ++ after)) ≡ false =
      subst (λ l. clashes is_repeat before l ≡ false) (append_assoc own bs after) none in
      row_apart ps (before ++ own) after (λ c has. form c (has_right own bs c has)) (λ c has. told c (has_right own bs c has))
      (each_right (IsKnown table) (texts p) (texts_of ps) known) (clashes_last is_repeat before own (bs ++ after) all)

  -- The span of a symbol's declaration identifier.
  abbrev declared_span : (symbol : ℕ) → Option Span
  declared_span symbol = option_map (λ b. b.span) (declaration_ident symbols symbol)

  -- The first declarations of symbols that the declarations have are among them.
  abbrev pub HasFirsts : List Bound → Type 0
  HasFirsts bs = (b : Bound) → Has bs b → (s : HasSymbol symbols b) → Has bs s.first

  own_first : (bs before after : List Bound) → AreParam bs → clashes is_repeat before (bs ++ after) ≡ false → HasFirsts bs
      → (p : Parameter) → IsOf bs p → declared_span p.symbol.0 ≡ Some p.declaration
  own_first bs before after form none firsts p i =
      let first : i.symbol.first ≡ i.bound =
      only_one bs before after form none i.symbol.first i.bound (firsts i.bound i.has i.symbol) i.has i.symbol.same_name in
      ap declared_span i.number
      ∙ ap (λ (o : Option Bound). option_map (λ b. b.span) (of_item None identified o)) i.symbol.there
      ∙ ap (λ (x : Bound). option_map (λ b. b.span) (identified x)) first
      ∙ ap (λ (k : BindKind). option_map (λ b. b.span) (if has_identifier k then Some i.bound else None)) (form i.bound i.has).kind_is
      ∙ ap (λ (s : Span). Some s) (sym i.span_is)

  -- Without two parameters of one name, the declaration identifier of each parameter's symbol is the parameter's. The parameters are
  -- among the declarations `bs`.
  pub row_spanned : (ps : Pieces) (bs before after : List Bound)
      → ((s : ℕ) → names.declaration s ≡ option_map (λ b. b.span) (declaration_ident symbols s))
      → ((b : Bound) → Has (row_bounds table at ps) b → Has bs b) → AreParam bs → AreTold (row_bounds table at ps)
      → AllByRecursion (IsKnown table) (texts_of ps) → clashes is_repeat before (bs ++ after) ≡ false → HasFirsts bs
      → AllByRecursion (λ p. names.declaration p.symbol.0 ≡ Some p.declaration) (parameters_among names ps)
  row_spanned ps bs before after is among form told known none firsts =
      each_weaker (IsOf (row_bounds table at ps)) (λ p. names.declaration p.symbol.0 ≡ Some p.declaration) (parameters_among names ps)
      (λ p i. is p.symbol.0 ∙ own_first bs before after form none firsts p (of_more (row_bounds table at ps) bs among p i))
      (each_of ps told known)

  -- The declaration identifier of the parameter's symbol is one of the declarations, at the parameter's name.
  pub record IsFirst (bs : List Bound) (p : Parameter) : Type 0 where
    pub bound : Bound
    pub has : Has bs bound
    pub is : declaration_ident symbols p.symbol.0 ≡ Some bound
    pub span_is : p.declaration ≡ bound.span

  -- As `row_spanned`, with the declaration itself.
  pub row_first : (ps : Pieces) (bs before after : List Bound) → ((b : Bound) → Has (row_bounds table at ps) b → Has bs b) → AreParam bs
      → AreTold (row_bounds table at ps) → AllByRecursion (IsKnown table) (texts_of ps)
      → clashes is_repeat before (bs ++ after) ≡ false → HasFirsts bs
      → AllByRecursion (IsFirst (row_bounds table at ps)) (parameters_among names ps)
  row_first ps bs before after among form told known none firsts =
      each_weaker (IsOf (row_bounds table at ps)) (IsFirst (row_bounds table at ps)) (parameters_among names ps) first_of
      (each_of ps told known)
    where
      first_of : (p : Parameter) → IsOf (row_bounds table at ps) p → IsFirst (row_bounds table at ps) p
      first_of p i =
          let has : Has bs i.bound = among i.bound i.has in
          let first : i.symbol.first ≡ i.bound =
          only_one bs before after form none i.symbol.first i.bound (firsts i.bound has i.symbol) has i.symbol.same_name in
          record {
            bound = i.bound;
            has = i.has;
            is = ap (declaration_ident symbols) i.number
                ∙ ap (λ (o : Option Bound). of_item None identified o) i.symbol.there
                ∙ ap identified first
                ∙ ap (λ (k : BindKind). if has_identifier k then Some i.bound else None) (form i.bound has).kind_is;
            span_is = i.span_is;
          }
