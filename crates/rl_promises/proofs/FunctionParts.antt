-- The parts of a covered function: its own name, its parameters and its body, and what these declare.
use Rattle.std.proofs.Common.{◌≡◌, ℕ, Bool, true, false, Option, Some, List, [], ◌∷◌, ◌++◌, append-nil, refl, sym, ap, subst, ◌∙◌, arith}
use Rattle.std.specs.List.{AllByRecursion}
use Rattle.rl_ast.specs.FunctionTrees.{is_function}
use Rattle.rl_base.specs.declared.ids.NodeId.{NodeId}
use Rattle.rl_base.specs.declared.ids.ScopeId.{ScopeId}
use Rattle.rl_bindings.specs.NameRules.{is_type}
use Rattle.rl_bindings.specs.Names.{texts, texts_of}
use Rattle.rl_bindings.specs.Roles.{outside}
use Rattle.rl_bindings.specs.Standing.{references, standing}
use Rattle.rl_bindings.specs.Symbols.{is_own}
use Rattle.rl_bindings.specs.declared.event.BindKind.{BindKind}
use Rattle.rl_bindings.specs.declared.event.BindKind.TheVariants as binds
use Rattle.rl_bindings.specs.declared.event.Bound.{Bound}
use Rattle.rl_bindings.specs.declared.event.Place.{Place}
use Rattle.rl_bindings.specs.declared.event.Place.TheVariants as place
use Rattle.rl_bindings.specs.declared.names.Name.{Name}
use Rattle.rl_bindings.specs.declared.role.Above.{Above}
use Rattle.rl_grammar.specs.Grammar.{fits, each}
use Rattle.rl_grammar.specs.declared.kind.Field.{Field}
use Rattle.rl_grammar.specs.declared.kind.Field.TheVariants as field
use Rattle.rl_grammar.specs.declared.kind.Kind.TheVariants as kind
use Rattle.rl_grammar.proofs.Viewing.{arity_four, arity_six, arity_two, four_fit, six_fit, two_fit}
use Rattle.rl_names.proofs.Declarations.{declares}
use Rattle.rl_names.proofs.FunctionScopes.{IsOther, Splits, splits_itself}
use Rattle.rl_names.proofs.Items.{each-append, each_left, each_right, each_weaker, has_left, has_right}
use Rattle.rl_names.proofs.NameTexts.{IsKnown}
use Rattle.rl_names.proofs.PlainParameters.{inner, param_above}
use Rattle.rl_names.specs.Functions.{body_in, params_in}
use Rattle.rl_names.specs.Names.{Names}
use Rattle.rl_promises.specs.Covered.{AreCovered, IsCovered, IsCoveredFunction}
use Rattle.rl_promises.specs.Locals.{DeclaresIn}
use Rattle.rl_promises.proofs.CalmTrees.{AreCalm, IsCalm, covered_calm}
use Rattle.rl_promises.proofs.CoveredForms.{none_fits, two_form}
use Rattle.rl_promises.proofs.CoveredNames.{covered_variables, inner_field, never}
use Rattle.rl_promises.proofs.FirstDeclarations.{IsOwnIn, Leads, leads_after, leads_before, leads_of}
use Rattle.rl_promises.proofs.ParameterDeclarations.{all_bounds, row_bounds, same_ahead}
use Rattle.rl_promises.proofs.PlainNames.{IsOfContext, name_declares}
use Rattle.rl_promises.proofs.ReferenceRanges.{references-append}
use Rattle.rl_promises.proofs.ReferencesAround.{UsesParams, counted_uses}
use Rattle.rl_promises.proofs.VariableTrees.{DeclareVariables, HasInner, HasVariables, HaveVariables, IsValue, declares_in, only_values, variables_inner_among}
use Rattle.rl_syntax.specs.Nodes.{entries_among}
use Rattle.rl_syntax.specs.Shapes.{is_four, is_six}
use Rattle.rl_syntax.specs.Syntax as syntax
use Rattle.rl_syntax.specs.Syntax.{Syntax, Node, Listed, Flag, Pieces, End, Then, behind, next_byte, IsPlaced}
use Rattle.rl_syntax.specs.Words.{makes_scope}
use Rattle.rl_syntax.specs.declared.numbered.At.{At}
use Rattle.rl_syntax.specs.declared.numbered.Position.{Position}
use Rattle.rl_syntax.specs.declared.word.Word.{Word}
use Rattle.rl_syntax.specs.declared.word.Word.TheVariants as word

-- A function by its parts. Its scope holds its own name, if it is an expression, before its parameters; none of its declarations is of a
-- type.
pub record FunctionParts (f : Syntax) : Type 0 where
  pub at : At
  pub w : Word
  pub parts : Pieces
  pub is : f ≡ Node at w parts
  pub maker : makes_scope w ≡ true
  pub scopes : (parent : Option NodeId) → AllByRecursion (HasInner parts) (entries_among parent parts)
  pub pat : At
  pub items : Pieces
  pub rest : Pieces
  pub params : params_in f ≡ Node pat word.Params (Then (Listed items) rest)
  pub calm : AreCalm items
  pub calm_rest : AreCalm rest
  pub said : (names : List Name) → AllByRecursion (IsKnown names) (texts f) → AllByRecursion (IsKnown names) (texts_of items)
  pub leads : (names : List Name) (a : Above) → IsOther at.scope.0 a
      → Leads at.scope.0 (declares names a f) (all_bounds names at items rest)
  pub values : (names : List Name) (a : Above) → AllByRecursion IsValue (declares names a f)
  pub declared : (names : Names) (table : List Name) (a : Above) → DeclareVariables names (declares table a f)
      → DeclaresIn names (params_in f) × DeclaresIn names (body_in f)
  pub before : ℕ
  pub uses : (names : List Name) (symbols : List Bound) (a : Above) (ss : List ScopeId) (from : Position) → IsPlaced from f
      → UsesParams names symbols a ss from f at (params_in f) before

-- The declarations of a function: those of its own name, of its parameters and of its body.

joined_leads : (k : ℕ) (name params body some : List Bound) → AllByRecursion (IsOwnIn k) name → Splits k params some
    → Leads k (name ++ (params ++ (body ++ []))) some
joined_leads k name params body some own splits =
    leads_before k name (params ++ (body ++ [])) some own (leads_after k (body ++ []) params some (leads_of k params some splits))

joined_values : (name params body : List Bound) → AllByRecursion IsValue name → AllByRecursion IsValue params → AllByRecursion IsValue body
    → AllByRecursion IsValue (name ++ (params ++ (body ++ [])))
joined_values name params body first second third =
    each-append IsValue name (params ++ (body ++ [])) first
    (each-append IsValue params (body ++ []) second (each-append IsValue body [] third tt))

joined_params : (names : Names) (name params body : List Bound) → DeclareVariables names (name ++ (params ++ (body ++ [])))
    → DeclareVariables names params
joined_params names name params body each b has = each b (has_right name (params ++ (body ++ [])) b (has_left params (body ++ []) b has))

joined_body : (names : Names) (name params body : List Bound) → DeclareVariables names (name ++ (params ++ (body ++ [])))
    → DeclareVariables names body
joined_body names name params body each b has =
    each b (has_right name (params ++ (body ++ [])) b (has_right params (body ++ []) b (has_left body [] b has)))

-- The parts of a `params` node: the parameters, and the rest.
record Parameters (at : At) (t : Syntax) : Type 0 where
  pat : At
  items : Pieces
  rest : Pieces
  is : t ≡ Node pat word.Params (Then (Listed items) rest)
  calm : AreCalm items
  calm_rest : AreCalm rest
  said : (names : List Name) → AllByRecursion (IsKnown names) (texts t) → AllByRecursion (IsKnown names) (texts_of items)
  bounds : (names : List Name) (declares_as : BindKind) (stands_in : Place)
      → declares names (inner at declares_as stands_in) t ≡ all_bounds names at items rest

formed_params : (at pat : At) (items : Pieces) (rest : Syntax) → AreCalm items → IsCalm rest
    → Parameters at (Node pat word.Params (Then (Listed items) (Then rest End)))
formed_params at pat items rest calm calm_rest = record {
  pat = pat;
  items = items;
  rest = Then rest End;
  is = refl;
  calm = calm;
  calm_rest = (calm_rest, tt);
  said = λ names all. each_left (IsKnown names) (texts_of items) (texts_of (Then rest End)) all;
  bounds = λ names declares_as stands_in.
      ap (λ bs. row_bounds names at items ++ bs)
      (same_ahead names (outside (inner at declares_as stands_in) word.Params) (param_above at) (param_above at) (Then rest End));
}

listed_form : (t : Syntax) → fits (field.Many kind.FormalParameter) t ≡ true → (items : Pieces) × (t ≡ Listed items)
listed_form (Listed items) h = (items, refl)
listed_form _ h = absurd (cc)

params_parts : (at : At) (t : Syntax) → fits (field.One kind.FormalParameters) t ≡ true → IsCovered t → Parameters at t
params_parts at (Node pat word.Params ps) h covered =
    let many = field.Many kind.FormalParameter in
    let maybe = field.Maybe kind.BindingRestElement in
    let form = two_form ps (arity_two many maybe ps h) in
    let both = two_fit ps form.0 form.1 form.2 many maybe h in
    let parts : AreCovered (Then form.0 (Then form.1 End)) = subst AreCovered form.2 covered.1 in
    let listed = listed_form form.0 both.0 in
    let calm =
    covered_calm many (Listed listed.0) refl (subst (λ t. fits many t ≡ true) listed.1 both.0) (subst IsCovered listed.1 parts.0) in
    subst (λ qs. Parameters at (Node pat word.Params qs)) (sym (form.2 ∙ ap (λ (l : Syntax). Then l (Then form.1 End)) listed.1))
    (formed_params at pat listed.0 form.1 calm (covered_calm maybe form.1 refl both.1 parts.1.0))
params_parts at (Node pat _ ps) h covered = absurd (none_fits ps h)
params_parts at _ h covered = absurd (cc)

-- A part that declares variables alone, wherever it stands.
record IsFree (t : Syntax) : Type 0 where
  apart : HasVariables false t
  named : HasVariables true t

free : (f : Field) (t : Syntax) → inner_field false f ≡ true → inner_field true f ≡ true → fits f t ≡ true → IsCovered t → IsFree t
free f t one other h covered = record {
  apart = covered_variables false f t one h covered;
  named = covered_variables true f t other h covered;
}

-- A function of one of the forms: with a name of its own or none, with parameters and with a body.
record IsFormed (f : Syntax) (at : At) (params body : Syntax) : Type 0 where
  w : Word
  parts : Pieces
  is : f ≡ Node at w parts
  maker : makes_scope w ≡ true
  variables : HaveVariables true parts
  params_are : params_in f ≡ params
  body_is : body_in f ≡ body
  said : (names : List Name) → AllByRecursion (IsKnown names) (texts f) → AllByRecursion (IsKnown names) (texts params)
  -- The kind that stands above its parts, and the declaration of its name.
  above : Above → BindKind
  own_name : List Name → Above → List Bound
  own : (names : List Name) (a : Above) → IsOther at.scope.0 a → AllByRecursion (IsOwnIn at.scope.0) (own_name names a)
  value : (names : List Name) (a : Above) → AllByRecursion IsValue (own_name names a)
  bounds : (names : List Name) (a : Above) → declares names a f ≡ own_name names a
      ++ (declares names (inner at (above a) place.Inner) params ++ (declares names (inner at (above a) place.Inner) body ++ []))
  before : ℕ
  uses : (names : List Name) (symbols : List Bound) (a : Above) (ss : List ScopeId) (from : Position) → IsPlaced from f
      → UsesParams names symbols a ss from f at params before

formed_parts : (f : Syntax) (at : At) (params body : Syntax) → IsFormed f at params body → Parameters at params → IsFree params
    → IsFree body
    → FunctionParts f
formed_parts f at params body m p v b = record {
  at = at;
  w = m.w;
  parts = m.parts;
  is = m.is;
  maker = m.maker;
  scopes = λ parent. variables_inner_among true parent m.parts m.variables;
  pat = p.pat;
  items = p.items;
  rest = p.rest;
  params = m.params_are ∙ p.is;
  calm = p.calm;
  calm_rest = p.calm_rest;
  said = λ names all. p.said names (m.said names all);
  leads = λ names a other.
      let over = inner at (m.above a) place.Inner in
      let some = all_bounds names at p.items p.rest in
      subst (λ bs. Leads at.scope.0 bs some) (sym (m.bounds names a))
      (joined_leads at.scope.0 (m.own_name names a) (declares names over params) (declares names over body) some (m.own names a other)
      (subst (λ bs. Splits at.scope.0 (declares names over params) bs) (p.bounds names (m.above a) place.Inner)
      (splits_itself at.scope.0 (declares names over params))));
  values = λ names a.
      let over = inner at (m.above a) place.Inner in
      subst (λ bs. AllByRecursion IsValue bs) (sym (m.bounds names a))
      (joined_values (m.own_name names a) (declares names over params) (declares names over body) (m.value names a)
      (only_values names false params over (λ is. never is) v.apart) (only_values names false body over (λ is. never is) b.apart));
  declared = λ names table a each.
      let over = inner at (m.above a) place.Inner in
      let own = m.own_name table a in
      let all = subst (λ bs. DeclareVariables names bs) (m.bounds table a) each in (
        subst (λ t. DeclaresIn names t) (sym m.params_are)
            (declares_in names table params over (joined_params names own (declares table over params) (declares table over body) all)),
        subst (λ t. DeclaresIn names t) (sym m.body_is)
            (declares_in names table body over (joined_body names own (declares table over params) (declares table over body) all)),
      );
  before = m.before;
  uses = λ names symbols a ss from placed.
      subst (λ t. UsesParams names symbols a ss from f at t m.before) (sym m.params_are) (m.uses names symbols a ss from placed);
}

-- The fields of functions.

abbrev flag : Field
flag = field.One kind.Flag

abbrev name_field : Field
name_field = field.Maybe kind.BindingIdentifier

abbrev all_params : Field
all_params = field.One kind.FormalParameters

-- The parts of an arrow function.
abbrev arrow_pieces : (marked is_async : Bool) (params body : Syntax) → Pieces
arrow_pieces marked is_async params body = Then (Flag marked) (Then (Flag is_async) (Then params (Then body End)))

arrow_formed : (at : At) (marked is_async : Bool) (params body : Syntax) → IsFree params → IsFree body
    → IsFormed (Node at word.Arrow (arrow_pieces marked is_async params body)) at params body
arrow_formed at marked is_async params body v b = record {
  w = word.Arrow;
  parts = arrow_pieces marked is_async params body;
  is = refl;
  maker = refl;
  variables = (tt, (tt, (v.named, (b.named, tt))));
  params_are = refl;
  body_is = refl;
  said = λ names all. each_left (IsKnown names) (texts params) (texts_of (Then body End)) all;
  above = λ a. a.kind;
  own_name = λ names a. [];
  own = λ names a other. tt;
  value = λ names a. tt;
  bounds = λ names a. refl;
  before = 0;
  uses = λ names symbols a ss from placed.
      let over = inner at a.kind place.Inner in
      let more = standing names symbols over (at.scope ∷ ss) body ++ [] in record {
        over = over;
        position = next_byte (behind (next_byte (behind (next_byte (syntax.inside from word.Arrow)) (Flag marked))) (Flag is_async));
        ahead = [];
        after = references more;
        is = references-append (standing names symbols over (at.scope ∷ ss) params) more;
        placed = placed.1.1.1.0;
        starts = omega arith;
        long = refl;
      };
}

-- The texts of the parameters of a function with a name.
named_said : (names : List Name) (name params body : Syntax)
    → AllByRecursion (IsKnown names) (texts name ++ (texts params ++ texts_of (Then body End)))
    → AllByRecursion (IsKnown names) (texts params)
named_said names name params body all =
    let rest = texts_of (Then body End) in
    each_left (IsKnown names) (texts params) rest (each_right (IsKnown names) (texts name) (texts params ++ rest) all)

-- A function that may have a name.
module _ (at : At) (marked is_async generator : Bool) (name params body : Syntax) where
  abbrev named_pieces : Pieces
  named_pieces = Then (Flag marked) (Then (Flag is_async) (Then (Flag generator) (Then name (Then params (Then body End)))))

  -- The position of the name, behind the flags.
  abbrev name_position : Word → Position → Position
  name_position w from =
      next_byte (behind (next_byte (behind (next_byte (behind (next_byte (syntax.inside from w)) (Flag marked))) (Flag is_async)))
      (Flag generator))

  module _ (named : fits name_field name ≡ true) (n : HasVariables true name) (v : IsFree params) (b : IsFree body) where
    -- The name of a declaration binds around the function.
    declaration_formed : IsFormed (Node at word.Fundecl named_pieces) at params body
    declaration_formed = record {
      w = word.Fundecl;
      parts = named_pieces;
      is = refl;
      maker = refl;
      variables = (tt, (tt, (tt, (n, (v.named, (b.named, tt))))));
      params_are = refl;
      body_is = refl;
      said = λ names all. named_said names name params body all;
      above = λ a. a.kind;
      own_name = λ names a. declares names (outside a word.Fundecl) name;
      own = λ names a other.
          let out = outside a word.Fundecl in
          each_weaker (IsOfContext out) (IsOwnIn at.scope.0) (declares names out name)
          (λ d is same. absurd (other.scope (sym (ap (λ s. s.0) is.1) ∙ same))) (name_declares name named names out);
      value = λ names a.
          let out = outside a word.Fundecl in
          each_weaker (IsOfContext out) IsValue (declares names out name) (λ d is. ap is_type is.0) (name_declares name named names out);
      bounds = λ names a. refl;
      before = syntax.references name;
      uses = λ names symbols a ss from placed.
          let over = inner at a.kind place.Inner in
          let named = standing names symbols (outside a word.Fundecl) ss name in
          let taken = standing names symbols over (at.scope ∷ ss) params in
          let more = standing names symbols over (at.scope ∷ ss) body ++ [] in record {
            over = over;
            position = next_byte (behind (name_position word.Fundecl from) name);
            ahead = references named;
            after = references more;
            is =
                ap (λ l. references (l ++ (taken ++ more))) (append-nil named) ∙ references-append named (taken ++ more)
                ∙ ap (λ rs. references named ++ rs) (references-append taken more);
            placed = placed.1.1.1.1.1.0;
            starts = omega arith;
            long =
                counted_uses names symbols name (outside a word.Fundecl) ss (name_position word.Fundecl from) placed.1.1.1.1.0;
          };
    }

    -- The name of an expression is its own.
    expression_formed : IsFormed (Node at word.Funexpr named_pieces) at params body
    expression_formed = record {
      w = word.Funexpr;
      parts = named_pieces;
      is = refl;
      maker = refl;
      variables = (tt, (tt, (tt, (n, (v.named, (b.named, tt))))));
      params_are = refl;
      body_is = refl;
      said = λ names all. named_said names name params body all;
      above = λ a. binds.FunctionExpression;
      own_name = λ names a. declares names (inner at binds.FunctionExpression place.Inner) name;
      own = λ names a other.
          let over = inner at binds.FunctionExpression place.Inner in
          each_weaker (IsOfContext over) (IsOwnIn at.scope.0) (declares names over name) (λ d is same. ap is_own is.0)
          (name_declares name named names over);
      value = λ names a.
          let over = inner at binds.FunctionExpression place.Inner in
          each_weaker (IsOfContext over) IsValue (declares names over name) (λ d is. ap is_type is.0) (name_declares name named names over);
      bounds = λ names a. refl;
      before = syntax.references name;
      uses = λ names symbols a ss from placed.
          let over = inner at binds.FunctionExpression place.Inner in
          let named = standing names symbols over (at.scope ∷ ss) name in
          let taken = standing names symbols over (at.scope ∷ ss) params in
          let more = standing names symbols over (at.scope ∷ ss) body ++ [] in record {
            over = over;
            position = next_byte (behind (name_position word.Funexpr from) name);
            ahead = references named;
            after = references more;
            is = references-append named (taken ++ more) ∙ ap (λ rs. references named ++ rs) (references-append taken more);
            placed = placed.1.1.1.1.1.0;
            starts = omega arith;
            long = counted_uses names symbols name over (at.scope ∷ ss) (name_position word.Funexpr from) placed.1.1.1.1.0;
          };
    }

-- The forms of covered functions that fit the grammar.

pub four_form : (ps : Pieces) → is_four ps ≡ true → (a b c d : Syntax) × (ps ≡ Then a (Then b (Then c (Then d End))))
four_form (Then a (Then b (Then c (Then d End)))) h = (a, b, c, d, refl)
four_form _ h = absurd (cc)

pub six_form : (ps : Pieces) → is_six ps ≡ true
    → (a b c d e f : Syntax) × (ps ≡ Then a (Then b (Then c (Then d (Then e (Then f End))))))
six_form (Then a (Then b (Then c (Then d (Then e (Then f End)))))) h = (a, b, c, d, e, f, refl)
six_form _ h = absurd (cc)

pub flag_form : (t : Syntax) → fits flag t ≡ true → (b : Bool) × (t ≡ Flag b)
flag_form (Flag b) h = (b, refl)
flag_form (Node at w ps) h = absurd (none_fits ps h)
flag_form _ h = never h

arrow_is : (at : At) (ps : Pieces) → each (Some (flag ∷ flag ∷ all_params ∷ field.One kind.ArrowBody ∷ [])) ps ≡ true → AreCovered ps
    → FunctionParts (Node at word.Arrow ps)
arrow_is at ps h covered =
    let body = field.One kind.ArrowBody in
    let form = four_form ps (arity_four flag flag all_params body ps h) in
    let fit = four_fit ps form.0 form.1 form.2 form.3 form.4 flag flag all_params body h in
    let parts = subst AreCovered form.4 covered in
    let marked = flag_form form.0 fit.0 in
    let is_async = flag_form form.1 fit.1 in
    let v = free all_params form.2 refl refl fit.2 parts.1.1.0 in
    let b = free body form.3 refl refl fit.3 parts.1.1.1.0 in
    subst (λ qs. FunctionParts (Node at word.Arrow qs))
    (sym (form.4 ∙ (λ i. Then (marked.1 i) (Then (is_async.1 i) (Then form.2 (Then form.3 End))))))
    (formed_parts (Node at word.Arrow (arrow_pieces marked.0 is_async.0 form.2 form.3)) at form.2 form.3
    (arrow_formed at marked.0 is_async.0 form.2 form.3 v b) (params_parts at form.2 fit.2 parts.1.1.0) v b)

-- The form of the functions of a word that may have a name.
abbrev IsWordOf : Word → At → Type 0
IsWordOf w at =
    (marked is_async generator : Bool) (name params body : Syntax) → fits name_field name ≡ true → HasVariables true name → IsFree params
    → IsFree body → IsFormed (Node at w (named_pieces at marked is_async generator name params body)) at params body

named_is : (w : Word) (at : At) (body : Field) (ps : Pieces) → IsWordOf w at → inner_field false body ≡ true → inner_field true body ≡ true
    → each (Some (flag ∷ flag ∷ flag ∷ name_field ∷ all_params ∷ body ∷ [])) ps ≡ true → AreCovered ps → FunctionParts (Node at w ps)
named_is w at body ps formed apart named h covered =
    let form = six_form ps (arity_six flag flag flag name_field all_params body ps h) in
    let fit = six_fit ps form.0 form.1 form.2 form.3 form.4 form.5 form.6 flag flag flag name_field all_params body h in
    let parts = subst AreCovered form.6 covered in
    let marked = flag_form form.0 fit.0 in
    let is_async = flag_form form.1 fit.1 in
    let generator = flag_form form.2 fit.2 in
    let n = covered_variables true name_field form.3 refl fit.3 parts.1.1.1.0 in
    let v = free all_params form.4 refl refl fit.4 parts.1.1.1.1.0 in
    let b = free body form.5 apart named fit.5 parts.1.1.1.1.1.0 in
    subst (λ qs. FunctionParts (Node at w qs))
    (sym (form.6 ∙ (λ i. Then (marked.1 i) (Then (is_async.1 i) (Then (generator.1 i) (Then form.3 (Then form.4 (Then form.5 End))))))))
    (formed_parts (Node at w (named_pieces at marked.0 is_async.0 generator.0 form.3 form.4 form.5)) at form.4 form.5
    (formed marked.0 is_async.0 generator.0 form.3 form.4 form.5 fit.3 n v b)
    (params_parts at form.4 fit.4 parts.1.1.1.1.0) v b)

-- The parts of a covered function that fits the grammar.
pub function_parts : (f : Syntax) → is_function f ≡ true → IsCoveredFunction f → FunctionParts f
function_parts (Node at word.Arrow ps) h covered = arrow_is at ps h covered
function_parts (Node at word.Fundecl ps) h covered =
    named_is word.Fundecl at (field.Maybe kind.FunctionBody) ps (declaration_formed at) refl refl h covered
function_parts (Node at word.Funexpr ps) h covered =
    named_is word.Funexpr at (field.One kind.FunctionBody) ps (expression_formed at) refl refl h covered
function_parts _ h covered = absurd covered
