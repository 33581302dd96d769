-- Covered functions by their forms: the kinds of what they declare in their own scope, and where their body stands.
use Rattle.std.proofs.Common.{◌≡◌, true, false, true≢false, Some, List, [], ◌∷◌, ◌++◌, zero, inl, inr, refl, sym, ap, subst, ◌∙◌}
use Rattle.std.specs.List.{AllByRecursion}
use Rattle.rl_ast.proofs.MarkedFunctions.{Inside, InsideOf}
use Rattle.rl_ast.specs.FunctionTrees.{is_function}
use Rattle.rl_bindings.specs.Roles.{below, outside}
use Rattle.rl_bindings.specs.declared.event.BindKind.{BindKind}
use Rattle.rl_bindings.specs.declared.event.BindKind.TheVariants as binds
use Rattle.rl_bindings.specs.declared.event.Bound.{Bound}
use Rattle.rl_bindings.specs.declared.names.Name.{Name}
use Rattle.rl_bindings.specs.declared.role.Above.{Above}
use Rattle.rl_grammar.proofs.Viewing.{arity_four, arity_six, four_fit, six_fit}
use Rattle.rl_grammar.specs.Grammar.{fits, each}
use Rattle.rl_grammar.specs.declared.kind.Field.{Field}
use Rattle.rl_grammar.specs.declared.kind.Field.TheVariants as field
use Rattle.rl_grammar.specs.declared.kind.Kind.TheVariants as kind
use Rattle.rl_model.specs.Hoisting.{is_hoisted_kind}
use Rattle.rl_names.proofs.Declarations.{declares}
use Rattle.rl_names.proofs.FunctionScopes.{IsOther}
use Rattle.rl_names.proofs.Items.{each-append, each_weaker}
use Rattle.rl_names.specs.Functions.{body_in}
use Rattle.rl_promises.proofs.CoveredNames.{covered_variables, inner_field, never}
use Rattle.rl_promises.proofs.FunctionParts.{four_form, six_form}
use Rattle.rl_promises.proofs.PlainNames.{IsOfContext, name_declares}
use Rattle.rl_promises.proofs.VariableKinds.{IsPlainKind, is_plain_kind, only_plain, plain_among}
use Rattle.rl_promises.proofs.VariableTrees.{HasVariables, HaveVariables}
use Rattle.rl_promises.specs.Covered.{AreCovered, IsCoveredFunction}
use Rattle.rl_syntax.specs.Syntax.{Syntax, Node, Pieces, End, Then}
use Rattle.rl_syntax.specs.Words.{makes_scope}
use Rattle.rl_syntax.specs.declared.numbered.At.{At}
use Rattle.rl_syntax.specs.declared.word.Word.{Word}
use Rattle.rl_syntax.specs.declared.word.Word.TheVariants as word

-- A kind of a variable is none of a function declaration.
pub unhoisted : (k : BindKind) → is_plain_kind k ≡ true → is_hoisted_kind k ≡ false
unhoisted binds.FunctionDeclaration plain = absurd (true≢false (sym plain))
unhoisted _ plain = refl

-- The declaration is none of a function, if it binds in the scope of the node.
abbrev pub IsOwnKind : At → Bound → Type 0
IsOwnKind at b = b.scope.0 ≡ at.scope.0 → is_hoisted_kind b.kind ≡ false

-- A covered function by its node: what it declares in its own scope, and its body among its parts.
pub record FunctionKinds (at : At) (w : Word) (parts : Pieces) : Type 0 where
  pub maker : makes_scope w ≡ true
  pub covered : AreCovered parts
  pub variables : HaveVariables true parts
  pub own : (names : List Name) (a : Above) → IsOther at.scope.0 a → AllByRecursion (IsOwnKind at) (declares names a (Node at w parts))
  pub body : (x : Syntax) → Inside x (body_in (Node at w parts)) → InsideOf x parts
  pub body_variables : HasVariables false (body_in (Node at w parts))

own_kinds : (at : At) (bs : List Bound) → AllByRecursion IsPlainKind bs → AllByRecursion (IsOwnKind at) bs
own_kinds at bs all = each_weaker IsPlainKind (IsOwnKind at) bs (λ b plain own. unhoisted b.kind plain) all

-- A part that declares variables alone, under any context.
tree_kinds : (at : At) (names : List Name) (a : Above) (t : Syntax) → HasVariables false t
    → AllByRecursion (IsOwnKind at) (declares names a t)
tree_kinds at names a t v = own_kinds at (declares names a t) (only_plain names false t a (λ is. never is) v)

abbrev flag : Field
flag = field.One kind.Flag

abbrev name_field : Field
name_field = field.Maybe kind.BindingIdentifier

abbrev params_field : Field
params_field = field.One kind.FormalParameters

arrow_kinds : (at : At) (ps : Pieces) → each (Some (flag ∷ flag ∷ params_field ∷ field.One kind.ArrowBody ∷ [])) ps ≡ true → AreCovered ps
    → FunctionKinds at word.Arrow ps
arrow_kinds at ps h covered =
    let form = four_form ps (arity_four flag flag params_field (field.One kind.ArrowBody) ps h) in
    let fit = four_fit ps form.0 form.1 form.2 form.3 form.4 flag flag params_field (field.One kind.ArrowBody) h in
    subst (FunctionKinds at word.Arrow) (sym form.4)
    (by_parts form.0 form.1 form.2 form.3 fit.0 fit.1 fit.2 fit.3 (subst AreCovered form.4 covered))
  where
    by_parts : (m i p b : Syntax) → fits flag m ≡ true → fits flag i ≡ true → fits params_field p ≡ true
        → fits (field.One kind.ArrowBody) b ≡ true → AreCovered (Then m (Then i (Then p (Then b End))))
        → FunctionKinds at word.Arrow (Then m (Then i (Then p (Then b End))))
    by_parts m i p b fit_m fit_i fit_p fit_b covered = record {
      maker = refl;
      covered = covered;
      variables = (
        covered_variables true flag m refl fit_m covered.0,
        (
          covered_variables true flag i refl fit_i covered.1.0,
          (
            covered_variables true params_field p refl fit_p covered.1.1.0,
            (covered_variables true (field.One kind.ArrowBody) b refl fit_b covered.1.1.1.0, tt),
          ),
        ),
      );
      own = λ names a other.
          own_kinds at (declares names a (Node at word.Arrow (Then m (Then i (Then p (Then b End))))))
          (plain_among names false (Then m (Then i (Then p (Then b End)))) zero (outside a word.Arrow)
          (below a at word.Arrow (Then m (Then i (Then p (Then b End))))) (λ is. never is) (λ is. never is) (
            covered_variables false flag m refl fit_m covered.0,
            (
              covered_variables false flag i refl fit_i covered.1.0,
              (
                covered_variables false params_field p refl fit_p covered.1.1.0,
                (covered_variables false (field.One kind.ArrowBody) b refl fit_b covered.1.1.1.0, tt),
              ),
            ),
          ));
      body = λ x there. inr (inr (inr (inl there)));
      body_variables = covered_variables false (field.One kind.ArrowBody) b refl fit_b covered.1.1.1.0;
    }

-- Functions that may have a name: what the name declares is no function declaration in the function's own scope.
abbrev IsNamed : Word → At → Type 0
IsNamed w at =
    (m i g n p b : Syntax) → ((names : List Name) (a : Above) → IsOther at.scope.0 a → AllByRecursion (IsOwnKind at)
    (declares names a (Node at w (Then m (Then i (Then g (Then n (Then p (Then b End)))))))))
    → AreCovered (Then m (Then i (Then g (Then n (Then p (Then b End))))))
    → HaveVariables true (Then m (Then i (Then g (Then n (Then p (Then b End))))))
    → HasVariables false b → FunctionKinds at w (Then m (Then i (Then g (Then n (Then p (Then b End))))))

expression_named : (at : At) → IsNamed word.Funexpr at
expression_named at m i g n p b own covered variables apart = record {
  maker = refl;
  covered = covered;
  variables = variables;
  own = own;
  body = λ x there. inr (inr (inr (inr (inr (inl there)))));
  body_variables = apart;
}

declaration_named : (at : At) → IsNamed word.Fundecl at
declaration_named at m i g n p b own covered variables apart = record {
  maker = refl;
  covered = covered;
  variables = variables;
  own = own;
  body = λ x there. inr (inr (inr (inr (inr (inl there)))));
  body_variables = apart;
}

-- The context of the name, and that of the other parts.
abbrev IsOwnName : Word → At → Type 0
IsOwnName w at =
    (names : List Name) (a : Above) (m i g n p b : Syntax) → IsOther at.scope.0 a → fits name_field n ≡ true → HasVariables false m
    → HasVariables false i → HasVariables false g → HasVariables false p → HasVariables false b
    → AllByRecursion (IsOwnKind at) (declares names a (Node at w (Then m (Then i (Then g (Then n (Then p (Then b End))))))))

-- Six parts in a row, each by itself.
six_kinds : (at : At) (m i g n p b : List Bound) → AllByRecursion (IsOwnKind at) m → AllByRecursion (IsOwnKind at) i
    → AllByRecursion (IsOwnKind at) g → AllByRecursion (IsOwnKind at) n → AllByRecursion (IsOwnKind at) p
    → AllByRecursion (IsOwnKind at) b
    → AllByRecursion (IsOwnKind at) (m ++ (i ++ (g ++ (n ++ (p ++ (b ++ []))))))
six_kinds at m i g n p b one two three four five six =
    each-append (IsOwnKind at) m (i ++ (g ++ (n ++ (p ++ (b ++ []))))) one
    (each-append (IsOwnKind at) i (g ++ (n ++ (p ++ (b ++ [])))) two
    (each-append (IsOwnKind at) g (n ++ (p ++ (b ++ []))) three
    (each-append (IsOwnKind at) n (p ++ (b ++ [])) four
    (each-append (IsOwnKind at) p (b ++ []) five (each-append (IsOwnKind at) b [] six tt)))))

expression_name : (at : At) → IsOwnName word.Funexpr at
expression_name at names a m i g n p b other named vm vi vg vp vb =
    let in_it = below a at word.Funexpr (Then m (Then i (Then g (Then n (Then p (Then b End)))))) in
    six_kinds at (declares names in_it m) (declares names in_it i) (declares names in_it g) (declares names in_it n)
    (declares names in_it p)
    (declares names in_it b) (tree_kinds at names in_it m vm) (tree_kinds at names in_it i vi) (tree_kinds at names in_it g vg)
    (each_weaker (IsOfContext in_it) (IsOwnKind at) (declares names in_it n) (λ d is own. ap is_hoisted_kind is.0)
    (name_declares n named names in_it)) (tree_kinds at names in_it p vp) (tree_kinds at names in_it b vb)

declaration_name : (at : At) → IsOwnName word.Fundecl at
declaration_name at names a m i g n p b other named vm vi vg vp vb =
    let out = outside a word.Fundecl in
    let in_it = below a at word.Fundecl (Then m (Then i (Then g (Then n (Then p (Then b End)))))) in
    six_kinds at (declares names out m) (declares names out i) (declares names out g) (declares names out n) (declares names in_it p)
    (declares names in_it b) (tree_kinds at names out m vm) (tree_kinds at names out i vi) (tree_kinds at names out g vg)
    (each_weaker (IsOfContext out) (IsOwnKind at) (declares names out n)
    (λ d is own. absurd (other.scope (sym (ap (λ s. s.0) is.1) ∙ own))) (name_declares n named names out))
    (tree_kinds at names in_it p vp) (tree_kinds at names in_it b vb)

named_kinds : (w : Word) (at : At) (body : Field) (ps : Pieces) → IsNamed w at → IsOwnName w at → inner_field false body ≡ true
    → inner_field true body ≡ true
    → each (Some (flag ∷ flag ∷ flag ∷ name_field ∷ params_field ∷ body ∷ [])) ps ≡ true → AreCovered ps → FunctionKinds at w ps
named_kinds w at body ps whole own_name apart_field named_field h covered =
    let form = six_form ps (arity_six flag flag flag name_field params_field body ps h) in
    let fit = six_fit ps form.0 form.1 form.2 form.3 form.4 form.5 form.6 flag flag flag name_field params_field body h in
    let parts = subst AreCovered form.6 covered in
    let m = covered_variables false flag form.0 refl fit.0 parts.0 in
    let i = covered_variables false flag form.1 refl fit.1 parts.1.0 in
    let g = covered_variables false flag form.2 refl fit.2 parts.1.1.0 in
    let p = covered_variables false params_field form.4 refl fit.4 parts.1.1.1.1.0 in
    let b = covered_variables false body form.5 apart_field fit.5 parts.1.1.1.1.1.0 in
    subst (FunctionKinds at w) (sym form.6)
    (whole form.0 form.1 form.2 form.3 form.4 form.5
    (λ names a other. own_name names a form.0 form.1 form.2 form.3 form.4 form.5 other fit.3 m i g p b) parts (
      covered_variables true flag form.0 refl fit.0 parts.0,
      (
        covered_variables true flag form.1 refl fit.1 parts.1.0,
        (
          covered_variables true flag form.2 refl fit.2 parts.1.1.0,
          (
            covered_variables true name_field form.3 refl fit.3 parts.1.1.1.0,
            (
              covered_variables true params_field form.4 refl fit.4 parts.1.1.1.1.0,
              (covered_variables true body form.5 named_field fit.5 parts.1.1.1.1.1.0, tt),
            ),
          ),
        ),
      ),
    ) b)

-- A covered function by its node.
pub record IsFunctionNode (f : Syntax) : Type 0 where
  pub at : At
  pub w : Word
  pub parts : Pieces
  pub is : f ≡ Node at w parts
  pub kinds : FunctionKinds at w parts

pub function_kinds : (f : Syntax) → is_function f ≡ true → IsCoveredFunction f → IsFunctionNode f
function_kinds (Node at word.Arrow ps) h covered =
    record { at = at; w = word.Arrow; parts = ps; is = refl; kinds = arrow_kinds at ps h covered }
function_kinds (Node at word.Fundecl ps) h covered =
    let body : Field = field.Maybe kind.FunctionBody in
    let kinds = named_kinds word.Fundecl at body ps (declaration_named at) (declaration_name at) refl refl h covered in
    record { at = at; w = word.Fundecl; parts = ps; is = refl; kinds = kinds }
function_kinds (Node at word.Funexpr ps) h covered =
    let body : Field = field.One kind.FunctionBody in
    let kinds = named_kinds word.Funexpr at body ps (expression_named at) (expression_name at) refl refl h covered in
    record { at = at; w = word.Funexpr; parts = ps; is = refl; kinds = kinds }
function_kinds _ h covered = absurd covered
