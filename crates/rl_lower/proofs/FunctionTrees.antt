-- The tree of a function that fits the grammar: its nodes, parameters and refusals, and its small parts.
use Rattle.std.proofs.Common.{◌≡◌, ℕ, ◌+◌, ◌≤◌, ◌++◌, Bool, true, List, Option, Some, None, refl, sym, ap, ◌∙◌, subst, arith, append-nil}
use Rattle.rl_base.specs.declared.diagnostic.Diagnostic.{Diagnostic}
use Rattle.rl_text.specs.Notation.{IsWritable}
use Rattle.rl_grammar.proofs.Viewing.{arity_two, two_fit}
use Rattle.rl_grammar.specs.Grammar.{fits}
use Rattle.rl_syntax.specs.Syntax.{Syntax, Node, Listed, Said, Flag, Pieces, End, Then, nodes, nodes_of, span_of, syntax}
use Rattle.rl_grammar.specs.declared.kind.Field.TheVariants as field
use Rattle.rl_grammar.specs.declared.kind.Kind.TheVariants as kind
use Rattle.rl_syntax.specs.declared.numbered.At.{At}
use Rattle.rl_ast.specs.FunctionViews.{seen_arrow}
use Rattle.rl_ast.specs.declared.function.Arrow.{Arrow}
use Rattle.rl_syntax.specs.declared.word.Word.{Word}
use Rattle.rl_syntax.specs.declared.word.Word.TheVariants as word
use Rattle.rl_hir.specs.Listing as listing
use Rattle.rl_grammar.specs.Fields.{maybe}
use Rattle.rl_ast.specs.FunctionNodes.{function_word, seen_function_node}
use Rattle.rl_ast.specs.declared.function_node.Function.{Function}
use Rattle.rl_ast.specs.declared.function_node.FunctionForm.{FunctionForm}
use Rattle.rl_ast.specs.declared.function_node.FunctionForm.TheVariants as form
use Rattle.rl_ast.specs.declared.function_node.FunctionNode.{FunctionNode}
use Rattle.rl_ast.specs.declared.function_node.FunctionNode.TheVariants as function_node
use Rattle.rl_names.specs.Functions.{body_in, name_in, params_in, said_by}
use Rattle.rl_names.specs.Names.{Names}
use Rattle.rl_promises.specs.Rows.{refusals, refusals_in, refusals_in_body, refusals_of}
use Rattle.rl_lower.proofs.LoweredFunctions.{AreSmall, nodes_in}
use Rattle.rl_lowered.proofs.SoundListing.{span_writable}
use Rattle.rl_lowered.specs.Sound.{IsSmallTree}
use Rattle.rl_promises.proofs.CoveredForms.{name_form, two_form}

-- The tree `f` is a function with the body `body`.
pub record IsFunction (f body : Syntax) : Type 0 where
  pub list : At
  pub items : Pieces
  pub rest : Syntax
  pub is_params : params_in f ≡ Node list word.Params (Then (Listed items) (Then rest End))
  pub is_body : body_in f ≡ body
  pub counted : nodes (params_in f) + nodes body + 1 ≤ nodes f
  pub small : IsSmallTree f → IsSmallTree (params_in f) × IsSmallTree body
  pub spanned : IsSmallTree f → IsWritable (listing.optional listing.span (Some (span_of f)))
  pub named : IsSmallTree f → IsWritable (listing.optional listing.said (name_in f))

-- A `params` node that fits the grammar holds parameters in a row, and a rest or none.
record ParamsForm (params : Syntax) : Type 0 where
  list : At
  items : Pieces
  rest : Syntax
  is : params ≡ Node list word.Params (Then (Listed items) (Then rest End))

row_form : (t : Syntax) → fits (field.Many kind.FormalParameter) t ≡ true → (items : Pieces) × (t ≡ Listed items)
row_form (Listed items) h = (items, refl)
row_form _ h = absurd (cc)

params_form : (params : Syntax) → fits (field.One kind.FormalParameters) params ≡ true → ParamsForm params
params_form (Node list word.Params ps) h =
    let form = two_form ps (arity_two (field.Many kind.FormalParameter) (field.Maybe kind.BindingRestElement) ps h) in
    let both = two_fit ps form.0 form.1 form.2 (field.Many kind.FormalParameter) (field.Maybe kind.BindingRestElement) h in
    let row = row_form form.0 both.0 in record {
      list = list;
      items = row.0;
      rest = form.1;
      is = ap (λ (parts : Pieces). Node list word.Params parts) form.2
          ∙ ap (λ (l : Syntax). Node list word.Params (Then l (Then form.1 End))) row.1;
    }
params_form _ h = absurd (cc)

-- An arrow function.

arrow_form : (f : Arrow) → IsFunction (seen_arrow f) (syntax f.body.tree.now)
arrow_form f =
    let form = params_form (syntax f.params.tree.now) f.params.fit in record {
      list = form.list;
      items = form.items;
      rest = form.rest;
      is_params = form.is;
      is_body = refl;
      counted = omega arith;
      small = λ small. ((small.0.1.1.1.0, small.1.1.1.1.0), (small.0.1.1.1.1.0, small.1.1.1.1.1.0));
      spanned = λ small. span_writable f.at.span small.0.0;
      named = λ small. tt;
    }

-- A function that is no arrow function.

-- The notation has the name of a function where it is small.
record IsName (name : Syntax) : Type 0 where
  named : IsSmallTree name → IsWritable (listing.optional listing.said (said_by name))

bind_name : (b type : Syntax) (bind : At) (name : List ℕ) → b ≡ Node bind word.Bind (Then (Said name) (Then type End)) → IsName b
bind_name b type bind name is = record {
  named = λ small.
      let opened = subst IsSmallTree is small in
      subst (λ (t : Syntax). IsWritable (listing.optional listing.said (said_by t))) (sym is) opened.1.1.0;
}

own_name : (b : Syntax) → fits (field.One kind.BindingIdentifier) b ≡ true → IsName b
own_name (Node bind word.Bind ps) h =
    (let form = name_form bind ps h in bind_name (Node bind word.Bind ps) form.type bind form.name form.is)
own_name _ h = absurd (cc)

maybe_name : {X : Type 0} (name : Option X) (shown : X → Syntax) → ((x : X) → fits (field.One kind.BindingIdentifier) (shown x) ≡ true)
    → IsName (maybe name shown)
maybe_name None shown fit = record { named = λ small. tt }
maybe_name (Some x) shown fit = own_name (shown x) (fit x)

abbrev parted : At → (w : Word) → (marked is_async generator : Bool) → (name params body : Syntax) → Syntax
parted at w marked is_async generator name params body =
    Node at w (Then (Flag marked) (Then (Flag is_async) (Then (Flag generator) (Then name (Then params (Then body End))))))

parted_form : (at : At) (w : Word) (marked is_async generator : Bool) (name params body : Syntax)
    → params_in (parted at w marked is_async generator name params body) ≡ params
    → body_in (parted at w marked is_async generator name params body) ≡ body
    → name_in (parted at w marked is_async generator name params body) ≡ said_by name → IsName name
    → fits (field.One kind.FormalParameters) params ≡ true
    → IsFunction (parted at w marked is_async generator name params body) body
parted_form at w marked is_async generator name params body params_are body_is name_is n fit =
    let form = params_form params fit in
    let same : nodes (params_in (parted at w marked is_async generator name params body)) ≡ nodes params = ap nodes params_are in record {
      list = form.list;
      items = form.items;
      rest = form.rest;
      is_params = params_are ∙ form.is;
      is_body = body_is;
      counted = omega (arith, same);
      small = λ small. (
        subst IsSmallTree (sym params_are) (small.0.1.1.1.1.1.0, small.1.1.1.1.1.1.0),
        (small.0.1.1.1.1.1.1.0, small.1.1.1.1.1.1.1.0),
      );
      spanned = λ small. span_writable at.span small.0.0;
      named = λ small. subst (λ (o : Option (List ℕ)). IsWritable (listing.optional listing.said o)) (sym name_is)
          (n.named (small.0.1.1.1.1.0, small.1.1.1.1.1.0));
    }

abbrev parts_of : Function → Pieces
parts_of f =
    Then (Flag f.marked) (Then (Flag f.is_async) (Then (Flag f.generator)
    (Then (maybe f.name (λ t. syntax t.tree.now)) (Then (syntax f.params.tree.now) (Then (maybe f.body (λ t. syntax t.tree.now)) End)))))

abbrev with_form : Function → FunctionForm → Syntax
with_form f form = Node f.at (function_word form) (parts_of f)

by_form : (f : Function) (form : FunctionForm) → IsFunction (with_form f form) (body_in (with_form f form))
by_form f form.Declaration =
    parted_form f.at word.Fundecl f.marked f.is_async f.generator _ _ _ refl refl refl
    (maybe_name f.name (λ t. syntax t.tree.now) (λ t. t.fit)) f.params.fit
by_form f form.Expression =
    parted_form f.at word.Funexpr f.marked f.is_async f.generator _ _ _ refl refl refl
    (maybe_name f.name (λ t. syntax t.tree.now) (λ t. t.fit)) f.params.fit

-- The tree that a view shows is a function with the body that it shows.
pub function_form : (f : FunctionNode) → IsFunction (seen_function_node f) (body_in (seen_function_node f))
function_form (function_node.Arrow f) = arrow_form f
function_form (function_node.Function f) = by_form f f.form

-- Nodes and refusals of a function.

pub function_nodes : (f body : Syntax) (w : IsFunction f body) → nodes_in w.items w.rest body + 2 ≤ nodes f
function_nodes f body w =
    let counted : nodes (params_in f) + nodes body + 1 ≤ nodes f = w.counted in
    let listed : nodes (params_in f) ≡ nodes_of w.items + (nodes w.rest + 0) + 1 = ap nodes w.is_params in
    omega (arith, counted, listed)

abbrev pub said_of_params : Names → (items : Pieces) → (rest : Syntax) → List Diagnostic
said_of_params names items rest = refusals_in names items ++ refusals names rest

pub function_refusals : (names : Names) (f body : Syntax) (w : IsFunction f body)
    → refusals_of names f ≡ said_of_params names w.items w.rest ++ refusals_in_body names body
function_refusals names f body w =
    let given : refusals names (params_in f) ≡ said_of_params names w.items w.rest =
    ap (λ (t : Syntax). refusals names t) w.is_params
    ∙ ap (λ (l : List Diagnostic). refusals_in names w.items ++ l) (append-nil (refusals names w.rest)) in
    ap (λ (l : List Diagnostic). l ++ refusals_in_body names (body_in f)) given
    ∙ ap (λ (t : Syntax). said_of_params names w.items w.rest ++ refusals_in_body names t) w.is_body

-- The parts of a small function are small.
pub function_small : (f body : Syntax) (w : IsFunction f body) → IsSmallTree f → AreSmall w.items w.rest body
function_small f body w small =
    let opened = subst IsSmallTree w.is_params (w.small small).0 in
    (((opened.0.1.0, opened.1.1.0), (opened.0.1.1.0, opened.1.1.1.0)), (w.small small).1)
