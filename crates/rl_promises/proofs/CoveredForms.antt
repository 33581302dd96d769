-- The parts of trees that fit the grammar, among them names with their types.
use Rattle.std.proofs.Common.{◌≡◌, ℕ, true, List, [], ◌∷◌, None, Some, refl, ap, ◌∙◌}
use Rattle.rl_syntax.specs.Shapes.{is_two}
use Rattle.rl_grammar.specs.Grammar.{fits, each}
use Rattle.rl_grammar.specs.declared.kind.Field.TheVariants as field
use Rattle.rl_grammar.specs.declared.kind.Kind.TheVariants as kind
use Rattle.rl_grammar.proofs.Viewing.{arity_two, two_fit}
use Rattle.rl_syntax.specs.Syntax.{Syntax, Node, Said, Pieces, End, Then}
use Rattle.rl_syntax.specs.declared.numbered.At.{At}
use Rattle.rl_syntax.specs.declared.word.Word.TheVariants as word

pub two_form : (ps : Pieces) → is_two ps ≡ true → (a b : Syntax) × (ps ≡ Then a (Then b End))
two_form (Then a (Then b End)) h = (a, b, refl)
two_form _ h = absurd (cc)

pub text_form : (t : Syntax) → fits (field.One kind.Text) t ≡ true → (text : List ℕ) × (t ≡ Said text)
text_form (Said text) h = (text, refl)
text_form _ h = absurd (cc)

-- The name that a `bind` node says, and its type, which may be absent.
pub record NameForm (bind : At) (parts : Pieces) : Type 0 where
  pub name : List ℕ
  pub type : Syntax
  pub typed : fits (field.Maybe kind.TypeAnnotation) type ≡ true
  pub is : Node bind word.Bind parts ≡ Node bind word.Bind (Then (Said name) (Then type End))

-- A `bind` node that fits the grammar has a name.
pub name_form : (bind : At) (ps : Pieces)
    → each (Some (field.One kind.Text ∷ field.Maybe kind.TypeAnnotation ∷ [])) ps ≡ true → NameForm bind ps
name_form bind ps h =
    let form = two_form ps (arity_two (field.One kind.Text) (field.Maybe kind.TypeAnnotation) ps h) in
    let both = two_fit ps form.0 form.1 form.2 (field.One kind.Text) (field.Maybe kind.TypeAnnotation) h in
    let text = text_form form.0 both.0 in record {
      name = text.0;
      type = form.1;
      typed = both.1;
      is = ap (λ parts. Node bind word.Bind parts) form.2 ∙ ap (λ t. Node bind word.Bind (Then t (Then form.1 End))) text.1;
    }

-- No node fits a kind that has no rule for its word.
pub none_fits : (ps : Pieces) → each None ps ≡ true → ⊥
none_fits End h = absurd (cc)
none_fits (Then p ps) h = absurd (cc)
