-- The parts of a tree that fits.
use Rattle.std.proofs.Common.{◌≡◌, ℕ, ◌^◌, ◌<◌, ◌≤◌, Bool, true, false, ◌&&◌, not, nat_le, Some, List, [], ◌∷◌, refl, sym, ap, ◌∙◌, arith}
use Rattle.std.proofs.lemmas.Bool.{and_parts, leb-true}
use Rattle.rl_base.specs.Operators.{operator_text, operators, logical_text, logical_operators, unary_text, unary_operators, update_text, update_operators, assignment_text, assignment_operators}
use Rattle.rl_base.specs.ClosedTexts.{is_written}
use Rattle.rl_base.specs.Scalars.{is_scalar_value}
use Rattle.rl_base.specs.TypeKinds.{type_text, type_kinds}
use Rattle.rl_base.specs.VariableKinds.{variable_text, variable_kinds}
use Rattle.rl_syntax.specs.Forms.{is_absent}
use Rattle.rl_syntax.specs.Shapes.{is_node, is_text, is_flag, is_number, is_list, is_none, is_one, is_two, is_three, is_four, is_five, is_six}
use Rattle.rl_grammar.specs.Fields.{writes}
use Rattle.rl_grammar.specs.Grammar.{fits, each, every, text_fits, takes_flags, number_fits}
use Rattle.rl_syntax.specs.Syntax.{Syntax, Node, Listed, Said, Count, Flag, Absent, Pieces, End, Then, is_item}
use Rattle.rl_grammar.specs.declared.kind.Field.{Field}
use Rattle.rl_grammar.specs.declared.kind.Field.TheVariants as field
use Rattle.rl_grammar.specs.declared.kind.Kind.{Kind}
use Rattle.rl_grammar.specs.declared.kind.Kind.TheVariants as kind
use Rattle.rl_syntax.proofs.Layers.{syntax_node, syntax_list, syntax_text, syntax_number, syntax_flag, syntax_absent}

-- The fields of the parts behind the first.
behind : (f : Field) (fields : List Field) (a : Syntax) (ps : Pieces) → each (Some (f ∷ fields)) (Then a ps) ≡ true → each (Some fields) ps ≡ true
behind f fields a ps h = (and_parts (fits f a) (each (Some fields) ps) h).1

front : (f : Field) (fields : List Field) (a : Syntax) (ps : Pieces) → each (Some (f ∷ fields)) (Then a ps) ≡ true → fits f a ≡ true
front f fields a ps h = (and_parts (fits f a) (each (Some fields) ps) h).0

pub arity_none : (ps : Pieces) → each (Some []) ps ≡ true → ps ≡ End
arity_none End h = refl
arity_none (Then a ps) h = absurd (cc)

none_counted : (ps : Pieces) → each (Some []) ps ≡ true → is_none ps ≡ true
none_counted End h = refl
none_counted (Then a ps) h = absurd (cc)

pub arity_one : (f : Field) (ps : Pieces) → each (Some (f ∷ [])) ps ≡ true → is_one ps ≡ true
arity_one f End h = absurd (cc)
arity_one f (Then a ps) h = none_counted ps (behind f [] a ps h)

pub arity_two : (f g : Field) (ps : Pieces) → each (Some (f ∷ g ∷ [])) ps ≡ true → is_two ps ≡ true
arity_two f g End h = absurd (cc)
arity_two f g (Then a ps) h = arity_one g ps (behind f (g ∷ []) a ps h)

pub arity_three : (f g i : Field) (ps : Pieces) → each (Some (f ∷ g ∷ i ∷ [])) ps ≡ true → is_three ps ≡ true
arity_three f g i End h = absurd (cc)
arity_three f g i (Then a ps) h = arity_two g i ps (behind f (g ∷ i ∷ []) a ps h)

pub arity_four : (f g i j : Field) (ps : Pieces) → each (Some (f ∷ g ∷ i ∷ j ∷ [])) ps ≡ true → is_four ps ≡ true
arity_four f g i j End h = absurd (cc)
arity_four f g i j (Then a ps) h = arity_three g i j ps (behind f (g ∷ i ∷ j ∷ []) a ps h)

pub arity_five : (f0 f1 f2 f3 f4 : Field) (ps : Pieces) → each (Some (f0 ∷ f1 ∷ f2 ∷ f3 ∷ f4 ∷ [])) ps ≡ true → is_five ps ≡ true
arity_five f0 f1 f2 f3 f4 End h = absurd (cc)
arity_five f0 f1 f2 f3 f4 (Then a ps) h = arity_four f1 f2 f3 f4 ps (behind f0 (f1 ∷ f2 ∷ f3 ∷ f4 ∷ []) a ps h)

pub arity_six : (f0 f1 f2 f3 f4 f5 : Field) (ps : Pieces) → each (Some (f0 ∷ f1 ∷ f2 ∷ f3 ∷ f4 ∷ f5 ∷ [])) ps ≡ true → is_six ps ≡ true
arity_six f0 f1 f2 f3 f4 f5 End h = absurd (cc)
arity_six f0 f1 f2 f3 f4 f5 (Then a ps) h = arity_five f1 f2 f3 f4 f5 ps (behind f0 (f1 ∷ f2 ∷ f3 ∷ f4 ∷ f5 ∷ []) a ps h)

-- Each part fits its field.
pub one_fits : (ps : Pieces) (a : Syntax) → ps ≡ Then a End → (f : Field) → each (Some (f ∷ [])) ps ≡ true → fits f a ≡ true
one_fits ps a is f h = front f [] a End (sym (ap (each (Some (f ∷ []))) is) ∙ h)

two_in : (f g : Field) (a b : Syntax) → each (Some (f ∷ g ∷ [])) (Then a (Then b End)) ≡ true → (fits f a ≡ true) × (fits g b ≡ true)
two_in f g a b h = (front f (g ∷ []) a (Then b End) h, front g [] b End (behind f (g ∷ []) a (Then b End) h))

pub two_fit : (ps : Pieces) (a b : Syntax) → ps ≡ Then a (Then b End) → (f g : Field) → each (Some (f ∷ g ∷ [])) ps ≡ true → (fits f a ≡ true) × (fits g b ≡ true)
two_fit ps a b is f g h = two_in f g a b (sym (ap (each (Some (f ∷ g ∷ []))) is) ∙ h)

three_in : (f g i : Field) (a b c : Syntax) → each (Some (f ∷ g ∷ i ∷ [])) (Then a (Then b (Then c End))) ≡ true → (fits f a ≡ true) × (fits g b ≡ true) × (fits i c ≡ true)
three_in f g i a b c h =
    let rest = two_in g i b c (behind f (g ∷ i ∷ []) a (Then b (Then c End)) h) in
    (front f (g ∷ i ∷ []) a (Then b (Then c End)) h, rest.0, rest.1)

pub three_fit : (ps : Pieces) (a b c : Syntax) → ps ≡ Then a (Then b (Then c End)) → (f g i : Field) → each (Some (f ∷ g ∷ i ∷ [])) ps ≡ true → (fits f a ≡ true) × (fits g b ≡ true) × (fits i c ≡ true)
three_fit ps a b c is f g i h = three_in f g i a b c (sym (ap (each (Some (f ∷ g ∷ i ∷ []))) is) ∙ h)

four_in : (f0 f1 f2 f3 : Field) (a b c d : Syntax) → each (Some (f0 ∷ f1 ∷ f2 ∷ f3 ∷ [])) (Then a (Then b (Then c (Then d End)))) ≡ true → (fits f0 a ≡ true) × (fits f1 b ≡ true) × (fits f2 c ≡ true) × (fits f3 d ≡ true)
four_in f0 f1 f2 f3 a b c d h =
    let tail = Then b (Then c (Then d End)) in
    let rest = three_in f1 f2 f3 b c d (behind f0 (f1 ∷ f2 ∷ f3 ∷ []) a tail h) in
    (front f0 (f1 ∷ f2 ∷ f3 ∷ []) a tail h, rest.0, rest.1, rest.2)

pub four_fit : (ps : Pieces) (a b c d : Syntax) → ps ≡ Then a (Then b (Then c (Then d End))) → (f g i j : Field) → each (Some (f ∷ g ∷ i ∷ j ∷ [])) ps ≡ true → (fits f a ≡ true) × (fits g b ≡ true) × (fits i c ≡ true) × (fits j d ≡ true)
four_fit ps a b c d is f g i j h = four_in f g i j a b c d (sym (ap (each (Some (f ∷ g ∷ i ∷ j ∷ []))) is) ∙ h)

five_in : (f0 f1 f2 f3 f4 : Field) (a b c d e : Syntax) → each (Some (f0 ∷ f1 ∷ f2 ∷ f3 ∷ f4 ∷ [])) (Then a (Then b (Then c (Then d (Then e End))))) ≡ true → (fits f0 a ≡ true) × (fits f1 b ≡ true) × (fits f2 c ≡ true) × (fits f3 d ≡ true) × (fits f4 e ≡ true)
five_in f0 f1 f2 f3 f4 a b c d e h =
    let tail = Then b (Then c (Then d (Then e End))) in
    let rest = four_in f1 f2 f3 f4 b c d e (behind f0 (f1 ∷ f2 ∷ f3 ∷ f4 ∷ []) a tail h) in
    (front f0 (f1 ∷ f2 ∷ f3 ∷ f4 ∷ []) a tail h, rest.0, rest.1, rest.2, rest.3)

six_in : (f0 f1 f2 f3 f4 f5 : Field) (a b c d e f : Syntax) → each (Some (f0 ∷ f1 ∷ f2 ∷ f3 ∷ f4 ∷ f5 ∷ [])) (Then a (Then b (Then c (Then d (Then e (Then f End)))))) ≡ true → (fits f0 a ≡ true) × (fits f1 b ≡ true) × (fits f2 c ≡ true) × (fits f3 d ≡ true) × (fits f4 e ≡ true) × (fits f5 f ≡ true)
six_in f0 f1 f2 f3 f4 f5 a b c d e f h =
    let tail = Then b (Then c (Then d (Then e (Then f End)))) in
    let rest = five_in f1 f2 f3 f4 f5 b c d e f (behind f0 (f1 ∷ f2 ∷ f3 ∷ f4 ∷ f5 ∷ []) a tail h) in
    (front f0 (f1 ∷ f2 ∷ f3 ∷ f4 ∷ f5 ∷ []) a tail h, rest.0, rest.1, rest.2, rest.3, rest.4)

pub six_fit : (ps : Pieces) (a b c d e f : Syntax) → ps ≡ Then a (Then b (Then c (Then d (Then e (Then f End))))) → (f0 f1 f2 f3 f4 f5 : Field) → each (Some (f0 ∷ f1 ∷ f2 ∷ f3 ∷ f4 ∷ f5 ∷ [])) ps ≡ true → (fits f0 a ≡ true) × (fits f1 b ≡ true) × (fits f2 c ≡ true) × (fits f3 d ≡ true) × (fits f4 e ≡ true) × (fits f5 f ≡ true)
six_fit ps a b c d e f is f0 f1 f2 f3 f4 f5 h = six_in f0 f1 f2 f3 f4 f5 a b c d e f (sym (ap (each (Some (f0 ∷ f1 ∷ f2 ∷ f3 ∷ f4 ∷ f5 ∷ []))) is) ∙ h)

-- The items of a list.
item_parts : (k : Kind) (a : Syntax) (ps : Pieces) → every k (Then a ps) ≡ true → (fits (field.One k) a ≡ true) × (every k ps ≡ true)
item_parts k a ps h =
    let whole = and_parts (is_item a && fits (field.One k) a) (every k ps) h in
    ((and_parts (is_item a) (fits (field.One k) a) whole.0).1, whole.1)

pub first_fits : (k : Kind) (all : Pieces) (a : Syntax) (ps : Pieces) → all ≡ Then a ps → every k all ≡ true → fits (field.One k) a ≡ true
first_fits k all a ps is h = (item_parts k a ps (sym (ap (every k) is) ∙ h)).0

pub rest_fit : (k : Kind) (all : Pieces) (a : Syntax) (ps : Pieces) → all ≡ Then a ps → every k all ≡ true → every k ps ≡ true
rest_fit k all a ps is h = (item_parts k a ps (sym (ap (every k) is) ∙ h)).1

pub ruleset items = (first_fits, rest_fit)

-- The form of a part, by its field.
pub of_text : (t : Syntax) → fits (field.One kind.Text) t ≡ true → is_text t ≡ true
of_text (Said text) h = refl
of_text _ h = absurd (cc)

pub of_flag : (t : Syntax) → fits (field.One kind.Flag) t ≡ true → is_flag t ≡ true
of_flag (Flag flag) h = refl
of_flag _ h = absurd (cc)

pub of_number : (t : Syntax) → fits (field.One kind.ScalarValue) t ≡ true → is_number t ≡ true
of_number (Count number) h = refl
of_number _ h = absurd (cc)

scalar_small : (n : ℕ) → is_scalar_value n ≡ true → n < 2 ^ 32
scalar_small n h =
    let low : n ≤ 1114111 = leb-true n 1114111 (and_parts (nat_le n 1114111) (not (nat_le 55296 n && nat_le n 57343)) h).0 in
    omega (arith, low)

pub of_scalar : (t : Syntax) (n : ℕ) → t ≡ Count n → fits (field.One kind.ScalarValue) t ≡ true → n < 2 ^ 32
of_scalar t n is h = scalar_small n (sym (ap (fits (field.One kind.ScalarValue)) is) ∙ h)

pub of_many : (k : Kind) (t : Syntax) → fits (field.Many k) t ≡ true → is_list t ≡ true
of_many k (Listed parts) h = refl
of_many k _ h = absurd (cc)

pub of_variable_kind : (t : Syntax) → fits (field.One kind.VariableKind) t ≡ true → writes variable_text variable_kinds t ≡ true
of_variable_kind (Said text) h = h
of_variable_kind _ h = absurd (cc)

pub of_type_kind : (t : Syntax) → fits (field.One kind.TypeKind) t ≡ true → writes type_text type_kinds t ≡ true
of_type_kind (Said text) h = h
of_type_kind _ h = absurd (cc)

pub of_unary_operator : (t : Syntax) → fits (field.One kind.UnaryOperator) t ≡ true → writes unary_text unary_operators t ≡ true
of_unary_operator (Said text) h = h
of_unary_operator _ h = absurd (cc)

pub of_update_operator : (t : Syntax) → fits (field.One kind.UpdateOperator) t ≡ true → writes update_text update_operators t ≡ true
of_update_operator (Said text) h = h
of_update_operator _ h = absurd (cc)

pub of_binary_operator : (t : Syntax) → fits (field.One kind.BinaryOperator) t ≡ true → writes operator_text operators t ≡ true
of_binary_operator (Said text) h = h
of_binary_operator _ h = absurd (cc)

pub of_logical_operator : (t : Syntax) → fits (field.One kind.LogicalOperator) t ≡ true → writes logical_text logical_operators t ≡ true
of_logical_operator (Said text) h = h
of_logical_operator _ h = absurd (cc)

pub of_assignment_operator : (t : Syntax) → fits (field.One kind.AssignmentOperator) t ≡ true → writes assignment_text assignment_operators t ≡ true
of_assignment_operator (Said text) h = h
of_assignment_operator _ h = absurd (cc)

-- A text that writes a value.
pub writes_text : {X : Type 0} (text_of : X → List ℕ) (values : List X) (t : Syntax) → writes text_of values t ≡ true → is_text t ≡ true
writes_text text_of values (Said text) h = refl
writes_text text_of values _ h = absurd (cc)

pub writes_value : {X : Type 0} (text_of : X → List ℕ) (values : List X) (t : Syntax) (text : List ℕ) → t ≡ Said text → writes text_of values t ≡ true → is_written text_of values text ≡ true
writes_value text_of values t text is h = sym (ap (writes text_of values) is) ∙ h

pub ruleset closed = (writes_text, writes_value)

-- True of the kinds of texts, flags and numbers; the trees of every other kind are nodes.
abbrev pub is_leaf : Kind → Bool
is_leaf kind.Text = true
is_leaf kind.Flag = true
is_leaf kind.ScalarValue = true
is_leaf kind.VariableKind = true
is_leaf kind.TypeKind = true
is_leaf kind.UnaryOperator = true
is_leaf kind.UpdateOperator = true
is_leaf kind.BinaryOperator = true
is_leaf kind.LogicalOperator = true
is_leaf kind.AssignmentOperator = true
is_leaf _ = false

-- Trees of a kind that is no leaf are no texts, flags or numbers.
no_text : (k : Kind) (text : List ℕ) → is_leaf k ≡ false → text_fits k text ≡ false
no_text kind.Text text h = absurd (cc)
no_text kind.VariableKind text h = absurd (cc)
no_text kind.TypeKind text h = absurd (cc)
no_text kind.UnaryOperator text h = absurd (cc)
no_text kind.UpdateOperator text h = absurd (cc)
no_text kind.BinaryOperator text h = absurd (cc)
no_text kind.LogicalOperator text h = absurd (cc)
no_text kind.AssignmentOperator text h = absurd (cc)
no_text _ text h = refl

no_flag : (k : Kind) → is_leaf k ≡ false → takes_flags k ≡ false
no_flag kind.Flag h = absurd (cc)
no_flag _ h = refl

no_number : (k : Kind) (number : ℕ) → is_leaf k ≡ false → number_fits k number ≡ false
no_number kind.ScalarValue number h = absurd (cc)
no_number _ number h = refl

pub of_sort : (k : Kind) (t : Syntax) → is_leaf k ≡ false → fits (field.One k) t ≡ true → is_node t ≡ true
of_sort k (Node at word parts) leaf h = refl
of_sort k (Said text) leaf h = let none = no_text k text leaf in cc
of_sort k (Flag flag) leaf h = let none = no_flag k leaf in cc
of_sort k (Count number) leaf h = let none = no_number k number leaf in cc
of_sort k (Listed parts) leaf h = absurd (cc)
of_sort k Absent leaf h = absurd (cc)

-- A part that may be absent.
pub present_fits : (k : Kind) (t : Syntax) → is_absent t ≡ false → fits (field.Maybe k) t ≡ true → fits (field.One k) t ≡ true
present_fits k Absent missing h = absurd (cc)
present_fits k (Node at word parts) _ h = h
present_fits k (Said text) _ h = h
present_fits k (Flag flag) _ h = h
present_fits k (Listed parts) _ h = h
present_fits k (Count number) _ h = h

pub absent_is : (t : Syntax) → is_absent t ≡ true → t ≡ Absent
absent_is Absent h = refl
absent_is _ h = absurd (cc)

pub ruleset optional = (present_fits, absent_is, of_text)

pub ruleset scalars = (of_number, of_scalar)

pub ruleset viewing = (
  syntax_node,
  syntax_list,
  syntax_text,
  syntax_number,
  syntax_flag,
  syntax_absent,
  arity_none,
  arity_one,
  arity_two,
  arity_three,
  arity_four,
  arity_six,
  of_text,
  of_flag,
  of_number,
  of_many,
  of_variable_kind,
  of_type_kind,
  of_unary_operator,
  of_update_operator,
  of_binary_operator,
  of_logical_operator,
  of_assignment_operator,
  of_sort,
)
