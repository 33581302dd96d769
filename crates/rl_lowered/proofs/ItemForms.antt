-- Items of patterns: their keys, the pieces that they give to the instruction, and what the model says of them.
use Rattle.std.proofs.Common.{◌≡◌, ℕ, ◌++◌, Bool, true, false, true≢false, is_some, if◌then◌else◌, List, [], ◌∷◌, codes}
use Rattle.std.proofs.Common.{Option, Some, None, option_map, unwrap_or, refl, sym, ap, ◌∙◌}
use Rattle.std.proofs.lemmas.Option.{none-some}
use Rattle.rl_hir.specs.Pieces.{Gives, operands, texts}
use Rattle.rl_lowered.proofs.Clean.{never}
use Rattle.rl_lowered.proofs.Common.{At, Diagnostic, End, Names, Node, Piece, Pieces, Place, Said, Span, Syntax, Then}
use Rattle.rl_lowered.specs.Forms.{BoundProperty, Element, IsItem, Shorthand, ShorthandDefault, TakenProperty}
use Rattle.rl_lowered.specs.Params.{TakesEarly}
use Rattle.rl_machine.specs.Acts.{targets}
use Rattle.rl_machine.specs.declared.trace.Value.{Value}
use Rattle.rl_model.specs.Expressions.{assign_to}
use Rattle.rl_model.specs.Patterns.{bind, is_early}
use Rattle.rl_model.specs.Scene.{Scene}
use Rattle.rl_model.specs.Shapes.{has_key, is_hole, key_text, piece_shape, said}
use Rattle.rl_promises.specs.Patterns.{fraction_in, is_ahead, is_lost_item, key_name, lost_item, said_of_fraction, said_of_key, takes_apart}
use Rattle.rl_promises.specs.Rows.{refusals, refusals_to}
use Rattle.rl_syntax.specs.declared.word.Word.TheVariants as word
use Rattle.rl_syntax.specs.Syntax.{Flag}
use Rattle.rl_text.specs.Numeral.{is_numeral}

-- Keys.

-- The diagnostics of a key by itself.
abbrev said_of_lost : Bool → (item : Syntax) → List Diagnostic
said_of_lost lost item = if lost then lost_item item ∷ [] else said_of_fraction (fraction_in item)

pub lost_never : (item : Syntax) → is_lost_item item ≡ true → said_of_key item ≡ [] → ⊥
lost_never item is none = never (sym (ap (λ (b : Bool). said_of_lost b item) is) ∙ none)

whole_key : (item : Syntax) → is_lost_item item ≡ false → said_of_key item ≡ [] → said_of_fraction (fraction_in item) ≡ []
whole_key item is none = sym (ap (λ (b : Bool). said_of_lost b item) is) ∙ none

name_key : (at : At) (parts : Pieces) (text : List ℕ) → key_name (Node at word.Name parts) ≡ Some text
    → key_text false (Node at word.Name parts) ≡ Some (said text)
name_key at (Then (Said name) End) text is = ap (λ (o : Option (List ℕ)). option_map said o) is
name_key at _ text is = absurd (none-some text is)

text_key : (at : At) (parts : Pieces) (text : List ℕ) → key_name (Node at word.Str parts) ≡ Some text
    → key_text false (Node at word.Str parts) ≡ Some (said text)
text_key at (Then (Said name) End) text is = ap (λ (o : Option (List ℕ)). option_map said o) is
text_key at _ text is = absurd (none-some text is)

numeral_key : (numeral : Bool) (there : Span) (text : List ℕ) → said_of_fraction (if numeral then None else Some there) ≡ []
    → (if numeral then Some (said text) else None) ≡ Some (said text)
numeral_key true there text none = refl
numeral_key false there text none = absurd (never none)

-- The key of a property of a binding pattern, and of a target.

number_key : (at there : At) (parts more : Pieces) (text : List ℕ)
    → said_of_fraction (fraction_in (Node at word.Keyedpat (Then (Flag false) (Then (Node there word.Num parts) more)))) ≡ []
    → key_name (Node there word.Num parts) ≡ Some text → key_text false (Node there word.Num parts) ≡ Some (said text)
number_key at there (Then (Said name) End) more text none is =
    numeral_key (is_numeral name) there.span name none ∙ ap (λ (o : Option (List ℕ)). option_map said o) is
number_key at there _ more text none is = absurd (none-some text is)

bound_key : (at : At) (key : Syntax) (more : Pieces) (text : List ℕ)
    → said_of_fraction (fraction_in (Node at word.Keyedpat (Then (Flag false) (Then key more)))) ≡ [] → key_name key ≡ Some text
    → key_text false key ≡ Some (said text)
bound_key at (Node there word.Name parts) more text none is = name_key there parts text is
bound_key at (Node there word.Str parts) more text none is = text_key there parts text is
bound_key at (Node there word.Num parts) more text none is = number_key at there parts more text none is
bound_key at _ more text none is = absurd (none-some text is)

taken_number : (at there : At) (parts more : Pieces) (text : List ℕ)
    → said_of_fraction (fraction_in (Node at word.Keyed (Then (Flag false) (Then (Node there word.Num parts) more)))) ≡ []
    → key_name (Node there word.Num parts) ≡ Some text → key_text false (Node there word.Num parts) ≡ Some (said text)
taken_number at there (Then (Said name) End) more text none is =
    numeral_key (is_numeral name) there.span name none ∙ ap (λ (o : Option (List ℕ)). option_map said o) is
taken_number at there _ more text none is = absurd (none-some text is)

taken_key : (at : At) (key : Syntax) (more : Pieces) (text : List ℕ)
    → said_of_fraction (fraction_in (Node at word.Keyed (Then (Flag false) (Then key more)))) ≡ [] → key_name key ≡ Some text
    → key_text false key ≡ Some (said text)
taken_key at (Node there word.Name parts) more text none is = name_key there parts text is
taken_key at (Node there word.Str parts) more text none is = text_key there parts text is
taken_key at (Node there word.Num parts) more text none is = taken_number at there parts more text none is
taken_key at _ more text none is = absurd (none-some text is)

-- Items.

pub item_hole : {binds of_object : Bool} {item part : Syntax} {key : List Piece} → IsItem binds of_object item key part
    → is_hole item ≡ false
item_hole (Element is shaped) = is
item_hole (BoundProperty is) = refl
item_hole (TakenProperty is) = refl
item_hole Shorthand = refl
item_hole (ShorthandDefault is) = refl

pub item_targets : {binds of_object : Bool} {item part : Syntax} {key : List Piece} → IsItem binds of_object item key part → (place : Place)
    (pieces : List Piece) → targets (operands (key ++ Gives place ∷ pieces)) ≡ place.identifier.0 ∷ targets (operands pieces)
item_targets (Element is shaped) place pieces = refl
item_targets (BoundProperty is) place pieces = refl
item_targets (TakenProperty is) place pieces = refl
item_targets Shorthand place pieces = refl
item_targets (ShorthandDefault is) place pieces = refl

-- The texts of an item: its key, and the place behind it.
pub item_shape : {binds of_object : Bool} {item part : Syntax} {key : List Piece} → IsItem binds of_object item key part
    → is_lost_item item ≡ false → said_of_key item ≡ [] → (place : Place) (pieces : List Piece)
    → texts (key ++ Gives place ∷ pieces) ≡ piece_shape item ++ texts pieces
item_shape (Element is shaped) kept none place pieces = sym (ap (λ (l : List (List ℕ)). l ++ texts pieces) shaped)
item_shape (BoundProperty {at} {key} {pattern} {text} is) kept none place pieces =
    sym (ap (λ (o : Option (List ℕ)). unwrap_or o [] ∷ codes "place" ∷ texts pieces)
    (bound_key at key (Then pattern End) text
    (whole_key (Node at word.Keyedpat (Then (Flag false) (Then key (Then pattern End)))) kept none) is))
item_shape (TakenProperty {at} {key} {target} {text} is) kept none place pieces =
    sym (ap (λ (o : Option (List ℕ)). unwrap_or o [] ∷ codes "place" ∷ texts pieces)
    (taken_key at key (Then target End) text
    (whole_key (Node at word.Keyed (Then (Flag false) (Then key (Then target End)))) kept none) is))
item_shape Shorthand kept none place pieces = refl
item_shape (ShorthandDefault is) kept none place pieces = refl

pub item_key : {binds of_object : Bool} {item part : Syntax} {key : List Piece} → IsItem binds of_object item key part → of_object ≡ true
    → is_lost_item item ≡ false → said_of_key item ≡ [] → has_key item ≡ true
item_key (Element is shaped) objects kept none = absurd (true≢false (sym objects))
item_key (BoundProperty {at} {key} {pattern} {text} is) objects kept none =
    ap (λ (o : Option (List ℕ)). is_some o)
    (bound_key at key (Then pattern End) text
    (whole_key (Node at word.Keyedpat (Then (Flag false) (Then key (Then pattern End)))) kept none) is)
item_key (TakenProperty {at} {key} {target} {text} is) objects kept none =
    ap (λ (o : Option (List ℕ)). is_some o)
    (taken_key at key (Then target End) text
    (whole_key (Node at word.Keyed (Then (Flag false) (Then key (Then target End)))) kept none) is)
item_key Shorthand objects kept none = refl
item_key (ShorthandDefault is) objects kept none = refl

-- Items of binding patterns.

pub item_binds : {of_object : Bool} {item part : Syntax} {key : List Piece} → IsItem true of_object item key part → (scene : Scene)
    (everywhere : Bool) (v : Value) → bind scene everywhere item v ≡ bind scene everywhere part v
item_binds (Element is shaped) scene everywhere v = refl
item_binds (BoundProperty is) scene everywhere v = refl

pub item_ahead : {of_object : Bool} {item part : Syntax} {key : List Piece} → IsItem true of_object item key part
    → is_ahead item ≡ is_ahead part
item_ahead (Element is shaped) = refl
item_ahead (BoundProperty is) = refl

pub item_refuses : {of_object : Bool} {item part : Syntax} {key : List Piece} → IsItem true of_object item key part
    → is_lost_item item ≡ false → (names : Names) → refusals names item ≡ refusals names part
item_refuses (Element is shaped) kept names = refl
item_refuses (BoundProperty {at} {key} {pattern} {text} is) kept names =
    ap (λ (b : Bool). if b then [] else refusals names pattern) kept

-- In a scene that takes names early, the early parts are those that come ahead.
pub early_ahead : (scene : Scene) → TakesEarly scene → (everywhere : Bool) (part : Syntax) → is_early scene everywhere part ≡ is_ahead part
early_ahead scene takes everywhere (Node at word.Bind parts) = takes.early everywhere at.id.0
early_ahead scene takes everywhere (Node at word.Keyedpat (Then computed (Then key (Then pattern End)))) =
    early_ahead scene takes everywhere pattern
early_ahead scene takes everywhere (Node at word.Rest (Then pattern End)) = early_ahead scene takes everywhere pattern
early_ahead scene takes everywhere _ = refl

pub apart_behind : (pattern : Syntax) → takes_apart pattern ≡ true → is_ahead pattern ≡ false
apart_behind (Node at word.Arraypat parts) is = refl
apart_behind (Node at word.Objectpat parts) is = refl
apart_behind _ is = absurd (true≢false (sym is))

-- Items of targets.

pub item_takes : {of_object : Bool} {item part : Syntax} {key : List Piece} → IsItem false of_object item key part → (scene : Scene)
    (v : Value) → assign_to scene item v ≡ assign_to scene part v
item_takes (Element is shaped) scene v = refl
item_takes (TakenProperty is) scene v = refl
item_takes Shorthand scene v = refl
item_takes (ShorthandDefault is) scene v = refl

pub item_taken : {of_object : Bool} {item part : Syntax} {key : List Piece} → IsItem false of_object item key part
    → is_lost_item item ≡ false → (names : Names) → refusals_to names item ≡ refusals_to names part
item_taken (Element is shaped) kept names = refl
item_taken (TakenProperty {at} {key} {target} {text} is) kept names =
    ap (λ (b : Bool). if b then [] else refusals_to names target) kept
item_taken Shorthand kept names = refl
item_taken (ShorthandDefault is) kept names = refl
