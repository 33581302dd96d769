-- A lowered expression is one by itself: as an argument it has one value, in one place, and as a body it is no list of statements.
use Rattle.std.proofs.Common.{◌≡◌, ℕ, ◌++◌, Bool, false, true, List, [], ◌∷◌, None, Option, codes, unwrap_or, refl, sym, ap, ◌∙◌}
use Rattle.rl_base.specs.declared.row.Row.{Row}
use Rattle.rl_base.specs.declared.row.Row.TheVariants as row
use Rattle.rl_hir.specs.declared.instruction.PrimitiveValue.{PrimitiveValue}
use Rattle.rl_hir.specs.declared.terminal.ReturnVariant.TheVariants as returns
use Rattle.rl_hir.specs.Pieces.{texts}
use Rattle.rl_lowered.proofs.Clean.{computed_row_clean, fraction_row_never, property_row_clean, row_clean, spread_row_clean}
use Rattle.rl_lowered.proofs.Clean.{unknown_row_never}
use Rattle.rl_lowered.proofs.Common.{At, End, InstructionValue, Names, Node, Piece, Pieces, Place, Said, Span, State, Syntax, Then}
use Rattle.rl_lowered.specs.Forms.{IsCast, IsForm, IsLiteral, IsMember, IsPrivate, IsRefused, IsRefusing, IsWrapper, MemberKey}
use Rattle.rl_lowered.specs.Forms as forms
use Rattle.rl_lowered.specs.Lowered.{Lowered, LoweredParts, part_span}
use Rattle.rl_lowered.specs.Lowered as lowered
use Rattle.rl_lowered.specs.Promised.{body_falls, exec_before_end}
use Rattle.rl_machine.specs.declared.trace.Value.{Value}
use Rattle.rl_model.specs.Actions.{Action, give, return_with, ◌>>=◌}
use Rattle.rl_model.specs.Expressions.{eval, one_value, values, values_of}
use Rattle.rl_model.specs.Scene.{Scene}
use Rattle.rl_model.specs.Shapes.{is_absent, is_computed, key_text, shape_of, shapes}
use Rattle.rl_model.specs.Statements.{has_meaning}
use Rattle.rl_promises.specs.Live.{held_in, live_in_body}
use Rattle.rl_promises.specs.Outs.{is_known_key}
use Rattle.rl_promises.specs.Rebound.{span_behind_body}
use Rattle.rl_promises.specs.Rows.{refusal, refusals, refusals_in, refusals_in_body, said_of_init, said_of_test}
use Rattle.rl_syntax.specs.declared.word.Word.{Word}
use Rattle.rl_syntax.specs.declared.word.Word.TheVariants as word
use Rattle.rl_syntax.specs.Syntax.{Absent, Count, Flag, Listed, span_of}

-- True of a node that is no declaration.
abbrev pub is_operand : Syntax → Bool
is_operand (Node at word.Var parts) = false
is_operand (Node at w parts) = true
is_operand _ = false

-- The argument has one value, its own; the body returns it; a key in brackets may be computed; it is no declaration, and no head of a
-- loop stands in it.
pub record IsPlain (e : Syntax) : Type 0 where
  pub shape : shape_of e ≡ codes "place" ∷ []
  pub value : (scene : Scene) (plain : Action Value) → values_of scene e plain ≡ one_value plain
  pub last : (scene : Scene) → exec_before_end scene e ≡ (eval scene e >>= (λ v. return_with scene returns.Implicit v))
  pub key : is_known_key true e ≡ true
  pub alone : (names : Names) → held_in names e ≡ live_in_body names e
  pub ends : body_falls e ≡ false
  pub node : is_operand e ≡ true
  pub spans : (names : Names) (symbol : ℕ) (before : Span) → span_behind_body names symbol e before ≡ before
  pub refused : (names : Names) → refusals_in_body names e ≡ refusals names e

literal_plain : {w : Word} {fields : Pieces} {p : PrimitiveValue} → IsLiteral w fields p → (at : At) → IsPlain (Node at w fields)
literal_plain forms.Null at =
    record {
      shape = refl;
      value = λ scene plain. refl;
      last = λ scene. refl;
      key = refl;
      alone = λ names. refl;
      ends = refl;
      node = refl;
      spans = λ names symbol before. refl;
      refused = λ names. refl;
    }
literal_plain _ at =
    record {
      shape = refl;
      value = λ scene plain. refl;
      last = λ scene. refl;
      key = refl;
      alone = λ names. refl;
      ends = refl;
      node = refl;
      spans = λ names symbol before. refl;
      refused = λ names. refl;
    }

refused_plain : {names : Names} {w : Word} {fields : Pieces} {r : Row} → IsRefused names w fields r → (at : At) → IsPlain (Node at w fields)
refused_plain forms.Super at =
    record {
      shape = refl;
      value = λ scene plain. refl;
      last = λ scene. refl;
      key = refl;
      alone = λ names. refl;
      ends = refl;
      node = refl;
      spans = λ names symbol before. refl;
      refused = λ names. refl;
    }
refused_plain _ at =
    record {
      shape = refl;
      value = λ scene plain. refl;
      last = λ scene. refl;
      key = refl;
      alone = λ names. refl;
      ends = refl;
      node = refl;
      spans = λ names symbol before. refl;
      refused = λ names. refl;
    }

refusing_plain : {w : Word} {fields parts : Pieces} {r : Row} → IsRefusing w fields parts r → (at : At) → IsPlain (Node at w fields)
refusing_plain forms.PrivateIn at =
    record {
      shape = refl;
      value = λ scene plain. refl;
      last = λ scene. refl;
      key = refl;
      alone = λ names. refl;
      ends = refl;
      node = refl;
      spans = λ names symbol before. refl;
      refused = λ names. refl;
    }
refusing_plain _ at =
    record {
      shape = refl;
      value = λ scene plain. refl;
      last = λ scene. refl;
      key = refl;
      alone = λ names. refl;
      ends = refl;
      node = refl;
      spans = λ names symbol before. refl;
      refused = λ names. refl;
    }

private_plain : {w : Word} {fields : Pieces} {e : Syntax} → IsPrivate w fields e → (at : At) → IsPlain (Node at w fields)
private_plain forms.PrivateUpdate at =
    record {
      shape = refl;
      value = λ scene plain. refl;
      last = λ scene. refl;
      key = refl;
      alone = λ names. refl;
      ends = refl;
      node = refl;
      spans = λ names symbol before. refl;
      refused = λ names. refl;
    }
private_plain _ at =
    record {
      shape = refl;
      value = λ scene plain. refl;
      last = λ scene. refl;
      key = refl;
      alone = λ names. refl;
      ends = refl;
      node = refl;
      spans = λ names symbol before. refl;
      refused = λ names. refl;
    }

wrapper_plain : {w : Word} {fields : Pieces} {e : Syntax} → IsWrapper w fields e → (at : At) → IsPlain (Node at w fields)
wrapper_plain forms.Parenthesized at =
    record {
      shape = refl;
      value = λ scene plain. refl;
      last = λ scene. refl;
      key = refl;
      alone = λ names. refl;
      ends = refl;
      node = refl;
      spans = λ names symbol before. refl;
      refused = λ names. refl;
    }
wrapper_plain _ at =
    record {
      shape = refl;
      value = λ scene plain. refl;
      last = λ scene. refl;
      key = refl;
      alone = λ names. refl;
      ends = refl;
      node = refl;
      spans = λ names symbol before. refl;
      refused = λ names. refl;
    }

cast_plain : {w : Word} {fields : Pieces} {e type : Syntax} → IsCast w fields e type → (at : At) → IsPlain (Node at w fields)
cast_plain forms.As at =
    record {
      shape = refl;
      value = λ scene plain. refl;
      last = λ scene. refl;
      key = refl;
      alone = λ names. refl;
      ends = refl;
      node = refl;
      spans = λ names symbol before. refl;
      refused = λ names. refl;
    }
cast_plain _ at =
    record {
      shape = refl;
      value = λ scene plain. refl;
      last = λ scene. refl;
      key = refl;
      alone = λ names. refl;
      ends = refl;
      node = refl;
      spans = λ names symbol before. refl;
      refused = λ names. refl;
    }

member_plain : {w : Word} {fields parts : Pieces} {pieces : List Piece} {object : Place} {key : MemberKey}
    → IsMember w fields parts pieces object key → (at : At) → IsPlain (Node at w fields)
member_plain forms.Static at =
    record {
      shape = refl;
      value = λ scene plain. refl;
      last = λ scene. refl;
      key = refl;
      alone = λ names. refl;
      ends = refl;
      node = refl;
      spans = λ names symbol before. refl;
      refused = λ names. refl;
    }
member_plain _ at =
    record {
      shape = refl;
      value = λ scene plain. refl;
      last = λ scene. refl;
      key = refl;
      alone = λ names. refl;
      ends = refl;
      node = refl;
      spans = λ names symbol before. refl;
      refused = λ names. refl;
    }

form_plain : {w : Word} {fields parts : Pieces} {pieces : List Piece} {v : InstructionValue} → IsForm w fields parts pieces v → (at : At)
    → IsPlain (Node at w fields)
form_plain (forms.Load is) at = member_plain is at
form_plain _ at =
    record {
      shape = refl;
      value = λ scene plain. refl;
      last = λ scene. refl;
      key = refl;
      alone = λ names. refl;
      ends = refl;
      node = refl;
      spans = λ names symbol before. refl;
      refused = λ names. refl;
    }

pub lowered_plain : {names : Names} {e : Syntax} {s t : State} {p : Place} → Lowered names e s t p → IsPlain e
lowered_plain (lowered.Literal at w fields p s is) = literal_plain is at
lowered_plain (lowered.Refused at w fields r s is) = refused_plain is at
lowered_plain (lowered.RefusedBefore at w fields parts r pieces s t is all) = refusing_plain is at
lowered_plain (lowered.Private at w fields e s t p is by) = private_plain is at
lowered_plain (lowered.Same at w fields e s t p is by) = wrapper_plain is at
lowered_plain (lowered.Cast at there w fields e type k s t p is annotated by) = cast_plain is at
lowered_plain (lowered.Asked at w fields parts pieces v s t form all) = form_plain form at
lowered_plain _ =
    record {
      shape = refl;
      value = λ scene plain. refl;
      last = λ scene. refl;
      key = refl;
      alone = λ names. refl;
      ends = refl;
      node = refl;
      spans = λ names symbol before. refl;
      refused = λ names. refl;
    }

-- As a part of the head of a `for` loop: in front it is refused, and as a test it is not.

pub init_said : (e : Syntax) → is_operand e ≡ true → (at : Span) → said_of_init at e ≡ refusal row.F31 at ∷ []
init_said (Node there word.Var parts) is at = absurd (cc)
init_said (Listed parts) is at = absurd (cc)
init_said (Said text) is at = absurd (cc)
init_said (Count number) is at = absurd (cc)
init_said (Flag flag) is at = absurd (cc)
init_said Absent is at = absurd (cc)
init_said _ is at = refl

pub test_unsaid : (e : Syntax) → is_operand e ≡ true → (at : Span) → said_of_test at e ≡ []
test_unsaid Absent is at = absurd (cc)
test_unsaid _ is at = refl

pub undeclared_meant : (e : Syntax) → is_operand e ≡ true → has_meaning Absent e ≡ true
undeclared_meant Absent is = absurd (cc)
undeclared_meant _ is = refl

pub declared_meant : (there : At) (fields : Pieces) (e : Syntax) → is_operand e ≡ true → has_meaning (Node there word.Var fields) e ≡ true
declared_meant there fields Absent is = absurd (cc)
declared_meant there fields _ is = refl

pub operand_span : (e : Syntax) → is_operand e ≡ true → (loop : Span) → part_span loop e ≡ span_of e
operand_span Absent is loop = absurd (cc)
operand_span _ is loop = refl

pub operand_there : (e : Syntax) → is_operand e ≡ true → is_absent e ≡ false
operand_there Absent is = absurd (cc)
operand_there _ is = refl

-- A key that is computed has no text.
pub computed_textless : (key : Syntax) → is_computed true key ≡ true → key_text true key ≡ None
computed_textless (Node at word.Str parts) is = absurd (cc)
computed_textless _ is = refl

-- The pieces that parts give have the shapes of the parts, where none of them is refused.
pub all_shapes : {names : Names} {of_object : Bool} {es : Pieces} {s t : State} {pieces : List Piece}
    → LoweredParts names of_object es s t pieces
    → refusals_in names es ≡ [] → texts pieces ≡ shapes es
all_shapes (lowered.NoPart s) none = refl
all_shapes {names} (lowered.NextPart e es s t u p pieces by all) none =
    ap (λ (l : List (List ℕ)). codes "place" ∷ l) (all_shapes all (row_clean names e es none).1)
    ∙ ap (λ (l : List (List ℕ)). l ++ shapes es) (sym (lowered_plain by).shape)
all_shapes {names} (lowered.NextSpread at e es s t u p pieces by all) none =
    ap (λ (l : List (List ℕ)). codes "spread" ∷ l) (all_shapes all (spread_row_clean names at e es none).1)
all_shapes (lowered.NextHole at es s u pieces all) none = ap (λ (l : List (List ℕ)). codes "hole" ∷ l) (all_shapes all none)
all_shapes {names} (lowered.NextProperty at computed key e text es s t u p pieces is by all) none =
    ap (λ (l : List (List ℕ)). (46 ∷ text) ∷ codes "place" ∷ l)
    (all_shapes all (property_row_clean names at computed key e (46 ∷ text) es is none).1)
    ∙ ap (λ (o : Option (List ℕ)). unwrap_or o (codes "place") ∷ codes "place" ∷ shapes es) (sym is)
all_shapes {names} (lowered.NextComputed at key e es s r t u p q pieces is first by all) none =
    ap (λ (l : List (List ℕ)). codes "place" ∷ codes "place" ∷ l) (all_shapes all (computed_row_clean names at key e es (lowered_plain first).key none).2)
    ∙ ap (λ (o : Option (List ℕ)). unwrap_or o (codes "place") ∷ codes "place" ∷ shapes es) (sym (computed_textless key is))
all_shapes {names} (lowered.NextFraction at there e text es s t u p pieces is by all) none =
    absurd (fraction_row_never names at there text e es is none)
all_shapes {names} (lowered.NextUnknown at computed key e es s u pieces is all) none =
    absurd (unknown_row_never names at computed key e es is none)

-- The values of parts of which the first is plain, of one part, and of two.

pub first_value : (scene : Scene) (e : Syntax) (es : Pieces) → IsPlain e
    → values scene (Then e es) ≡ (λ ways k. eval scene e ways (λ v. values scene es ways (λ vs. k (v ∷ vs))))
first_value scene e es plain =
    ap (λ (a : Action (List Value)). a >>= (λ vs. values scene es >>= (λ ws. give (vs ++ ws)))) (plain.value scene (eval scene e))

pub one_part : (scene : Scene) (e : Syntax) → IsPlain e → values scene (Then e End) ≡ (λ ways k. eval scene e ways (λ v. k (v ∷ [])))
one_part scene e plain = first_value scene e End plain

pub two_parts : (scene : Scene) (e f : Syntax) → IsPlain e → IsPlain f
    → values scene (Then e (Then f End)) ≡ (λ ways k. eval scene e ways (λ v. eval scene f ways (λ w. k (v ∷ w ∷ []))))
two_parts scene e f first second =
    first_value scene e (Then f End) first
    ∙ ap {B = Action (List Value)} (λ (a : Action (List Value)) ways k. eval scene e ways (λ v. a ways (λ vs. k (v ∷ vs))))
    (one_part scene f second)
