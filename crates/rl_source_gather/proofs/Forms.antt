-- Words of trees, by their kinds.
use Rattle.std.proofs.Common.{◌≡◌, true, false, None, refl, true≢false}
use Rattle.rl_grammar.specs.Grammar.{each, fits}
use Rattle.rl_grammar.specs.declared.kind.Field.TheVariants as field
use Rattle.rl_grammar.specs.declared.kind.Kind.TheVariants as kind
use Rattle.rl_machine.specs.declared.trace.Value.{Value}
use Rattle.rl_model.specs.Actions.{Action, ◌>>=◌, give}
use Rattle.rl_model.specs.Events.{computed_key}
use Rattle.rl_model.specs.Expressions.{key_in, one_value, values_of}
use Rattle.rl_model.specs.Scene.{Scene}
use Rattle.rl_source_shapes.specs.Tests.{is_number}
use Rattle.rl_syntax.specs.Syntax.{Syntax, Node, Pieces, End, Then}
use Rattle.rl_syntax.specs.declared.word.Word.TheVariants as word

pub none_fits : (ps : Pieces) → each None ps ≡ true → ⊥
none_fits End h = absurd (cc)
none_fits (Then p ps) h = absurd (cc)

-- The key in brackets that is no number is computed.
pub key_plain : (s : Syntax) (computed : Action Value) → is_number s ≡ false
    → key_in s computed ≡ (computed >>= (λ v. give (computed_key v)))
key_plain (Node at word.Num ps) computed other = absurd (true≢false other)
key_plain _ computed other = refl

-- An expression gives one value.
pub expression_values : (scene : Scene) (s : Syntax) (plain : Action Value) → fits (field.One kind.Expression) s ≡ true
    → values_of scene s plain ≡ one_value plain
expression_values scene (Node at word.Hole ps) plain fit = absurd (none_fits ps fit)
expression_values scene (Node at word.Spread ps) plain fit = absurd (none_fits ps fit)
expression_values scene (Node at word.Attrspread ps) plain fit = absurd (none_fits ps fit)
expression_values scene (Node at word.Prop ps) plain fit = absurd (none_fits ps fit)
expression_values scene (Node at word.Method ps) plain fit = absurd (none_fits ps fit)
expression_values scene (Node at word.Get ps) plain fit = absurd (none_fits ps fit)
expression_values scene (Node at word.Set ps) plain fit = absurd (none_fits ps fit)
expression_values scene (Node at word.Attr ps) plain fit = absurd (none_fits ps fit)
expression_values scene (Node at word.Text ps) plain fit = absurd (none_fits ps fit)
expression_values scene (Node at word.Container ps) plain fit = absurd (none_fits ps fit)
expression_values scene (Node at word.Spreadchild ps) plain fit = absurd (none_fits ps fit)
expression_values scene _ plain fit = refl
