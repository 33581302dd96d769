-- A marked function of a unit stands inside the program, so that its scope is another than the program's.
use Rattle.std.proofs.Common.{◌≡◌, ◌<◌, true, false, true≢false, inl, inr, None, List, [], ◌∷◌, refl, sym, ap, ◌∙◌, arith}
use Rattle.std.proofs.lemmas.Bool.{and_parts}
use Rattle.rl_ast.specs.Marked.{is_marked}
use Rattle.rl_ast.specs.Units.{IsOfGrammar}
use Rattle.rl_ast.proofs.MarkedFunctions.{Inside, InsideOf}
use Rattle.rl_grammar.specs.Grammar.{fits, each, every}
use Rattle.rl_grammar.specs.Rules.{rule}
use Rattle.rl_grammar.specs.declared.kind.Field.{Field}
use Rattle.rl_grammar.specs.declared.kind.Field.TheVariants as field
use Rattle.rl_grammar.specs.declared.kind.Kind.{Kind}
use Rattle.rl_grammar.specs.declared.kind.Kind.TheVariants as kinds
use Rattle.rl_syntax.specs.Syntax.{Syntax, Node, Listed, Said, Count, Flag, Absent, Pieces, End, Then, inside, next_byte, behind, IsPlaced}
use Rattle.rl_syntax.specs.Words.{makes_scope}
use Rattle.rl_syntax.specs.declared.numbered.At.{At}
use Rattle.rl_syntax.specs.declared.numbered.Position.{Position}
use Rattle.rl_syntax.specs.declared.word.Word.{Word}
use Rattle.rl_syntax.specs.declared.word.Word.TheVariants as word
use Rattle.rl_names.proofs.FunctionScopes.{scope_inside_parts}
use Rattle.rl_names.proofs.Fields.{each_head, each_tail, none_fits}

-- A function that is marked.
module _ (at : At) (w : Word) (ps : Pieces) (marked : is_marked w ps ≡ true) where
  not_itself : (bt : At) (v : Word) (qs : Pieces) → is_marked v qs ≡ false → Node at w ps ≡ Node bt v qs → ⊥
  not_itself bt v qs unmarked same =
      let words : w ≡ v = cc in
      let parts : ps ≡ qs = cc in
      true≢false (sym marked ∙ (λ i. is_marked (words i) (parts i)) ∙ unmarked)

  -- No node stands in a text or a number.
  not_in_leaf : (k : Kind) (t : Syntax) → ((v : Word) → rule k v ≡ None) → fits (field.One k) t ≡ true → Inside (Node at w ps) t → ⊥
  not_in_leaf k (Node bt v qs) none h i = true≢false (sym h ∙ ap (λ r. each r qs) (none v) ∙ none_fits qs)
  not_in_leaf k (Listed qs) none h i = true≢false (sym h)
  not_in_leaf k (Said text) none h i = i
  not_in_leaf k (Count number) none h i = i
  not_in_leaf k (Flag flag) none h i = i
  not_in_leaf k Absent none h i = i

  -- The fields of an entity behind its name.
  abbrev value_fields : List Field
  value_fields = field.One kinds.ScalarValue ∷ []

  not_in_entity : (bt : At) (v : Word) (qs : Pieces) → each (rule kinds.Entity v) qs ≡ true → Inside (Node at w ps) (Node bt v qs) → ⊥
  not_in_entity bt word.Entity qs h (inl same) = not_itself bt word.Entity qs refl same
  not_in_entity bt word.Entity End h (inr more) = more
  not_in_entity bt word.Entity (Then p qs) h (inr (inl here)) = not_in_leaf kinds.Text p (λ v. refl) (each_head (field.One kinds.Text) value_fields p qs h) here
  not_in_entity bt word.Entity (Then p End) h (inr (inr more)) = more
  not_in_entity bt word.Entity (Then p (Then q qs)) h (inr (inr (inl here))) =
      not_in_leaf kinds.ScalarValue q (λ v. refl) (each_head (field.One kinds.ScalarValue) [] q qs (each_tail (field.One kinds.Text) value_fields p (Then q qs) h)) here
  not_in_entity bt word.Entity (Then p (Then q End)) h (inr (inr (inr more))) = more
  not_in_entity bt word.Entity (Then p (Then q (Then r qs))) h (inr (inr (inr more))) =
      true≢false (sym (each_tail (field.One kinds.ScalarValue) [] q (Then r qs) (each_tail (field.One kinds.Text) value_fields p (Then q (Then r qs)) h)))
  not_in_entity bt _ qs h i = true≢false (sym h ∙ none_fits qs)

  not_in_entities : (qs : Pieces) → every kinds.Entity qs ≡ true → InsideOf (Node at w ps) qs → ⊥
  not_in_entities End h i = i
  not_in_entities (Then (Node bt v rs) qs) h (inl here) = not_in_entity bt v rs (and_parts (each (rule kinds.Entity v) rs) (every kinds.Entity qs) h).0 here
  not_in_entities (Then (Node bt v rs) qs) h (inr there) = not_in_entities qs (and_parts (each (rule kinds.Entity v) rs) (every kinds.Entity qs) h).1 there
  not_in_entities (Then (Said text) qs) h i = true≢false (sym h)
  not_in_entities (Then _ qs) h i = true≢false (sym h)

  not_in_list : (t : Syntax) → fits (field.Many kinds.Entity) t ≡ true → Inside (Node at w ps) t → ⊥
  not_in_list (Listed qs) h i = not_in_entities qs h i
  not_in_list _ h i = true≢false (sym h)

  module _ (maker : makes_scope w ≡ true) where
    in_program : (bt : At) (v : Word) (qs : Pieces) (from : Position) → each (rule kinds.Program v) qs ≡ true → IsPlaced from (Node bt v qs) → Inside (Node at w ps) (Node bt v qs) → 0 < at.scope.0
    in_program bt word.Program qs from h placed (inl same) = absurd (not_itself bt word.Program qs refl same)
    in_program bt word.Program qs from h placed (inr more) =
        let among = scope_inside_parts at w ps maker qs (inside from word.Program) placed.1 more in
        let low = among.above in
        omega (arith, low)
    in_program bt _ qs from h placed i = absurd (true≢false (sym h ∙ none_fits qs))

    in_program_part : (t : Syntax) (from : Position) → fits (field.One kinds.Program) t ≡ true → IsPlaced from t → Inside (Node at w ps) t → 0 < at.scope.0
    in_program_part (Node bt v qs) from h placed i = in_program bt v qs from h placed i
    in_program_part _ from h placed i = absurd (true≢false (sym h))

    -- The fields of a unit behind its entities.
    abbrev program_fields : List Field
    program_fields = field.One kinds.Program ∷ []

    in_unit : (bt : At) (v : Word) (qs : Pieces) (from : Position) → each (rule kinds.Unit v) qs ≡ true → IsPlaced from (Node bt v qs) → Inside (Node at w ps) (Node bt v qs) → 0 < at.scope.0
    in_unit bt word.Unit qs from h placed (inl same) = absurd (not_itself bt word.Unit qs refl same)
    in_unit bt word.Unit End from h placed (inr more) = absurd more
    in_unit bt word.Unit (Then p qs) from h placed (inr (inl here)) = absurd (not_in_list p (each_head (field.Many kinds.Entity) program_fields p qs h) here)
    in_unit bt word.Unit (Then p End) from h placed (inr (inr more)) = absurd more
    in_unit bt word.Unit (Then p (Then q qs)) from h placed (inr (inr (inl here))) =
        in_program_part q (next_byte (behind (next_byte (inside from word.Unit)) p)) (each_head (field.One kinds.Program) [] q qs (each_tail (field.Many kinds.Entity) program_fields p (Then q qs) h)) placed.1.1.0 here
    in_unit bt word.Unit (Then p (Then q End)) from h placed (inr (inr (inr more))) = absurd more
    in_unit bt word.Unit (Then p (Then q (Then r qs))) from h placed (inr (inr (inr more))) =
        absurd (true≢false (sym (each_tail (field.One kinds.Program) [] q (Then r qs) (each_tail (field.Many kinds.Entity) program_fields p (Then q (Then r qs)) h))))
    in_unit bt _ qs from h placed i = absurd (true≢false (sym h ∙ none_fits qs))

    -- The scope of a marked function of a unit has a number of at least 1.
    pub scope_above : (u : Syntax) (from : Position) → IsOfGrammar u → IsPlaced from u → Inside (Node at w ps) u → 0 < at.scope.0
    scope_above (Node bt v qs) from h placed i = in_unit bt v qs from h placed i
    scope_above _ from h placed i = absurd (true≢false (sym h))
