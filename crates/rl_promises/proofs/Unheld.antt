-- Types, and names that are used, hold no node whose instruction is counted.
use Rattle.std.proofs.Common.{◌≡◌, ℕ, true, ◌&&◌, if◌then◌else◌, Option, Some, None, List, [], ◌∷◌, ◌++◌, refl, ap, ◌∙◌, arith}
use Rattle.rl_base.specs.declared.span.Span.{Span}
use Rattle.rl_grammar.proofs.Viewing.{arity_two, first_fits, rest_fit, two_fit}
use Rattle.rl_grammar.specs.Grammar.{each, every, fits}
use Rattle.rl_grammar.specs.declared.kind.Field.{Field}
use Rattle.rl_grammar.specs.declared.kind.Field.TheVariants as field
use Rattle.rl_grammar.specs.declared.kind.Kind.TheVariants as kind
use Rattle.rl_model.specs.Counted.{Counted}
use Rattle.rl_names.specs.Names.{Names}
use Rattle.rl_promises.proofs.CoveredForms.{none_fits, two_form}
use Rattle.rl_promises.proofs.Covering.{none_in}
use Rattle.rl_promises.specs.Held.{is_span}
use Rattle.rl_promises.specs.Live.{held_among, held_as, held_at, held_in}
use Rattle.rl_promises.specs.Tallies.{held_span, held_word, is_among, stores_at, tallied, tallied_among, tally_of}
use Rattle.rl_syntax.specs.Syntax.{Syntax, Node, Listed, Said, Count, Flag, Absent, Pieces, End, Then}
use Rattle.rl_syntax.specs.declared.word.Word.TheVariants as word

-- A tree that holds none is not tallied.

abbrev tally_by : Counted → Option (List ℕ) → Span → ℕ
tally_by key o span = if is_among key.kinds o && is_span key.span (Some span) then 1 else 0

node_untallied : (key : Counted) (o : Option (List ℕ)) (span : Span) → held_as o span ≡ [] → tally_by key o span ≡ 0
node_untallied key None span none = refl
node_untallied key (Some text) span none = absurd (cc)

mutual
  pub unheld_untallied : (names : Names) (key : Counted) (t : Syntax) → held_in names t ≡ [] → tallied names key t ≡ 0
  unheld_untallied names key (Node at w parts) none =
      let both = none_in (held_at names w parts at) (held_among names parts) none in
      let here = none_in (held_as (held_word w parts) (held_span w parts at.span)) (stores_at names w parts) both.0 in
      let itself : tally_by key (held_word w parts) (held_span w parts at.span) ≡ 0 =
      node_untallied key (held_word w parts) (held_span w parts at.span) here.0 in
      let stores : tally_of key (stores_at names w parts) ≡ 0 = ap (tally_of key) here.1 in
      let rest = unheld_untallied_among names key parts both.1 in
      omega (arith, itself, stores, rest)
  unheld_untallied names key (Listed parts) none = unheld_untallied_among names key parts none
  unheld_untallied names key (Said text) none = refl
  unheld_untallied names key (Count number) none = refl
  unheld_untallied names key (Flag flag) none = refl
  unheld_untallied names key Absent none = refl

  pub unheld_untallied_among : (names : Names) (key : Counted) (parts : Pieces) → held_among names parts ≡ []
      → tallied_among names key parts ≡ 0
  unheld_untallied_among names key End none = refl
  unheld_untallied_among names key (Then part parts) none =
      let both = none_in (held_in names part) (held_among names parts) none in
      let itself = unheld_untallied names key part both.0 in
      let rest = unheld_untallied_among names key parts both.1 in
      omega (arith, itself, rest)

abbrev named : Field
named = field.Many kind.IdentifierReference

-- Names that are used, and types.

module _ (names : Names) where
  one_form : (ps : Pieces) → each (Some (field.One kind.Text ∷ [])) ps ≡ true → held_among names ps ≡ []
  one_form (Then (Said text) End) h = refl
  one_form (Then (Node at w parts) End) h = absurd (cc)
  one_form _ h = absurd (cc)

  id_unheld : (t : Syntax) → fits (field.One kind.IdentifierReference) t ≡ true → held_in names t ≡ []
  id_unheld (Node at word.Id ps) h = one_form ps h
  id_unheld (Node at _ ps) h = absurd (none_fits ps h)
  id_unheld _ h = absurd (cc)

  pub ids_unheld : (ids : Pieces) → every kind.IdentifierReference ids ≡ true → held_among names ids ≡ []
  ids_unheld End h = refl
  ids_unheld (Then id ids) h =
      ap (λ l. l ++ held_among names ids) (id_unheld id (first_fits kind.IdentifierReference (Then id ids) id ids refl h))
      ∙ ids_unheld ids (rest_fit kind.IdentifierReference (Then id ids) id ids refl h)

  pub names_unheld : (ids : Syntax) → fits (field.Many kind.IdentifierReference) ids ≡ true → held_in names ids ≡ []
  names_unheld (Listed ids) h = ids_unheld ids h
  names_unheld _ h = absurd (cc)

  kind_unheld : (t : Syntax) → fits (field.One kind.TypeKind) t ≡ true → held_in names t ≡ []
  kind_unheld (Said text) h = refl
  kind_unheld (Node at w ps) h = absurd (none_fits ps h)
  kind_unheld _ h = absurd (cc)

  type_parts : (ps : Pieces) → each (Some (field.One kind.TypeKind ∷ named ∷ [])) ps ≡ true → held_among names ps ≡ []
  type_parts ps h =
      let form = two_form ps (arity_two (field.One kind.TypeKind) named ps h) in
      let both = two_fit ps form.0 form.1 form.2 (field.One kind.TypeKind) named h in
      ap (held_among names) form.2 ∙ ap (λ l. l ++ (held_in names form.1 ++ [])) (kind_unheld form.0 both.0)
      ∙ ap (λ l. l ++ []) (names_unheld form.1 both.1)

  -- A type that may be absent holds no counted node.
  pub type_unheld : (t : Syntax) → fits (field.Maybe kind.TypeAnnotation) t ≡ true → held_in names t ≡ []
  type_unheld (Node at word.Type ps) h = type_parts ps h
  type_unheld (Node at _ ps) h = absurd (none_fits ps h)
  type_unheld Absent h = refl
  type_unheld _ h = absurd (cc)
