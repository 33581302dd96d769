-- A tree that fits the grammar is shaped: its lists hold nodes and texts alone, and its nodes have at most 8 parts.
use Rattle.std.proofs.Common.{◌≡◌, true, ◌&&◌, Option, Some, None, List, [], ◌∷◌, length, refl, arith}
use Rattle.std.proofs.lemmas.Bool.{and_parts}
use Rattle.rl_grammar.specs.Grammar.{fits, each, every}
use Rattle.rl_grammar.specs.Rules.{rule}
use Rattle.rl_grammar.proofs.FewFields.{few_fields, rule_few}
use Rattle.rl_syntax.specs.Syntax.{Syntax, Node, Listed, Said, Count, Flag, Absent, Pieces, End, Then, part_count, is_item, are_few, is_shaped, are_shaped, are_items}
use Rattle.rl_grammar.specs.declared.kind.Field.{Field}
use Rattle.rl_grammar.specs.declared.kind.Field.TheVariants as field
use Rattle.rl_grammar.specs.declared.kind.Kind.{Kind}
use Rattle.rl_grammar.specs.declared.kind.Kind.TheVariants as kind
use Rattle.rl_syntax.specs.declared.word.Word.TheVariants as word

-- Parts that fit fields are as many as the fields.
each_count : (fields : List Field) (ps : Pieces) → each (Some fields) ps ≡ true → part_count ps ≡ length fields
each_count [] End h = refl
each_count [] (Then p ps) h = absurd (cc)
each_count (f ∷ fields) End h = absurd (cc)
each_count (f ∷ fields) (Then p ps) h =
    let rest : part_count ps ≡ length fields = each_count fields ps (and_parts (fits f p) (each (Some fields) ps) h).1 in
    omega (arith, rest)

node_shaped : (fields : Option (List Field)) (ps : Pieces) → few_fields fields ≡ true → each fields ps ≡ true → are_shaped ps ≡ true → are_few ps && are_shaped ps ≡ true
node_shaped None ps few h even = absurd (cc)
node_shaped (Some fields) ps few h even = rw (each_count fields ps h, few, even) refl

mutual
  pub shaped : (f : Field) (t : Syntax) → fits f t ≡ true → is_shaped t ≡ true
  shaped (field.One k) (Node at w parts) h = node_shaped (rule k w) parts (rule_few k w) h (each_shaped (rule k w) parts h)
  shaped (field.Maybe k) (Node at w parts) h = node_shaped (rule k w) parts (rule_few k w) h (each_shaped (rule k w) parts h)
  shaped (field.Many k) (Node at w parts) h = absurd (cc)
  shaped (field.Many k) (Listed parts) h = every_shaped k parts h
  shaped (field.One k) (Listed parts) h = absurd (cc)
  shaped (field.Maybe k) (Listed parts) h = absurd (cc)
  shaped f (Said text) h = refl
  shaped f (Count number) h = refl
  shaped f (Flag flag) h = refl
  shaped f Absent h = refl

  each_shaped : (fields : Option (List Field)) (ps : Pieces) → each fields ps ≡ true → are_shaped ps ≡ true
  each_shaped fields End h = refl
  each_shaped None (Then p ps) h = absurd (cc)
  each_shaped (Some []) (Then p ps) h = absurd (cc)
  each_shaped (Some (f ∷ fields)) (Then p ps) h =
      let both = and_parts (fits f p) (each (Some fields) ps) h in
      let first : is_shaped p ≡ true = shaped f p both.0 in
      let rest : are_shaped ps ≡ true = each_shaped (Some fields) ps both.1 in
      rw (first, rest) refl

  every_shaped : (k : Kind) (ps : Pieces) → every k ps ≡ true → are_items ps ≡ true
  every_shaped k End h = refl
  every_shaped k (Then p ps) h =
      let whole = and_parts (is_item p && fits (field.One k) p) (every k ps) h in
      let both = and_parts (is_item p) (fits (field.One k) p) whole.0 in
      let first : is_shaped p ≡ true = shaped (field.One k) p both.1 in
      let rest : are_items ps ≡ true = every_shaped k ps whole.1 in
      rw (both.0, first, rest) refl
