-- Moves of the lowering add to the instructions that a counted node counts as many as the nodes that they are made for.
use Rattle.std.proofs.Common.{◌≡◌, ℕ, ◌+◌, ◌++◌, ◌&&◌, if◌then◌else◌, Bool, true, false, List, [], ◌∷◌, Option, Some, None, codes, refl}
use Rattle.std.proofs.Common.{sym, ap, ◌∙◌, arith}
use Rattle.rl_base.specs.declared.operator.UpdateOperator.{UpdateOperator}
use Rattle.rl_base.specs.declared.type_kind.TypeKind.{TypeKind}
use Rattle.rl_base.specs.declared.type_kind.TypeKind.TheVariants as types
use Rattle.rl_base.specs.declared.variable_kind.VariableKind.{VariableKind}
use Rattle.rl_base.specs.declared.variable_kind.VariableKind.TheVariants as kinds
use Rattle.rl_builder.specs.Builder.{entered, innermost, new_block, pushed, pushed_under, reserved, with_temporary}
use Rattle.rl_builder.specs.Temporaries.{temporary, unordered, with_value}
use Rattle.rl_frames.specs.Parts.{chain_reserved, loads}
use Rattle.rl_grammar.proofs.Viewing.{rest_fit}
use Rattle.rl_grammar.specs.declared.kind.Kind.TheVariants as sort
use Rattle.rl_grammar.specs.Grammar.{every}
use Rattle.rl_hir.specs.declared.function.BlockKind.TheVariants as blocks
use Rattle.rl_hir.specs.declared.instruction.Instruction.{Instruction}
use Rattle.rl_hir.specs.declared.instruction.InstructionKind.{InstructionKind}
use Rattle.rl_hir.specs.declared.instruction.InstructionKind.TheVariants as variables
use Rattle.rl_hir.specs.declared.instruction.InstructionValue.TheVariants as values
use Rattle.rl_hir.specs.declared.instruction.PrimitiveValue.TheVariants as primitives
use Rattle.rl_lowered.proofs.Common.{BlockId, End, InstructionValue, Names, Node, Pieces, Place, Said, Span, State, Syntax, Then}
use Rattle.rl_lowered.proofs.HeldParts.{HeldBy, IsHeldAs, Unheld}
use Rattle.rl_lowered.proofs.HeldParts.{counted_among, is_held}
use Rattle.rl_lowered.proofs.Sums.{added_behind}
use Rattle.rl_lowered.proofs.Sums.{added_four}
use Rattle.rl_lowered.proofs.Sums.{added_opened}
use Rattle.rl_lowered.proofs.Sums.{none_more}
use Rattle.rl_lowered.specs.Forms.{Computed, Fixed, MemberKey, load_of, store_of, typed}
use Rattle.rl_lowered.specs.Lowered.{assigned_to, declaring}
use Rattle.rl_lowered.specs.Lowered.{kind_of, member_loaded, member_one, member_stored}
use Rattle.rl_lowered.specs.Lowered.{member_updated, throwing, throwing_under, update_of}
use Rattle.rl_model.specs.Counted.{Counted}
use Rattle.rl_model.specs.Worlds.{is_reassign}
use Rattle.rl_base.specs.declared.operator.BinaryOperator.TheVariants as operators
use Rattle.rl_hir.specs.declared.instruction.Pattern.{Pattern}
use Rattle.rl_optional_frames.specs.Frames.{default_at, default_ended}
use Rattle.rl_optional_frames.specs.Parts.{default_given, default_test}
use Rattle.rl_lowered.specs.Items.{destructured}
use Rattle.rl_lowered.proofs.Rearranged.{tally_append}
use Rattle.rl_optional_frames.specs.Parts.{link_opened, undefined_made}
use Rattle.rl_promises.specs.Held.{is_of, is_span, times}
use Rattle.rl_promises.specs.Live.{Held, held_among, held_as, held_in}
use Rattle.rl_promises.specs.Tallies.{Awaits, Calls, Constructions, IsHeldKind, Stores, held_span, held_word, is_among}
use Rattle.rl_promises.specs.Tallies.{stores_at, tallied, tally_of}
use Rattle.rl_promises.specs.Tallies.{tallied_among}
use Rattle.rl_runs.specs.Moves.{stored_in}
use Rattle.rl_syntax.specs.Syntax.{Absent, Count, Flag, Listed}

-- The table of a state with one more instruction.
pub table_under : (o : Option BlockId) (s : State) (i : Instruction) → (pushed_under o s i).table ≡ s.table ++ i ∷ []
table_under None s i = refl
table_under (Some handler) s i = refl

-- Values whose instructions are not counted.

pub unheld_value : {kinds : List (List ℕ)} → IsHeldKind kinds → (v : InstructionValue) → is_held v ≡ false → is_of kinds v ≡ false
unheld_value Calls (values.CallExpression callee given) is = absurd (cc)
unheld_value Calls (values.MethodCall call) is = absurd (cc)
unheld_value Calls _ is = refl
unheld_value Constructions (values.NewExpression callee given) is = absurd (cc)
unheld_value Constructions _ is = refl
unheld_value Awaits (values.Await value) is = absurd (cc)
unheld_value Awaits _ is = refl
unheld_value Stores (values.StoreLocal kind place value) is = is
unheld_value Stores (values.StoreContext kind place value) is = is
unheld_value Stores (values.StoreGlobal name value) is = absurd (cc)
unheld_value Stores _ is = refl

pub update_unheld : (prefix : Bool) (operator : UpdateOperator) (p : Place) → is_held (update_of prefix operator p) ≡ false
update_unheld true operator p = refl
update_unheld false operator p = refl

pub load_unheld : (object : Place) (key : MemberKey) → is_held (load_of object key) ≡ false
load_unheld object (Fixed key) = refl
load_unheld object (Computed p) = refl

pub store_unheld : (object : Place) (key : MemberKey) (v : Place) → is_held (store_of object key v) ≡ false
store_unheld object (Fixed key) v = refl
store_unheld object (Computed p) v = refl

-- Moves that leave the table as it is.

pub typed_table : (s : State) (k : TypeKind) → (typed s k).table ≡ s.table
typed_table s types.Array = refl
typed_table s types.Primitive = refl
typed_table s types.Other = refl

pub declaring_table : (s : State) (k : VariableKind) (at : Span) → (declaring s k at).table ≡ s.table
declaring_table s kinds.Var at = refl
declaring_table s _ at = refl

-- A declaration stores to a variable that it declares.
pub declared_kind : (k : VariableKind) → is_reassign (kind_of k) ≡ false
declared_kind kinds.Var = refl
declared_kind _ = refl

throwing_table_under : (o : Option BlockId) (s : State) (at : Span) → (throwing_under o s at).table ≡ s.table
throwing_table_under None s at = refl
throwing_table_under (Some handler) s at = refl

pub throwing_table : (s : State) (at : Span) → (throwing s at).table ≡ s.table
throwing_table s at = throwing_table_under (innermost s.handlers) s at

-- The counted nodes of a list that the key counts.

abbrev pub tally_by : Counted → Option (List ℕ) → Span → ℕ
tally_by key o span = if is_among key.kinds o && is_span key.span (Some span) then 1 else 0

weigh_one : (key : Counted) (o : Option (List ℕ)) (span : Span) → tally_by key o span ≡ tally_of key (held_as o span)
weigh_one key None span = refl
weigh_one key (Some text) span = omega arith

module _ (key : Counted) (held : IsHeldKind key.kinds) where
  -- An instruction that the key counts is 1, and any other is 0.
  abbrev pub one : InstructionValue → Option Span → ℕ
  one v span = if is_of key.kinds v && is_span key.span span then 1 else 0

  times_more : (table : List Instruction) (i : Instruction) → times key (table ++ i ∷ []) ≡ times key table + one i.value i.span
  times_more [] i = omega arith
  times_more (j ∷ table) i = let more = times_more table i in omega (arith, more)

  pushed_tallies : (s : State) (i : Instruction) → times key (pushed s i).table ≡ times key s.table + one i.value i.span
  pushed_tallies s i = ap (λ (l : List Instruction). times key l) (table_under (innermost s.handlers) s i) ∙ times_more s.table i

  pub value_tallies : (s : State) (v : InstructionValue) (span : Option Span)
      → times key (with_value s v span).table ≡ times key s.table + one v span
  value_tallies s v span = pushed_tallies (with_temporary s span) (unordered (temporary s span) v span)

  -- A value that no key counts.
  pub unheld_tallies : (s : State) (v : InstructionValue) (span : Option Span) → is_held v ≡ false
      → times key (with_value s v span).table ≡ times key s.table + 0
  unheld_tallies s v span none =
      value_tallies s v span
      ∙ ap (λ (b : Bool). times key s.table + (if b && is_span key.span span then 1 else 0)) (unheld_value held v none)

  pub stored_tallies : (s : State) (place value : Place) (span : Span)
      → times key (stored_in s place value span).table ≡ times key s.table + 0
  stored_tallies s place value span = unheld_tallies s (values.StoreLocal variables.Const place value) (Some span) refl

  pub loaded_tallies : (s : State) (place value : Place) (span : Span)
      → times key (pushed s (loads place value span)).table ≡ times key s.table + 0
  loaded_tallies s place value span =
      pushed_tallies s (loads place value span)
      ∙ ap (λ (b : Bool). times key s.table + (if b && is_span key.span (Some span) then 1 else 0))
      (unheld_value held (values.LoadLocal value) refl)

  pub member_tallies : (t : State) (object : Place) (k : MemberKey) (operator : UpdateOperator) (there : Span)
      → times key (member_stored t object k operator there).table ≡ times key t.table + 0
  member_tallies t object k operator there =
      let loaded : State = member_loaded t object k there in
      let one : State = member_one t object k there in
      let updated : State = member_updated t object k operator there in
      added_four _ _ _ _ _ (unheld_tallies t (load_of object k) (Some there) (load_unheld object k))
      (unheld_tallies loaded (values.Primitive (primitives.Number 1)) None refl) (unheld_tallies one _ (Some there) refl)
      (unheld_tallies updated (store_of object k (temporary one (Some there))) (Some there) (store_unheld object k _))

  pub opened_tallies : (alternate : Option BlockId) (s : State) (span : Span)
      → times key (link_opened alternate s span).table ≡ times key s.table + 0
  opened_tallies None s span =
      let x : State = chain_reserved s span in
      let begun : State = entered (reserved x) (new_block x.env.next_block blocks.Value) in
      added_opened _ _ _ (unheld_tallies begun (values.Primitive primitives.Undefined) (Some span) refl)
      (stored_tallies (undefined_made begun span) (temporary s (Some span)) (temporary x (Some span)) span)
  opened_tallies (Some given) s span = omega arith

  -- The frame of a default adds what its hole does.
  pub default_tallies : (s t : State) (q value : Place) (span : Span) (n : ℕ) → times key t.table ≡ times key s.table + n
      → times key (default_ended (default_at s span value) t q).table ≡ times key s.table + n
  default_tallies s t q value span n is =
      let place : Place = temporary s (Some span) in
      let opened : State = default_given t (s.env.next_block + 1) place q span in
      let tested : State = default_test t s.env.next_block (s.env.next_block + 1) place q value span s.current in
      added_behind _ _ _ _
      (added_behind _ _ _ _
      (added_behind _ _ _ _ (added_behind _ _ _ _ is (stored_tallies t place q span)) (stored_tallies opened place value span))
      (unheld_tallies tested (values.Primitive primitives.Undefined) (Some span) refl))
      (unheld_tallies (undefined_made tested span) (values.BinaryExpression operators.StrictEquality value (temporary tested (Some span)))
      (Some span)
      refl)

  -- The instruction that takes a value apart, behind the items of a pattern.
  pub apart_tallies : (s t : State) (kind : InstructionKind) (pattern : Pattern) (value : Place) (at : Span) → t.table ≡ s.table
      → times key (with_value t (destructured kind pattern value) (Some at)).table ≡ times key s.table + 0
  apart_tallies s t kind pattern value at same =
      unheld_tallies t (destructured kind pattern value) (Some at) refl ∙ ap (λ (l : List Instruction). times key l + 0) same

  -- The instruction of a node counts as the node does.
  pub weight : (o : Option (List ℕ)) (v : InstructionValue) (span : Span) → IsHeldAs o v → one v (Some span) ≡ tally_by key o span
  weight o v span (Unheld is none) =
      ap (λ (b : Bool). if b && is_span key.span (Some span) then 1 else 0) (unheld_value held v none)
      ∙ sym (ap (λ (o : Option (List ℕ)). tally_by key o span) is)
  weight o v span (HeldBy text is counted) =
      ap (λ (b : Bool). if b && is_span key.span (Some span) then 1 else 0) (counted_among held v)
      ∙ ap (λ (o : Option (List ℕ)). tally_by key o span) (counted ∙ sym is)

  pub store_weight : (identifier : ℕ) (there : Span) (value : Place) (span : Span)
      → one (assigned_to identifier there value) (Some span) ≡ tally_by key (Some (codes "storelocal")) span
  store_weight identifier there value span =
      weight (Some (codes "storelocal")) (assigned_to identifier there value) span (HeldBy (codes "storelocal") refl refl)

  pub global_weight : (name : List ℕ) (value : Place) (span : Span)
      → one (values.StoreGlobal name value) (Some span) ≡ tally_by key (Some (codes "storelocal")) span
  global_weight name value span =
      weight (Some (codes "storelocal")) (values.StoreGlobal name value) span (HeldBy (codes "storelocal") refl refl)

module _ (names : Names) (key : Counted) where
  mutual
    pub weighed : (e : Syntax) → tallied names key e ≡ tally_of key (held_in names e)
    weighed (Node at w parts) =
        let rest = weighed_among parts in
        let span : Span = held_span w parts at.span in
        let own : List Held = held_as (held_word w parts) span in
        let itself = weigh_one key (held_word w parts) span in
        omega (
          arith,
          itself,
          rest,
          tally_append key (own ++ stores_at names w parts) (held_among names parts),
          tally_append key own (stores_at names w parts),
        )
    weighed (Listed parts) = weighed_among parts
    weighed (Said text) = refl
    weighed (Count number) = refl
    weighed (Flag flag) = refl
    weighed Absent = refl

    pub weighed_among : (es : Pieces) → tallied_among names key es ≡ tally_of key (held_among names es)
    weighed_among End = refl
    weighed_among (Then e es) =
        let first = weighed e in
        let rest = weighed_among es in
        omega (arith, first, rest, tally_append key (held_in names e) (held_among names es))

  pub texts_tallied : (texts : Pieces) → every sort.Text texts ≡ true → tallied_among names key texts ≡ 0
  texts_tallied End fit = refl
  texts_tallied (Then (Said text) texts) fit =
      none_more _ (texts_tallied texts (rest_fit sort.Text (Then (Said text) texts) (Said text) texts refl fit))
  texts_tallied (Then _ texts) fit = absurd (cc)

  -- Trees that hold the nodes that others do.

  pub same_tallied : (e inner : Syntax) → held_in names e ≡ held_in names inner → tallied names key e ≡ tallied names key inner
  same_tallied e inner same = weighed e ∙ ap (tally_of key) same ∙ sym (weighed inner)

  pub same_among : (fields parts : Pieces) → held_among names fields ≡ held_among names parts
      → tallied_among names key fields ≡ tallied_among names key parts
  same_among fields parts same = weighed_among fields ∙ ap (tally_of key) same ∙ sym (weighed_among parts)

  pub row_tallied : (e : Syntax) (parts : Pieces) → held_in names e ≡ held_among names parts
      → tallied names key e ≡ tallied_among names key parts
  row_tallied e parts same = weighed e ∙ ap (tally_of key) same ∙ sym (weighed_among parts)

  pub method_tallied : (e : Syntax) (span : Span) (parts es : Pieces)
      → held_in names e ≡ record { word = codes "methodcall"; span = span } ∷ (held_among names parts ++ held_among names es)
      → tallied names key e ≡ tally_by key (Some (codes "methodcall")) span + (tallied_among names key parts + tallied_among names key es)
  method_tallied e span parts es same =
      let whole = weighed e ∙ ap (tally_of key) same in
      let first = weighed_among parts in
      let second = weighed_among es in
      omega (arith, whole, first, second, tally_append key (held_among names parts) (held_among names es))

  -- Links of chains.

  pub link_tallied : (e object : Syntax) (parts : Pieces) → held_in names e ≡ held_in names object ++ held_among names parts
      → tallied names key e ≡ tallied names key object + tallied_among names key parts
  link_tallied e object parts same =
      let whole = weighed e ∙ ap (tally_of key) same in
      let first = weighed object in
      let second = weighed_among parts in
      omega (arith, whole, first, second, tally_append key (held_in names object) (held_among names parts))

  pub call_tallied : (e callee : Syntax) (es : Pieces) (text : List ℕ) (span : Span)
      → held_in names e ≡ record { word = text; span = span } ∷ (held_in names callee ++ held_among names es)
      → tallied names key e ≡ tally_by key (Some text) span + (tallied names key callee + tallied_among names key es)
  call_tallied e callee es text span same =
      let whole = weighed e ∙ ap (tally_of key) same in
      let first = weighed callee in
      let second = weighed_among es in
      omega (arith, whole, first, second, tally_append key (held_in names callee) (held_among names es))

  -- An assignment to a name counts by its store, and one to a property by its parts.

  pub stored_tallied : (e right : Syntax) (span : Span)
      → held_in names e ≡ record { word = codes "storelocal"; span = span } ∷ held_in names right
      → tallied names key e ≡ tally_by key (Some (codes "storelocal")) span + tallied names key right
  stored_tallied e right span same =
      let whole = weighed e ∙ ap (tally_of key) same in
      let rest = weighed right in
      omega (arith, whole, rest)

  pub parts_tallied : (e right : Syntax) (parts : Pieces) → held_in names e ≡ held_among names parts ++ held_in names right
      → tallied names key e ≡ tallied_among names key parts + tallied names key right
  parts_tallied e right parts same =
      let whole = weighed e ∙ ap (tally_of key) same in
      let first = weighed_among parts in
      let second = weighed right in
      omega (arith, whole, first, second, tally_append key (held_among names parts) (held_in names right))

  pub pair_tallied : (e first second : Syntax) → held_in names e ≡ held_in names first ++ held_in names second
      → tallied names key e ≡ tallied names key first + tallied names key second
  pair_tallied e first second same =
      let whole = weighed e ∙ ap (tally_of key) same in
      let one = weighed first in
      let other = weighed second in
      omega (arith, whole, one, other, tally_append key (held_in names first) (held_in names second))
