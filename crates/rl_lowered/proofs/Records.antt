-- The diagnostics that moves record: none, one, or that of a variable that is looked up.
use Rattle.std.proofs.Common.{◌≡◌, ◌≢◌, ℕ, ◌&&◌, ◌++◌, Bool, true, false, if◌then◌else◌, List, [], ◌∷◌, Option, Some, None, codes}
use Rattle.std.proofs.Common.{append-nil, append_assoc, refl, sym, ap, ◌∙◌, subst, unwrap_or}
use Rattle.std.proofs.lemmas.Slice.Eq.{bytes_eq-Decides}
use Rattle.std.specs.Option.{option_map, option_map_or}
use Rattle.std.specs.Str.{bytes_eq}
use Rattle.rl_base.specs.declared.operator.UpdateOperator.{UpdateOperator}
use Rattle.rl_base.specs.declared.row.Row.TheVariants as row
use Rattle.rl_base.specs.declared.type_kind.TypeKind.{TypeKind}
use Rattle.rl_base.specs.declared.type_kind.TypeKind.TheVariants as types
use Rattle.rl_base.specs.declared.variable_kind.VariableKind.{VariableKind}
use Rattle.rl_base.specs.declared.variable_kind.VariableKind.TheVariants as kinds
use Rattle.rl_base.specs.Diagnostics.{diagnostic_at}
use Rattle.rl_base.specs.VariableKinds.{variable_text}
use Rattle.rl_bindings.specs.declared.event.Bound.{Bound}
use Rattle.rl_builder.specs.Builder.{entered, innermost, new_block, pushed, pushed_under, recorded, reserved, with_temporary}
use Rattle.rl_builder.specs.Names.{fbt_label, resolved_by}
use Rattle.rl_builder.specs.Temporaries.{temporary, unordered, with_value}
use Rattle.rl_frames.specs.Parts.{chain_reserved, logical_begun, logical_entered, logical_left, logical_place}
use Rattle.rl_hir.specs.declared.function.BlockKind.TheVariants as blocks
use Rattle.rl_hir.specs.declared.instruction.Instruction.{Instruction}
use Rattle.rl_hir.specs.declared.instruction.InstructionKind.TheVariants as variables
use Rattle.rl_hir.specs.declared.instruction.InstructionValue.TheVariants as values
use Rattle.rl_hir.specs.declared.instruction.PrimitiveValue.TheVariants as primitives
use Rattle.rl_hir.specs.Pairs.{identifier_of}
use Rattle.rl_lowered.proofs.Common.{BlockId, Diagnostic, InstructionValue, Names, Place, Span, State, SymbolId}
use Rattle.rl_lowered.specs.Forms.{MemberKey, load_of, store_of, typed}
use Rattle.rl_lowered.specs.Lowered.{declaring, member_loaded, member_one}
use Rattle.rl_lowered.specs.Lowered.{member_stored, member_updated}
use Rattle.rl_lowered.specs.Named.{IsFound, TellDeclarations, found}
use Rattle.rl_optional_frames.specs.Frames.{LinkParts, link_ended}
use Rattle.rl_optional_frames.specs.Parts.{link_opened, undefined_made}
use Rattle.rl_promises.proofs.Covering.{none_in}
use Rattle.rl_promises.specs.Rows.{IsTold, Nothing, Records, Renamed, Told, label_of, refusal}
use Rattle.rl_promises.specs.Rows.{said_of_local}
use Rattle.rl_resolver.specs.Lookups.{declaration_ident}
use Rattle.rl_runs.specs.Moves.{stored_in}
use Rattle.rl_used_names.specs.IdentifierNames.{fbt, fbt_diagnostic, is_named, name_of}

-- The diagnostics so far.
abbrev pub said : State → List Diagnostic
said s = s.env.diagnostics

-- The diagnostics that are recorded for a tree, and for others behind it.

pub told_all : (ds : List Diagnostic) → IsTold ds ds
told_all [] = Nothing
told_all (d ∷ ds) = Told d (told_all ds)

pub told_append : {xs ts ys us : List Diagnostic} → IsTold xs ts → IsTold ys us → IsTold (xs ++ ys) (ts ++ us)
told_append Nothing more = more
told_append (Told d rest) more = Told d (told_append rest more)
told_append (Renamed d is rest) more = Renamed d is (told_append rest more)

pub records_all : (all old new : List Diagnostic) → new ≡ old ++ all → Records all old new
records_all all old new is =
    record { told = all; is = is; kept = told_all all; none = λ none. (none_in old all (sym is ∙ none)).1 }

pub records_then : (xs ys a b c : List Diagnostic) → Records xs a b → Records ys b c → Records (xs ++ ys) a c
records_then xs ys a b c j k = record {
  told = j.told ++ k.told;
  is = k.is ∙ ap (λ (l : List Diagnostic). l ++ k.told) j.is ∙ append_assoc a j.told k.told;
  kept = told_append j.kept k.kept;
  none = λ none.
      let before : b ≡ [] = (none_in b k.told (sym k.is ∙ none)).0 in
      ap (λ (l : List Diagnostic). l ++ ys) (j.none before) ∙ k.none none;
}

-- A tree without refusals, and none of it behind another.
pub records_none : (all old new : List Diagnostic) → all ≡ [] → new ≡ old → Records all old new
records_none all old new none same =
    records_all all old new (same ∙ sym (append-nil old) ∙ ap (λ (l : List Diagnostic). old ++ l) (sym none))

pub records_same : (all others old new : List Diagnostic) → all ≡ others → Records others old new → Records all old new
records_same all others old new is r = subst (λ (l : List Diagnostic). Records l old new) (sym is) r

pub records_unit : (all old new : List Diagnostic) → Records all old new → Records (all ++ []) old new
records_unit all old new r = records_same (all ++ []) all old new (append-nil all) r

-- Moves that record nothing, behind a part and before it.

pub records_behind : (all old new last : List Diagnostic) → last ≡ new → Records all old new → Records all old last
records_behind all old new last same r = subst (λ (l : List Diagnostic). Records all old l) (sym same) r

pub records_before : (all first old new : List Diagnostic) → old ≡ first → Records all old new → Records all first new
records_before all first old new same r = subst (λ (l : List Diagnostic). Records all l new) same r

-- Moves that record nothing.

pub under_said : (o : Option BlockId) (s : State) (i : Instruction) → said (pushed_under o s i) ≡ said s
under_said None s i = refl
under_said (Some handler) s i = refl

pub pushed_said : (s : State) (i : Instruction) → said (pushed s i) ≡ said s
pushed_said s i = under_said (innermost s.handlers) s i

pub value_said : (s : State) (v : InstructionValue) (span : Option Span) → said (with_value s v span) ≡ said s
value_said s v span = pushed_said (with_temporary s span) (unordered (temporary s span) v span)

pub stored_said : (s : State) (place value : Place) (part : Span) → said (stored_in s place value part) ≡ said s
stored_said s place value part = value_said s (values.StoreLocal variables.Const place value) (Some part)

pub begun_said : (s : State) (span left : Span) → said (logical_begun s span left) ≡ said s
begun_said s span left = stored_said (logical_entered s span left) (logical_place s span) (logical_left s left) left

pub typed_said : (s : State) (k : TypeKind) → said (typed s k) ≡ said s
typed_said s types.Array = refl
typed_said s types.Primitive = refl
typed_said s types.Other = refl

pub member_said : (t : State) (object : Place) (key : MemberKey) (operator : UpdateOperator) (there : Span)
    → said (member_stored t object key operator there) ≡ said t
member_said t object key operator there =
    let loaded : State = member_loaded t object key there in
    let one : State = member_one t object key there in
    let updated : State = member_updated t object key operator there in
    value_said updated (store_of object key (temporary one (Some there))) (Some there)
    ∙ value_said one _ (Some there) ∙ value_said loaded (values.Primitive (primitives.Number 1)) None
    ∙ value_said t (load_of object key) (Some there)

-- A link of a chain begins, and ends.

pub link_opened_said : (alternate : Option BlockId) (s : State) (span : Span) → said (link_opened alternate s span) ≡ said s
link_opened_said None s span =
    let x : State = chain_reserved s span in
    let begun : State = entered (reserved x) (new_block x.env.next_block blocks.Value) in
    stored_said (undefined_made begun span) (temporary s (Some span)) (temporary x (Some span)) span
    ∙ value_said begun (values.Primitive primitives.Undefined) (Some span)
link_opened_said (Some given) s span = refl

pub link_ended_said : (f : LinkParts) (s : State) (value : Place) → said (link_ended f s value) ≡ said s
link_ended_said f s value = stored_said s f.place value f.span

-- A diagnostic, and a value behind it.
pub noted_said : (s : State) (d : Diagnostic) (v : InstructionValue) (span : Option Span)
    → Records (d ∷ []) (said s) (said (with_value (recorded s d) v span))
noted_said s d v span = records_all (d ∷ []) (said s) _ (value_said (recorded s d) v span)

-- The keyword of a declaration.
pub declaring_said : (s : State) (k : VariableKind) (at : Span)
    → Records (if bytes_eq (variable_text k) (codes "var") then refusal row.F39 at ∷ [] else []) (said s) (said (declaring s k at))
declaring_said s kinds.Var at = records_all (refusal row.F39 at ∷ []) (said s) _ refl
declaring_said s kinds.Let at = records_none [] (said s) _ refl refl
declaring_said s kinds.Const at = records_none [] (said s) _ refl refl
declaring_said s kinds.Using at = records_none [] (said s) _ refl refl
declaring_said s kinds.AwaitUsing at = records_none [] (said s) _ refl refl

-- A variable is looked up.

pub label_by : (o : Option Bound) (at : Span) → option_map_or (λ b. b.span) o at ≡ unwrap_or (option_map (λ b. b.span) o) at
label_by None at = refl
label_by (Some b) at = refl

-- The builder's label of row F40 is that of the names.
pub label_told : (names : Names) (s : State) (symbol : SymbolId) (at : Span) → TellDeclarations names s.semantic
    → fbt_label s symbol.0 (Some at) ≡ label_of names symbol at
label_told names s symbol at told =
    label_by (declaration_ident s.semantic.bindings.symbols symbol.0) at ∙ ap (λ (o : Option Span). unwrap_or o at) (sym (told symbol.0))

-- A name `fbt`, and an identifier that still has it.
pub known_said : (is still : Bool) (label : Span) (old : List Diagnostic) → (is ≡ true → old ≢ [])
    → Records (if is then fbt_diagnostic label ∷ [] else []) old (old ++ (if is && still then fbt_diagnostic label ∷ [] else []))
known_said false still label old noted = records_all [] old _ refl
known_said true true label old noted = records_all (fbt_diagnostic label ∷ []) old _ refl
known_said true false label old noted = record {
  told = [];
  is = refl;
  kept = Renamed (fbt_diagnostic label) refl Nothing;
  none = λ none. absurd (noted refl (sym (append-nil old) ∙ none));
}

pub fresh_said : (is : Bool) (label : Span) (old : List Diagnostic)
    → Records (if is then fbt_diagnostic label ∷ [] else []) old (old ++ (if is && true then fbt_diagnostic label ∷ [] else []))
fresh_said false label old = records_all [] old _ refl
fresh_said true label old = records_all (fbt_diagnostic label ∷ []) old _ refl

pub found_by : (names : Names) (s : State) (symbol : SymbolId) (at : Span) (identifier : ℕ) (known : Option ℕ)
    → identifier_of s.bindings symbol.0 ≡ known → IsFound names s symbol at identifier
    → Records (said_of_local (names.name symbol.0) (fbt_label s symbol.0 (Some at))) (said s)
    (said (resolved_by known s (names.name symbol.0) symbol.0 (Some at)))
found_by names s symbol at identifier None is f =
    fresh_said (bytes_eq (names.name symbol.0) fbt) (fbt_label s symbol.0 (Some at)) (said s)
found_by names s symbol at identifier (Some known) is f =
    known_said (bytes_eq (names.name symbol.0) fbt) (is_named (name_of s.env.identifiers known) fbt) (fbt_label s symbol.0 (Some at))
    (said s) (λ test. f.named.noted symbol.0 known is ((bytes_eq-Decides (names.name symbol.0) fbt).0 test))

pub found_said : (names : Names) (s : State) (symbol : SymbolId) (at : Span) (identifier : ℕ) → IsFound names s symbol at identifier
    → Records (said_of_local (names.name symbol.0) (label_of names symbol at)) (said s) (said (found names s symbol at))
found_said names s symbol at identifier f =
    records_same _ _ (said s) _
    (ap (λ (label : Span). said_of_local (names.name symbol.0) label) (sym (label_told names s symbol at f.named.declared)))
    (found_by names s symbol at identifier (identifier_of s.bindings symbol.0) refl f)

-- A constant is looked up, and refused (row F6).
pub constant_said : (names : Names) (s : State) (symbol : SymbolId) (at : Span) (identifier : ℕ) (span : Option Span)
    → IsFound names s symbol at identifier
    → Records (said_of_local (names.name symbol.0) (label_of names symbol at) ++ diagnostic_at row.F6 (names.name symbol.0) at ∷ [])
    (said s)
    (said (with_value (recorded (found names s symbol at) (diagnostic_at row.F6 (names.name symbol.0) at))
    (values.Primitive primitives.Undefined) span))
constant_said names s symbol at identifier span f =
    let first : State = found names s symbol at in
    records_then _ _ (said s) (said first) _ (found_said names s symbol at identifier f)
    (noted_said first (diagnostic_at row.F6 (names.name symbol.0) at) (values.Primitive primitives.Undefined) span)

-- A value behind a look-up.
pub found_value_said : (names : Names) (s : State) (symbol : SymbolId) (at : Span) (identifier : ℕ) (v : InstructionValue) (span : Option Span)
    → IsFound names s symbol at identifier
    → Records (said_of_local (names.name symbol.0) (label_of names symbol at)) (said s) (said (with_value (found names s symbol at) v span))
found_value_said names s symbol at identifier v span f =
    records_behind _ (said s) (said (found names s symbol at)) _ (value_said (found names s symbol at) v span)
    (found_said names s symbol at identifier f)
