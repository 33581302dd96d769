-- The names that the lowering of a part keeps: identifiers that have a name, pairs, and functions.
use Rattle.std.proofs.Common.{◌≡◌, ◌≢◌, ℕ, ◌++◌, ◌&&◌, Bool, true, if◌then◌else◌, nat_eq, List, [], ◌∷◌, All, length, Option, Some, None}
use Rattle.std.proofs.Common.{slice_get, ◌+◌, ◌<◌, length-append, arith, refl, sym, ap, ◌∙◌, subst}
use Rattle.std.proofs.lemmas.Bool.{eqb-true}
use Rattle.std.proofs.lemmas.Cmp.{nat_list_eq_equiv}
use Rattle.std.proofs.lemmas.List.Elements.{All-push}
use Rattle.std.proofs.lemmas.Option.{cond_some, same_Some}
use Rattle.std.specs.Str.{bytes_eq}
use Rattle.rl_builder.specs.Builder.{recorded, with_temporary}
use Rattle.rl_builder.specs.Names.{fbt_label, fresh_identifier, resolved_by}
use Rattle.rl_builder.specs.Temporaries.{with_value}
use Rattle.rl_frames.specs.Frames.{LogicalParts, TernaryParts, logical_righted, ternary_alternated, ternary_consequent}
use Rattle.rl_frames.specs.Parts.{logical_begun, sequence_begun, ternary_begun}
use Rattle.rl_frames.specs.SwitchParts.{switch_begun}
use Rattle.rl_hir.specs.declared.function.Identifier.{Identifier}
use Rattle.rl_hir.specs.declared.function.IdentifierName.TheVariants.{Named}
use Rattle.rl_hir.specs.declared.function.Pair.{Pair}
use Rattle.rl_hir.specs.declared.function.Param.{Param}
use Rattle.rl_hir.specs.declared.instruction.InstructionKind.{InstructionKind}
use Rattle.rl_hir.specs.declared.terminal.Case.{Case}
use Rattle.rl_hir.specs.Pairs.{identifier_of, pair}
use Rattle.rl_lowered.proofs.Carrying.{IsCarried, Naming, naming}
use Rattle.rl_lowered.proofs.Carried.{later_carried, left_carried, moved_carried, params_carried, pattern_carried, target_carried}
use Rattle.rl_lowered.proofs.Carried.{all_carried, body_carried, carried_catch_begun, carried_link_opened}
use Rattle.rl_lowered.proofs.Carried.{carried_logical_begun, carried_logical_righted, carried_sequence_begun, carried_ternary_alternated}
use Rattle.rl_lowered.proofs.Carried.{carried_ternary_begun, carried_ternary_consequent, carried_value, case_test_carried, cases_carried}
use Rattle.rl_lowered.proofs.Carried.{expression_carried, front_carried, head_carried, init_carried, last_carried, link_carried}
use Rattle.rl_lowered.proofs.Carried.{loop_carried, spine_carried, statement_carried, statements_carried, test_carried}
use Rattle.rl_lowered.proofs.Catches.{length_promoted}
use Rattle.rl_lowered.proofs.Common.{BlockId, Diagnostic, InstructionValue, Names, Piece, Pieces, Place, Span, State, SymbolId, Syntax}
use Rattle.rl_lowered.proofs.ItemCarried.{bound_carried}
use Rattle.rl_lowered.proofs.Redeclared.{names_redeclared}
use Rattle.rl_lowered.specs.Forms.{Front}
use Rattle.rl_lowered.specs.Items.{BoundItems, Later, found_again, promoted}
use Rattle.rl_lowered.specs.Lowered.{LoweredBound, LoweredLater, LoweredMoved, LoweredParams, LoweredPattern, LoweredTarget}
use Rattle.rl_lowered.specs.Lowered.{Lowered, LoweredBody, LoweredCaseTest, LoweredCases, LoweredFront, LoweredHead, LoweredInit}
use Rattle.rl_lowered.specs.Lowered.{LoweredLast, LoweredLink, LoweredLoop, LoweredParts, LoweredSpine, LoweredStatement}
use Rattle.rl_lowered.specs.Lowered.{LoweredStatements, LoweredTest, catch_begun}
use Rattle.rl_lowered.specs.Named.{IsFound, IsNamed, KeepsNames, declared_span, found}
use Rattle.rl_model.specs.Actions.{Label}
use Rattle.rl_optional_frames.specs.Parts.{link_opened}
use Rattle.rl_promises.specs.Fields.{IsNamedPair, name_at}
use Rattle.rl_promises.specs.Locals.{IsVariable}
use Rattle.rl_runs.proofs.Steps.{get_more}
use Rattle.rl_used_names.proofs.NameLaws.{identifier_of-append_none, identifier_of-append_some, name_of-append, name_of-last}
use Rattle.rl_used_names.specs.Candidates.{candidate}
use Rattle.rl_used_names.specs.Choosing.{chosen, free_place}
use Rattle.rl_used_names.specs.IdentifierNames.{fbt, fbt_diagnostic}
use Rattle.rl_used_names.specs.UsedName.{UsedName}

pub names_then : {names : Names} (a b c : State) → KeepsNames names a b → KeepsNames names b c → KeepsNames names a c
names_then a b c j k = record {
  named = λ n. k.named (j.named n);
  identifiers = λ identifier known is named.
      let first = j.identifiers identifier known is named in
      let second = k.identifiers identifier (record known { span = first.span }) first.is named in
      record { span = second.span; is = second.is };
  pairs = λ p. k.pairs (j.pairs p);
  functions = k.functions ∙ j.functions;
  fn_type = k.fn_type ∙ j.fn_type;
  skip = k.skip ∙ j.skip;
}

-- A move that changes none of it.
pub names_same : {names : Names} (s t : State) → naming s ≡ naming t → KeepsNames names s t
names_same {names} s t same = record {
  named = λ n. record {
    knows = n.knows;
    declared = λ symbol. n.declared symbol ∙ ap (λ (k : Naming). declared_span k.semantic symbol) same;
    made = λ symbol identifier is.
        let below = n.made symbol identifier (ap (λ (k : Naming). identifier_of k.bindings symbol) same ∙ is) in
        let count = ap (λ (k : Naming). length k.identifiers) same in
        omega (arith, below, count);
    noted = λ symbol identifier is name none.
        n.noted symbol identifier (ap (λ (k : Naming). identifier_of k.bindings symbol) same ∙ is) name
        (ap (λ (k : Naming). k.diagnostics) same ∙ none);
  };
  identifiers = λ identifier known is named.
      record { span = known.span; is = ap (λ (k : Naming). slice_get k.identifiers identifier) (sym same) ∙ is };
  pairs = λ p. subst (λ (k : Naming). All (IsNamedPair names k.identifiers) k.pairs) same p;
  functions = ap (λ (k : Naming). k.functions) (sym same);
  fn_type = ap (λ (k : Naming). k.fn_type) (sym same);
  skip = ap (λ (k : Naming). k.skip) (sym same);
}

named_pairs : (names : Names) (identifiers more : List Identifier) (pairs : List Pair) → All (IsNamedPair names identifiers) pairs
    → All (IsNamedPair names (identifiers ++ more)) pairs
named_pairs names identifiers more pairs all place default within =
    let here = all place default within in
    record { at = here.at; declared = here.declared; index = here.index; named = name_of-append identifiers more _ _ here.named }

pub names_temporary : {names : Names} (s : State) (span : Option Span) → KeepsNames names s (with_temporary s span)
names_temporary {names} s span = record {
  named = λ n. record {
    knows = n.knows;
    declared = n.declared;
    made = λ symbol identifier is.
        let below = n.made symbol identifier is in
        let fresh : Identifier = record { name = None; span = span; type_id = record { 0 = s.env.next_type } } in
        omega (arith, below, length-append s.env.identifiers (fresh ∷ []));
    noted = n.noted;
  };
  identifiers = λ identifier known is named.
      record { span = known.span; is = get_more s.env.identifiers _ identifier known is };
  pairs = λ p. named_pairs names s.env.identifiers _ s.env.pairs p;
  functions = refl;
  fn_type = refl;
  skip = refl;
}

-- A diagnostic is recorded.

some_last : (ds : List Diagnostic) (d : Diagnostic) → ds ++ d ∷ [] ≢ []
some_last [] d e = cc
some_last (x ∷ ds) d e = cc

some_front : (ds more : List Diagnostic) → ds ≢ [] → ds ++ more ≢ []
some_front [] more some e = absurd (some refl)
some_front (x ∷ ds) more some e = cc

pub names_recorded : {names : Names} (s : State) (d : Diagnostic) → KeepsNames names s (recorded s d)
names_recorded s d = record {
  named = λ n. record {
    knows = n.knows;
    declared = n.declared;
    made = n.made;
    noted = λ symbol identifier is name. some_last s.env.diagnostics d;
  };
  identifiers = λ identifier known is named. record { span = known.span; is = is };
  pairs = λ p. p;
  functions = refl;
  fn_type = refl;
  skip = refl;
}

-- A variable is looked up: a new identifier is named for its symbol, and a name `fbt` is refused.

fresh_named : (identifiers : List Identifier) (used : List UsedName) (symbol : ℕ) (name : List ℕ) (span : Option Span) (type : ℕ)
    → name_at (identifiers ++ fresh_identifier (chosen used symbol name) span type ∷ []) (length identifiers)
    ≡ Some (Named (candidate name (free_place used symbol name)))
unfolding chosen
fresh_named identifiers used symbol name span type = name_of-last identifiers (fresh_identifier (chosen used symbol name) span type)

-- A symbol that has an identifier behind the look-up, and whose name is `fbt`.
module _ (names : Names) (s : State) (symbol : SymbolId) (at : Span) where
  abbrev made : State
  made = resolved_by None s (names.name symbol.0) symbol.0 (Some at)

  one_more : length made.env.identifiers ≡ length s.env.identifiers + 1
  one_more = length-append s.env.identifiers _

  made_noted : names.name symbol.0 ≡ fbt → made.env.diagnostics ≢ []
  made_noted name none =
      let test : bytes_eq (names.name symbol.0) fbt ≡ true = ap (λ (l : List ℕ). bytes_eq l fbt) name ∙ nat_list_eq_equiv.refl fbt in
      let label : Span = fbt_label s symbol.0 (Some at) in
      some_last s.env.diagnostics (fbt_diagnostic label)
      (sym (ap (λ (b : Bool). s.env.diagnostics ++ (if b && true then fbt_diagnostic label ∷ [] else [])) test) ∙ none)

  noted_by : (o : Option ℕ) (other identifier : ℕ) → identifier_of s.bindings other ≡ o → IsNamed names s
      → identifier_of made.bindings other ≡ Some identifier → names.name other ≡ fbt → made.env.diagnostics ≢ []
  noted_by (Some old) other identifier is n bound name = some_front s.env.diagnostics _ (n.noted other old is name)
  noted_by None other identifier is n bound name =
      let last = cond_some (nat_eq symbol.0 other) (length s.env.identifiers) identifier
      (sym (identifier_of-append_none s.bindings (pair symbol.0 (length s.env.identifiers) ∷ []) other is) ∙ bound) in
      made_noted (ap (λ (n : ℕ). names.name n) (eqb-true symbol.0 other last.0) ∙ name)

  made_by : (o : Option ℕ) (other identifier : ℕ) → identifier_of s.bindings other ≡ o → IsNamed names s
      → identifier_of made.bindings other ≡ Some identifier → identifier < length made.env.identifiers
  made_by (Some old) other identifier is n bound =
      let kept = identifier_of-append_some s.bindings (pair symbol.0 (length s.env.identifiers) ∷ []) other old is in
      let same : old ≡ identifier = same_Some old identifier (sym kept ∙ bound) in
      let below = n.made other old is in
      omega (arith, same, below, one_more)
  made_by None other identifier is n bound =
      let last = cond_some (nat_eq symbol.0 other) (length s.env.identifiers) identifier
      (sym (identifier_of-append_none s.bindings (pair symbol.0 (length s.env.identifiers) ∷ []) other is) ∙ bound) in
      omega (arith, last.1, one_more)

  names_by : (known : Option ℕ) → IsVariable names symbol
      → KeepsNames names s (resolved_by known s (names.name symbol.0) symbol.0 (Some at))
  names_by (Some known) v = record {
    named = λ n. record {
      knows = n.knows;
      declared = n.declared;
      made = n.made;
      noted = λ other identifier is name. some_front s.env.diagnostics _ (n.noted other identifier is name);
    };
    identifiers = λ identifier known is named. record { span = known.span; is = is };
    pairs = λ p. p;
    functions = refl;
    fn_type = refl;
    skip = refl;
  }
  names_by None v = record {
    named = λ n. record {
      knows = n.knows;
      declared = n.declared;
      made = λ other identifier is. made_by (identifier_of s.bindings other) other identifier refl n is;
      noted = λ other identifier is name. noted_by (identifier_of s.bindings other) other identifier refl n is name;
    };
    identifiers = λ identifier known is named.
        record { span = known.span; is = get_more s.env.identifiers _ identifier known is };
    pairs = λ p. All-push (IsNamedPair names made.env.identifiers) s.env.pairs (pair symbol.0 (length s.env.identifiers))
        (named_pairs names s.env.identifiers _ s.env.pairs p)
        (record {
          at = v.at;
          declared = v.declared;
          index = free_place s.used_names symbol.0 (names.name symbol.0);
          named = fresh_named s.env.identifiers s.used_names symbol.0 (names.name symbol.0) _ s.env.next_type;
        });
    functions = refl;
    fn_type = refl;
    skip = refl;
  }

pub names_found : {names : Names} (s : State) (symbol : SymbolId) (at : Span) (identifier : ℕ) → IsFound names s symbol at identifier
    → KeepsNames names s (found names s symbol at)
names_found {names} s symbol at identifier f = names_by names s symbol at (identifier_of s.bindings symbol.0) f.variable

-- The identifier was made.
pub found_within : {names : Names} (s : State) (symbol : SymbolId) (at : Span) (identifier : ℕ) → IsFound names s symbol at identifier
    → identifier < length (found names s symbol at).env.identifiers
found_within s symbol at identifier f = ((names_found s symbol at identifier f).named f.named).made symbol.0 identifier f.bound

names_found_again : {names : Names} (s : State) (symbol : SymbolId) (at : Span) (identifier : ℕ) → IsFound names s symbol at identifier
    → KeepsNames names s (found_again names s symbol identifier at)
names_found_again {names} s symbol at identifier f =
    names_then s (found names s symbol at) _ (names_found s symbol at identifier f)
    (names_redeclared (found names s symbol at) identifier at)

pub names_promoted : {names : Names} (s : State) (span : Span) → KeepsNames names s (promoted s span)
names_promoted {names} s span = record {
  named = λ n. record {
    knows = n.knows;
    declared = n.declared;
    made = λ symbol identifier is.
        let below = n.made symbol identifier is in
        omega (arith, below, length_promoted s span);
    noted = n.noted;
  };
  identifiers = λ identifier known is named.
      record { span = known.span; is = get_more s.env.identifiers _ identifier known is };
  pairs = λ p. named_pairs names s.env.identifiers _ s.env.pairs p;
  functions = refl;
  fn_type = refl;
  skip = refl;
}

-- Each move keeps the names, and so do lowered parts.
pub names_carried : {names : Names} → IsCarried names (λ behind s t. KeepsNames names s t)
names_carried = record {
  alike = λ {f} {g} s t same k. k;
  chain = λ {f} {g} a b c j k. names_then a b c j k;
  same = λ s t same. names_same s t same;
  temporary = λ s span. names_temporary s span;
  noted = λ s d. names_recorded s d;
  promotes = λ s span. names_promoted s span;
  looked = λ s symbol at identifier f. names_found s symbol at identifier f;
  again = λ s symbol at identifier f. names_found_again s symbol at identifier f;
}

-- Moves.

pub names_value : {names : Names} (s : State) (v : InstructionValue) (span : Option Span) → KeepsNames names s (with_value s v span)
names_value s v span = carried_value names_carried s v span

pub names_logical_begun : {names : Names} (s : State) (span left : Span) → KeepsNames names s (logical_begun s span left)
names_logical_begun s span left = carried_logical_begun names_carried s span left

pub names_logical_righted : {names : Names} (f : LogicalParts) (s : State) (value : Place) (part : Span)
    → KeepsNames names s (logical_righted f s value part)
names_logical_righted f s value part = carried_logical_righted names_carried f s value part

pub names_ternary_begun : {names : Names} (s : State) (span : Span) → KeepsNames names s (ternary_begun s span)
names_ternary_begun s span = carried_ternary_begun names_carried s span

pub names_ternary_consequent : {names : Names} (f : TernaryParts) (s : State) (value : Place) (part : Span)
    → KeepsNames names s (ternary_consequent f s value part)
names_ternary_consequent f s value part = carried_ternary_consequent names_carried f s value part

pub names_ternary_alternated : {names : Names} (f : TernaryParts) (s : State) (value : Place) (part : Span)
    → KeepsNames names s (ternary_alternated f s value part)
names_ternary_alternated f s value part = carried_ternary_alternated names_carried f s value part

pub names_sequence_begun : {names : Names} (s : State) (span : Span) → KeepsNames names s (sequence_begun s span)
names_sequence_begun s span = carried_sequence_begun names_carried s span

pub names_catch_begun : {names : Names} (s : State) (param : Span) → KeepsNames names s (catch_begun s param)
names_catch_begun s param = carried_catch_begun names_carried s param

pub names_link_opened : {names : Names} (alternate : Option BlockId) (s : State) (span : Span)
    → KeepsNames names s (link_opened alternate s span)
names_link_opened alternate s span = carried_link_opened names_carried alternate s span

-- Parts.

pub expression_names : {names : Names} {e : Syntax} {s t : State} {p : Place} → Lowered names e s t p → KeepsNames names s t
expression_names l = expression_carried names_carried l

pub spine_names : {names : Names} {below : Bool} {e : Syntax} {s t : State} {p : Place} → LoweredSpine names below e s t p
    → KeepsNames names s t
spine_names l = spine_carried names_carried l

pub link_names : {names : Names} {alternate : Option BlockId} {e : Syntax} {s t : State} {front : Front} {p : Place}
    → LoweredLink names alternate e s t front p → KeepsNames names s t
link_names l = link_carried names_carried l

pub front_names : {names : Names} {alternate : BlockId} {called : Bool} {e : Syntax} {s t : State} {front : Front}
    → LoweredFront names alternate called e s t front → KeepsNames names s t
front_names l = front_carried names_carried l

pub all_names : {names : Names} {of_object : Bool} {es : Pieces} {s t : State} {pieces : List Piece}
    → LoweredParts names of_object es s t pieces → KeepsNames names s t
all_names l = all_carried names_carried l

pub last_names : {names : Names} {es : Pieces} {s t : State} {p : Place} → LoweredLast names es s t p → KeepsNames names s t
last_names l = last_carried names_carried l

pub test_names : {names : Names} {at : Span} {e : Syntax} {s t : State} {p : Place} → LoweredTest names at e s t p → KeepsNames names s t
test_names l = test_carried names_carried l

pub head_names : {names : Names} {value : Place} {e : Syntax} {s t : State} {p : Place} → LoweredHead names value e s t p
    → KeepsNames names s t
head_names l = head_carried names_carried l

pub moved_names : {names : Names} {e : Syntax} {s t : State} {p : Place} → LoweredMoved names e s t p → KeepsNames names s t
moved_names l = moved_carried names_carried l

pub target_names : {names : Names} {at : Span} {value : Place} {e : Syntax} {s t : State} {p : Place}
    → LoweredTarget names at value e s t p → KeepsNames names s t
target_names l = target_carried names_carried l

pub later_names : {names : Names} {later : List Later} {s t : State} → LoweredLater names later s t → KeepsNames names s t
later_names l = later_carried names_carried l

pub items_names : {names : Names} {again of_object : Bool} {es : Pieces} {rest : Syntax} {s t : State} {pieces : List Piece}
    {later : List Later} → BoundItems names again of_object es rest s t pieces later → KeepsNames names s t
items_names l = bound_carried names_carried l

pub pattern_names : {names : Names} {again : Bool} {k : InstructionKind} {at : Span} {value : Place} {e : Syntax} {s t : State} {p : Place}
    → LoweredPattern names again k at value e s t p → KeepsNames names s t
pattern_names l = pattern_carried names_carried l

pub bound_names : {names : Names} {again : Bool} {k : InstructionKind} {later : List Later} {s t : State}
    → LoweredBound names again k later s t → KeepsNames names s t
bound_names l = left_carried names_carried l

pub params_names : {names : Names} {es : Pieces} {rest : Syntax} {s t : State} {ps : List Param} → LoweredParams names es rest s t ps
    → KeepsNames names s t
params_names l = params_carried names_carried l

pub case_test_names : {names : Names} {e : Syntax} {s t : State} {p : Option Place} → LoweredCaseTest names e s t p → KeepsNames names s t
case_test_names l = case_test_carried names_carried l

pub statement_names : {names : Names} {e : Syntax} {s t : State} → LoweredStatement names e s t → KeepsNames names s t
statement_names l = statement_carried names_carried l

-- From behind the block that was numbered for what follows the statement.
pub cases_names : {names : Names} {s : State} {es : Pieces} {ks : List Case} {t : State} → LoweredCases names s es ks t
    → KeepsNames names (switch_begun s) t
cases_names l = cases_carried names_carried l

pub loop_names : {names : Names} {own : Label} {e : Syntax} {s t : State} → LoweredLoop names own e s t → KeepsNames names s t
loop_names l = loop_carried names_carried l

pub init_names : {names : Names} {at : Span} {e : Syntax} {s t : State} → LoweredInit names at e s t → KeepsNames names s t
init_names l = init_carried names_carried l

pub statements_names : {names : Names} {es : Pieces} {s t : State} → LoweredStatements names es s t → KeepsNames names s t
statements_names l = statements_carried names_carried l

pub body_names : {names : Names} {b : Syntax} {s t : State} → LoweredBody names b s t → KeepsNames names s t
body_names l = body_carried names_carried l
