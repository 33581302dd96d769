-- Identifiers of symbols, and the names that they get. Symbols and identifiers are ids; `known` is the identifier of a
-- symbol, if it has one, and `given` the span of the node at which it is resolved, if there is one.
use Rattle.std.specs.Prelude.{◌≡◌, ℕ, ◌+◌, true, ◌&&◌, if◌then◌else◌, List, [], ◌∷◌, ◌++◌, length, map, unwrap_or}
use Rattle.std.specs.Prelude.{Option, Some, None, false, Result, OnOk, IfOk, IfErr}
use Rattle.std.specs.Option.{option_map_or, option_or}
use Rattle.std.specs.Str.{bytes_eq}
use Rattle.rl_base.specs.Reserved.{is_reserved}
use Rattle.rl_base.specs.declared.diagnostic.Diagnostic.{Diagnostic}
use Rattle.rl_base.specs.declared.ids.IdentifierId.{IdentifierId}
use Rattle.rl_base.specs.declared.ids.ReferenceId.{ReferenceId}
use Rattle.rl_base.specs.declared.span.Span.{Span}
use Rattle.rl_base.specs.declared.stop.Stop.{Stop}
use Rattle.rl_base.specs.declared.stop.Stop.TheVariants as stops
use Rattle.rl_context.specs.Index.{declaration_span}
use Rattle.rl_hir.specs.Pairs.{identifier_of, pair}
use Rattle.rl_hir.specs.declared.environment.Environment.{Environment}
use Rattle.rl_hir.specs.declared.environment.Rename.{Rename}
use Rattle.rl_hir.specs.declared.function.Identifier.{Identifier}
use Rattle.rl_hir.specs.declared.function.IdentifierName.TheVariants as names
use Rattle.rl_resolver.specs.Listed.{reference_ids}
use Rattle.rl_resolver.specs.Lookups.{declaration_ident, first_bind}
use Rattle.rl_builder.specs.Builder.{State}
use Rattle.rl_used_names.specs.Apart.{AreApart}
use Rattle.rl_used_names.specs.Choosing.{with_user, chosen}
use Rattle.rl_used_names.specs.IdentifierNames.{fbt, is_fbt, fbt_diagnostic, reserved_diagnostic, AreNamed}

-- The label of row S1: the given span, else that of the symbol's first `bind` node.
abbrev pub reserved_label : State → (symbol : ℕ) → (given : Option Span) → Span
reserved_label s symbol given = unwrap_or given (first_bind s.semantic.bindings.symbols symbol)

-- The label of row F40: the span of the symbol's declaration identifier, where it has one.
abbrev pub fbt_label : State → (symbol : ℕ) → (given : Option Span) → Span
fbt_label s symbol given = option_map_or (λ b. b.span) (declaration_ident s.semantic.bindings.symbols symbol) (reserved_label s symbol given)

-- The diagnostics that resolving a symbol records, each time.
abbrev pub refused_name : Option ℕ → List Identifier → List ℕ → (label : Span) → List Diagnostic
refused_name known identifiers name label = if bytes_eq name fbt && is_fbt known identifiers then fbt_diagnostic label ∷ [] else []

-- Records the diagnostics of the name.
abbrev pub with_refused : Option ℕ → State → List ℕ → (label : Span) → State
with_refused known s name label = record s { env = record s.env { diagnostics = s.env.diagnostics ++ refused_name known s.env.identifiers name label } }

-- The new name of a reference.
abbrev pub renamed : (free : List ℕ) → ReferenceId → Rename
renamed free reference = record { reference = reference; name = free }

-- The new names of references, in order, where their symbol gets another name than its own.
abbrev pub renames_among : List ReferenceId → (name free : List ℕ) → List Rename
renames_among references name free = if bytes_eq free name then [] else map (renamed free) references

-- The new names of a symbol's references.
abbrev pub renames_of : State → (name free : List ℕ) → (symbol : ℕ) → List Rename
renames_of s name free symbol = renames_among (reference_ids s.semantic.bindings.symbols s.semantic.bindings.references symbol) name free

-- The span of a symbol's new identifier: that of its declaration, where the index has it, else the given one.
abbrev pub new_span : State → (symbol : ℕ) → (given : Option Span) → Option Span
new_span s symbol given = option_or (declaration_span s.sites s.semantic.bindings.symbols symbol) given

-- `old` where the symbol has an identifier, else `new`.
abbrev pub if_known : {X : Type 0} → Option ℕ → X → X → X
if_known (Some known) old new = old
if_known None old new = new

-- An identifier of a name of the source.
abbrev pub fresh_identifier : (free : List ℕ) → Option Span → (type_id : ℕ) → Identifier
fresh_identifier free span type_id = record { name = Some (names.Named free); span = span; type_id = record { 0 = type_id } }

-- The environment with one more identifier, named `free`, its pair and its renames, where the symbol has none.
abbrev pub env_resolved : Option ℕ → Environment → List ℕ → ℕ → Option Span → List Rename → Environment
env_resolved known env free symbol span renames = record env {
  next_type = if_known known env.next_type (env.next_type + 1);
  identifiers = if_known known env.identifiers (env.identifiers ++ fresh_identifier free span env.next_type ∷ []);
  pairs = if_known known env.pairs (env.pairs ++ pair symbol (length env.identifiers) ∷ []);
  renames = if_known known env.renames (env.renames ++ renames);
}

-- Gives a symbol that has no identifier a fresh one, under the first free candidate.
abbrev pub with_binding : State → List ℕ → ℕ → (given : Option Span) → State
with_binding s name symbol given =
    let free = chosen s.used_names symbol name in
    record s {
      env = env_resolved None s.env free symbol (new_span s symbol given) (renames_of s name free symbol);
      bindings = s.bindings ++ pair symbol (length s.env.identifiers) ∷ [];
      used_names = with_user s.used_names free symbol;
    }

-- As `resolved`, with the identifier of the symbol given.
abbrev pub resolved_by : Option ℕ → State → List ℕ → ℕ → (given : Option Span) → State
resolved_by known s name symbol given =
    let free = chosen s.used_names symbol name in
    let env = env_resolved known s.env free symbol (new_span s symbol given) (renames_of s name free symbol) in
    record s {
      env = record env { diagnostics = s.env.diagnostics ++ refused_name known s.env.identifiers name (fbt_label s symbol given) };
      bindings = if_known known s.bindings (s.bindings ++ pair symbol (length s.env.identifiers) ∷ []);
      used_names = if_known known s.used_names (with_user s.used_names free symbol);
    }

-- Resolves a symbol: it keeps its identifier, or gets a fresh one under the first free candidate.
abbrev pub resolved : State → List ℕ → ℕ → (given : Option Span) → State
resolved s name symbol given = resolved_by (identifier_of s.bindings symbol) s name symbol given

-- Resolving stops with the diagnostic: the name is reserved, and the symbol has no identifier.
pub record IsStopped (s : State) (name : List ℕ) (symbol : ℕ) (given : Option Span) (d : Diagnostic) : Type 0 where
  pub diagnostic : d ≡ reserved_diagnostic name (reserved_label s symbol given)
  pub word : is_reserved name ≡ true
  pub fresh : identifier_of s.bindings symbol ≡ None

-- The identifier of a symbol, or the one that it gets when it is resolved.
abbrev pub resolved_identifier : State → ℕ → ℕ
resolved_identifier s symbol = option_map_or (λ known. known) (identifier_of s.bindings symbol) (length s.env.identifiers)

-- The names and identifiers of a builder agree.
abbrev pub NamesAgree : State → Type 0
NamesAgree s = AreNamed s.bindings s.used_names s.env.identifiers

-- A call that resolves a symbol returns `result`, and takes the builder from the state `old` to `new`. On `Ok` the result is the
-- symbol's identifier; names and identifiers agree if they did, and no two symbols share one; and if the symbol had no identifier,
-- the name is not reserved. On a diagnostic the name is reserved, the symbol has no identifier, and nothing changed.
pub record Resolves (old new : State) (name : List ℕ) (symbol : ℕ) (given : Option Span) (result : Result IdentifierId Stop) : Type 0 where
  pub state : OnOk result (new ≡ resolved old name symbol given)
  pub identifier : IfOk result (λ i. identifier_of new.bindings symbol ≡ Some i.0)
  pub names : OnOk result (NamesAgree old → NamesAgree new)
  pub apart : OnOk result (NamesAgree old → AreApart new.bindings new.env.identifiers)
  pub allowed : OnOk result (identifier_of old.bindings symbol ≡ None → is_reserved name ≡ false)
  pub stopped : IfErr result (λ e. (d : Diagnostic) → e ≡ stops.Diagnostic d → IsStopped old name symbol given d)
  pub unchanged : IfErr result (λ e. (d : Diagnostic) → e ≡ stops.Diagnostic d → new ≡ old)
