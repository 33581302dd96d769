-- Names and identifiers of a builder after a symbol gets its own.
use Rattle.std.proofs.Common.{◌≡◌, ◌≢◌, ℕ, ◌+◌, ◌<◌, ◌≤◌, ◌^◌, Bool, true, false, Option, Some, None, List, [], ◌∷◌, ◌++◌, length, true≢false, refl, sym, ap, ◌∙◌, length-append, arith}
use Rattle.std.proofs.lemmas.List.{append-nil}
use Rattle.std.proofs.lemmas.Option.{none-some, same_Some}
use Rattle.std.proofs.lemmas.Slice.Eq.{bytes_eq-Decides}
use Rattle.std.specs.Option.{option_map_or}
use Rattle.std.specs.Str.{bytes_eq}
use Rattle.rl_base.specs.Reserved.{is_reserved}
use Rattle.rl_base.specs.declared.diagnostic.Diagnostic.{Diagnostic}
use Rattle.rl_base.specs.declared.ids.IdentifierId.{IdentifierId}
use Rattle.rl_base.specs.declared.ids.SymbolId.{SymbolId}
use Rattle.rl_base.specs.declared.span.Span.{Span}
use Rattle.rl_hir.specs.Identifiers.{changed_at, with_name}
use Rattle.rl_hir.specs.Pairs.{identifier_of}
use Rattle.rl_hir.specs.declared.environment.Environment.{Environment}
use Rattle.rl_hir.specs.declared.environment.Rename.{Rename}
use Rattle.rl_hir.specs.declared.function.BlockKind.{BlockKind}
use Rattle.rl_hir.specs.declared.function.Identifier.{Identifier}
use Rattle.rl_hir.specs.declared.function.IdentifierName.TheVariants as names
use Rattle.rl_used_names.proofs.Candidates.{chosen-free}
use Rattle.rl_used_names.proofs.NameLaws.{changed_at-last, identifier_of-last, AreNamed-append, AreNamed-more}
use Rattle.rl_builder.specs.Builder.{State, one_identifier_more, with_temporary}
use Rattle.rl_builder.specs.Started.{Given, started}
use Rattle.rl_builder.specs.Names.{fbt_label, fresh_identifier, new_span, refused_name, with_refused, with_binding, resolved_by, resolved, resolved_identifier, env_resolved, NamesAgree}
use Rattle.rl_used_names.specs.Choosing.{IsFree, chosen}
use Rattle.rl_used_names.specs.IdentifierNames.{name_of, fbt, AreNamed}
use Rattle.rl_used_names.specs.UsedName.{user_of}
use Rattle.rl_hir.specs.Pairs.{pair}

-- A symbol that has an identifier keeps it.
pub resolved_by-known : (known : Option ℕ) (s : State) (name : List ℕ) (symbol : ℕ) (given : Option Span) (identifier : ℕ) → known ≡ Some identifier → with_refused known s name (fbt_label s symbol given) ≡ resolved_by known s name symbol given
resolved_by-known None s name symbol given identifier some = absurd (none-some identifier some)
resolved_by-known (Some known) s name symbol given identifier some = refl

-- A symbol that has no identifier gets one.
pub resolved_by-fresh : (known : Option ℕ) (s : State) (name : List ℕ) (symbol : ℕ) (given : Option Span) → known ≡ None → with_binding (with_refused known s name (fbt_label s symbol given)) name symbol given ≡ resolved_by known s name symbol given
resolved_by-fresh None s name symbol given none = refl
resolved_by-fresh (Some known) s name symbol given none = absurd (none-some known (sym none))

-- An identifier that was made after the references were renamed, noted beside its symbol and then named is a fresh one of that
-- name.
pub env_resolved-fresh : (old changed made noted named : Environment) (symbol : SymbolId) (identifier : IdentifierId) (free : List ℕ) (span : Option Span) (renames : List Rename)
    → changed ≡ record old { renames = old.renames ++ renames }
    → made ≡ one_identifier_more changed span
    → identifier.0 ≡ length changed.identifiers
    → noted ≡ record made { pairs = made.pairs ++ record { symbol = symbol; identifier = identifier } ∷ [] }
    → named ≡ record noted { identifiers = changed_at (with_name (names.Named free)) identifier.0 noted.identifiers }
    → named ≡ env_resolved None old free symbol.0 span renames
env_resolved-fresh old changed made noted named symbol identifier free span renames is_changed is_made is_next is_noted is_named =
    let unnamed : Identifier = record { name = None; span = span; type_id = record { 0 = old.next_type } } in
    let after : List Identifier → ℕ → Environment = λ identifiers place. record old { next_type = old.next_type + 1; identifiers = identifiers; pairs = old.pairs ++ pair symbol.0 place ∷ []; renames = old.renames ++ renames } in
    is_named
    ∙ ap (λ (e : Environment). record e { identifiers = changed_at (with_name (names.Named free)) identifier.0 e.identifiers })
    (is_noted ∙ ap (λ (e : Environment). record e { pairs = e.pairs ++ record { symbol = symbol; identifier = identifier } ∷ [] }) (is_made ∙ ap (λ (e : Environment). one_identifier_more e span) is_changed))
    ∙ ap (λ place. after (changed_at (with_name (names.Named free)) place (old.identifiers ++ unnamed ∷ [])) place) (is_next ∙ ap (λ (e : Environment). length e.identifiers) is_changed)
    ∙ ap (λ identifiers. after identifiers (length old.identifiers)) (changed_at-last (with_name (names.Named free)) old.identifiers unnamed)

-- The identifier of the symbol afterwards.
pub identifier_of-resolved : (s : State) (name : List ℕ) (symbol : ℕ) (given : Option Span) → identifier_of (resolved s name symbol given).bindings symbol ≡ Some (resolved_identifier s symbol)
identifier_of-resolved s name symbol given = by (identifier_of s.bindings symbol) refl
  where
    by : (known : Option ℕ) → identifier_of s.bindings symbol ≡ known → identifier_of (resolved_by known s name symbol given).bindings symbol ≡ Some (option_map_or (λ old. old) known (length s.env.identifiers))
    by None none = identifier_of-last s.bindings symbol (length s.env.identifiers) none
    by (Some old) some = some

-- At most one identifier is made, of a type of its own.
pub record OneMore (old new : Environment) : Type 0 where
  pub identifiers : length new.identifiers ≤ length old.identifiers + 1
  pub kept : length old.identifiers ≤ length new.identifiers
  pub types : new.next_type ≤ old.next_type + 1

pub OneMore-resolved : (s : State) (name : List ℕ) (symbol : ℕ) (given : Option Span) → OneMore s.env (resolved s name symbol given).env
OneMore-resolved s name symbol given = by (identifier_of s.bindings symbol)
  where
    by : (known : Option ℕ) → OneMore s.env (resolved_by known s name symbol given).env
    by None =
        let made = fresh_identifier (chosen s.used_names symbol name) (new_span s symbol given) s.env.next_type in
        let count = length-append s.env.identifiers (made ∷ []) in
        record { identifiers = omega (arith, count); kept = omega (arith, count); types = omega arith }
    by (Some old) = record { identifiers = omega arith; kept = omega arith; types = omega arith }

-- `fbt` is no reserved word
with_refused-reserved : (known : Option ℕ) (s : State) (name : List ℕ) (label : Span) → is_reserved name ≡ true → with_refused known s name label ≡ s
with_refused-reserved known s name label reserved = ap (λ (ds : List Diagnostic). record s { env = record s.env { diagnostics = s.env.diagnostics ++ ds } }) (by (bytes_eq name fbt) refl) ∙ ap (λ (ds : List Diagnostic). record s { env = record s.env { diagnostics = ds } }) (append-nil s.env.diagnostics)
  where
    by : (b : Bool) → bytes_eq name fbt ≡ b → refused_name known s.env.identifiers name label ≡ []
    by true same = absurd (true≢false (sym reserved ∙ ap is_reserved ((bytes_eq-Decides name fbt).0 same)))
    by false other = rw other refl

pub reserved-unchanged : (known : Option ℕ) (s new : State) (name : List ℕ) (label : Span) → new ≡ with_refused known s name label → is_reserved name ≡ true → new ≡ s
reserved-unchanged known s new name label is reserved = is ∙ with_refused-reserved known s name label reserved

-- Names and identifiers agree in the beginning where those that are given do, and after each resolution and temporary.
pub NamesAgree-started : (env : Environment) (given : Given) (kind : BlockKind) → AreNamed given.bindings given.used_names env.identifiers → NamesAgree (started env given kind)
NamesAgree-started env given kind agree = agree

pub NamesAgree-with_temporary : (s : State) (span : Option Span) → NamesAgree s → NamesAgree (with_temporary s span)
NamesAgree-with_temporary s span agree = AreNamed-append s.bindings s.used_names s.env.identifiers _ agree

pub NamesAgree-with_binding : (s : State) (name : List ℕ) (symbol : ℕ) (given : Option Span) → IsFree s.used_names symbol (chosen s.used_names symbol name) → NamesAgree s → NamesAgree (with_binding s name symbol given)
NamesAgree-with_binding s name symbol given free agree =
    let word = chosen s.used_names symbol name in
    AreNamed-more s.bindings s.used_names s.env.identifiers symbol word (fresh_identifier word (new_span s symbol given) s.env.next_type) free refl agree

pub NamesAgree-resolved : (s : State) (name : List ℕ) (symbol : ℕ) (given : Option Span) → length s.used_names < 2 ^ 64 → NamesAgree s → NamesAgree (resolved s name symbol given)
NamesAgree-resolved s name symbol given small agree = by (identifier_of s.bindings symbol)
  where
    by : (known : Option ℕ) → NamesAgree (resolved_by known s name symbol given)
    by None = NamesAgree-with_binding s name symbol given (chosen-free s.used_names symbol name small) agree
    by (Some old) = agree

-- Symbols whose identifiers have one name are one.
pub name_of-injective : (s : State) → NamesAgree s → (a b i j : ℕ) → identifier_of s.bindings a ≡ Some i → identifier_of s.bindings b ≡ Some j → name_of s.env.identifiers i ≡ name_of s.env.identifiers j → a ≡ b
name_of-injective s agree a b i j has_i has_j same =
    let one = agree.named a i has_i in
    let other = agree.named b j has_j in
    let name : one.name ≡ other.name = by one.name other.name (sym one.named ∙ same ∙ other.named) in
    same_Some a b (sym one.user ∙ ap (user_of s.used_names) name ∙ other.user)
  where
    by : (x y : List ℕ) → Some (names.Named x) ≡ Some (names.Named y) → x ≡ y
    by x y e = cc

-- No two symbols have identifiers of one name.
pub names-differ : (s : State) → NamesAgree s → (a b i j : ℕ) → a ≢ b → identifier_of s.bindings a ≡ Some i → identifier_of s.bindings b ≡ Some j → name_of s.env.identifiers i ≢ name_of s.env.identifiers j
names-differ s agree a b i j differ has_i has_j same = differ (name_of-injective s agree a b i j has_i has_j same)
