-- Names and identifiers still agree after maps were merged, and after an identifier got another span.
use Rattle.std.proofs.Common.{◌≡◌, ℕ, zero, suc, ◌<◌, Option, Some, None, List, [], ◌∷◌, get_or, length, slice_get, slice_set, refl, sym, ap, ◌∙◌}
use Rattle.std.proofs.lemmas.Option.{none-some, same_Some, slice_get-get_or}
use Rattle.std.specs.Option.{option_or}
use Rattle.rl_base.specs.declared.span.Span.{Span}
use Rattle.rl_hir.proofs.Identifiers.{changed_at-set}
use Rattle.rl_hir.specs.Identifiers.{changed_at, with_span}
use Rattle.rl_hir.specs.Pairs.{identifier_of}
use Rattle.rl_hir.specs.declared.function.Identifier.{Identifier}
use Rattle.rl_hir.specs.declared.function.Pair.{Pair}
use Rattle.rl_used_names.proofs.Merging.{identifier_of-merged, user_of-merged}
use Rattle.rl_used_names.specs.Merged.{merged_bindings, merged_names}
use Rattle.rl_used_names.specs.IdentifierNames.{name_of, AreNamed, IsNamedFor}
use Rattle.rl_used_names.specs.UsedName.{user_of, UsedName}

-- A name that the first map has stays with its symbol.
pub AreNamed-merged_names : (bindings : List Pair) (parent child : List UsedName) (identifiers : List Identifier) → AreNamed bindings parent identifiers → AreNamed bindings (merged_names parent child) identifiers
AreNamed-merged_names bindings parent child identifiers agree = record {
  named = λ symbol identifier some.
      let old = agree.named symbol identifier some in
      record { name = old.name; named = old.named; user = user_of-merged parent child old.name ∙ ap (λ o. option_or o (user_of child old.name)) old.user };
}

named_merged : (parent child : List Pair) (used : List UsedName) (identifiers : List Identifier) (symbol identifier : ℕ) (known : Option ℕ) → AreNamed child used identifiers → AreNamed parent used identifiers
    → identifier_of parent symbol ≡ known → option_or known (identifier_of child symbol) ≡ Some identifier → IsNamedFor used identifiers symbol identifier
named_merged parent child used identifiers symbol identifier None inner outer none is = inner.named symbol identifier is
named_merged parent child used identifiers symbol identifier (Some known) inner outer some is = outer.named symbol identifier (some ∙ is)

-- A symbol has its identifier from one of the maps.
pub AreNamed-merged_bindings : (parent child : List Pair) (used : List UsedName) (identifiers : List Identifier) → AreNamed child used identifiers → AreNamed parent used identifiers → AreNamed (merged_bindings parent child) used identifiers
AreNamed-merged_bindings parent child used identifiers inner outer = record {
  named = λ symbol identifier some. named_merged parent child used identifiers symbol identifier (identifier_of parent symbol) inner outer refl (sym (identifier_of-merged parent child symbol) ∙ some);
}

-- An identifier of the same name in place of another changes no name.
name_of-set : (identifiers : List Identifier) (index : ℕ) (old new : Identifier) (i : ℕ) → slice_get identifiers index ≡ Some old → new.name ≡ old.name → name_of (slice_set identifiers index new) i ≡ name_of identifiers i
name_of-set [] index old new i some same = absurd (none-some old some)
name_of-set (x ∷ xs) zero old new zero some same = same ∙ sym (ap (λ (j : Identifier). j.name) (same_Some x old some))
name_of-set (x ∷ xs) zero old new (suc i) some same = refl
name_of-set (x ∷ xs) (suc index) old new zero some same = refl
name_of-set (x ∷ xs) (suc index) old new (suc i) some same = name_of-set xs index old new i some same

name_of-spanned : (identifiers : List Identifier) (index : ℕ) (span : Span) (i : ℕ) → index < length identifiers → name_of (changed_at (with_span span) index identifiers) i ≡ name_of identifiers i
name_of-spanned identifiers index span i within =
    let none : Identifier = record { name = None; span = None; type_id = record { 0 = 0 } } in
    let old = get_or identifiers index none in
    let at : slice_get identifiers index ≡ Some old = slice_get-get_or identifiers index none within in
    ap (λ (l : List Identifier). name_of l i) (changed_at-set (with_span span) index identifiers old at) ∙ name_of-set identifiers index old (with_span span old) i at refl

-- A span is no name.
pub AreNamed-spanned : (bindings : List Pair) (used : List UsedName) (identifiers : List Identifier) (index : ℕ) (span : Span) → index < length identifiers → AreNamed bindings used identifiers → AreNamed bindings used (changed_at (with_span span) index identifiers)
AreNamed-spanned bindings used identifiers index span within agree = record {
  named = λ symbol identifier some.
      let old = agree.named symbol identifier some in
      record { name = old.name; named = name_of-spanned identifiers index span identifier within ∙ old.named; user = old.user };
}
