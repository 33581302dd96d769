-- Identifiers that symbols get on the way, and those that they have in the end.
use Rattle.std.proofs.Common.{◌≡◌, ℕ, zero, suc, ◌<◌, ◌≤◌, ◌⊎◌, inl, inr, ◌++◌, Bool, true, false, cond, nat_eq, List, [], ◌∷◌, length}
use Rattle.std.proofs.Common.{map, slice_get, Option, Some, None, refl, sym, ap, ◌∙◌, subst, arith, eq-eqb}
use Rattle.std.proofs.lemmas.List.{map-append}
use Rattle.std.proofs.lemmas.Option.{cond_some, none-some, same_Some}
use Rattle.rl_base.proofs.DistinctLists.{IsIn, distinct_push}
use Rattle.rl_base.specs.Distinct.{AreDistinct}
use Rattle.rl_builder.proofs.NameLaws.{name_of-injective}
use Rattle.rl_builder.specs.Names.{NamesAgree, resolved, resolved_by}
use Rattle.rl_hir.specs.declared.function.Identifier.{Identifier}
use Rattle.rl_hir.specs.declared.function.IdentifierName.TheVariants as names
use Rattle.rl_hir.specs.declared.function.Pair.{Pair}
use Rattle.rl_hir.specs.Pairs.{identifier_of, pair}
use Rattle.rl_runs.proofs.Common.{Span, State}
use Rattle.rl_runs.specs.Facts.{AreSoundNames, CoversNames, GrowsNames, HasSoundNames, Nobody}
use Rattle.rl_used_names.proofs.NameLaws.{AreNamed-append, identifier_of-append_none, identifier_of-append_some, name_of-within}
use Rattle.rl_used_names.specs.UsedName.{UsedName}

-- Names that grow.

pub names_refl : (pairs : List Pair) (made : ℕ) → GrowsNames pairs made pairs
names_refl pairs made = record { kept = λ symbol identifier is. is; fresh = λ symbol identifier is. inl is }

pub names_then : (a b c : List Pair) (made more : ℕ) → made ≤ more → GrowsNames a made b → GrowsNames b more c → GrowsNames a made c
names_then a b c made more le g h = record {
  kept = λ symbol identifier is. h.kept symbol identifier (g.kept symbol identifier is);
  fresh = λ symbol identifier is. elim (h.fresh symbol identifier is) [ inl said ↦ g.fresh symbol identifier said | inr above ↦ inr (omega arith) ];
}

pub covers_before : (old new : List Pair) (made more : ℕ) (ident : ℕ → Option ℕ) → made ≤ more → GrowsNames old made new
    → CoversNames new more ident → CoversNames old made ident
covers_before old new made more ident le g k = record {
  kept = λ symbol identifier is. k.kept symbol identifier (g.kept symbol identifier is);
  fresh = λ symbol identifier is. elim (k.fresh symbol identifier is) [ inl said ↦ g.fresh symbol identifier said | inr above ↦ inr (omega arith) ];
  one = k.one;
}

-- Identifiers that come later change no name.
pub sound_more : (bindings : List Pair) (used : List UsedName) (identifiers more : List Identifier) (pairs : List Pair)
    → AreSoundNames bindings used identifiers pairs → AreSoundNames bindings used (identifiers ++ more) pairs
sound_more bindings used identifiers more pairs q =
    record { agree = AreNamed-append bindings used identifiers more q.agree; same = q.same; once = q.once }

-- The identifiers of pairs were made.
pub paired_made : (s : State) → HasSoundNames s → (symbol identifier : ℕ) → identifier_of s.env.pairs symbol ≡ Some identifier
    → identifier < length s.env.identifiers
paired_made s q symbol identifier is =
    let named = q.agree.named symbol identifier (q.same symbol ∙ is) in
    name_of-within s.env.identifiers identifier (names.Named named.name) named.named

-- An identifier that was made for no symbol is nobody's, whatever gets a name later.
pub nobody_fresh : (s : State) (more : ℕ) (ident : ℕ → Option ℕ) (identifier : ℕ) → HasSoundNames s
    → CoversNames s.env.pairs more ident → length s.env.identifiers ≤ identifier → identifier < more → Nobody ident identifier
nobody_fresh s more ident identifier q k above below symbol is = elim (k.fresh symbol identifier is) [
  | inl said ↦ (let made : identifier < length s.env.identifiers = paired_made s q symbol identifier said in absurd (omega arith))
  | inr later ↦ absurd (omega arith)
]

-- The names of a state are the final ones if no more symbols get identifiers.
pub sound_covers : (s : State) → HasSoundNames s → CoversNames s.env.pairs (length s.env.identifiers)
    (λ symbol. identifier_of s.env.pairs symbol)
sound_covers s q = record {
  kept = λ symbol identifier is. is;
  fresh = λ symbol identifier is. inl is;
  one = λ symbol other identifier is also. name_of-injective s q.agree symbol other identifier identifier (q.same symbol ∙ is)
      (q.same other ∙ also) refl;
}

-- A symbol that is resolved.

-- A symbol without an identifier has no pair.
pub unpaired : (pairs : List Pair) (symbol : ℕ) → identifier_of pairs symbol ≡ None → IsIn (map (λ (p : Pair). p.symbol.0) pairs) symbol
    → ⊥
unpaired pairs symbol none there = by_index pairs there.index there.found none
  where
    behind : (p : Pair) (rest : List Pair) (b : Bool) → cond b (Some p.identifier.0) (identifier_of rest symbol) ≡ None
        → identifier_of rest symbol ≡ None
    behind p rest true is = absurd (none-some p.identifier.0 (sym is))
    behind p rest false is = is

    by_index : (rest : List Pair) (index : ℕ) → slice_get (map (λ (p : Pair). p.symbol.0) rest) index ≡ Some symbol
        → identifier_of rest symbol ≡ None → ⊥
    by_index [] index found is = none-some symbol found
    by_index (p ∷ rest) zero found is =
        let same : p.symbol.0 ≡ symbol = same_Some p.symbol.0 symbol found in
        none-some p.identifier.0
        (sym is ∙ ap (λ (b : Bool). cond b (Some p.identifier.0) (identifier_of rest symbol)) (eq-eqb p.symbol.0 symbol same))
    by_index (p ∷ rest) (suc index) found is = by_index rest index found (behind p rest (nat_eq p.symbol.0 symbol) is)

-- Lists of pairs that say the same do so with one more.
same_more : (bindings pairs : List Pair) (p : Pair) → ((symbol : ℕ) → identifier_of bindings symbol ≡ identifier_of pairs symbol)
    → (symbol : ℕ) (said : Option ℕ) → identifier_of bindings symbol ≡ said
    → identifier_of (bindings ++ p ∷ []) symbol ≡ identifier_of (pairs ++ p ∷ []) symbol
same_more bindings pairs p same symbol None is =
    identifier_of-append_none bindings (p ∷ []) symbol is ∙ sym
    (identifier_of-append_none pairs (p ∷ []) symbol (sym (same symbol) ∙ is))
same_more bindings pairs p same symbol (Some identifier) is =
    identifier_of-append_some bindings (p ∷ []) symbol identifier is
    ∙ sym (identifier_of-append_some pairs (p ∷ []) symbol identifier (sym (same symbol) ∙ is))

sound_by : (known : Option ℕ) (s : State) (name : List ℕ) (symbol : ℕ) (given : Option Span) → identifier_of s.bindings symbol ≡ known
    → (NamesAgree s → NamesAgree (resolved_by known s name symbol given)) → HasSoundNames s
    → HasSoundNames (resolved_by known s name symbol given)
sound_by None s name symbol given none agrees q =
    let p : Pair = pair symbol (length s.env.identifiers) in
    record {
      agree = agrees q.agree;
      same = λ other. same_more s.bindings s.env.pairs p q.same other (identifier_of s.bindings other) refl;
      once = subst (λ (symbols : List ℕ). AreDistinct symbols) (sym (map-append (λ (x : Pair). x.symbol.0) s.env.pairs (p ∷ [])))
          (distinct_push (map (λ (x : Pair). x.symbol.0) s.env.pairs) symbol q.once
          (unpaired s.env.pairs symbol (sym (q.same symbol) ∙ none)));
    }
sound_by (Some known) s name symbol given is agrees q = record { agree = agrees q.agree; same = q.same; once = q.once }

pub sound_resolved : (s : State) (name : List ℕ) (symbol : ℕ) (given : Option Span)
    → (NamesAgree s → NamesAgree (resolved s name symbol given))
    → HasSoundNames s → HasSoundNames (resolved s name symbol given)
sound_resolved s name symbol given agrees q = sound_by (identifier_of s.bindings symbol) s name symbol given refl agrees q

fresh_last : (pairs : List Pair) (made symbol : ℕ) (other identifier : ℕ) (said : Option ℕ) → identifier_of pairs other ≡ said
    → identifier_of (pairs ++ pair symbol made ∷ []) other ≡ Some identifier
    → (identifier_of pairs other ≡ Some identifier) ⊎ (made ≤ identifier)
fresh_last pairs made symbol other identifier None none is =
    let last =
    cond_some (nat_eq symbol other) made identifier
    (sym (identifier_of-append_none pairs (pair symbol made ∷ []) other none) ∙ is) in
    inr (omega (arith, last.1))
fresh_last pairs made symbol other identifier (Some old) said is =
    inl (said ∙ sym (identifier_of-append_some pairs (pair symbol made ∷ []) other old said) ∙ is)

names_by : (known : Option ℕ) (s : State) (name : List ℕ) (symbol : ℕ) (given : Option Span)
    → GrowsNames s.env.pairs (length s.env.identifiers) (resolved_by known s name symbol given).env.pairs
names_by None s name symbol given = record {
  kept = λ other identifier is. identifier_of-append_some s.env.pairs (pair symbol (length s.env.identifiers) ∷ []) other identifier is;
  fresh = λ other identifier is. fresh_last s.env.pairs (length s.env.identifiers) symbol other identifier
      (identifier_of s.env.pairs other) refl is;
}
names_by (Some known) s name symbol given = names_refl s.env.pairs (length s.env.identifiers)

pub names_resolved : (s : State) (name : List ℕ) (symbol : ℕ) (given : Option Span)
    → GrowsNames s.env.pairs (length s.env.identifiers) (resolved s name symbol given).env.pairs
names_resolved s name symbol given = names_by (identifier_of s.bindings symbol) s name symbol given
