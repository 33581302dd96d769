-- The outcomes of a call that resolves a symbol.
use Rattle.std.proofs.Common.{◌≡◌, ℕ, true, false, Option, Some, None, Ok, Err, List, refl, sym, ap, ◌∙◌, subst}
use Rattle.std.proofs.lemmas.Option.{none-some}
use Rattle.std.specs.Option.{option_map}
use Rattle.rl_base.specs.Reserved.{is_reserved}
use Rattle.rl_base.specs.declared.diagnostic.Diagnostic.{Diagnostic}
use Rattle.rl_base.specs.declared.ids.IdentifierId.{IdentifierId}
use Rattle.rl_base.specs.declared.span.Span.{Span}
use Rattle.rl_base.specs.declared.stop.Stop.TheVariants as stops
use Rattle.rl_hir.specs.Pairs.{identifier_of}
use Rattle.rl_used_names.specs.IdentifierNames.{reserved_diagnostic}
use Rattle.rl_builder.proofs.Apart.{are_apart}
use Rattle.rl_builder.proofs.NameLaws.{reserved-unchanged, resolved_by-fresh, resolved_by-known}
use Rattle.rl_builder.specs.Builder.{State}
use Rattle.rl_builder.specs.Names.{fbt_label, reserved_label, resolved_by, with_binding, with_refused, NamesAgree, Resolves}

-- An identifier that is not there has no number.
pub known_none : (known : Option IdentifierId) → ((i : IdentifierId) → known ≡ Some i → ⊥) → option_map (λ i. i.0) known ≡ None
known_none None never = refl
known_none (Some i) never = absurd (never i refl)

module _ (old new : State) (name : List ℕ) (symbol : ℕ) (given : Option Span) where
  -- The symbol has the identifier already.
  pub resolves_known : (i : IdentifierId) (known : Option ℕ) → identifier_of old.bindings symbol ≡ known → known ≡ Some i.0 → new ≡ with_refused known old name (fbt_label old symbol given) → Resolves old new name symbol given (Ok i)
  resolves_known i known has some is =
      let names : NamesAgree old → NamesAgree new = subst NamesAgree (sym is) in
      record {
        state = is ∙ resolved_by-known known old name symbol given i.0 some ∙ ap (λ (k : Option ℕ). resolved_by k old name symbol given) (sym has);
        identifier = ap (λ (t : State). identifier_of t.bindings symbol) is ∙ has ∙ some;
        names = names;
        apart = λ agree. are_apart new (names agree);
        allowed = λ none. absurd (none-some i.0 (sym none ∙ has ∙ some));
        stopped = tt;
        unchanged = tt;
      }

  -- The symbol gets the identifier, behind the diagnostics of its name.
  pub resolves_fresh : (mid : State) (i : IdentifierId) (known : Option ℕ) → identifier_of old.bindings symbol ≡ known → known ≡ None → is_reserved name ≡ false → mid ≡ with_refused known old name (fbt_label old symbol given)
      → new ≡ with_binding mid name symbol given → identifier_of new.bindings symbol ≡ Some i.0 → (NamesAgree mid → NamesAgree new) → Resolves old new name symbol given (Ok i)
  resolves_fresh mid i known has none free refused made bound kept =
      let names : NamesAgree old → NamesAgree new = λ agree. kept (subst NamesAgree (sym refused) agree) in
      record {
        state = made ∙ ap (λ (t : State). with_binding t name symbol given) refused ∙ resolved_by-fresh known old name symbol given none ∙ ap (λ (k : Option ℕ). resolved_by k old name symbol given) (sym has);
        identifier = bound;
        names = names;
        apart = λ agree. are_apart new (names agree);
        allowed = λ unbound. free;
        stopped = tt;
        unchanged = tt;
      }

  -- The symbol has no identifier, and its name is reserved.
  pub resolves_reserved : (d : Diagnostic) (known : Option ℕ) → identifier_of old.bindings symbol ≡ known → known ≡ None → is_reserved name ≡ true → new ≡ with_refused known old name (fbt_label old symbol given)
      → d ≡ reserved_diagnostic name (reserved_label old symbol given) → Resolves old new name symbol given (Err (stops.Diagnostic d))
  resolves_reserved d known has none word is diagnostic = record {
    state = tt;
    identifier = tt;
    names = tt;
    apart = tt;
    allowed = tt;
    stopped = λ e same. record { diagnostic = (let own : e ≡ d = cc in own) ∙ diagnostic; word = word; fresh = has ∙ none };
    unchanged = λ e same. reserved-unchanged known old new name _ is word;
  }
