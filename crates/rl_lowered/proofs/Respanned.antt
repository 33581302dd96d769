-- The spans of the identifiers of variables behind lowered parts: the heads of loops that declare a variable give it another.
use Rattle.std.proofs.Common.{◌≡◌, ℕ, ◌<◌, inl, inr, Bool, if◌then◌else◌, List, length, slice_get, Option, Some, None, sym, ap, ◌∙◌, subst}
use Rattle.std.proofs.Common.{eq-eqb}
use Rattle.std.proofs.lemmas.Bool.{ne_eqb}
use Rattle.std.proofs.lemmas.Bool.Decides.{eqb_tells}
use Rattle.std.proofs.lemmas.Option.{same_Some}
use Rattle.rl_builder.proofs.NameLaws.{name_of-injective}
use Rattle.rl_builder.specs.Builder.{recorded, with_temporary}
use Rattle.rl_builder.specs.Names.{resolved_by}
use Rattle.rl_hir.proofs.Identifiers.{slice_get-changed_at_other, slice_get-changed_at_same}
use Rattle.rl_hir.specs.declared.function.Identifier.{Identifier}
use Rattle.rl_hir.specs.declared.function.Param.{Param}
use Rattle.rl_hir.specs.Identifiers.{with_span}
use Rattle.rl_hir.specs.Pairs.{identifier_of}
use Rattle.rl_lowered.proofs.Carrying.{IsCarried, Naming, at_symbol, naming, unchanged}
use Rattle.rl_lowered.proofs.Carried.{body_carried, params_carried}
use Rattle.rl_lowered.proofs.Catches.{extends_promoted}
use Rattle.rl_lowered.proofs.Common.{Names, Pieces, Span, State, SymbolId, Syntax}
use Rattle.rl_lowered.proofs.Names.{found_within}
use Rattle.rl_lowered.proofs.Redeclared.{extends_redeclared}
use Rattle.rl_lowered.specs.Items.{found_again, promoted, redeclared}
use Rattle.rl_lowered.specs.Lowered.{LoweredBody, LoweredParams}
use Rattle.rl_lowered.specs.Named.{IsFound, Respans, found}
use Rattle.rl_promises.specs.Fields.{name_at}
use Rattle.rl_promises.specs.Rebound.{span_behind_body}
use Rattle.rl_runs.proofs.Moves.{extends_recorded, extends_resolved, extends_temporary}
use Rattle.rl_runs.proofs.Steps.{get_more}
use Rattle.rl_runs.specs.Facts.{AreSoundNames, Extends, HasSoundNames}

-- The identifiers of symbols, behind a part.

respans_then : {f g : (symbol : ℕ) → (before : Span) → Span} (a b c : State) → Respans f a b → Respans g b c
    → Respans (λ symbol before. g symbol (f symbol before)) a c
respans_then {f} {g} a b c j k = record {
  sound = λ q. k.sound (j.sound q);
  bound = λ q symbol identifier is. k.bound (j.sound q) symbol identifier (j.bound q symbol identifier is);
  keeps = λ q symbol identifier known before is at.
      k.keeps (j.sound q) symbol identifier known (f symbol before) (j.bound q symbol identifier is)
      (j.keeps q symbol identifier known before is at);
}

-- A move that keeps identifiers as they are.
respans_stays : (s t : State) → Extends s t
    → ((identifier : ℕ) (i : Identifier) → slice_get s.env.identifiers identifier ≡ Some i
    → slice_get t.env.identifiers identifier ≡ Some i) → Respans unchanged s t
respans_stays s t g stay = record {
  sound = g.sound;
  bound = λ q symbol identifier is.
      (g.sound q).same symbol ∙ g.names.kept symbol identifier (sym (q.same symbol) ∙ is);
  keeps = λ q symbol identifier known before is at. stay identifier (record known { span = Some before }) at;
}

abbrev SoundNaming : Naming → Type 0
SoundNaming n = AreSoundNames n.bindings n.used n.identifiers n.pairs

-- A move that changes none of it.
respans_same : (s t : State) → naming s ≡ naming t → Respans unchanged s t
respans_same s t same = record {
  sound = λ q. subst SoundNaming same q;
  bound = λ q symbol identifier is. ap (λ (n : Naming). identifier_of n.bindings symbol) (sym same) ∙ is;
  keeps = λ q symbol identifier known before is at. ap (λ (n : Naming). slice_get n.identifiers identifier) (sym same) ∙ at;
}

respans_as : {f g : (symbol : ℕ) → (before : Span) → Span} (s t : State)
    → ((symbol : ℕ) (before : Span) → g symbol before ≡ f symbol before) → Respans f s t → Respans g s t
respans_as {f} {g} s t same j = record {
  sound = j.sound;
  bound = j.bound;
  keeps = λ q symbol identifier known before is at.
      j.keeps q symbol identifier known before is at
      ∙ ap (λ (span : Span). Some (record known { span = Some span })) (sym (same symbol before));
}

-- The head of a loop that declares a variable.

module _ (s : State) (symbol identifier : ℕ) (span : Span) (bound : identifier_of s.bindings symbol ≡ Some identifier)
    (within : identifier < length s.env.identifiers) where
  again_keeps : HasSoundNames s → (other found : ℕ) (known : Identifier) (before : Span)
      → identifier_of s.bindings other ≡ Some found → slice_get s.env.identifiers found ≡ Some (record known { span = Some before })
      → slice_get (redeclared s identifier span).env.identifiers found
      ≡ Some (record known { span = Some (at_symbol symbol span other before) })
  again_keeps q other found known before is at = elim (eqb_tells found identifier) [
    | inl same ↦ (
        let one : symbol ≡ other =
        name_of-injective s q.agree symbol other identifier found bound is (ap (λ (n : ℕ). name_at s.env.identifiers n) (sym same.1)) in
        ap (λ (n : ℕ). slice_get (redeclared s identifier span).env.identifiers n) same.1
        ∙ slice_get-changed_at_same (with_span span) identifier s.env.identifiers (record known { span = Some before })
        (ap (λ (n : ℕ). slice_get s.env.identifiers n) (sym same.1) ∙ at)
        ∙ ap (λ (b : Bool). Some (record known { span = Some (if b then span else before) })) (sym (eq-eqb symbol other one))
        )
    | inr apart ↦ (
        let ne : symbol ≡ other → ⊥ =
        λ e. apart.1 (same_Some found identifier (sym is ∙ ap (λ (n : ℕ). identifier_of s.bindings n) (sym e) ∙ bound)) in
        slice_get-changed_at_other (with_span span) identifier found s.env.identifiers apart.1 ∙ at
        ∙ ap (λ (b : Bool). Some (record known { span = Some (if b then span else before) })) (sym (ne_eqb symbol other ne))
        )
  ]

  respans_again : Respans (at_symbol symbol span) s (redeclared s identifier span)
  respans_again = record {
    sound = (extends_redeclared s identifier span within).sound;
    bound = λ q other found is. is;
    keeps = again_keeps;
  }

-- Moves.

respans_temporary : (s : State) (span : Option Span) → Respans unchanged s (with_temporary s span)
respans_temporary s span =
    respans_stays s (with_temporary s span) (extends_temporary s span) (λ identifier i is. get_more s.env.identifiers _ identifier i is)

respans_promoted : (s : State) (span : Span) → Respans unchanged s (promoted s span)
respans_promoted s span =
    respans_stays s (promoted s span) (extends_promoted s span) (λ identifier i is. get_more s.env.identifiers _ identifier i is)

stays_by : (known : Option ℕ) (s : State) (name : List ℕ) (symbol : ℕ) (given : Option Span) (identifier : ℕ) (i : Identifier)
    → slice_get s.env.identifiers identifier ≡ Some i
    → slice_get (resolved_by known s name symbol given).env.identifiers identifier ≡ Some i
stays_by (Some known) s name symbol given identifier i is = is
stays_by None s name symbol given identifier i is = get_more s.env.identifiers _ identifier i is

respans_found : (names : Names) (s : State) (symbol : SymbolId) (at : Span) (identifier : ℕ) → IsFound names s symbol at identifier
    → Respans unchanged s (found names s symbol at)
respans_found names s symbol at identifier f =
    respans_stays s (found names s symbol at) (extends_resolved s (names.name symbol.0) symbol.0 (Some at) f.agree)
    (stays_by (identifier_of s.bindings symbol.0) s (names.name symbol.0) symbol.0 (Some at))

respans_found_again : (names : Names) (s : State) (symbol : SymbolId) (at : Span) (identifier : ℕ) → IsFound names s symbol at identifier
    → Respans (at_symbol symbol.0 at) s (found_again names s symbol identifier at)
respans_found_again names s symbol at identifier f =
    let first : State = found names s symbol at in
    respans_then s first _ (respans_found names s symbol at identifier f)
    (respans_again first symbol.0 identifier at f.bound (found_within s symbol at identifier f))

respans_carried : (names : Names) → IsCarried names Respans
respans_carried names = record {
  alike = λ {f} {g} s t same j. respans_as s t same j;
  chain = λ {f} {g} a b c j k. respans_then a b c j k;
  same = respans_same;
  temporary = respans_temporary;
  noted = λ s d. respans_stays s (recorded s d) (extends_recorded s d) (λ identifier i is. is);
  promotes = respans_promoted;
  looked = respans_found names;
  again = respans_found_again names;
}

pub body_respans : {names : Names} {b : Syntax} {s t : State} → LoweredBody names b s t
    → Respans (λ symbol before. span_behind_body names symbol b before) s t
body_respans {names} l = body_carried (respans_carried names) l

pub params_respans : {names : Names} {es : Pieces} {rest : Syntax} {s t : State} {ps : List Param} → LoweredParams names es rest s t ps
    → Respans unchanged s t
params_respans {names} l = params_carried (respans_carried names) l
