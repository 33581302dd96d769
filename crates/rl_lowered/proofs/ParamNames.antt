-- Parameters have their own identifiers: a plain name has one under its own name, since the names that parameters use and declare stand for
-- one symbol each, and any other parameter has a temporary.
use Rattle.std.proofs.Common.{◌≡◌, ℕ, ◌++◌, inl, inr, Bool, true, false, nat_eq, cond, if◌then◌else◌, eq-eqb, List, [], ◌∷◌, All}
use Rattle.std.proofs.Common.{length, slice_get, Option, Some, None, refl, sym, ap, ◌∙◌, subst}
use Rattle.std.proofs.lemmas.Bool.{eqb-true}
use Rattle.std.proofs.lemmas.List.Elements.{All-head, All-tail}
use Rattle.std.proofs.lemmas.Option.{cond_some, none-some, same_Some}
use Rattle.std.proofs.lemmas.Slice.Eq.{bytes_eq-Decides}
use Rattle.rl_base.proofs.Slotted.{get_push_new}
use Rattle.std.specs.Option.{option_map_or, option_or}
use Rattle.std.specs.Str.{bytes_eq}
use Rattle.rl_builder.specs.Builder.{with_temporary}
use Rattle.rl_builder.specs.Names.{fresh_identifier, new_span, resolved_by}
use Rattle.rl_builder.specs.Temporaries.{temporary}
use Rattle.rl_context.specs.Index.{declaration_span}
use Rattle.rl_hir.specs.Identifiers.{named_identifier}
use Rattle.rl_hir.specs.Pairs.{identifier_of, pair}
use Rattle.rl_hir.specs.declared.function.Identifier.{Identifier}
use Rattle.rl_hir.specs.declared.function.Pair.{Pair}
use Rattle.rl_hir.specs.declared.function.Param.{Param}
use Rattle.rl_lowered.proofs.Blocks.{moved_blocks, pattern_blocks}
use Rattle.rl_lowered.proofs.Carried.{body_carried, carried_default, moved_carried, params_carried, pattern_carried}
use Rattle.rl_lowered.proofs.Carrying.{IsCarried, Naming, naming}
use Rattle.rl_lowered.proofs.Catches.{extends_promoted}
use Rattle.rl_lowered.proofs.Common.{End, Names, Node, Pieces, Span, State, SymbolId, Syntax, Then}
use Rattle.rl_lowered.proofs.ItemBlocks.{blocks_found}
use Rattle.rl_lowered.proofs.MentionedMoves.{AllAllowed, Allowed, IsKept, default_kept, pattern_kept}
use Rattle.rl_lowered.proofs.ParamRuns.{apart_unplain, default_unplain, moved_there}
use Rattle.rl_lowered.proofs.Redeclared.{again_at}
use Rattle.rl_lowered.proofs.Respanned.{params_respans}
use Rattle.rl_lowered.specs.Items.{caught, promoted, promoted_identifier, variable_at}
use Rattle.rl_lowered.specs.Lowered as lowered
use Rattle.rl_lowered.specs.Lowered.{LoweredBody, LoweredParams, LoweredPattern}
use Rattle.rl_lowered.specs.Named.{HasAgain, found}
use Rattle.rl_names.specs.Names.{parameter_of, parameters_among}
use Rattle.rl_names.specs.declared.parameters.Parameter.{Parameter}
use Rattle.rl_optional_frames.proofs.DefaultBlocks.{default_blocks}
use Rattle.rl_optional_frames.specs.Frames.{default_at, default_ended}
use Rattle.rl_promises.specs.Fields as fields
use Rattle.rl_promises.specs.Fields.{AreParams, IsGiven, IsPromoted, name_at}
use Rattle.rl_runs.proofs.Moves.{extends_then}
use Rattle.rl_runs.proofs.Steps.{get_more}
use Rattle.rl_runs.specs.Facts.{HasSoundNames}
use Rattle.rl_semantic.specs.Items.{of_item}
use Rattle.rl_syntax.specs.Syntax.{Absent}
use Rattle.rl_syntax.specs.declared.word.Word.TheVariants as word
use Rattle.rl_used_names.proofs.NameLaws.{identifier_of-append_none, identifier_of-append_some, user_of-with_user}
use Rattle.rl_used_names.specs.Choosing.{chosen, is_free, place_from, with_user}
use Rattle.rl_used_names.specs.UsedName.{UsedName, candidate, user_of}

-- A name that is free is given as it is.
chosen_own : (used : List UsedName) (symbol : ℕ) (name : List ℕ) → is_free used symbol name ≡ true → chosen used symbol name ≡ name
unfolding chosen
chosen_own [] symbol name free = refl
chosen_own (u ∷ used) symbol name free =
    ap (λ (b : Bool). candidate name (if b then 0 else place_from (u ∷ used) symbol name 1 (length used))) free

-- The name is that of the symbol, which may be looked up.
pub record IsUser (names : Names) (May : SymbolId → Type 0) (name : List ℕ) (symbol : ℕ) : Type 0 where
  pub owner : SymbolId
  pub is : owner.0 ≡ symbol
  pub may : May owner
  pub named : names.name symbol ≡ name

-- The symbol has the identifier under its own name, with the span that it has in the index, if that has one.
pub record HasOwn (names : Names) (spans : (symbol : ℕ) → Option Span) (identifiers : List Identifier)
    (symbol identifier : ℕ) : Type 0 where
  pub type_id : ℕ
  pub span : Option Span
  pub known : slice_get identifiers identifier ≡ Some (fresh_identifier (names.name symbol) span type_id)
  pub indexed : (at : Span) → spans symbol ≡ Some at → span ≡ Some at

-- Each name that is used is that of a symbol which may be looked up, and each symbol that has an identifier has it under its own name.
pub record HasOwnNames (names : Names) (May : SymbolId → Type 0) (spans : (symbol : ℕ) → Option Span) (n : Naming) : Type 0 where
  pub index : (symbol : ℕ) → declaration_span n.sites n.semantic.bindings.symbols symbol ≡ spans symbol
  pub users : (name : List ℕ) (symbol : ℕ) → user_of n.used name ≡ Some symbol → IsUser names May name symbol
  pub bound : (symbol identifier : ℕ) → identifier_of n.bindings symbol ≡ Some identifier
      → HasOwn names spans n.identifiers symbol identifier

-- A state in which no symbol has an identifier.
pub own_begun : (names : Names) (May : SymbolId → Type 0) (s : State) → s.bindings ≡ [] → s.used_names ≡ []
    → HasOwnNames names May (λ symbol. declaration_span s.sites s.semantic.bindings.symbols symbol) (naming s)
own_begun names May s unbound unused = record {
  index = λ symbol. refl;
  users = λ name symbol is. absurd (none-some symbol (ap (λ (l : List UsedName). user_of l name) (sym unused) ∙ is));
  bound = λ symbol identifier is. absurd (none-some identifier (ap (λ (l : List Pair). identifier_of l symbol) (sym unbound) ∙ is));
}

module _ (names : Names) (May : SymbolId → Type 0) (spans : (symbol : ℕ) → Option Span)
    (told : (x y : SymbolId) → May x → May y → names.name x.0 ≡ names.name y.0 → x.0 ≡ y.0) where
  abbrev pub Own : State → Type 0
  Own s = HasOwnNames names May spans (naming s)

  own_more : (s : State) (i : Identifier) (symbol identifier : ℕ) → HasOwn names spans s.env.identifiers symbol identifier
      → HasOwn names spans (s.env.identifiers ++ i ∷ []) symbol identifier
  own_more s i symbol identifier o = record {
    type_id = o.type_id;
    span = o.span;
    known = get_more s.env.identifiers _ identifier _ o.known;
    indexed = o.indexed;
  }

  -- A symbol without an identifier gets one.
  module _ (s : State) (symbol : SymbolId) (at : Span) (none : identifier_of s.bindings symbol.0 ≡ None) (may : May symbol)
      (h : Own s) where
    abbrev name : List ℕ
    name = names.name symbol.0

    free : is_free s.used_names symbol.0 name ≡ true
    free = by_user (user_of s.used_names name) refl
      where
        by_user : (o : Option ℕ) → user_of s.used_names name ≡ o → is_free s.used_names symbol.0 name ≡ true
        by_user None is = ap (λ (o : Option ℕ). option_map_or (λ user. nat_eq user symbol.0) o true) is
        by_user (Some user) is =
            let u = h.users name user is in
            ap (λ (o : Option ℕ). option_map_or (λ user. nat_eq user symbol.0) o true) is
            ∙ eq-eqb user symbol.0 (sym u.is ∙ told u.owner symbol u.may may (ap (λ (n : ℕ). names.name n) u.is ∙ u.named))

    given : chosen s.used_names symbol.0 name ≡ name
    given = chosen_own s.used_names symbol.0 name free

    user_new : (n : List ℕ) (x : ℕ) → user_of (with_user s.used_names (chosen s.used_names symbol.0 name) symbol.0) n ≡ Some x
        → IsUser names May n x
    user_new n x is =
        by_test (bytes_eq n (chosen s.used_names symbol.0 name)) refl
        (sym (user_of-with_user s.used_names (chosen s.used_names symbol.0 name) symbol.0 n) ∙ is)
      where
        by_test : (b : Bool) → bytes_eq n (chosen s.used_names symbol.0 name) ≡ b
            → cond b (Some symbol.0) (user_of s.used_names n) ≡ Some x → IsUser names May n x
        by_test true same here =
            let is_x : symbol.0 ≡ x = same_Some symbol.0 x here in
            let is_n : n ≡ name = (bytes_eq-Decides n (chosen s.used_names symbol.0 name)).0 same ∙ given in
            record { owner = symbol; is = is_x; may = may; named = ap (λ (k : ℕ). names.name k) (sym is_x) ∙ sym is_n }
        by_test false other there = h.users n x there

    abbrev made : Identifier
    made = fresh_identifier (chosen s.used_names symbol.0 name) (new_span s symbol.0 (Some at)) s.env.next_type

    bound_new : (other identifier : ℕ) → identifier_of (s.bindings ++ pair symbol.0 (length s.env.identifiers) ∷ []) other ≡ Some identifier
        → HasOwn names spans (s.env.identifiers ++ made ∷ []) other identifier
    bound_new other identifier is = by_old (identifier_of s.bindings other) refl
      where
        by_old : (o : Option ℕ) → identifier_of s.bindings other ≡ o → HasOwn names spans (s.env.identifiers ++ made ∷ []) other identifier
        by_old (Some old) there =
            let kept = identifier_of-append_some s.bindings (pair symbol.0 (length s.env.identifiers) ∷ []) other old there in
            let same : old ≡ identifier = same_Some old identifier (sym kept ∙ is) in
            own_more s made other identifier (h.bound other identifier (there ∙ ap (λ (n : ℕ). Some n) same))
        by_old None there =
            let last = cond_some (nat_eq symbol.0 other) (length s.env.identifiers) identifier
            (sym (identifier_of-append_none s.bindings (pair symbol.0 (length s.env.identifiers) ∷ []) other there) ∙ is) in
            let same : symbol.0 ≡ other = eqb-true symbol.0 other last.0 in
            record {
              type_id = s.env.next_type;
              span = new_span s symbol.0 (Some at);
              known = ap (λ (n : ℕ). slice_get (s.env.identifiers ++ made ∷ []) n) (sym last.1) ∙ get_push_new s.env.identifiers made
                  ∙ ap (λ (l : List ℕ). Some (fresh_identifier l (new_span s symbol.0 (Some at)) s.env.next_type))
                  (given ∙ ap (λ (n : ℕ). names.name n) same);
              indexed = λ there_at has. ap (λ (o : Option Span). option_or o (Some at))
                  (h.index symbol.0 ∙ ap spans same ∙ has);
            }

    own_made : Own (resolved_by None s name symbol.0 (Some at))
    own_made = record { index = h.index; users = user_new; bound = bound_new }

  own_by : (known : Option ℕ) (s : State) (symbol : SymbolId) (at : Span) → identifier_of s.bindings symbol.0 ≡ known → May symbol → Own s
      → Own (resolved_by known s (names.name symbol.0) symbol.0 (Some at))
  own_by (Some known) s symbol at is may h = record { index = h.index; users = h.users; bound = h.bound }
  own_by None s symbol at is may h = own_made s symbol at is may h

  pub own_kept : IsKept names May (λ s t. Own s → Own t)
  own_kept = record {
    chain = λ a b c first second h. second (first h);
    same = λ s t is h. subst (λ (n : Naming). HasOwnNames names May spans n) is h;
    temporary = λ s span h. record {
      index = h.index;
      users = h.users;
      bound = λ symbol identifier is. own_more s _ symbol identifier (h.bound symbol identifier is);
    };
    noted = λ s d h. record { index = h.index; users = h.users; bound = h.bound };
    promotes = λ s span h. record {
      index = h.index;
      users = h.users;
      bound = λ symbol identifier is. own_more s _ symbol identifier (h.bound symbol identifier is);
    };
    looked = λ s symbol at identifier may f h. own_by (identifier_of s.bindings symbol.0) s symbol at refl may h;
  }

-- Identifiers that keep all but their spans.
abbrev pub KeepAll : (old new : List Identifier) → Type 0
KeepAll old new = (identifier : ℕ) (known : Identifier) → slice_get old identifier ≡ Some known → HasAgain new identifier known

pub all_then : (a b c : List Identifier) → KeepAll a b → KeepAll b c → KeepAll a c
all_then a b c j k identifier known is =
    let first = j identifier known is in
    let second = k identifier (record known { span = first.span }) first.is in
    record { span = second.span; is = second.is }

pub all_more : (a more : List Identifier) → KeepAll a (a ++ more)
all_more a more identifier known is = record { span = known.span; is = get_more a more identifier known is }

all_found : (known : Option ℕ) (s : State) (text : List ℕ) (symbol : ℕ) (at : Option Span)
    → KeepAll s.env.identifiers (resolved_by known s text symbol at).env.identifiers
all_found (Some known) s text symbol at identifier i is = record { span = i.span; is = is }
all_found None s text symbol at identifier i is = all_more s.env.identifiers _ identifier i is

all_carried : (names : Names) → IsCarried names (λ behind s t. KeepAll s.env.identifiers t.env.identifiers)
all_carried names = record {
  alike = λ s t same k. k;
  chain = λ a b c j k. all_then a.env.identifiers b.env.identifiers c.env.identifiers j k;
  same = λ s t same identifier known is.
      record { span = known.span; is = ap (λ (n : Naming). slice_get n.identifiers identifier) (sym same) ∙ is };
  temporary = λ s span. all_more s.env.identifiers _;
  noted = λ s d identifier known is. record { span = known.span; is = is };
  promotes = λ s span. all_more s.env.identifiers _;
  looked = λ s symbol at identifier f. all_found (identifier_of s.bindings symbol.0) s (names.name symbol.0) symbol.0 (Some at);
  again = λ s symbol at identifier f.
      let x : State = found names s symbol at in
      all_then s.env.identifiers x.env.identifiers _
      (all_found (identifier_of s.bindings symbol.0) s (names.name symbol.0) symbol.0 (Some at))
      (λ other known is. again_at x.env.identifiers identifier at other known is);
}

pub body_keeps_all : {names : Names} {b : Syntax} {s t : State} → LoweredBody names b s t → KeepAll s.env.identifiers t.env.identifiers
body_keeps_all {names} l = body_carried (all_carried names) l

pattern_keeps_all : {names : Names} {k : _} {at : Span} {value : _} {e : Syntax} {s t : State} {p : _}
    → LoweredPattern names false k at value e s t p → KeepAll s.env.identifiers t.env.identifiers
pattern_keeps_all {names} l = pattern_carried (all_carried names) l

-- Names and identifiers at the end of a function, seen from a state before: all identifiers keep all but their spans, and that of a symbol
-- has the span `behind symbol before` where it had the span `before`.
pub record Ends (behind : (symbol : ℕ) → (before : Span) → Span) (identifiers : List Identifier) (pairs : List Pair)
    (s : State) : Type 0 where
  pub all : KeepAll s.env.identifiers identifiers
  pub bound : HasSoundNames s → (symbol identifier : ℕ) → identifier_of s.bindings symbol ≡ Some identifier
      → identifier_of pairs symbol ≡ Some identifier
  pub keeps : HasSoundNames s → (symbol identifier : ℕ) (known : Identifier) (before : Span)
      → identifier_of s.bindings symbol ≡ Some identifier
      → slice_get s.env.identifiers identifier ≡ Some (record known { span = Some before })
      → slice_get identifiers identifier ≡ Some (record known { span = Some (behind symbol before) })

-- The facts of parameters that are plain names, apart.

-- A parameter has the name of its symbol, and the index has the span of its declaration.
pub record IsIndexed (names : Names) (spans : (symbol : ℕ) → Option Span) (p : Parameter) : Type 0 where
  pub named : names.name p.symbol.0 ≡ p.name
  pub spanned : spans p.symbol.0 ≡ Some p.declaration

all_behind : {X : Type 0} (P : X → Type 0) (xs ys : List X) → All P (xs ++ ys) → All P ys
all_behind P [] ys all = all
all_behind P (x ∷ xs) ys all = all_behind P xs ys (All-tail P x (xs ++ ys) all)

module _ (names : Names) (May : SymbolId → Type 0) (spans : (symbol : ℕ) → Option Span)
    (told : (x y : SymbolId) → May x → May y → names.name x.0 ≡ names.name y.0 → x.0 ≡ y.0)
    (behind : (symbol : ℕ) → (before : Span) → Span) (identifiers : List Identifier) (pairs : List Pair) where
  abbrev Indexed : Parameter → Type 0
  Indexed p = IsIndexed names spans p

  ends_before : {es : Pieces} {rest : Syntax} {s t : State} {ps : List Param} → LoweredParams names es rest s t ps
      → Ends behind identifiers pairs t → Ends behind identifiers pairs s
  ends_before {s = s} {t = t} ds e =
      let r = params_respans ds in record {
        all = all_then s.env.identifiers t.env.identifiers identifiers (params_carried (all_carried names) ds) e.all;
        bound = λ q symbol identifier is. e.bound (r.sound q) symbol identifier (r.bound q symbol identifier is);
        keeps = λ q symbol identifier known before is at.
            e.keeps (r.sound q) symbol identifier known before (r.bound q symbol identifier is)
            (r.keeps q symbol identifier known before is at);
      }

  named_last : (s : State) (i : Identifier) → KeepAll (s.env.identifiers ++ i ∷ []) identifiers
      → name_at identifiers (length s.env.identifiers) ≡ i.name
  named_last s i all =
      let a = all (length s.env.identifiers) i (get_push_new s.env.identifiers i) in
      ap (λ (o : Option Identifier). option_map_or (λ (x : Identifier). x.name) o None) a.is

  promoted_last : (s : State) (span : Span) → KeepAll (promoted s span).env.identifiers identifiers
      → IsPromoted identifiers span (caught s span)
  promoted_last s span all =
      record { at = refl; named = named_last s (promoted_identifier (length s.env.identifiers) s.env.next_type span) all }

  plain_given : (s : State) (symbol : SymbolId) (name : List ℕ) (span : Span) (identifier : ℕ)
      → identifier_of s.bindings symbol.0 ≡ Some identifier
      → Indexed (record { symbol = symbol; name = name; declaration = span }) → HasSoundNames s → HasOwnNames names May spans (naming s)
      → Ends behind identifiers pairs s → IsGiven identifiers pairs symbol name (behind symbol.0 span) identifier
  plain_given s symbol name span identifier bound i sound h e =
      let o = h.bound symbol.0 identifier bound in
      let known : slice_get s.env.identifiers identifier ≡ Some (named_identifier name span o.type_id) =
      o.known ∙ ap (λ (l : List ℕ). Some (fresh_identifier l o.span o.type_id)) i.named
      ∙ ap (λ (x : Option Span). Some (fresh_identifier name x o.type_id)) (o.indexed span i.spanned) in
      record {
        paired = e.bound sound symbol.0 identifier bound;
        type_id = o.type_id;
        known = e.keeps sound symbol.0 identifier (named_identifier name span o.type_id) span bound known;
      }

  -- Each parameter stands in the graph as its node says.
  pub params_given : {es : Pieces} {rest : Syntax} {s t : State} {ps : List Param} → LoweredParams names es rest s t ps
      → AllAllowed (own_kept names May spans told) es
      → Allowed (own_kept names May spans told) rest
      → All Indexed (parameters_among names es) → HasSoundNames s → HasOwnNames names May spans (naming s)
      → Ends behind identifiers pairs t → AreParams names behind identifiers pairs es rest ps
  params_given (lowered.NoParam s) a b indexed sound h e = fields.NoParam
  params_given (lowered.RestParam there pattern s t p d) a b indexed sound h e =
      fields.RestParam there pattern (temporary s (Some there.span)) (record {
        at = refl;
        unnamed = named_last s _ (all_then (with_temporary s (Some there.span)).env.identifiers t.env.identifiers identifiers
            (pattern_keeps_all d) e.all);
      })
  params_given (lowered.PlainParam there bind name type rest more symbol identifier s t ps annotated is f ds) a b indexed sound h e =
      let x : State = found names s symbol bind.span in
      let g = (blocks_found names s symbol bind.span identifier f).extends in
      let own : Parameter = record { symbol = symbol; name = name; declaration = bind.span } in
      let all : All Indexed (own ∷ parameters_among names more) =
      subst (λ (o : Option SymbolId). All Indexed (of_item []
      (λ (y : SymbolId). record { symbol = y; name = name; declaration = bind.span } ∷ [])
      o ++ parameters_among names more)) is indexed in
      let there_own = own_by names May spans told (identifier_of s.bindings symbol.0) s symbol bind.span refl (a symbol (inl (inl is))) h in
      fields.PlainParam there bind name type rest more symbol (variable_at identifier bind.span) ps is refl
      (plain_given x symbol name bind.span identifier f.bound (All-head Indexed own (parameters_among names more) all) (g.sound sound)
      there_own (ends_before ds e))
      (params_given ds (λ y m. a y (inr m)) b (All-tail Indexed own (parameters_among names more) all) (g.sound sound) there_own e)
  params_given (lowered.PatternParam there pattern rest more s t u p ps is d ds) a b indexed sound h e =
      let x : State = promoted s there.span in
      let param : Syntax = Node there word.Param (Then pattern (Then Absent End)) in
      let k = own_kept names May spans told in
      fields.OtherParam there (Then pattern (Then Absent End)) more rest (caught s there.span) ps (apart_unplain there pattern is)
      (promoted_last s there.span (all_then x.env.identifiers t.env.identifiers identifiers (pattern_keeps_all d) (ends_before ds e).all))
      (params_given ds (λ y m. a y (inr m)) b (all_behind Indexed (parameter_of names param) (parameters_among names more) indexed)
      ((pattern_blocks d).extends.sound ((extends_promoted s there.span).sound sound))
      (pattern_kept k d (λ y m. a y (inl (inl m))) (k.promotes s there.span h)) e)
  params_given (lowered.DefaultParam there pattern default rest more s t u v q p ps d dt ds) a b indexed sound h e =
      let x : State = promoted s there.span in
      let ended : State = default_ended (default_at x there.span (caught s there.span)) t q in
      let param : Syntax = Node there word.Param (Then pattern (Then default End)) in
      let k = own_kept names May spans told in
      let g = extends_then (default_blocks x t q (caught s there.span) there.span (moved_blocks d)).extends (pattern_blocks dt).extends in
      fields.OtherParam there (Then pattern (Then default End)) more rest (caught s there.span) ps
      (default_unplain there pattern default (moved_there d))
      (promoted_last s there.span (all_then x.env.identifiers ended.env.identifiers identifiers
      (carried_default (all_carried names) x t q (caught s there.span) there.span (moved_carried (all_carried names) d))
      (all_then ended.env.identifiers u.env.identifiers identifiers (pattern_keeps_all dt) (ends_before ds e).all)))
      (params_given ds (λ y m. a y (inr m)) b (all_behind Indexed (parameter_of names param) (parameters_among names more) indexed)
      (g.sound ((extends_promoted s there.span).sound sound))
      (pattern_kept k dt (λ y m. a y (inl (inl m)))
      (default_kept k x t q (caught s there.span) there.span d (λ y m. a y (inl (inr (inl m)))) (k.promotes s there.span h))) e)
