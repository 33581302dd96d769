-- A state whose identifier got another span: all but the span stays.
use Rattle.std.proofs.Common.{◌≡◌, ℕ, ◌<◌, inl, inr, List, All, length, slice_get, Option, Some, None, refl, sym, ap, ◌∙◌, subst, arith}
use Rattle.std.proofs.lemmas.Bool.Decides.{eqb_tells}
use Rattle.std.proofs.lemmas.List.Elements.{All-get_or, All-set}
use Rattle.std.proofs.lemmas.Option.{get_or_from_slice_get, none-some, slice_get_within}
use Rattle.std.specs.Option.{option_map_or}
use Rattle.rl_hir.proofs.Identifiers.{changed_at-past, changed_at-set, length-changed_at, slice_get-changed_at_other}
use Rattle.rl_hir.proofs.Identifiers.{slice_get-changed_at_same}
use Rattle.rl_hir.specs.Identifiers.{changed_at, with_span}
use Rattle.rl_hir.specs.declared.function.Identifier.{Identifier}
use Rattle.rl_hir.specs.declared.function.IdentifierName.{IdentifierName}
use Rattle.rl_hir.specs.declared.function.Pair.{Pair}
use Rattle.rl_lowered.proofs.Common.{Names, Span, State}
use Rattle.rl_lowered.specs.Items.{redeclared}
use Rattle.rl_lowered.specs.Named.{HasAgain, KeepsNames}
use Rattle.rl_promises.specs.Fields.{IsNamedPair, name_at}
use Rattle.rl_runs.proofs.BlockIds.{ids_refl}
use Rattle.rl_runs.proofs.FinalNames.{names_refl}
use Rattle.rl_runs.proofs.Naming.{named_refl}
use Rattle.rl_runs.proofs.Used.{used_refl}
use Rattle.rl_runs.specs.Blocks.{PreservesBlocks, size_of}
use Rattle.rl_runs.specs.Facts.{Extends}
use Rattle.rl_used_names.proofs.KeptNames.{AreNamed-spanned}

pub length_redeclared : (s : State) (identifier : ℕ) (span : Span)
    → length (redeclared s identifier span).env.identifiers ≡ length s.env.identifiers
length_redeclared s identifier span = length-changed_at (with_span span) identifier s.env.identifiers

pub size_redeclared : (s : State) (identifier : ℕ) (span : Span) → size_of (redeclared s identifier span) ≡ size_of s
size_redeclared s identifier span = omega (arith, length_redeclared s identifier span)

-- A property of all entries that the change keeps.
pub all_changed : {X : Type 0} (P : X → Type 0) (change : X → X) (index : ℕ) (items : List X) → ((x : X) → P x → P (change x)) → All P items
    → All P (changed_at change index items)
all_changed {X} P change index items keeps all = by_item (slice_get items index) refl
  where
    by_item : (o : Option X) → slice_get items index ≡ o → All P (changed_at change index items)
    by_item None none = subst (All P) (sym (changed_at-past change index items none)) all
    by_item (Some x) there =
        let old : P x = subst P (get_or_from_slice_get items index x x there)
        (All-get_or P items index x (slice_get_within items index x there) all) in
        subst (All P) (sym (changed_at-set change index items x there)) (All-set P items index (change x) (keeps x old) all)

-- Identifiers by their index.
pub again_at : (identifiers : List Identifier) (index : ℕ) (span : Span) (identifier : ℕ) (known : Identifier)
    → slice_get identifiers identifier ≡ Some known → HasAgain (changed_at (with_span span) index identifiers) identifier known
again_at identifiers index span identifier known is = elim (eqb_tells identifier index) [
  | inl same ↦ record {
    span = Some span;
    is = ap (λ (n : ℕ). slice_get (changed_at (with_span span) index identifiers) n) same.1
        ∙ slice_get-changed_at_same (with_span span) index identifiers known
        (ap (λ (n : ℕ). slice_get identifiers n) (sym same.1) ∙ is);
  }
  | inr apart ↦ record {
    span = known.span;
    is = slice_get-changed_at_other (with_span span) index identifier identifiers apart.1 ∙ is;
  }
]

pub name_again : (identifiers : List Identifier) (index : ℕ) (span : Span) (identifier : ℕ) (name : IdentifierName)
    → name_at identifiers identifier ≡ Some name → name_at (changed_at (with_span span) index identifiers) identifier ≡ Some name
name_again identifiers index span identifier name is = by_item (slice_get identifiers identifier) refl is
  where
    by_item : (o : Option Identifier) → slice_get identifiers identifier ≡ o → option_map_or (λ (i : Identifier). i.name) o None ≡ Some name
        → name_at (changed_at (with_span span) index identifiers) identifier ≡ Some name
    by_item None none named = absurd (none-some name named)
    by_item (Some known) there named =
        ap (λ (o : Option Identifier). option_map_or (λ (i : Identifier). i.name) o None)
        (again_at identifiers index span identifier known there).is ∙ named

pairs_again : (names : Names) (identifiers : List Identifier) (index : ℕ) (span : Span) (pairs : List Pair)
    → All (IsNamedPair names identifiers) pairs → All (IsNamedPair names (changed_at (with_span span) index identifiers)) pairs
pairs_again names identifiers index span pairs all place default within =
    let here = all place default within in
    record {
      at = here.at;
      declared = here.declared;
      index = here.index;
      named = name_again identifiers index span _ _ here.named;
    }

pub names_redeclared : {names : Names} (s : State) (identifier : ℕ) (span : Span) → KeepsNames names s (redeclared s identifier span)
names_redeclared {names} s identifier span = record {
  named = λ n. record {
    knows = n.knows;
    declared = n.declared;
    made = λ symbol other is.
        let below = n.made symbol other is in
        omega (arith, below, length_redeclared s identifier span);
    noted = n.noted;
  };
  identifiers = λ other known is named. again_at s.env.identifiers identifier span other known is;
  pairs = λ p. pairs_again names s.env.identifiers identifier span s.env.pairs p;
  functions = refl;
  fn_type = refl;
  skip = refl;
}

-- Blocks and names.

pub extends_redeclared : (s : State) (identifier : ℕ) (span : Span) → identifier < length s.env.identifiers
    → Extends s (redeclared s identifier span)
extends_redeclared s identifier span within = record {
  done = λ id f d. record { place = d.place; block = d.block; found = d.found; named = d.named; holds = d.holds };
  wip = λ id f w. inr (record { named = w.named; holds = w.holds });
  table = λ number i is. is;
  completed = λ id k. k;
  current = inl refl;
  entry = refl;
  handlers = refl;
  scopes = refl;
  blocks = omega arith;
  identifiers = omega (arith, length_redeclared s identifier span);
  names = names_refl s.env.pairs (length s.env.identifiers);
  sound = λ q. record {
    agree = AreNamed-spanned s.bindings s.used_names s.env.identifiers identifier span within q.agree;
    same = q.same;
    once = q.once;
  };
}

pub blocks_redeclared : (s : State) (identifier : ℕ) (span : Span) → identifier < length s.env.identifiers
    → PreservesBlocks s (redeclared s identifier span)
blocks_redeclared s identifier span within = record {
  extends = extends_redeclared s identifier span within;
  ids = ids_refl s.completed s.current.id.0 s.env.next_block;
  used = λ id above below. used_refl s id above below;
  named = named_refl s;
  ended = λ all. all;
  straight = λ id n. inl n;
  settle = λ c cover own below jumps old. old;
  looped = λ c cover entry old. old;
}
