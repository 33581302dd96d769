-- Late declarations of a symbol, by their index.
use Rattle.std.proofs.Common.{◌≡◌, ◌<◌, ℕ, Bool, true, false, ◌&&◌, ◌||◌, if◌then◌else◌, nat_eq, Option}
use Rattle.std.proofs.Common.{Some, None, List, [], ◌∷◌, ◌++◌, length, append-nil, refl, sym, ap, ◌∙◌}
use Rattle.std.proofs.lemmas.Bool.{lt-ltb}
use Rattle.std.specs.List.{list_any}
use Rattle.rl_bindings.specs.declared.event.Bound.{Bound}
use Rattle.rl_lint.specs.Findings.{finding}
use Rattle.rl_lint.specs.Lates.{late_pairs}
use Rattle.rl_lint.specs.Rules.{declared, early_of, is_late, stands_before}
use Rattle.rl_lint.specs.Tables.{Tables}
use Rattle.rl_lint.specs.declared.finding.Finding.{Finding}
use Rattle.rl_lint.specs.declared.finding.LintRule.TheVariants as rule
use Rattle.rl_lint.specs.declared.site.LateSite.{LateSite}
use Rattle.rl_lint.specs.declared.site.Site.{Site}
use Rattle.rl_lint.specs.declared.site.Site.TheVariants as site
use Rattle.rl_lint.specs.declared.site.UseSite.{UseSite}
use Rattle.rl_resolver.specs.Lookups.{is_number, name_text}
use Rattle.rl_semantic.specs.Buckets.{AreBuckets, bucket, those}
use Rattle.rl_semantic.specs.Items.{of_item}

module _ (b : Tables) (u : UseSite) (symbol : ℕ) where
  one_late : (d : LateSite) (rest : List Site) (o : Option ℕ)
      → list_any (stands_before u) (those symbol (late_pairs b rest)) ≡ list_any (is_late b u symbol) rest
      → list_any (stands_before u) (those symbol (of_item [] (λ k. (k, d) ∷ []) o ++ late_pairs b rest))
      ≡ ((is_number symbol o && stands_before u d) || list_any (is_late b u symbol) rest)
  one_late d rest None e = e
  one_late d rest (Some k) e = by_case (nat_eq k symbol)
    where
      by_case : (same : Bool)
          → list_any (stands_before u) (if same then d ∷ those symbol (late_pairs b rest) else those symbol (late_pairs b rest))
          ≡ ((same && stands_before u d) || list_any (is_late b u symbol) rest)
      by_case true = ap (λ more. stands_before u d || more) e
      by_case false = e

  any_late : (all : List Site) → list_any (stands_before u) (those symbol (late_pairs b all)) ≡ list_any (is_late b u symbol) all
  any_late [] = refl
  any_late (site.Late d ∷ rest) = one_late d rest (declared b.declarations d.bind.0) (any_late rest)
  any_late (site.Use v ∷ rest) = any_late rest
  any_late (site.Named f ∷ rest) = any_late rest

  any_in : (all : List Site) (table : List (List LateSite)) → AreBuckets table (length b.symbols) (late_pairs b all)
      → symbol < length b.symbols
      → list_any (stands_before u) (bucket table symbol) ≡ list_any (is_late b u symbol) all
  any_in all table are within =
      ap (list_any (stands_before u))
      (are.at symbol ∙ ap (λ (inside : Bool). if inside then those symbol (late_pairs b all) else [])
      (lt-ltb symbol (length b.symbols) within))
      ∙ any_late all

  pub one_early : (all : List Site) (table : List (List LateSite)) (first : Bound) (out new : List Finding) (lates : List LateSite)
      → AreBuckets table (length b.symbols) (late_pairs b all)
      → symbol < length b.symbols → lates ≡ bucket table symbol → list_any (stands_before u) lates ≡ true
      → new ≡ out ++ finding rule.L1 u.at.span (name_text b.names first.name) (Some first.span) ∷ []
      → new ≡ out ++ early_of b all u symbol first
  one_early all table first out new lates are within is any e =
      e ∙ ap (λ (some : Bool). out ++
      (if some then finding rule.L1 u.at.span (name_text b.names first.name) (Some first.span) ∷ [] else []))
      (sym any ∙ ap (list_any (stands_before u)) is ∙ any_in all table are within)

  pub none_early : (all : List Site) (table : List (List LateSite)) (first : Bound) (out : List Finding) (lates : List LateSite)
      → AreBuckets table (length b.symbols) (late_pairs b all)
      → symbol < length b.symbols → lates ≡ bucket table symbol → list_any (stands_before u) lates ≡ false
      → out ≡ out ++ early_of b all u symbol first
  none_early all table first out lates are within is any =
      sym (append-nil out) ∙ ap
      (λ (some : Bool). out ++ (if some then finding rule.L1 u.at.span (name_text b.names first.name) (Some first.span) ∷ [] else []))
      (sym any ∙ ap (list_any (stands_before u)) is ∙ any_in all table are within)
