-- Targets of assignments in a covered function without the stop S3: none of them is wrapped.
use Rattle.std.proofs.Common.{◌≡◌, ℕ, ◌+◌, Bool, true, false, true≢false, if◌then◌else◌, Option, Some, None, List, [], ◌∷◌, ◌++◌, refl, sym}
use Rattle.std.proofs.Common.{ap, subst}
use Rattle.std.specs.List.{AllByRecursion}
use Rattle.std.specs.Option.{option_map}
use Rattle.rl_base.specs.declared.ids.NodeId.{NodeId}
use Rattle.rl_base.specs.declared.span.Span.{Span}
use Rattle.rl_context.specs.Roles.{below, role_of, top}
use Rattle.rl_context.specs.Sites.{is_class, site_of, sites, sites_among, sites_from, sites_in}
use Rattle.rl_context.specs.Wrapped.{diagnostic_of, first_from, first_of, stop_among}
use Rattle.rl_context.specs.declared.role.Above.{Above}
use Rattle.rl_context.specs.declared.role.Target.TheVariants as target
use Rattle.rl_context.specs.declared.site.NodeRange.{NodeRange}
use Rattle.rl_context.specs.declared.site.Site.{Site}
use Rattle.rl_context.specs.declared.site.Site.TheVariants as site
use Rattle.rl_context.specs.declared.site.WrappedSite.{WrappedSite}
use Rattle.rl_names.specs.Functions.{body_in, params_in}
use Rattle.rl_promises.specs.Covered.{AreCovered, IsCovered, IsCoveredFunction, covers}
use Rattle.rl_promises.specs.Outs.{is_wrapped}
use Rattle.rl_syntax.specs.Syntax.{Syntax, Node, Listed, Said, Count, Flag, Absent, Pieces, End, Then}
use Rattle.rl_syntax.specs.declared.numbered.At.{At}
use Rattle.rl_syntax.specs.declared.word.Word.{Word}
use Rattle.rl_syntax.specs.declared.word.Word.TheVariants as word

-- The target of the node, where it is an assignment, is not wrapped.
abbrev pub HasBareTarget : Word → Pieces → Type 0
HasBareTarget word.Assign (Then operator (Then target parts)) = is_wrapped target ≡ false
HasBareTarget _ parts = Unit {0}

abbrev mutual
  -- No assignment in the tree has a wrapped target.
  pub IsUnwrapped : Syntax → Type 0
  IsUnwrapped (Node at w parts) = HasBareTarget w parts × AreUnwrapped parts
  IsUnwrapped (Listed parts) = AreUnwrapped parts
  IsUnwrapped (Said text) = Unit {0}
  IsUnwrapped (Count number) = Unit {0}
  IsUnwrapped (Flag flag) = Unit {0}
  IsUnwrapped Absent = Unit {0}

  -- As `IsUnwrapped`, for parts in a row.
  pub AreUnwrapped : Pieces → Type 0
  AreUnwrapped End = Unit {0}
  AreUnwrapped (Then piece pieces) = IsUnwrapped piece × AreUnwrapped pieces

-- A site that is no wrapped target.
abbrev IsBare : Site → Type 0
IsBare (site.Wrapped w) = ⊥
IsBare _ = Unit {0}

abbrev AreBare : List Site → Type 0
AreBare ss = AllByRecursion IsBare ss

-- A search that found a target finds one.
found_stays : (before : WrappedSite) (ss : List Site) → first_from (Some before) ss ≡ None → ⊥
found_stays before [] none = absurd (cc)
found_stays before (site.Wrapped w ∷ ss) none = found_stays (first_of (Some before) w) ss none
found_stays before (_ ∷ ss) none = found_stays before ss none

none_found : (ss : List Site) → first_from None ss ≡ None → AreBare ss
none_found [] none = tt
none_found (site.Wrapped w ∷ ss) none = absurd (found_stays w ss none)
none_found (_ ∷ ss) none = (tt, none_found ss none)

unmapped : (found : Option WrappedSite) → option_map diagnostic_of found ≡ None → found ≡ None
unmapped None none = refl
unmapped (Some w) none = absurd (cc)

bare_both : (xs ys : List Site) → AreBare (xs ++ ys) → AreBare xs × AreBare ys
bare_both [] ys h = (tt, h)
bare_both (x ∷ xs) ys h = (let rest = bare_both xs ys h.1 in ((h.0, rest.0), rest.1))

-- A class is not covered.
no_class : (w : Word) (parts : Pieces) → covers w parts ≡ true → is_class (role_of w) ≡ false
no_class word.Classdecl parts covered = absurd (true≢false (sym covered))
no_class word.Classexpr parts covered = absurd (true≢false (sym covered))
no_class _ parts covered = refl

-- A target of an assignment that is no site is not wrapped.
bare_target : (in_type : Bool) (opening : Option Span) (function : Option NodeRange) (assignment : NodeId) (e : Syntax)
    → AreBare (sites (record { in_type = in_type; opening = opening; function = function; target = target.Assignment assignment }) e)
    → is_wrapped e ≡ false
bare_target in_type opening function assignment (Node at word.As parts) bare = absurd bare.0
bare_target in_type opening function assignment (Node at word.Satisfies parts) bare = absurd bare.0
bare_target in_type opening function assignment (Node at word.Assert parts) bare = absurd bare.0
bare_target in_type opening function assignment (Node at word.Nonnull parts) bare = absurd bare.0
bare_target in_type opening function assignment _ bare = refl

own_target : (a : Above) (at : At) (w : Word) (parts : Pieces) → AreBare (sites_from a at w 0 parts) → HasBareTarget w parts
own_target a at word.Assign (Then operator (Then e parts)) bare =
    let rest = bare_both (sites (below a at word.Assign 0) operator) _ bare in
    bare_target _ _ _ at.id e (bare_both (sites (below a at word.Assign 1) e) _ rest.1).0
own_target a at _ parts bare = tt

mutual
  unwrapped_in : (e : Syntax) (a : Above) → IsCovered e → AreBare (sites a e) → IsUnwrapped e
  unwrapped_in (Node at w parts) a covered bare =
      let inside : List Site = site_of (role_of w) a at ++ sites_from a at w 0 parts in
      let is : AreBare inside = subst AreBare (ap (λ (b : Bool). if b then [] else inside) (no_class w parts covered.0)) bare in
      let rest = (bare_both (site_of (role_of w) a at) _ is).1 in
      (own_target a at w parts rest, unwrapped_from parts a at w 0 covered.1 rest)
  unwrapped_in (Listed items) a covered bare = unwrapped_among items a covered bare
  unwrapped_in (Said text) a covered bare = tt
  unwrapped_in (Count number) a covered bare = tt
  unwrapped_in (Flag flag) a covered bare = tt
  unwrapped_in Absent a covered bare = tt

  unwrapped_from : (parts : Pieces) (a : Above) (at : At) (w : Word) (index : ℕ) → AreCovered parts
      → AreBare (sites_from a at w index parts) → AreUnwrapped parts
  unwrapped_from End a at w index covered bare = tt
  unwrapped_from (Then piece pieces) a at w index covered bare =
      let both = bare_both (sites (below a at w index) piece) _ bare in
      (unwrapped_in piece (below a at w index) covered.0 both.0, unwrapped_from pieces a at w (index + 1) covered.1 both.1)

  unwrapped_among : (items : Pieces) (a : Above) → AreCovered items → AreBare (sites_among a items) → AreUnwrapped items
  unwrapped_among End a covered bare = tt
  unwrapped_among (Then piece pieces) a covered bare =
      let both = bare_both (sites a piece) _ bare in
      (unwrapped_in piece a covered.0 both.0, unwrapped_among pieces a covered.1 both.1)

parts_unwrapped : (parts : Pieces) → AreCovered parts → stop_among (sites_among top parts) ≡ None → AreUnwrapped parts
parts_unwrapped parts covered none = unwrapped_among parts top covered (none_found (sites_among top parts) (unmapped _ none))

-- Parameters and body among the parts of a function.

four_unwrapped : (a b c d : Syntax) → AreCovered (Then a (Then b (Then c (Then d End))))
    → stop_among (sites_among top (Then a (Then b (Then c (Then d End))))) ≡ None → IsUnwrapped c × IsUnwrapped d
four_unwrapped a b c d covered none =
    let parts : Pieces = Then a (Then b (Then c (Then d End))) in
    let all : AreUnwrapped parts = parts_unwrapped parts covered none in (all.1.1.0, all.1.1.1.0)

six_unwrapped : (a b c d e f : Syntax) → AreCovered (Then a (Then b (Then c (Then d (Then e (Then f End))))))
    → stop_among (sites_among top (Then a (Then b (Then c (Then d (Then e (Then f End))))))) ≡ None → IsUnwrapped e × IsUnwrapped f
six_unwrapped a b c d e f covered none =
    let parts : Pieces = Then a (Then b (Then c (Then d (Then e (Then f End))))) in
    let all : AreUnwrapped parts = parts_unwrapped parts covered none in (all.1.1.1.1.0, all.1.1.1.1.1.0)

-- The parameters and the body of a covered function without the stop S3.

pub params_unwrapped : (f : Syntax) → IsCoveredFunction f → stop_among (sites_in f) ≡ None → IsUnwrapped (params_in f)
params_unwrapped (Node at word.Arrow (Then a (Then b (Then params (Then body End))))) covered none =
    (four_unwrapped a b params body covered none).0
params_unwrapped (Node at word.Arrow _) covered none = tt
params_unwrapped (Node at word.Fundecl (Then a (Then b (Then c (Then d (Then params (Then body End))))))) covered none =
    (six_unwrapped a b c d params body covered none).0
params_unwrapped (Node at word.Fundecl _) covered none = tt
params_unwrapped (Node at word.Funexpr (Then a (Then b (Then c (Then d (Then params (Then body End))))))) covered none =
    (six_unwrapped a b c d params body covered none).0
params_unwrapped (Node at word.Funexpr _) covered none = tt
params_unwrapped _ covered none = absurd covered

pub body_unwrapped : (f : Syntax) → IsCoveredFunction f → stop_among (sites_in f) ≡ None → IsUnwrapped (body_in f)
body_unwrapped (Node at word.Arrow (Then a (Then b (Then params (Then body End))))) covered none =
    (four_unwrapped a b params body covered none).1
body_unwrapped (Node at word.Arrow _) covered none = tt
body_unwrapped (Node at word.Fundecl (Then a (Then b (Then c (Then d (Then params (Then body End))))))) covered none =
    (six_unwrapped a b c d params body covered none).1
body_unwrapped (Node at word.Fundecl _) covered none = tt
body_unwrapped (Node at word.Funexpr (Then a (Then b (Then c (Then d (Then params (Then body End))))))) covered none =
    (six_unwrapped a b c d params body covered none).1
body_unwrapped (Node at word.Funexpr _) covered none = tt
body_unwrapped _ covered none = absurd covered
