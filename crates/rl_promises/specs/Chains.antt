-- Links of optional chains in the trees of a function whose unit keeps the rule on them (B6).
use Rattle.std.specs.Prelude.{◌≡◌, true, false}
use Rattle.rl_names.specs.Functions.{body_in, params_in}
use Rattle.rl_rules.specs.Chains.{has_optional}
use Rattle.rl_rules.specs.Pieces.{first_is, is_yes}
use Rattle.rl_syntax.specs.Syntax.{Syntax, Node, Listed, Said, Count, Flag, Absent, Pieces, End, Then}
use Rattle.rl_syntax.specs.declared.word.Word.TheVariants as word

-- The place of an expression: off the spine of a chain, at its top, or below a link on it. The spine goes on in the object or callee of a
-- link, and in `!`. A list never stands on it.
pub data Spine : Type 0 where
  Off : Spine
  Top : Spine
  Below : Spine

-- The place of the object or callee of a link.
abbrev pub below_link : Spine → Spine
below_link Off = Off
below_link Top = Below
below_link Below = Below

abbrev mutual
  -- A link in the tree is optional only on the spine of a chain, and each chain has an optional link on its spine.
  pub IsChainedAt : Spine → Syntax → Type 0
  IsChainedAt place (Node at word.Chain (Then expression rest)) = (has_optional expression ≡ true) × IsChainedAt Top expression
  IsChainedAt Off (Node at word.Member parts) = (first_is is_yes parts ≡ false) × AreChained parts
  IsChainedAt Off (Node at word.Index parts) = (first_is is_yes parts ≡ false) × AreChained parts
  IsChainedAt Off (Node at word.Privatemember parts) = (first_is is_yes parts ≡ false) × AreChained parts
  IsChainedAt Off (Node at word.Call parts) = (first_is is_yes parts ≡ false) × AreChained parts
  IsChainedAt Off (Node at w parts) = AreChained parts
  IsChainedAt place (Node at word.Member (Then optional (Then object rest))) =
      IsChainedAt Off optional × IsChainedAt (below_link place) object × AreChained rest
  IsChainedAt place (Node at word.Member parts) = Unit {0}
  IsChainedAt place (Node at word.Index (Then optional (Then object rest))) =
      IsChainedAt Off optional × IsChainedAt (below_link place) object × AreChained rest
  IsChainedAt place (Node at word.Index parts) = Unit {0}
  IsChainedAt place (Node at word.Privatemember (Then optional (Then object rest))) =
      IsChainedAt Off optional × IsChainedAt (below_link place) object × AreChained rest
  IsChainedAt place (Node at word.Privatemember parts) = Unit {0}
  IsChainedAt place (Node at word.Call (Then optional (Then callee rest))) =
      IsChainedAt Off optional × IsChainedAt (below_link place) callee × AreChained rest
  IsChainedAt place (Node at word.Call parts) = Unit {0}
  IsChainedAt place (Node at word.Nonnull (Then expression rest)) = IsChainedAt place expression
  IsChainedAt place (Node at w parts) = AreChained parts
  IsChainedAt Off (Listed parts) = AreChained parts
  IsChainedAt place (Listed parts) = Unit {0}
  IsChainedAt place (Said text) = Unit {0}
  IsChainedAt place (Count number) = Unit {0}
  IsChainedAt place (Flag flag) = Unit {0}
  IsChainedAt place Absent = Unit {0}

  -- As `IsChainedAt`, for parts in a row that stand off the spine.
  pub AreChained : Pieces → Type 0
  AreChained End = Unit {0}
  AreChained (Then piece pieces) = IsChainedAt Off piece × AreChained pieces

-- As `IsChainedAt`, for a tree that stands off the spine.
abbrev pub IsChained : Syntax → Type 0
IsChained tree = IsChainedAt Off tree

-- As `IsChained`, for the parameters and the body of a function.
pub record HasChains (function : Syntax) : Type 0 where
  pub params : IsChained (params_in function)
  pub body : IsChained (body_in function)
