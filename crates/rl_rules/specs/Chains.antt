-- Rule B6: a link is optional only on the spine of a chain, and each chain has an optional link on its spine.
use Rattle.std.specs.Prelude.{ℕ, nat_eq, Bool, true, false, not, ◌&&◌, ◌||◌}
use Rattle.rl_syntax.specs.Syntax.{Syntax, Node, Pieces, End, Then}
use Rattle.rl_syntax.specs.declared.word.Word.{Word}
use Rattle.rl_syntax.specs.declared.word.Word.TheVariants as word
use Rattle.rl_rules.specs.Pieces.{is_yes, first_is}
use Rattle.rl_rules.specs.Walks.{passes}
use Rattle.rl_rules.specs.declared.chains.Role.{Role}
use Rattle.rl_rules.specs.declared.chains.Role.TheVariants as role

-- The role of the nodes of a word in a chain. The links are member accesses and calls.
abbrev pub role_of : Word → Role
role_of word.Chain = role.Chain
role_of word.Member = role.Link
role_of word.Index = role.Link
role_of word.Privatemember = role.Link
role_of word.Call = role.Link
role_of word.Nonnull = role.NonNull
role_of _ = role.Other

abbrev mutual
  -- True of a link or `nonnull` whose spine has an optional link. The spine goes on in a link's object or callee, and in the part
  -- of `nonnull`.
  pub has_optional : Syntax → Bool
  has_optional (Node at w parts) = spine_has_optional (role_of w) parts
  has_optional _ = false

  -- As `has_optional`, for a node by its role and its parts.
  pub spine_has_optional : Role → Pieces → Bool
  spine_has_optional role.Link (Then optional pieces) = is_yes optional || first_has_optional pieces
  spine_has_optional role.NonNull (Then expression pieces) = has_optional expression
  spine_has_optional _ _ = false

  -- As `has_optional`, for the first of some parts.
  pub first_has_optional : Pieces → Bool
  first_has_optional End = false
  first_has_optional (Then piece pieces) = has_optional piece

-- True of a chain with an optional link, and of a link that is not optional or on the spine of a chain, as `spine` says.
abbrev pub role_fits : (spine : Bool) → Role → Pieces → Bool
role_fits spine role.Chain parts = first_has_optional parts
role_fits spine role.Link parts = spine || not (first_is is_yes parts)
role_fits spine role.NonNull parts = true
role_fits spine role.Other parts = true

abbrev pub link_fits : (spine : Bool) → Word → Pieces → Bool
link_fits spine w parts = role_fits spine (role_of w) parts

-- True of the part at an index of a node that is on the spine of a chain, if the node is on it as `spine` says.
abbrev pub spine_in : (spine : Bool) → Role → (index : ℕ) → Bool
spine_in spine role.Chain index = true
spine_in spine role.Link index = spine && nat_eq index 1
spine_in spine role.NonNull index = spine
spine_in spine role.Other index = false

abbrev pub spine_below : (spine : Bool) → Word → (index : ℕ) → Bool
spine_below spine w index = spine_in spine (role_of w) index

-- Rule B6 of a tree.
abbrev pub keeps_chains : Syntax → Bool
keeps_chains unit = passes link_fits spine_below false unit
