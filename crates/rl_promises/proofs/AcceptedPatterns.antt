-- Patterns without refusals: none of their parts that are lowered has one.
use Rattle.std.proofs.Common.{◌≡◌, Bool, true, false, true≢false, not, if◌then◌else◌, List, [], ◌∷◌, ◌++◌, refl, sym}
use Rattle.rl_base.specs.declared.diagnostic.Diagnostic.{Diagnostic}
use Rattle.rl_model.specs.Shapes.{is_plain_rest}
use Rattle.rl_names.specs.Names.{Names}
use Rattle.rl_promises.proofs.Accepted.{nil_parts}
use Rattle.rl_promises.proofs.FormedParts.{IsUnkeyed, IsWhole}
use Rattle.rl_promises.specs.Moved.{said_of_moved}
use Rattle.rl_promises.specs.Patterns.{is_ahead, is_lost_item, lost_item, lost_rest, said_of_key}
use Rattle.rl_promises.specs.Rows.{refusals, refusals_in_round, refusals_to, refusals_to_round, said_of_rest}
use Rattle.rl_syntax.specs.Syntax.{Syntax, Node, Pieces, Then}
use Rattle.rl_syntax.specs.declared.word.Word.TheVariants as word

-- Lists that are empty by a test.

pub none_kept : {X : Type 0} (lost : Bool) (xs : List X) → lost ≡ false → (if lost then [] else xs) ≡ [] → xs ≡ []
none_kept true xs kept none = absurd (true≢false kept)
none_kept false xs kept none = none

pub none_plain : {X : Type 0} (plain : Bool) (xs : List X) → plain ≡ true → (if plain then xs else []) ≡ [] → xs ≡ []
none_plain true xs is none = none
none_plain false xs is none = absurd (true≢false (sym is))

pub in_rounds : {X : Type 0} (first : Bool) (xs : List X) → (if first then xs else []) ≡ [] → (if not first then xs else []) ≡ []
    → xs ≡ []
in_rounds true xs one other = one
in_rounds false xs one other = other

pub in_branches : {X : Type 0} (first : Bool) (xs : List X) → (if first then xs else []) ≡ [] → (if first then [] else xs) ≡ [] → xs ≡ []
in_branches true xs one other = one
in_branches false xs one other = other

pub plain_then : {X : Type 0} (plain : Bool) (xs : List X) (x : X) → (if plain then xs else x ∷ []) ≡ [] → plain ≡ true
plain_then true xs x none = refl
plain_then false xs x none = absurd (cc)

one_else : {X : Type 0} (lost : Bool) (x : X) (xs : List X) → (if lost then x ∷ [] else xs) ≡ [] → lost ≡ false
one_else true x xs none = absurd (cc)
one_else false x xs none = refl

none_or_one : {X : Type 0} (plain : Bool) (x : X) → (if plain then [] else x ∷ []) ≡ [] → plain ≡ true
none_or_one true x none = refl
none_or_one false x none = absurd (cc)

-- A property that is not left out, and a part that is no property.

key_kept : (item : Syntax) → said_of_key item ≡ [] → is_lost_item item ≡ false
key_kept item none = one_else (is_lost_item item) (lost_item item) _ none

pub unlost : (t : Syntax) → IsUnkeyed t → is_lost_item t ≡ false
unlost (Node at word.Keyedpat parts) whole = absurd whole
unlost (Node at word.Keyed parts) whole = absurd whole
unlost _ whole = refl

pub whole_unlost : (t : Syntax) → IsWhole t → is_lost_item t ≡ false
whole_unlost (Node at word.Keyedpat parts) whole = absurd whole
whole_unlost (Node at word.Keyed parts) whole = absurd whole
whole_unlost _ whole = refl

-- The rest of an object.

pub plain_rest : (rest : Syntax) → said_of_rest rest ≡ [] → is_plain_rest rest ≡ true
plain_rest rest none = none_or_one (is_plain_rest rest) (lost_rest rest) none

pub plain_unlost : (rest : Syntax) → is_plain_rest rest ≡ true → is_lost_item rest ≡ false
plain_unlost (Node at word.Keyedpat parts) plain = absurd (true≢false (sym plain))
plain_unlost (Node at word.Keyed parts) plain = absurd (true≢false (sym plain))
plain_unlost _ plain = refl

-- A default in front of what takes the value.
pub default_none : (names : Names) (default : Syntax) (taken : List Diagnostic)
    → said_of_moved names default ++ refusals names default ++ taken ≡ [] → (refusals names default ≡ []) × (taken ≡ [])
default_none names default taken none =
    let both = nil_parts (said_of_moved names default ++ refusals names default) taken none in
    ((nil_parts (said_of_moved names default) (refusals names default) both.0).1, both.1)

-- An item and those behind it have no refusals, in the first round or in the second one.
pub record Accepted (lost : Bool) (own one other : List Diagnostic) : Type 0 where
  pub kept : lost ≡ false
  pub item : own ≡ []
  pub first : one ≡ []
  pub second : other ≡ []

item_none : (early : Bool) (item : Syntax) (own first second : List Diagnostic)
    → said_of_key item ++ (if early then own else []) ++ first ≡ [] → [] ++ (if not early then own else []) ++ second ≡ []
    → Accepted (is_lost_item item) own first second
item_none early item own first second one other =
    let both = nil_parts (said_of_key item ++ (if early then own else [])) first one in
    let also = nil_parts (if not early then own else []) second other in
    let key = nil_parts (said_of_key item) (if early then own else []) both.0 in
    record { kept = key_kept item key.0; item = in_rounds early own key.1 also.0; first = both.1; second = also.1 }

pub round_none : (names : Names) (forced : Bool) (item : Syntax) (items : Pieces)
    → refusals_to_round names forced true (Then item items) ≡ [] → refusals_to_round names forced false (Then item items) ≡ []
    → Accepted (is_lost_item item) (refusals_to names item) (refusals_to_round names forced true items)
    (refusals_to_round names forced false items)
round_none names forced item items one other = item_none (not forced) item _ _ _ one other

pub bound_none : (names : Names) (item : Syntax) (items : Pieces)
    → refusals_in_round names true (Then item items) ≡ [] → refusals_in_round names false (Then item items) ≡ []
    → Accepted (is_lost_item item) (refusals names item) (refusals_in_round names true items) (refusals_in_round names false items)
bound_none names item items one other = item_none (is_ahead item) item _ _ _ one other
