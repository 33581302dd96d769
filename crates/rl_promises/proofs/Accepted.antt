-- Trees without refusals: none of the parts that are lowered has one.
use Rattle.std.proofs.Common.{◌≡◌, Bool, true, false, if◌then◌else◌, List, [], ◌∷◌, ◌++◌, refl}
use Rattle.rl_names.specs.Names.{Names}
use Rattle.rl_promises.specs.Chains.{Spine}
use Rattle.rl_promises.specs.Rows.{refusals, refusals_by, refusals_in}
use Rattle.rl_syntax.specs.Syntax.{Syntax, Node, Pieces, End, Then}
use Rattle.rl_syntax.specs.declared.numbered.At.{At}
use Rattle.rl_syntax.specs.declared.word.Word.TheVariants as word

-- Two lists that are empty together.
pub nil_parts : {X : Type 0} (xs ys : List X) → xs ++ ys ≡ [] → (xs ≡ []) × (ys ≡ [])
nil_parts [] ys none = (refl, none)
nil_parts (x ∷ xs) ys none = absurd (cc)

-- A list that is empty where a test holds, and where it does not.

pub none_then : {X : Type 0} (test : Bool) (xs : List X) (x : X) → (if test then xs else x ∷ []) ≡ [] → xs ≡ []
none_then true xs x none = none
none_then false xs x none = absurd (cc)

pub none_else : {X : Type 0} (test : Bool) (x : X) (xs : List X) → (if test then x ∷ [] else xs) ≡ [] → xs ≡ []
none_else true x xs none = absurd (cc)
none_else false x xs none = none

-- Each of some parts has no refusals.
abbrev pub AreAccepted : Names → Pieces → Type 0
AreAccepted names End = Unit {0}
AreAccepted names (Then piece pieces) = (refusals names piece ≡ []) × AreAccepted names pieces

pub are_accepted : (names : Names) (parts : Pieces) → refusals_in names parts ≡ [] → AreAccepted names parts
are_accepted names End none = tt
are_accepted names (Then piece pieces) none =
    let both = nil_parts (refusals names piece) (refusals_in names pieces) none in (both.0, are_accepted names pieces both.1)

-- A link or a chain without refusals has none in its parts: its object, callee or expression may stand on the spine.
pub link_accepted : (names : Names) (place : Spine) (object : Syntax) (rest : Pieces)
    → refusals_by names place object ++ refusals_in names rest ≡ [] → (refusals_by names place object ≡ []) × AreAccepted names rest
link_accepted names place object rest none =
    let both = nil_parts (refusals_by names place object) (refusals_in names rest) none in (both.0, are_accepted names rest both.1)

-- The parts of a property off the spine of a chain.

three_accepted : (names : Names) (optional object : Syntax) (rest : Pieces)
    → refusals names optional ++ refusals names object ++ refusals_in names rest ≡ []
    → AreAccepted names (Then optional (Then object rest))
three_accepted names optional object rest none =
    let both = nil_parts (refusals names optional ++ refusals names object) (refusals_in names rest) none in
    let first = nil_parts (refusals names optional) (refusals names object) both.0 in
    (first.0, (first.1, are_accepted names rest both.1))

pub member_accepted : (names : Names) (at : At) (parts : Pieces) → refusals names (Node at word.Member parts) ≡ [] → AreAccepted names parts
member_accepted names at (Then optional (Then object rest)) none = three_accepted names optional object rest none
member_accepted names at parts none = are_accepted names parts none

pub index_accepted : (names : Names) (at : At) (parts : Pieces) → refusals names (Node at word.Index parts) ≡ [] → AreAccepted names parts
index_accepted names at (Then optional (Then object rest)) none = three_accepted names optional object rest none
index_accepted names at parts none = are_accepted names parts none
