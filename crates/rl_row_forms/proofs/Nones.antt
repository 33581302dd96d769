-- Tests of rows by their parts.
use Rattle.std.proofs.Common.{◌≡◌, Bool, true, false, ◌&&◌, not, if◌then◌else◌, List, [], ◌∷◌, ◌++◌, refl}
use Rattle.rl_model.specs.Applied.{Which, when}
use Rattle.rl_model.specs.Supported.{is_none}

pub both_none : (xs ys : List Which) → (is_none xs && is_none ys) ≡ is_none (xs ++ ys)
both_none [] ys = refl
both_none (x ∷ xs) ys = refl

pub three_none : (xs ys zs : List Which) → (is_none xs && (is_none ys && is_none zs)) ≡ is_none (xs ++ ys ++ zs)
three_none [] ys zs = both_none ys zs
three_none (x ∷ xs) ys zs = refl

pub and_last : (b : Bool) → (b && true) ≡ b
and_last true = refl
and_last false = refl

pub one_when : (p : Bool) (x : Which) → not p ≡ is_none (when p x)
one_when true x = refl
one_when false x = refl

pub other_when : (p : Bool) (x : Which) → p ≡ is_none (when (not p) x)
other_when true x = refl
other_when false x = refl

pub two_whens : (p q : Bool) (x y : Which) → (not p && not q) ≡ is_none (when p x ++ when q y)
two_whens true q x y = refl
two_whens false true x y = refl
two_whens false false x y = refl

pub three_whens : (p q r : Bool) (x y z : Which) → ((not p && not q) && not r) ≡ is_none ((when p x ++ when q y) ++ when r z)
three_whens true q r x y z = refl
three_whens false true r x y z = refl
three_whens false false true x y z = refl
three_whens false false false x y z = refl

pub row_whens : (p q r : Bool) (x y z : Which) → (not p && not q && not r) ≡ is_none (when p x ++ when q y ++ when r z)
row_whens true q r x y z = refl
row_whens false true r x y z = refl
row_whens false false true x y z = refl
row_whens false false false x y z = refl

-- A declaration.
pub declared_whens : (v p q l : Bool) (x y z : Which)
    → ((if v then not p && not q else true) && not l) ≡ is_none ((if v then when p x ++ when q y else []) ++ when l z)
declared_whens true p q l x y z = three_whens p q l x y z
declared_whens false p q l x y z = one_when l z

-- A logical operator, and a private name that `=` assigns.
pub private_whens : (l e : Bool) (x y : Which) → (not l && not e) ≡ is_none (when e x ++ when l y)
private_whens true true x y = refl
private_whens true false x y = refl
private_whens false true x y = refl
private_whens false false x y = refl

-- A logical operator, and a pattern that another operator than `=` assigns.
pub pattern_whens : (l e : Bool) (x y : Which) → (not l && e) ≡ is_none (if l then x ∷ [] else when (not e) y)
pattern_whens true e x y = refl
pattern_whens false true x y = refl
pattern_whens false false x y = refl

pub logical_when : (l : Bool) (x : Which) → (not l && true) ≡ is_none (when l x)
logical_when true x = refl
logical_when false x = refl

-- A row in both cases.
pub one_of_two : (b : Bool) (x y : Which) → false ≡ is_none (if b then x ∷ [] else y ∷ [])
one_of_two true x y = refl
one_of_two false x y = refl
