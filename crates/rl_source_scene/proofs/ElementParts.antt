-- Elements of JSX, by their parts.
use Rattle.std.proofs.Common.{◌≡◌, ◌<◌, ◌+◌, Bool, ◌&&◌, false, Option, Some, None, refl, ap, subst, sym, arith}
use Rattle.std.specs.Option.{option_map}
use Rattle.rl_code.proofs.Smaller.{unpacked}
use Rattle.rl_model.specs.JsxText.{is_fbt_tag}
use Rattle.rl_source_scene.specs.Elements.{Element, element_of, element_parts, is_fbt_by, opening_parts}
use Rattle.rl_syntax.specs.Sizes.{size, size_of}
use Rattle.rl_syntax.specs.Syntax.{Syntax, Node, Said, Pieces, End, Then}
use Rattle.rl_syntax.specs.declared.numbered.At.{At}
use Rattle.rl_syntax.specs.declared.word.Word.{Word}
use Rattle.rl_syntax.specs.declared.word.Word.TheVariants as word

-- A tag that is a name says it in its only part.
pub fbt_by_parts : (at : At) (w : Word) (parts : Pieces) → is_fbt_by w parts ≡ is_fbt_tag (Node at w parts)
fbt_by_parts at word.Tag (Then (Said name) End) = refl
fbt_by_parts at word.Tag _ = refl
fbt_by_parts at word.Id (Then (Said name) End) = refl
fbt_by_parts at word.Id _ = refl
fbt_by_parts at _ parts = refl

-- An element's beginning, by its tag and its attributes.
pub record IsOpening (opening : Syntax) (p : Syntax × Syntax) : Type 0 where
  pub at : At
  pub is : Node at word.Opening (Then p.0 (Then p.1 End)) ≡ opening

pub opened : (opening : Syntax) (p : Syntax × Syntax) → Some p ≡ opening_parts opening → IsOpening opening p
opened (Node at word.Opening (Then t (Then a End))) p is =
    let same = unpacked {X = Syntax × Syntax} p (t, a) is in
    record { at = at; is = ap (λ (q : Syntax × Syntax). Node at word.Opening (Then q.0 (Then q.1 End))) same }
opened _ p is = absurd (cc)

-- The parts of an element whose beginning has these parts.
pub element_is : (found : Option (Syntax × Syntax)) (children : Syntax) (e : Element) → Some e ≡ option_map (element_of children) found
    → (P : Element → Type 0) → ((p : Syntax × Syntax) → Some p ≡ found → P (element_of children p)) → P e
element_is None children e is P made = absurd (cc)
element_is (Some p) children e is P made =
    subst P (sym (unpacked {X = Element} e (element_of children p) is)) (made p refl)

-- The attributes and the children of an element are smaller than all its parts.
attributes_of : (opening : Syntax) (p : Syntax × Syntax) → Some p ≡ opening_parts opening → size p.1 < size opening
attributes_of opening p is = let o = opened opening p is in omega (arith, ap size o.is)

pub attributes_smaller : (w : Word) (parts : Pieces) (e : Element) → Some e ≡ element_parts w parts → size e.attributes < size_of parts
attributes_smaller word.Element (Then opening (Then c closing)) e is =
    element_is (opening_parts opening) c e is (λ e. size e.attributes < size_of (Then opening (Then c closing)))
    (λ p found. let less = attributes_of opening p found in omega (arith, less))
attributes_smaller word.Element (Then opening End) e is = absurd (cc)
attributes_smaller word.Element End e is = absurd (cc)
attributes_smaller _ parts e is = absurd (cc)

pub children_smaller : (w : Word) (parts : Pieces) (e : Element) → Some e ≡ element_parts w parts → size e.children < size_of parts
children_smaller word.Element (Then opening (Then c closing)) e is =
    element_is (opening_parts opening) c e is (λ e. size e.children < size_of (Then opening (Then c closing))) (λ p found. omega arith)
children_smaller word.Element (Then opening End) e is = absurd (cc)
children_smaller word.Element End e is = absurd (cc)
children_smaller _ parts e is = absurd (cc)

pub ruleset smaller = (attributes_smaller, children_smaller)
