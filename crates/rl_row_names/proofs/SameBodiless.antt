-- The rows in a function declaration without a body are those of the model.
use Rattle.std.proofs.Common.{◌≡◌, ℕ, Bool, true, false, ◌&&◌, ◌||◌, if◌then◌else◌, List, [], ◌++◌, codes, refl, ◌∙◌}
use Rattle.std.specs.Str.{bytes_eq}
use Rattle.rl_base.specs.Reserved.{is_reserved}
use Rattle.rl_model.specs.Applied.{F, Facts, S, Which, has_this_among, is_class, is_fundecl, of_bodiless, of_local, of_used}
use Rattle.rl_model.specs.Applied.{rows_bodiless, rows_bodiless_among, rows_of_no_code}
use Rattle.rl_model.specs.Supported.{is_none}
use Rattle.rl_names.specs.declared.names.Meaning.{Meaning}
use Rattle.rl_names.specs.declared.names.Meaning.TheVariants.{Local, Outer}
use Rattle.rl_row_forms.proofs.Nones.{both_none, one_when, two_whens}
use Rattle.rl_row_names.specs.Bodiless.{clear_bodiless, clear_bodiless_among, clear_declared, clear_no_code}
use Rattle.rl_row_names.specs.Named.{clear_local, clear_used}
use Rattle.rl_syntax.specs.Syntax.{Syntax, Node, Listed, Said, Count, Flag, Absent, Pieces, End, Then}
use Rattle.rl_syntax.specs.declared.numbered.At.{At}
use Rattle.rl_syntax.specs.declared.word.Word.{Word}
use Rattle.rl_syntax.specs.declared.word.Word.TheVariants as word

local_same : (name : List ℕ) → clear_local name ≡ is_none (of_local name)
local_same name = two_whens (is_reserved name) (bytes_eq name (codes "fbt")) (S 1) (F 40)

used_same : (name : List ℕ) (m : Meaning) → clear_used name m ≡ is_none (of_used name m)
used_same name (Local symbol) = local_same name
used_same name (Outer b) = refl

declared_same : (f : Facts) (at : At) (w : Word) (parts : Pieces)
    → clear_declared f at w parts ≡ is_none (of_bodiless f (Node at w parts))
declared_same f at word.Bind (Then (Said name) parts) = local_same name
declared_same f at word.Id (Then (Said name) End) = used_same name (f.names.meaning at.reference.0 name)
declared_same f at word.Params parts = one_when (has_this_among parts) (S 2)
declared_same f at w parts = refl

class_or : (b x y : Bool) (xs ys : List Which) → x ≡ is_none xs → y ≡ is_none ys
    → (b || (x && y)) ≡ is_none (if b then [] else xs ++ ys)
class_or true x y xs ys ex ey = refl
class_or false x y xs ys ex ey = (λ i. ex i && ey i) ∙ both_none xs ys

mutual
  bodiless_same : (f : Facts) (tree : Syntax) → clear_bodiless f tree ≡ is_none (rows_bodiless f tree)
  bodiless_same f (Node at w parts) =
      class_or (is_class w) (clear_declared f at w parts) (clear_bodiless_among f parts) (of_bodiless f (Node at w parts))
      (rows_bodiless_among f parts) (declared_same f at w parts) (bodiless_among_same f parts)
  bodiless_same f (Listed parts) = bodiless_among_same f parts
  bodiless_same f (Said text) = refl
  bodiless_same f (Count number) = refl
  bodiless_same f (Flag flag) = refl
  bodiless_same f Absent = refl

  bodiless_among_same : (f : Facts) (parts : Pieces) → clear_bodiless_among f parts ≡ is_none (rows_bodiless_among f parts)
  bodiless_among_same f End = refl
  bodiless_among_same f (Then part parts) =
      (λ i. bodiless_same f part i && bodiless_among_same f parts i) ∙ both_none (rows_bodiless f part) (rows_bodiless_among f parts)

no_code_by : (b : Bool) (f : Facts) (parts : Pieces)
    → (if b then clear_bodiless_among f parts else true) ≡ is_none (if b then rows_bodiless_among f parts else [])
no_code_by true f parts = bodiless_among_same f parts
no_code_by false f parts = refl

pub no_code_same : (f : Facts) (w : Word) (parts : Pieces) → clear_no_code f w parts ≡ is_none (rows_of_no_code f w parts)
no_code_same f w parts = no_code_by (is_fundecl w) f parts
