-- Parts of properties that operators stand on.
use Rattle.std.proofs.Common.{◌≡◌, Bool, false, ap, sym, ◌∙◌, subst}
use Rattle.rl_names.specs.Names.{Names}
use Rattle.rl_promises.specs.Lowerable.{IsLowerable}
use Rattle.rl_promises.specs.Outs.{is_wrapped}
use Rattle.rl_syntax.specs.declared.numbered.At.{At}
use Rattle.rl_syntax.specs.declared.word.Word.TheVariants as word
use Rattle.rl_syntax.specs.Syntax.{Syntax, Node, Flag, Pieces, End, Then}
use Rattle.rl_lower_expressions.proofs.MemberDerivations.{update_may}

-- The object of a property by its name that is lowerable is lowerable, and so is that of a private one.

pub static_may : (names : Names) (optional : Bool) {tree object : Syntax} {at : At} {rest : Pieces}
    → Node at word.Member (Then (Flag optional) (Then object rest)) ≡ tree → IsLowerable names tree → IsLowerable names object
static_may names optional is may = (subst (IsLowerable names) (sym is) may).1.1.0

pub private_may : (names : Names) (optional : Bool) {tree object : Syntax} {at : At} {rest : Pieces}
    → Node at word.Privatemember (Then (Flag optional) (Then object rest)) ≡ tree → IsLowerable names tree → IsLowerable names object
private_may names optional is may = (subst (IsLowerable names) (sym is) may).1.1.0

-- The object and the key of a property in brackets that is lowerable are.
pub index_may : (names : Names) (optional : Bool) {tree object property : Syntax} {at : At} {rest : Pieces}
    → Node at word.Index (Then (Flag optional) (Then object (Then property rest))) ≡ tree → IsLowerable names tree
    → IsLowerable names object × IsLowerable names property
index_may names optional is may = (
  (subst (IsLowerable names) (sym is) may).1.1.0,
  (subst (IsLowerable names) (sym is) may).1.1.1.0,
)

-- The target of an update that shows no wrapper is lowerable.
pub target_may : (names : Names) (at : At) (operator prefix : Syntax) {shown target : Syntax} → shown ≡ target → is_wrapped shown ≡ false
    → IsLowerable names (Node at word.Update (Then operator (Then prefix (Then target End)))) → IsLowerable names target
target_may names at operator prefix {shown} {target} is bare may =
    update_may names at operator prefix target (ap is_wrapped (sym is) ∙ bare) may
