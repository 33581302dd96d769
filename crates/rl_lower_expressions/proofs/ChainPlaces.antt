-- Expressions that have no optional link on a spine of their own are lowerable below a link and off the spine of a chain alike.
use Rattle.std.proofs.Common.{◌≡◌, true, false, refl, sym, true≢false}
use Rattle.std.proofs.lemmas.Bool.{and_parts, or_parts}
use Rattle.rl_grammar.specs.Grammar.{fits}
use Rattle.rl_grammar.specs.declared.kind.Field.TheVariants as field
use Rattle.rl_grammar.specs.declared.kind.Kind.TheVariants as kind
use Rattle.rl_names.specs.Names.{Names}
use Rattle.rl_promises.proofs.CoveredForms.{none_fits}
use Rattle.rl_promises.specs.Chains.{Below}
use Rattle.rl_promises.specs.Lowerable.{IsLowerable, IsLowerableAt}
use Rattle.rl_rules.specs.Chains.{has_optional}
use Rattle.rl_rules.specs.Pieces.{is_yes}
use Rattle.rl_syntax.specs.declared.word.Word.TheVariants as word
use Rattle.rl_syntax.specs.Syntax.{Syntax, Node, Listed, Said, Flag, End, Then}

-- An expression that has no optional link on its own spine is lowerable off the spine of a chain as it is below a link.
pub off_spine : (names : Names) (e : Syntax) → fits (field.One kind.Expression) e ≡ true → has_optional e ≡ false
    → IsLowerableAt names Below e → IsLowerable names e
off_spine names (Node at word.Member (Then optional (Then object rest))) fit unlinked may =
    let front = and_parts (fits (field.One kind.Expression) object) _ (and_parts (fits (field.One kind.Flag) optional) _ fit).1 in
    let none = or_parts (is_yes optional) (has_optional object) unlinked in
    (none.0, (may.0, (off_spine names object front.0 none.1 may.1, may.2)))
off_spine names (Node at word.Member (Then optional End)) fit unlinked may =
    absurd (true≢false (sym (and_parts (fits (field.One kind.Flag) optional) _ fit).1))
off_spine names (Node at word.Member End) fit unlinked may = absurd (true≢false (sym fit))
off_spine names (Node at word.Index (Then optional (Then object rest))) fit unlinked may =
    let front = and_parts (fits (field.One kind.Expression) object) _ (and_parts (fits (field.One kind.Flag) optional) _ fit).1 in
    let none = or_parts (is_yes optional) (has_optional object) unlinked in
    (none.0, (may.0, (off_spine names object front.0 none.1 may.1, may.2)))
off_spine names (Node at word.Index (Then optional End)) fit unlinked may =
    absurd (true≢false (sym (and_parts (fits (field.One kind.Flag) optional) _ fit).1))
off_spine names (Node at word.Index End) fit unlinked may = absurd (true≢false (sym fit))
off_spine names (Node at word.Privatemember (Then optional (Then object rest))) fit unlinked may =
    let front = and_parts (fits (field.One kind.Expression) object) _ (and_parts (fits (field.One kind.Flag) optional) _ fit).1 in
    let none = or_parts (is_yes optional) (has_optional object) unlinked in
    (none.0, (may.0, (off_spine names object front.0 none.1 may.1, may.2)))
off_spine names (Node at word.Privatemember (Then optional End)) fit unlinked may =
    absurd (true≢false (sym (and_parts (fits (field.One kind.Flag) optional) _ fit).1))
off_spine names (Node at word.Privatemember End) fit unlinked may = absurd (true≢false (sym fit))
off_spine names (Node at word.Call (Then optional (Then callee rest))) fit unlinked may =
    let front = and_parts (fits (field.One kind.Expression) callee) _ (and_parts (fits (field.One kind.Flag) optional) _ fit).1 in
    let none = or_parts (is_yes optional) (has_optional callee) unlinked in
    (none.0, (may.0, (off_spine names callee front.0 none.1 may.1, may.2)))
off_spine names (Node at word.Call (Then optional End)) fit unlinked may =
    absurd (true≢false (sym (and_parts (fits (field.One kind.Flag) optional) _ fit).1))
off_spine names (Node at word.Call End) fit unlinked may = absurd (true≢false (sym fit))
off_spine names (Node at word.Nonnull (Then e End)) fit unlinked may =
    (refl, (off_spine names e (and_parts (fits (field.One kind.Expression) e) _ fit).0 unlinked may, tt))
off_spine names (Node at word.Nonnull (Then e (Then more rest))) fit unlinked may =
    absurd (true≢false (sym (and_parts (fits (field.One kind.Expression) e) _ fit).1))
off_spine names (Node at word.Id (Then (Said name) End)) fit unlinked may = may
off_spine names (Node at word.Bind (Then (Said name) type)) fit unlinked may = may
off_spine names (Node at word.Type parts) fit unlinked may = may
off_spine names (Node at word.Instantiate (Then e types)) fit unlinked may = may
off_spine names (Node at word.Yield parts) fit unlinked may = may
off_spine names (Node at word.Unary (Then (Said operator) (Then argument End))) fit unlinked may = may
off_spine names (Node at word.Update (Then operator (Then prefix (Then target End)))) fit unlinked may = may
off_spine names (Node at word.Assign (Then (Said operator) (Then target (Then right End)))) fit unlinked may = may
off_spine names
    (Node at word.Tagged (Then tag (Then (Node there word.Template (Then (Listed quasis) (Then (Listed expressions) End))) End))) fit
    unlinked may = may
off_spine names (Node at word.Prop (Then (Flag computed) (Then key (Then e End)))) fit unlinked may = may
off_spine names (Node at word.Chain (Then e rest)) fit unlinked may = may
off_spine names (Node at word.Keyedpat parts) fit unlinked may = absurd (none_fits parts fit)
off_spine names (Node at word.Objectpat parts) fit unlinked may = absurd (none_fits parts fit)
off_spine names (Node at w parts) fit unlinked may = may
off_spine names (Listed parts) fit unlinked may = absurd (true≢false (sym fit))
off_spine names _ fit unlinked may = tt
