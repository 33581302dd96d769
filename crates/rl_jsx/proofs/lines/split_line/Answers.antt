use Rattle.std.proofs.Common.{◌≡◌, ◌∙◌, ◌+◌, ◌-◌, ◌<◌, ◌++◌, ◌∷◌, [], true, take, drop, get_or, sym, ap, subst, rules, arith}
use Rattle.std.specs.List.{list_all}
use Rattle.std.specs.Str.{IsCharBoundary}
use Rattle.std.proofs.Math.ListN.{drop_of_length-le}
use Rattle.std.proofs.lemmas.Grind.{common_steps}
use Rattle.std.proofs.lemmas.List.{append-nil, take-append-drop}
use Rattle.std.proofs.lemmas.Str.{IsCharBoundary-after_ascii}
use Rattle.rl_jsx.specs.JsxTexts.{split_line_endings}
use Rattle.rl_jsx.specs.Marks.{is_inside}
use Rattle.rl_jsx.proofs.LineEnds.{first-line, line-alone}
use Rattle.rl_jsx.proofs.lines.split_line.Goals as goal

pub returns-then-end-bytes-clause-none : goal.returns-then-end-bytes-clause-none
returns-then-end-bytes-clause-none c =
    let bytes = c.as_bytes-bytes.result.now in
    let end = c.line_end-end.result in
    let whole : take end bytes ≡ c.args.text.now =
    sym (append-nil (take end bytes)) ∙ ap (λ l. take end bytes ++ l) (sym (drop_of_length-le bytes (omega arith))) ∙ take-append-drop end bytes ∙ c.as_bytes-bytes.ensures.value in
    line-alone c.args.text.now (subst (λ l. list_all is_inside l ≡ true) whole c.line_end-end.ensures.inside)

pub range_from-requires : goal.range_from-requires
range_from-requires c =
    let text = c.args.text.now in
    let next = c.ending_end-next.result in
    λ some. subst (IsCharBoundary text) {x = (next - 1) + 1} {y = next} (omega arith)
    (IsCharBoundary-after_ascii text (next - 1) c.utf8.text (omega arith) (subst (λ l. get_or l (next - 1) 0 < 128) c.as_bytes-bytes.ensures.value c.ending_end-next.ensures.ascii))

pub returns-clause-some : goal.returns-clause-some
returns-clause-some c =
    let text = c.args.text.now in
    let end = c.line_end-end.result in
    let next = c.ending_end-next.result in
    let same = c.as_bytes-bytes.ensures.value in
    let front : c.range.result.now ≡ take end text = first_of (search rules, grind (arith, common_steps)) in
    let back : c.range_from.result.now ≡ drop next text = first_of (search rules, grind (arith, common_steps)) in
    first-line text end next (subst (λ l. list_all is_inside (take end l) ≡ true) same c.line_end-end.ensures.inside)
    (subst (λ l. split_line_endings (drop end l) ≡ [] ∷ split_line_endings (drop next l)) same c.ending_end-next.ensures.ended)
    ∙ (λ i. sym front i ∷ split_line_endings (sym back i))
