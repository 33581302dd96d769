use Rattle.std.proofs.Common.{◌∙◌, ◌++◌, ◌∷◌, [], string_bytes, ap, rules}
use Rattle.rl_jsx.proofs.Joined.{alone-joined, joins-first, joins-more}
use Rattle.rl_jsx.specs.JsxTexts.{joined_lines, without_leading_spaces}
use Rattle.rl_jsx.proofs.trim.join_trimmed.Goals as goal

pub returns-in_default : goal.returns-in_default
returns-in_default c = alone-joined c.args.text.now (string_bytes c.push_line.new.joined) c.in_default.ensures.none (c.in_ok-push_line.ensures [] c.new-joined.ensures.bytes)

pub joining-init : goal.joining-init
joining-init c = record {
  utf8 = search rules;
  joins = joins-first c.args.text.now c.in-Some.first.now c.in-Some.behind.now (string_bytes c.push_line-2.new.joined) c.in-Some.ensures.some
      (c.in_ok-push_line-2.ensures [] c.new-joined.ensures.bytes ∙ ap (λ l. joined_lines (l ∷ [])) c.without_trailing_spaces.ensures);
}

pub joining-preserved : goal.joining-preserved
joining-preserved c =
    let j = c.joining.invariant.joins in
    record {
      utf8 = search rules;
      joins = joins-more c.args.text.now (string_bytes c.joining.joined) (string_bytes c.push_line-in-Some-split_line.new.joined) c.joining.rest.now c.in-Some-split_line.line.now c.in-Some-split_line.after.now j
          c.in-Some-split_line.ensures.some
          (c.in_ok-push_line-3.ensures j.lines j.made ∙ ap (λ l. joined_lines (j.lines ++ l ∷ [])) (c.without_leading_spaces.ensures ∙ ap without_leading_spaces c.without_trailing_spaces-in-Some-split_line.ensures));
    }
