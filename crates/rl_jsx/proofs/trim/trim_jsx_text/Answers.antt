use Rattle.std.proofs.Common.{◌∙◌, sym, ap, Some}
use Rattle.rl_jsx.proofs.Joined.{empty-length, shown-none, shown-some}
use Rattle.rl_jsx.specs.JsxTexts.{is_empty, joined_lines, trimmed_lines, split_line_endings, tabs_as_spaces}
use Rattle.rl_jsx.proofs.trim.trim_jsx_text.Goals as goal

pub returns-then-is_empty : goal.returns-then-is_empty
returns-then-is_empty c =
    let spaced = c.in_ok-spaced.ensures ∙ ap tabs_as_spaces c.as_str.ensures in
    let joined = c.in_ok-joined.ensures ∙ ap (λ t. joined_lines (trimmed_lines (split_line_endings t))) (c.as_str-2.ensures.value ∙ spaced) in
    sym (shown-none c.args.text.now (ap is_empty (sym joined ∙ sym c.as_str-3.ensures.value) ∙ sym (empty-length c.as_str-3.result.now) ∙ sym c.is_empty.ensures ∙ c.if-is_empty.true))

pub returns : goal.returns
returns c =
    let spaced = c.in_ok-spaced.ensures ∙ ap tabs_as_spaces c.as_str.ensures in
    let joined = c.in_ok-joined.ensures ∙ ap (λ t. joined_lines (trimmed_lines (split_line_endings t))) (c.as_str-2.ensures.value ∙ spaced) in
    ap Some (c.new.ensures ∙ joined) ∙ sym (shown-some c.args.text.now (ap is_empty (sym joined ∙ sym c.as_str-3.ensures.value) ∙ sym (empty-length c.as_str-3.result.now) ∙ sym c.is_empty.ensures ∙ c.if-is_empty.false))
