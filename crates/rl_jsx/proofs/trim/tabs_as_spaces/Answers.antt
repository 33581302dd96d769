use Rattle.std.proofs.Common.{◌∙◌, ◌++◌, ◌∷◌, [], string_bytes, append_assoc, sym, ap, lit<, rules}
use Rattle.std.proofs.lemmas.Str.{encode_ascii}
use Rattle.rl_jsx.specs.JsxTexts.{tabs_as_spaces}
use Rattle.rl_jsx.proofs.Decoding.{grown, two-pushed, tabs-step, tabs-end}
use Rattle.rl_jsx.proofs.trim.tabs_as_spaces.Goals as goal

pub replacing-preserved : goal.replacing-preserved
replacing-preserved c =
    let cut = c.in-Some.ensures in
    let before = c.in-Some.before.now in
    let after = c.in-Some.after.now in
    record {
      utf8 = search rules;
      kept = grown _ _ (before ++ 32 ∷ []) _ _ _
          (two-pushed (string_bytes c.replacing.spaced) (string_bytes c.push_str.new.self) (string_bytes c.push.new.self) before _ 32 c.in_ok-push_str.ensures.bytes c.in_ok-push.ensures.bytes (encode_ascii 32 (lit< tt)))
          (tabs-step c.replacing.rest.now before after cut.0 cut.1 ∙ sym (append_assoc before (32 ∷ []) (tabs_as_spaces after)))
          c.replacing.invariant.kept;
    }

pub returns : goal.returns
returns c =
    c.in_ok-push_str-2.ensures.bytes ∙ ap (λ l. string_bytes c.replacing.spaced ++ l) (sym (tabs-end c.replacing.rest.now c.in_default.ensures)) ∙ c.replacing.invariant.kept
