use Rattle.std.proofs.Common.{◌≡◌, ◌∙◌, ◌++◌, ◌∷◌, [], false, string_bytes, sym, ap, lit<}
use Rattle.std.proofs.lemmas.Str.{encode_ascii}
use Rattle.rl_jsx.specs.JsxTexts.{is_empty}
use Rattle.rl_jsx.proofs.Joined.{empty-length, empty-is, joined-first, joined-more, pushed-behind}
use Rattle.rl_jsx.proofs.trim.push_line.Goals as goal

pub returns-then-is_empty-2 : goal.returns-then-is_empty-2
returns-then-is_empty-2 c lines e =
    let line = c.args.line.now in
    let some : is_empty line ≡ false = sym (empty-length line) ∙ sym c.is_empty.ensures ∙ c.if-is_empty.false in
    let none : string_bytes c.args.joined.now ≡ [] = empty-is (string_bytes c.args.joined.now) (sym (ap is_empty c.as_str.ensures.value) ∙ sym (empty-length c.as_str.result.now) ∙ sym c.is_empty-2.ensures ∙ c.if-is_empty-2.true) in
    c.in_ok-push_str.ensures.bytes ∙ ap (λ l. l ++ line) none ∙ sym (joined-first lines line (sym e ∙ none) some)

pub returns : goal.returns
returns c lines e =
    let line = c.args.line.now in
    let some : is_empty line ≡ false = sym (empty-length line) ∙ sym c.is_empty.ensures ∙ c.if-is_empty.false in
    let more : is_empty (string_bytes c.args.joined.now) ≡ false = sym (ap is_empty c.as_str.ensures.value) ∙ sym (empty-length c.as_str.result.now) ∙ sym c.is_empty-2.ensures ∙ c.if-is_empty-2.false in
    pushed-behind (string_bytes c.args.joined.now) (string_bytes c.push.new.self) (string_bytes c.push_str-2.new.self) _ line c.in_ok-push.ensures.bytes (encode_ascii 32 (lit< tt)) c.in_ok-push_str-2.ensures.bytes
    ∙ ap (λ l. l ++ 32 ∷ line) e ∙ sym (joined-more lines line (ap is_empty (sym e) ∙ more) some)
