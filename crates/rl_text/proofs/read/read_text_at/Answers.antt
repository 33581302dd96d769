use Rattle.std.proofs.Common.{◌≡◌, ℕ, ◌+◌, List, ◌++◌, drop, ap, sym, ◌∙◌, subst, arith, true≢false, string_bytes}
use Rattle.std.specs.Str.{IsUtf8}
use Rattle.std.proofs.lemmas.Str.{IsUtf8-string_bytes}
use Rattle.rl_text.specs.Quoted.{quoted_rest}
use Rattle.rl_text.proofs.Quotes.{quotes-apart}
use Rattle.rl_text.proofs.Forms.{text-found, text-none}
use Rattle.rl_text.proofs.read.read_text_at.Goals as goal

pub returns-in_default-clause-none : goal.returns-in_default-clause-none
returns-in_default-clause-none c depth =
    let none = rw c.in_default.is at c.in_ok-text.ensures.none in
    text-none depth (drop c.args.at c.args.bytes.now) (drop (c.args.at + 1) c.args.bytes.now) c.requires.opened (λ text u utf8 e. none text u e)

pub returns-in-Ok-clause-found : goal.returns-in-Ok-clause-found
returns-in-Ok-clause-found c =
    let read = rw c.in-Some.is at c.in_ok-text.ensures.found in
    let same : string_bytes c.in-Ok.inner ≡ c.in-Some.text.items = ap (λ v. v.items) c.in-Ok.ensures.ok in (
      omega (arith, read.0),
      read.1,
      text-found 0 (drop c.args.at c.args.bytes.now) (drop (c.args.at + 1) c.args.bytes.now) (drop c.in-Some.next c.args.bytes.now) c.new.result c.requires.opened
          (subst IsUtf8 (sym c.new.ensures) (IsUtf8-string_bytes c.in-Ok.inner))
          (read.2 ∙ ap (λ (t : List ℕ). quoted_rest t ++ drop c.in-Some.next c.args.bytes.now) (sym same ∙ sym c.new.ensures)),
    )

pub returns-clause-none : goal.returns-clause-none
returns-clause-none c depth =
    let read = rw c.in-Some.is at c.in_ok-text.ensures.found in
    text-none depth (drop c.args.at c.args.bytes.now) (drop (c.args.at + 1) c.args.bytes.now) c.requires.opened (λ text u utf8 e.
    let same = quotes-apart c.in-Some.text.items text (drop c.in-Some.next c.args.bytes.now) u (sym read.2 ∙ e) in
    true≢false (sym (c.in-Err.ensures.succeeds (subst IsUtf8 (sym same.0) utf8))))
