use Rattle.std.proofs.Common.{◌∙◌, ◌++◌, string_bytes, sym, ap, lit<}
use Rattle.std.proofs.lemmas.Str.{encode_ascii}
use Rattle.rl_atoms.specs.Entities.{entity_value}
use Rattle.rl_jsx.proofs.Decoding.{part-pushed, part-plain, two-pushed}
use Rattle.rl_jsx.proofs.entities.push_part.Goals as goal

pub returns-in_ok-push_word-in-Some : goal.returns-in_ok-push_word-in-Some
returns-in_ok-push_word-in-Some c =
    part-pushed (entity_value c.args.entities.now) c.args.part.now c.in-Some.before.now c.in-Some.word.now (string_bytes c.args.decoded.now) (string_bytes c.push_str.new.self)
    (string_bytes c.push_word.new.decoded) c.in-Some.ensures.0 c.in-Some.ensures.1 c.in_ok-push_str-in-Some.ensures.bytes c.in_ok-push_word-in-Some.ensures

pub returns-in_ok-push-in-None : goal.returns-in_ok-push-in-None
returns-in_ok-push-in-None c =
    two-pushed (string_bytes c.args.decoded.now) (string_bytes c.push_str-in-None.new.self) (string_bytes c.push.new.self) c.args.part.now _ 59
    c.in_ok-push_str-in-None.ensures.bytes c.in_ok-push-in-None.ensures.bytes (encode_ascii 59 (lit< tt))
    ∙ ap (λ l. string_bytes c.args.decoded.now ++ l) (sym (part-plain (entity_value c.args.entities.now) c.args.part.now c.in-None.ensures))
