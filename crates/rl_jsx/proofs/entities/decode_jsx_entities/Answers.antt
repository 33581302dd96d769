use Rattle.std.proofs.Common.{◌∙◌, ◌++◌, string_bytes, sym, ap, rules}
use Rattle.rl_atoms.specs.Entities.{entity_value}
use Rattle.rl_jsx.proofs.Decoding.{decode-step, decode-end, grown}
use Rattle.rl_jsx.proofs.entities.decode_jsx_entities.Goals as goal

pub decoding-preserved : goal.decoding-preserved
decoding-preserved c =
    let cut = c.in-Some.ensures in
    record {
      utf8 = search rules;
      kept = grown _ _ _ _ _ _ c.in_ok-push_part.ensures (decode-step (entity_value c.args.entities.now) c.decoding.rest.now c.in-Some.part.now c.in-Some.after.now cut.0 cut.1) c.decoding.invariant.kept;
    }

pub returns : goal.returns
returns c =
    c.new.ensures ∙ c.in_ok-push_str.ensures.bytes
    ∙ ap (λ l. string_bytes c.decoding.decoded ++ l) (sym (decode-end (entity_value c.args.entities.now) c.decoding.rest.now c.in_default.ensures))
    ∙ c.decoding.invariant.kept
