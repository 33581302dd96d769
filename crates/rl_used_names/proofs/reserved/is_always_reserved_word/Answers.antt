use Rattle.std.proofs.Common.{ap, ◌∙◌}
use Rattle.rl_used_names.specs.ReservedSlots.{slot_of}
use Rattle.rl_used_names.proofs.ReservedWords.{slot_tells}
use Rattle.rl_used_names.proofs.reserved.is_always_reserved_word.Goals as goal

pub returns : goal.returns
returns c = c.is_at.ensures ∙ slot_tells c.args.word.now c.slot_of.result (c.slot_of.ensures.value ∙ ap slot_of c.as_bytes.ensures.value) c.slot_of.ensures.below
