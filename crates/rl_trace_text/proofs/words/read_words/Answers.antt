use Rattle.std.proofs.Common.{rules}
use Rattle.rl_trace_text.proofs.Heights.{no_start_word, no_args_word, no_answers_word}
use Rattle.rl_trace_text.proofs.ReadBack.{only_arguments}
use Rattle.rl_trace_text.proofs.words.read_words.Goals as goal

pub returns-in_default-2-clause-none : goal.returns-in_default-2-clause-none
returns-in_default-2-clause-none c =
    no_start_word c.args.function.now c.args.start.now c.args.args.now c.args.answers.now (rw c.in_default-2.is at c.in_ok-start.ensures.none)

pub returns-in_default-3-clause-none : goal.returns-in_default-3-clause-none
returns-in_default-3-clause-none c =
    no_args_word c.args.function.now c.args.start.now c.args.args.now c.args.answers.now (rw c.in_default-3.is at c.in_ok-args.ensures.none)

pub returns-in_default-4-clause-none : goal.returns-in_default-4-clause-none
returns-in_default-4-clause-none c =
    no_answers_word c.args.function.now c.args.start.now c.args.args.now c.args.answers.now (rw c.in_default-4.is at c.in_ok-answers.ensures.none)

pub returns-clause-only : goal.returns-clause-only
returns-clause-only c = λ other s. only_arguments c.args.function.now c.args.start.now c.args.args.now c.args.answers.now other _ s (search rules)
