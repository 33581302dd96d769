use Rattle.std.proofs.Common.{option_map, sym, ap, ◌∙◌}
use Rattle.rl_stops.proofs.BodyStopping.{past_continue}
use Rattle.rl_promises.specs.Jumps.{InLoop, InLabeled, InSwitch, stop_of_continue}
use Rattle.rl_stops.specs.SeenStops.{seen_around}
use Rattle.rl_stops.proofs.around.+stop_of_continue.Goals as goal

pub returns-else-ends_at_loop : goal.returns-else-ends_at_loop
returns-else-ends_at_loop t c names =
    past_continue (option_map (λ l. l.now) c.args.jump) c.args.span (InLoop (option_map (λ l. l.now) c.in-Loop.label))
    (seen_around c.in-Loop.outer.now) _ (sym c.ends_at_loop.ensures.continues ∙ c.if-ends_at_loop.false) (c.stop_of_continue.ensures names)
    ∙ ap (stop_of_continue (option_map (λ l. l.now) c.args.jump) c.args.span) (sym (ap seen_around c.in-Loop.is))

pub returns-else-ends_at_label : goal.returns-else-ends_at_label
returns-else-ends_at_label t c names =
    past_continue (option_map (λ l. l.now) c.args.jump) c.args.span (InLabeled c.in-Labeled.label.now)
    (seen_around c.in-Labeled.outer.now) _ (sym c.ends_at_label.ensures.continues ∙ c.if-ends_at_label.false)
    (c.stop_of_continue-else-ends_at_label.ensures names)
    ∙ ap (stop_of_continue (option_map (λ l. l.now) c.args.jump) c.args.span) (sym (ap seen_around c.in-Labeled.is))

pub returns-else-continues_at_switch : goal.returns-else-continues_at_switch
returns-else-continues_at_switch t c names =
    past_continue (option_map (λ l. l.now) c.args.jump) c.args.span (InSwitch (option_map (λ l. l.now) c.in-Switch.label))
    (seen_around c.in-Switch.outer.now) _ (sym c.continues_at_switch.ensures ∙ c.if-continues_at_switch.false)
    (c.stop_of_continue-else-continues_at_switch.ensures names)
    ∙ ap (stop_of_continue (option_map (λ l. l.now) c.args.jump) c.args.span) (sym (ap seen_around c.in-Switch.is))
