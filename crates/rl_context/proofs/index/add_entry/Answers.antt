use Rattle.std.proofs.Common.{length, refl, ap, Some, ◌∙◌}
use Rattle.std.proofs.lemmas.Option.{slice_get_read}
use Rattle.rl_context.proofs.Places.{entry_placed, entry_kept}
use Rattle.rl_context.proofs.index.add_entry.Goals as goal

pub returns-in-Some : goal.returns-in-Some
returns-in-Some c n =
    let entries = c.make_place.new.entries.items in
    let there = slice_get_read entries (length entries) c.args.reference c.index.result.now refl c.in_ok-make_place.ensures.place c.index.ensures in
    entry_kept entries c.args.entries.now.items c.args.reference n c.args.entry c.in-Some.field-0 (there ∙ ap Some c.in-Some.is) (c.in_ok-make_place.ensures.same n)

pub returns-in-None : goal.returns-in-None
returns-in-None c n =
    let entries = c.make_place.new.entries.items in
    let there = slice_get_read entries (length entries) c.args.reference c.index.result.now refl c.in_ok-make_place.ensures.place c.index.ensures in
    entry_placed entries c.args.entries.now.items c.args.reference n c.args.entry c.in_ok-make_place.ensures.place (there ∙ ap Some c.in-None.is) (c.in_ok-make_place.ensures.same n)
