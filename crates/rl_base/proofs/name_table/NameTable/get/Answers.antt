use Rattle.std.proofs.Common.{length, slice_get, ap, sym, ◌∙◌, arith}
use Rattle.std.proofs.lemmas.Option.{slice_get_read}
use Rattle.rl_base.proofs.NameTables.{item-found, item-absent}
use Rattle.rl_base.proofs.name_table.NameTable.get.Goals as goal

pub returns-in-Some : goal.returns-in-Some
returns-in-Some g c =
    let items = c.self.inside.items in
    sym (slice_get_read items.items items.len c.in-Some.index c.index.result.now items.ok.0 (omega (arith, c.in-Some.ensures.within, ap length c.self.view_is)) c.index.ensures)
    ∙ ap (λ xs. slice_get xs c.in-Some.index) c.self.view_is
    ∙ item-found g.T.Named.name c.in-Some.index c.args.self.now c.args.name.now c.in-Some.ensures.found

pub returns-in-None : goal.returns-in-None
returns-in-None g c = item-absent g.T.Named.name c.args.self.now c.args.name.now c.in-None.ensures.found
