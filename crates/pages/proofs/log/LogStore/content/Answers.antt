use Rattle.std.proofs.Common.{◌≡◌, get_or, None, Some, ap, ◌∙◌, arith}
use Rattle.pages.specs.Log.{decoded}
use Rattle.pages.specs.declared.record.Record.{Record}
use Rattle.pages.proofs.LogLaws.{length-log_pages, log_reads, index_below, index_some, index_none, index_right}
use Rattle.pages.proofs.log.LogStore.content.Goals as goal

pub bounds : goal.bounds
bounds c = omega (arith, length-log_pages c.args.self.now.filled c.args.self.now.memory.now)

pub piece-requires : goal.piece-requires
piece-requires c =
    let store = c.args.self.now in
    let lt = index_below store.filled store.memory.now store.last store.indexed c.from.result c.in-Some.slot c.in-Some.is in
    (omega arith, (omega arith, omega arith))

pub returns-in-Some : goal.returns-in-Some
returns-in-Some c =
    let store = c.args.self.now in
    let here : get_or store.last c.args.page None ≡ Some c.in-Some.slot = cc in
    let e =
    ap (λ (r : Record). r.bytes) (c.from-in-Some.ensures ∙ ap decoded c.piece.ensures)
    ∙ index_some store.filled store.memory.now store.last store.indexed c.args.page c.in-Some.slot here in
    let r = log_reads store.filled store.memory.now c.args.page c.from-in-Some.result.bytes c.requires e in
    record { page = r.0; last = r.1; index = index_right store.filled store.memory.now store.last store.indexed }

pub returns-in-None : goal.returns-in-None
returns-in-None c =
    let store = c.args.self.now in
    let here : get_or store.last c.args.page None ≡ None = cc in
    let e = index_none store.filled store.memory.now store.last store.indexed c.args.page here in
    let r = log_reads store.filled store.memory.now c.args.page _ c.requires e in
    record { page = r.0; last = r.1; index = index_right store.filled store.memory.now store.last store.indexed }
