use Rattle.std.proofs.Common.{◌+◌, ◌*◌, ap, ◌∙◌, sym, subst, arith}
use Rattle.pages.specs.Log.{records_in, Exact}
use Rattle.pages.specs.Pieces.{overwritten}
use Rattle.pages.proofs.LogLaws.{length-log_pages, log_laid, log_pages-push, put_records, put_exact, put_kept}
use Rattle.pages.proofs.log.LogStore.append.Goals as goal

pub bounds-self-from : goal.bounds-self-from
bounds-self-from c = omega (arith, c.requires.there, length-log_pages c.args.self.now.filled c.args.self.now.memory.now)

pub invariant_of-self : goal.invariant_of-self
invariant_of-self c =
    let old = c.args.self.now in
    let put = c.put_piece.ensures ∙ ap (overwritten old.memory.now (66 * old.filled)) c.into.ensures in
    let k = put_kept old.memory.now old.filled old.last c.args.latest (omega arith) c.requires.room
    c.put_piece.new.memory c.from.result put c.from.ensures (omega (arith, c.requires.there, length-log_pages old.filled old.memory.now))
    old.wide old.exact old.known old.indexed in
    record { few = k.0; wide = k.1; exact = k.2; known = k.3; indexed = k.4 }

pub returns-clause-pages : goal.returns-clause-pages
returns-clause-pages c =
    let old = c.args.self.now in
    let put = c.put_piece.ensures ∙ ap (overwritten old.memory.now (66 * old.filled)) c.into.ensures in
    log_pages-push old.filled (old.filled + 1) old.memory.now c.put_piece.new.memory c.args.latest c.put_piece.auto.memory
    (omega (arith, c.requires.there, length-log_pages old.filled old.memory.now))
    (ap (records_in (old.filled + 1)) put ∙ put_records old.memory.now old.filled old.last c.args.latest (omega arith) c.requires.room)

pub returns-clause-records : goal.returns-clause-records
returns-clause-records c =
    let old = c.args.self.now in
    ap (records_in (old.filled + 1)) (c.put_piece.ensures ∙ ap (overwritten old.memory.now (66 * old.filled)) c.into.ensures)
    ∙ put_records old.memory.now old.filled old.last c.args.latest (omega arith) c.requires.room

pub returns-clause-layout : goal.returns-clause-layout
returns-clause-layout c =
    let old = c.args.self.now in
    let put = c.put_piece.ensures ∙ ap (overwritten old.memory.now (66 * old.filled)) c.into.ensures in
    let exact = put_exact old.memory.now old.filled old.last c.args.latest (omega arith) c.requires.room old.exact in
    log_laid (old.filled + 1) c.put_piece.new.memory (subst (Exact (old.filled + 1)) (sym put) exact)
