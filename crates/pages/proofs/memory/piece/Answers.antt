use Rattle.std.proofs.Common.{◌/◌, length}
use Rattle.pages.proofs.Pieces.{piece_within, get_or-first_chunks}
use Rattle.pages.proofs.memory.piece.Goals as goal

pub returns : goal.returns
returns g c =
    let memory = c.args.memory.now in
    let within = piece_within g.row.WIDTH c.args.at (length memory) c.requires.wide c.requires.fits in
    let e = get_or-first_chunks g.row.WIDTH (length memory / g.row.WIDTH) c.args.at memory c.index-pieces-from.result within in
    cc
