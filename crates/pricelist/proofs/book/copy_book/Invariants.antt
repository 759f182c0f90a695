use Rattle.std.proofs.Common.{◌≡◌, ◌++◌, take, drop}
use Rattle.pricelist.proofs.book.copy_book.Given as goal

abbrev pub invariant-loop-page : goal.invariant-loop-page
invariant-loop-page g l =
    g.B.PageStore.pages l.to ≡ take l.page (g.A.PageStore.pages l.from) ++ drop l.page (g.B.PageStore.pages l.initial.to)
