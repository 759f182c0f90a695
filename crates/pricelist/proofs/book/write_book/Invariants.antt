use Rattle.std.proofs.Common.{◌≡◌, ◌++◌, take, drop}
use Rattle.pricelist.proofs.book.write_book.Given as goal

abbrev pub invariant-loop-page : goal.invariant-loop-page
invariant-loop-page g l = g.S.PageStore.pages l.store ≡ take l.page l.book ++ drop l.page (g.S.PageStore.pages l.initial.store)
