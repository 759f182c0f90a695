use Rattle.std.proofs.Common.{◌≡◌, ◌*◌, take}
use Rattle.std.specs.List.{flat_map}
use Rattle.pages.proofs.book.copy_pages.Given as goal

abbrev pub invariant-loop-page : goal.invariant-loop-page
invariant-loop-page g l = take (64 * l.page) l.buffer ≡ flat_map (λ page. page) (take l.page (g.S.PageStore.pages l.store))
