-- What one page more of a book leaves in a store.
use Rattle.std.proofs.Common.{◌≡◌, ℕ, ◌+◌, ◌<◌, List, [], ◌++◌, length, get_or, take, drop, set, ap, zero-add, arith}
use Rattle.std.proofs.lemmas.List.{length-append, length-drop, length-take-le}
use Rattle.std.proofs.lemmas.List.Edits.{paste_more}
use Rattle.pages.specs.Store.{Page}

pub copy_more : (book onto now : List Page) (p : ℕ) → now ≡ take p book ++ drop p onto → p < length book → p < length now
    → set now p (get_or book p []) ≡ take (p + 1) book ++ drop (p + 1) onto
copy_more book onto now p is lt room =
    let inside : 0 + p < length onto = omega (arith, ap length is, length-append (take p book) (drop p onto), length-take-le p book, length-drop p onto) in
    rw is (simp zero-add at (paste_more onto 0 book p [] inside lt))
