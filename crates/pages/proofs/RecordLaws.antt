-- Laws of records: where a page's last record stands, what one more record changes, and what compaction keeps.
use Rattle.std.proofs.Common.{◌≡◌, ℕ, zero, suc, ◌<◌, Bool, true, false, cond, eqb, ◌⊎◌, List, [], ◌∷◌, ◌++◌, length, Some, None, Option, sym, refl, ap, ◌∙◌, subst, inl, inr, ⊎_elim, arith}
use Rattle.std.specs.List.{AllByRecursion}
use Rattle.std.proofs.lemmas.List.{get_or_push, get_or_append_left}
use Rattle.std.proofs.lemmas.Option.{none-some}
use Rattle.std.proofs.lemmas.Bool.{eqb-true, eqb-false, ne_eqb, cases_Bool}
use Rattle.pages.specs.declared.record.Record.{Record}
use Rattle.pages.specs.Records.{blank, record_at, after, last_place, bytes_at, content, unless_later, compacted, IsLast, Content, Located}

-- the cases of a page's last place

pub either : (o : Option ℕ) → (o ≡ None) ⊎ ((k : ℕ) × (o ≡ Some k))
either None = inl refl
either (Some k) = inr (k, refl)

-- where there is none, neither the first record nor a later one names the page
pub after_none : (here : Bool) (o : Option ℕ) → after here o ≡ None → (o ≡ None) × (here ≡ false)
after_none true None e = absurd (none-some 0 (sym e))
after_none false None e = (refl, refl)
after_none here (Some k) e = absurd (none-some (suc k) (sym e))

-- no record names the page

pub last_place_none : (rs : List Record) (p : ℕ) → last_place rs p ≡ None → (j : ℕ) → j < length rs → (record_at rs j).page ≡ p → ⊥
last_place_none [] p e j lt q = omega arith
last_place_none (r ∷ rs) p e zero lt q =
    let f = (after_none (eqb r.page p) (last_place rs p) e).1 in
    eqb-false r.page p f q
last_place_none (r ∷ rs) p e (suc j) lt q =
    last_place_none rs p (after_none (eqb r.page p) (last_place rs p) e).0 j (omega arith) q

-- the place found is the last

pub is_last_later : (r : Record) (rs : List Record) (p k : ℕ) → IsLast rs p k → IsLast (r ∷ rs) p (suc k)
is_last_later r rs p k (lt, named, later) = (omega arith, named, past)
  where
    past : (j : ℕ) → suc k < j → j < length (r ∷ rs) → (record_at (r ∷ rs) j).page ≡ p → ⊥
    past zero a b q = omega arith
    past (suc j) a b q = later j (omega arith) (omega arith) q

pub last_place_is : (rs : List Record) (p k : ℕ) → last_place rs p ≡ Some k → IsLast rs p k
last_place_is [] p k e = absurd (none-some k e)
last_place_is (r ∷ rs) p k e = ⊎_elim first (λ s. further s.0 s.1 (last_place_is rs p s.0 s.1)) (either (last_place rs p))
  where
    further : (i : ℕ) → last_place rs p ≡ Some i → IsLast rs p i → IsLast (r ∷ rs) p k
    further i f last =
        let same : k ≡ suc i = cc in
        subst (IsLast (r ∷ rs) p) (sym same) (is_last_later r rs p i last)

    first : last_place rs p ≡ None → IsLast (r ∷ rs) p k
    first n = ⊎_elim here absent (cases_Bool (eqb r.page p))
      where
        here : eqb r.page p ≡ true → IsLast (r ∷ rs) p k
        here t =
            let same : k ≡ 0 = cc in
            subst (IsLast (r ∷ rs) p) (sym same) (omega arith, eqb-true r.page p t, past)
          where
            past : (j : ℕ) → 0 < j → j < length (r ∷ rs) → (record_at (r ∷ rs) j).page ≡ p → ⊥
            past zero a b q = omega arith
            past (suc j) a b q = last_place_none rs p n j (omega arith) q

        absent : eqb r.page p ≡ false → IsLast (r ∷ rs) p k
        absent f =
            let bad : Some k ≡ None = cc in
            absurd (none-some k (sym bad))

-- the place found, in the words of the relation
pub last_place_located : (rs : List Record) (p : ℕ) → Located rs p (last_place rs p)
last_place_located rs p = located (last_place rs p) refl
  where
    located : (o : Option ℕ) → last_place rs p ≡ o → Located rs p o
    located None e = last_place_none rs p e
    located (Some k) e = last_place_is rs p k e

-- a page's content, in the words of the relation
pub content_is : (rs : List Record) (p : ℕ) → Content rs p (content rs p)
content_is rs p =
    ⊎_elim
    (λ n. inr (last_place_none rs p n, ap (bytes_at rs) n))
    (λ s. inl (s.0, last_place_is rs p s.0 s.1, ap (bytes_at rs) s.1))
    (either (last_place rs p))

-- one more record at the end

after-cond : (here there : Bool) (n : ℕ) (o : Option ℕ) → after here (cond there (Some n) o) ≡ cond there (Some (suc n)) (after here o)
after-cond here true n o = refl
after-cond here false n o = refl

pub last_place_push : (rs : List Record) (r : Record) (p : ℕ) → last_place (rs ++ r ∷ []) p ≡ cond (eqb r.page p) (Some (length rs)) (last_place rs p)
last_place_push [] r p = refl
last_place_push (s ∷ rs) r p =
    ap (after (eqb s.page p)) (last_place_push rs r p)
    ∙ after-cond (eqb s.page p) (eqb r.page p) (length rs) (last_place rs p)

bytes_at_push : (rs : List Record) (r : Record) (p : ℕ) (o : Option ℕ) → last_place rs p ≡ o → bytes_at (rs ++ r ∷ []) o ≡ bytes_at rs o
bytes_at_push rs r p None e = refl
bytes_at_push rs r p (Some k) e =
    ap (λ (x : Record). x.bytes) (get_or_append_left rs (r ∷ []) (record { page = 0; bytes = blank }) k (last_place_is rs p k e).0)

pub content_push : (rs : List Record) (r : Record) (p : ℕ) → content (rs ++ r ∷ []) p ≡ cond (eqb r.page p) r.bytes (content rs p)
content_push rs r p = ap (bytes_at (rs ++ r ∷ [])) (last_place_push rs r p) ∙ pick (eqb r.page p)
  where
    pick : (b : Bool) → bytes_at (rs ++ r ∷ []) (cond b (Some (length rs)) (last_place rs p)) ≡ cond b r.bytes (content rs p)
    pick true = ap (λ (x : Record). x.bytes) (get_or_push rs r (record { page = 0; bytes = blank }) (length rs) refl)
    pick false = bytes_at_push rs r p (last_place rs p) refl

-- one record in front: it counts for its page only where no later one names it

content_later : (r : Record) (rs : List Record) (p k : ℕ) → last_place rs p ≡ Some k → content (r ∷ rs) p ≡ content rs p
content_later r rs p k e =
    ap (λ o. bytes_at (r ∷ rs) (after (eqb r.page p) o)) e ∙ ap (bytes_at rs) (sym e)

content_first : (r : Record) (rs : List Record) (p : ℕ) → last_place rs p ≡ None → content (r ∷ rs) p ≡ cond (eqb r.page p) r.bytes blank
content_first r rs p e = ap (λ o. bytes_at (r ∷ rs) (after (eqb r.page p) o)) e ∙ pick (eqb r.page p)
  where
    pick : (b : Bool) → bytes_at (r ∷ rs) (after b None) ≡ cond b r.bytes blank
    pick true = refl
    pick false = refl

-- compaction names the same pages, each once

pub compacted_none : (rs : List Record) (p : ℕ) → last_place rs p ≡ None → last_place (compacted rs) p ≡ None
compacted_none [] p e = refl
compacted_none (r ∷ rs) p e = keep (last_place rs r.page) (compacted_none rs p (after_none (eqb r.page p) (last_place rs p) e).0)
  where
    keep : (o : Option ℕ) → last_place (compacted rs) p ≡ None → last_place (unless_later o r (compacted rs)) p ≡ None
    keep (Some k) n = n
    keep None n = let f = (after_none (eqb r.page p) (last_place rs p) e).1 in cc

pub compacted_some : (rs : List Record) (p k : ℕ) → last_place rs p ≡ Some k → (j : ℕ) × (last_place (compacted rs) p ≡ Some j)
compacted_some [] p k e = absurd (none-some k e)
compacted_some (r ∷ rs) p k e =
    ⊎_elim first (λ s. further (last_place rs r.page) (compacted_some rs p s.0 s.1)) (either (last_place rs p))
  where
    further : (o : Option ℕ) → ((j : ℕ) × (last_place (compacted rs) p ≡ Some j)) → (j : ℕ) × (last_place (unless_later o r (compacted rs)) p ≡ Some j)
    further (Some m) found = found
    further None (j, g) = (suc j, ap (after (eqb r.page p)) g)

    first : last_place rs p ≡ None → (j : ℕ) × (last_place (compacted (r ∷ rs)) p ≡ Some j)
    first n = ⊎_elim here absent (cases_Bool (eqb r.page p))
      where
        here : eqb r.page p ≡ true → (j : ℕ) × (last_place (compacted (r ∷ rs)) p ≡ Some j)
        here t =
            let same : r.page ≡ p = eqb-true r.page p t in
            let gone : last_place rs r.page ≡ None = ap (last_place rs) same ∙ n in
            let none : last_place (compacted rs) p ≡ None = compacted_none rs p n in
            let kept : compacted (r ∷ rs) ≡ r ∷ compacted rs = ap (λ o. unless_later o r (compacted rs)) gone in
            (0, ap (λ l. last_place l p) kept ∙ ap (after (eqb r.page p)) none ∙ ap (λ b. cond b (Some 0) None) t)

        absent : eqb r.page p ≡ false → (j : ℕ) × (last_place (compacted (r ∷ rs)) p ≡ Some j)
        absent f =
            let bad : Some k ≡ None = cc in
            absurd (none-some k (sym bad))

pub content-compacted : (rs : List Record) (p : ℕ) → content (compacted rs) p ≡ content rs p
content-compacted [] p = refl
content-compacted (r ∷ rs) p = keep (last_place rs r.page) refl (content-compacted rs p)
  where
    keep : (o : Option ℕ) → last_place rs r.page ≡ o → content (compacted rs) p ≡ content rs p → content (unless_later o r (compacted rs)) p ≡ content (r ∷ rs) p
    keep (Some m) e ih =
        ih ∙ ⊎_elim
        (λ n.
        let other : eqb r.page p ≡ false = ne_eqb r.page p (λ q. none-some m (sym (sym e ∙ ap (last_place rs) q ∙ n))) in
        ap (bytes_at rs) n ∙ ap (λ b. cond b r.bytes blank) (sym other) ∙ sym (content_first r rs p n))
        (λ s. sym (content_later r rs p s.0 s.1))
        (either (last_place rs p))
    keep None e ih =
        ⊎_elim
        (λ n. content_first r (compacted rs) p (compacted_none rs p n) ∙ sym (content_first r rs p n))
        (λ s.
        let t = compacted_some rs p s.0 s.1 in
        content_later r (compacted rs) p t.0 t.1 ∙ ih ∙ sym (content_later r rs p s.0 s.1))
        (either (last_place rs p))

pub All-compacted : (P : Record → Type 0) (rs : List Record) → AllByRecursion P rs → AllByRecursion P (compacted rs)
All-compacted P [] a = a
All-compacted P (r ∷ rs) (x, a) = keep (last_place rs r.page) (All-compacted P rs a)
  where
    keep : (o : Option ℕ) → AllByRecursion P (compacted rs) → AllByRecursion P (unless_later o r (compacted rs))
    keep (Some m) rest = rest
    keep None rest = (x, rest)
