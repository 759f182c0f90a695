-- The compaction of a log, slot by slot: what has been kept, followed by the compaction of what is still ahead, is the compaction of all.
use Rattle.std.proofs.Common.{◌≡◌, ℕ, suc, ◌+◌, ◌*◌, ◌<◌, ◌≤◌, Bool, true, false, cond, eqb, List, [], ◌∷◌, ◌++◌, length, get_or, drop, set, Some, None, Option, sym, refl, ap, ◌∙◌, subst, ⊎_elim, arith}
use Rattle.std.proofs.lemmas.List.{append_assoc, append-nil, drop_more, drop_all}
use Rattle.std.proofs.lemmas.Slice.{drop-put_mid}
use Rattle.std.proofs.lemmas.Option.{none-some}
use Rattle.std.proofs.lemmas.Bool.{both_ways, eq-eqb, eqb-true}
use Rattle.pages.specs.Pieces.{piece, overwritten}
use Rattle.pages.specs.declared.record.Record.{Record}
use Rattle.pages.specs.Records.{blank, after, last_place, unless_later, compacted}
use Rattle.pages.specs.Log.{encoded, decoded, records_in, Exact, Known, Indexes}
use Rattle.pages.proofs.Pieces.{length-piece, piece-overwritten_other, put_mid-overwritten}
use Rattle.pages.proofs.RecordLaws.{either}
use Rattle.pages.proofs.SlotLaws.{length-records_in, get_or-records_in, records_put, slots_put, noted, last_place-put}

-- the place of a page's last record while slots from i on are ahead: there if one names the page, else among those kept
abbrev merged : ℕ → Option ℕ → Option ℕ → Option ℕ
merged i (Some k) kept = Some (i + k)
merged i None kept = kept

-- slots below i are done, and `kept` of them have been moved to the front
pub record Compacting (start : List ℕ) (n i kept : ℕ) (memory : List ℕ) (last : List (Option ℕ)) : Type 0 where
  pub below : kept ≤ i
  pub order : records_in kept memory ++ compacted (drop i (records_in n start)) ≡ compacted (records_in n start)
  pub ahead : (k : ℕ) → i ≤ k → k < n → piece 66 memory k ≡ piece 66 start k
  pub exact : Exact kept memory
  pub index : (p : ℕ) → get_or last p None ≡ merged i (last_place (drop i (records_in n start)) p) (last_place (records_in kept memory) p)
  pub past : drop (66 * n) memory ≡ drop (66 * n) start

pub begins : (start : List ℕ) (n : ℕ) (last : List (Option ℕ)) → Indexes last (records_in n start) → Compacting start n 0 0 start last
begins start n last indexed = record {
  below = omega arith;
  order = refl;
  ahead = λ k a b. refl;
  exact = λ k lt. absurd (let f : ⊥ = omega arith in f);
  index = λ p. indexed p ∙ whole (last_place (records_in n start) p);
  past = refl;
}
  where
    whole : (o : Option ℕ) → o ≡ merged 0 o None
    whole None = refl
    whole (Some k) = ap Some (let z : k ≡ 0 + k = omega arith in z)

pub ends : (start : List ℕ) (n i kept : ℕ) (memory : List ℕ) (last : List (Option ℕ)) → n ≤ i → Compacting start n i kept memory last
    → (records_in kept memory ≡ compacted (records_in n start)) × Indexes last (records_in kept memory)
ends start n i kept memory last done s =
    let none : drop i (records_in n start) ≡ [] = drop_all i (records_in n start) (omega (arith, length-records_in n start)) in (
      sym (append-nil (records_in kept memory)) ∙ ap (λ rs. records_in kept memory ++ compacted rs) (sym none) ∙ s.order,
      λ p. s.index p ∙ ap (λ rs. merged i (last_place rs p) (last_place (records_in kept memory) p)) none,
    )

-- one slot
module _ (start : List ℕ) (n i kept : ℕ) (memory : List ℕ) (last : List (Option ℕ)) (lt : i < n) (s : Compacting start n i kept memory last) where
  r : Record
  r = decoded (piece 66 memory i)

  rest : List Record
  rest = drop (i + 1) (records_in n start)

  split : drop i (records_in n start) ≡ r ∷ rest
  unfolding r rest
  split =
      drop_more (records_in n start) i (record { page = 0; bytes = blank }) (omega (arith, length-records_in n start))
      ∙ ap (λ (x : Record). x ∷ drop (i + 1) (records_in n start))
      (get_or-records_in n i start (record { page = 0; bytes = blank }) lt ∙ ap decoded (sym (s.ahead i (omega arith) lt)))

  found : (p : ℕ) → get_or last p None ≡ merged i (after (eqb r.page p) (last_place rest p)) (last_place (records_in kept memory) p)
  found p = s.index p ∙ ap (λ rs. merged i (last_place rs p) (last_place (records_in kept memory) p)) split

  own : eqb r.page r.page ≡ true
  own = eq-eqb r.page r.page refl

  -- the index names this slot exactly if no later record names its page
  pub is_last : get_or last (decoded (piece 66 memory i)).page None ≡ Some i → last_place (drop (i + 1) (records_in n start)) (decoded (piece 66 memory i)).page ≡ None
  unfolding r rest
  is_last here =
      ⊎_elim (λ e. e)
      (λ f.
      let at = found r.page ∙ ap (λ b. merged i (after b (last_place rest r.page)) (last_place (records_in kept memory) r.page)) own
      ∙ ap (λ o. merged i (after true o) (last_place (records_in kept memory) r.page)) f.1 in
      let same : i + suc f.0 ≡ i = cc in
      absurd (let z : ⊥ = omega arith in z))
      (either (last_place rest r.page))

  pub is_later : (get_or last (decoded (piece 66 memory i)).page None ≡ Some i → ⊥) → (k : ℕ) × (last_place (drop (i + 1) (records_in n start)) (decoded (piece 66 memory i)).page ≡ Some k)
  unfolding r rest
  is_later elsewhere =
      ⊎_elim
      (λ e.
      let at = found r.page ∙ ap (λ b. merged i (after b (last_place rest r.page)) (last_place (records_in kept memory) r.page)) own
      ∙ ap (λ o. merged i (after true o) (last_place (records_in kept memory) r.page)) e
      ∙ ap Some (let z : i + 0 ≡ i = omega arith in z) in
      absurd (elsewhere at))
      (λ f. f)
      (either (last_place rest r.page))

  -- a page that a later record names keeps its place; another page has it among those kept
  shifted : (here : Bool) (o kept' : Option ℕ) → (here ≡ true → o ≡ None → ⊥) → merged i (after here o) kept' ≡ merged (i + 1) o kept'
  shifted here (Some k) kept' never = ap Some (let z : i + suc k ≡ i + 1 + k = omega arith in z)
  shifted true None kept' never = absurd (never refl refl)
  shifted false None kept' never = refl

  pub passes : (k : ℕ) → last_place (drop (i + 1) (records_in n start)) (decoded (piece 66 memory i)).page ≡ Some k → Compacting start n (i + 1) kept memory last
  unfolding r rest
  passes k later = record {
    below = omega (arith, s.below);
    order =
        ap (λ (o : Option ℕ). records_in kept memory ++ unless_later o r (compacted rest)) (sym later)
        ∙ ap (λ rs. records_in kept memory ++ compacted rs) (sym split) ∙ s.order;
    ahead = λ j a b. s.ahead j (omega arith) b;
    exact = s.exact;
    index = λ p.
        found p ∙ shifted (eqb r.page p) (last_place rest p) (last_place (records_in kept memory) p)
        (λ here none. none-some k (sym (sym later ∙ ap (last_place rest) (eqb-true r.page p here) ∙ none)));
    past = s.past;
  }

  pub moves : 66 * n ≤ length memory → Exact n start → (decoded (piece 66 memory i)).page < length last
      → last_place (drop (i + 1) (records_in n start)) (decoded (piece 66 memory i)).page ≡ None
      → Compacting start n (i + 1) (kept + 1) (overwritten memory (66 * kept) (piece 66 memory i)) (set last (decoded (piece 66 memory i)).page (Some kept))
  unfolding r rest
  moves fits exact inside none =
      let wide : length (piece 66 memory i) ≡ 66 = length-piece 66 i memory (omega arith) in
      let room : 66 * kept + 66 ≤ length memory = omega (arith, s.below) in
      let put = records_put kept memory (piece 66 memory i) wide room in
      record {
        below = omega (arith, s.below);
        order =
            ap (λ rs. rs ++ compacted rest) put
            ∙ append_assoc (records_in kept memory) (r ∷ []) (compacted rest)
            ∙ ap (λ (o : Option ℕ). records_in kept memory ++ unless_later o r (compacted rest)) (sym none)
            ∙ ap (λ rs. records_in kept memory ++ compacted rs) (sym split) ∙ s.order;
        ahead = λ j a b. piece-overwritten_other 66 kept memory (piece 66 memory i) wide room j (λ e. omega (arith, s.below)) ∙ s.ahead j (omega arith) b;
        exact = slots_put kept memory (piece 66 memory i) wide room (λ (x : List ℕ). x ≡ encoded (decoded x)) s.exact
            (subst (λ (x : List ℕ). x ≡ encoded (decoded x)) (sym (s.ahead i (omega arith) lt)) (exact i lt));
        index = λ p.
            noted kept memory (piece 66 memory i) wide room last inside p
            ∙ pick p (eqb r.page p) refl
            ∙ ap (merged (i + 1) (last_place rest p)) (sym (last_place-put kept memory (piece 66 memory i) wide room last inside p));
        past =
            ap (drop (66 * n)) (sym (put_mid-overwritten (66 * kept) 66 memory (piece 66 memory i) wide))
            ∙ drop-put_mid (66 * kept) 66 memory (piece 66 memory i) (66 * n) (omega (arith, s.below)) (omega (arith, s.below)) wide
            ∙ s.past;
      }
    where
      pick : (p : ℕ) (here : Bool) → eqb r.page p ≡ here
          → cond here (Some kept) (get_or last p None) ≡ merged (i + 1) (last_place rest p) (cond here (Some kept) (last_place (records_in kept memory) p))
      pick p true e = ap (λ o. merged (i + 1) o (Some kept)) (sym (ap (last_place rest) (sym (eqb-true r.page p e)) ∙ none))
      pick p false e =
          found p ∙ ap (λ b. merged i (after b (last_place rest p)) (last_place (records_in kept memory) p)) e
          ∙ shifted false (last_place rest p) (last_place (records_in kept memory) p) (λ f n. both_ways false refl f)

  -- the two ways through the loop's body, over the values that it leaves
  pub turn_moved : (page : ℕ) → page ≡ (decoded (piece 66 memory i)).page → get_or last page None ≡ Some i
      → 66 * n ≤ length memory → Exact n start → Known (length last) n start
      → (kept' : ℕ) (memory' : List ℕ) (last' : List (Option ℕ))
      → kept' ≡ kept + 1 → memory' ≡ overwritten memory (66 * kept) (piece 66 memory i) → last' ≡ set last page (Some kept)
      → Compacting start n (i + 1) kept' memory' last'
  turn_moved page named here fits exact known kept' memory' last' a b d =
      let inside : (decoded (piece 66 memory i)).page < length last =
      subst (λ (s : List ℕ). (decoded s).page < length last) (sym (s.ahead i (omega arith) lt)) (known i lt) in
      let none = is_last (ap (λ p. get_or last p None) (sym named) ∙ here) in
      subst (λ k. Compacting start n (i + 1) k memory' last') (sym a)
      (subst (λ m. Compacting start n (i + 1) (kept + 1) m last') (sym b)
      (subst (λ l. Compacting start n (i + 1) (kept + 1) (overwritten memory (66 * kept) (piece 66 memory i)) l)
      (sym (d ∙ ap (λ p. set last p (Some kept)) named)) (moves fits exact inside none)))

  pub turn_passed : (page : ℕ) → page ≡ (decoded (piece 66 memory i)).page → (get_or last page None ≡ Some i → ⊥)
      → (kept' : ℕ) (memory' : List ℕ) (last' : List (Option ℕ)) → kept' ≡ kept → memory' ≡ memory → last' ≡ last
      → Compacting start n (i + 1) kept' memory' last'
  turn_passed page named elsewhere kept' memory' last' a b d =
      let later = is_later (λ e. elsewhere (ap (λ p. get_or last p None) named ∙ e)) in
      subst (λ k. Compacting start n (i + 1) k memory' last') (sym a)
      (subst (λ m. Compacting start n (i + 1) kept m last') (sym b)
      (subst (λ l. Compacting start n (i + 1) kept memory l) (sym d) (passes later.0 later.1)))
