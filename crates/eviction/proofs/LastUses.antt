-- The order of last use says how long ago each place was used, so the member that goes first by it was used longest ago.
use Rattle.std.proofs.Common.{◌≡◌, ℕ, zero, suc, ◌+◌, ◌<◌, ◌≤◌, true, eqb, ltb, List, [], ◌∷◌, ◌++◌, length, get_or, take, is_some, Some, None, Option, sym, refl, ap, ◌∙◌, subst, ⊎_elim, add-one, arith}
use Rattle.std.specs.List.{All, AllPairs, Contains}
use Rattle.std.proofs.lemmas.List.{get_or-take, get_or_default, length-take-le, take_all, take_more}
use Rattle.std.proofs.lemmas.List.Elements.{All-contains, All-filter, All-from_get_or, All-push, All-weaker, Contains-append_left, Contains-push}
use Rattle.std.proofs.lemmas.List.Kept.{AllPairs-filter}
use Rattle.std.proofs.lemmas.List.Quantifiers.{all_pairs_push}
use Rattle.std.proofs.lemmas.Bool.{cases_eq, cases_lt, cases_order, cond-true, cond-false, eq-eqb, ne_eqb, le-ltb, lt-ltb, false≢true}
use Rattle.eviction.specs.declared.notice.Notice.{Notice}
use Rattle.eviction.specs.declared.notice.Notice.TheVariants.{Used, Emptied}
use Rattle.eviction.specs.declared.oldest_use.OldestUse.{OldestUse}
use Rattle.eviction.specs.OldestUse.{order_after, order_of, LongestAgo, Since, TakesLongestAgo}
use Rattle.eviction.specs.Order.{IsOrder, without, Fresh, Lowest, MemberAt, FirstToGo}
use Rattle.eviction.specs.Places.{Member}
use Rattle.eviction.specs.Policy.{nothing, one_more, asked}
use Rattle.eviction.proofs.Ages.{later, used_ago, Ahead, sooner}
use Rattle.eviction.proofs.OrderLaws.{Other, IsOrder-take, without_absent, without_others, Contains-without}

-- the order that notices leave in a policy that was new before them, the newest notice first
abbrev order_by : List Notice → List ℕ
order_by [] = []
order_by (n ∷ ns) = order_after n (order_by ns)

heard_order : {notices : List Notice} {policy : OldestUse} → Since notices policy → order_of policy ≡ order_by notices
heard_order (nothing e) = e
heard_order (one_more notice h t) = t.order ∙ ap (order_after notice) (heard_order h)
heard_order (asked h c) = c.order ∙ heard_order h

-- Place k has an age: it is in use. And it goes ahead of place j, by their ages.
abbrev InUse : (ℕ → Option ℕ) → ℕ → Type 0
InUse age k = is_some (age k) ≡ true

abbrev Leads : (ℕ → Option ℕ) → ℕ → ℕ → Type 0
Leads age k j = Ahead k (age k) j (age j)

-- The order has the places that are in use, by their age.
record Tracks (age : ℕ → Option ℕ) (order : List ℕ) : Type 0 where
  places : All (λ k. k < 16) order
  used : All (InUse age) order
  falling : AllPairs (Leads age) order
  whole : (k : ℕ) → k < 16 → InUse age k → Contains order k

Ahead-later : (k : ℕ) (a : Option ℕ) (j : ℕ) (b : Option ℕ) → Ahead k a j b → Ahead k (later a) j (later b)
Ahead-later k None j None s = s
Ahead-later k None j (Some b) s = tt
Ahead-later k (Some a) j None s = s
Ahead-later k (Some a) j (Some b) s = omega arith

used_later : (a : Option ℕ) → is_some a ≡ true → is_some (later a) ≡ true
used_later None u = u
used_later (Some a) u = refl

used_before : (a : Option ℕ) → is_some (later a) ≡ true → is_some a ≡ true
used_before None u = u
used_before (Some a) u = refl

ahead_of_now : (k : ℕ) (a : Option ℕ) (j : ℕ) → is_some a ≡ true → Ahead k (later a) j (Some 0)
ahead_of_now k None j u = tt
ahead_of_now k (Some a) j u = omega arith

-- One notice of place j: every other place is one notice older.
module _ (age age' : ℕ → Option ℕ) (j : ℕ) (older : (k : ℕ) → Other k j → age' k ≡ later (age k)) where
  still_used : (xs : List ℕ) → All (λ k. Other k j) xs → All (InUse age) xs → All (InUse age') xs
  still_used xs o u i d l = ap is_some (older (get_or xs i d) (o i d l)) ∙ used_later (age (get_or xs i d)) (u i d l)

  still_falling : (xs : List ℕ) → All (λ k. Other k j) xs → AllPairs (Leads age) xs → AllPairs (Leads age') xs
  still_falling xs o p h i d lt l =
      let x = get_or xs h d in
      let y = get_or xs i d in
      let x-older : age' x ≡ later (age x) = older x (o h d (omega arith)) in
      let y-older : age' y ≡ later (age y) = older y (o i d l) in
      rw (x-older, y-older) (Ahead-later x (age x) y (age y) (p h i d lt l))

  used_then : (k : ℕ) → Other k j → InUse age' k → InUse age k
  used_then k o u = used_before (age k) (sym (ap is_some (older k o)) ∙ u)

  -- the place was emptied
  tracks_emptied : age' j ≡ None → (order : List ℕ) → Tracks age order → Tracks age' (without j order)
  tracks_emptied now order t = record {
    places = All-filter _ (λ k. k < 16) order t.places;
    used = still_used (without j order) (without_others j order) (All-filter _ (InUse age) order t.used);
    falling = still_falling (without j order) (without_others j order) (AllPairs-filter (Leads age) _ order t.falling);
    whole = λ k l u.
        ⊎_elim (λ e. absurd (false≢true (sym (ap is_some (ap age' e ∙ now)) ∙ u))) (λ o. Contains-without k j order o (t.whole k l (used_then k o u))) (cases_eq k j);
  }

  -- the place was used
  tracks_used : age' j ≡ Some 0 → j < 16 → (order : List ℕ) → Tracks age order → Tracks age' (without j order ++ j ∷ [])
  tracks_used now lt order t =
      let left = without j order in
      let others = without_others j order in
      let used = All-filter _ (InUse age) order t.used in
      record {
        places = All-push (λ k. k < 16) left j (All-filter _ (λ k. k < 16) order t.places) lt;
        used = All-push (InUse age') left j (still_used left others used) (ap is_some now);
        falling = all_pairs_push (Leads age') left j
            (still_falling left others (AllPairs-filter (Leads age) _ order t.falling))
            (newest left others used);
        whole = λ k l u.
            ⊎_elim (λ e. subst (Contains (left ++ j ∷ [])) (sym e) (Contains-push left j)) (λ o. Contains-append_left left (j ∷ []) k (Contains-without k j order o (t.whole k l (used_then k o u)))) (cases_eq k j);
      }
    where
      newest : (xs : List ℕ) → All (λ k. Other k j) xs → All (InUse age) xs → (i d : ℕ) → i < length xs → Leads age' (get_or xs i d) j
      newest xs o u i d l =
          let x = get_or xs i d in
          rw (older x (o i d l), now) (ahead_of_now x (age x) j (u i d l))

  -- the number names no place
  tracks_ignored : 16 ≤ j → (order : List ℕ) → Tracks age order → Tracks age' order
  tracks_ignored far order t =
      let others = All-weaker (λ k. k < 16) (λ k. Other k j) (λ k l e. omega arith) order t.places in
      record {
        places = t.places;
        used = still_used order others t.used;
        falling = still_falling order others t.falling;
        whole = λ k l u. t.whole k l (used_then k (λ e. omega arith) u);
      }

tracks : (ns : List Notice) → Tracks (used_ago ns) (order_by ns)
tracks [] = record { places = λ i d l. absurd (omega arith); used = λ i d l. absurd (omega arith); falling = λ i j d lt l. absurd (omega arith); whole = λ k l u. absurd (false≢true u) }
tracks (Used j ∷ ns) =
    let age' = used_ago (Used j ∷ ns) in
    let older : (k : ℕ) → Other k j → age' k ≡ later (used_ago ns k) = λ k o. cond-false (eqb j k) (Some 0) (later (used_ago ns k)) (ne_eqb j k (λ e. o (sym e))) in
    ⊎_elim
    (λ lt.
    subst (Tracks age') (sym (cond-true (ltb j 16) (without j (order_by ns) ++ j ∷ []) (order_by ns) (lt-ltb j 16 lt)))
    (tracks_used (used_ago ns) age' j older (cond-true (eqb j j) (Some 0) (later (used_ago ns j)) (eq-eqb j j refl)) lt (order_by ns) (tracks ns)))
    (λ far.
    subst (Tracks age') (sym (cond-false (ltb j 16) (without j (order_by ns) ++ j ∷ []) (order_by ns) (le-ltb j 16 far)))
    (tracks_ignored (used_ago ns) age' j older far (order_by ns) (tracks ns)))
    (cases_lt j 16)
tracks (Emptied j ∷ ns) =
    tracks_emptied (used_ago ns) (used_ago (Emptied j ∷ ns)) j
    (λ k o. cond-false (eqb j k) None (later (used_ago ns k)) (ne_eqb j k (λ e. o (sym e))))
    (cond-true (eqb j j) None (later (used_ago ns j)) (eq-eqb j j refl)) (order_by ns) (tracks ns)

-- a member that is not in the order was not used, and one that was not used is not in the order
module _ (age : ℕ → Option ℕ) (order : List ℕ) (t : Tracks age order) where
  not_used : (k : ℕ) → k < 16 → (Contains order k → ⊥) → age k ≡ None
  not_used k l absent = go (age k) refl
    where
      go : (a : Option ℕ) → age k ≡ a → a ≡ None
      go None e = refl
      go (Some n) e = absurd (absent (t.whole k l (ap is_some e)))

  not_there : (k : ℕ) → age k ≡ None → Contains order k → ⊥
  not_there k e h = false≢true (sym (ap is_some e) ∙ All-contains (InUse age) order k t.used h)

  -- the lowest of those that were not used
  unused_goes : (among k : ℕ) → Lowest (Fresh order among) (Some k) → (j : ℕ) → Member among j → Other j k → Leads age k j
  unused_goes among k (fresh, lower) j m apart =
      subst (λ a. Ahead k a j (age j)) (sym (not_used k fresh.0.0 fresh.1)) (go (age j) refl)
    where
      go : (b : Option ℕ) → age j ≡ b → Ahead k None j b
      go None e = ⊎_elim (λ lt. absurd (lower j lt (m, not_there j e))) (λ ge. omega (arith, apart)) (cases_lt j k)
      go (Some b) e = tt

  -- all were used, and k is the first in the order
  oldest_goes : (among i : ℕ) → Lowest (Fresh order among) None → Lowest (MemberAt order among) (Some i)
      → (j : ℕ) → Member among j → Other j (get_or order i 0) → Leads age (get_or order i 0) j
  oldest_goes among i none ((l, m), before) j n apart = go (age j) refl
    where
      behind : Contains order j → Leads age (get_or order i 0) j
      behind (h, lh, at) =
          let there : get_or order h 0 ≡ j = get_or_default order h 0 j lh ∙ at in
          ⊎_elim
          (λ e. absurd (apart (sym there ∙ ap (λ x. get_or order x 0) e)))
          (⊎_elim
          (λ lt. absurd (before h lt (lh, subst (Member among) (sym there) n)))
          (λ gt. subst (Leads age (get_or order i 0)) there (t.falling i h 0 gt lh)))
          (cases_order h i)

      go : (b : Option ℕ) → age j ≡ b → Leads age (get_or order i 0) j
      go None e = absurd (none j (n, not_there j e))
      go (Some b) e = behind (t.whole j n.0 (ap is_some e))

pub longest_ago : (notices : List Notice) (policy : OldestUse) (among k : ℕ) → Since notices policy → FirstToGo (order_of policy) among (Some k) → LongestAgo notices among k
longest_ago ns policy among k heard first =
    ⊎_elim
    (λ lowest. record {
      member = lowest.0.0;
      sooner = λ j m apart. sooner ns k j (unused_goes (used_ago ns) (order_by ns) (tracks ns) among k lowest j m apart);
    })
    (λ oldest.
    let ahead : (j : ℕ) → Member among j → Other j k → Leads (used_ago ns) k j =
    subst (λ p. (j : ℕ) → Member among j → Other j p → Leads (used_ago ns) p j) oldest.1.2
    (oldest_goes (used_ago ns) (order_by ns) (tracks ns) among oldest.1.0 oldest.0 oldest.1.1) in
    record { member = subst (Member among) oldest.1.2 oldest.1.1.0.1; sooner = λ j m apart. sooner ns k j (ahead j m apart) })
    (subst (λ xs. FirstToGo xs among (Some k)) (heard_order heard) first)

-- a use of each place of an order, one after the other, makes the order
next_used : (xs : List ℕ) → IsOrder xs → (n : ℕ) → n < length xs → take (n + 1) xs ≡ order_after (Used (get_or xs n 0)) (take n xs)
next_used xs order n l =
    let k : ℕ = get_or xs n 0 in
    let new : All (λ j. Other j k) (take n xs) =
    All-from_get_or (λ j. Other j k) (take n xs) 0 (λ i il.
    let lt : i < n = omega (arith, length-take-le n xs (omega arith)) in
    λ e. order.apart i n 0 lt l (sym (get_or-take n xs i 0 lt) ∙ e)) in
    take_more xs n 0 l ∙ sym (cond-true (ltb k 16) (without k (take n xs) ++ k ∷ []) (take n xs) (lt-ltb k 16 (order.known n 0 l)) ∙ ap (λ ys. ys ++ k ∷ []) (without_absent k (take n xs) new))

-- so every policy has heard some notices
pub some_notices : (policy : OldestUse) → (notices : List Notice) × Since notices policy
some_notices policy = up_to (length order) (omega arith) policy (sym (take_all (length order) order (omega arith)))
  where
    order : List ℕ
    order = order_of policy

    -- a policy with the first n places of the order has heard some
    up_to : (n : ℕ) → n ≤ length order → (p : OldestUse) → order_of p ≡ take n order → (notices : List Notice) × Since notices p
    up_to zero le p e = ([], nothing e)
    up_to (suc n) le p e =
        let k : ℕ = get_or order n 0 in
        let one_less : OldestUse = record { order = record { items = take n order }; sound = IsOrder-take n order policy.sound } in
        let before = up_to n (omega arith) one_less refl in
        let used : order_of p ≡ order_after (Used k) (take n order) =
        e ∙ ap (λ m. take m order) (sym (add-one n)) ∙ next_used order policy.sound n (omega arith) in
        (Used k ∷ before.0, one_more (Used k) before.1 (record { order = used; ignored = λ far. absurd (omega (arith, policy.sound.known n 0 (omega arith))) }))

pub takes_longest_ago : (policy : OldestUse) (among : ℕ) (r : Option ℕ) → FirstToGo (order_of policy) among r → TakesLongestAgo policy among r
takes_longest_ago policy among None first = tt
takes_longest_ago policy among (Some k) first = (some_notices policy, λ notices since. longest_ago notices policy among k since first)
