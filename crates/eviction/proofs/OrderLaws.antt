-- Orders of places: what is left when one is taken out or put at the end, and that sixteen are the most.
use Rattle.std.proofs.Common.{◌≡◌, ℕ, zero, suc, ◌<◌, ◌≤◌, Bool, true, not, eqb, List, [], ◌∷◌, ◌++◌, length, get_or, Some, None, filter, take, sym, refl, ap, ◌∙◌, subst, arith}
use Rattle.std.specs.List.{All, AllPairs, Contains, list_any, position, position_or_len, remove}
use Rattle.std.proofs.lemmas.Bool.{cond-true, cond-false, cond_both, eq-eqb, ne_eqb, eqb-false, eqb-true, not-true, not_from_true, not_from_false}
use Rattle.std.proofs.lemmas.Bool.Decides.{Decides-eqb, Decides-by_or}
use Rattle.std.proofs.lemmas.List.{get_or_default, get_or-take, length-take, length_push}
use Rattle.std.proofs.lemmas.List.Elements.{All-contains, All-filter, All-head, All-push, All-tail, All-take, All-weaker, Contains-append_right, filter_passes}
use Rattle.std.proofs.lemmas.List.Kept.{AllPairs-filter}
use Rattle.std.proofs.lemmas.List.Quantifiers.{all_pairs_push, position-Some}
use Rattle.std.proofs.lemmas.List.Sums.{fails_before_first}
use Rattle.std.proofs.lemmas.Grind.{common_steps}
use Rattle.std.proofs.lemmas.Map.Made.{IsDistinct-from_AllPairs}
use Rattle.std.proofs.lemmas.Map.Steps.{length-le_from_distinct_below}
use Rattle.eviction.specs.Order.{IsOrder, without, Fresh, Lowest, MemberAt}
use Rattle.eviction.specs.Places.{Member, Empty}

-- a number that is not another
abbrev pub Other : ℕ → ℕ → Type 0
Other x y = x ≡ y → ⊥

-- what is not there leaves all as it is
pub without_absent : (k : ℕ) (xs : List ℕ) → All (λ j. Other j k) xs → without k xs ≡ xs
without_absent k [] a = refl
without_absent k (x ∷ xs) a =
    cond-true (not (eqb x k)) (x ∷ without k xs) (without k xs) (not_from_false (eqb x k) (ne_eqb x k (All-head (λ j. Other j k) x xs a)))
    ∙ ap (λ ys. x ∷ ys) (without_absent k xs (All-tail (λ j. Other j k) x xs a))

-- taking out the one place at which it stands
pub without_at : (k : ℕ) (xs : List ℕ) (i : ℕ) → AllPairs Other xs → i < length xs → get_or xs i k ≡ k → remove xs i ≡ without k xs
without_at k [] i p l at = absurd (omega arith)
without_at k (x ∷ xs) zero p l at =
    let others : All (λ j. Other j k) xs = λ i d l' e. p 0 (suc i) d (omega arith) (omega arith) (at ∙ sym e) in
    sym (cond-false (not (eqb x k)) (x ∷ without k xs) (without k xs) (not_from_true (eqb x k) (eq-eqb x k at)) ∙ without_absent k xs others)
without_at k (x ∷ xs) (suc i) p l at =
    let apart : Other x k = λ e. p 0 (suc i) k (omega arith) l (e ∙ sym at) in
    let rest = without_at k xs i (λ h j d lt l'. p (suc h) (suc j) d (omega arith) (omega arith)) (omega arith) at in
    ap (λ ys. x ∷ ys) rest
    ∙ sym (cond-true (not (eqb x k)) (x ∷ without k xs) (without k xs) (not_from_false (eqb x k) (ne_eqb x k apart)))

-- the same where a search finds the place, and what it leaves where it finds none
pub without_found : (k : ℕ) (xs : List ℕ) (i : ℕ) → AllPairs Other xs → position (λ j. eqb j k) xs ≡ Some i → (i < length xs) × (remove xs i ≡ without k xs)
without_found k xs i p e =
    let (l, at, _) = position-Some (λ j. eqb j k) xs i k e in
    (l, without_at k xs i p l (eqb-true (get_or xs i k) k at))

pub without_sought : (k : ℕ) (xs : List ℕ) → position (λ j. eqb j k) xs ≡ None → without k xs ≡ xs
without_sought k xs e =
    let all : length xs ≤ position_or_len (λ j. eqb j k) xs = grind (arith, common_steps) in
    without_absent k xs (λ i d l. eqb-false (get_or xs i d) k (fails_before_first (λ j. eqb j k) xs i d (omega arith)))

pub without_others : (k : ℕ) (xs : List ℕ) → All (λ j. Other j k) (without k xs)
without_others k xs =
    All-weaker (λ j. not (eqb j k) ≡ true) (λ j. Other j k) (λ j t. eqb-false j k (not-true (eqb j k) t)) (without k xs) (filter_passes (λ j. not (eqb j k)) xs)

pub without_lacks : (k : ℕ) (xs : List ℕ) → Contains (without k xs) k → ⊥
without_lacks k xs h = All-contains (λ j. Other j k) (without k xs) k (without_others k xs) h refl

Contains-filter : (p : ℕ → Bool) (xs : List ℕ) (k : ℕ) → p k ≡ true → Contains xs k → Contains (filter p xs) k
Contains-filter p [] k t (i, l, at) = absurd (omega arith)
Contains-filter p (x ∷ xs) k t (zero, l, at) =
    subst (λ ys. Contains ys k) (sym (cond-true (p x) (x ∷ filter p xs) (filter p xs) (subst (λ y. p y ≡ true) (sym at) t))) (0, omega arith, at)
Contains-filter p (x ∷ xs) k t (suc i, l, at) =
    let rest : Contains (filter p xs) k = Contains-filter p xs k t (i, omega arith, at) in
    cond_both (p x) (x ∷ filter p xs) (filter p xs) (λ ys. Contains ys k) (λ _. Contains-append_right (x ∷ []) (filter p xs) k rest) (λ _. rest)

pub Contains-without : (k j : ℕ) (xs : List ℕ) → Other k j → Contains xs k → Contains (without j xs) k
Contains-without k j xs apart h = Contains-filter (λ i. not (eqb i j)) xs k (not_from_false (eqb k j) (ne_eqb k j apart)) h

-- what is no place is not in a list of places
pub without_unknown : (k : ℕ) (xs : List ℕ) → 16 ≤ k → All (λ j. j < 16) xs → without k xs ≡ xs
without_unknown k xs far known = without_absent k xs (All-weaker (λ j. j < 16) (λ j. Other j k) (λ j l e. omega arith) xs known)

pub IsOrder-without : (k : ℕ) (xs : List ℕ) → IsOrder xs → IsOrder (without k xs)
IsOrder-without k xs order = record {
  known = All-filter (λ j. not (eqb j k)) (λ j. j < 16) xs order.known;
  apart = AllPairs-filter (λ i j. Other i j) (λ j. not (eqb j k)) xs order.apart;
}

pub IsOrder-push : (k : ℕ) (xs : List ℕ) → k < 16 → (Contains xs k → ⊥) → IsOrder xs → IsOrder (xs ++ k ∷ [])
IsOrder-push k xs lt absent order = record {
  known = All-push (λ j. j < 16) xs k order.known lt;
  apart = all_pairs_push (λ i j. Other i j) xs k order.apart (λ i d l e. absent (i, l, get_or_default xs i k d l ∙ e));
}

pub AllPairs-take : (R : ℕ → ℕ → Type 0) (n : ℕ) (xs : List ℕ) → AllPairs R xs → AllPairs R (take n xs)
AllPairs-take R n xs p i j d lt l =
    let inside : j < n = omega (arith, length-take n xs) in
    rw (get_or-take n xs i d (omega arith), get_or-take n xs j d inside) (p i j d lt (omega (arith, length-take n xs)))

pub IsOrder-take : (n : ℕ) (xs : List ℕ) → IsOrder xs → IsOrder (take n xs)
IsOrder-take n xs order = record { known = All-take (λ j. j < 16) n xs order.known; apart = AllPairs-take Other n xs order.apart }

-- an order has sixteen places at the most
pub length-le_from_IsOrder : (xs : List ℕ) → IsOrder xs → length xs ≤ 16
length-le_from_IsOrder xs order = length-le_from_distinct_below xs 16 (IsDistinct-from_AllPairs Decides-eqb xs order.apart) below
  where
    below : (q : ℕ) → list_any (eqb q) xs ≡ true → q < 16
    below q any =
        let (i, l, at) = (Decides-by_or (eqb q) (λ y. q ≡ y) (list_any (eqb q)) (Decides-eqb q) refl (λ _ _. refl) xs).0 any in
        subst (λ j. j < 16) (sym (at 0)) (order.known i 0 l)

-- an order that lacks a place has room for it
pub room : (k : ℕ) (xs : List ℕ) → k < 16 → (Contains xs k → ⊥) → IsOrder xs → length xs < 16
room k xs lt absent order = omega (arith, length_push xs k, length-le_from_IsOrder (xs ++ k ∷ []) (IsOrder-push k xs lt absent order))

-- where no member is outside the order and none is in it, there is none
pub no_member : (order : List ℕ) (among : ℕ) → Lowest (Fresh order among) None → Lowest (MemberAt order among) None → Empty among
no_member order among outside inside k m =
    outside k (m, λ h. inside h.0 (h.1, subst (Member among) (sym (get_or_default order h.0 0 k h.1 ∙ h.2)) m))
