-- What a sweep of the clock's hand comes to: a member, and the one that second chance names.
use Rattle.std.proofs.Common.{◌≡◌, ℕ, ◌+◌, ◌<◌, ◌≤◌, Bool, true, false, List, length, get_or, set, sym, refl, ◌∙◌, subst, inl, inr, ⊎_elim, arith, length-set}
use Rattle.std.proofs.lemmas.List.{get_or-set_same, get_or-set_other}
use Rattle.std.proofs.lemmas.Bool.{cases_eq, both_ways}
use Rattle.eviction.specs.Clock.{next, way, Sweeps, takes, clears, passes, Before, First, Cleared, Unmarked, SecondChance}
use Rattle.eviction.specs.Places.{Member}

-- whatever the way, it ends at a member
pub sweeps_member : {among hand : ℕ} {marks : List Bool} {k : ℕ} {marks' : List Bool} → Sweeps among hand marks k marks' → Member among k
sweeps_member (takes m unmarked) = m
sweeps_member (clears hand m marked s) = sweeps_member s
sweeps_member (passes hand out s) = sweeps_member s

-- the way to another place is one longer than from the next place
one_more : (hand k : ℕ) → hand < 16 → k < 16 → (k ≡ hand → ⊥) → way hand k ≡ 1 + way (next hand) k
one_more hand k h l apart = omega (arith, apart)

-- from the next place, the way back is the longest
longest : (hand k : ℕ) → hand < 16 → k < 16 → way (next hand) k ≤ way (next hand) hand
longest hand k h l = omega arith

module _ (among hand : ℕ) (lt : hand < 16) where
  -- the hand passed what is no member
  after_pass : (marks : List Bool) (k : ℕ) (marks' : List Bool) → (Member among hand → ⊥) → SecondChance among (next hand) marks k marks' → SecondChance among hand marks k marks'
  after_pass marks k marks' out =
      ⊎_elim
      (λ s. inl (
        record { one = s.0.one; soonest = λ j u. omega (arith, further j u.0, further k s.0.one.0, s.0.soonest j u) },
        record {
          gone = λ j p. s.1.gone j (p.0, omega (arith, further j p.0, further k s.0.one.0, p.1));
          others = λ j no'. s.1.others j (λ p. no' (p.0, omega (arith, further j p.0, further k s.0.one.0, p.1)));
        },
      ))
      (λ s. inr (
        s.0,
        record { one = s.1.one; soonest = λ j m. omega (arith, further j m, further k s.1.one, s.1.soonest j m) },
        s.2,
      ))
    where
      further : (j : ℕ) → Member among j → way hand j ≡ 1 + way (next hand) j
      further j m = one_more hand j lt m.0 (λ e. out (subst (Member among) e m))

  -- the hand passed a member, whose mark it cleared
  module _ (marks : List Bool) (wide : length marks ≡ 16) (m : Member among hand) (marked : get_or marks hand false ≡ true) where
    here : get_or (set marks hand false) hand false ≡ false
    here = get_or-set_same marks hand false false (omega arith)

    elsewhere : (j : ℕ) → (j ≡ hand → ⊥) → get_or (set marks hand false) j false ≡ get_or marks j false
    elsewhere j apart = get_or-set_other marks hand j false false apart

    -- what has no mark is another place, and had none before
    other : (j : ℕ) → get_or marks j false ≡ false → j ≡ hand → ⊥
    other j u e = both_ways (get_or marks hand false) (subst (λ i. get_or marks i false ≡ false) e u) marked

    still : (j : ℕ) → Unmarked among marks j → Unmarked among (set marks hand false) j
    still j u = (u.0, elsewhere j (other j u.1) ∙ u.1)

    -- the hand came back: each member had a mark
    came_back : (k : ℕ) (marks' : List Bool) → k ≡ hand → First (next hand) (Unmarked among (set marks hand false)) k
        → Cleared (Before among (next hand) k) (set marks hand false) marks' → SecondChance among hand marks k marks'
    came_back k marks' e first cleared =
        inr (
          (λ j u. other j u.1 (omega (arith, first.soonest j (still j u), u.0.0))),
          record { one = first.one.0; soonest = λ j n. omega arith },
          record {
            gone = λ j n.
                ⊎_elim
                (λ s. subst (λ i. get_or marks' i false ≡ false) (sym s) (cleared.others hand (λ p. omega (arith, p.1)) ∙ here))
                (λ apart. cleared.gone j (n, omega (arith, n.0, apart)))
                (cases_eq j hand);
            others = λ j out. cleared.others j (λ p. out p.0) ∙ elsewhere j (λ s. out (subst (Member among) (sym s) m));
          },
        )

    -- the hand stopped before
    stopped : (k : ℕ) (marks' : List Bool) → (k ≡ hand → ⊥) → First (next hand) (Unmarked among (set marks hand false)) k
        → Cleared (Before among (next hand) k) (set marks hand false) marks' → SecondChance among hand marks k marks'
    stopped k marks' away first cleared =
        inl (
          record {
            one = (first.one.0, sym (elsewhere k away) ∙ first.one.1);
            soonest = λ j u. omega (arith, one_more hand j lt u.0.0 (other j u.1), far, first.soonest j (still j u));
          },
          record {
            gone = λ j p.
                ⊎_elim
                (λ s. subst (λ i. get_or marks' i false ≡ false) (sym s) (cleared.others hand (λ q. omega (arith, q.1, longest hand k lt first.one.0.0)) ∙ here))
                (λ apart. cleared.gone j (p.0, omega (arith, p.1, one_more hand j lt p.0.0 apart, far)))
                (cases_eq j hand);
            others = λ j out.
                let apart : j ≡ hand → ⊥ = λ s. out (subst (Before among hand k) (sym s) (m, omega (arith, far))) in
                cleared.others j (λ p. out (p.0, omega (arith, p.1, one_more hand j lt p.0.0 apart, far))) ∙ elsewhere j apart;
          },
        )
      where
        further : (j : ℕ) → j < 16 → (j ≡ hand → ⊥) → way hand j ≡ 1 + way (next hand) j
        further j l apart = one_more hand j lt l apart

        far : way hand k ≡ 1 + way (next hand) k
        far = one_more hand k lt first.one.0.0 away

    after_clear : (k : ℕ) (marks' : List Bool) → SecondChance among (next hand) (set marks hand false) k marks' → SecondChance among hand marks k marks'
    after_clear k marks' =
        ⊎_elim
        (λ s. ⊎_elim (λ e. came_back k marks' e s.0 s.1) (λ away. stopped k marks' away s.0 s.1) (cases_eq k hand))
        (λ s. absurd (s.0 hand (m, here)))

pub second_chance : {among hand : ℕ} {marks : List Bool} {k : ℕ} {marks' : List Bool}
    → hand < 16 → length marks ≡ 16 → Sweeps among hand marks k marks' → SecondChance among hand marks k marks'
second_chance lt wide (takes m unmarked) =
    inl (
      record { one = (m, unmarked); soonest = λ j u. omega arith },
      record { gone = λ j p. absurd (omega (arith, p.1)); others = λ j no'. refl },
    )
second_chance {among} {marks} {k} {marks'} lt wide (clears hand m marked s) =
    after_clear among hand lt marks wide m marked k marks' (second_chance (omega arith) (length-set marks hand false ∙ wide) s)
second_chance {among} {marks} {k} {marks'} lt wide (passes hand out s) =
    after_pass among hand lt marks k marks' out (second_chance (omega arith) wide s)
