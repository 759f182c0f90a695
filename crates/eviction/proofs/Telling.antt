-- Notices given one after the other, and the emptied places of a set told in turn.
use Rattle.std.proofs.Common.{◌≡◌, ℕ, ◌+◌, ◌/◌, ◌%◌, ◌^◌, ◌<◌, ◌⊎◌, List, [], ◌∷◌, ◌++◌, map, sym, refl, subst, inl, inr, ⊎_elim, arith}
use Rattle.std.specs.List.Sorted.{IsStrictlyIncreasing}
use Rattle.std.specs.List.{All, Contains}
use Rattle.std.proofs.lemmas.List.Elements.{All-push, All-weaker, Contains-append_left, Contains-push}
use Rattle.std.proofs.lemmas.List.{map_push}
use Rattle.std.proofs.lemmas.Bool.{cases_lt, cases_eq}
use Rattle.std.proofs.lemmas.Grind.{common_steps}
use Rattle.eviction.specs.declared.notice.Notice.{Notice}
use Rattle.eviction.specs.declared.notice.Notice.TheVariants.{Emptied}
use Rattle.eviction.specs.Places.{Member}
use Rattle.eviction.specs.Policy.{InTurn, ToldAll, ToldEmptied}

-- one notice more
pub told_push : {P : Type 0} (told : P → Notice → P → Type 0) (p m q : P) (ns : List Notice) (n : Notice)
    → ToldAll told p ns m → told m n q → ToldAll told p (ns ++ n ∷ []) q
told_push told p m q [] n e t = (q, subst (λ x. told x n q) e t, refl)
told_push told p m q (k ∷ ns) n (l, h, r) t = (l, h, told_push told l m q ns n r t)

-- one number more at the end of numbers that rise
IsStrictlyIncreasing-push : (ks : List ℕ) (n : ℕ) → IsStrictlyIncreasing ks → All (λ k. k < n) ks → IsStrictlyIncreasing (ks ++ n ∷ [])
IsStrictlyIncreasing-push ks n up below i l = grind (arith, common_steps, up i, below i 0)

-- the numbers below n of which P holds
abbrev pub Below : (ℕ → Type 0) → ℕ → ℕ → Type 0
Below P n k = P k × (k < n)

InTurn-like : (P Q : ℕ → Type 0) (ks : List ℕ) → ((k : ℕ) → P k → Q k) → ((k : ℕ) → Q k → P k) → InTurn P ks → InTurn Q ks
InTurn-like P Q ks to from t = record { rising = t.rising; each = All-weaker P Q to ks t.each; whole = λ k b. t.whole k (from k b) }

InTurn-push : (P : ℕ → Type 0) (n : ℕ) (ks : List ℕ) → P n → InTurn (Below P n) ks → InTurn (Below P (n + 1)) (ks ++ n ∷ [])
InTurn-push P n ks holds t = record {
  rising = IsStrictlyIncreasing-push ks n t.rising (All-weaker (Below P n) (λ k. k < n) (λ k b. b.1) ks t.each);
  each = All-push (Below P (n + 1)) ks n (All-weaker (Below P n) (Below P (n + 1)) (λ k b. (b.0, omega (arith, b.1))) ks t.each) (holds, omega arith);
  whole = λ k b.
      ⊎_elim (λ e. subst (Contains (ks ++ n ∷ [])) (sym e) (Contains-push ks n))
      (λ apart. Contains-append_left ks (n ∷ []) k (t.whole k (b.0, omega (arith, b.1, apart)))) (cases_eq k n);
}

pub member_or_not : (places k : ℕ) → Member places k ⊎ (Member places k → ⊥)
member_or_not places k =
    ⊎_elim
    (λ lt. ⊎_elim (λ e. inl (lt, e)) (λ no'. inr (λ m. no' m.1)) (cases_eq (places / 2 ^ k % 2) 1))
    (λ far. inr (λ m. omega (arith, m.0)))
    (cases_lt k 16)

-- A loop over the places from 0 on, which tells of those of which P holds.
module _ {T : Type 0} (told : T → Notice → T → Type 0) (P : ℕ → Type 0) (p : T) where
  -- before the first place; the check makes this step, and the last, by itself
  pub emptied_none : ToldEmptied told p (Below P 0) p
  emptied_none = ([], record { rising = λ k l. absurd (omega arith); each = λ i d l. absurd (omega arith); whole = λ k b. absurd (omega (arith, b.1)) }, refl)

  pub emptied_more : (n : ℕ) (m q : T) → P n → told m (Emptied n) q → ToldEmptied told p (Below P n) m → ToldEmptied told p (Below P (n + 1)) q
  emptied_more n m q holds t (ks, turn, all) = (
    ks ++ n ∷ [],
    InTurn-push P n ks holds turn,
    rw map_push (told_push told p m q (map Emptied ks) (Emptied n) all t),
  )

  pub emptied_skip : (n : ℕ) (q : T) → (P n → ⊥) → ToldEmptied told p (Below P n) q → ToldEmptied told p (Below P (n + 1)) q
  emptied_skip n q out (ks, turn, all) = (
    ks,
    InTurn-like (Below P n) (Below P (n + 1)) ks (λ k b. (b.0, omega (arith, b.1)))
        (λ k b. (b.0, ⊎_elim (λ e. absurd (out (subst P e b.0))) (λ apart. omega (arith, b.1, apart)) (cases_eq k n))) turn,
    all,
  )

  pub emptied_step : (n : ℕ) (m q : T) → P n ⊎ (P n → ⊥) → (P n → told m (Emptied n) q) → ((P n → ⊥) → q ≡ m)
      → ToldEmptied told p (Below P n) m → ToldEmptied told p (Below P (n + 1)) q
  emptied_step n m q either tells stays t =
      ⊎_elim (λ holds. emptied_more n m q holds (tells holds) t) (λ out. emptied_skip n q out (subst (ToldEmptied told p (Below P n)) (sym (stays out)) t)) either

  -- past the last place of which P holds, that is all of them
  pub emptied_all : (n : ℕ) (q : T) → ((k : ℕ) → P k → k < n) → ToldEmptied told p (Below P n) q → ToldEmptied told p P q
  emptied_all n q below (ks, turn, all) = (ks, InTurn-like (Below P n) P ks (λ k b. b.0) (λ k b. (b, below k b)) turn, all)
