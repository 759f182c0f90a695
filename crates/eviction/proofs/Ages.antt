-- How long ago each place was used, computed from the notices, and that this is what the rule means by a last use.
use Rattle.std.proofs.Common.{◌≡◌, ℕ, zero, suc, ◌<◌, cond, eqb, List, [], ◌∷◌, get_or, Some, None, Option, sym, refl, ap, subst, inl, inr, arith}
use Rattle.std.proofs.lemmas.Bool.{cond_both, eqb-true, eqb-false}
use Rattle.eviction.specs.declared.notice.Notice.{Notice}
use Rattle.eviction.specs.declared.notice.Notice.TheVariants.{Used, Emptied}
use Rattle.eviction.specs.OldestUse.{LastUse, NotUsed, Sooner}
use Rattle.eviction.specs.Policy.{place_of}

-- one notice later
abbrev pub later : Option ℕ → Option ℕ
later None = None
later (Some n) = Some (suc n)

-- how many notices came after the last use of place k; none where it was not used since it was last emptied
abbrev pub used_ago : List Notice → ℕ → Option ℕ
used_ago [] k = None
used_ago (Used j ∷ ns) k = cond (eqb j k) (Some 0) (later (used_ago ns k))
used_ago (Emptied j ∷ ns) k = cond (eqb j k) None (later (used_ago ns k))

-- what such a number tells of place k
Tells : List Notice → ℕ → Option ℕ → Type 0
Tells ns k None = NotUsed ns k
Tells ns k (Some i) = LastUse ns k i

-- a notice of another place
Tells-later : (n : Notice) (ns : List Notice) (k : ℕ) → (place_of n ≡ k → ⊥) → (a : Option ℕ) → Tells ns k a → Tells (n ∷ ns) k (later a)
unfolding Tells
Tells-later n ns k apart None none = go
  where
    go : NotUsed (n ∷ ns) k
    go zero u = apart (ap place_of u.used)
    go (suc i) u = none i (record { there = omega (arith, u.there); used = u.used; last = λ h l. u.last (suc h) (omega arith) })
Tells-later n ns k apart (Some i) u = record { there = omega (arith, u.there); used = u.used; last = go }
  where
    go : (h : ℕ) → h < suc i → place_of (get_or (n ∷ ns) h (Emptied k)) ≡ k → ⊥
    go zero l = apart
    go (suc h) l = u.last h (omega arith)

tells_used : (ns : List Notice) (k : ℕ) → LastUse (Used k ∷ ns) k 0
tells_used ns k = record { there = omega arith; used = refl; last = λ h l. absurd (omega arith) }

tells_emptied : (ns : List Notice) (k : ℕ) → NotUsed (Emptied k ∷ ns) k
tells_emptied ns k zero u = let z : ◌≡◌ {A = ℕ} 0 1 = cc u.used in omega arith
tells_emptied ns k (suc i) u = u.last 0 (omega arith) refl

tells : (ns : List Notice) (k : ℕ) → Tells ns k (used_ago ns k)
unfolding Tells
tells [] k = λ i u. omega (arith, u.there)
tells (Used j ∷ ns) k =
    cond_both (eqb j k) (Some 0) (later (used_ago ns k)) (Tells (Used j ∷ ns) k)
    (λ t. subst (λ i. LastUse (Used i ∷ ns) k 0) (sym (eqb-true j k t)) (tells_used ns k))
    (λ t. Tells-later (Used j) ns k (eqb-false j k t) (used_ago ns k) (tells ns k))
tells (Emptied j ∷ ns) k =
    cond_both (eqb j k) None (later (used_ago ns k)) (Tells (Emptied j ∷ ns) k)
    (λ t. subst (λ i. NotUsed (Emptied i ∷ ns) k) (sym (eqb-true j k t)) (tells_emptied ns k))
    (λ t. Tells-later (Emptied j) ns k (eqb-false j k t) (used_ago ns k) (tells ns k))

-- which of two places goes sooner, by these numbers
abbrev pub Ahead : ℕ → Option ℕ → ℕ → Option ℕ → Type 0
Ahead k None j None = k < j
Ahead k None j (Some b) = Unit {0}
Ahead k (Some a) j None = ⊥
Ahead k (Some a) j (Some b) = b < a

pub sooner : (ns : List Notice) (k j : ℕ) → Ahead k (used_ago ns k) j (used_ago ns j) → Sooner ns k j
unfolding Tells
sooner ns k j ahead = go (used_ago ns k) (used_ago ns j) (tells ns k) (tells ns j) ahead
  where
    go : (a b : Option ℕ) → Tells ns k a → Tells ns j b → Ahead k a j b → Sooner ns k j
    go None None u v l = inl (u, v, l)
    go None (Some b) u v l = inr (inl (u, (b, v)))
    go (Some a) None u v l = absurd l
    go (Some a) (Some b) u v l = inr (inr (a, b, u, v, l))
