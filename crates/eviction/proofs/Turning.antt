-- The clock's hand on its way: what is known after so many places, and that two circles are enough.
use Rattle.std.proofs.Common.{◌≡◌, ℕ, ◌+◌, ◌%◌, ◌<◌, Bool, true, false, List, length, get_or, set, sym, refl, ap, ◌∙◌, subst, ⊎_elim, arith}
use Rattle.std.proofs.lemmas.List.{get_or-set_same, get_or-set_other, set-get_or}
use Rattle.std.proofs.lemmas.Bool.{cases_eq, cases_lt, both_ways}
use Rattle.eviction.specs.Clock.{next, way, Sweeps, takes, clears, passes}
use Rattle.eviction.specs.Places.{Member, Empty}

-- The hand left place h and the marks ms, and after `step` places is at h' with the marks ms'. What it does from there on
-- is what it does from the start. Members that it passed have no mark, and in a second circle it passed no member.
pub record Turned (among h : ℕ) (ms : List Bool) (step h' : ℕ) (ms' : List Bool) : Type 0 where
  pub at : h' ≡ (h + step) % 16
  pub rest : (k : ℕ) (marks : List Bool) → Sweeps among h' ms' k marks → Sweeps among h ms k marks
  pub cleared : (d : ℕ) → d < step → Member among ((h + d) % 16) → get_or ms' ((h + d) % 16) false ≡ false
  pub none : (d : ℕ) → d + 16 < step → Member among ((h + d) % 16) → ⊥
  pub same : Empty among → ms' ≡ ms

-- before the first place; the check makes this step by itself
pub turned_none : (among h : ℕ) (ms : List Bool) → h < 16 → Turned among h ms 0 h ms
turned_none among h ms lt = record {
  at = omega arith;
  rest = λ k marks s. s;
  cleared = λ d l m. absurd (omega arith);
  none = λ d l m. omega arith;
  same = λ e. refl;
}

-- One place more: the hand leaves `place`, which is where it was, for h₂, and the marks are then ms₂.
module _ {among h : ℕ} {ms : List Bool} {step h' : ℕ} {ms' : List Bool} (t : Turned among h ms step h' ms') where
  -- the hand is `step` places from the start, and in a second circle also `step - 16`
  here : (d : ℕ) → d ≡ step → (h + d) % 16 ≡ h'
  here d e = omega (arith, t.at)

  again : (d : ℕ) → d + 16 ≡ step → (h + d) % 16 ≡ h'
  again d e = omega (arith, t.at)

  -- a member that is met in a second circle has no mark
  no_mark : (d : ℕ) → d + 16 ≡ step → Member among h' → get_or ms' h' false ≡ false
  no_mark d e m = subst (λ p. Member among p → get_or ms' p false ≡ false) (again d e) (t.cleared d (omega arith)) m

  passed : (Member among h' → ⊥) → Turned among h ms (step + 1) (next h') ms'
  passed out = record {
    at = omega (arith, t.at);
    rest = λ k marks s. t.rest k marks (passes h' out s);
    cleared = λ d l m.
        ⊎_elim (λ lt. t.cleared d lt m) (λ ge. absurd (out (subst (Member among) (here d (omega arith)) m))) (cases_lt d step);
    none = λ d l m.
        ⊎_elim (λ lt. t.none d lt m) (λ ge. out (subst (Member among) (again d (omega arith)) m)) (cases_lt (d + 16) step);
    same = t.same;
  }

  cleared_one : length ms' ≡ 16 → Member among h' → get_or ms' h' false ≡ true → Turned among h ms (step + 1) (next h') (set ms' h' false)
  cleared_one wide m marked = record {
    at = omega (arith, t.at);
    rest = λ k marks s. t.rest k marks (clears h' m marked s);
    cleared = λ d l n.
        ⊎_elim
        (λ e. ap (λ p. get_or (set ms' h' false) p false) e ∙ get_or-set_same ms' h' false false (omega (arith, m.0)))
        (λ apart. get_or-set_other ms' h' ((h + d) % 16) false false apart ∙ ⊎_elim (λ lt. t.cleared d lt n) (λ ge. absurd (apart (here d (omega arith)))) (cases_lt d step))
        (cases_eq ((h + d) % 16) h');
    none = λ d l n.
        ⊎_elim (λ lt. t.none d lt n) (λ ge. both_ways (get_or ms' h' false) (no_mark d (omega arith) m) marked) (cases_lt (d + 16) step);
    same = λ e. absurd (e h' m);
  }

  taken : Member among h' → get_or ms' h' false ≡ false → Sweeps among h ms h' (set ms' h' false)
  taken m unmarked =
      let e : set ms' h' false ≡ ms' = ap (set ms' h') (sym unmarked) ∙ set-get_or ms' h' false in
      t.rest h' (set ms' h' false) (subst (λ ws. Sweeps among h' ms' h' ws) (sym e) (takes m unmarked))

  module _ {place : ℕ} {ms₁ : List Bool} (there : place ≡ h') where
    pub turned_pass : {h₂ : ℕ} → ms₁ ≡ ms' → h₂ ≡ next h' → (Member among place → ⊥) → Turned among h ms (step + 1) h₂ ms₁
    turned_pass kept moved out = rw (kept, moved) (passed (rw there at out))

    pub turned_clear : {h₂ : ℕ} {ms₂ : List Bool} → ms₁ ≡ ms' → ms₂ ≡ set ms₁ place false → h₂ ≡ next h' → length ms' ≡ 16
        → Member among place → get_or ms₁ place false ≡ true → Turned among h ms (step + 1) h₂ ms₂
    turned_clear kept cleared moved wide m marked =
        rw (cleared, kept, there, moved) (cleared_one wide (rw there at m) (rw (kept, there) at marked))

    pub turned_take : {ms₂ : List Bool} → ms₁ ≡ ms' → ms₂ ≡ set ms₁ place false
        → Member among place → get_or ms₁ place false ≡ false → Sweeps among h ms place ms₂
    turned_take kept cleared m unmarked = rw (cleared, kept, there) (taken (rw there at m) (rw (kept, there) at unmarked))

-- after two circles there is no member
pub turned_all : {among h : ℕ} {ms : List Bool} {step h' : ℕ} {ms' : List Bool} → step ≡ 32 → h < 16 → Turned among h ms step h' ms' → Empty among × (h' ≡ h) × (ms' ≡ ms)
turned_all {among} {h} whole lt t = (empty, omega (arith, t.at), t.same empty)
  where
    empty : Empty among
    empty k m =
        let e : k ≡ (h + way h k) % 16 = omega (arith, m.0) in
        t.none (way h k) (omega arith) (subst (Member among) e m)
