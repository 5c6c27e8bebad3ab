-- What a seek costs.
use Rattle.std.proofs.Common.{◌≡◌, ℕ, ◌+◌, ◌-◌, ◌<◌, ◌≤◌, Option, Some, refl, sym, ap, ◌∙◌, arith, inl, inr}
use Rattle.std.specs.Option.{ForSome}
use Rattle.std.proofs.lemmas.Bool.{cases_lt}
use Rattle.sim_hist.specs.Kept.{more, IsSoughtIn}

-- a seek that settles nothing
pub none_sought : (cycles : ℕ) (cursor : Option ℕ) (t k j : ℕ) → IsSoughtIn cycles cursor t k k j j
none_sought cycles cursor t k j = record {
  sought = record {
    settled = 0;
    counted = refl;
    costs = record { beyond = λ past. refl; back = λ c e l. omega arith; ahead = λ c e l. omega arith };
  };
  steps = omega arith;
}

-- one that settles each cycle from one to that of the seek
pub some_sought : (cycles : ℕ) (cursor : Option ℕ) (t from before mid after steps_before steps_after : ℕ) → t < cycles → from ≤ t → mid ≡ before → after ≡ more (t + 1 - from) mid → steps_after ≡ steps_before + (t + 1 - from)
    → (cursor ≡ Some t → ⊥) → ForSome cursor (λ c. t < c → t + 1 - from ≤ 256) → ForSome cursor (λ c. c < t → t + 1 - from ≤ t - c) → IsSoughtIn cycles cursor t before after steps_before steps_after
some_sought cycles cursor t from before mid after steps_before steps_after inside order same counted steps differs back ahead = record {
  sought = record {
    settled = t + 1 - from;
    counted = counted ∙ ap (more (t + 1 - from)) same;
    costs = record {
      beyond = λ past. absurd (omega arith);
      back = back;
      ahead = λ c e l. elim (cases_lt c t) [ inl m ↦ ahead c e m | inr m ↦ absurd (differs (e ∙ ap Some (let s : c ≡ t = omega arith in s))) ];
    };
  };
  steps = steps;
}
